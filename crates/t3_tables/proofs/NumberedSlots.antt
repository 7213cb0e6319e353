-- Slots for entries with the ticks 1, 2 and so on. Other crates may use these.
use Rattle.std.proofs.Common.{◌≡◌, ◌∙◌, ap, sym, subst, refl, ℕ, suc, false, ◌||◌, List, [], ◌∷◌, ◌++◌, map, length}
use Rattle.std.specs.Cmp.{eq_by_cmp_equiv}
use Rattle.std.specs.List.{AllByRecursion, IsDistinct, list_any}
use Rattle.std.specs.Map.{keys_of}
use Rattle.t3_undo.specs.Cell.{cell_cmp_total}
use Rattle.t3_undo.specs.declared.key.Key.{Key}
use Rattle.t3_undo.specs.declared.cell.Cell.{Cell}
use Rattle.t3_undo.specs.declared.cell.Cell.TheVariants as cells
use Rattle.t3_undo.specs.declared.place.Place.{Place}
use Rattle.t3_undo.proofs.SlotLists.{same}
use Rattle.t3_tables.specs.declared.pair.Pair.{Pair}
use Rattle.t3_tables.specs.Table.{numbered}
use Rattle.t3_tables.proofs.OrderedEntries.{same_key}

-- none of the cells before one of distinct cells is the same
new-among : (slots : List (Cell × Place)) (cell : Cell) (place : Place) (rest : List (Cell × Place))
    → IsDistinct same (keys_of (slots ++ (cell, place) ∷ rest)) → list_any (same cell) (keys_of slots) ≡ false
unfolding IsDistinct
new-among [] cell place rest apart = refl
new-among (slot ∷ slots) cell place rest apart =
    ap (λ b. b || list_any (same cell) (keys_of slots)) ((eq_by_cmp_equiv cell_cmp_total).symm cell slot.0 ∙ reach slots apart.0)
    ∙ new-among slots cell place rest apart.1
  where
    reach : (slots : List (Cell × Place)) → AllByRecursion (λ c. same slot.0 c ≡ false) (keys_of (slots ++ (cell, place) ∷ rest))
        → same slot.0 cell ≡ false
    reach [] all = all.0
    reach (s ∷ slots) all = reach slots all.1

pub new-next : (slots all : List (Cell × Place)) (cell : Cell) (place : Place) (rest : List (Cell × Place))
    → slots ++ (cell, place) ∷ rest ≡ all → IsDistinct same (keys_of all) → list_any (same cell) (keys_of slots) ≡ false
new-next slots all cell place rest e apart =
    let P : List (Cell × Place) → Type 0 = λ s. IsDistinct same (keys_of s) in
    new-among slots cell place rest (subst P (sym e) apart)

apart-numbered : (tick : ℕ) (key : Key) (pairs : List Pair) → AllByRecursion (λ l. same_key key l ≡ false) (map (λ pair. pair.key) pairs)
    → AllByRecursion (λ cell. same (cells.Key key) cell ≡ false) (keys_of (numbered tick pairs))
apart-numbered tick key [] all = tt
apart-numbered tick key (pair ∷ pairs) all = (all.0, apart-numbered (suc tick) key pairs all.1)

-- distinct keys are distinct cells
pub distinct-numbered : (tick : ℕ) (pairs : List Pair) → IsDistinct same_key (map (λ pair. pair.key) pairs)
    → IsDistinct same (keys_of (numbered tick pairs))
unfolding IsDistinct
distinct-numbered tick [] apart = tt
distinct-numbered tick (pair ∷ pairs) apart =
    (apart-numbered (suc tick) pair.key pairs apart.0, distinct-numbered (suc tick) pairs apart.1)

pub length-numbered : (tick : ℕ) (pairs : List Pair) → length (numbered tick pairs) ≡ length pairs
length-numbered tick [] = refl
length-numbered tick (pair ∷ pairs) = ap (λ n. suc n) (length-numbered (suc tick) pairs)
