-- A further place of a vector, and another stamp of one.
use Rattle.std.proofs.Common.{◌≡◌, ◌∙◌, ap, ℕ, ◌+◌, ◌==◌, Bool, true, false, cond, Some, is_some, if◌then◌else◌, refl, sym, eqb-true, arith}
use Rattle.std.specs.FinMap.{get, insert, get-insert, contains_key}
use Rattle.std.specs.Cmp.{eq_by_cmp_equiv}
use Rattle.std.proofs.lemmas.Bool.{eqb-false}
use Rattle.t3_undo.specs.Cell.{cell_cmp_total}
use Rattle.t3_undo.specs.Content.{Places, with_place}
use Rattle.t3_undo.specs.declared.cell.Cell.{Cell}
use Rattle.t3_undo.specs.declared.cell.Cell.TheVariants as cells
use Rattle.t3_undo.proofs.SlotLists.{same, placed-made}
use Rattle.t3_object_tests.specs.Places.{HasPlacesTo}

-- the stamp that a cell's place was given
pub own-stamp : (old : Places) (cell : Cell) (stamp : ℕ) → get (insert old cell stamp) cell ≡ Some stamp
own-stamp old cell stamp =
    get-insert cell_cmp_total old cell stamp cell
    ∙ ap (λ b. cond b (Some stamp) (get old cell)) ((eq_by_cmp_equiv cell_cmp_total).refl cell)

-- what has a place has one still, whatever stamp a cell is given
pub still-placed : (old : Places) (cell other : Cell) (stamp : ℕ) → contains_key old other ≡ true
    → contains_key (insert old cell stamp) other ≡ true
still-placed old cell other stamp there =
    ap is_some (get-insert cell_cmp_total old cell stamp other) ∙ by (same other cell)
  where
    by : (b : Bool) → is_some (cond b (Some stamp) (get old other)) ≡ true
    by true = refl
    by false = there

pub stamped-places : (old new : Places) (cell : Cell) (stamp count : ℕ) → HasPlacesTo old count → new ≡ insert old cell stamp
    → HasPlacesTo new count
stamped-places old new cell stamp count all is number least most =
    (λ i. contains_key (is i) (cells.Elem number)) ∙ still-placed old cell (cells.Elem number) stamp (all number least most)

-- a place more
pub more-places : (old new : Places) (count : ℕ) → HasPlacesTo old count → new ≡ with_place old (cells.Elem (count + 1))
    → HasPlacesTo new (count + 1)
more-places old new count all is number least most = by (number == count + 1) refl
  where
    made : (b : Bool) → contains_key old (cells.Elem number) ≡ true
        → contains_key (if b then old else insert old (cells.Elem (count + 1)) 0) (cells.Elem number) ≡ true
    made true there = there
    made false there = still-placed old (cells.Elem (count + 1)) (cells.Elem number) 0 there

    by : (b : Bool) → (number == count + 1) ≡ b → contains_key new (cells.Elem number) ≡ true
    by true e = placed-made old new (cells.Elem (count + 1)) (cells.Elem number) is (ap (λ n. cells.Elem n) (sym (eqb-true _ _ e)))
    by false e =
        let apart = eqb-false _ _ e in
        (λ i. contains_key (is i) (cells.Elem number))
        ∙ made (contains_key old (cells.Elem (count + 1))) (all number least (omega arith))
