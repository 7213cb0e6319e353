-- The present slots of slots, and a copy, which has them with stamps 0. Other crates may use these.
use Rattle.std.proofs.Common.{◌≡◌, ◌∙◌, ap, sym, subst, refl, ℕ, zero, suc, ◌+◌, Bool, true, false, cond, ◌||◌, [], ◌∷◌, ◌++◌, map, filter, take, slice_get, option_map, Option, None, Some, IsTrue, is_some, true≢false}
use Rattle.std.specs.List.{list_any, IsDistinct}
use Rattle.std.specs.Map.{keys_of, lookup}
use Rattle.std.specs.FinMap.{get, same_map}
use Rattle.std.proofs.lemmas.List.Elements.{filter-append}
use Rattle.std.proofs.lemmas.List.{map-append}
use Rattle.t3_undo.specs.Cell.{cell_cmp_total, cell_cmp-IsAntisymmetric}
use Rattle.t3_undo.specs.Content.{shown, is_form, places_for}
use Rattle.t3_undo.specs.Slots.{parts_of, places_of, unstamped, is_present, AreFormed}
use Rattle.t3_undo.specs.declared.cell.Cell.{Cell}
use Rattle.t3_undo.specs.declared.content.Content.{Content}
use Rattle.t3_undo.specs.declared.content.Content.TheVariants.{Absent, Held, Slot}
use Rattle.t3_undo.specs.declared.place.Place.{Place}
use Rattle.t3_undo.proofs.SlotLists.{zero_if, get-places_for, Entries, same, same-is, seen, stamped, get-parts_of, get-places_of, same_parts, lookup-none, none_after, apart-at, take-at}

-- the present slots alone
none-filter : (slots : Entries) (cell : Cell) → lookup (same cell) slots ≡ None → lookup (same cell) (filter is_present slots) ≡ None
none-filter [] cell e = refl
none-filter (slot ∷ slots) cell e = by (none-filter slots cell) (same cell slot.0) refl e (is_present slot) refl
  where
    by : (lookup (same cell) slots ≡ None → lookup (same cell) (filter is_present slots) ≡ None) → (b : Bool) → same cell slot.0 ≡ b
        → cond b (Some slot.1) (lookup (same cell) slots) ≡ None
        → (p : Bool) → is_present slot ≡ p → lookup (same cell) (cond p (slot ∷ filter is_present slots) (filter is_present slots)) ≡ None
    by rest true t e p there = cc
    by rest false t e true there = ap (λ b. cond b (Some slot.1) (lookup (same cell) (filter is_present slots))) t ∙ rest e
    by rest false t e false there = rest e

not_there : (content : Content) → is_some (shown content) ≡ false → shown content ≡ None
not_there Absent e = refl
not_there (Held value) e = absurd (true≢false e)
not_there (Slot tick value) e = absurd (true≢false e)

seen-filter : (slots : Entries) → IsDistinct same (keys_of slots) → (cell : Cell) → seen (lookup (same cell) (filter is_present slots))
    ≡ seen (lookup (same cell) slots)
unfolding IsDistinct
seen-filter [] apart cell = refl
seen-filter (slot ∷ slots) apart cell = by (seen-filter slots apart.1 cell) (is_present slot) refl (same cell slot.0) refl
  where
    by : seen (lookup (same cell) (filter is_present slots)) ≡ seen (lookup (same cell) slots) → (p : Bool) → is_present slot ≡ p
        → (b : Bool) → same cell slot.0 ≡ b
        → seen (lookup (same cell) (cond p (slot ∷ filter is_present slots) (filter is_present slots)))
        ≡ seen (cond b (Some slot.1) (lookup (same cell) slots))
    by rest true there true t = ap (λ b. seen (cond b (Some slot.1) (lookup (same cell) (filter is_present slots)))) t
    by rest true there false t = ap (λ b. seen (cond b (Some slot.1) (lookup (same cell) (filter is_present slots)))) t ∙ rest
    by rest false there true t =
        let P : Cell → Type 0 = λ c. lookup (same c) slots ≡ None in
        let none : lookup (same cell) slots
        ≡ None = subst P (sym (same-is cell slot.0 t)) (lookup-none slots slot.0 (none_after same slot.0 (keys_of slots) apart.0))
        in
        ap seen (none-filter slots cell none) ∙ sym (not_there slot.1.content there)
    by rest false there false t = rest

pub parts_of-filter : (slots : Entries) → IsDistinct same (keys_of slots) → parts_of (filter is_present slots) ≡ parts_of slots
parts_of-filter slots apart = same_parts _ slots (seen-filter slots apart)

-- each cell among the present slots shows something
present-shows : (slots : Entries) (cell : Cell) → is_some (lookup (same cell) (filter is_present slots))
    ≡ is_some (seen (lookup (same cell) (filter is_present slots)))
present-shows [] cell = refl
present-shows (slot ∷ slots) cell = by (present-shows slots cell) (is_present slot) refl
  where
    found : is_some (lookup (same cell) (filter is_present slots)) ≡ is_some (seen (lookup (same cell) (filter is_present slots)))
        → (b : Bool) → is_present slot ≡ true → is_some (cond b (Some slot.1) (lookup (same cell) (filter is_present slots)))
        ≡ is_some (seen (cond b (Some slot.1) (lookup (same cell) (filter is_present slots))))
    found rest true there = sym there
    found rest false there = rest

    by : is_some (lookup (same cell) (filter is_present slots)) ≡ is_some (seen (lookup (same cell) (filter is_present slots)))
        → (p : Bool) → is_present slot ≡ p
        → is_some (lookup (same cell) (cond p (slot ∷ filter is_present slots) (filter is_present slots)))
        ≡ is_some (seen (lookup (same cell) (cond p (slot ∷ filter is_present slots) (filter is_present slots))))
    by rest true there = found rest (same cell slot.0) there
    by rest false there = rest

-- a copy's slots, whose stamps are 0
abbrev pub afresh : Entries → Entries
afresh slots = map (λ slot. (slot.0, unstamped slot.1.content)) slots

lookup-afresh : (slots : Entries) (cell : Cell) → lookup (same cell) (afresh slots)
    ≡ option_map (λ place. unstamped place.content) (lookup (same cell) slots)
lookup-afresh [] cell = refl
lookup-afresh (slot ∷ slots) cell = by (lookup-afresh slots cell) (same cell slot.0)
  where
    by : lookup (same cell) (afresh slots) ≡ option_map (λ place. unstamped place.content) (lookup (same cell) slots)
        → (b : Bool) → cond b (Some (unstamped slot.1.content)) (lookup (same cell) (afresh slots))
        ≡ option_map (λ place. unstamped place.content) (cond b (Some slot.1) (lookup (same cell) slots))
    by rest true = refl
    by rest false = rest

seen-afresh : (o : Option Place) → seen (option_map (λ place. unstamped place.content) o) ≡ seen o
seen-afresh None = refl
seen-afresh (Some place) = refl

pub parts_of-afresh : (slots : Entries) → parts_of (afresh slots) ≡ parts_of slots
parts_of-afresh slots = same_parts (afresh slots) slots (λ q. ap seen (lookup-afresh slots q) ∙ seen-afresh (lookup (same q) slots))

pub keys_of-afresh : (slots : Entries) → keys_of (afresh slots) ≡ keys_of slots
keys_of-afresh [] = refl
keys_of-afresh (slot ∷ slots) = ap (λ ks. slot.0 ∷ ks) (keys_of-afresh slots)

stamped-afresh : (o : Option Place) → stamped (option_map (λ place. unstamped place.content) o) ≡ zero_if (is_some o)
stamped-afresh None = refl
stamped-afresh (Some place) = refl

pub places_of-filter : (slots : Entries) → IsDistinct same (keys_of slots) → places_of (afresh (filter is_present slots))
    ≡ places_for (parts_of slots)
places_of-filter slots apart =
    same_map cell_cmp_total cell_cmp-IsAntisymmetric _ _ (λ q.
    get-places_of (afresh (filter is_present slots)) q
    ∙ ap stamped (lookup-afresh (filter is_present slots) q)
    ∙ stamped-afresh (lookup (same q) (filter is_present slots))
    ∙ ap zero_if (present-shows slots q
    ∙ ap is_some (sym (get-parts_of (filter is_present slots) q) ∙ ap (λ m. get m q) (parts_of-filter slots apart)))
    ∙ sym (get-places_for (parts_of slots) q))

-- a slot that stands at an index
pub formed-at : (slots : Entries) (i : ℕ) (slot : Cell × Place) → AreFormed slots → slice_get slots i ≡ Some slot
    → IsTrue (is_form slot.0 (shown slot.1.content))
formed-at [] i slot all e = cc
formed-at (first ∷ slots) zero slot all e =
    let is : first ≡ slot = cc in
    let P : Cell × Place → Type 0 = λ s. IsTrue (is_form s.0 (shown s.1.content)) in
    subst P is all.0
formed-at (first ∷ slots) (suc i) slot all e = formed-at slots i slot all.1 e

-- its cell is none of those before it, of which a copy has the present ones
pub new-at : (slots : Entries) (i : ℕ) (slot : Cell × Place) → IsDistinct same (keys_of slots) → slice_get slots i ≡ Some slot
    → list_any (same slot.0) (keys_of (filter is_present (take i slots))) ≡ false
unfolding IsDistinct
new-at [] i slot apart e = cc
new-at (first ∷ slots) zero slot apart e = refl
new-at (first ∷ slots) (suc i) slot apart e = by (new-at slots i slot apart.1 e) (is_present first)
  where
    by : list_any (same slot.0) (keys_of (filter is_present (take i slots))) ≡ false
        → (b : Bool) → list_any (same slot.0)
        (keys_of (cond b (first ∷ filter is_present (take i slots)) (filter is_present (take i slots)))) ≡ false
    by rest true = ap (λ b. b || list_any (same slot.0) (keys_of (filter is_present (take i slots))))
        (apart-at first.0 slots i slot apart.0 e) ∙ rest
    by rest false = rest

-- the present slots up to behind it
pub filter-at : (slots : Entries) (i : ℕ) (slot : Cell × Place) → slice_get slots i ≡ Some slot
    → filter is_present (take (i + 1) slots) ≡ filter is_present (take i slots) ++ filter is_present (slot ∷ [])
filter-at slots i slot e = ap (filter is_present) (take-at slots i slot e) ∙ filter-append is_present (take i slots) (slot ∷ [])

pub afresh-at : (slots : Entries) (i : ℕ) (slot : Cell × Place) → slice_get slots i ≡ Some slot
    → afresh (filter is_present (take (i + 1) slots))
    ≡ afresh (filter is_present (take i slots)) ++ filter is_present ((slot.0, unstamped slot.1.content) ∷ [])
afresh-at slots i slot e =
    ap afresh (filter-at slots i slot e)
    ∙ map-append (λ s. (s.0, unstamped s.1.content)) (filter is_present (take i slots)) (filter is_present (slot ∷ []))
    ∙ ap (λ xs. afresh (filter is_present (take i slots)) ++ xs) (by (is_some (shown slot.1.content)))
  where
    by : (b : Bool) → afresh (cond b (slot ∷ []) []) ≡ cond b ((slot.0, unstamped slot.1.content) ∷ []) []
    by true = refl
    by false = refl
