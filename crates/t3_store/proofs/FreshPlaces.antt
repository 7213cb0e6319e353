-- That each place of an object is that of a present cell, and has stamp 0.
use Rattle.std.proofs.Common.{◌≡◌, ◌∙◌, ap, sym, refl, ℕ, zero, suc, ◌+◌, Bool, true, false, cond, if◌then◌else◌, List, [], length, None, Some, IsSome, is_some, true≢false, arith}
use Rattle.std.specs.Ordering.{nat_cmp, eq_by_cmp}
use Rattle.std.specs.FinMap.{empty, get, get-empty, insert, get-insert, contains_key, same_map}
use Rattle.t3_undo.specs.Present as presents
use Rattle.t3_undo.specs.Cell.{cell_cmp, cell_cmp_total, cell_cmp-IsAntisymmetric}
use Rattle.t3_undo.specs.Content.{Parts, shown, with_place, places_for}
use Rattle.t3_undo.specs.Present.{Present}
use Rattle.t3_undo.specs.Objects.{set_at}
use Rattle.t3_undo.specs.declared.cell.Cell.{Cell}
use Rattle.t3_undo.specs.declared.cell.Cell.TheVariants as cells
use Rattle.t3_undo.proofs.Maps.{get-set_at}
use Rattle.t3_undo.proofs.SlotLists.{zero_if, get-places_for, insert-own}
use Rattle.t3_holder.specs.declared.holder.Holder.{Holder}
use Rattle.t3_lists.specs.Vector as vectors
use Rattle.t3_lists.specs.Inner.Elements.{content_in, index_of}
use Rattle.t3_undo.specs.StampedValue.{ValuePlace}
use Rattle.t3_lists.proofs.ElementLists.{get-parts}
use Rattle.t3_lists.proofs.Items.{filled-push}
use Rattle.t3_tables.specs.Table as tables
use Rattle.t3_tables.specs.Table.{new_table}
use Rattle.t3_store.specs.Inner.Shapes.{IsWithElement}
use Rattle.t3_store.specs.Inner.Bounded.{HaveFreshPlaces}

-- where nothing is present
pub places-none : places_for empty ≡ empty
places-none =
    same_map cell_cmp_total cell_cmp-IsAntisymmetric _ _
    (λ d. get-places_for empty d ∙ ap (λ o. zero_if (is_some o)) (get-empty cell_cmp d) ∙ sym (get-empty cell_cmp d))

-- a cell is set, which then has a place
pub places-set : (parts : Parts) (c : Cell) (v : Present) → insert (places_for parts) c 0 ≡ places_for (set_at parts c (Some v))
places-set parts c v =
    same_map cell_cmp_total cell_cmp-IsAntisymmetric _ _
    (λ d. get-insert cell_cmp_total (places_for parts) c 0 d ∙ by d (eq_by_cmp cell_cmp d c)
    ∙ sym (get-places_for (set_at parts c (Some v)) d
    ∙ ap (λ o. zero_if (is_some o)) (get-set_at cell_cmp_total parts c (Some v) d)))
  where
    by : (d : Cell) (b : Bool) → cond b (Some 0) (get (places_for parts) d) ≡ zero_if (is_some (cond b (Some v) (get parts d)))
    by d true = refl
    by d false = get-places_for parts d

zero-there : (parts : Parts) (c : Cell) → is_some (get (places_for parts) c) ≡ true → get (places_for parts) c ≡ Some 0
zero-there parts c some = get-places_for parts c ∙ by (is_some (get parts c)) (ap is_some (sym (get-places_for parts c)) ∙ some)
  where
    by : (b : Bool) → is_some (zero_if b) ≡ true → zero_if b ≡ Some 0
    by true some = refl
    by false some = absurd (true≢false (sym some))

place-zero : (parts : Parts) (c : Cell) → with_place (places_for parts) c ≡ insert (places_for parts) c 0
place-zero parts c = by (contains_key (places_for parts) c) refl
  where
    by : (b : Bool) → contains_key (places_for parts) c ≡ b
        → (if b then places_for parts else insert (places_for parts) c 0) ≡ insert (places_for parts) c 0
    by true e = sym (insert-own (places_for parts) c 0 (zero-there parts c e))
    by false e = refl

-- or a place was made for it, if it had none
pub placed-set : (parts : Parts) (c : Cell) (v : Present) → with_place (places_for parts) c ≡ places_for (set_at parts c (Some v))
placed-set parts c v = place-zero parts c ∙ places-set parts c v

-- or it was present
pub kept-set : (parts : Parts) (c : Cell) (v : Present) → IsSome (get parts c) → places_for parts ≡ places_for (set_at parts c (Some v))
kept-set parts c v some =
    sym (insert-own (places_for parts) c 0 (get-places_for parts c ∙ ap zero_if some)) ∙ places-set parts c v

-- a table without entries
pub places-table : tables.places_of new_table ≡ places_for (tables.parts_of new_table)
places-table = (λ i. insert (sym places-none i) cells.Default 0) ∙ places-set empty cells.Default _

-- a vector with an element more
pub places-element : (old new : List ValuePlace) (items : List Holder) (count : ℕ) (value : Holder) → vectors.places_of old ≡ places_for (vectors.parts_of old)
    → vectors.parts_of old ≡ vectors.filled items → length items ≡ count → IsWithElement (vectors.parts_of old) (vectors.parts_of new) count value
    → vectors.places_of new ≡ with_place (vectors.places_of old) (cells.Elem (count + 1))
    → vectors.places_of new ≡ places_for (vectors.parts_of new)
places-element old new items count value all are size element placed =
    let number : count + 1 ≡ 1 + length items = omega (arith, size) in
    placed ∙ (λ i. with_place ((all ∙ ap places_for are) i) (cells.Elem (number i)))
    ∙ placed-set (vectors.filled items) (cells.Elem (1 + length items)) (presents.Value None value)
    ∙ sym (ap places_for (element items are size ∙ filled-push items value))

-- and one without elements
pub places-vector : vectors.places_of [] ≡ places_for (vectors.parts_of [])
unfolding vectors.places_from
places-vector =
    sym (same_map cell_cmp_total cell_cmp-IsAntisymmetric _ _
    (λ d. get-places_for (vectors.parts_of []) d ∙ ap (λ o. zero_if (is_some o)) (get-parts [] d ∙ nothing d) ∙ sym (get-empty cell_cmp d)))
  where
    nothing : (d : Cell) → shown (content_in [] (index_of d)) ≡ None
    nothing (cells.Elem zero) = refl
    nothing (cells.Elem (suc n)) = refl
    nothing (cells.Prop n) = refl
    nothing (cells.Key key) = refl
    nothing cells.Default = refl

-- where there is no object
pub no-empty-none : HaveFreshPlaces (record { objects = empty; places = empty; ticks = empty })
no-empty-none number own e = absurd (true≢false (ap is_some (sym e ∙ get-empty nat_cmp number)))
