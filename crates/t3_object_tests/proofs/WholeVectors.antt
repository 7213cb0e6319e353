-- A vector whose present elements are the first ones.
use Rattle.std.proofs.Common.{◌≡◌, ◌∙◌, ap, sym, refl, ℕ, zero, suc, ◌+◌, ◌<◌, true, true≢false, List, [], ◌∷◌, length, map, slice_get, Option, None, Some, is_some, arith}
use Rattle.std.specs.FinMap.{get, same_map}
use Rattle.t3_holder.specs.declared.holder.Holder.{Holder}
use Rattle.t3_undo.specs.Cell.{cell_cmp_total, cell_cmp-IsAntisymmetric}
use Rattle.t3_undo.specs.Content.{shown}
use Rattle.t3_undo.specs.Present.{Present}
use Rattle.t3_undo.specs.declared.cell.Cell.TheVariants as cells
use Rattle.t3_lists.specs.Vector.{values_of, parts_of, items_of, IsWhole}
use Rattle.t3_lists.specs.Inner.Elements.{index_of, content_found, content_in}
use Rattle.t3_undo.specs.StampedValue.{ValuePlace}
use Rattle.t3_lists.proofs.ElementLists.{get-parts}
use Rattle.t3_lists.proofs.Items.{values, items-parts}

abbrev Elements : Type 0
Elements = List (Option Holder)

-- what is shown at an index
abbrev at : Elements → ℕ → Option Present
at elements index = shown (content_found (slice_get elements index))

-- where none is present, nothing is shown
nothing : (elements : Elements) → values elements ≡ [] → (index : ℕ) → at elements index ≡ None
nothing [] none index = refl
nothing (None ∷ elements) none zero = refl
nothing (None ∷ elements) none (suc index) = nothing elements none index
nothing (Some value ∷ elements) none index = absurd cc

-- where the first ones are present, the same is shown as by the present ones alone
first-ones : (elements : Elements) → ((index : ℕ) → index < length (values elements) → is_some (at elements index) ≡ true)
    → (index : ℕ) → at elements index ≡ at (map (λ item. Some item) (values elements)) index
first-ones [] all index = refl
first-ones (Some value ∷ elements) all zero = refl
first-ones (Some value ∷ elements) all (suc index) = first-ones elements (λ k less. all (suc k) (omega arith)) index
first-ones (None ∷ elements) all index = by (values elements) refl
  where
    by : (items : List Holder) → values elements ≡ items → at (None ∷ elements) index ≡ at (map (λ item. Some item) (values elements)) index
    by [] none = nothing (None ∷ elements) none index ∙ ap (λ (xs : List Holder). at (map (λ item. Some item) xs) index) (sym none)
    by (item ∷ items) some = absurd (true≢false (sym (all zero (let more = ap length some in omega (arith, more)))))

-- as many elements as are present, each of them present
pub first-whole : (vector : List ValuePlace)
    → ((index : ℕ) → index < length (items_of (parts_of vector)) → is_some (get (parts_of vector) (cells.Elem (index + 1))) ≡ true)
    → IsWhole (parts_of vector)
first-whole vector all = (
  values elements,
  same_map cell_cmp_total cell_cmp-IsAntisymmetric _ _ (λ cell.
      get-parts elements cell ∙ by (index_of cell) ∙ sym (get-parts (map (λ item. Some item) (values elements)) cell)),
)
  where
    elements : Elements
    elements = values_of vector

    present : (index : ℕ) → index < length (values elements) → is_some (at elements index) ≡ true
    present index less =
        let next : index + 1 ≡ suc index = omega arith in
        let many = ap length (items-parts elements) in
        ap is_some (sym (get-parts elements (cells.Elem (suc index))))
        ∙ ap (λ n. is_some (get (parts_of vector) (cells.Elem n))) (sym next) ∙ all index (omega (arith, many, less))

    by : (index : Option ℕ) → shown (content_in elements index) ≡ shown (content_in (map (λ item. Some item) (values elements)) index)
    by None = refl
    by (Some index) = first-ones elements present index
