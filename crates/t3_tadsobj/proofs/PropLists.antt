-- The properties that parts have. Other crates may use these.
use Rattle.std.proofs.Common.{◌≡◌, ◌∙◌, ap, sym, refl, ℕ, Bool, true, false, cond, T, List, [], ◌∷◌, filter_map, Option, None, Some}
use Rattle.std.specs.declared.cmp.Ordering.{Ordering}
use Rattle.std.specs.declared.cmp.Ordering.TheVariants.{Less, Equal, Greater}
use Rattle.std.specs.Ordering.{nat_cmp, eq_by_cmp, is_eq, ordering_then}
use Rattle.std.specs.Option.{option_and_then}
use Rattle.std.specs.Cmp.{nat_cmp_total, Equal-is}
use Rattle.std.specs.FinMap.{FinMap, get, insert, entries, entries_sorted, same_map, get-insert, get-from_entries, get-entries, nat_cmp-IsAntisymmetric}
use Rattle.std.specs.FinMap.Entries.{find, below_all, is_sorted, find_tied}
use Rattle.t3_holder.specs.declared.holder.Holder.{Holder}
use Rattle.t3_undo.specs.Cell.{cell_cmp, cell_cmp_total}
use Rattle.t3_undo.specs.Content.{Parts}
use Rattle.t3_undo.specs.Present.{Present, value_in}
use Rattle.t3_undo.specs.Present as presents
use Rattle.t3_undo.specs.Objects.{set_at}
use Rattle.t3_undo.specs.declared.cell.Cell.{Cell}
use Rattle.t3_undo.specs.declared.cell.Cell.TheVariants as cells
use Rattle.t3_undo.proofs.Maps.{get-set_at, first, second, find-below}
use Rattle.t3_tadsobj.specs.Object.{prop_in, props_of}

abbrev Entries : Type 0
Entries = List (Cell × Present)

abbrev gathered : Entries → List (ℕ × Holder)
gathered es = filter_map (λ e. prop_in e.0 e.1) es

then-Equal : (r : Ordering) → is_eq (ordering_then r Equal) ≡ is_eq r
then-Equal Less = refl
then-Equal Equal = refl
then-Equal Greater = refl

-- two properties are the same cell where their numbers are the same
pub same-Prop : (n k : ℕ) → eq_by_cmp cell_cmp (cells.Prop n) (cells.Prop k) ≡ eq_by_cmp nat_cmp n k
same-Prop n k = then-Equal (nat_cmp n k)

value-cond : (b : Bool) (tick : Option ℕ) (value : Holder) (o : Option Present)
    → option_and_then value_in (cond b (Some (presents.Value tick value)) o) ≡ cond b (Some value) (option_and_then value_in o)
value-cond true tick value o = refl
value-cond false tick value o = refl

-- what is first among sorted entries, and isn't a value, isn't found behind it either
passed : (n k : ℕ) (p : Present) (es : Entries) → T (below_all cell_cmp (cells.Prop k) es) → value_in p ≡ None
    → option_and_then value_in (find cell_cmp (cells.Prop n) es)
    ≡ option_and_then value_in (cond (eq_by_cmp cell_cmp (cells.Prop n) (cells.Prop k)) (Some p) (find cell_cmp (cells.Prop n) es))
passed n k p es below none = by (eq_by_cmp cell_cmp (cells.Prop n) (cells.Prop k)) refl
  where
    by : (b : Bool) → eq_by_cmp cell_cmp (cells.Prop n) (cells.Prop k) ≡ b → option_and_then value_in (find cell_cmp (cells.Prop n) es)
        ≡ option_and_then value_in (cond b (Some p) (find cell_cmp (cells.Prop n) es))
    by true e =
        ap (option_and_then value_in) (sym (find_tied cell_cmp cell_cmp_total (cells.Prop n) (cells.Prop k)
        ((Equal-is (cell_cmp (cells.Prop n) (cells.Prop k))).0 e) es) ∙ find-below cell_cmp (cells.Prop k) es below)
        ∙ sym none
    by false e = refl

find-gathered : (n : ℕ) (es : Entries) → T (is_sorted cell_cmp es) → find nat_cmp n (gathered es)
    ≡ option_and_then value_in (find cell_cmp (cells.Prop n) es)
find-gathered n [] sorted = refl
find-gathered n ((cells.Prop k, presents.Value tick value) ∷ es) sorted =
    (let rest = find-gathered n es (second (below_all cell_cmp (cells.Prop k) es) (is_sorted cell_cmp es) sorted) in
    λ i. cond (sym (same-Prop n k) i) (Some value) (rest i))
    ∙ sym (value-cond (eq_by_cmp cell_cmp (cells.Prop n) (cells.Prop k)) tick value (find cell_cmp (cells.Prop n) es))
find-gathered n ((cells.Prop k, presents.Supers supers) ∷ es) sorted =
    find-gathered n es (second (below_all cell_cmp (cells.Prop k) es) (is_sorted cell_cmp es) sorted)
    ∙ passed n k (presents.Supers supers) es (first (below_all cell_cmp (cells.Prop k) es) (is_sorted cell_cmp es) sorted) refl
find-gathered n ((cells.Elem k, p) ∷ es) sorted =
    find-gathered n es (second (below_all cell_cmp (cells.Elem k) es) (is_sorted cell_cmp es) sorted)
find-gathered n ((cells.Key k, p) ∷ es) sorted =
    find-gathered n es (second (below_all cell_cmp (cells.Key k) es) (is_sorted cell_cmp es) sorted)
find-gathered n ((cells.Default, p) ∷ es) sorted =
    find-gathered n es (second (below_all cell_cmp cells.Default es) (is_sorted cell_cmp es) sorted)

-- a property has the value that stands in its cell
pub get-props_of : (parts : Parts) (n : ℕ) → get (props_of parts) n ≡ option_and_then value_in (get parts (cells.Prop n))
unfolding props_of
get-props_of parts n =
    get-from_entries nat_cmp_total (gathered (entries parts)) n ∙ find-gathered n (entries parts) (entries_sorted parts)
    ∙ ap (option_and_then value_in) (sym (get-entries parts (cells.Prop n)))

-- parts are known to have the same properties by what stands in these
same_props : (parts : Parts) (props : FinMap nat_cmp Holder)
    → ((n : ℕ) → option_and_then value_in (get parts (cells.Prop n)) ≡ get props n) → props_of parts ≡ props
same_props parts props alike = same_map nat_cmp_total nat_cmp-IsAntisymmetric _ _ (λ n. get-props_of parts n ∙ alike n)

-- a property set among others
pub props_of-set : (parts : Parts) (k : ℕ) (tick : Option ℕ) (value : Holder)
    → props_of (set_at parts (cells.Prop k) (Some (presents.Value tick value))) ≡ insert (props_of parts) k value
props_of-set parts k tick value =
    same_props _ _ (λ n.
    ap (option_and_then value_in) (get-set_at cell_cmp_total parts (cells.Prop k) (Some (presents.Value tick value)) (cells.Prop n))
    ∙ value-cond (eq_by_cmp cell_cmp (cells.Prop n) (cells.Prop k)) tick value (get parts (cells.Prop n))
    ∙ (let e = sym (get-props_of parts n) in λ i. cond (same-Prop n k i) (Some value) (e i))
    ∙ sym (get-insert nat_cmp_total (props_of parts) k value n))
