-- What a change of a tads-object's parts does to its properties. Other crates may use these.
use Rattle.std.proofs.Common.{◌≡◌, ◌∙◌, ap, sym, refl, ℕ, zero, suc, ◌+◌, ◌-◌, ◌<◌, Bool, true, false, cond, ◌&&◌, subst, Option, None, Some, IsTrue, IsSome, is_some, true≢false, arith}
use Rattle.std.specs.Ordering.{nat_cmp, eq_by_cmp}
use Rattle.std.specs.Option.{option_and_then}
use Rattle.std.specs.Cmp.{nat_cmp_total}
use Rattle.std.specs.FinMap.{get, remove, len, len-insert, len-remove, empty_of_len, get-empty, get-remove, same_map, nat_cmp-IsAntisymmetric}
use Rattle.t3_holder.specs.declared.holder.Holder.{Holder}
use Rattle.t3_undo.specs.Cell.{cell_cmp, cell_cmp_total}
use Rattle.t3_undo.specs.Content.{Parts, is_form}
use Rattle.t3_undo.specs.Present.{Present, value_in}
use Rattle.t3_undo.specs.Present as presents
use Rattle.t3_undo.specs.Objects.{set_at}
use Rattle.t3_undo.specs.declared.cell.Cell.{Cell}
use Rattle.t3_undo.specs.declared.cell.Cell.TheVariants as cells
use Rattle.t3_undo.proofs.Maps.{get-set_at}
use Rattle.t3_undo.proofs.PresentForms.{value-formed}
use Rattle.t3_undo.proofs.PuttingBack.{and-first, and-second}
use Rattle.t3_tadsobj.specs.Object.{is_prop, props_of}
use Rattle.t3_tadsobj.proofs.PropLists.{get-props_of, props_of-set, same-Prop}
use Rattle.t3_undo.proofs.SlotLists.{same-is}
use Rattle.t3_tadsobj.specs.Props.{AreProps, PropMap, prop_at, with_prop, without_prop}

-- what is present is a property with a value, also once one is set or taken away
pub is-prop : (parts : Parts) (cell : Cell) → AreProps parts → IsSome (get parts cell) → IsTrue (is_prop cell)
is-prop parts cell are some = by (get parts cell) refl some
  where
    by : (o : Option Present) → get parts cell ≡ o → IsSome o → IsTrue (is_prop cell)
    by None e some = absurd (true≢false (sym some))
    by (Some p) e some = and-first (is_prop cell) (is_form cell (Some p)) (are cell p e)

pub prop-valued : (parts : Parts) (cell : Cell) → AreProps parts → is_some (option_and_then value_in (get parts cell)) ≡ is_some (get parts cell)
prop-valued parts cell are = by (get parts cell) refl
  where
    by : (o : Option Present) → get parts cell ≡ o → is_some (option_and_then value_in o) ≡ is_some o
    by None e = refl
    by (Some p) e = value-formed cell (Some p) (and-second (is_prop cell) (is_form cell (Some p)) (are cell p e))

-- what stands in a cell of a tads-object is its property
pub found-prop : (parts : Parts) (cell : Cell) → AreProps parts → option_and_then value_in (get parts cell) ≡ prop_at cell (props_of parts)
found-prop parts cell are = by cell (get parts cell) refl
  where
    by : (cell : Cell) (o : Option Present) → get parts cell ≡ o → option_and_then value_in o ≡ prop_at cell (props_of parts)
    by (cells.Prop n) o e = ap (option_and_then value_in) (sym e) ∙ sym (get-props_of parts n)
    by (cells.Elem n) None e = refl
    by (cells.Elem n) (Some p) e = absurd (true≢false (sym (are (cells.Elem n) p e)))
    by (cells.Key k) None e = refl
    by (cells.Key k) (Some p) e = absurd (true≢false (sym (are (cells.Key k) p e)))
    by cells.Default None e = refl
    by cells.Default (Some p) e = absurd (true≢false (sym (are cells.Default p e)))

pub props-set : (parts : Parts) (cell : Cell) (o : Option Present) → AreProps parts → IsTrue (is_prop cell) → IsTrue (is_form cell o)
    → AreProps (set_at parts cell o)
props-set parts cell o are can form q present e =
    by (eq_by_cmp cell_cmp q cell) refl (sym (get-set_at cell_cmp_total parts cell o q) ∙ e)
  where
    by : (b : Bool) → eq_by_cmp cell_cmp q cell ≡ b → cond b o (get parts q) ≡ Some present → IsTrue (is_prop q && is_form q (Some present))
    by true t e =
        let P : Cell → Type 0 = λ d. IsTrue (is_prop d && is_form d (Some present)) in
        let Q : Option Present → Type 0 = λ p. IsTrue (is_form cell p) in
        subst P (sym (same-is q cell t)) (ap (λ b. b && is_form cell (Some present)) can ∙ subst Q e form)
    by false t e = are q present e

-- a property set
pub props_of-with : (parts : Parts) (cell : Cell) (value : Holder) → IsTrue (is_prop cell)
    → props_of (set_at parts cell (Some (presents.Value None value))) ≡ with_prop cell value (props_of parts)
props_of-with parts (cells.Prop n) value can = props_of-set parts n None value
props_of-with parts (cells.Elem n) value can = absurd (true≢false (sym can))
props_of-with parts (cells.Key k) value can = absurd (true≢false (sym can))
props_of-with parts cells.Default value can = absurd (true≢false (sym can))

value-none : (b : Bool) (o : Option Present)
    → option_and_then value_in (cond b None o) ≡ cond b None (option_and_then value_in o)
value-none true o = refl
value-none false o = refl

props_of-less : (parts : Parts) (n : ℕ) → props_of (set_at parts (cells.Prop n) None) ≡ remove (props_of parts) n
props_of-less parts n =
    same_map nat_cmp_total nat_cmp-IsAntisymmetric _ _ (λ q.
    get-props_of (set_at parts (cells.Prop n) None) q
    ∙ ap (option_and_then value_in) (get-set_at cell_cmp_total parts (cells.Prop n) None (cells.Prop q))
    ∙ value-none (eq_by_cmp cell_cmp (cells.Prop q) (cells.Prop n)) (get parts (cells.Prop q))
    ∙ (let back = sym (get-props_of parts q) in λ i. cond (same-Prop q n i) None (back i))
    ∙ sym (get-remove nat_cmp_total (props_of parts) n q))

-- a property taken away
pub props_of-without : (parts : Parts) (cell : Cell) → IsTrue (is_prop cell)
    → props_of (set_at parts cell None) ≡ without_prop cell (props_of parts)
props_of-without parts (cells.Prop n) can = props_of-less parts n
props_of-without parts (cells.Elem n) can = absurd (true≢false (sym can))
props_of-without parts (cells.Key k) can = absurd (true≢false (sym can))
props_of-without parts cells.Default can = absurd (true≢false (sym can))

more : (b : Bool) (a n : ℕ) → a + cond b n (n + 1) ≡ cond b (a + n) (a + n + 1)
more true a n = refl
more false a n = omega arith

-- how many properties there are then
pub len-with : (supers : ℕ) (props : PropMap) (cell : Cell) (holder : Holder) → IsTrue (is_prop cell)
    → supers + len (with_prop cell holder props) ≡ cond (is_some (prop_at cell props)) (supers + len props) (supers + len props + 1)
len-with supers props (cells.Prop n) holder can =
    ap (λ k. supers + k) (len-insert nat_cmp_total props n holder) ∙ more (is_some (get props n)) supers (len props)
len-with supers props (cells.Elem n) holder can = absurd (true≢false (sym can))
len-with supers props (cells.Key k) holder can = absurd (true≢false (sym can))
len-with supers props cells.Default holder can = absurd (true≢false (sym can))

filled : (props : PropMap) (n : ℕ) → IsSome (get props n) → 0 < len props
filled props n some = by (len props) refl
  where
    by : (k : ℕ) → len props ≡ k → 0 < len props
    by zero e =
        absurd (true≢false (sym some ∙ ap (λ m. is_some (get m n)) (empty_of_len props e) ∙ ap is_some (get-empty nat_cmp n)))
    by (suc k) e = omega arith

pub len-without : (props : PropMap) (cell : Cell) → IsSome (prop_at cell props) → len (without_prop cell props) + 1 ≡ len props
len-without props (cells.Prop n) some =
    let less : len (remove props n) ≡ len props - 1 = len-remove nat_cmp_total props n ∙ ap (λ b. cond b (len props - 1) (len props)) some in
    let one : 0 < len props = filled props n some in
    omega (arith, less, one)
len-without props (cells.Elem n) some = absurd (true≢false (sym some))
len-without props (cells.Key k) some = absurd (true≢false (sym some))
len-without props cells.Default some = absurd (true≢false (sym some))

-- a property that is there is one
pub present-prop : (props : PropMap) (cell : Cell) → IsSome (prop_at cell props) → IsTrue (is_prop cell)
present-prop props (cells.Prop n) some = refl
present-prop props (cells.Elem n) some = absurd (true≢false (sym some))
present-prop props (cells.Key k) some = absurd (true≢false (sym some))
present-prop props cells.Default some = absurd (true≢false (sym some))
