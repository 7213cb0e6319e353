-- What a clone of a tads-object is made of.
use Rattle.std.proofs.Common.{◌≡◌, ℕ, List, [], ◌∷◌, Bool, true, false, cond, not, ◌||◌, Option, Some, None, IsSome, is_some, Ok, map, refl, sym, ap, ◌∙◌}
use Rattle.std.proofs.lemmas.Bool.{true≢false, not-false}
use Rattle.std.specs.List.{list_any}
use Rattle.std.specs.Prelude.{option_and_then}
use Rattle.std.specs.Cmp.{nat_cmp_total}
use Rattle.std.specs.Ordering.{nat_cmp}
use Rattle.std.specs.FinMap.{get, entries, from_entries, get-from_entries, get-entries, same_map, nat_cmp-IsAntisymmetric}
use Rattle.std.proofs.lemmas.Option.{same_Some, none-some}
use Rattle.t3_tadsobj.specs.declared.props.PropValue.{PropValue}
use Rattle.t3_store.specs.Value.{Value, Tads, Text, Items, Vector, Table, supers_of, is_class_at, props_at, HasFittingLength}
use Rattle.t3_tadsobj.specs.Props.{PropMap, pair_of}
use Rattle.t3_store.specs.Store.{StoreValue, either}
use Rattle.t3_store.specs.Whole.{AreThere, HasSupersIn, supers_in}
use Rattle.t3_ops.specs.declared.fault.Fault.{Fault}
use Rattle.t3_ops.specs.declared.fault.Fault.TheVariants.{Stale, TransientSuper}
use Rattle.t3_kinds.specs.TadsMethods.{is_no_tads, is_transient, supers_fault, unless_fault, clone_value}

again : (props : PropMap) → from_entries {R = nat_cmp} (entries props) ≡ props
again props =
    same_map nat_cmp_total nat_cmp-IsAntisymmetric (from_entries (entries props)) props
    (λ number. get-from_entries nat_cmp_total (entries props) number ∙ sym (get-entries props number))

-- an object with the superclasses, the class flag and the properties of another one is that one
pub same-object : (o : Option Value) (supers : List ℕ) (class : Bool) (props : List PropValue) → option_and_then supers_of o ≡ Some supers
    → class ≡ is_class_at o → map pair_of props ≡ entries (props_at o)
    → Some (Tads supers class (from_entries (map pair_of props))) ≡ o
same-object None supers class props are flag have = absurd (none-some supers are)
same-object (Some (Tads s c p)) supers class props are flag have =
    let map_is : from_entries {R = nat_cmp} (map pair_of props) ≡ p = ap from_entries have ∙ again p in
    let same = sym (same_Some s supers are) in
    (λ i. Some (Tads (same i) (flag i) (map_is i)))
same-object (Some (Text bytes)) supers class props are flag have = absurd (none-some supers are)
same-object (Some (Items items)) supers class props are flag have = absurd (none-some supers are)
same-object (Some (Vector items)) supers class props are flag have = absurd (none-some supers are)
same-object (Some (Table pairs default)) supers class props are flag have = absurd (none-some supers are)

-- ---- superclasses that a persistent object may have

none-false : {A : Type 0} (a b : Bool) (x y : A) → cond {A = Option A} a (Some x) (cond b (Some y) None) ≡ None → (a ≡ false) × (b ≡ false)
none-false true b x y is = absurd (none-some x (sym is))
none-false false true x y is = absurd (none-some y (sym is))
none-false false false x y is = (refl, refl)

either-false : (a b : Bool) → (a || b) ≡ false → (a ≡ false) × (b ≡ false)
either-false true b is = absurd (true≢false is)
either-false false b is = (refl, is)

persistent-super : (s : StoreValue) (number : ℕ) → is_no_tads s number ≡ false → is_transient s number ≡ false
    → IsSome (supers_in s.persistent number)
persistent-super s number tads passing = by (get s.persistent number) refl (get s.transient number) refl
  where
    by : (p : Option Value) → get s.persistent number ≡ p → (t : Option Value) → get s.transient number ≡ t → IsSome (option_and_then supers_of p)
    by (Some value) there t other =
        not-false (is_some (option_and_then supers_of (Some value)))
        (ap (λ o. not (is_some (option_and_then supers_of (either o (get s.transient number))))) (sym there) ∙ tads)
    by None there (Some value) other = absurd (true≢false (ap is_some (sym other) ∙ passing))
    by None there None other =
        absurd (true≢false ((λ i. not (is_some (option_and_then supers_of (either (sym there i) (sym other i))))) ∙ tads))

are-there : (s : StoreValue) (supers : List ℕ) → list_any (is_no_tads s) supers ≡ false → list_any (is_transient s) supers ≡ false
    → AreThere (supers_in s.persistent) supers
are-there s [] tads passing = tt
are-there s (number ∷ supers) tads passing =
    let here = either-false (is_no_tads s number) (list_any (is_no_tads s) supers) tads in
    let stays = either-false (is_transient s number) (list_any (is_transient s) supers) passing in
    (persistent-super s number here.0 stays.0, are-there s supers here.1 stays.1)

-- the value of a clone, which a store can make
pub clone-is : (s : StoreValue) (fault : Fault) (o : Option Value) (supers : List ℕ) (value : Value) → option_and_then supers_of o ≡ Some supers
    → supers_fault s supers ≡ None → Some value ≡ o → clone_value s fault o ≡ Ok value
clone-is s fault None supers value are fine is = absurd (none-some supers are)
clone-is s fault (Some (Tads own class props)) supers value are fine is =
    let same : own ≡ supers = same_Some own supers are in
    ap (λ f. unless_fault f (Tads own class props)) (ap (supers_fault s) same ∙ fine) ∙ ap Ok (sym (same_Some value (Tads own class props) is))
clone-is s fault (Some (Text bytes)) supers value are fine is = absurd (none-some supers are)
clone-is s fault (Some (Items items)) supers value are fine is = absurd (none-some supers are)
clone-is s fault (Some (Vector items)) supers value are fine is = absurd (none-some supers are)
clone-is s fault (Some (Table pairs default)) supers value are fine is = absurd (none-some supers are)

pub clone-can : (s : StoreValue) (value : Value) (supers : List ℕ) → supers_of value ≡ Some supers → supers_fault s supers ≡ None
    → HasSupersIn (supers_in s.persistent) value × HasFittingLength value
clone-can s (Tads own class props) supers are fine =
    let same : own ≡ supers = same_Some own supers are in
    let both = none-false (list_any (is_no_tads s) own) (list_any (is_transient s) own) Stale TransientSuper (ap (supers_fault s) same ∙ fine) in
    (are-there s own both.0 both.1, tt)
clone-can s (Text bytes) supers are fine = absurd (none-some supers are)
clone-can s (Items items) supers are fine = absurd (none-some supers are)
clone-can s (Vector items) supers are fine = absurd (none-some supers are)
clone-can s (Table pairs default) supers are fine = absurd (none-some supers are)
