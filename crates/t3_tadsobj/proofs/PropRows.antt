-- The present properties, as the code lists them by rising number.
use Rattle.std.proofs.Common.{◌≡◌, T, ◌∙◌, ap, sym, subst, refl, ℕ, Bool, true, false, cond, ◌&&◌, List, [], ◌∷◌, map, filter_map, Option, None, Some, nat_eq, true≢false}
use Rattle.std.specs.declared.cmp.Ordering.TheVariants.{Less}
use Rattle.std.specs.Ordering.{nat_cmp, eq_by_cmp, is_lt}
use Rattle.std.specs.Cmp.{nat_cmp_total, unsigned_tied, eq_by_cmp_equiv}
use Rattle.std.specs.Option.{option_map, option_and_then}
use Rattle.std.specs.Map.{keys_of}
use Rattle.std.specs.List.{IsDistinct, AllByRecursion}
use Rattle.std.specs.List.Sorted.{IsStrictlySortedBy}
use Rattle.std.specs.FinMap.{get, entries, entries_sorted, get-entries, nat_cmp-IsAntisymmetric}
use Rattle.std.specs.FinMap.Entries.{find, below_all, is_sorted, same_entries}
use Rattle.std.proofs.lemmas.Map.{lookup-none}
use Rattle.std.proofs.lemmas.Map.Entries.{none_past_head}
use Rattle.std.proofs.lemmas.Map.Keys.{IsDistinct-from_sorted}
use Rattle.t3_holder.specs.declared.holder.Holder.{Holder}
use Rattle.t3_undo.specs.Content.{shown}
use Rattle.t3_undo.specs.Present.{value_in}
use Rattle.t3_tadsobj.specs.Object.{props_of}
use Rattle.t3_tadsobj.specs.Inner.Entries.{content_of, content_at, value_at, parts_in, listed}
use Rattle.t3_undo.specs.StampedValue.{ValuePlace}
use Rattle.t3_tadsobj.proofs.PropLists.{get-props_of}
use Rattle.t3_tadsobj.proofs.EntryLists.{Entries, at, get-Prop}

-- the present properties with their values
abbrev pub rows : Entries → List (ℕ × Holder)
rows es = filter_map (λ e. option_map (λ value. (e.0, value)) e.1.value) es

pub pairs-listed : (es : Entries) → map (λ p. (p.number, p.value)) (listed es) ≡ rows es
pairs-listed [] = refl
pairs-listed (e ∷ es) = by e.1.value (pairs-listed es)
  where
    by : (o : Option Holder) → map (λ p. (p.number, p.value)) (listed es) ≡ rows es
        → map (λ p. (p.number, p.value)) (listed ((e.0, record { stamp = e.1.stamp; value = o }) ∷ es))
        ≡ rows ((e.0, record { stamp = e.1.stamp; value = o }) ∷ es)
    by None rest = rest
    by (Some value) rest = ap (λ xs. (e.0, value) ∷ xs) rest

pub numbers-listed : (es : Entries) → map (λ p. p.number) (listed es) ≡ keys_of (rows es)
numbers-listed [] = refl
numbers-listed (e ∷ es) = by e.1.value (numbers-listed es)
  where
    by : (o : Option Holder) → map (λ p. p.number) (listed es) ≡ keys_of (rows es)
        → map (λ p. p.number) (listed ((e.0, record { stamp = e.1.stamp; value = o }) ∷ es))
        ≡ keys_of (rows ((e.0, record { stamp = e.1.stamp; value = o }) ∷ es))
    by None rest = rest
    by (Some value) rest = ap (λ xs. e.0 ∷ xs) rest

value-cond : (b : Bool) (p : ValuePlace) (rest : Option ValuePlace) → value_at (cond b (Some p) rest) ≡ cond b p.value (value_at rest)
value-cond true p rest = refl
value-cond false p rest = refl

pub find-rows : (es : Entries) → IsDistinct (eq_by_cmp nat_cmp) (keys_of es) → (n : ℕ) → find nat_cmp n (rows es) ≡ value_at (at n es)
unfolding IsDistinct
find-rows [] apart n = refl
find-rows (e ∷ es) apart n = by e.1.value refl (find-rows es apart.1 n)
  where
    none : (o : Option Holder) → e.1.value ≡ None → find nat_cmp n (rows es) ≡ value_at (at n es)
        → (b : Bool) → eq_by_cmp nat_cmp n e.0 ≡ b → find nat_cmp n (rows es) ≡ cond b e.1.value (value_at (at n es))
    none o is rest true t =
        rest ∙ ap value_at (lookup-none _ es (none_past_head (eq_by_cmp_equiv nat_cmp_total) n e es apart t)) ∙ sym is
    none o is rest false t = rest

    by : (o : Option Holder) → e.1.value ≡ o → find nat_cmp n (rows es) ≡ value_at (at n es)
        → find nat_cmp n (rows ((e.0, record { stamp = e.1.stamp; value = o }) ∷ es))
        ≡ value_at (cond (eq_by_cmp nat_cmp n e.0) (Some e.1) (at n es))
    by None is rest =
        none None is rest (eq_by_cmp nat_cmp n e.0) refl ∙ sym (value-cond (eq_by_cmp nat_cmp n e.0) e.1 (at n es))
    by (Some value) is rest =
        ap (cond (eq_by_cmp nat_cmp n e.0) (Some value)) rest
        ∙ sym (value-cond (eq_by_cmp nat_cmp n e.0) e.1 (at n es) ∙ λ i. cond (eq_by_cmp nat_cmp n e.0) (is i) (value_at (at n es)))

below-rows : (k : ℕ) (es : Entries) → AllByRecursion (λ q. nat_cmp k q ≡ Less) (keys_of es)
    → AllByRecursion (λ q. nat_cmp k q ≡ Less) (keys_of (rows es))
below-rows k [] all = tt
below-rows k (e ∷ es) all = by e.1.value (below-rows k es all.1)
  where
    by : (o : Option Holder) → AllByRecursion (λ q. nat_cmp k q ≡ Less) (keys_of (rows es))
        → AllByRecursion (λ q. nat_cmp k q ≡ Less) (keys_of (rows ((e.0, record { stamp = e.1.stamp; value = o }) ∷ es)))
    by None rest = rest
    by (Some value) rest = (all.0, rest)

-- they rise as the entries do
pub rising-rows : (es : Entries) → IsStrictlySortedBy nat_cmp (keys_of es) → IsStrictlySortedBy nat_cmp (keys_of (rows es))
unfolding IsStrictlySortedBy
rising-rows [] rise = tt
rising-rows (e ∷ es) rise = by e.1.value (rising-rows es rise.1) (below-rows e.0 es rise.0)
  where
    by : (o : Option Holder) → IsStrictlySortedBy nat_cmp (keys_of (rows es))
        → AllByRecursion (λ q. nat_cmp e.0 q ≡ Less) (keys_of (rows es))
        → IsStrictlySortedBy nat_cmp (keys_of (rows ((e.0, record { stamp = e.1.stamp; value = o }) ∷ es)))
    by None rest below = rest
    by (Some value) rest below = (below, rest)

both : (a b : Bool) → a ≡ true → b ≡ true → (a && b) ≡ true
both true b s t = t
both false b s t = absurd (true≢false (sym s))

below : (k : ℕ) (xs : List (ℕ × Holder)) → AllByRecursion (λ q. nat_cmp k q ≡ Less) (keys_of xs) → below_all nat_cmp k xs ≡ true
below k [] all = refl
below k (x ∷ xs) all = both _ _ (ap is_lt all.0) (below k xs all.1)

sorted : (xs : List (ℕ × Holder)) → IsStrictlySortedBy nat_cmp (keys_of xs) → is_sorted nat_cmp xs ≡ true
unfolding IsStrictlySortedBy
sorted [] rise = refl
sorted (x ∷ xs) rise = both _ _ (below x.0 xs rise.0) (sorted xs rise.1)

from_true : (b : Bool) → b ≡ true → T b
from_true true t = tt
from_true false t = absurd (true≢false (sym t))

shown-value : (o : Option ValuePlace) → option_and_then value_in (shown (content_at o)) ≡ value_at o
shown-value None = refl
shown-value (Some p) = by p.value
  where
    by : (o : Option Holder) → option_and_then value_in (shown (content_of o)) ≡ o
    by None = refl
    by (Some value) = refl

-- a property of the parts
pub get-prop : (es : Entries) (n : ℕ) → get (props_of (parts_in es)) n ≡ value_at (at n es)
get-prop es n =
    get-props_of (parts_in es) n ∙ ap (option_and_then value_in) (get-Prop es n) ∙ shown-value (at n es)

-- they are the properties of the parts
pub rows-props : (es : Entries) → IsStrictlySortedBy nat_cmp (keys_of es) → rows es ≡ entries (props_of (parts_in es))
rows-props es rise =
    same_entries nat_cmp nat_cmp_total nat_cmp-IsAntisymmetric (rows es) (entries (props_of (parts_in es)))
    (from_true _ (sorted (rows es) (rising-rows es rise)))
    (entries_sorted (props_of (parts_in es)))
    (λ n. find-rows es (IsDistinct-from_sorted nat_cmp (keys_of es) rise) n
    ∙ sym (sym (get-entries (props_of (parts_in es)) n) ∙ get-prop es n))

-- numbers that rise are distinct
pub distinct : (numbers : List ℕ) → IsStrictlySortedBy nat_cmp numbers → IsDistinct nat_eq numbers
distinct numbers rise = subst (λ e. IsDistinct e numbers) (λ i x y. unsigned_tied x y i) (IsDistinct-from_sorted nat_cmp numbers rise)
