-- States of one object, which can be saved.
use Rattle.std.proofs.Common.{◌≡◌, ℕ, ◌<◌, ◌≤◌, ◌^◌, Bool, true, false, cond, List, [], ◌∷◌, Option, Some, None, refl, sym, ap, subst, ◌∙◌, arith}
use Rattle.std.specs.Prelude.{option_and_then}
use Rattle.std.specs.Cmp.{nat_cmp_total, Equal-is}
use Rattle.std.specs.FinMap.{get, insert, empty, get-insert, get-empty, len-empty, nat_cmp-IsAntisymmetric}
use Rattle.std.specs.Ordering.{eq_by_cmp, nat_cmp}
use Rattle.std.specs.List.{AllByRecursion}
use Rattle.t3_holder.specs.declared.holder.Holder.{Holder}
use Rattle.t3_holder.specs.declared.holder.Holder.TheVariants as holders
use Rattle.t3_store.specs.Value.{Value, Objects, Items, supers_of, units_of}
use Rattle.t3_store.proofs.Added.{added_len, added_units, none_units}
use Rattle.t3_store.proofs.WholeStarted.{none-whole}
use Rattle.t3_snapshot.specs.Layout.{IsSpellable}
use Rattle.t3_snapshot.specs.State.{named_as_keys}
use Rattle.t3_snapshot.specs.Savable.{IsHeldKey, IsSavable}

none_there : (q : ℕ) (value : Value) → get {R = nat_cmp} empty q ≡ Some value → ⊥
none_there q value e = let both : ◌≡◌ {A = Option Value} None (Some value) = sym (get-empty nat_cmp q) ∙ e in cc

-- no objects
pub none_savable : (top : ℕ) (objects : Objects) → objects ≡ empty → top ≤ 2 ^ 31 → IsSavable top objects
none_savable top objects is le = subst (IsSavable top) (sym is) (record {
  next = le;
  numbers = λ q value e. absurd (none_there q value e);
  spellable = λ q value e. absurd (none_there q value e);
  keys = λ q value e. absurd (none_there q value e);
  whole = none-whole _ (λ q. ap (option_and_then supers_of) (get-empty nat_cmp q));
  few = omega (arith, len-empty nat_cmp Value);
  few_units = omega (arith, none_units);
})

-- what is found is the one object
the_one : (n q : ℕ) (v value : Value) → get (insert {R = nat_cmp} empty n v) q ≡ Some value → (q ≡ n) × (v ≡ value)
the_one n q v value e = by (eq_by_cmp nat_cmp q n) refl (sym (get-insert nat_cmp_total empty n v q) ∙ e)
  where
    by : (b : Bool) → eq_by_cmp nat_cmp q n ≡ b → cond b (Some v) (get {R = nat_cmp} empty q) ≡ Some value → (q ≡ n) × (v ≡ value)
    by true is e = (nat_cmp-IsAntisymmetric q n ((Equal-is (nat_cmp q n)).0 is), cc)
    by false is e = absurd (none_there q value e)

no_supers : (n q : ℕ) (v : Value) → supers_of v ≡ None → option_and_then supers_of (get (insert {R = nat_cmp} empty n v) q) ≡ None
no_supers n q v none =
    ap (option_and_then supers_of) (get-insert nat_cmp_total empty n v q ∙ ap (cond (eq_by_cmp nat_cmp q n) (Some v)) (get-empty nat_cmp q))
    ∙ by (eq_by_cmp nat_cmp q n)
  where
    by : (b : Bool) → option_and_then supers_of (cond b (Some v) None) ≡ None
    by true = none
    by false = refl

-- one object that isn't a tads-object
pub one_savable : (top : ℕ) (objects : Objects) (n : ℕ) (v : Value) → objects ≡ insert empty n v → top ≤ 2 ^ 31 → 0 < n → n < top → IsSpellable v
    → supers_of v ≡ None → AllByRecursion (IsHeldKey top (insert empty n v)) (named_as_keys v) → units_of v ≤ 4194304 → IsSavable top objects
one_savable top objects n v is le above below good supers keys units = subst (IsSavable top) (sym is) (record {
  next = le;
  numbers = λ q value e. let one = the_one n q v value e in (subst (λ k. 0 < k) (sym one.0) above, subst (λ k. k < top) (sym one.0) below);
  spellable = λ q value e. subst IsSpellable (the_one n q v value e).1 good;
  keys = λ q value e. subst (λ w. AllByRecursion (IsHeldKey top (insert empty n v)) (named_as_keys w)) (the_one n q v value e).1 keys;
  whole = none-whole _ (λ q. no_supers n q v supers);
  few = omega (arith, added_len empty n v (get-empty nat_cmp n), len-empty nat_cmp Value);
  few_units = omega (arith, units, added_units empty n v (get-empty nat_cmp n), none_units);
})

-- the list 1 of itself, of object 2 and of true
pub list_savable : (objects : Objects) (items : List Holder) → objects ≡ insert empty 1 (Items items)
    → items ≡ holders.Obj 1 ∷ holders.Obj 2 ∷ holders.True ∷ [] → IsSavable 3 objects
unfolding named_as_keys
list_savable objects items is are =
    one_savable 3 objects 1 (Items (holders.Obj 1 ∷ holders.Obj 2 ∷ holders.True ∷ [])) (is ∙ ap (λ xs. insert empty 1 (Items xs)) are)
    (omega arith) (omega arith) (omega arith)
    (record {
      few = omega arith;
      each = (record { fits = omega arith; good = omega arith }, (record { fits = omega arith; good = omega arith }, (record { fits = tt; good = tt }, tt)));
    }) refl tt (omega arith)
