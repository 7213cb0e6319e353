-- Objects that are good stay so as the next number rises, as an object is made, and as one changes within its kind.
use Rattle.std.proofs.Common.{◌≡◌, ◌∙◌, ap, sym, subst, refl, ℕ, ◌+◌, ◌<◌, ◌≤◌, ◌^◌, Bool, true, false, cond, [], Option, Some, None, IsTrue, inl, inr, arith}
use Rattle.std.specs.Prelude.{◌⊎◌}
use Rattle.std.specs.List.{AllByRecursion}
use Rattle.std.specs.Option.{option_map}
use Rattle.std.specs.Cmp.{nat_cmp_total}
use Rattle.std.specs.FinMap.{get, insert, get-insert}
use Rattle.t3_holder.specs.declared.holder.Holder.{Holder}
use Rattle.t3_undo.specs.Objects.{adjust}
use Rattle.t3_undo.proofs.Maps.{get-adjust}
use Rattle.t3_store.specs.Value.{Value, Objects}
use Rattle.t3_store.proofs.Rows.{same, same-is, differs}
use Rattle.t3_snapshot.specs.State.{named_as_keys, can_be_key}
use Rattle.t3_snapshot.specs.Savable.{IsHeldKey}
use Rattle.t3_snapshot.specs.Good.{HasGoodParts, AreGoodObjects}
use Rattle.t3_good_values.proofs.Lists.{all-weaker}

-- ---- what holds of each object

module _ (P : ℕ → Value → Type 0) where
  -- of a map from numbers to values
  abbrev pub HoldsAtEach : Objects → Type 0
  HoldsAtEach objects = (number : ℕ) (value : Value) → get objects number ≡ Some value → P number value

  pub each-adjusted : (m : Objects) (n : ℕ) (g : Value → Value) → ((value : Value) → P n value → P n (g value)) → HoldsAtEach m
      → HoldsAtEach (adjust m n g)
  each-adjusted m n g own all q value e = by (same q n) refl (get m q) refl (sym (get-adjust nat_cmp_total m n g q) ∙ e)
    where
      by : (b : Bool) → same q n ≡ b → (o : Option Value) → get m q ≡ o → cond b (option_map g o) o ≡ Some value → P q value
      by true t None is e = absurd cc
      by true t (Some v) is e =
          let new : g v ≡ value = cc in
          let number : q ≡ n = same-is q n t in
          let before : P n v = subst (λ k. P k v) number (all q v is) in
          subst (λ k. P k value) (sym number) (subst (P n) new (own v before))
      by false t o is e = all q value (is ∙ e)

  pub each-inserted : (m : Objects) (n : ℕ) (v : Value) → P n v → HoldsAtEach m → HoldsAtEach (insert m n v)
  each-inserted m n v own all q value e = by (same q n) refl (sym (get-insert nat_cmp_total m n v q) ∙ e)
    where
      by : (b : Bool) → same q n ≡ b → cond b (Some v) (get m q) ≡ Some value → P q value
      by true t e =
          let new : v ≡ value = cc in
          subst (λ k. P k value) (sym (same-is q n t)) (subst (P n) new own)
      by false t e = all q value e

-- ---- keys

-- there is no such object, or it can be a key
abbrev IsAble : Option Value → Type 0
IsAble o = (o ≡ None) ⊎ IsTrue (can_be_key o)

held-later : (low high : ℕ) (objects : Objects) → low ≤ high → (n : ℕ) → IsHeldKey low objects n → IsHeldKey high objects n
held-later low high objects le n held = record { given = by held.given; able = held.able }
  where
    by : (n < low) ⊎ (2 ^ 31 ≤ n) → (n < high) ⊎ (2 ^ 31 ≤ n)
    by (inl below) = inl (omega arith)
    by (inr far) = inr far

-- no key names the object that is made
held-made : (next : ℕ) (objects : Objects) (value : Value) → next < 2 ^ 31 → (n : ℕ) → IsHeldKey next objects n
    → IsHeldKey (next + 1) (insert objects next value) n
held-made next objects value lt n held = record {
  given = (held-later next (next + 1) objects (omega arith) n held).given;
  able = subst IsAble (sym as_before) held.able;
}
  where
    apart : (n < next) ⊎ (2 ^ 31 ≤ n) → n ≡ next → ⊥
    apart (inl below) is = absurd (omega arith)
    apart (inr far) is = absurd (omega arith)

    as_before : get (insert objects next value) n ≡ get objects n
    as_before =
        get-insert nat_cmp_total objects next value n
        ∙ ap (λ b. cond b (Some value) (get objects n)) (differs n next (apart held.given))

-- a change that keeps whether a value can be a key
abbrev pub KeepsKind : (Value → Value) → Type 0
KeepsKind g = (value : Value) → can_be_key (Some (g value)) ≡ can_be_key (Some value)

held-adjusted : (top : ℕ) (objects : Objects) (k : ℕ) (g : Value → Value) → KeepsKind g → (n : ℕ) → IsHeldKey top objects n
    → IsHeldKey top (adjust objects k g) n
held-adjusted top objects k g keeps n held = record {
  given = held.given;
  able = subst IsAble (sym (get-adjust nat_cmp_total objects k g n)) (by (same n k) (get objects n) held.able);
}
  where
    by : (b : Bool) (o : Option Value) → IsAble o → IsAble (cond b (option_map g o) o)
    by true None able = inl refl
    by true (Some v) (inl none) = absurd cc
    by true (Some v) (inr able) = inr (keeps v ∙ able)
    by false o able = able

-- ---- objects

module _ (Good : Holder → Type 0) where
  pub good-later : (low high : ℕ) (objects : Objects) → low ≤ high → AreGoodObjects Good low objects → AreGoodObjects Good high objects
  good-later low high objects le good = record {
    parts = good.parts;
    numbered = λ number value there. let is = good.numbered number value there in (is.0, omega arith);
    keys = λ number value there.
        all-weaker (IsHeldKey low objects) (IsHeldKey high objects) (named_as_keys value) (held-later low high objects le)
        (good.keys number value there);
  }

  -- one more object
  pub good-made : (next : ℕ) (objects : Objects) (value : Value) → 0 < next → next < 2 ^ 31 → HasGoodParts Good value
      → named_as_keys value ≡ []
      → AreGoodObjects Good next objects → AreGoodObjects Good (next + 1) (insert objects next value)
  good-made next objects value positive lt parts keyless good = record {
    parts = each-inserted (λ number v. HasGoodParts Good v) objects next value parts good.parts;
    numbered = each-inserted (λ number v. (0 < number) × (number < next + 1)) objects next value (positive, omega arith)
        (λ number v there. let is = good.numbered number v there in (is.0, omega arith));
    keys = each-inserted (λ number v. AllByRecursion Held (named_as_keys v)) objects next value
        (subst (AllByRecursion Held) (sym keyless) tt)
        (λ number v there.
        all-weaker (IsHeldKey next objects) Held (named_as_keys v) (held-made next objects value lt) (good.keys number v there));
  }
    where
      Held : ℕ → Type 0
      Held = IsHeldKey (next + 1) (insert objects next value)

  -- an object changed
  pub good-adjusted : (top : ℕ) (objects : Objects) (n : ℕ) (g : Value → Value) → KeepsKind g
      → ((value : Value) → HasGoodParts Good value → HasGoodParts Good (g value))
      → ((value : Value) → AllByRecursion (IsHeldKey top objects) (named_as_keys value)
      → AllByRecursion (IsHeldKey top objects) (named_as_keys (g value)))
      → AreGoodObjects Good top objects → AreGoodObjects Good top (adjust objects n g)
  good-adjusted top objects n g keeps parts keys good = record {
    parts = each-adjusted (λ number v. HasGoodParts Good v) objects n g parts good.parts;
    numbered = each-adjusted (λ number v. (0 < number) × (number < top)) objects n g (λ v is. is) good.numbered;
    keys = λ number value there.
        all-weaker (IsHeldKey top objects) (IsHeldKey top (adjust objects n g)) (named_as_keys value) (held-adjusted top objects n g keeps)
        (each-adjusted (λ number v. AllByRecursion (IsHeldKey top objects) (named_as_keys v)) objects n g keys good.keys
        number value there);
  }
