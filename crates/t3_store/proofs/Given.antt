-- That the objects of a store have numbers that were given.
use Rattle.std.proofs.Common.{◌≡◌, ◌∙◌, ap, sym, ℕ, zero, suc, ◌<◌, ◌≤◌, ◌^◌, ◌⊎◌, inl, inr, Bool, true, false, nat_lt, None, is_some, true≢false, ltb-true, ltb-false, List, refl, arith}
use Rattle.std.specs.FinMap.{get}
use Rattle.t3_undo.specs.Objects.{Objects, Segment}
use Rattle.t3_store.specs.Value.{Objects as Values}
use Rattle.t3_store.specs.Whole.{HasGivenNumbers}
use Rattle.t3_store.specs.Inner.Shapes.{Shape, values}
use Rattle.t3_store.specs.Inner.Store.{store_of, AreNumbered}
use Rattle.t3_store.specs.declared.limits.StoreLimits.{StoreLimits}
use Rattle.t3_store.proofs.MapValues.{some-values}
use Rattle.t3_store.proofs.Creating.{value-none}

-- what isn't there can't be some
module _ (m : Objects Shape) where
  low : (q : ℕ) → get m 0 ≡ None → is_some (get (values m) q) ≡ true → 0 < q
  low zero none some = absurd (true≢false (sym some ∙ ap is_some (value-none m 0 none)))
  low (suc q) none some = omega arith

  below : (next q : ℕ) → (next ≤ q → get m q ≡ None) → is_some (get (values m) q) ≡ true → q < next
  below next q none some = by (nat_lt q next) refl
    where
      by : (b : Bool) → nat_lt q next ≡ b → q < next
      by true e = ltb-true q next e
      by false e = absurd (true≢false (sym some ∙ ap is_some (value-none m q (none (ltb-false q next e)))))

pub given-numbers : (p t : Objects Shape) (next next_transient : ℕ) (limits : StoreLimits) (ss : List Segment) → AreNumbered p t next next_transient
    → HasGivenNumbers (store_of p t next next_transient limits ss)
given-numbers p t next next_transient limits ss are = record {
  persistent = λ q some. (low p q are.persistent_from_one some, below p next q (are.persistent_below q) some);
  transient = λ q some. (low t q are.transient_from_one some, high q some (nat_lt q (2 ^ 31)) refl);
  apart = λ q some. value-none t q (are.distinct q (sym (some-values p q) ∙ some));
  next = (omega (arith, are.next_from_one), are.next_fits);
  next_transient = (are.transient_from, are.transient_fits);
}
  where
    high : (q : ℕ) → is_some (get (values t) q) ≡ true → (b : Bool) → nat_lt q (2 ^ 31) ≡ b
        → (q < next) ⊎ ((2 ^ 31 ≤ q) × (q < next_transient))
    high q some true e = inl (below t next q (λ h. are.transient_low q h (ltb-true q (2 ^ 31) e)) some)
    high q some false e = inr (ltb-false q (2 ^ 31) e, below t next_transient q (are.transient_high q) some)

-- and of an image's
pub given-persistent : (m : Objects Shape) (objects : Values) (q : ℕ) → values m ≡ objects → get (values m) 0 ≡ None
    → (2 ^ 31 ≤ q → get (values m) q ≡ None) → is_some (get objects q) ≡ true → (0 < q) × (q < 2 ^ 31)
given-persistent m objects q same none high some = (from q mine, by (nat_lt q (2 ^ 31)) refl)
  where
    mine : is_some (get (values m) q) ≡ true
    mine = ap (λ o. is_some (get o q)) same ∙ some

    from : (q : ℕ) → is_some (get (values m) q) ≡ true → 0 < q
    from zero some = absurd (true≢false (sym some ∙ ap is_some none))
    from (suc q) some = omega arith

    by : (b : Bool) → nat_lt q (2 ^ 31) ≡ b → q < 2 ^ 31
    by true e = ltb-true q (2 ^ 31) e
    by false e = absurd (true≢false (sym mine ∙ ap is_some (high (ltb-false q (2 ^ 31) e))))
