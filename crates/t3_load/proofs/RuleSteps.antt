-- Which refusals a rule has, and how rules that are kept one by one are kept together.
use Rattle.std.proofs.Common.{◌≡◌, ℕ, suc, Bool, true, false, List, [], ◌∷◌, ◌≤◌, ◌⊎◌, inl, inr, Result, Ok, Err, nat_lt, get_or, refl, sym, subst, ◌∙◌, arith}
use Rattle.std.proofs.lemmas.Bool.{ltb-true, ltb-false}
use Rattle.t3_image_read.specs.declared.image.PlacedBlock.{PlacedBlock}
use Rattle.t3_pools.specs.declared.refusal.PoolRefusal.{PoolRefusal}
use Rattle.t3_store.specs.declared.limits.StoreLimits.{StoreLimits}
use Rattle.t3_load.specs.declared.refusal.LoadRefusal.{LoadRefusal}
use Rattle.t3_load.specs.declared.refusal.LoadRefusal.TheVariants.{NoEntry, TwoEntries, HeaderSizes, Pool, Metaclass, FunctionSet, ObjectNumber, ObjectTwice, ObjectData, SuperMissing, SuperCycle, TransientSuper, Full, NoMemory}
use Rattle.std.specs.Result.{IsErrAnd}
use Rattle.t3_load.specs.Rules.{Breaks, KeepsRules, rule_of}
use Rattle.t3_load.specs.Inner.Deciding.{IsFirstBroken, Decides}

abbrev pub numbered : (ℕ → LoadRefusal) → LoadRefusal → Type 0
numbered refusal why = (number : ℕ) × (why ≡ refusal number)

-- the refusals of each rule, from rule 0 on, which isn't there
abbrev refusals : List (LoadRefusal → Type 0)
refusals =
    (λ why. ⊥) ∷ (λ why. why ≡ NoEntry) ∷ (λ why. why ≡ TwoEntries) ∷ (λ why. why ≡ HeaderSizes)
    ∷ (λ why. (cause : PoolRefusal) × (why ≡ Pool cause)) ∷ numbered Metaclass ∷ numbered FunctionSet ∷ numbered ObjectNumber
    ∷ numbered ObjectTwice ∷ numbered ObjectData ∷ numbered SuperMissing ∷ numbered SuperCycle ∷ numbered TransientSuper
    ∷ (λ why. why ≡ Full) ∷ (λ why. why ≡ NoMemory) ∷ []

abbrev pub IsOfRule : ℕ → LoadRefusal → Type 0
IsOfRule rule why = get_or refusals rule (λ _. ⊥) why

pub is_of_rule : (why : LoadRefusal) → IsOfRule (rule_of why) why
is_of_rule (Pool cause) = (cause, refl)
is_of_rule (Metaclass n) = (n, refl)
is_of_rule (FunctionSet n) = (n, refl)
is_of_rule (ObjectNumber n) = (n, refl)
is_of_rule (ObjectTwice n) = (n, refl)
is_of_rule (ObjectData n) = (n, refl)
is_of_rule (SuperMissing n) = (n, refl)
is_of_rule (SuperCycle n) = (n, refl)
is_of_rule (TransientSuper n) = (n, refl)
is_of_rule why = refl

-- one rule is kept where none of its refusals holds
pub kept_one : (blocks : List PlacedBlock) (limits : StoreLimits) (rule : ℕ)
    → ((why : LoadRefusal) → IsOfRule rule why → ¬ Breaks blocks limits why) → KeepsRules blocks limits rule (suc rule)
kept_one blocks limits rule none why from before =
    let same : rule_of why ≡ rule = omega (arith, from, before) in
    none why (subst (λ r. IsOfRule r why) same (is_of_rule why))

-- no rule stands between
pub kept_none : (blocks : List PlacedBlock) (limits : StoreLimits) (rule : ℕ) → KeepsRules blocks limits rule rule
kept_none blocks limits rule why from before = absurd (omega (arith, from, before))

-- some rules, and those that follow
pub kept_both : (blocks : List PlacedBlock) (limits : StoreLimits) (from middle until : ℕ) → KeepsRules blocks limits from middle
    → KeepsRules blocks limits middle until → KeepsRules blocks limits from until
kept_both blocks limits from middle until first second why above before = by_test (nat_lt (rule_of why) middle) refl
  where
    by_test : (b : Bool) → nat_lt (rule_of why) middle ≡ b → ¬ Breaks blocks limits why
    by_test true is = first why above (ltb-true (rule_of why) middle is)
    by_test false is = second why (ltb-false (rule_of why) middle is) before

-- a refusal behind rules that are kept is that of a function that tries them all
pub decides_behind : {X : Type 0} (blocks : List PlacedBlock) (from middle until all : ℕ) (whole : Result X LoadRefusal) (why : LoadRefusal)
    → from ≤ middle → until ≤ all → ((limits : StoreLimits) → KeepsRules blocks limits from middle)
    → (why ≡ NoMemory) ⊎ IsFirstBroken blocks middle until why → IsErrAnd whole (λ found. found ≡ why) → Decides blocks from all whole
decides_behind blocks from middle until all (Ok value) why above below kept decided refused = absurd refused
decides_behind blocks from middle until all (Err found) why above below kept (inl none) refused = inl (refused ∙ none)
decides_behind blocks from middle until all (Err found) why above below kept (inr first) refused =
    let from_on = first.from_on in
    let before = first.before in
    let broken : IsFirstBroken blocks from all why = record {
      from_on = omega (arith, from_on, above);
      before = omega (arith, before, below);
      broken = first.broken;
      kept = λ limits. kept_both blocks limits from middle (rule_of why) (kept limits) (first.kept limits);
    } in
    inr (subst (IsFirstBroken blocks from all) (sym refused) broken)
