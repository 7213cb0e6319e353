-- An image has at most one answer: its program, or the first rule that it breaks.
use Rattle.std.proofs.Common.{◌≡◌, ◌≢◌, ℕ, ◌<◌, ◌≤◌, ◌⊎◌, inl, inr, Bool, true, false, List, [], ◌∷◌, ◌++◌, Option, None, Some, Result, Ok, Err, map, nat_eq, refl, sym, ap, ◌∙◌, subst, arith}
use Rattle.std.specs.Cmp.{nat_cmp_total}
use Rattle.std.specs.FinMap.{get, same_map, nat_cmp-IsAntisymmetric}
use Rattle.std.specs.List.{IsDistinct}
use Rattle.std.proofs.lemmas.Bool.{cases_lt}
use Rattle.t3_image_read.specs.declared.image.PlacedBlock.{PlacedBlock}
use Rattle.t3_pools.specs.Building.{Breaks as PoolsBreak, Refuses as PoolsRefuse, rules}
use Rattle.t3_pools.specs.First.{IsFirst}
use Rattle.t3_pools.proofs.Firsts.{one_first}
use Rattle.t3_pools.specs.declared.refusal.PoolRefusal.{PoolRefusal}
use Rattle.t3_pools.specs.declared.refusal.PoolRefusal.TheVariants as pools
use Rattle.t3_store.specs.Value.{Value, Objects}
use Rattle.t3_store.specs.declared.limits.StoreLimits.{StoreLimits}
use Rattle.t3_load.specs.declared.objects.ImageObject.{ImageObject}
use Rattle.t3_load.specs.declared.refusal.LoadRefusal.{LoadRefusal}
use Rattle.t3_load.specs.declared.refusal.LoadRefusal.TheVariants.{NoEntry, TwoEntries, HeaderSizes, Pool, Metaclass, FunctionSet, ObjectNumber, ObjectTwice, ObjectData, SuperMissing, SuperCycle, TransientSuper, Full, NoMemory}
use Rattle.t3_load.specs.Entries.{EntryValue}
use Rattle.t3_load.specs.ImageObjects.{IsHalf, IsOwnAncestor, lacks_super, has_transient_super}
use Rattle.t3_load.specs.Loading.{ProgramValue, LoadsAs, Loads}
use Rattle.t3_load.specs.Names.{metas_in}
use Rattle.t3_load.specs.Rules.{Breaks, KeepsRules, IsFirstTwice, IsNoObject, OfObjects, first_by, rule_of}
use Rattle.t3_load.specs.Statics.{StaticValue, statics_in, static_numbers, kind_at}
use Rattle.t3_load.proofs.DecidedPools.{refusal-first}
use Rattle.t3_load.proofs.Firsts.{not_twice}
use Rattle.t3_load.proofs.OneObject.{one_list_of}
use Rattle.t3_load.proofs.RuleSteps.{IsOfRule, is_of_rule, numbered}
use Rattle.t3_load.proofs.SuperRules.{of_these}

-- ---- the first that stands twice

-- of two fronts of one list the shorter is a front of the other, and what follows it stands in the other
record IsFrontOf (before other : List ℕ) (n : ℕ) : Type 0 where
  more : List ℕ
  is : other ≡ before ++ n ∷ more

fronts : (before other : List ℕ) (m n : ℕ) (after behind : List ℕ) → before ++ m ∷ after ≡ other ++ n ∷ behind
    → (m ≡ n) ⊎ (IsFrontOf before other m ⊎ IsFrontOf other before n)
fronts [] [] m n after behind e = inl cc
fronts [] (o ∷ other) m n after behind e =
    let here : o ≡ m = cc in
    inr (inl (record { more = other; is = ap (λ k. k ∷ other) here }))
fronts (b ∷ before) [] m n after behind e =
    let here : b ≡ n = cc in
    inr (inr (record { more = before; is = ap (λ k. k ∷ before) here }))
fronts (b ∷ before) (o ∷ other) m n after behind e =
    let here : b ≡ o = cc in
    elim (fronts before other m n after behind cc) [
      | inl same ↦ inl same
      | inr (inl front) ↦ inr (inl (record { more = front.more; is = λ i. sym here i ∷ front.is i }))
      | inr (inr front) ↦ inr (inr (record { more = front.more; is = λ i. here i ∷ front.is i }))
    ]

pub one_twice : (numbers : List ℕ) (m n : ℕ) → IsFirstTwice numbers m → IsFirstTwice numbers n → m ≡ n
one_twice numbers m n a b =
    elim (fronts a.before b.before m n a.after b.after (sym a.is ∙ b.is)) [
      | inl same ↦ same
      | inr (inl front) ↦ absurd (not_twice a.before front.more m (subst (IsDistinct nat_eq) front.is b.distinct) a.twice)
      | inr (inr front) ↦ absurd (not_twice b.before front.more n (subst (IsDistinct nat_eq) front.is a.distinct) b.twice)
    ]

-- ---- the rules on pools

one_pool_refusal : (blocks : List PlacedBlock) (a b : PoolRefusal) → a ≢ pools.NoMemory → b ≢ pools.NoMemory → PoolsRefuse a blocks
    → PoolsRefuse b blocks → a ≡ b
one_pool_refusal blocks a b known_a known_b refuses_a refuses_b =
    one_first (λ rule. PoolsBreak rule blocks) rules a b (refusal-first blocks a known_a refuses_a) (refusal-first blocks b known_b refuses_b)

-- ---- one rule has one refusal

some_same : (o : Option ℕ) (m n : ℕ) → o ≡ Some m → o ≡ Some n → m ≡ n
some_same o m n p q = let both : Some m ≡ Some n = sym p ∙ q in cc

of_rule : (rule : ℕ) (why : LoadRefusal) → rule ≡ rule_of why → IsOfRule rule why
of_rule rule why same = subst (λ r. IsOfRule r why) (sym same) (is_of_rule why)

-- where one number alone breaks a rule
numbered_once : (blocks : List PlacedBlock) (limits : StoreLimits) (refusal : ℕ → LoadRefusal) (m : ℕ) (why : LoadRefusal)
    → numbered refusal why → Breaks blocks limits why → ((n : ℕ) → Breaks blocks limits (refusal n) → m ≡ n) → refusal m ≡ why
numbered_once blocks limits refusal m why of broken one =
    ap refusal (one of.0 (subst (λ w. Breaks blocks limits w) of.1 broken)) ∙ sym of.1

-- the number of the first object for which a test holds is one
one_by : (blocks : List PlacedBlock) (test : List ImageObject → ImageObject → Bool) (m n : ℕ)
    → OfObjects blocks (λ objects. first_by (test objects) objects ≡ Some m)
    → OfObjects blocks (λ objects. first_by (test objects) objects ≡ Some n) → m ≡ n
one_by blocks test m n p q =
    some_same (first_by (test p.objects) p.objects) m n p.holds
    (of_these blocks p.objects (λ objects. first_by (test objects) objects ≡ Some n) p.are q)

abbrev IsFirstOwn : ℕ → List ImageObject → Type 0
IsFirstOwn n objects = (object : ImageObject) × (object.number ≡ n) × IsFirst (IsOwnAncestor objects) objects object

one_cycle : (blocks : List PlacedBlock) (m n : ℕ) → OfObjects blocks (IsFirstOwn m) → OfObjects blocks (IsFirstOwn n) → m ≡ n
one_cycle blocks m n p q =
    let first : IsFirstOwn m p.objects = p.holds in
    let other : IsFirstOwn n p.objects = of_these blocks p.objects (IsFirstOwn n) p.are q in
    sym first.1 ∙ ap (λ (o : ImageObject). o.number) (one_first (IsOwnAncestor p.objects) p.objects first.0 other.0 first.2 other.2)
    ∙ other.1

abbrev IsFirstWithout : List PlacedBlock → ℕ → Type 0
IsFirstWithout blocks n = (static : StaticValue) × (static.number ≡ n) × IsFirst (IsNoObject blocks) (statics_in blocks) static

one_without : (blocks : List PlacedBlock) (m n : ℕ) → IsFirstWithout blocks m → IsFirstWithout blocks n → m ≡ n
one_without blocks m n p q =
    sym p.1 ∙ ap (λ (s : StaticValue). s.number) (one_first (IsNoObject blocks) (statics_in blocks) p.0 q.0 p.2 q.2) ∙ q.1

-- what breaks a rule in two ways does so in one
same_refusal : (blocks : List PlacedBlock) (limits : StoreLimits) (a b : LoadRefusal) → rule_of a ≡ rule_of b → Breaks blocks limits a
    → Breaks blocks limits b → a ≡ b
same_refusal blocks limits NoEntry b same p q = sym (of_rule 1 b same)
same_refusal blocks limits TwoEntries b same p q = sym (of_rule 2 b same)
same_refusal blocks limits HeaderSizes b same p q = sym (of_rule 3 b same)
same_refusal blocks limits (Pool cause) b same p q =
    let of = of_rule 4 b same in
    let other : Breaks blocks limits (Pool of.0) = subst (λ w. Breaks blocks limits w) of.1 q in
    ap Pool (one_pool_refusal blocks cause of.0 p.0 other.0 p.1 other.1) ∙ sym of.1
same_refusal blocks limits (Metaclass m) b same p q =
    numbered_once blocks limits Metaclass m b (of_rule 5 b same) q (λ n e. some_same _ m n p e)
same_refusal blocks limits (FunctionSet m) b same p q =
    numbered_once blocks limits FunctionSet m b (of_rule 6 b same) q (λ n e. some_same _ m n p e)
same_refusal blocks limits (ObjectNumber m) b same p q =
    numbered_once blocks limits ObjectNumber m b (of_rule 7 b same) q (λ n e. some_same _ m n p e)
same_refusal blocks limits (ObjectTwice m) b same p q =
    numbered_once blocks limits ObjectTwice m b (of_rule 8 b same) q (λ n e. one_twice (static_numbers (statics_in blocks)) m n p e)
same_refusal blocks limits (ObjectData m) b same p q =
    numbered_once blocks limits ObjectData m b (of_rule 9 b same) q (λ n e. one_without blocks m n p e)
same_refusal blocks limits (SuperMissing m) b same p q =
    numbered_once blocks limits SuperMissing m b (of_rule 10 b same) q (λ n e. one_by blocks lacks_super m n p e)
same_refusal blocks limits (SuperCycle m) b same p q =
    numbered_once blocks limits SuperCycle m b (of_rule 11 b same) q (λ n e. one_cycle blocks m n p e)
same_refusal blocks limits (TransientSuper m) b same p q =
    numbered_once blocks limits TransientSuper m b (of_rule 12 b same) q (λ n e. one_by blocks has_transient_super m n p e)
same_refusal blocks limits Full b same p q = sym (of_rule 13 b same)
same_refusal blocks limits NoMemory b same p q = absurd p

-- ---- one program

one_half : (transient : Bool) (objects : List ImageObject) (a b : Objects) → IsHalf transient objects a → IsHalf transient objects b → a ≡ b
one_half transient objects a b is_a is_b =
    same_map nat_cmp_total nat_cmp-IsAntisymmetric a b (λ n. by_values n (get a n) refl (get b n) refl)
  where
    by_values : (n : ℕ) (p : Option Value) → get a n ≡ p → (q : Option Value) → get b n ≡ q → get a n ≡ get b n
    by_values n (Some v) e q f = e ∙ sym (is_b.holds n v (is_a.only n v e))
    by_values n None e None f = e ∙ sym f
    by_values n None e (Some v) f = is_a.holds n v (is_b.only n v f) ∙ sym f

one_known : {X : Type 0} (xs ys : List X) → map Some xs ≡ map Some ys → xs ≡ ys
one_known [] [] e = refl
one_known [] (y ∷ ys) e = absurd cc
one_known (x ∷ xs) [] e = absurd cc
one_known (x ∷ xs) (y ∷ ys) e =
    let here : Some x ≡ Some y = cc in
    let same : x ≡ y = cc in
    let rest = one_known xs ys cc in
    λ i. same i ∷ rest i

pub one_program : (blocks : List PlacedBlock) (fingerprint : List ℕ) (limits : StoreLimits) (a b : ProgramValue)
    → LoadsAs blocks fingerprint limits a → LoadsAs blocks fingerprint limits b → a ≡ b
one_program blocks fingerprint limits a b is_a is_b =
    let entries_same : ◌≡◌ {A = List EntryValue} (record { code = a.entry; method_size = 10; exception_size = 10 } ∷ [])
    (record { code = b.entry; method_size = 10; exception_size = 10 } ∷ []) = sym is_a.entry ∙ is_b.entry in
    let entry_same : ◌≡◌ {A = EntryValue} (record { code = a.entry; method_size = 10; exception_size = 10 })
    (record { code = b.entry; method_size = 10; exception_size = 10 }) = cc in
    let entry : a.entry ≡ b.entry = ap (λ (e : EntryValue). e.code) entry_same in
    let built : a.pools ≡ b.pools = is_a.pools ∙ sym is_b.pools in
    let kinds = one_known a.kinds b.kinds (sym is_a.kinds ∙ is_b.kinds) in
    let sets = one_known a.sets b.sets (sym is_a.sets ∙ is_b.sets) in
    let symbols : a.symbols ≡ b.symbols = is_a.symbols ∙ sym is_b.symbols in
    let objects = one_list_of (kind_at (metas_in blocks)) (statics_in blocks) is_a.objects is_b.objects is_a.are is_b.are in
    let first = one_half false is_b.objects a.first b.first (subst (λ os. IsHalf false os a.first) objects is_a.first) is_b.first in
    let passing = one_half true is_b.objects a.passing b.passing (subst (λ os. IsHalf true os a.passing) objects is_a.passing)
    is_b.passing in
    let next : a.next ≡ b.next = is_a.next ∙ sym is_b.next in
    let printed : a.fingerprint ≡ b.fingerprint = is_a.fingerprint_is ∙ sym is_b.fingerprint_is in
    let limited : a.limits ≡ b.limits = is_a.limits_are ∙ sym is_b.limits_are in
    λ i. record {
      entry = entry i;
      pools = built i;
      kinds = kinds i;
      sets = sets i;
      symbols = symbols i;
      first = first i;
      passing = passing i;
      next = next i;
      fingerprint = printed i;
      limits = limited i;
    }

-- ---- one answer

known_rule : (why : LoadRefusal) → why ≢ NoMemory → (1 ≤ rule_of why) × (rule_of why < 14)
known_rule NoMemory known = absurd (known refl)
known_rule why known = (omega arith, omega arith)

-- an image that keeps all rules isn't refused
not_refused : (blocks : List PlacedBlock) (limits : StoreLimits) (why : LoadRefusal) → why ≢ NoMemory → KeepsRules blocks limits 1 14
    → (why ≡ NoMemory) ⊎ (Breaks blocks limits why × KeepsRules blocks limits 1 (rule_of why)) → ⊥
not_refused blocks limits why known kept (inl none) = known none
not_refused blocks limits why known kept (inr broken) =
    let rule = known_rule why known in kept why rule.0 rule.1 broken.0

one_refusal : (blocks : List PlacedBlock) (limits : StoreLimits) (a b : LoadRefusal) → a ≢ NoMemory → b ≢ NoMemory
    → (a ≡ NoMemory) ⊎ (Breaks blocks limits a × KeepsRules blocks limits 1 (rule_of a))
    → (b ≡ NoMemory) ⊎ (Breaks blocks limits b × KeepsRules blocks limits 1 (rule_of b)) → a ≡ b
one_refusal blocks limits a b known_a known_b (inl none) why_b = absurd (known_a none)
one_refusal blocks limits a b known_a known_b (inr why_a) (inl none) = absurd (known_b none)
one_refusal blocks limits a b known_a known_b (inr why_a) (inr why_b) =
    elim (cases_lt (rule_of a) (rule_of b)) [
      | inl less ↦ absurd (why_b.1 a (known_rule a known_a).0 less why_a.0)
      | inr more ↦ elim (cases_lt (rule_of b) (rule_of a)) [
        | inl less ↦ absurd (why_a.1 b (known_rule b known_b).0 less why_b.0)
        | inr over ↦ same_refusal blocks limits a b (omega arith) why_a.0 why_b.0
      ]
    ]

pub one_answer : (blocks : List PlacedBlock) (fingerprint : List ℕ) (limits : StoreLimits) (a b : Result ProgramValue LoadRefusal)
    → a ≢ Err NoMemory → b ≢ Err NoMemory → Loads blocks fingerprint limits a → Loads blocks fingerprint limits b → a ≡ b
one_answer blocks fingerprint limits (Ok a) (Ok b) known_a known_b is_a is_b =
    ap Ok (one_program blocks fingerprint limits a b is_a.1 is_b.1)
one_answer blocks fingerprint limits (Ok a) (Err b) known_a known_b is_a is_b =
    absurd (not_refused blocks limits b (λ e. known_b (ap Err e)) is_a.0 is_b)
one_answer blocks fingerprint limits (Err a) (Ok b) known_a known_b is_a is_b =
    absurd (not_refused blocks limits a (λ e. known_a (ap Err e)) is_b.0 is_a)
one_answer blocks fingerprint limits (Err a) (Err b) known_a known_b is_a is_b =
    ap Err (one_refusal blocks limits a b (λ e. known_a (ap Err e)) (λ e. known_b (ap Err e)) is_a is_b)
