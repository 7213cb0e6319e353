-- Each image has an answer: rule by rule it is broken, or the next is tried, and what keeps them all is a program.
use Rattle.std.proofs.Common.{◌≡◌, ◌≢◌, ℕ, ◌≤◌, ◌&&◌, ◌||◌, ◌==◌, inl, inr, Bool, true, false, not, List, [], ◌∷◌, ◌++◌, Option, None, Some, Result, Ok, Err, length, map, nat_eq, append_assoc, refl, sym, ap, ◌∙◌, subst, arith}
use Rattle.std.specs.FinMap.{empty, insert}
use Rattle.std.specs.List.{AllByRecursion, IsDistinct, list_any}
use Rattle.std.proofs.lemmas.Bool.{eqb-true}
use Rattle.std.proofs.lemmas.List.{append-nil, map-append}
use Rattle.t3_image_read.specs.declared.image.PlacedBlock.{PlacedBlock}
use Rattle.t3_pools.specs.Pool.{pools_in}
use Rattle.t3_store.specs.Value.{Objects}
use Rattle.t3_store.specs.declared.limits.StoreLimits.{StoreLimits}
use Rattle.t3_load.specs.declared.kinds.KindEntry.{KindEntry}
use Rattle.t3_load.specs.declared.sets.SetKind.{SetKind}
use Rattle.t3_load.specs.declared.objects.ImageObject.{ImageObject}
use Rattle.t3_load.specs.declared.refusal.LoadRefusal.{LoadRefusal}
use Rattle.t3_load.specs.declared.refusal.LoadRefusal.TheVariants.{NoEntry, TwoEntries, HeaderSizes, Pool, Metaclass, FunctionSet, ObjectNumber, ObjectTwice, ObjectData, SuperMissing, SuperCycle, TransientSuper, Full, NoMemory}
use Rattle.t3_load.specs.Entries.{EntryValue, entries, has_sizes}
use Rattle.t3_load.specs.ImageObjects.{object_numbers, value_of, lacks_super, has_transient_super, IsOwnAncestor, is_past}
use Rattle.t3_load.specs.Inner.Halves.{AreHalves, half_of}
use Rattle.t3_load.specs.Kinds.{kind_entry_of}
use Rattle.t3_load.specs.Loading.{ProgramValue, Loads, next_above}
use Rattle.t3_load.specs.Names.{metas_in, names_in, symbols_in, unknown_from}
use Rattle.t3_pools.specs.First.{IsFirst}
use Rattle.t3_load.specs.Rules.{Breaks, KeepsRules, AreObjectsIn, first_bad, first_by, rule_of}
use Rattle.t3_load.specs.Sets.{set_named}
use Rattle.t3_load.specs.Statics.{statics_in, static_numbers, kind_at}
use Rattle.t3_load.specs.Symbols.{firsts}
use Rattle.t3_pools.proofs.Firsts.{first_or_all}
use Rattle.t3_load.proofs.Decided.{numbers_or_twice, all_known}
use Rattle.t3_load.proofs.DecidedCycles.{own_or_not}
use Rattle.t3_load.proofs.DecidedObjects.{objects_or_first}
use Rattle.t3_load.proofs.DecidedPools.{pools_or_first, pools_kept}
use Rattle.t3_load.proofs.EntryRules.{some_entry, one_entry, good_entry}
use Rattle.t3_load.proofs.FirstSymbols.{raw_of-firsts}
use Rattle.t3_pools.proofs.Firsts.{none_first}
use Rattle.t3_load.proofs.Firsts.{not_twice}
use Rattle.t3_load.proofs.Halving.{fresh, no_halves, halves_more}
use Rattle.t3_load.proofs.LoadSteps.{room_kept}
use Rattle.t3_load.proofs.NameRules.{kinds_kept, sets_kept}
use Rattle.t3_load.proofs.ObjectRules.{numbers_kept, distinct_kept, objects_kept, same_numbers}
use Rattle.t3_load.proofs.RuleSteps.{kept_one, kept_both, kept_none}
use Rattle.t3_load.proofs.SuperRules.{of_these, there_kept, persistent_kept}

-- ---- the halves of objects

-- the two halves of some objects
record Halves (objects : List ImageObject) : Type 0 where
  first : Objects
  passing : Objects
  are : AreHalves objects first passing

-- one object more, which has a number of its own
one_more : (done : List ImageObject) (object : ImageObject) (rest : List ImageObject) → Halves done
    → IsDistinct nat_eq (object_numbers (done ++ object ∷ rest)) → Halves (done ++ object ∷ [])
one_more done object rest halves distinct =
    let own = object.transient in
    let half = half_of halves.first halves.passing own in
    let new = insert half object.number (value_of object) in
    let numbers : object_numbers (done ++ object ∷ rest) ≡ object_numbers done ++ object.number ∷ object_numbers rest =
    map-append (λ (o : ImageObject). o.number) done (object ∷ rest) in
    let none = fresh own done half object.number (halves.are.each own)
    (not_twice (object_numbers done) (object_numbers rest) object.number (subst (IsDistinct nat_eq) numbers distinct)) in
    record {
      first = half_of new halves.first own;
      passing = half_of halves.passing new own;
      are = halves_more own done halves.first halves.passing new object halves.are none refl refl;
    }

halves_after : (done rest : List ImageObject) → Halves done → IsDistinct nat_eq (object_numbers (done ++ rest)) → Halves (done ++ rest)
halves_after done [] halves distinct = subst Halves (sym (append-nil done)) halves
halves_after done (object ∷ rest) halves distinct =
    let joined = append_assoc done (object ∷ []) rest in
    subst Halves joined
    (halves_after (done ++ object ∷ []) rest (one_more done object rest halves distinct)
    (subst (λ os. IsDistinct nat_eq (object_numbers os)) (sym joined) distinct))

some_halves : (objects : List ImageObject) → IsDistinct nat_eq (object_numbers objects) → Halves objects
some_halves objects distinct =
    halves_after [] objects (record { first = empty; passing = empty; are = no_halves empty empty refl refl }) distinct

-- ---- an answer

abbrev Answer : List PlacedBlock → List ℕ → StoreLimits → Type 0
Answer blocks fingerprint limits =
    (answer : Result ProgramValue LoadRefusal) × (answer ≢ Err NoMemory) × Loads blocks fingerprint limits answer

refused : (blocks : List PlacedBlock) (fingerprint : List ℕ) (limits : StoreLimits) (why : LoadRefusal) → why ≢ NoMemory
    → Breaks blocks limits why → KeepsRules blocks limits 1 (rule_of why) → Answer blocks fingerprint limits
refused blocks fingerprint limits why known broken kept = (Err why, (λ e. known cc), inr (broken, kept))

-- the entry and the tables of a program
record Tables (blocks : List PlacedBlock) : Type 0 where
  code : ℕ
  entry : entries blocks ≡ record { code = code; method_size = 10; exception_size = 10 } ∷ []
  kinds : List KindEntry
  kinds_are : map kind_entry_of (metas_in blocks) ≡ map Some kinds
  sets : List SetKind
  sets_are : map set_named (names_in blocks) ≡ map Some sets

-- all that it is made of
record Parts (blocks : List PlacedBlock) : Type 0 where
  tables : Tables blocks
  distinct : IsDistinct nat_eq (static_numbers (statics_in blocks))
  objects : List ImageObject
  are : AreObjectsIn blocks objects

loaded : (blocks : List PlacedBlock) (fingerprint : List ℕ) (limits : StoreLimits) → Parts blocks → KeepsRules blocks limits 1 14
    → Answer blocks fingerprint limits
loaded blocks fingerprint limits parts kept =
    let halves = some_halves parts.objects (subst (IsDistinct nat_eq)
    (same_numbers (kind_at (metas_in blocks)) (statics_in blocks) parts.objects parts.are) parts.distinct) in
    let program : ProgramValue = record {
      entry = parts.tables.code;
      pools = pools_in blocks;
      kinds = parts.tables.kinds;
      sets = parts.tables.sets;
      symbols = firsts (symbols_in blocks);
      first = halves.first;
      passing = halves.passing;
      next = next_above (static_numbers (statics_in blocks));
      fingerprint = fingerprint;
      limits = limits;
    } in (
      Ok program,
      (λ e. absurd cc),
      (
        kept,
        record {
          entry = parts.tables.entry;
          pools = refl;
          kinds = parts.tables.kinds_are;
          sets = parts.tables.sets_are;
          symbols = refl;
          named = raw_of-firsts (symbols_in blocks);
          objects = parts.objects;
          are = parts.are;
          first = halves.are.each false;
          passing = halves.are.each true;
          next = refl;
          fingerprint_is = refl;
          limits_are = refl;
        },
      ),
    )

-- ---- rules 10 to 13, of the objects

module _ (blocks : List PlacedBlock) (fingerprint : List ℕ) (limits : StoreLimits) where
  further : (from until : ℕ) → KeepsRules blocks limits 1 from → KeepsRules blocks limits from until → KeepsRules blocks limits 1 until
  further from until kept more = kept_both blocks limits 1 from until kept more

  rule_13 : (parts : Parts blocks) → KeepsRules blocks limits 1 13 → Answer blocks fingerprint limits
  rule_13 parts kept = by_test (is_past limits parts.objects) refl
    where
      by_test : (b : Bool) → is_past limits parts.objects ≡ b → Answer blocks fingerprint limits
      by_test true e =
          refused blocks fingerprint limits Full (λ same. absurd cc)
          (record { objects = parts.objects; are = parts.are; holds = e }) kept
      by_test false e =
          loaded blocks fingerprint limits parts (further 13 14 kept (room_kept blocks parts.objects limits parts.are e))

  rule_12 : (parts : Parts blocks) → KeepsRules blocks limits 1 12 → Answer blocks fingerprint limits
  rule_12 parts kept = by_first (first_by (has_transient_super parts.objects) parts.objects) refl
    where
      by_first : (o : Option ℕ) → first_by (has_transient_super parts.objects) parts.objects ≡ o → Answer blocks fingerprint limits
      by_first (Some n) e =
          refused blocks fingerprint limits (TransientSuper n) (λ same. absurd cc)
          (record { objects = parts.objects; are = parts.are; holds = e }) kept
      by_first None e = rule_13 parts (further 12 13 kept (persistent_kept blocks parts.objects parts.are e limits))

  cycles_kept : (objects : List ImageObject) → AreObjectsIn blocks objects → AllByRecursion (λ o. ¬ IsOwnAncestor objects o) objects
      → KeepsRules blocks limits 11 12
  cycles_kept objects are none =
      kept_one blocks limits 11 (λ why of broken.
      let first : (object : ImageObject) × (object.number ≡ of.0) × IsFirst (IsOwnAncestor objects) objects object =
      of_these blocks objects (λ os. (object : ImageObject) × (object.number ≡ of.0) × IsFirst (IsOwnAncestor os) os object) are
      (subst (λ w. Breaks blocks limits w) of.1 broken) in
      none_first (IsOwnAncestor objects) objects none first.0 first.2)

  rule_11 : (parts : Parts blocks) → KeepsRules blocks limits 1 11 → Answer blocks fingerprint limits
  rule_11 parts kept =
      elim (first_or_all (IsOwnAncestor parts.objects) (own_or_not parts.objects) parts.objects) [
        | inl first ↦ refused blocks fingerprint limits (SuperCycle first.0.number) (λ same. absurd cc)
            (record { objects = parts.objects; are = parts.are; holds = (first.0, refl, first.1) }) kept
        | inr none ↦ rule_12 parts (further 11 12 kept (cycles_kept parts.objects parts.are none))
      ]

  rule_10 : (parts : Parts blocks) → KeepsRules blocks limits 1 10 → Answer blocks fingerprint limits
  rule_10 parts kept = by_first (first_by (lacks_super parts.objects) parts.objects) refl
    where
      by_first : (o : Option ℕ) → first_by (lacks_super parts.objects) parts.objects ≡ o → Answer blocks fingerprint limits
      by_first (Some n) e =
          refused blocks fingerprint limits (SuperMissing n) (λ same. absurd cc)
          (record { objects = parts.objects; are = parts.are; holds = e }) kept
      by_first None e = rule_11 parts (further 10 11 kept (there_kept blocks parts.objects parts.are e limits))

  -- ---- rules 5 to 9, of the tables and of what stands there as objects

  rule_9 : Tables blocks → IsDistinct nat_eq (static_numbers (statics_in blocks)) → KeepsRules blocks limits 1 9
      → Answer blocks fingerprint limits
  rule_9 tables distinct kept =
      elim (objects_or_first (kind_at (metas_in blocks)) (statics_in blocks)) [
        | inr first ↦ refused blocks fingerprint limits (ObjectData first.0.number) (λ same. absurd cc) (first.0, refl, first.1) kept
        | inl objects ↦
            rule_10 (record { tables = tables; distinct = distinct; objects = objects.0; are = objects.1 })
            (further 9 10 kept (objects_kept blocks objects.0 objects.1 limits))
      ]

  rule_8 : Tables blocks → KeepsRules blocks limits 1 8 → Answer blocks fingerprint limits
  rule_8 tables kept =
      elim (numbers_or_twice (static_numbers (statics_in blocks))) [
        | inl twice ↦ refused blocks fingerprint limits (ObjectTwice twice.0) (λ same. absurd cc) twice.1 kept
        | inr distinct ↦ rule_9 tables distinct (further 8 9 kept (distinct_kept blocks distinct limits))
      ]

  rule_7 : Tables blocks → KeepsRules blocks limits 1 7 → Answer blocks fingerprint limits
  rule_7 tables kept = by_first (first_bad (statics_in blocks)) refl
    where
      by_first : (o : Option ℕ) → first_bad (statics_in blocks) ≡ o → Answer blocks fingerprint limits
      by_first (Some n) e = refused blocks fingerprint limits (ObjectNumber n) (λ same. absurd cc) e kept
      by_first None e = rule_8 tables (further 7 8 kept (numbers_kept blocks e limits))

  rule_6 : (code : ℕ) → entries blocks ≡ record { code = code; method_size = 10; exception_size = 10 } ∷ [] → (kinds : List KindEntry)
      → map kind_entry_of (metas_in blocks) ≡ map Some kinds → KeepsRules blocks limits 1 6 → Answer blocks fingerprint limits
  rule_6 code entry kinds kinds_are kept = by_unknown (unknown_from set_named 0 (names_in blocks)) refl
    where
      by_unknown : (o : Option ℕ) → unknown_from set_named 0 (names_in blocks) ≡ o → Answer blocks fingerprint limits
      by_unknown (Some n) e = refused blocks fingerprint limits (FunctionSet n) (λ same. absurd cc) e kept
      by_unknown None e =
          let sets = all_known set_named (names_in blocks) 0 e in
          rule_7 (record {
            code = code;
            entry = entry;
            kinds = kinds;
            kinds_are = kinds_are;
            sets = sets.0;
            sets_are = sets.1;
          }) (further 6 7 kept (sets_kept blocks sets.0 sets.1 limits))

  rule_5 : (code : ℕ) → entries blocks ≡ record { code = code; method_size = 10; exception_size = 10 } ∷ []
      → KeepsRules blocks limits 1 5 → Answer blocks fingerprint limits
  rule_5 code entry kept = by_unknown (unknown_from kind_entry_of 0 (metas_in blocks)) refl
    where
      by_unknown : (o : Option ℕ) → unknown_from kind_entry_of 0 (metas_in blocks) ≡ o → Answer blocks fingerprint limits
      by_unknown (Some n) e = refused blocks fingerprint limits (Metaclass n) (λ same. absurd cc) e kept
      by_unknown None e =
          let kinds = all_known kind_entry_of (metas_in blocks) 0 e in
          rule_6 code entry kinds.0 kinds.1 (further 5 6 kept (kinds_kept blocks kinds.0 kinds.1 limits))

  -- ---- rules 1 to 4, of the entry and of the pools

  rule_4 : (code : ℕ) → entries blocks ≡ record { code = code; method_size = 10; exception_size = 10 } ∷ []
      → KeepsRules blocks limits 1 4 → Answer blocks fingerprint limits
  rule_4 code entry kept =
      elim (pools_or_first blocks) [
        | inl found ↦ refused blocks fingerprint limits (Pool found.0) (λ same. absurd cc) (found.1, found.2) kept
        | inr keeps ↦ rule_5 code entry (further 4 5 kept (pools_kept blocks keeps limits))
      ]

  sizes_fit : (entry : EntryValue) → has_sizes entry ≡ true → entry ≡ record { code = entry.code; method_size = 10; exception_size = 10 }
  sizes_fit entry fit = by_tests (entry.method_size == 10) refl (entry.exception_size == 10) refl fit
    where
      by_tests : (a : Bool) → (entry.method_size == 10) ≡ a → (b : Bool) → (entry.exception_size == 10) ≡ b → (a && b) ≡ true
          → entry ≡ record { code = entry.code; method_size = 10; exception_size = 10 }
      by_tests true p true q fit =
          let method = eqb-true entry.method_size 10 p in
          let exception = eqb-true entry.exception_size 10 q in
          λ i. record { code = entry.code; method_size = method i; exception_size = exception i }
      by_tests true p false q fit = absurd cc
      by_tests false p b q fit = absurd cc

  rule_3 : (entry : EntryValue) → entries blocks ≡ entry ∷ [] → Answer blocks fingerprint limits
  rule_3 entry is = by_test (has_sizes entry) refl
    where
      by_test : (b : Bool) → has_sizes entry ≡ b → Answer blocks fingerprint limits
      by_test true e =
          let one : entries blocks ≡ record { code = entry.code; method_size = 10; exception_size = 10 } ∷ [] =
          is ∙ ap (λ x. x ∷ []) (sizes_fit entry e) in
          rule_4 entry.code one (good_entry blocks entry.code one limits)
      by_test false e =
          let bad : list_any (λ (x : EntryValue). not (has_sizes x)) (entries blocks) ≡ true =
          ap (list_any (λ (x : EntryValue). not (has_sizes x))) is ∙ ap (λ b. not b || false) e in
          refused blocks fingerprint limits HeaderSizes (λ same. absurd cc) bad (one_entry blocks entry is limits)

  rules : (list : List EntryValue) → entries blocks ≡ list → Answer blocks fingerprint limits
  rules [] is = refused blocks fingerprint limits NoEntry (λ same. absurd cc) is (kept_none blocks limits 1)
  rules (entry ∷ []) is = rule_3 entry is
  rules (entry ∷ other ∷ more) is =
      let two : 2 ≤ length (entries blocks) = omega (arith, ap length is) in
      refused blocks fingerprint limits TwoEntries (λ same. absurd cc) two (some_entry blocks entry (other ∷ more) is limits)

pub some_answer : (blocks : List PlacedBlock) (fingerprint : List ℕ) (limits : StoreLimits)
    → (answer : Result ProgramValue LoadRefusal) × (answer ≢ Err NoMemory) × Loads blocks fingerprint limits answer
some_answer blocks fingerprint limits = rules blocks fingerprint limits (entries blocks) refl
