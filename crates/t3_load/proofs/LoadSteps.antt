-- How the rules that are kept one after the other make a program of an image, or its refusal.
use Rattle.std.proofs.Common.{◌≡◌, ℕ, zero, suc, ◌<◌, ◌^◌, ◌⊎◌, Bool, true, false, List, [], ◌∷◌, Option, Result, Ok, Err, nat_eq, sym, ap, ◌∙◌, subst, inl, inr, arith}
use Rattle.std.specs.Prelude.{IsTrue, None, Contains}
use Rattle.std.specs.Result.{IsErrAnd}
use Rattle.std.specs.List.{IsDistinct}
use Rattle.std.proofs.lemmas.List.Elements.{All-map}
use Rattle.t3_image_read.specs.declared.image.PlacedBlock.{PlacedBlock}
use Rattle.t3_store.specs.Value.{Objects}
use Rattle.t3_store.specs.Store.{AreLimits, AreBelow}
use Rattle.t3_store.specs.Whole.{IsWhole, IsAcyclic, supers_among}
use Rattle.t3_store.specs.declared.limits.StoreLimits.{StoreLimits}
use Rattle.t3_load.specs.ImageObjects.{object_numbers}
use Rattle.t3_load.specs.declared.objects.ImageObject.{ImageObject}
use Rattle.t3_load.specs.declared.kinds.MetaKind.{MetaKind}
use Rattle.t3_load.specs.declared.refusal.LoadRefusal.{LoadRefusal}
use Rattle.t3_load.specs.declared.refusal.LoadRefusal.TheVariants.{NoMemory}
use Rattle.t3_load.specs.Names.{metas_in}
use Rattle.t3_load.specs.Statics.{StaticValue, statics_in, kind_at, AreObjectsOf}
use Rattle.t3_load.specs.ImageObjects.{supers_by, lacks_super, has_transient_super, is_past, IsHalf, value_of}
use Rattle.t3_load.specs.Rules.{Breaks, KeepsRules, AreObjectsIn, first_by, rule_of}
use Rattle.t3_load.specs.Loading.{ProgramValue, Loads, CanStart, AreSound, IsSound, next_above}
use Rattle.t3_load.specs.Inner.Deciding.{IsFirstBroken}
use Rattle.t3_load.specs.Inner.Halves.{AreMade, AreHalves}
use Rattle.t3_load.proofs.RuleSteps.{kept_one, kept_both}
use Rattle.t3_load.proofs.SuperRules.{of_these}
use Rattle.t3_load.proofs.ByNumber.{half_below, halves_apart, bounded}
use Rattle.t3_load.proofs.Starting.{all_whole, among_both, persistent_whole, within_limits}

-- a refusal behind rules that are kept
pub refuses : (r : Result ProgramValue LoadRefusal) (blocks : List PlacedBlock) (fingerprint : List ℕ) (limits : StoreLimits)
    (from until : ℕ)
    (why : LoadRefusal) → KeepsRules blocks limits 1 from → (why ≡ NoMemory) ⊎ IsFirstBroken blocks from until why
    → IsErrAnd r (λ found. found ≡ why) → Loads blocks fingerprint limits r
refuses (Ok program) blocks fingerprint limits from until why kept decided is = absurd is
refuses (Err found) blocks fingerprint limits from until why kept (inl none) is = inl (is ∙ none)
refuses (Err found) blocks fingerprint limits from until why kept (inr first) is =
    subst (λ w. (w ≡ NoMemory) ⊎ (Breaks blocks limits w × KeepsRules blocks limits 1 (rule_of w))) (sym is)
    (inr (first.broken limits, kept_both blocks limits 1 from (rule_of why) kept (first.kept limits)))

-- want of memory
pub wants : (r : Result ProgramValue LoadRefusal) (blocks : List PlacedBlock) (fingerprint : List ℕ) (limits : StoreLimits)
    → IsErrAnd r (λ found. found ≡ NoMemory) → Loads blocks fingerprint limits r
wants (Ok program) blocks fingerprint limits is = absurd is
wants (Err found) blocks fingerprint limits is = inl is

-- rule 13 is kept
pub room_kept : (blocks : List PlacedBlock) (objects : List ImageObject) (limits : StoreLimits) → AreObjectsIn blocks objects
    → is_past limits objects ≡ false → KeepsRules blocks limits 13 14
room_kept blocks objects limits are fits =
    kept_one blocks limits 13 (λ why of broken.
    let past : IsTrue (is_past limits objects) =
    of_these blocks objects (λ os. IsTrue (is_past limits os)) are (subst (λ w. Breaks blocks limits w) of broken) in absurd cc)

-- each object of a half is one with which bytes begin
sound : (kind : ℕ → Option MetaKind) (statics : List StaticValue) (objects : List ImageObject) → AreObjectsOf kind statics objects
    → (object : ImageObject) → Contains objects object → IsSound (value_of object)
sound kind [] [] are object there = absurd (omega (arith, there.1))
sound kind [] (o ∷ objects) are object there = absurd are
sound kind (s ∷ statics) [] are object there = absurd are
sound kind (s ∷ statics) (o ∷ objects) are object (zero, less, is) =
    record { metaclass = are.0.metaclass; object = o.object; bytes = s.bytes; begins = are.0.begins; is = ap value_of is }
sound kind (s ∷ statics) (o ∷ objects) are object (suc k, less, is) = sound kind statics objects are.1 object (k, omega (arith, less), is)

half_sound : (blocks : List PlacedBlock) (objects : List ImageObject) (transient : Bool) (half : Objects) → AreObjectsIn blocks objects
    → IsHalf transient objects half → AreSound half
half_sound blocks objects transient half are is n value held =
    let among = is.only n value held in
    subst IsSound among.is (sound (kind_at (metas_in blocks)) (statics_in blocks) objects are among.object among.among)

-- a store can be begun with the halves of such objects
pub can_start : (blocks : List PlacedBlock) (objects : List ImageObject) (limits : StoreLimits) (first passing : Objects) (next : ℕ)
    → AreLimits limits → AreObjectsIn blocks objects → AreMade objects → IsDistinct nat_eq (object_numbers objects)
    → first_by (lacks_super objects) objects ≡ None → IsAcyclic (supers_by objects) → first_by (has_transient_super objects) objects ≡ None
    → is_past limits objects ≡ false → AreHalves objects first passing → next ≡ next_above (object_numbers objects)
    → CanStart limits first passing next
can_start blocks objects limits first passing next limited are made distinct there acyclic persistent room halves next_is =
    let whole = all_whole objects there acyclic in
    let within = within_limits limits objects room in
    let both : supers_among first passing ≡ supers_by objects =
    λ i n. among_both objects first passing distinct (halves.each false) (halves.each true) n i in
    let below = bounded (object_numbers objects) 0 (2 ^ 31) (omega arith)
    (All-map (λ n. n < 2 ^ 31) (λ (o : ImageObject). o.number) objects (λ k d less. (made k d less).below)) in
    record {
      limits_are = limited;
      next_is = (omega (arith, next_is), omega (arith, next_is, below));
      first_below = subst (λ n. AreBelow n first) (sym next_is) (half_below false objects first (halves.each false));
      passing_below = subst (λ n. AreBelow n passing) (sym next_is) (half_below true objects passing (halves.each true));
      apart = halves_apart objects first passing distinct (halves.each false) (halves.each true);
      whole = persistent_whole objects first distinct (halves.each false) persistent whole;
      both = subst IsWhole (sym both) whole;
      objects = omega (arith, halves.count, within.0);
      units = omega (arith, halves.units, within.1);
      first_sound = half_sound blocks objects false first are (halves.each false);
      passing_sound = half_sound blocks objects true passing are (halves.each true);
    }
