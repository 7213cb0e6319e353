-- Objects read one after the other, and what the builder has of them.
use Rattle.std.proofs.Common.{◌≡◌, ℕ, ◌+◌, ◌<◌, ◌≤◌, ◌^◌, Bool, true, false, List, [], ◌∷◌, ◌++◌, Some, None, IsTrue, refl, sym, ap, subst, ◌∙◌, inr, append_assoc, arith}
use Rattle.std.specs.FinMap.{get, insert, from_entries}
use Rattle.std.specs.List.{flat_map}
use Rattle.std.proofs.lemmas.List.{length-append, append-nil}
use Rattle.std.proofs.lemmas.List.Concat.{flat_map-cons}
use Rattle.std.proofs.lemmas.Grind.{flat_map-append}
use Rattle.t3_holder.specs.NumberText.{AreBytes}
use Rattle.t3_store.specs.Value.{Value, Objects}
use Rattle.t3_snapshot.specs.Layout.{object_text, IsSpellable, AreInTurn}
use Rattle.t3_snapshot.specs.State.{named_in, named_as_keys}
use Rattle.t3_snapshot.specs.Refusal.{last_number, HasObjectInTurn}
use Rattle.t3_snapshot.specs.Building.{IsOver, IsLost, IsKept, HasObjects, CanAdd, AddsObject}
use Rattle.t3_snapshot.specs.Inner.Body.{AddsTo, Adds, HasLast, HasRead, StopsAt}
use Rattle.t3_snapshot.specs.Inner.Reading.{object_at}
use Rattle.t3_snapshot.specs.declared.builder.StateBuilder.{StateBuilder}
use Rattle.t3_snapshot.proofs.Turn.{turn_more, last_more, last_from, is_new, state_more, lost_more, texts_more, IsNext, object_takes, goes_not_on}

-- ---- the builder

pub builder_starts : (next : ℕ) (builder : StateBuilder) → builder.next ≡ next → IsKept next builder.state [] builder.is_kept
    → builder.named.items ≡ [] → builder.named_as_keys.items ≡ [] → HasObjects next [] builder
builder_starts next builder next_is so_far holders keys =
    record { next_is = next_is; turn = tt; so_far = so_far; holders = holders; keys = keys }

kept_fits : (next : ℕ) (state : Objects) (objects : List (ℕ × Value)) (b : Bool) → IsKept next state objects b → IsTrue b
    → (state ≡ from_entries objects) × (next ≤ 2 ^ 31)
kept_fits next state objects true kept so = kept
kept_fits next state objects false kept so = absurd cc

pub kept_number : (builder : StateBuilder) (n : ℕ) → CanAdd builder n → IsTrue builder.is_kept → (0 < n) × (n < 2 ^ 31)
kept_number builder n can so =
    let k = kept_fits can.next builder.state can.objects builder.is_kept can.has.so_far so in
    let from = last_from 0 can.next can.objects can.has.turn in
    (omega (arith, can.comes.above), omega (arith, can.comes.below, k.1))

pub kept_new : (builder : StateBuilder) (n : ℕ) → CanAdd builder n → IsTrue builder.is_kept → get builder.state n ≡ None
kept_new builder n can so =
    let k = kept_fits can.next builder.state can.objects builder.is_kept can.has.so_far so in
    ap (λ m. get m n) k.0 ∙ is_new can.next can.objects n can.has.turn can.comes.above

-- an object more
kept_more : (next : ℕ) (old new : Objects) (objects : List (ℕ × Value)) (a b : Bool) (n : ℕ) (value : Value) → AreInTurn 0 next objects
    → last_number 0 objects < n
    → IsKept next old objects a → AddsTo a b old new n value → IsKept next new (objects ++ (n, value) ∷ []) b
kept_more next old new objects false b n value turn above lost adds =
    subst (IsKept next new (objects ++ (n, value) ∷ [])) (sym adds)
    (subst (IsLost next) (sym (state_more next objects n value turn above))
    (lost_more next (from_entries objects) n value (is_new next objects n turn above) lost))
kept_more next old new objects true true n value turn above kept adds =
    (adds ∙ ap (λ m. insert m n value) kept.0 ∙ sym (state_more next objects n value turn above), kept.1)
kept_more next old new objects true false n value turn above kept adds =
    inr (subst IsOver (ap (λ m. insert m n value) kept.0 ∙ sym (state_more next objects n value turn above)) adds)

more_of : {A : Type 0} (f : ℕ × Value → List A) (objects : List (ℕ × Value)) (o : ℕ × Value) (old new : List A) → old ≡ flat_map f objects
    → new ≡ old ++ f o
    → new ≡ flat_map f (objects ++ o ∷ [])
more_of f objects o old new is more =
    more ∙ ap (λ x. x ++ f o) is ∙ ap (λ x. flat_map f objects ++ x) (sym (flat_map-cons f o [] ∙ append-nil (f o)))
    ∙ sym (flat_map-append f objects (o ∷ []))

-- whichever objects it had, the builder has one more
pub adds_object : (old new : StateBuilder) (n : ℕ) (value : Value) → IsSpellable value → Adds old new n value → AddsObject old new n value
adds_object old new n value spellable adds = λ next objects has comes. record {
  next_is = adds.next ∙ has.next_is;
  turn = turn_more 0 next objects n value has.turn comes.above comes.below spellable;
  so_far = kept_more next old.state new.state objects old.is_kept new.is_kept n value has.turn comes.above has.so_far adds.adds;
  holders = more_of (λ object. named_in object.1) objects (n, value) _ _ has.holders adds.holders;
  keys = more_of (λ object. named_as_keys object.1) objects (n, value) _ _ has.keys adds.keys;
}

-- ---- the loop over the bytes

pub next_object : (last next : ℕ) (bytes : List ℕ) (o : ℕ × Value) (rest : List ℕ) → AreBytes bytes
    → object_at last next bytes ≡ Some (o, rest) → IsNext last next o
next_object last next bytes o rest are e = (object_takes last next bytes o rest are e).fits

pub can_add : (last next : ℕ) (builder : StateBuilder) (o : ℕ × Value) → HasLast next last builder → IsNext last next o → CanAdd builder o.0
can_add last next builder o before is = record {
  next = next;
  objects = before.objects;
  has = before.has;
  comes = record { above = subst (λ k. k < o.0) before.last_is is.above; below = is.below };
}

pub record IsTaking (next : ℕ) (bytes : List ℕ) (builder : StateBuilder) (last items : ℕ) (rest : List ℕ) : Type 0 where
  pub read : HasRead next bytes builder last items rest
  pub left : AreBytes rest

pub starts : (next : ℕ) (bytes : List ℕ) (builder : StateBuilder) → AreBytes bytes → HasObjects next [] builder
    → IsTaking next bytes builder 0 0 bytes
starts next bytes builder are has = record {
  read = record { objects = []; is = refl; count = refl; last_is = refl; has = has };
  left = are;
}

pub takes_more : (next : ℕ) (bytes : List ℕ) (old new : StateBuilder) (last items : ℕ) (rest : List ℕ) (n : ℕ) (value : Value)
    (after : List ℕ)
    → IsTaking next bytes old last items rest → object_at last next rest ≡ Some ((n, value), after) → AddsObject old new n value
    → IsTaking next bytes new n (items + 1) after
takes_more next bytes old new last items rest n value after taking e adds =
    let read = taking.read in
    let took = object_takes last next rest (n, value) after taking.left e in
    let above : last_number 0 read.objects < n = subst (λ k. k < n) read.last_is took.fits.above in
    record {
      read = record {
        objects = read.objects ++ (n, value) ∷ [];
        is = read.is ∙ ap (λ x. flat_map object_text read.objects ++ x) took.is
            ∙ sym (append_assoc (flat_map object_text read.objects) (object_text (n, value)) after)
            ∙ ap (λ x. x ++ after) (sym (texts_more read.objects (n, value)));
        count = length-append read.objects ((n, value) ∷ []) ∙ ap (λ k. k + 1) read.count;
        last_is = sym (last_more 0 read.objects n value);
        has = adds next read.objects read.has (record { above = above; below = took.fits.below });
      };
      left = took.left;
    }

pub stops : (next due : ℕ) (bytes : List ℕ) (builder : StateBuilder) (last items : ℕ) (rest : List ℕ) → next < 2 ^ 32 → items < due
    → IsTaking next bytes builder last items rest
    → object_at last next rest ≡ None → StopsAt next due bytes items
stops next due bytes builder last items rest fits less taking none =
    let read = taking.read in
    record {
      objects = read.objects;
      rest = rest;
      is = read.is;
      turn = read.has.turn;
      count = read.count;
      less = less;
      none = subst (λ k. ¬ HasObjectInTurn k next rest) read.last_is (goes_not_on last next rest fits none);
    }

pub before : (next : ℕ) (bytes : List ℕ) (builder : StateBuilder) (last items : ℕ) (rest : List ℕ)
    → IsTaking next bytes builder last items rest → HasLast next last builder
before next bytes builder last items rest taking =
    record { objects = taking.read.objects; has = taking.read.has; last_is = taking.read.last_is }
