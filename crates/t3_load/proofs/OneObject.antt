-- An image has one list of objects, and these have no more bytes or elements than objects may have.
use Rattle.std.proofs.Common.{◌≡◌, ℕ, ◌<◌, ◌^◌, ◌&&◌, Bool, true, false, not, nat_lt, cond, List, [], ◌∷◌, Option, None, Some, refl, sym, ◌∙◌, subst, arith}
use Rattle.std.specs.Prelude.{option_map}
use Rattle.std.specs.List.{find}
use Rattle.std.proofs.lemmas.Bool.{ltb-true}
use Rattle.std.proofs.lemmas.List.Elements.{All-nil, All-cons}
use Rattle.t3_store.specs.Value.{HasFittingLength, new_value}
use Rattle.t3_store.specs.declared.new_object.NewObject.{NewObject}
use Rattle.t3_store.specs.declared.new_object.NewObject.TheVariants as new
use Rattle.t3_load.specs.declared.kinds.MetaKind.{MetaKind}
use Rattle.t3_load.specs.declared.kinds.MetaKind.TheVariants as kinds
use Rattle.t3_load.specs.declared.objects.ImageObject.{ImageObject}
use Rattle.t3_load.specs.Layout.{BeginsObject}
use Rattle.t3_load.specs.Rules.{first_bad, is_object_number}
use Rattle.t3_load.specs.Statics.{StaticValue, IsObjectOf, AreObjectsOf}
use Rattle.t3_load.specs.Inner.Halves.{IsMade, AreMade}
use Rattle.t3_load.proofs.Reading.{at_most_one}
use Rattle.t3_load.proofs.ReadObjects.{object_reads}

one_of : (kind : ℕ → Option MetaKind) (static : StaticValue) (x y : ImageObject) → IsObjectOf kind static x → IsObjectOf kind static y
    → x ≡ y
one_of kind static x y a b =
    let metaclass : a.metaclass ≡ b.metaclass = cc (sym a.of ∙ b.of) in
    let object = at_most_one (object_reads b.metaclass static.bytes) x.object y.object
    (subst (λ k. BeginsObject k x.object static.bytes) metaclass a.begins) b.begins in
    let number = a.number ∙ sym b.number in
    let transient = a.transient ∙ sym b.transient in
    λ i. record { number = number i; transient = transient i; object = object i }

-- an image has one list of objects
pub one_list_of : (kind : ℕ → Option MetaKind) (statics : List StaticValue) (xs ys : List ImageObject) → AreObjectsOf kind statics xs
    → AreObjectsOf kind statics ys → xs ≡ ys
one_list_of kind [] [] [] a b = refl
one_list_of kind [] [] (y ∷ ys) a b = absurd b
one_list_of kind [] (x ∷ xs) ys a b = absurd a
one_list_of kind (s ∷ statics) [] ys a b = absurd a
one_list_of kind (s ∷ statics) (x ∷ xs) [] a b = absurd b
one_list_of kind (s ∷ statics) (x ∷ xs) (y ∷ ys) a b =
    λ i. one_of kind s x y a.0 b.0 i ∷ one_list_of kind statics xs ys a.1 b.1 i

-- ---- and it has no more bytes or elements than an object may have

fitting : (kind : MetaKind) (object : NewObject) (bytes : List ℕ) → BeginsObject kind object bytes → HasFittingLength (new_value object)
fitting kinds.Tads (new.Tads supers class props) bytes begins = tt
fitting kinds.Text (new.Text text) bytes begins = omega (arith, begins.few)
fitting kinds.List (new.List items) bytes begins = omega (arith, begins.few)
fitting kinds.Vector (new.Vector items) bytes begins = omega (arith, begins.listed.few)
fitting kind object bytes begins = absurd begins

number_within : (n : ℕ) → not (is_object_number n) ≡ false → (0 < n) × (n < 2 ^ 31)
number_within n e = by_test (nat_lt 0 n) refl (nat_lt n (2 ^ 31)) refl e
  where
    by_test : (a : Bool) → nat_lt 0 n ≡ a → (b : Bool) → nat_lt n (2 ^ 31) ≡ b → not (a && b) ≡ false → (0 < n) × (n < 2 ^ 31)
    by_test true p true q e = (ltb-true 0 n p, ltb-true n (2 ^ 31) q)
    by_test true p false q e = absurd cc
    by_test false p b q e = absurd cc

-- the objects of an image of which none has a bad number
pub are_made : (kind : ℕ → Option MetaKind) (statics : List StaticValue) (objects : List ImageObject) → AreObjectsOf kind statics objects
    → first_bad statics ≡ None → AreMade objects
are_made kind [] [] are none = All-nil IsMade
are_made kind [] (o ∷ objects) are none = absurd are
are_made kind (s ∷ statics) [] are none = absurd are
are_made kind (s ∷ statics) (o ∷ objects) are none =
    by_test (λ none. are_made kind statics objects are.1 none) (not (is_object_number s.number)) refl none
  where
    by_test : (first_bad statics ≡ None → AreMade objects)
        → (b : Bool) → not (is_object_number s.number) ≡ b
        → option_map (λ (x : StaticValue). x.number)
        (cond b (Some s) (find (λ (x : StaticValue). not (is_object_number x.number)) statics)) ≡ None
        → AreMade (o ∷ objects)
    by_test further true t none = absurd cc
    by_test further false t none =
        let within = number_within s.number t in
        All-cons IsMade o objects
        (record {
          above = omega (arith, within.0, are.0.number);
          below = omega (arith, within.1, are.0.number);
          fits = fitting are.0.metaclass o.object s.bytes are.0.begins;
        }) (further none)
