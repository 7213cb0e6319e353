-- That a tads-object's number is among those of the objects, for the trait's law.
use Rattle.std.proofs.Common.{◌≡◌, ℕ, Bool, true, false, List, [], ◌∷◌, Some, refl, sym, nat_eq, if◌then◌else◌, option_and_then, eqb-true, arith}
use Rattle.std.specs.Prelude.{IsSome, Contains}
use Rattle.std.proofs.lemmas.List.Elements.{Contains-append_right}
use Rattle.t3_store.specs.Value.{supers_of}
use Rattle.t3_load.specs.ImageObjects.{object_numbers}
use Rattle.t3_load.specs.declared.objects.ImageObject.{ImageObject}
use Rattle.t3_load.specs.ImageObjects.{supers_by, object_of, value_of}

pub has_number : (objects : List ImageObject) (number : ℕ) → IsSome (supers_by objects number)
    → Contains (object_numbers objects) number
has_number [] number live = absurd cc
has_number (object ∷ objects) number live = by_test (λ live. has_number objects number live) (nat_eq number object.number) refl live
  where
    by_test : (IsSome (supers_by objects number) → Contains (object_numbers objects) number) → (b : Bool) → nat_eq number object.number ≡ b
        → IsSome (option_and_then (λ (o : ImageObject). supers_of (value_of o)) (if b then Some object else object_of objects number))
        → Contains (object.number ∷ object_numbers objects) number
    by_test further true is live = (0, omega arith, sym (eqb-true number object.number is))
    by_test further false is live =
        Contains-append_right (object.number ∷ []) (object_numbers objects) number (further live)
