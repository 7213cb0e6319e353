-- Which of the objects that stand in an image is the first to lack one.
use Rattle.std.proofs.Common.{◌≡◌, ℕ, ◌⊎◌, inl, inr, List, [], ◌∷◌, Option, None, Some, refl, ap, subst}
use Rattle.t3_load.specs.declared.kinds.MetaKind.{MetaKind}
use Rattle.t3_load.specs.declared.objects.ImageObject.{ImageObject}
use Rattle.t3_load.specs.Layout.{BeginsObject}
use Rattle.t3_pools.specs.First.{IsFirst}
use Rattle.t3_load.specs.Statics.{StaticValue, IsObjectOf, AreObjectsOf}
use Rattle.t3_load.proofs.Reading.{one_or_none}
use Rattle.t3_load.proofs.ReadObjects.{object_reads}

abbrev IsMadeOrNot : (ℕ → Option MetaKind) → StaticValue → Type 0
IsMadeOrNot kind static =
    ((object : ImageObject) × IsObjectOf kind static object) ⊎ ((object : ImageObject) → ¬ IsObjectOf kind static object)

made_or_not : (kind : ℕ → Option MetaKind) (static : StaticValue) → IsMadeOrNot kind static
made_or_not kind static = by_kind (kind static.metaclass) refl
  where
    by_kind : (o : Option MetaKind) → kind static.metaclass ≡ o → IsMadeOrNot kind static
    by_kind None e = inr (λ object is. let some = is.of in absurd cc)
    by_kind (Some metaclass) e =
        elim (one_or_none (object_reads metaclass static.bytes)) [
          | inl object ↦ inl (
            record { number = static.number; transient = static.transient; object = object.0 },
            record {
              number = refl;
              transient = refl;
              metaclass = metaclass;
              of = e;
              begins = object.1;
            },
          )
          | inr none ↦ inr (λ object is.
              let some = is.of in
              let same : is.metaclass ≡ metaclass = cc in
              none object.object (subst (λ k. BeginsObject k object.object static.bytes) same is.begins))
        ]

-- all objects that stand there, or the first that is none
pub objects_or_first : (kind : ℕ → Option MetaKind) (statics : List StaticValue)
    → ((objects : List ImageObject) × AreObjectsOf kind statics objects)
    ⊎ ((static : StaticValue) × IsFirst (λ s. (object : ImageObject) → ¬ IsObjectOf kind s object) statics static)
objects_or_first kind [] = inl ([], tt)
objects_or_first kind (static ∷ statics) =
    elim (made_or_not kind static) [
      | inr none ↦ inr (static, record { before = []; after = statics; is = refl; kept = tt; broken = none })
      | inl object ↦ elim (objects_or_first kind statics) [
        | inl rest ↦ inl (object.0 ∷ rest.0, (object.1, rest.1))
        | inr first ↦ inr (
          first.0,
          record {
            before = static ∷ first.1.before;
            after = first.1.after;
            is = ap (λ ss. static ∷ ss) first.1.is;
            kept = ((λ none. none object.0 object.1), first.1.kept);
            broken = first.1.broken;
          },
        )
      ]
    ]
