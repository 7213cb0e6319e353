-- The exception of a fault is made of good values.
use Rattle.std.proofs.Common.{◌≡◌, ℕ, pos, zero, suc, ◌^◌, ◌<◌, ◌%◌, ◌&&◌, ◌==◌, Bool, true, false, cond, if◌then◌else◌, List, [], ◌∷◌, Option, Some, None, is_some, is_none, refl, sym, subst, ◌∙◌, arith}
use Rattle.std.specs.Prelude.{codes, option_and_then}
use Rattle.std.specs.Cmp.{nat_cmp_total, Equal-is}
use Rattle.std.specs.Ordering.{nat_cmp, eq_by_cmp}
use Rattle.std.specs.FinMap.{get, empty, from_entries, get-insert, get-empty, nat_cmp-IsAntisymmetric}
use Rattle.std.proofs.lemmas.Option.{none-some, same_Some}
use Rattle.t3_holder.specs.declared.holder.Holder.{Holder}
use Rattle.t3_holder.specs.declared.holder.Holder.TheVariants as holders
use Rattle.t3_blocks.specs.declared.items.Symbol.{Symbol}
use Rattle.t3_holder.specs.declared.holder.Raw.{Raw}
use Rattle.t3_load.specs.Symbols.{raw_of}
use Rattle.t3_store.specs.Value.{Value, supers_of}
use Rattle.t3_store.specs.Store.{StoreValue, either}
use Rattle.t3_ops.specs.declared.fault.Fault.{Fault}
use Rattle.t3_ops.specs.declared.fault.Fault.TheVariants as faulty
use Rattle.t3_ops.specs.Faults.{fault_number}
use Rattle.t3_object_instructions.specs.Search.{is_persistent_tads}
use Rattle.t3_object_instructions.specs.Symbols.{as_property, unless_zero, object_named, property_named}
use Rattle.t3_object_instructions.specs.Exceptions.{exception_supers, numbered, exception_of}
use Rattle.t3_snapshot.specs.State.{named_as_keys}
use Rattle.t3_snapshot.specs.Good.{IsGoodProp, HasGoodProps, AreGoodSupers}
use Rattle.t3_good_values.specs.Values.{IsClosed, IsGoodNew}
use Rattle.t3_good_values.specs.Stores.{IsGoodStore}
use Rattle.t3_good_instructions.proofs.Frames.{number-fits}

module _ (Good : Holder → Type 0) (closed : IsClosed Good) where
  not-both : (first : Bool) → first && false ≡ true → ⊥
  not-both true is = absurd cc
  not-both false is = absurd cc

  -- a persistent tads-object has a number that was given
  good-live : (store : StoreValue) (number : ℕ) → IsGoodStore Good store → is_persistent_tads store number ≡ true → Good (holders.Obj number)
  good-live store number has is = by (get store.persistent number) (get store.transient number) refl refl is
    where
      by : (own other : Option Value) → get store.persistent number ≡ own → get store.transient number ≡ other
          → is_some (option_and_then supers_of (either own other)) && is_none other ≡ true → Good (holders.Obj number)
      by (Some value) other there also is =
          let bounds = has.persistent.numbered number value there in
          let below = bounds.1 in
          let top = has.next.1 in
          closed.object number bounds.0 (omega (arith, below, top))
      by None (Some value) there also is = absurd (not-both (is_some (supers_of value)) is)
      by None None there also is = absurd cc

  good-supers : (store : StoreValue) (named : Option ℕ) → IsGoodStore Good store → AreGoodSupers Good (exception_supers store named)
  good-supers store None has = record { few = omega arith; each = tt }
  good-supers store (Some number) has = by (is_persistent_tads store number) refl
    where
      by : (is : Bool) → is_persistent_tads store number ≡ is → AreGoodSupers Good (if is then number ∷ [] else [])
      by true is = record { few = omega arith; each = (good-live store number has is, tt) }
      by false is = record { few = omega arith; each = tt }

  few-faults : (fault : Fault) → fault_number fault < 23
  few-faults faulty.NotObject = omega arith
  few-faults faulty.ArgCount = omega arith
  few-faults faulty.Kind = omega arith
  few-faults faulty.DivideByZero = omega arith
  few-faults faulty.Overflow = omega arith
  few-faults faulty.IndexRange = omega arith
  few-faults faulty.NoMethod = omega arith
  few-faults faulty.NoBuiltin = omega arith
  few-faults faulty.StackFull = omega arith
  few-faults faulty.TextLong = omega arith
  few-faults faulty.ListLong = omega arith
  few-faults faulty.NoSay = omega arith
  few-faults faulty.CompareLong = omega arith
  few-faults faulty.KeyKind = omega arith
  few-faults faulty.CannotSet = omega arith
  few-faults faulty.CannotMake = omega arith
  few-faults faulty.FileName = omega arith
  few-faults faulty.NoSnapshot = omega arith
  few-faults faulty.BadSnapshot = omega arith
  few-faults faulty.Stale = omega arith
  few-faults faulty.BadConstant = omega arith
  few-faults faulty.TransientSuper = omega arith

  good-number : (fault : Fault) → Good (holders.Int (pos (fault_number fault)))
  good-number fault = let few = few-faults fault in closed.integer (pos (fault_number fault)) (number-fits (fault_number fault) (omega (arith, few)))

  good-numbered : (named : Option ℕ) (fault : Fault) → ((number : ℕ) → named ≡ Some number → (0 < number) × (number < 2 ^ 16))
      → HasGoodProps Good (from_entries (numbered named fault))
  good-numbered None fault names number value is = absurd (none-some value (sym (get-empty nat_cmp number) ∙ is))
  good-numbered (Some property) fault names number value is =
      by (eq_by_cmp nat_cmp number property) refl
      (sym (get-insert nat_cmp_total empty property (holders.Int (pos (fault_number fault))) number) ∙ is)
    where
      by : (same : Bool) → eq_by_cmp nat_cmp number property ≡ same
          → cond same (Some (holders.Int (pos (fault_number fault)))) (get (empty {R = nat_cmp}) number) ≡ Some value
          → IsGoodProp Good number value
      by false same there = absurd (none-some value (sym (get-empty nat_cmp number) ∙ there))
      by true same there =
          let number_is : number ≡ property = nat_cmp-IsAntisymmetric number property ((Equal-is (nat_cmp number property)).0 same) in
          let named = names property refl in
          record {
            named = subst (λ n. 0 < n) (sym number_is) named.0;
            fits = subst (λ n. n < 2 ^ 16) (sym number_is) named.1;
            value = subst Good (same_Some (holders.Int (pos (fault_number fault))) value there) (good-number fault);
          }

  property-named : (raw : Option Raw) (number : ℕ) → option_and_then as_property raw ≡ Some number → (0 < number) × (number < 2 ^ 16)
  property-named None number is = absurd cc
  property-named (Some raw) number is = by (raw.tag == 6) (raw.bits % 2 ^ 16) (omega arith) is
    where
      by : (tagged : Bool) (bits : ℕ) → bits < 2 ^ 16 → (if tagged then unless_zero bits else None) ≡ Some number → (0 < number) × (number < 2 ^ 16)
      by false bits fits is = absurd cc
      by true zero fits is = absurd cc
      by true (suc bits) fits is =
          let same : suc bits ≡ number = same_Some (suc bits) number is in (omega (arith, same), omega (arith, same, fits))

  pub good-exception_of : (symbols : List Symbol) (store : StoreValue) (fault : Fault) → IsGoodStore Good store
      → IsGoodNew Good (exception_of symbols store fault)
  unfolding named_as_keys
  good-exception_of symbols store fault has = record {
    parts = (
      good-supers store (object_named symbols (codes "RuntimeError")) has,
      good-numbered (property_named symbols (codes "errno_")) fault (property-named (raw_of symbols (codes "errno_"))),
    );
    keyless = refl;
  }
