-- A sound state's bytes are fewer than there may be.
use Rattle.std.proofs.Common.{◌≡◌, Bool, ℕ, suc, ◌+◌, ◌*◌, ◌≤◌, List, [], ◌∷◌, ◌++◌, length, refl, ap, arith}
use Rattle.std.specs.Prelude.{sum_by}
use Rattle.std.specs.FinMap.{entries, len, len-entries}
use Rattle.std.specs.List.{flat_map}
use Rattle.std.proofs.lemmas.List.{length-append}
use Rattle.std.proofs.lemmas.List.Concat.{flat_map-cons}
use Rattle.std.proofs.lemmas.List.Sums.{sum_by-cons}
use Rattle.std.proofs.lemmas.Grind.{div_ceil_times}
use Rattle.sha2.specs.Sha256.{sha256}
use Rattle.sha2.proofs.Facts256.{length-sha256}
use Rattle.t3_holder.specs.NumberText.{little_endian}
use Rattle.t3_holder.specs.HolderText.{raw_text, bits_of}
use Rattle.t3_holder.specs.declared.holder.Holder.{Holder}
use Rattle.t3_holder.proofs.Numbers.{length-little_endian}
use Rattle.t3_undo.specs.declared.key.Key.{Key}
use Rattle.t3_undo.specs.declared.key.Key.TheVariants as keys
use Rattle.t3_tables.specs.declared.pair.Pair.{Pair}
use Rattle.t3_store.specs.Value.{Value, Objects, Tads, Text, Items, Vector, Table, units_of}
use Rattle.t3_tadsobj.specs.Props.{PropMap}
use Rattle.t3_undo.specs.Units.{eights, key_units}
use Rattle.t3_snapshot.specs.Layout.{holder_text, holder_of_key, bytes_text, key_text, entry_text, super_text, prop_text, class_flag, class_text, counted_text, value_text, object_text, IsSpellable, AreInTurn}
use Rattle.t3_snapshot.specs.State.{state_limit, signature, Version, One, head_text, body_text, with_digest, saved, IsSoundState, Spells}
use Rattle.t3_snapshot.proofs.OneState.{signature_long}

holder_long : (h : Holder) → length (holder_text h) ≡ 5
unfolding holder_text raw_text
holder_long h = ap suc (length-little_endian 4 (bits_of h))

holders_long : (items : List Holder) → length (flat_map holder_text items) ≡ 5 * length items
holders_long [] = refl
holders_long (h ∷ items) =
    omega (
      arith,
      ap length (flat_map-cons holder_text h items),
      length-append (holder_text h) (flat_map holder_text items),
      holder_long h,
      holders_long items,
    )

list_long : (items : List Holder) → length (counted_text 2 holder_text items) ≡ 2 + 5 * length items
unfolding counted_text
list_long items =
    omega (
      arith,
      length-append (little_endian 2 (length items)) (flat_map holder_text items),
      length-little_endian 2 (length items),
      holders_long items,
    )

bytes_long : (bytes : List ℕ) → length (bytes_text bytes) ≤ 2 + 8 * eights bytes
unfolding bytes_text
bytes_long bytes =
    let most = (div_ceil_times (length bytes) 8 (omega arith)).0 in
    omega (arith, length-append (little_endian 2 (length bytes)) bytes, length-little_endian 2 (length bytes), most)

key_long : (key : Key) → length (key_text key) ≤ 6 * key_units key + 2 * key_units key
unfolding key_text
key_long keys.Nil = omega (arith, holder_long (holder_of_key keys.Nil))
key_long keys.True = omega (arith, holder_long (holder_of_key keys.True))
key_long (keys.Int n) = omega (arith, holder_long (holder_of_key (keys.Int n)))
key_long (keys.Enum n) = omega (arith, holder_long (holder_of_key (keys.Enum n)))
key_long (keys.Prop n) = omega (arith, holder_long (holder_of_key (keys.Prop n)))
key_long (keys.Func n) = omega (arith, holder_long (holder_of_key (keys.Func n)))
key_long (keys.Obj n) = omega (arith, holder_long (holder_of_key (keys.Obj n)))
key_long (keys.Text bytes) = omega (arith, bytes_long bytes)

key_some : (key : Key) → 1 ≤ key_units key
key_some keys.Nil = omega arith
key_some keys.True = omega arith
key_some (keys.Int n) = omega arith
key_some (keys.Enum n) = omega arith
key_some (keys.Prop n) = omega arith
key_some (keys.Func n) = omega arith
key_some (keys.Obj n) = omega arith
key_some (keys.Text bytes) = omega arith

entry_long : (pair : Pair) → length (entry_text pair) ≤ 13 * key_units pair.key
unfolding entry_text
entry_long pair =
    omega (arith, length-append (key_text pair.key) (holder_text pair.value), key_long pair.key, holder_long pair.value, key_some pair.key)

entries_long : (pairs : List Pair) → length (flat_map entry_text pairs) ≤ 13 * sum_by (λ p. key_units p.key) pairs
entries_long [] = omega arith
entries_long (pair ∷ pairs) =
    omega (
      arith,
      ap length (flat_map-cons entry_text pair pairs),
      length-append (entry_text pair) (flat_map entry_text pairs),
      entry_long pair,
      entries_long pairs,
      sum_by-cons (λ (p : Pair). key_units p.key) pair pairs,
    )

supers_long : (supers : List ℕ) → length (flat_map super_text supers) ≡ 4 * length supers
unfolding super_text
supers_long [] = refl
supers_long (n ∷ supers) =
    omega (
      arith,
      ap length (flat_map-cons super_text n supers),
      length-append (super_text n) (flat_map super_text supers),
      length-little_endian 4 n,
      supers_long supers,
    )

prop_long : (prop : ℕ × Holder) → length (prop_text prop) ≡ 7
unfolding prop_text
prop_long prop =
    omega (arith, length-append (little_endian 2 prop.0) (holder_text prop.1), length-little_endian 2 prop.0, holder_long prop.1)

props_long : (props : List (ℕ × Holder)) → length (flat_map prop_text props) ≡ 7 * length props
props_long [] = refl
props_long (prop ∷ props) =
    omega (
      arith,
      ap length (flat_map-cons prop_text prop props),
      length-append (prop_text prop) (flat_map prop_text props),
      prop_long prop,
      props_long props,
    )

tads_long : (supers : List ℕ) (class : Bool) (props : PropMap)
    → length (value_text (Tads supers class props)) ≤ 10 + 13 * (length supers + len props)
unfolding value_text counted_text class_text
tads_long supers class props =
    let flags : List ℕ = little_endian 2 (class_flag class) in
    let supers_text : List ℕ = little_endian 2 (length supers) ++ flat_map super_text supers in
    let props_text : List ℕ = little_endian 2 (length (entries props)) ++ flat_map prop_text (entries props) in
    omega (
      arith,
      length-append flags (supers_text ++ props_text),
      length-little_endian 2 (class_flag class),
      length-append supers_text props_text,
      length-append (little_endian 2 (length supers)) (flat_map super_text supers),
      length-little_endian 2 (length supers),
      supers_long supers,
      length-append (little_endian 2 (length (entries props))) (flat_map prop_text (entries props)),
      length-little_endian 2 (length (entries props)),
      props_long (entries props),
      len-entries props,
    )

value_long : (value : Value) → IsSpellable value → length (value_text value) ≤ 10 + 13 * units_of value
unfolding value_text counted_text
value_long (Tads supers class props) fits = omega (arith, tads_long supers class props)
value_long (Text bytes) fits = omega (arith, bytes_long bytes)
value_long (Items items) fits = omega (arith, list_long items)
value_long (Vector items) fits = omega (arith, list_long items)
value_long (Table pairs default) fits =
    omega (
      arith,
      length-append (holder_text default) (little_endian 4 (length pairs) ++ flat_map entry_text pairs),
      holder_long default,
      length-append (little_endian 4 (length pairs)) (flat_map entry_text pairs),
      length-little_endian 4 (length pairs),
      entries_long pairs,
    )

object_long : (o : ℕ × Value) → IsSpellable o.1 → length (object_text o) ≤ 14 + 13 * units_of o.1
unfolding object_text
object_long o fits = omega (arith, length-append (little_endian 4 o.0) (value_text o.1), length-little_endian 4 o.0, value_long o.1 fits)

objects_long : (last next : ℕ) (os : List (ℕ × Value)) → AreInTurn last next os
    → length (flat_map object_text os) ≤ 14 * length os + 13 * sum_by (λ e. units_of e.1) os
objects_long last next [] turn = omega arith
objects_long last next (o ∷ os) turn =
    omega (
      arith,
      ap length (flat_map-cons object_text o os),
      length-append (object_text o) (flat_map object_text os),
      object_long o turn.2,
      objects_long o.0 next os turn.3,
      sum_by-cons (λ (e : ℕ × Value). units_of e.1) o os,
    )

saved_long : (version : Version) (state : Objects) (next : ℕ) (fingerprint : List ℕ) → length fingerprint ≡ 32 → IsSoundState state next
    → length (saved version state fingerprint next) ≤ state_limit
unfolding saved with_digest head_text body_text
saved_long One state next fingerprint long sound =
    let objects : List ℕ = flat_map object_text (entries state) in
    let counted : List ℕ = little_endian 4 (length (entries state)) ++ objects in
    let body : List ℕ = little_endian 4 next ++ counted in
    let head : List ℕ = signature ++ (little_endian 2 1 ++ fingerprint) in
    omega (
      arith,
      length-append (head ++ body) (sha256 (head ++ body)),
      length-sha256 (head ++ body),
      length-append head body,
      length-append signature (little_endian 2 1 ++ fingerprint),
      length-append (little_endian 2 1) fingerprint,
      long,
      signature_long,
      length-little_endian 2 1,
      length-append (little_endian 4 next) counted,
      length-little_endian 4 next,
      length-append (little_endian 4 (length (entries state))) objects,
      length-little_endian 4 (length (entries state)),
      objects_long 0 next (entries state) sound.turn,
      len-entries state,
      sound.complete.objects,
      sound.complete.units,
    )

-- a sound state's bytes spell it
pub read_back : (version : Version) (state : Objects) (next : ℕ) (fingerprint : List ℕ) → length fingerprint ≡ 32 → IsSoundState state next
    → Spells state next fingerprint (saved version state fingerprint next)
read_back version state next fingerprint long sound =
    record { version = version; sound = sound; size = saved_long version state next fingerprint long sound; is = refl }
