-- The objects of a trimmed state, and what is written of them.
use Rattle.std.proofs.Common.{◌≡◌, ℕ, zero, suc, ◌+◌, ◌<◌, ◌≤◌, ◌^◌, Bool, List, [], ◌∷◌, ◌++◌, length, map, take, Option, Some, None, IsSome, refl, sym, ap, subst, ◌∙◌, arith}
use Rattle.std.specs.Prelude.{unwrap_or, option_and_then, slice_get}
use Rattle.std.specs.FinMap.{get, entries, keys, get-entries, len-entries}
use Rattle.std.specs.List.{AllByRecursion, flat_map}
use Rattle.std.proofs.lemmas.List.{length-map}
use Rattle.std.proofs.lemmas.List.Concat.{flat_map-cons}
use Rattle.t3_holder.specs.NumberText.{little_endian}
use Rattle.t3_holder.specs.declared.holder.Holder.{Holder}
use Rattle.t3_holder.specs.declared.holder.Holder.TheVariants.{Nil}
use Rattle.t3_undo.specs.declared.cell.Cell.TheVariants.{Default, Elem}
use Rattle.t3_tables.specs.declared.pair.Pair.{Pair}
use Rattle.t3_store.specs.Value.{Value, Objects, Tads, Text, Items, Vector, Table, supers_of, is_class_at, props_at, text_of, items_in, length_of, entries_in, holder_at}
use Rattle.t3_tadsobj.specs.Props.{PropMap}
use Rattle.t3_snapshot.specs.Layout.{object_text, class_text, super_text, prop_text, counted_text, value_text, IsProp, AreCounted, AreInTurn, IsSpellable}
use Rattle.t3_snapshot.specs.State.{trimmed, trimmed_holder, trimmed_prop, trimmed_value, IsSoundState}
use Rattle.t3_snapshot.specs.Inner.Writing.{WritableAt, IsWritable, trimmed_text, tads_written, object_written}
use Rattle.t3_snapshot.proofs.Sorted.{mapped_are}
use Rattle.t3_snapshot.proofs.Entries.{entries_held}
use Rattle.t3_snapshot.proofs.Walk.{none_above}

abbrev pub trim : Objects → ℕ × Value → ℕ × Value
trim state e = (e.0, trimmed_value state e.1)

pub trimmed_entries_are : (state : Objects) → entries (trimmed state) ≡ map (trim state) (entries state)
unfolding trimmed
trimmed_entries_are state = mapped_are (trimmed_value state) state

abbrev pub IsThere : Objects → ℕ × Value → Type 0
IsThere state e = get state e.0 ≡ Some e.1

pub entries_there : (state : Objects) → AllByRecursion (IsThere state) (entries state)
entries_there state = entries_held state

-- what is written of each number is the text of its object
texts_written : (state : Objects) (es : List (ℕ × Value)) → AllByRecursion (IsThere state) es
    → flat_map (object_written state) (map (λ e. e.0) es) ≡ flat_map object_text (map (trim state) es)
unfolding object_written object_text
texts_written state [] there = refl
texts_written state (e ∷ es) there =
    flat_map-cons (λ n. little_endian 4 n ++ trimmed_text state (get state n)) e.0 (map (λ e. e.0) es)
    ∙ ap (λ o. (little_endian 4 e.0 ++ trimmed_text state o) ++ flat_map (object_written state) (map (λ e. e.0) es)) there.0
    ∙ ap (λ x. (little_endian 4 e.0 ++ value_text (trimmed_value state e.1)) ++ x) (texts_written state es there.1)
    ∙ sym (flat_map-cons object_text (trim state e) (map (trim state) es))

pub all_written : (state : Objects) → flat_map (object_written state) (keys state) ≡ flat_map object_text (entries (trimmed state))
all_written state = texts_written state (entries state) (entries_there state) ∙ ap (flat_map object_text) (sym (trimmed_entries_are state))

writable_each : (state : Objects) (last next : ℕ) (es : List (ℕ × Value)) → AllByRecursion (IsThere state) es
    → AreInTurn last next (map (trim state) es)
    → AllByRecursion (IsWritable state) (map (λ e. e.0) es)
writable_each state last next [] there turn = tt
writable_each state last next (e ∷ es) there turn =
    (subst (WritableAt state) (sym there.0) turn.2, writable_each state e.0 next es there.1 turn.3)

pub all_writable : (state : Objects) (next : ℕ) → IsSoundState (trimmed state) next → AllByRecursion (IsWritable state) (keys state)
all_writable state next sound =
    writable_each state 0 next (entries state) (entries_there state) (subst (AreInTurn 0 next) (trimmed_entries_are state) sound.turn)

above_each : (state : Objects) (last next least : ℕ) (es : List (ℕ × Value)) → least ≤ last → AreInTurn last next (map (trim state) es)
    → AllByRecursion (λ e. least < e.0) es
above_each state last next least [] le turn = tt
above_each state last next least (e ∷ es) le turn =
    (omega (arith, turn.0), above_each state e.0 next least es (omega (arith, turn.0)) turn.3)

pub none_zero : (state : Objects) (next : ℕ) → IsSoundState (trimmed state) next → get state 0 ≡ None
none_zero state next sound =
    get-entries state 0 ∙ none_above 0 (entries state)
    (above_each state 0 next 0 (entries state) (omega arith) (subst (AreInTurn 0 next) (trimmed_entries_are state) sound.turn))

pub keys_long : (state : Objects) → length (keys state) ≡ length (entries (trimmed state))
keys_long state =
    length-map (entries state) (λ e. e.0) ∙ sym (length-map (entries state) (trim state)) ∙ ap length (sym (trimmed_entries_are state))

pub few_keys : (state : Objects) (next : ℕ) → IsSoundState (trimmed state) next → length (keys state) < 2 ^ 32
few_keys state next sound = omega (arith, keys_long state, len-entries (trimmed state), sound.complete.objects)

-- ---- kinds

pub is_tads : (o : Option Value) (supers : List ℕ) → option_and_then supers_of o ≡ Some supers
    → o ≡ Some (Tads supers (is_class_at o) (props_at o))
is_tads None supers e = absurd cc
is_tads (Some (Tads xs class props)) supers e = ap (λ x. Some (Tads x class props)) (the_some xs supers e)
  where
    the_some : (x y : List ℕ) → Some x ≡ Some y → x ≡ y
    the_some x y e = cc
is_tads (Some (Text b)) supers e = absurd cc
is_tads (Some (Items items)) supers e = absurd cc
is_tads (Some (Vector items)) supers e = absurd cc
is_tads (Some (Table pairs default)) supers e = absurd cc

pub is_string : (state : Objects) (o : Option Value) (bytes : List ℕ) → option_and_then text_of o ≡ Some bytes → o ≡ Some (Text bytes)
is_string state None bytes e = absurd cc
is_string state (Some (Tads supers class props)) bytes e = absurd cc
is_string state (Some (Text b)) bytes e = ap (λ x. Some (Text x)) (the_some b bytes e)
  where
    the_some : (x y : List ℕ) → Some x ≡ Some y → x ≡ y
    the_some x y e = cc
is_string state (Some (Items items)) bytes e = absurd cc
is_string state (Some (Vector items)) bytes e = absurd cc
is_string state (Some (Table pairs default)) bytes e = absurd cc

pub is_list : (o : Option Value) (items : List Holder) → option_and_then items_in o ≡ Some items → o ≡ Some (Items items)
is_list None items e = absurd cc
is_list (Some (Tads supers class props)) items e = absurd cc
is_list (Some (Text b)) items e = absurd cc
is_list (Some (Items xs)) items e = ap (λ x. Some (Items x)) (the_some xs items e)
  where
    the_some : (x y : List Holder) → Some x ≡ Some y → x ≡ y
    the_some x y e = cc
is_list (Some (Vector xs)) items e = absurd cc
is_list (Some (Table pairs default)) items e = absurd cc

pub is_vector : (o : Option Value) (count : ℕ) → option_and_then length_of o ≡ Some count
    → (items : List Holder) × (o ≡ Some (Vector items)) × (count ≡ length items)
is_vector None count e = absurd cc
is_vector (Some (Tads supers class props)) count e = absurd cc
is_vector (Some (Text b)) count e = absurd cc
is_vector (Some (Items xs)) count e = absurd cc
is_vector (Some (Vector xs)) count e = (xs, refl, the_some count (length xs) (sym e))
  where
    the_some : (x y : ℕ) → Some x ≡ Some y → x ≡ y
    the_some x y e = cc
is_vector (Some (Table pairs default)) count e = absurd cc

-- what is none of these, and has a text, is a table
pub is_table_at : (state : Objects) (o : Option Value) → WritableAt state o → option_and_then supers_of o ≡ None
    → option_and_then text_of o ≡ None
    → option_and_then items_in o ≡ None → option_and_then length_of o ≡ None → IsSome (option_and_then entries_in o)
is_table_at state None fits s t i v = absurd fits
is_table_at state (Some (Tads supers class props)) fits s t i v = absurd cc
is_table_at state (Some (Text b)) fits s t i v = absurd cc
is_table_at state (Some (Items xs)) fits s t i v = absurd cc
is_table_at state (Some (Vector xs)) fits s t i v = absurd cc
is_table_at state (Some (Table pairs default)) fits s t i v = refl

pub table_is : (o : Option Value) (pairs : List Pair) → Some pairs ≡ option_and_then entries_in o
    → o ≡ Some (Table pairs (unwrap_or (holder_at o Default) Nil))
table_is None pairs e = absurd cc
table_is (Some (Tads supers class props)) pairs e = absurd cc
table_is (Some (Text b)) pairs e = absurd cc
table_is (Some (Items xs)) pairs e = absurd cc
table_is (Some (Vector xs)) pairs e = absurd cc
table_is (Some (Table ps default)) pairs e = ap (λ x. Some (Table x default)) (the_some ps pairs (sym e))
  where
    the_some : (x y : List Pair) → Some x ≡ Some y → x ≡ y
    the_some x y e = cc

pub element_more : (items : List Holder) (i : ℕ) → i < length items
    → take (suc i) items ≡ take i items ++ unwrap_or (slice_get items i) Nil ∷ []
element_more [] i lt = absurd (omega arith)
element_more (x ∷ items) zero lt = refl
element_more (x ∷ items) (suc i) lt = ap (λ t. x ∷ t) (element_more items i (omega arith))

pub one_item : (xs ys : List Holder) → Some (Vector xs) ≡ Some (Vector ys) → xs ≡ ys
one_item xs ys e = cc

pub element_is : (items : List Holder) (i : ℕ) (old new : List Holder) (element : Holder) → i < length items → old ≡ take i items
    → element ≡ unwrap_or (holder_at (Some (Vector items)) (Elem (i + 1))) Nil → new ≡ old ++ element ∷ [] → new ≡ take (i + 1) items
element_is items i old new element lt so_far is more =
    let e : element ≡ unwrap_or (slice_get items i) Nil =
    subst (λ k. element ≡ unwrap_or (holder_at (Some (Vector items)) (Elem k)) Nil) add_one_is is in
    more ∙ ap (λ x. x ++ element ∷ []) so_far ∙ ap (λ x. take i items ++ x ∷ []) e ∙ sym (element_more items i lt)
    ∙ ap (λ k. take k items) (sym add_one_is)
  where
    add_one_is : i + 1 ≡ suc i
    add_one_is = omega arith

pub made : (xs ys : List Pair) (d e : Holder) → xs ≡ ys → d ≡ e → Some (Table xs d) ≡ Some (Table ys e)
made xs ys d e same equal = ap (λ x. Some (Table x d)) same ∙ ap (λ x. Some (Table ys x)) equal

-- ---- tads-objects

-- the text of a tads-object with the properties of the map
pub tads_text : (state : Objects) (supers : List ℕ) (class : Bool) (props : PropMap) (pairs : List (ℕ × Holder)) → pairs ≡ entries props
    → tads_written state supers class pairs ≡ value_text (trimmed_value state (Tads supers class props))
unfolding tads_written value_text
tads_text state supers class props pairs is =
    ap (λ ps. 1 ∷ class_text class ++ (counted_text 2 super_text supers ++ counted_text 2 prop_text ps))
    (ap (map (trimmed_prop state)) is ∙ sym (mapped_are (trimmed_holder state) props))

-- and what has that text
pub tads_fits : (state : Objects) (supers : List ℕ) (class : Bool) (props : PropMap) (pairs : List (ℕ × Holder)) → pairs ≡ entries props
    → IsSpellable (trimmed_value state (Tads supers class props))
    → (length supers < 2 ^ 16) × AreCounted 2 IsProp (map (trimmed_prop state) pairs)
tads_fits state supers class props pairs is fits =
    (fits.0.few, subst (AreCounted 2 IsProp) (mapped_are (trimmed_holder state) props ∙ ap (map (trimmed_prop state)) (sym is)) fits.1)
