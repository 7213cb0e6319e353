-- The objects that are read of bytes are those with which they begin.
use Rattle.std.proofs.Common.{◌≡◌, ℕ, ◌^◌, ◌<◌, ◌==◌, ◌&&◌, ◌||◌, Bool, true, false, not, List, [], ◌∷◌, ◌++◌, Option, None, Some, Result, Ok, Err, length, map, nat_eq, refl, sym, ap, ◌∙◌, subst, arith}
use Rattle.std.specs.Prelude.{IfOk, option_and_then}
use Rattle.std.specs.Int.{bit_at}
use Rattle.std.specs.List.{IsDistinct, AllByRecursion, list_any}
use Rattle.std.specs.Result.{MatchResult, is_ok}
use Rattle.std.specs.Str.{IsUtf8, is_utf8}
use Rattle.std.proofs.lemmas.List.{append_assoc}
use Rattle.std.proofs.lemmas.Str.{IsUtf8-from_is_utf8, is_utf8-from_IsUtf8}
use Rattle.t3_holder.specs.NumberText.{little_endian}
use Rattle.t3_holder.specs.declared.holder.Holder.{Holder}
use Rattle.t3_holder.specs.declared.no_memory.NoMemory.{NoMemory}
use Rattle.t3_pools.specs.Constants.{as_utf8}
use Rattle.t3_store.specs.declared.new_object.NewObject.{NewObject}
use Rattle.t3_store.specs.declared.new_object.NewObject.TheVariants as new
use Rattle.t3_tadsobj.specs.declared.props.PropValue.{PropValue}
use Rattle.t3_load.specs.declared.kinds.MetaKind.{MetaKind}
use Rattle.t3_load.specs.declared.kinds.MetaKind.TheVariants as kinds
use Rattle.t3_load.specs.declared.statics.TadsHead.{TadsHead}
use Rattle.t3_load.specs.Layout.{SpellsNumber, SpellsHolder, SpellsProp, BeginsTads, BeginsText, BeginsList, BeginsVector, BeginsObject, GivesObject, tads_head}
use Rattle.t3_load.specs.Inner.Reading.{Gives, number_read, holder_read, prop_read, head_read, are_distinct, tads_read, text_read, list_read, vector_read, object_read}
use Rattle.t3_load.proofs.Reading.{Reads, read_as, reads_it, reads_then, reads_where, both_true, super_reads, holder_reads, prop_reads, BeginsItem, BeginsItems, front_reads, row_reads, BeginsCount, count_reads}

-- ---- strings

-- the bytes are this text, which is UTF-8
record IsText (text bytes : List ℕ) : Type 0 where
  same : bytes ≡ text
  utf8 : IsUtf8 text

utf8_reads : (bytes : List ℕ) → Reads (λ text. IsText text bytes) (as_utf8 bytes)
utf8_reads bytes =
    read_as (reads_where (is_utf8 bytes) (reads_it bytes))
    (λ text is. record { same = is.1; utf8 = subst IsUtf8 is.1 (IsUtf8-from_is_utf8 bytes is.0) })
    (λ text is. (is_utf8-from_IsUtf8 bytes (subst IsUtf8 (sym is.same) is.utf8), is.same))

-- a count, and so many bytes of text
abbrev TextParts : List ℕ → List ℕ → Type 0
TextParts bytes text = (count : ℕ × List ℕ) × BeginsCount bytes count
    × ((front : List ℕ × List ℕ) × BeginsItem count.0 IsText count.1 front × (front.0 ≡ text))

-- whether a test of bytes says that they are UTF-8
pub utf8_told : {X E : Type 0} {P : X → Type 0} {Q : E → Type 0} (r : Result X E) (bytes : List ℕ) → MatchResult r P Q
    → ((x : X) → P x → IsUtf8 bytes) → ((e : E) → Q e → ¬ IsUtf8 bytes) → is_ok r ≡ is_utf8 bytes
utf8_told (Ok x) bytes told good bad = sym (is_utf8-from_IsUtf8 bytes (good x told))
utf8_told (Err e) bytes told good bad = by_test (is_utf8 bytes) refl (bad e told)
  where
    by_test : (b : Bool) → is_utf8 bytes ≡ b → ¬ IsUtf8 bytes → false ≡ b
    by_test true is none = absurd (none (IsUtf8-from_is_utf8 bytes is))
    by_test false is none = refl

text_reads : (bytes : List ℕ) → Reads (λ text. BeginsText text bytes) (text_read bytes)
unfolding text_read
text_reads bytes =
    read_as (reads_then (count_reads bytes) (λ count is. reads_then (front_reads count.0 IsText as_utf8 utf8_reads count.1) (λ text begins.
    reads_it text.0))) takes again
  where
    takes : (text : List ℕ) → TextParts bytes text → BeginsText text bytes
    takes text (count, is, (front, begins, same)) =
        let whole : begins.front ≡ text = begins.spells.same ∙ same in
        let long : count.0 ≡ length text = sym begins.long ∙ ap length whole in
        record {
          few = omega (arith, long, is.fits);
          utf8 = subst IsUtf8 same begins.spells.utf8;
          rest = front.1;
          is = is.is ∙ (λ i. little_endian 2 (long i) ++ (begins.is ∙ ap (λ f. f ++ front.1) whole) i);
        }

    again : (text : List ℕ) → BeginsText text bytes → TextParts bytes text
    again text begins = (
      (length text, text ++ begins.rest),
      record { fits = begins.few; is = begins.is },
      (
        (text, begins.rest),
        record { front = text; long = refl; spells = record { same = refl; utf8 = begins.utf8 }; is = refl },
        refl,
      ),
    )

-- ---- lists and vectors

-- a count, and so many holders
abbrev ListParts : List ℕ → List Holder → Type 0
ListParts bytes items = (count : ℕ × List ℕ) × BeginsCount bytes count
    × ((row : List Holder × List ℕ) × BeginsItems 5 SpellsHolder count.0 count.1 row × (row.0 ≡ items))

list_reads : (bytes : List ℕ) → Reads (λ items. BeginsList items bytes) (list_read bytes)
unfolding list_read
list_reads bytes =
    read_as (reads_then (count_reads bytes) (λ count is. reads_then (row_reads 5 SpellsHolder holder_read holder_reads count.0 count.1)
    (λ row begins. reads_it row.0))) takes again
  where
    takes : (items : List Holder) → ListParts bytes items → BeginsList items bytes
    takes items (count, is, (row, begins, same)) = subst (λ xs. BeginsList xs bytes) same (record {
      few = omega (arith, begins.0, is.fits);
      after_count = count.1;
      rest = row.1;
      count = is.is ∙ ap (λ n. little_endian 2 n ++ count.1) (sym begins.0);
      has_items = begins.1;
    })

    again : (items : List Holder) → BeginsList items bytes → ListParts bytes items
    again items begins = (
      (length items, begins.after_count),
      record { fits = begins.few; is = begins.count },
      ((items, begins.rest), (refl, begins.has_items), refl),
    )

vector_reads : (bytes : List ℕ) → Reads (λ items. BeginsVector items bytes) (vector_read bytes)
unfolding vector_read
vector_reads bytes =
    read_as (reads_then (count_reads bytes) (λ allocated is. list_reads allocated.1))
    (λ items found. record {
      allocated = found.0.0;
      fits = found.1.fits;
      after_room = found.0.1;
      room = found.1.is;
      listed = found.2;
    })
    (λ items begins. (
      (begins.allocated, begins.after_room),
      record { fits = begins.fits; is = begins.room },
      begins.listed,
    ))

-- ---- tads-objects

-- bytes begin with the head of a tads-object, and this is the rest
record BeginsHead (bytes : List ℕ) (begun : TadsHead × List ℕ) : Type 0 where
  few_supers : begun.0.supers < 2 ^ 16
  few_props : begun.0.props < 2 ^ 16
  flags_fit : begun.0.flags < 2 ^ 16
  is : bytes ≡ tads_head begun.0.supers begun.0.props begun.0.flags ++ begun.1

head_parts : (s p f : ℕ) (x : List ℕ)
    → tads_head s p f ++ x ≡ little_endian 2 s ++ (little_endian 2 p ++ (little_endian 2 f ++ x))
head_parts s p f x =
    append_assoc (little_endian 2 s) (little_endian 2 p ++ little_endian 2 f) x
    ∙ ap (λ t. little_endian 2 s ++ t) (append_assoc (little_endian 2 p) (little_endian 2 f) x)

-- three numbers
abbrev HeadParts : List ℕ → TadsHead × List ℕ → Type 0
HeadParts bytes begun = (s : ℕ × List ℕ) × BeginsCount bytes s × ((p : ℕ × List ℕ) × BeginsCount s.1 p × ((f : ℕ × List ℕ)
    × BeginsCount p.1 f × (◌≡◌ {A = TadsHead × List ℕ} (record { supers = s.0; props = p.0; flags = f.0 }, f.1) begun)))

head_reads : (bytes : List ℕ) → Reads (BeginsHead bytes) (head_read bytes)
unfolding head_read
head_reads bytes =
    read_as (reads_then (count_reads bytes) (λ s is_s. reads_then (count_reads s.1) (λ p is_p. reads_then (count_reads p.1) (λ f is_f.
    reads_it (record { supers = s.0; props = p.0; flags = f.0 }, f.1))))) takes again
  where
    takes : (begun : TadsHead × List ℕ) → HeadParts bytes begun → BeginsHead bytes begun
    takes begun (s, is_s, (p, is_p, (f, is_f, same))) = subst (BeginsHead bytes) same (record {
      few_supers = is_s.fits;
      few_props = is_p.fits;
      flags_fit = is_f.fits;
      is = is_s.is ∙ ap (λ t. little_endian 2 s.0 ++ t) (is_p.is ∙ ap (λ t. little_endian 2 p.0 ++ t) is_f.is)
          ∙ sym (head_parts s.0 p.0 f.0 f.1);
    })

    again : (begun : TadsHead × List ℕ) → BeginsHead bytes begun → HeadParts bytes begun
    again begun begins =
        let head = begun.0 in
        let after_props = little_endian 2 head.flags ++ begun.1 in
        let after_supers = little_endian 2 head.props ++ after_props in (
          (head.supers, after_supers),
          record { fits = begins.few_supers; is = begins.is ∙ head_parts head.supers head.props head.flags begun.1 },
          (
            (head.props, after_props),
            record { fits = begins.few_props; is = refl },
            ((head.flags, begun.1), record { fits = begins.flags_fit; is = refl }, refl),
          ),
        )

-- no number stands twice
all_apart : (test : ℕ → Bool) (ns : List ℕ) → not (list_any test ns) ≡ true → AllByRecursion (λ n. test n ≡ false) ns
all_apart test [] e = tt
all_apart test (n ∷ ns) e = by_test (λ e. all_apart test ns e) (test n) refl e
  where
    by_test : (not (list_any test ns) ≡ true → AllByRecursion (λ n. test n ≡ false) ns) → (b : Bool) → test n ≡ b
        → not (b || list_any test ns) ≡ true → AllByRecursion (λ n. test n ≡ false) (n ∷ ns)
    by_test further true t e = absurd cc
    by_test further false t e = (t, further e)

none_among : (test : ℕ → Bool) (ns : List ℕ) → AllByRecursion (λ n. test n ≡ false) ns → not (list_any test ns) ≡ true
none_among test [] all = refl
none_among test (n ∷ ns) all = ap (λ b. not (b || list_any test ns)) all.0 ∙ none_among test ns all.1

pub distinct_takes : (ns : List ℕ) → are_distinct ns ≡ true → IsDistinct nat_eq ns
unfolding IsDistinct
distinct_takes [] e = tt
distinct_takes (n ∷ ns) e =
    let tests = both_true (not (list_any (nat_eq n) ns)) (are_distinct ns) e in
    (all_apart (nat_eq n) ns tests.0, distinct_takes ns tests.1)

pub distinct_again : (ns : List ℕ) → IsDistinct nat_eq ns → are_distinct ns ≡ true
unfolding IsDistinct
distinct_again [] distinct = refl
distinct_again (n ∷ ns) distinct =
    ap (λ b. b && are_distinct ns) (none_among (nat_eq n) ns distinct.0) ∙ distinct_again ns distinct.1

pub not_distinct_read : (ns : List ℕ) → ¬ IsDistinct nat_eq ns → are_distinct ns ≡ false
not_distinct_read ns none = by_read (are_distinct ns) refl
  where
    by_read : (b : Bool) → are_distinct ns ≡ b → b ≡ false
    by_read true e = absurd (none (distinct_takes ns e))
    by_read false e = refl

abbrev numbers_of : List PropValue → List ℕ
numbers_of props = map (λ prop. prop.number) props

-- the superclasses of a tads-object, whether it is a class, and its properties
abbrev Tads : Type 0
Tads = List ℕ × Bool × List PropValue

-- a head, and what it counts
abbrev TadsParts : List ℕ → Tads → Type 0
TadsParts bytes tads = (head : TadsHead × List ℕ) × BeginsHead bytes head
    × ((supers : List ℕ × List ℕ) × BeginsItems 4 SpellsNumber head.0.supers head.1 supers
    × ((props : List PropValue × List ℕ) × BeginsItems 7 SpellsProp head.0.props supers.1 props
    × ((are_distinct (numbers_of props.0) ≡ true) × (◌≡◌ {A = Tads} (supers.0, bit_at head.0.flags 0 == 1, props.0) tads))))

tads_reads : (bytes : List ℕ) → Reads (λ (tads : Tads). BeginsTads tads.0 tads.1 tads.2 bytes) (tads_read bytes)
unfolding tads_read
tads_reads bytes =
    read_as (reads_then (head_reads bytes) (λ head is.
    reads_then (row_reads 4 SpellsNumber (number_read 4) super_reads head.0.supers head.1) (λ supers are.
    reads_then (row_reads 7 SpellsProp prop_read prop_reads head.0.props supers.1) (λ props listed.
    reads_where (are_distinct (numbers_of props.0)) (reads_it (supers.0, bit_at head.0.flags 0 == 1, props.0)))))) takes again
  where
    takes : (tads : Tads) → TadsParts bytes tads → BeginsTads tads.0 tads.1 tads.2 bytes
    takes tads (head, is, (supers, are, (props, listed, (distinct, same)))) =
        subst (λ (t : Tads). BeginsTads t.0 t.1 t.2 bytes) same (record {
          flags = head.0.flags;
          flags_fit = is.flags_fit;
          class_is = refl;
          few_supers = omega (arith, are.0, is.few_supers);
          few_props = omega (arith, listed.0, is.few_props);
          distinct = distinct_takes (numbers_of props.0) distinct;
          after_head = head.1;
          after_supers = supers.1;
          rest = props.1;
          head = is.is ∙ (λ i. tads_head (sym are.0 i) (sym listed.0 i) head.0.flags ++ head.1);
          has_supers = are.1;
          has_props = listed.1;
        })

    again : (tads : Tads) → BeginsTads tads.0 tads.1 tads.2 bytes → TadsParts bytes tads
    again tads begins = (
      (record { supers = length tads.0; props = length tads.2; flags = begins.flags }, begins.after_head),
      record {
        few_supers = begins.few_supers;
        few_props = begins.few_props;
        flags_fit = begins.flags_fit;
        is = begins.head;
      },
      (
        (tads.0, begins.after_supers),
        (refl, begins.has_supers),
        (
          (tads.2, begins.rest),
          (refl, begins.has_props),
          (distinct_again (numbers_of tads.2) begins.distinct, (λ i. (tads.0, sym begins.class_is i, tads.2))),
        ),
      ),
    )

-- ---- objects of all metaclasses

made_reads : {X : Type 0} {IsSo : X → Type 0} {read : Option X} (make : X → NewObject) → Reads IsSo read
    → Reads (λ object. (x : X) × IsSo x × (make x ≡ object)) (option_and_then (λ x. Some (make x)) read)
made_reads make reads = reads_then reads (λ x is. reads_it (make x))

object_takes : (kind : MetaKind) (bytes : List ℕ) (object : NewObject) → object_read kind bytes ≡ Some object
    → BeginsObject kind object bytes
object_takes kinds.Tads bytes object e =
    let found = (made_reads (λ tads. new.Tads tads.0 tads.1 tads.2) (tads_reads bytes)).takes object e in
    subst (λ o. BeginsObject kinds.Tads o bytes) found.2 found.1
object_takes kinds.Text bytes object e =
    let found = (made_reads new.Text (text_reads bytes)).takes object e in subst (λ o. BeginsObject kinds.Text o bytes) found.2 found.1
object_takes kinds.List bytes object e =
    let found = (made_reads new.List (list_reads bytes)).takes object e in subst (λ o. BeginsObject kinds.List o bytes) found.2 found.1
object_takes kinds.Vector bytes object e =
    let found = (made_reads new.Vector (vector_reads bytes)).takes object e in
    subst (λ o. BeginsObject kinds.Vector o bytes) found.2 found.1
object_takes kind bytes object e = absurd cc

object_again : (kind : MetaKind) (bytes : List ℕ) (object : NewObject) → BeginsObject kind object bytes
    → object_read kind bytes ≡ Some object
object_again kinds.Tads bytes (new.Tads supers class props) begins =
    (made_reads (λ tads. new.Tads tads.0 tads.1 tads.2) (tads_reads bytes)).again (new.Tads supers class props)
    ((supers, class, props), begins, refl)
object_again kinds.Text bytes (new.Text text) begins = (made_reads new.Text (text_reads bytes)).again (new.Text text) (text, begins, refl)
object_again kinds.List bytes (new.List items) begins = (made_reads new.List (list_reads bytes)).again (new.List items) (items, begins, refl)
object_again kinds.Vector bytes (new.Vector items) begins =
    (made_reads new.Vector (vector_reads bytes)).again (new.Vector items) (items, begins, refl)
object_again kind bytes object begins = absurd begins

pub object_reads : (kind : MetaKind) (bytes : List ℕ) → Reads (λ object. BeginsObject kind object bytes) (object_read kind bytes)
object_reads kind bytes = record { takes = object_takes kind bytes; again = object_again kind bytes }

-- what is read is the object with which bytes begin, or tells that there is none
pub gives_object : (kind : MetaKind) (bytes : List ℕ) (result : Result (Option NewObject) NoMemory)
    → IfOk result (λ object. Gives (λ o. o) object (object_read kind bytes)) → GivesObject kind bytes result
gives_object kind bytes (Ok (Some object)) is = object_takes kind bytes object is
gives_object kind bytes (Ok None) is = λ object begins.
    let again : object_read kind bytes ≡ Some object = object_again kind bytes object begins in absurd cc
gives_object kind bytes (Err error) is = tt
