-- The reading functions and the layouts: what is read is spelled so, and what is spelled so is read. So bytes spell something or nothing,
-- and no two things.
use Rattle.std.proofs.Common.{◌≡◌, ℕ, zero, suc, ◌^◌, ◌<◌, ◌≤◌, ◌==◌, ◌&&◌, ◌⊎◌, inl, inr, Bool, true, false, cond, nat_lt, nat_le, List, [], ◌∷◌, ◌++◌, Option, None, Some, length, take, drop, refl, sym, ap, ◌∙◌, subst, arith}
use Rattle.std.specs.Prelude.{IfSome, option_and_then}
use Rattle.std.specs.List.{list_all}
use Rattle.std.proofs.lemmas.Bool.{ltb-true, lt-ltb, leb-true, le-leb, eqb-true, eq-eqb}
use Rattle.std.proofs.lemmas.List.{append-nil, append_assoc, take-append-drop, take_all, length-take, length-append}
use Rattle.std.proofs.lemmas.Option.{same_Some}
use Rattle.t3_holder.specs.NumberText.{little_endian, value_of, AreBytes}
use Rattle.t3_holder.specs.HolderText.{raw_text, IsRaw, Means}
use Rattle.t3_holder.specs.declared.holder.Raw.{Raw}
use Rattle.t3_holder.specs.declared.holder.Holder.{Holder}
use Rattle.t3_holder.proofs.Numbers.{length-little_endian, AreBytes-little_endian, value_of-little_endian, little_endian-value_of, value_fits}
use Rattle.t3_holder.proofs.Holders.{one_raw}
use Rattle.t3_blocks.proofs.Lists.{split_same, has_number}
use Rattle.t3_pools.specs.Constants.{meaning_of}
use Rattle.t3_pools.proofs.Meaning.{meaning-meant, meant-meaning}
use Rattle.t3_tadsobj.specs.declared.props.PropValue.{PropValue}
use Rattle.t3_load.specs.Layout.{SpellsNumber, SpellsHolder, SpellsProp, BeginsRow}
use Rattle.t3_load.specs.Inner.Reading.{is_byte, number_read, holder_read, prop_read, front_read, row_read, count_read}

-- ---- the two facts, and what follows from them

-- what is read is so, and what is so is read
pub record Reads {A : Type 0} (IsSo : A → Type 0) (read : Option A) : Type 0 where
  pub takes : (a : A) → read ≡ Some a → IsSo a
  pub again : (a : A) → IsSo a → read ≡ Some a

-- there is such a thing, or none
pub one_or_none : {A : Type 0} {IsSo : A → Type 0} {read : Option A} → Reads IsSo read → ((a : A) × IsSo a) ⊎ ((a : A) → ¬ IsSo a)
one_or_none {A = A} {IsSo = IsSo} {read = read} reads = by_read read refl
  where
    by_read : (o : Option A) → read ≡ o → ((a : A) × IsSo a) ⊎ ((a : A) → ¬ IsSo a)
    by_read None e = inr (λ a is. let again : read ≡ Some a = reads.again a is in absurd cc)
    by_read (Some a) e = inl (a, reads.takes a e)

-- no two things are so
pub at_most_one : {A : Type 0} {IsSo : A → Type 0} {read : Option A} → Reads IsSo read → (a b : A) → IsSo a → IsSo b → a ≡ b
at_most_one reads a b p q = same_Some a b (sym (reads.again a p) ∙ reads.again b q)

-- what else is so of the same things
pub read_as : {A : Type 0} {IsSo Holds : A → Type 0} {read : Option A} → Reads IsSo read → ((a : A) → IsSo a → Holds a)
    → ((a : A) → Holds a → IsSo a) → Reads Holds read
read_as reads to from = record { takes = λ a e. to a (reads.takes a e); again = λ a holds. reads.again a (from a holds) }

pub reads_it : {A : Type 0} (a : A) → Reads (λ b. a ≡ b) (Some a)
reads_it a = record { takes = λ b e. same_Some a b e; again = λ b e. ap Some e }

-- one thing after the other
pub reads_then : {A B : Type 0} {IsSo : A → Type 0} {Follows : A → B → Type 0} {read : Option A} {next : A → Option B} → Reads IsSo read
    → ((a : A) → IsSo a → Reads (Follows a) (next a)) → Reads (λ b. (a : A) × IsSo a × Follows a b) (option_and_then next read)
reads_then {A = A} {B = B} {IsSo = IsSo} {Follows = Follows} {read = read} {next = next} reads follows = record {
  takes = λ b e. takes read refl b e;
  again = λ b is. ap (option_and_then next) (reads.again is.0 is.1) ∙ (follows is.0 is.1).again b is.2;
}
  where
    takes : (o : Option A) → read ≡ o → (b : B) → option_and_then next o ≡ Some b → (a : A) × IsSo a × Follows a b
    takes None is b e = absurd cc
    takes (Some a) is b e = let so = reads.takes a is in (a, so, (follows a so).takes b e)

-- only where a test holds
pub reads_where : {A : Type 0} {IsSo : A → Type 0} {read : Option A} (test : Bool) → Reads IsSo read
    → Reads (λ a. (test ≡ true) × IsSo a) (cond test read None)
reads_where true reads = record { takes = λ a e. (refl, reads.takes a e); again = λ a is. reads.again a is.1 }
reads_where false reads = record { takes = λ a e. absurd cc; again = λ a is. absurd cc }

-- ---- numbers

pub both_true : (a b : Bool) → (a && b) ≡ true → (a ≡ true) × (b ≡ true)
both_true true b e = (refl, e)
both_true false b e = absurd cc

bytes_are : (bytes : List ℕ) → list_all is_byte bytes ≡ true → AreBytes bytes
bytes_are [] all = tt
bytes_are (b ∷ bytes) all =
    let parts = both_true (is_byte b) (list_all is_byte bytes) all in (ltb-true b 256 parts.0, bytes_are bytes parts.1)

all_bytes : (bytes : List ℕ) → AreBytes bytes → list_all is_byte bytes ≡ true
all_bytes [] are = refl
all_bytes (b ∷ bytes) are = ap (λ t. t && list_all is_byte bytes) (lt-ltb b 256 are.0) ∙ all_bytes bytes are.1

-- so many bytes say the number
pub record IsNumber (width : ℕ) (bytes : List ℕ) (number : ℕ) : Type 0 where
  pub fits : number < 256 ^ width
  pub text : bytes ≡ little_endian width number

pub number_reads : (width : ℕ) (bytes : List ℕ) → Reads (IsNumber width bytes) (number_read width bytes)
unfolding number_read
number_reads width bytes =
    read_as (reads_where ((length bytes == width) && list_all is_byte bytes) (reads_it (value_of bytes))) takes again
  where
    takes : (n : ℕ) → (((length bytes == width) && list_all is_byte bytes) ≡ true) × (value_of bytes ≡ n) → IsNumber width bytes n
    takes n is =
        let tests = both_true (length bytes == width) (list_all is_byte bytes) is.0 in
        let long : length bytes ≡ width = eqb-true (length bytes) width tests.0 in
        let are = bytes_are bytes tests.1 in
        record {
          fits = subst (λ m. m < 256 ^ width) is.1 (value_fits width bytes are long);
          text = sym (little_endian-value_of bytes are) ∙ (λ i. little_endian (long i) (is.1 i));
        }

    again : (n : ℕ) → IsNumber width bytes n → (((length bytes == width) && list_all is_byte bytes) ≡ true) × (value_of bytes ≡ n)
    again n is = (
      ap (λ t. t && list_all is_byte bytes) (eq-eqb (length bytes) width (ap length is.text ∙ length-little_endian width n))
          ∙ all_bytes bytes (subst AreBytes (sym is.text) (AreBytes-little_endian width n)),
      ap value_of is.text ∙ value_of-little_endian width n is.fits,
    )

-- what stands in all bytes that there are
pub number_again : (width : ℕ) (bytes : List ℕ) (n : ℕ) → n < 256 ^ width → length bytes ≡ width → take width bytes ≡ little_endian width n
    → number_read width bytes ≡ Some n
number_again width bytes n fits long is =
    (number_reads width bytes).again n (record { fits = fits; text = sym (take_all width bytes (omega (arith, long))) ∙ is })

pub super_reads : (bytes : List ℕ) → Reads (λ number. SpellsNumber number bytes) (number_read 4 bytes)
super_reads bytes = read_as (number_reads 4 bytes) (λ n is. record { fits = is.fits; text = is.text })
    (λ n spells. record { fits = spells.fits; text = spells.text })

-- ---- holders and properties

meaning_reads : (tag bits : ℕ) → bits < 2 ^ 32 → Reads (Means (record { tag = tag; bits = bits })) (meaning_of tag bits)
meaning_reads tag bits fits =
    let raw : Raw = record { tag = tag; bits = bits } in
    record { takes = λ holder e. meant-meaning raw holder fits e; again = λ holder means. meaning-meant raw holder means }

-- a type and a value that mean a holder
abbrev HolderParts : ℕ → List ℕ → Holder → Type 0
HolderParts tag bytes holder =
    (bits : ℕ) × IsNumber 4 bytes bits × ((is_byte tag ≡ true) × Means (record { tag = tag; bits = bits }) holder)

pub holder_reads : (bytes : List ℕ) → Reads (λ holder. SpellsHolder holder bytes) (holder_read bytes)
unfolding holder_read raw_text
holder_reads [] = record { takes = λ holder e. absurd cc; again = λ holder spells. absurd (none_spelled holder spells) }
  where
    none_spelled : (holder : Holder) → ¬ SpellsHolder holder []
    none_spelled holder spells = let text = spells.text in absurd cc
holder_reads (tag ∷ bytes) =
    read_as (reads_then (number_reads 4 bytes) (λ bits is. reads_where (is_byte tag) (meaning_reads tag bits is.fits))) takes again
  where
    takes : (holder : Holder) → HolderParts tag bytes holder → SpellsHolder holder (tag ∷ bytes)
    takes holder found = record {
      raw = record { tag = tag; bits = found.0 };
      fits = record { tag = ltb-true tag 256 found.2.0; bits = found.1.fits };
      means = found.2.1;
      text = ap (λ rest. tag ∷ rest) found.1.text;
    }

    again : (holder : Holder) → SpellsHolder holder (tag ∷ bytes) → HolderParts tag bytes holder
    again holder spells =
        let text : tag ∷ bytes ≡ spells.raw.tag ∷ little_endian 4 spells.raw.bits = spells.text in
        let same : spells.raw.tag ≡ tag = cc in (
          spells.raw.bits,
          record { fits = spells.fits.bits; text = cc },
          (
            lt-ltb tag 256 (subst (λ t. t < 256) same spells.fits.tag),
            subst (λ t. Means (record { tag = t; bits = spells.raw.bits }) holder) same spells.means,
          ),
        )

-- the holder that a raw one means is the one that is read in its bytes
pub holder_is : (raw : Raw) (bytes : List ℕ) (found : Option Holder) → IsRaw raw → raw_text raw ≡ bytes → IfSome found (Means raw)
    → ((holder : Holder) → Means raw holder → found ≡ Some holder) → found ≡ holder_read bytes
holder_is raw bytes found fits is means meant = by_found found refl means
  where
    spelled : (holder : Holder) → Means raw holder → SpellsHolder holder bytes
    spelled holder means = record { raw = raw; fits = fits; means = means; text = sym is }

    by_read : (o : Option Holder) → holder_read bytes ≡ o → None ≡ found → None ≡ o
    by_read None e none = refl
    by_read (Some holder) e none =
        let spells = (holder_reads bytes).takes holder e in
        let same : spells.raw ≡ raw = one_raw spells.raw raw spells.fits fits (sym spells.text ∙ sym is) in
        none ∙ meant holder (subst (λ r. Means r holder) same spells.means)

    by_found : (o : Option Holder) → o ≡ found → IfSome o (Means raw) → found ≡ holder_read bytes
    by_found (Some holder) e means = sym e ∙ sym ((holder_reads bytes).again holder (spelled holder means))
    by_found None e means = sym e ∙ by_read (holder_read bytes) refl e

-- so many bytes and what follows, cut in one way
pub cut_once : (width : ℕ) (bytes front behind : List ℕ) → length front ≡ width → bytes ≡ front ++ behind
    → (width ≤ length bytes) × (take width bytes ≡ front) × (drop width bytes ≡ behind)
cut_once width bytes front behind long is =
    let enough : width ≤ length bytes = omega (arith, long, ap length is, length-append front behind) in
    let cut = split_same (take width bytes) front (drop width bytes) behind (omega (arith, long, enough, length-take width bytes))
    (take-append-drop width bytes ∙ is) in
    (enough, cut.0, cut.1)

-- a number that isn't 0, and a value
abbrev PropParts : List ℕ → PropValue → Type 0
PropParts bytes prop = (number : ℕ) × IsNumber 2 (take 2 bytes) number × ((nat_lt 0 number ≡ true)
    × ((value : Holder) × SpellsHolder value (drop 2 bytes) × (◌≡◌ {A = PropValue} (record { number = number; value = value }) prop)))

pub prop_reads : (bytes : List ℕ) → Reads (λ prop. SpellsProp prop bytes) (prop_read bytes)
unfolding prop_read
prop_reads bytes =
    read_as (reads_then (number_reads 2 (take 2 bytes)) (λ number is. reads_where (nat_lt 0 number)
    (reads_then (holder_reads (drop 2 bytes)) (λ value spells. reads_it (record { number = number; value = value }))))) takes again
  where
    takes : (prop : PropValue) → PropParts bytes prop → SpellsProp prop bytes
    takes prop (number, is, (above, (value, spells, same))) = subst (λ p. SpellsProp p bytes) same (record {
      fits = is.fits;
      named = ltb-true 0 number above;
      value = drop 2 bytes;
      holder = spells;
      text = has_number 2 number bytes is.text;
    })

    again : (prop : PropValue) → SpellsProp prop bytes → PropParts bytes prop
    again prop spells =
        let cut = cut_once 2 bytes (little_endian 2 prop.number) spells.value (length-little_endian 2 prop.number) spells.text in (
          prop.number,
          record { fits = spells.fits; text = cut.1 },
          (lt-ltb 0 prop.number spells.named, (prop.value, subst (SpellsHolder prop.value) (sym cut.2) spells.holder, refl)),
        )

-- ---- in front of bytes

-- bytes begin with an item of so many bytes, and this is the rest
pub record BeginsItem {Item : Type 0} (width : ℕ) (Spells : Item → List ℕ → Type 0) (bytes : List ℕ) (begun : Item × List ℕ) : Type 0 where
  pub front : List ℕ
  pub long : length front ≡ width
  pub spells : Spells begun.0 front
  pub is : bytes ≡ front ++ begun.1

-- bytes begin with so many items
abbrev pub BeginsItems : {Item : Type 0} → ℕ → (Item → List ℕ → Type 0) → ℕ → List ℕ → List Item × List ℕ → Type 0
BeginsItems width Spells count bytes begun = (length begun.0 ≡ count) × BeginsRow width Spells begun.0 bytes begun.1

module _ {Item : Type 0} (width : ℕ) (Spells : Item → List ℕ → Type 0) (read : List ℕ → Option Item)
    (reads : (bytes : List ℕ) → Reads (λ item. Spells item bytes) (read bytes)) where
  -- so many bytes that spell an item
  abbrev ItemParts : List ℕ → Item × List ℕ → Type 0
  ItemParts bytes begun = (nat_le width (length bytes) ≡ true)
      × ((item : Item) × Spells item (take width bytes) × (◌≡◌ {A = Item × List ℕ} (item, drop width bytes) begun))

  pub front_reads : (bytes : List ℕ) → Reads (BeginsItem width Spells bytes) (front_read width read bytes)
  unfolding front_read
  front_reads bytes =
      read_as (reads_where (nat_le width (length bytes)) (reads_then (reads (take width bytes)) (λ item spells.
      reads_it (item, drop width bytes)))) takes again
    where
      takes : (begun : Item × List ℕ) → ItemParts bytes begun → BeginsItem width Spells bytes begun
      takes begun found = subst (BeginsItem width Spells bytes) found.1.2 (record {
        front = take width bytes;
        long = omega (arith, leb-true width (length bytes) found.0, length-take width bytes);
        spells = found.1.1;
        is = sym (take-append-drop width bytes);
      })

      again : (begun : Item × List ℕ) → BeginsItem width Spells bytes begun → ItemParts bytes begun
      again begun begins =
          let cut = cut_once width bytes begins.front begun.1 begins.long begins.is in
          (le-leb width (length bytes) cut.0, (begun.0, subst (Spells begun.0) (sym cut.1) begins.spells, ap (λ rest. (begun.0, rest)) cut.2))

  -- an item, and others
  abbrev RowParts : ℕ → List ℕ → List Item × List ℕ → Type 0
  RowParts count bytes begun = (first : Item × List ℕ) × BeginsItem width Spells bytes first
      × ((row : List Item × List ℕ) × BeginsItems width Spells count first.1 row
      × (◌≡◌ {A = List Item × List ℕ} (first.0 ∷ row.0, row.1) begun))

  pub row_reads : (count : ℕ) (bytes : List ℕ) → Reads (BeginsItems width Spells count bytes) (row_read width read count bytes)
  unfolding row_read
  row_reads zero bytes = read_as (reads_it ([], bytes)) (λ begun is. subst (BeginsItems width Spells 0 bytes) is (refl, refl)) none
    where
      none : (begun : List Item × List ℕ) → BeginsItems width Spells 0 bytes begun → ([], bytes) ≡ begun
      none ([], rest) begins = ap (λ b. ([], b)) begins.1
      none (x ∷ items, rest) begins = absurd (omega (arith, begins.0))
  row_reads (suc count) bytes =
      read_as (reads_then (front_reads bytes) (λ first is. reads_then (row_reads count first.1) (λ row are.
      reads_it (first.0 ∷ row.0, row.1)))) takes again
    where
      takes : (begun : List Item × List ℕ) → RowParts count bytes begun → BeginsItems width Spells (suc count) bytes begun
      takes begun found =
          let item = found.1 in
          let row = found.2.1 in
          subst (BeginsItems width Spells (suc count) bytes) found.2.2
          (ap suc row.0, (item.front, found.0.1, item.long, item.spells, item.is, row.1))

      again : (begun : List Item × List ℕ) → BeginsItems width Spells (suc count) bytes begun → RowParts count bytes begun
      again ([], rest) begins = absurd (omega (arith, begins.0))
      again (x ∷ items, rest) (many, begins) = (
        (x, begins.1),
        record { front = begins.0; long = begins.2; spells = begins.3; is = begins.4 },
        ((items, rest), (omega (arith, many), begins.5), refl),
      )

-- ---- items one by one

-- some items, and those that are read behind them
abbrev pub behind_items : {Item : Type 0} → List Item → Option (List Item × List ℕ) → Option (List Item × List ℕ)
behind_items items row = option_and_then (λ row. Some (items ++ row.0, row.1)) row

pub behind_none : {Item : Type 0} (row : Option (List Item × List ℕ)) → behind_items [] row ≡ row
behind_none None = refl
behind_none (Some row) = refl

pub one_read_more : {Item : Type 0} (width : ℕ) (read : List ℕ → Option Item) (items : List Item) (item : Item) (left : ℕ)
    (rest behind : List ℕ) → front_read width read rest ≡ Some (item, behind)
    → behind_items (items ++ item ∷ []) (row_read width read left behind) ≡ behind_items items (row_read width read (suc left) rest)
unfolding row_read
one_read_more {Item = Item} width read items item left rest behind is =
    joined (row_read width read left behind)
    ∙ sym (ap (λ first. behind_items items (option_and_then (λ first. option_and_then (λ row. Some (first.0 ∷ row.0, row.1))
    (row_read width read left first.1)) first)) is)
  where
    joined : (row : Option (List Item × List ℕ))
        → behind_items (items ++ item ∷ []) row ≡ behind_items items (option_and_then (λ row. Some (item ∷ row.0, row.1)) row)
    joined None = refl
    joined (Some row) = ap (λ all. Some (all, row.1)) (append_assoc items (item ∷ []) row.0)

pub none_read_more : {Item : Type 0} (width : ℕ) (read : List ℕ → Option Item) (items : List Item) (left : ℕ) (rest : List ℕ)
    → front_read width read rest ≡ None → behind_items items (row_read width read (suc left) rest) ≡ None
unfolding row_read
none_read_more width read items left rest is =
    ap (λ first. behind_items items (option_and_then (λ first. option_and_then (λ row. Some (first.0 ∷ row.0, row.1))
    (row_read width read left first.1)) first)) is

pub all_read : {Item : Type 0} (width : ℕ) (read : List ℕ → Option Item) (items : List Item) (rest : List ℕ)
    → behind_items items (row_read width read 0 rest) ≡ Some (items, rest)
unfolding row_read
all_read width read items rest = ap (λ all. Some (all, rest)) (append-nil items)

-- bytes begin with a number of two bytes
pub record BeginsCount (bytes : List ℕ) (begun : ℕ × List ℕ) : Type 0 where
  pub fits : begun.0 < 2 ^ 16
  pub is : bytes ≡ little_endian 2 begun.0 ++ begun.1

pub count_reads : (bytes : List ℕ) → Reads (BeginsCount bytes) (count_read bytes)
count_reads bytes =
    read_as (front_reads 2 (λ number front. IsNumber 2 front number) (number_read 2) (number_reads 2) bytes)
    (λ begun begins. record { fits = begins.spells.fits; is = begins.is ∙ ap (λ front. front ++ begun.1) begins.spells.text })
    (λ begun begins. record {
      front = little_endian 2 begun.0;
      long = length-little_endian 2 begun.0;
      spells = record { fits = begins.fits; text = refl };
      is = begins.is;
    })
