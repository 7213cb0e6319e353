-- Each reader takes what is spelled, and what is spelled is read: numbers, holders, texts, keys, entries, and counted items.
use Rattle.std.proofs.Common.{◌≡◌, ℕ, zero, suc, ◌^◌, ◌<◌, ◌≤◌, Bool, true, false, cond, ltb, List, [], ◌∷◌, ◌++◌, length, take, drop, Option, Some, None, refl, sym, ap, subst, ◌∙◌, append_assoc, arith}
use Rattle.std.specs.Str.{is_utf8}
use Rattle.std.specs.List.{AllByRecursion, flat_map}
use Rattle.std.proofs.lemmas.Bool.{ltb-false, le-ltb}
use Rattle.std.proofs.lemmas.List.{take_at, drop_at, take-append-drop, length-append, length-take}
use Rattle.std.proofs.lemmas.List.Concat.{flat_map-cons}
use Rattle.std.proofs.lemmas.Str.{is_utf8-from_IsUtf8, IsUtf8-from_is_utf8}
use Rattle.t3_holder.specs.NumberText.{little_endian, AreBytes}
use Rattle.t3_holder.specs.HolderText.{raw_text, tag_of, bits_of, IsHolder}
use Rattle.t3_holder.specs.declared.holder.Holder.{Holder}
use Rattle.t3_holder.specs.declared.holder.Holder.TheVariants as holders
use Rattle.t3_undo.specs.declared.key.Key.{Key}
use Rattle.t3_undo.specs.declared.key.Key.TheVariants as keys
use Rattle.t3_tables.specs.declared.pair.Pair.{Pair}
use Rattle.t3_snapshot.specs.Layout.{holder_text, IsGoodHolder, bytes_text, IsText, holder_of_key, key_text, IsKey, entry_text, IsEntry, counted_text, AreCounted}
use Rattle.t3_snapshot.specs.Inner.Reading.{number_at, byte_at, holder_from, holder_at, front_at, text_at, key_of_holder, key_by, key_at, entry_at, items_at, counted_at}
use Rattle.t3_snapshot.proofs.Leaves.{bind_some, guard_some, some_is, number_takes, number_again, AreBytes-drop, from_again, from_takes, signed_few}

-- what was taken of bytes: this value, and these are left
pub record Took {A : Type 0} (text : A → List ℕ) (Fits : A → Type 0) (bytes : List ℕ) (a : A) (rest : List ℕ) : Type 0 where
  pub is : bytes ≡ text a ++ rest
  pub fits : Fits a
  pub left : AreBytes rest

-- a reader takes what is spelled, and what is spelled is read
pub record Reads {A : Type 0} (text : A → List ℕ) (Fits : A → Type 0) (read : List ℕ → Option (A × List ℕ)) : Type 0 where
  pub takes : (bytes : List ℕ) (a : A) (rest : List ℕ) → AreBytes bytes → read bytes ≡ Some (a, rest) → Took text Fits bytes a rest
  pub again : (a : A) (rest : List ℕ) → Fits a → read (text a ++ rest) ≡ Some (a, rest)

pub numbers_read : (width : ℕ) → Reads (little_endian width) (λ n. n < 256 ^ width) (number_at width)
numbers_read width = record {
  takes = λ bytes n rest are e. let t = number_takes width bytes n rest are e in record { is = t.0; fits = t.1; left = t.2 };
  again = λ n rest lt. number_again width n rest lt;
}

-- ---- holders

pub byte_takes : (bytes : List ℕ) (b : ℕ) (rest : List ℕ) → AreBytes bytes → byte_at bytes ≡ Some (b, rest)
    → (bytes ≡ b ∷ rest) × AreBytes rest
byte_takes [] b rest are e = absurd cc
byte_takes (x ∷ bytes) b rest are e =
    let same = some_is (x, bytes) (b, rest) e in
    (ap (λ (p : ℕ × List ℕ). p.0 ∷ p.1) same, subst AreBytes (ap (λ (p : ℕ × List ℕ). p.1) same) are.1)

holder_takes : (bytes : List ℕ) (a : Holder) (rest : List ℕ) → AreBytes bytes → holder_at bytes ≡ Some (a, rest)
    → Took holder_text IsGoodHolder bytes a rest
unfolding holder_at holder_text raw_text
holder_takes bytes a rest are e =
    let t = bind_some (byte_at bytes) _ (a, rest) e in
    let v = bind_some (number_at 4 t.0.1) _ (a, rest) t.2 in
    let h = bind_some (holder_from t.0.0 v.0.0) _ (a, rest) v.2 in
    let first = byte_takes bytes t.0.0 t.0.1 are t.1 in
    let second = number_takes 4 t.0.1 v.0.0 v.0.1 first.1 v.1 in
    let same : h.0 ≡ a = ap (λ (p : Holder × List ℕ). p.0) (some_is _ _ h.2) in
    let left : v.0.1 ≡ rest = ap (λ (p : Holder × List ℕ). p.1) (some_is _ _ h.2) in
    let of = from_takes t.0.0 v.0.0 h.0 second.1 h.1 in
    let text : bytes ≡ (tag_of h.0 ∷ little_endian 4 (bits_of h.0)) ++ v.0.1 =
    first.0 ∙ ap (λ r. t.0.0 ∷ r) second.0 ∙ ap (λ k. k ∷ (little_endian 4 v.0.0 ++ v.0.1)) of.tag_is
    ∙ ap (λ k. tag_of h.0 ∷ (little_endian 4 k ++ v.0.1)) of.bits_are in
    record {
      is = subst (λ (p : Holder × List ℕ). bytes ≡ (tag_of p.0 ∷ little_endian 4 (bits_of p.0)) ++ p.1) (some_is _ _ h.2) text;
      fits = subst IsGoodHolder same (record { fits = of.fits; good = of.good });
      left = subst AreBytes left second.2;
    }

fits_four : (h : Holder) → IsHolder h → bits_of h < 256 ^ 4
fits_four holders.Nil f = omega arith
fits_four holders.True f = omega arith
fits_four (holders.Obj n) f = f
fits_four (holders.Prop n) f = omega (arith, f)
fits_four (holders.Int z) f = signed_few z f
fits_four (holders.Text n) f = f
fits_four (holders.Shown n) f = f
fits_four (holders.List n) f = f
fits_four (holders.Code n) f = f
fits_four (holders.Func n) f = f
fits_four (holders.Enum n) f = f

holder_again : (a : Holder) (rest : List ℕ) → IsGoodHolder a → holder_at (holder_text a ++ rest) ≡ Some (a, rest)
unfolding holder_at holder_text raw_text
holder_again a rest fits = rw (number_again 4 (bits_of a) rest (fits_four a fits.fits), from_again a fits.fits fits.good) refl

pub holders_read : Reads holder_text IsGoodHolder holder_at
holders_read = record { takes = holder_takes; again = holder_again }

-- ---- texts

pub front_takes : (count : ℕ) (bytes front rest : List ℕ) → AreBytes bytes → front_at count bytes ≡ Some (front, rest)
    → (bytes ≡ front ++ rest) × (length front ≡ count) × AreBytes rest
unfolding front_at
front_takes count bytes front rest are e =
    let g = guard_some (ltb (length bytes) count) (take count bytes, drop count bytes) (front, rest) e in
    let long : count ≤ length bytes = ltb-false _ _ g.0 in
    let front-is : take count bytes ≡ front = ap (λ (p : List ℕ × List ℕ). p.0) g.1 in
    let rest-is : drop count bytes ≡ rest = ap (λ (p : List ℕ × List ℕ). p.1) g.1 in (
      sym (take-append-drop count bytes) ∙ ap (λ x. x ++ drop count bytes) front-is ∙ ap (λ x. front ++ x) rest-is,
      ap length (sym front-is) ∙ (let l : length (take count bytes) ≡ count = omega (arith, length-take count bytes) in l),
      subst AreBytes rest-is (AreBytes-drop count bytes are),
    )

pub front_again : (front rest : List ℕ) → front_at (length front) (front ++ rest) ≡ Some (front, rest)
unfolding front_at
front_again front rest =
    let long : ltb (length (front ++ rest)) (length front) ≡ false = le-ltb _ _ (omega (arith, length-append front rest)) in
    rw (long, take_at front rest (length front) refl, drop_at front rest (length front) refl) refl

-- a choice of something or nothing, of which something came
pub where_some : {A : Type 0} (b : Bool) (x y : A) → cond b (Some x) None ≡ Some y → (b ≡ true) × (x ≡ y)
where_some true x y e = (refl, cc)
where_some false x y e = absurd cc

text_takes : (bytes : List ℕ) (a : List ℕ) (rest : List ℕ) → AreBytes bytes → text_at bytes ≡ Some (a, rest)
    → Took bytes_text IsText bytes a rest
unfolding text_at bytes_text
text_takes bytes a rest are e =
    let n = bind_some (number_at 2 bytes) _ (a, rest) e in
    let f = bind_some (front_at n.0.0 n.0.1) _ (a, rest) n.2 in
    let g = where_some (is_utf8 f.0.0) f.0 (a, rest) f.2 in
    let first = number_takes 2 bytes n.0.0 n.0.1 are n.1 in
    let second = front_takes n.0.0 n.0.1 f.0.0 f.0.1 first.2 f.1 in
    let made : Took (λ x. little_endian 2 (length x) ++ x) IsText bytes f.0.0 f.0.1 = record {
      is = first.0 ∙ ap (λ r. little_endian 2 n.0.0 ++ r) second.0 ∙ ap (λ k. little_endian 2 k ++ (f.0.0 ++ f.0.1)) (sym second.1)
          ∙ sym (append_assoc (little_endian 2 (length f.0.0)) f.0.0 f.0.1);
      fits = record { few = subst (λ k. k < 256 ^ 2) (sym second.1) first.1; utf8 = IsUtf8-from_is_utf8 f.0.0 g.0 };
      left = second.2;
    } in
    subst (λ (p : List ℕ × List ℕ). Took (λ x. little_endian 2 (length x) ++ x) IsText bytes p.0 p.1) g.1 made

text_again : (a : List ℕ) (rest : List ℕ) → IsText a → text_at (bytes_text a ++ rest) ≡ Some (a, rest)
unfolding text_at bytes_text
text_again a rest fits =
    rw (
      append_assoc (little_endian 2 (length a)) a rest,
      number_again 2 (length a) (a ++ rest) fits.few,
      front_again a rest,
      is_utf8-from_IsUtf8 a fits.utf8,
    ) refl

pub texts_read : Reads bytes_text IsText text_at
texts_read = record { takes = text_takes; again = text_again }

-- ---- keys

key_of_back : (holder : Holder) (key : Key) → key_of_holder holder ≡ Some key → holder_of_key key ≡ holder
key_of_back holders.Nil key e = ap holder_of_key (sym (some_is _ _ e))
key_of_back holders.True key e = ap holder_of_key (sym (some_is _ _ e))
key_of_back (holders.Int n) key e = ap holder_of_key (sym (some_is _ _ e))
key_of_back (holders.Enum n) key e = ap holder_of_key (sym (some_is _ _ e))
key_of_back (holders.Prop n) key e = ap holder_of_key (sym (some_is _ _ e))
key_of_back (holders.Obj n) key e = ap holder_of_key (sym (some_is _ _ e))
key_of_back (holders.Func n) key e = ap holder_of_key (sym (some_is _ _ e))
key_of_back (holders.Text n) key e = absurd cc
key_of_back (holders.Shown n) key e = absurd cc
key_of_back (holders.List n) key e = absurd cc
key_of_back (holders.Code n) key e = absurd cc

-- a key that isn't a text
by_holder_text : (key : Key) (holder : Holder) → key_of_holder holder ≡ Some key
    → (key_text key ≡ 0 ∷ holder_text holder) × (IsGoodHolder holder → IsKey key)
unfolding key_text
by_holder_text keys.Nil holder e = let b = key_of_back holder keys.Nil e in (ap (λ h. 0 ∷ holder_text h) b, subst IsGoodHolder (sym b))
by_holder_text keys.True holder e = let b = key_of_back holder keys.True e in (ap (λ h. 0 ∷ holder_text h) b, subst IsGoodHolder (sym b))
by_holder_text (keys.Int n) holder e = let b =
    key_of_back holder (keys.Int n) e in (ap (λ h. 0 ∷ holder_text h) b, subst IsGoodHolder (sym b))
by_holder_text (keys.Enum n) holder e = let b =
    key_of_back holder (keys.Enum n) e in (ap (λ h. 0 ∷ holder_text h) b, subst IsGoodHolder (sym b))
by_holder_text (keys.Prop n) holder e = let b =
    key_of_back holder (keys.Prop n) e in (ap (λ h. 0 ∷ holder_text h) b, subst IsGoodHolder (sym b))
by_holder_text (keys.Func n) holder e = let b =
    key_of_back holder (keys.Func n) e in (ap (λ h. 0 ∷ holder_text h) b, subst IsGoodHolder (sym b))
by_holder_text (keys.Obj n) holder e = let b =
    key_of_back holder (keys.Obj n) e in (ap (λ h. 0 ∷ holder_text h) b, subst IsGoodHolder (sym b))
by_holder_text (keys.Text bytes) holder e = absurd (no_text holder bytes e)
  where
    no_text : (holder : Holder) (bytes : List ℕ) → key_of_holder holder ≡ Some (keys.Text bytes) → ⊥
    no_text holders.Nil bytes e = absurd cc
    no_text holders.True bytes e = absurd cc
    no_text (holders.Int n) bytes e = absurd cc
    no_text (holders.Enum n) bytes e = absurd cc
    no_text (holders.Prop n) bytes e = absurd cc
    no_text (holders.Obj n) bytes e = absurd cc
    no_text (holders.Func n) bytes e = absurd cc
    no_text (holders.Text n) bytes e = absurd cc
    no_text (holders.Shown n) bytes e = absurd cc
    no_text (holders.List n) bytes e = absurd cc
    no_text (holders.Code n) bytes e = absurd cc

key_by_takes : (tag : ℕ) (bytes : List ℕ) (key : Key) (rest : List ℕ) → AreBytes bytes → key_by tag bytes ≡ Some (key, rest)
    → (tag ∷ bytes ≡ key_text key ++ rest) × IsKey key × AreBytes rest
unfolding key_by key_text
key_by_takes zero bytes key rest are e =
    let h = bind_some (holder_at bytes) _ (key, rest) e in
    let k = bind_some (key_of_holder h.0.0) _ (key, rest) h.2 in
    let t = holders_read.takes bytes h.0.0 h.0.1 are h.1 in
    let same : k.0 ≡ key = ap (λ (p : Key × List ℕ). p.0) (some_is _ _ k.2) in
    let left : h.0.1 ≡ rest = ap (λ (p : Key × List ℕ). p.1) (some_is _ _ k.2) in
    let key_is : key_of_holder h.0.0 ≡ Some key = k.1 ∙ ap (λ x. Some x) same in
    let text = by_holder_text key h.0.0 key_is in
    (ap (λ r. 0 ∷ r) t.is ∙ ap (λ x. x ++ h.0.1) (sym text.0) ∙ ap (λ x. key_text key ++ x) left, text.1 t.fits, subst AreBytes left t.left)
key_by_takes (suc zero) bytes key rest are e =
    let x = bind_some (text_at bytes) _ (key, rest) e in
    let t = texts_read.takes bytes x.0.0 x.0.1 are x.1 in
    subst (λ (p : Key × List ℕ). (1 ∷ bytes ≡ key_text p.0 ++ p.1) × IsKey p.0 × AreBytes p.1) (some_is _ _ x.2)
    (ap (λ r. 1 ∷ r) t.is, t.fits, t.left)
key_by_takes (suc (suc n)) bytes key rest are e = absurd cc

key_takes : (bytes : List ℕ) (key : Key) (rest : List ℕ) → AreBytes bytes → key_at bytes ≡ Some (key, rest)
    → Took key_text IsKey bytes key rest
unfolding key_at
key_takes bytes key rest are e =
    let b = bind_some (byte_at bytes) _ (key, rest) e in
    let first = byte_takes bytes b.0.0 b.0.1 are b.1 in
    let t = key_by_takes b.0.0 b.0.1 key rest first.1 b.2 in
    record { is = first.0 ∙ t.0; fits = t.1; left = t.2 }

by_holder_again : (key : Key) (holder : Holder) (rest : List ℕ) → key_of_holder holder ≡ Some key → IsGoodHolder holder
    → key_at (0 ∷ (holder_text holder ++ rest)) ≡ Some (key, rest)
unfolding key_at key_by
by_holder_again key holder rest is fits = rw (holders_read.again holder rest fits, is) refl

key_text_again : (bytes rest : List ℕ) → IsText bytes → key_at (1 ∷ (bytes_text bytes ++ rest)) ≡ Some (keys.Text bytes, rest)
unfolding key_at key_by
key_text_again bytes rest fits = rw (texts_read.again bytes rest fits) refl

key_again : (key : Key) (rest : List ℕ) → IsKey key → key_at (key_text key ++ rest) ≡ Some (key, rest)
unfolding key_text
key_again keys.Nil rest fits = by_holder_again keys.Nil holders.Nil rest refl fits
key_again keys.True rest fits = by_holder_again keys.True holders.True rest refl fits
key_again (keys.Int n) rest fits = by_holder_again (keys.Int n) (holders.Int n) rest refl fits
key_again (keys.Enum n) rest fits = by_holder_again (keys.Enum n) (holders.Enum n) rest refl fits
key_again (keys.Prop n) rest fits = by_holder_again (keys.Prop n) (holders.Prop n) rest refl fits
key_again (keys.Func n) rest fits = by_holder_again (keys.Func n) (holders.Func n) rest refl fits
key_again (keys.Obj n) rest fits = by_holder_again (keys.Obj n) (holders.Obj n) rest refl fits
key_again (keys.Text bytes) rest fits = key_text_again bytes rest fits

pub keys_read : Reads key_text IsKey key_at
keys_read = record { takes = key_takes; again = key_again }

-- ---- entries

entry_takes : (bytes : List ℕ) (pair : Pair) (rest : List ℕ) → AreBytes bytes → entry_at bytes ≡ Some (pair, rest)
    → Took entry_text IsEntry bytes pair rest
unfolding entry_at entry_text
entry_takes bytes pair rest are e =
    let k = bind_some (key_at bytes) _ (pair, rest) e in
    let v = bind_some (holder_at k.0.1) _ (pair, rest) k.2 in
    let first = keys_read.takes bytes k.0.0 k.0.1 are k.1 in
    let second = holders_read.takes k.0.1 v.0.0 v.0.1 first.left v.1 in
    let made : Took (λ p. key_text p.key ++ holder_text p.value) IsEntry bytes (record { key = k.0.0; value = v.0.0 }) v.0.1 = record {
      is = first.is ∙ ap (λ r. key_text k.0.0 ++ r) second.is ∙ sym (append_assoc (key_text k.0.0) (holder_text v.0.0) v.0.1);
      fits = record { key = first.fits; value = second.fits };
      left = second.left;
    } in
    subst (λ (p : Pair × List ℕ). Took (λ p. key_text p.key ++ holder_text p.value) IsEntry bytes p.0 p.1) (some_is _ _ v.2) made

entry_again : (pair : Pair) (rest : List ℕ) → IsEntry pair → entry_at (entry_text pair ++ rest) ≡ Some (pair, rest)
unfolding entry_at entry_text
entry_again pair rest fits =
    rw (
      append_assoc (key_text pair.key) (holder_text pair.value) rest,
      keys_read.again pair.key (holder_text pair.value ++ rest) fits.key,
      holders_read.again pair.value rest fits.value,
    ) refl

pub entries_read : Reads entry_text IsEntry entry_at
entries_read = record { takes = entry_takes; again = entry_again }

-- ---- so many items

module _ {A : Type 0} {text : A → List ℕ} {Fits : A → Type 0} {read : List ℕ → Option (A × List ℕ)} (item : Reads text Fits read) where
  items_take : (count : ℕ) (bytes : List ℕ) (xs : List A) (rest : List ℕ) → AreBytes bytes → items_at read count bytes ≡ Some (xs, rest)
      → (bytes ≡ flat_map text xs ++ rest) × AllByRecursion Fits xs × (length xs ≡ count) × AreBytes rest
  unfolding items_at
  items_take zero bytes xs rest are e =
      subst (λ (p : List A × List ℕ). (bytes ≡ flat_map text p.0 ++ p.1) × AllByRecursion Fits p.0 × (length p.0 ≡ 0) × AreBytes p.1)
      (some_is _ _ e) (refl, tt, refl, are)
  items_take (suc count) bytes xs rest are e =
      let f = bind_some (read bytes) _ (xs, rest) e in
      let o = bind_some (items_at read count f.0.1) _ (xs, rest) f.2 in
      let first = item.takes bytes f.0.0 f.0.1 are f.1 in
      let others = items_take count f.0.1 o.0.0 o.0.1 first.left o.1 in
      subst (λ (p : List A × List ℕ). (bytes ≡ flat_map text p.0 ++ p.1) × AllByRecursion Fits p.0 × (length p.0 ≡ suc count)
      × AreBytes p.1) (some_is _ _ o.2) (
        first.is ∙ ap (λ r. text f.0.0 ++ r) others.0 ∙ sym (append_assoc (text f.0.0) (flat_map text o.0.0) o.0.1)
            ∙ ap (λ x. x ++ o.0.1) (sym (flat_map-cons text f.0.0 o.0.0)),
        (first.fits, others.1),
        ap suc others.2,
        others.3,
      )

  items_again : (xs : List A) (rest : List ℕ) → AllByRecursion Fits xs
      → items_at read (length xs) (flat_map text xs ++ rest) ≡ Some (xs, rest)
  unfolding items_at
  items_again [] rest fits = refl
  items_again (a ∷ xs) rest fits =
      rw (
        flat_map-cons text a xs,
        append_assoc (text a) (flat_map text xs) rest,
        item.again a (flat_map text xs ++ rest) fits.0,
        items_again xs rest fits.1,
      ) refl

  counted_takes : (width : ℕ) (bytes : List ℕ) (xs : List A) (rest : List ℕ) → AreBytes bytes
      → counted_at read width bytes ≡ Some (xs, rest)
      → Took (counted_text width text) (AreCounted width Fits) bytes xs rest
  unfolding counted_at counted_text
  counted_takes width bytes xs rest are e =
      let n = bind_some (number_at width bytes) _ (xs, rest) e in
      let first = number_takes width bytes n.0.0 n.0.1 are n.1 in
      let items = items_take n.0.0 n.0.1 xs rest first.2 n.2 in
      record {
        is = first.0 ∙ ap (λ r. little_endian width n.0.0 ++ r) items.0
            ∙ ap (λ k. little_endian width k ++ (flat_map text xs ++ rest)) (sym items.2)
            ∙ sym (append_assoc (little_endian width (length xs)) (flat_map text xs) rest);
        fits = record { few = subst (λ k. k < 256 ^ width) (sym items.2) first.1; each = items.1 };
        left = items.3;
      }

  counted_again : (width : ℕ) (xs : List A) (rest : List ℕ) → AreCounted width Fits xs
      → counted_at read width (counted_text width text xs ++ rest) ≡ Some (xs, rest)
  unfolding counted_at counted_text
  counted_again width xs rest fits =
      rw (
        append_assoc (little_endian width (length xs)) (flat_map text xs) rest,
        number_again width (length xs) (flat_map text xs ++ rest) fits.few,
        items_again xs rest fits.each,
      ) refl

  pub counted_read : (width : ℕ) → Reads (counted_text width text) (AreCounted width Fits) (counted_at read width)
  counted_read width = record { takes = counted_takes width; again = counted_again width }
