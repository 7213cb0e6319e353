-- Of the elements of a vector: how many are present, and what is left of them once they are purged.
use Rattle.std.proofs.Common.{◌≡◌, ◌∙◌, ap, sym, subst, refl, ℕ, zero, suc, ◌+◌, ◌-◌, ◌<◌, ◌≤◌, ◌==◌, eqb-true, Bool, true, false, cond, ◌||◌, ◌⊎◌, inl, inr, nat_le, leb-true, le-leb, List, [], ◌∷◌, length, take, drop, get_or, slice_get, count_by, Option, None, Some, IsSome, is_some, true≢false, arith}
use Rattle.std.proofs.lemmas.Bool.{eqb-false}
use Rattle.std.specs.List.{list_any}
use Rattle.std.specs.FinMap.{get, len, len-empty, same_map}
use Rattle.std.proofs.lemmas.List.Sums.{sum_by-cons}
use Rattle.t3_holder.specs.declared.holder.Holder.{Holder}
use Rattle.t3_undo.specs.Cell.{cell_cmp, cell_cmp_total, cell_cmp-IsAntisymmetric}
use Rattle.t3_undo.specs.Content.{Parts, Places, shown}
use Rattle.t3_undo.specs.Present.{Present}
use Rattle.t3_undo.specs.Purging.{IsNeeded, Stays}
use Rattle.t3_undo.specs.Slots as slots
use Rattle.t3_undo.specs.declared.cell.Cell.{Cell}
use Rattle.t3_undo.specs.declared.cell.Cell.TheVariants as cells
use Rattle.t3_undo.proofs.Maps.{one_if, len-set_at}
use Rattle.t3_undo.proofs.SlotLists.{seen, get-parts_of}
use Rattle.t3_lists.specs.Vector.{content_of, numbered, parts_in, places_from, values_of, stamps_of}
use Rattle.t3_lists.specs.Inner.Elements.{index_of, content_found, content_in, is_needed, purged, AreCounted}
use Rattle.t3_undo.specs.StampedValue.{ValuePlace}
use Rattle.t3_lists.proofs.ElementStamps.{get-places}
use Rattle.t3_lists.proofs.ElementLists.{get-parts, lookup-below}

-- how many parts there are
one_if-shown : (o : Option Holder) → one_if (shown (content_of o)) ≡ one_if o
one_if-shown None = refl
one_if-shown (Some value) = refl

count-cons : (o : Option Holder) (os : List (Option Holder)) → count_by is_some (o ∷ os) ≡ one_if o + count_by is_some os
count-cons o os = sum_by-cons (λ (x : Option Holder). cond (is_some x) 1 0) o os

len-numbered : (number : ℕ) (os : List (Option Holder)) → len (slots.parts_of (numbered number os)) ≡ count_by is_some os
unfolding slots.parts_of
len-numbered number [] = len-empty cell_cmp Present
len-numbered number (o ∷ os) =
    let rest = slots.parts_of (numbered (suc number) os) in
    let a = len-set_at cell_cmp_total rest (cells.Elem number) (shown (content_of o)) in
    let b = ap one_if (get-parts_of (numbered (suc number) os) (cells.Elem number) ∙ ap seen (lookup-below (suc number) number os (omega arith))) in
    let c = one_if-shown o in
    let d = count-cons o os in
    let e = len-numbered (suc number) os in
    omega (arith, a, b, c, d, e)

pub len-parts : (os : List (Option Holder)) → len (parts_in os) ≡ count_by is_some os
unfolding parts_in
len-parts os = len-numbered 1 os

or-right : (a b : Bool) → b ≡ true → (a || b) ≡ true
or-right true b e = refl
or-right false b e = e

or-left : (a b : Bool) → a ≡ true → (a || b) ≡ true
or-left true b e = refl
or-left false b e = absurd (true≢false (sym e))

second-false : (a b : Bool) → (a || b) ≡ false → b ≡ false
second-false true b e = absurd (true≢false e)
second-false false b e = e

first-false : (a b : Bool) → (a || b) ≡ false → a ≡ false
first-false true b e = e
first-false false b e = refl

module _ (oldest : ℕ) where
  abbrev any : List ValuePlace → Bool
  any es = list_any (is_needed oldest) es

  any-drop : (es : List ValuePlace) (i : ℕ) → any (drop i es) ≡ true → any es ≡ true
  any-drop es zero e = e
  any-drop [] (suc i) e = e
  any-drop (x ∷ es) (suc i) e = or-right (is_needed oldest x) (any es) (any-drop es i e)

  -- an element is needed: it is present, or its stamp isn't below the oldest
  abbrev NeedAt : List ValuePlace → ℕ → Type 0
  NeedAt es i = IsSome (shown (content_found (slice_get (values_of es) i))) ⊎ ((t : ℕ) × (slice_get (stamps_of es) i ≡ Some t) × (oldest ≤ t))

  head-needed : (x : ValuePlace) (es : List ValuePlace) → NeedAt (x ∷ es) 0 → is_needed oldest x ≡ true
  head-needed x es (inl some) = or-left (is_some x.value) (nat_le oldest x.stamp) (by x.value some)
    where
      by : (o : Option Holder) → is_some (shown (content_of o)) ≡ true → is_some o ≡ true
      by None e = e
      by (Some v) e = refl
  head-needed x es (inr from) =
      let is : x.stamp ≡ from.0 = cc in
      or-right (is_some x.value) (nat_le oldest x.stamp) (ap (nat_le oldest) is ∙ le-leb oldest from.0 from.2)

  any-needed : (es : List ValuePlace) (i j : ℕ) → i ≤ j → NeedAt es j → any (drop i es) ≡ true
  any-needed [] i j least (inl some) = absurd (true≢false (sym some))
  any-needed [] i j least (inr from) = cc
  any-needed (x ∷ es) zero zero least need = or-left (is_needed oldest x) (any es) (head-needed x es need)
  any-needed (x ∷ es) zero (suc j) least need = or-right (is_needed oldest x) (any es) (any-needed es zero j (omega arith) need)
  any-needed (x ∷ es) (suc i) zero least need = absurd (omega arith)
  any-needed (x ∷ es) (suc i) (suc j) least need = any-needed es i j (omega arith) need

  needed-from : (es : List ValuePlace) (i : ℕ) → any (drop i es) ≡ true → (j : ℕ) × (i ≤ j) × NeedAt es j
  needed-from [] zero e = absurd (true≢false (sym e))
  needed-from [] (suc i) e = absurd (true≢false (sym e))
  needed-from (x ∷ es) zero e = by (is_needed oldest x) refl (needed-from es zero)
    where
      head : (o : Option Holder) → x.value ≡ o → (is_some o || nat_le oldest x.stamp) ≡ true → NeedAt (x ∷ es) 0
      head (Some v) is e = inl (ap (λ o. is_some (shown (content_of o))) is)
      head None is e = inr (x.stamp, refl, leb-true oldest x.stamp e)

      by : (b : Bool) → is_needed oldest x ≡ b → (any es ≡ true → (j : ℕ) × (0 ≤ j) × NeedAt es j)
          → (j : ℕ) × (0 ≤ j) × NeedAt (x ∷ es) j
      by true need later = (0, omega arith, head x.value refl need)
      by false need later = let rest = later (sym (ap (λ b. b || any es) need) ∙ e) in (suc rest.0, omega arith, rest.2)
  needed-from (x ∷ es) (suc i) e = let rest = needed-from es i e in (suc rest.0, (let h = rest.1 in omega (arith, h)), rest.2)

  -- what is left, from the end
  abbrev EndsNeeded : List ValuePlace → ℕ → Type 0
  EndsNeeded es zero = Unit {0}
  EndsNeeded es (suc left) = any (drop left es) ≡ true

  take-purged : (es : List ValuePlace) (left : ℕ) → any (drop left es) ≡ false → EndsNeeded es left → take left es ≡ purged oldest es
  take-purged [] zero none end = refl
  take-purged [] (suc left) none end = refl
  take-purged (x ∷ es) zero none end = ap (λ b. cond b (x ∷ purged oldest es) []) (sym none)
  take-purged (x ∷ es) (suc left) none end =
      ap (λ xs. x ∷ xs) (take-purged es left none (inner left end))
      ∙ ap (λ b. cond b (x ∷ purged oldest es) []) (sym (any-drop (x ∷ es) left end))
    where
      inner : (left : ℕ) → any (drop left (x ∷ es)) ≡ true → EndsNeeded es left
      inner zero e = tt
      inner (suc left) e = e

  any-at : (es : List ValuePlace) (i : ℕ) (d : ValuePlace) → i < length es → is_needed oldest (get_or es i d) ≡ true → any (drop i es) ≡ true
  any-at [] i d within need = absurd (omega arith)
  any-at (x ∷ es) zero d within need = or-left (is_needed oldest x) (any es) need
  any-at (x ∷ es) (suc i) d within need = any-at es i d (omega arith) need

  pub take-needed : (es : List ValuePlace) (left : ℕ) (d : ValuePlace) → 0 < left → left ≤ length es → any (drop left es) ≡ false
      → is_needed oldest (get_or es (left - 1) d) ≡ true → take left es ≡ purged oldest es
  take-needed es zero d some within none need = absurd (omega arith)
  take-needed es (suc i) d some within none need =
      let before : i ≡ suc i - 1 = omega arith in
      take-purged es (suc i) none (any-at es i d (omega arith) (ap (λ n. is_needed oldest (get_or es n d)) before ∙ need))

  pub purged-none : (es : List ValuePlace) (left : ℕ) → left ≤ 0 → any (drop left es) ≡ false → [] ≡ purged oldest es
  purged-none es zero least none = take-purged es zero none tt
  purged-none es (suc left) least none = absurd (omega arith)

  -- where none is needed, all are missing
  none-shown : (es : List ValuePlace) (i : ℕ) → any es ≡ false → shown (content_found (slice_get (values_of es) i)) ≡ None
  none-shown [] i none = refl
  none-shown (x ∷ es) zero none = by x.value (first-false (is_some x.value) (nat_le oldest x.stamp) (first-false (is_needed oldest x) (any es) none))
    where
      by : (o : Option Holder) → is_some o ≡ false → shown (content_of o) ≡ None
      by None e = refl
      by (Some v) e = absurd (true≢false e)
  none-shown (x ∷ es) (suc i) none = none-shown es i (second-false (is_needed oldest x) (any es) none)

  none-counted : (es : List ValuePlace) → any es ≡ false → count_by is_some (values_of es) ≡ 0
  none-counted [] none = refl
  none-counted (x ∷ es) none =
      let a = count-cons x.value (values_of es) in
      let b : one_if x.value ≡ 0 = ap {B = ℕ} (λ b. cond b 1 0) (first-false (is_some x.value) (nat_le oldest x.stamp) (first-false (is_needed oldest x) (any es) none)) in
      let c = none-counted es (second-false (is_needed oldest x) (any es) none) in
      omega (arith, a, b, c)

  shown-purged : (es : List ValuePlace) (i : ℕ) → shown (content_found (slice_get (values_of (purged oldest es)) i))
      ≡ shown (content_found (slice_get (values_of es) i))
  shown-purged [] i = refl
  shown-purged (x ∷ es) i = by (any (x ∷ es)) refl (shown-purged es) i
    where
      by : (b : Bool) → any (x ∷ es) ≡ b
          → ((i : ℕ) → shown (content_found (slice_get (values_of (purged oldest es)) i)) ≡ shown (content_found (slice_get (values_of es) i)))
          → (i : ℕ) → shown (content_found (slice_get (values_of (cond b (x ∷ purged oldest es) [])) i))
          ≡ shown (content_found (slice_get (values_of (x ∷ es)) i))
      by true e rest zero = refl
      by true e rest (suc i) = rest i
      by false e rest i = sym (none-shown (x ∷ es) i e)

  counted-purged : (es : List ValuePlace) → count_by is_some (values_of (purged oldest es)) ≡ count_by is_some (values_of es)
  counted-purged [] = refl
  counted-purged (x ∷ es) = by (any (x ∷ es)) refl (counted-purged es)
    where
      by : (b : Bool) → any (x ∷ es) ≡ b → count_by is_some (values_of (purged oldest es)) ≡ count_by is_some (values_of es)
          → count_by is_some (values_of (cond b (x ∷ purged oldest es) [])) ≡ count_by is_some (values_of (x ∷ es))
      by true e rest =
          let a = count-cons x.value (values_of (purged oldest es)) in
          let b = count-cons x.value (values_of es) in
          omega (arith, a, b, rest)
      by false e rest = sym (none-counted (x ∷ es) e)

  length-purged : (es : List ValuePlace) → length (values_of (purged oldest es)) ≤ length (values_of es)
  length-purged [] = omega arith
  length-purged (x ∷ es) = by (any (x ∷ es)) (length-purged es)
    where
      by : (b : Bool) → length (values_of (purged oldest es)) ≤ length (values_of es)
          → length (values_of (cond b (x ∷ purged oldest es) [])) ≤ length (values_of (x ∷ es))
      by true h = omega (arith, h)
      by false h = omega arith

  pub counted-left : (es : List ValuePlace) (present : ℕ) → AreCounted (values_of es) present → AreCounted (values_of (purged oldest es)) present
  counted-left es present counted = record {
    counted = counted.counted ∙ sym (counted-purged es);
    few = let h = length-purged es in omega (arith, h, counted.few);
  }

  pub parts-purged : (es : List ValuePlace) → parts_in (values_of (purged oldest es)) ≡ parts_in (values_of es)
  parts-purged es =
      same_map cell_cmp_total cell_cmp-IsAntisymmetric _ _ (λ q.
      get-parts (values_of (purged oldest es)) q ∙ by (index_of q) ∙ sym (get-parts (values_of es) q))
    where
      by : (index : Option ℕ) → shown (content_in (values_of (purged oldest es)) index) ≡ shown (content_in (values_of es) index)
      by None = refl
      by (Some i) = shown-purged es i

  -- the stamps that are left
  stamp-left : (es : List ValuePlace) (i t : ℕ) → slice_get (stamps_of (purged oldest es)) i ≡ Some t
      → (slice_get (stamps_of es) i ≡ Some t) × (any (drop i es) ≡ true)
  stamp-left [] i t e = cc
  stamp-left (x ∷ es) i t e = by (any (x ∷ es)) refl (λ i. stamp-left es i t) i e
    where
      by : (b : Bool) → any (x ∷ es) ≡ b
          → ((i : ℕ) → slice_get (stamps_of (purged oldest es)) i ≡ Some t → (slice_get (stamps_of es) i ≡ Some t) × (any (drop i es) ≡ true))
          → (i : ℕ) → slice_get (stamps_of (cond b (x ∷ purged oldest es) [])) i ≡ Some t
          → (slice_get (stamps_of (x ∷ es)) i ≡ Some t) × (any (drop i (x ∷ es)) ≡ true)
      by true some rest zero e = (e, some)
      by true some rest (suc i) e = rest i e
      by false some rest i e = cc

  stamp-kept : (es : List ValuePlace) (i t : ℕ) → slice_get (stamps_of es) i ≡ Some t → any (drop i es) ≡ true
      → slice_get (stamps_of (purged oldest es)) i ≡ Some t
  stamp-kept [] i t e some = e
  stamp-kept (x ∷ es) zero t e some = ap (λ b. slice_get (stamps_of (cond b (x ∷ purged oldest es) [])) 0) some ∙ e
  stamp-kept (x ∷ es) (suc i) t e some =
      ap (λ b. slice_get (stamps_of (cond b (x ∷ purged oldest es) [])) (suc i)) (any-drop (x ∷ es) (suc i) some)
      ∙ stamp-kept es i t e some

  abbrev parts : List ValuePlace → Parts
  parts es = parts_in (values_of es)

  abbrev places : List ValuePlace → Places
  places es = places_from 1 (stamps_of es)

  need-at : (es : List ValuePlace) (j : ℕ) → IsNeeded (parts es) (places es) oldest (cells.Elem (suc j)) → NeedAt es j
  need-at es j (inl some) = inl (ap is_some (sym (get-parts (values_of es) (cells.Elem (suc j)))) ∙ some)
  need-at es j (inr from) = inr (from.0, sym (get-places (stamps_of es) (cells.Elem (suc j))) ∙ from.1, from.2)

  at-need : (es : List ValuePlace) (j : ℕ) → NeedAt es j → IsNeeded (parts es) (places es) oldest (cells.Elem (suc j))
  at-need es j (inl some) = inl (ap is_some (get-parts (values_of es) (cells.Elem (suc j))) ∙ some)
  at-need es j (inr from) = inr (from.0, get-places (stamps_of es) (cells.Elem (suc j)) ∙ from.1, from.2)

  elem-is : (k j : ℕ) → ◌≡◌ {A = Cell} (cells.Elem k) (cells.Elem j) → k ≡ j
  elem-is k j e = cc

  any-stays : (es : List ValuePlace) (i : ℕ) → Stays (parts es) (places es) oldest (cells.Elem (suc i)) → any (drop i es) ≡ true
  any-stays es i (inl need) = any-needed es i i (omega arith) (need-at es i need)
  any-stays es i (inr below) = higher below.1 (let a = elem-is (suc i) below.0 below.2 in let b = below.4 in omega (arith, a, b)) below.5
    where
      higher : (j : ℕ) → suc i < j → IsNeeded (parts es) (places es) oldest (cells.Elem j) → any (drop i es) ≡ true
      higher zero less need = absurd (omega arith)
      higher (suc j) less need = any-needed es i j (omega arith) (need-at es j need)

  stays-any : (es : List ValuePlace) (i : ℕ) → any (drop i es) ≡ true → Stays (parts es) (places es) oldest (cells.Elem (suc i))
  stays-any es i some = let found = needed-from es i some in by found.0 found.1 found.2 (i == found.0) refl
    where
      by : (j : ℕ) → i ≤ j → NeedAt es j → (b : Bool) → (i == j) ≡ b → Stays (parts es) (places es) oldest (cells.Elem (suc i))
      by j least need true e = inl (at-need es i (subst (NeedAt es) (sym (eqb-true i j e)) need))
      by j least need false e =
          let apart = eqb-false i j e in
          inr (suc i, suc j, refl, omega arith, omega arith, at-need es j need)

  pub places-left : (es : List ValuePlace) (q : Cell) (t : ℕ) → get (places (purged oldest es)) q ≡ Some t
      → (get (places es) q ≡ Some t) × Stays (parts es) (places es) oldest q
  places-left es (cells.Elem zero) t e = let none = sym (get-places (stamps_of (purged oldest es)) (cells.Elem zero)) ∙ e in cc
  places-left es (cells.Elem (suc i)) t e =
      let left = stamp-left es i t (sym (get-places (stamps_of (purged oldest es)) (cells.Elem (suc i))) ∙ e) in
      (get-places (stamps_of es) (cells.Elem (suc i)) ∙ left.0, stays-any es i left.1)
  places-left es (cells.Prop n) t e = let none = sym (get-places (stamps_of (purged oldest es)) (cells.Prop n)) ∙ e in cc
  places-left es (cells.Key key) t e = let none = sym (get-places (stamps_of (purged oldest es)) (cells.Key key)) ∙ e in cc
  places-left es cells.Default t e = let none = sym (get-places (stamps_of (purged oldest es)) cells.Default) ∙ e in cc

  pub places-kept : (es : List ValuePlace) (q : Cell) (t : ℕ) → get (places es) q ≡ Some t → Stays (parts es) (places es) oldest q
      → get (places (purged oldest es)) q ≡ Some t
  places-kept es (cells.Elem zero) t e stays = let none = sym (get-places (stamps_of es) (cells.Elem zero)) ∙ e in cc
  places-kept es (cells.Elem (suc i)) t e stays =
      get-places (stamps_of (purged oldest es)) (cells.Elem (suc i))
      ∙ stamp-kept es i t (sym (get-places (stamps_of es) (cells.Elem (suc i))) ∙ e) (any-stays es i stays)
  places-kept es (cells.Prop n) t e stays = let none = sym (get-places (stamps_of es) (cells.Prop n)) ∙ e in cc
  places-kept es (cells.Key key) t e stays = let none = sym (get-places (stamps_of es) (cells.Key key)) ∙ e in cc
  places-kept es cells.Default t e stays = let none = sym (get-places (stamps_of es) cells.Default) ∙ e in cc
