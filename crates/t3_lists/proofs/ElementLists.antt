-- Elements in their cells: what is found there, and what a change of one does. Other crates may use these.
use Rattle.std.proofs.Common.{◌≡◌, ◌≢◌, ◌∙◌, ap, sym, refl, ℕ, zero, suc, ◌+◌, ◌<◌, ◌≤◌, ◌==◌, if◌then◌else◌, Bool, true, false, cond, List, [], ◌∷◌, ◌++◌, length, slice_get, Option, None, Some, IsTrue, is_some, true≢false, count_by, get_or, nat_lt, ltb-true, ltb-false, eqb-true, ne_eqb, ◌-◌, ◌^◌, length-set, arith}
use Rattle.std.specs.Option.{option_map}
use Rattle.std.specs.Ordering.{nat_cmp, ordering_then, is_eq}
use Rattle.std.specs.declared.cmp.Ordering.{Ordering}
use Rattle.std.specs.declared.cmp.Ordering.TheVariants.{Less, Equal, Greater}
use Rattle.std.specs.Cmp.{unsigned_tied, eq_by_cmp_equiv}
use Rattle.std.specs.List.{AllByRecursion, IsDistinct, slice_set, list_any}
use Rattle.std.proofs.lemmas.Bool.{eqb-false}
use Rattle.std.proofs.lemmas.Option.{slice_get-get_or, slice_get_past}
use Rattle.std.proofs.lemmas.Map.Made.{is_some-lookup}
use Rattle.std.proofs.lemmas.List.Sums.{sum_by-set, sum_by-append, count_by-le-length}
use Rattle.std.specs.Map.{keys_of, lookup, set_value}
use Rattle.std.specs.FinMap.{get, insert, contains_key}
use Rattle.t3_holder.specs.declared.holder.Holder.{Holder}
use Rattle.t3_undo.specs.Cell.{cell_cmp_total}
use Rattle.t3_undo.specs.Content.{with_place, shown, is_form}
use Rattle.t3_undo.specs.Present.{Present}
use Rattle.t3_undo.specs.Objects.{set_at}
use Rattle.t3_undo.specs.Slots as slots
use Rattle.t3_undo.specs.declared.cell.Cell.{Cell}
use Rattle.t3_undo.specs.declared.cell.Cell.TheVariants as cells
use Rattle.t3_undo.specs.declared.content.Content.{Content}
use Rattle.t3_undo.specs.declared.content.Content.TheVariants.{Absent, Held, Slot}
use Rattle.t3_undo.proofs.SlotLists.{same, seen, get-parts_of, parts_of-set_value, parts_of-add-absent, with_place-there}
use Rattle.t3_lists.specs.Vector.{content_of, bare, numbered, parts_in, places_from, values_of, stamps_of, is_element, HasPlaceBelow}
use Rattle.t3_undo.specs.declared.place.Place.{Place}
use Rattle.t3_lists.proofs.ElementStamps as stamped
use Rattle.t3_undo.specs.StampedValue.{ValuePlace}
use Rattle.t3_lists.specs.Inner.Elements.{index_of, content_found, content_in, element_of, exchanged, with_next, with_next_stamp, stamp_in, restamped, AreCounted}

abbrev Elements : Type 0
Elements = List (Option Holder)

then-Equal : (r : Ordering) → is_eq (ordering_then r Equal) ≡ is_eq r
then-Equal Less = refl
then-Equal Equal = refl
then-Equal Greater = refl

-- two elements are the same cell where their numbers are the same
pub same-Elem : (n k : ℕ) → same (cells.Elem n) (cells.Elem k) ≡ (n == k)
same-Elem n k = then-Equal (nat_cmp n k) ∙ unsigned_tied n k

same-number : (n k : ℕ) → n ≡ k → same (cells.Elem n) (cells.Elem k) ≡ true
same-number n k e = ap (λ m. same (cells.Elem n) (cells.Elem m)) (sym e) ∙ (eq_by_cmp_equiv cell_cmp_total).refl (cells.Elem n)

other-number : (n k : ℕ) → n ≢ k → same (cells.Elem n) (cells.Elem k) ≡ false
other-number n k e = same-Elem n k ∙ ne_eqb n k e

-- an element is found under its number
lookup-at : (number index m : ℕ) (elements : Elements) → m ≡ number + index → lookup (same (cells.Elem m)) (numbered number elements)
    ≡ option_map bare (slice_get elements index)
lookup-at number index m [] e = refl
lookup-at number zero m (element ∷ elements) e =
    ap (λ b. cond b (Some (bare element)) (lookup (same (cells.Elem m)) (numbered (suc number) elements)))
    (same-number m number (omega arith))
lookup-at number (suc index) m (element ∷ elements) e =
    ap (λ b. cond b (Some (bare element)) (lookup (same (cells.Elem m)) (numbered (suc number) elements)))
    (other-number m number (λ w. absurd (omega arith)))
    ∙ lookup-at (suc number) index m elements (omega arith)

-- none below the first
pub lookup-below : (number m : ℕ) (elements : Elements) → m < number → lookup (same (cells.Elem m)) (numbered number elements) ≡ None
lookup-below number m [] e = refl
lookup-below number m (element ∷ elements) e =
    ap (λ b. cond b (Some (bare element)) (lookup (same (cells.Elem m)) (numbered (suc number) elements)))
    (other-number m number (λ w. absurd (omega arith)))
    ∙ lookup-below (suc number) m elements (omega arith)

-- and nothing but elements
lookup-Prop : (number n : ℕ) (elements : Elements) → lookup (same (cells.Prop n)) (numbered number elements) ≡ None
lookup-Prop number n [] = refl
lookup-Prop number n (element ∷ elements) = lookup-Prop (suc number) n elements

lookup-Key : (number : ℕ) (key : _) (elements : Elements) → lookup (same (cells.Key key)) (numbered number elements) ≡ None
lookup-Key number key [] = refl
lookup-Key number key (element ∷ elements) = lookup-Key (suc number) key elements

lookup-Default : (number : ℕ) (elements : Elements) → lookup (same cells.Default) (numbered number elements) ≡ None
lookup-Default number [] = refl
lookup-Default number (element ∷ elements) = lookup-Default (suc number) elements

-- the element at an index
abbrev pub found : Elements → Option ℕ → Option Place
found elements None = None
found elements (Some index) = option_map bare (slice_get elements index)

lookup-numbered : (cell : Cell) (elements : Elements) → lookup (same cell) (numbered 1 elements) ≡ found elements (index_of cell)
lookup-numbered (cells.Elem zero) elements = lookup-below 1 0 elements (omega arith)
lookup-numbered (cells.Elem (suc index)) elements = lookup-at 1 index (suc index) elements (omega arith)
lookup-numbered (cells.Prop n) elements = lookup-Prop 1 n elements
lookup-numbered (cells.Key key) elements = lookup-Key 1 key elements
lookup-numbered cells.Default elements = lookup-Default 1 elements

seen-found : (elements : Elements) (index : Option ℕ) → seen (found elements index) ≡ shown (content_in elements index)
seen-found elements None = refl
seen-found elements (Some index) = by (slice_get elements index)
  where
    by : (o : Option (Option Holder)) → seen (option_map bare o) ≡ shown (content_found o)
    by None = refl
    by (Some element) = refl

-- what stands in a cell
pub get-parts : (elements : Elements) (cell : Cell) → get (parts_in elements) cell ≡ shown (content_in elements (index_of cell))
unfolding parts_in
get-parts elements cell = get-parts_of (numbered 1 elements) cell ∙ ap seen (lookup-numbered cell elements)
    ∙ seen-found elements (index_of cell)

-- and whether it has a place
pub contains-places : (stamps : List ℕ) (cell : Cell) → contains_key (places_from 1 stamps) cell ≡ is_some (stamp_in stamps (index_of cell))
contains-places stamps cell = ap is_some (stamped.get-places stamps cell)

-- what is present has a place
pub placed : (elements : Elements) (index : Option ℕ) → is_some (shown (content_in elements index)) ≡ true
    → is_some (found elements index) ≡ true
placed elements None e = e
placed elements (Some index) e = by (slice_get elements index) e
  where
    by : (o : Option (Option Holder)) → is_some (shown (content_found o)) ≡ true → is_some (option_map bare o) ≡ true
    by None e = e
    by (Some element) e = refl

-- and what has a place is of its form
pub formed : (elements : Elements) (cell : Cell) → is_some (found elements (index_of cell)) ≡ true
    → IsTrue (is_form cell (shown (content_in elements (index_of cell))))
formed elements (cells.Elem zero) e = absurd (true≢false (sym e))
formed elements (cells.Elem (suc index)) e = by (slice_get elements index)
  where
    by : (o : Option (Option Holder)) → IsTrue (is_form (cells.Elem (suc index)) (shown (content_found o)))
    by None = refl
    by (Some None) = refl
    by (Some (Some value)) = refl
formed elements (cells.Prop n) e = absurd (true≢false (sym e))
formed elements (cells.Key key) e = absurd (true≢false (sym e))
formed elements cells.Default e = absurd (true≢false (sym e))

-- only an element has a place
pub element-placed : (elements : Elements) (cell : Cell) → is_some (found elements (index_of cell)) ≡ true → IsTrue (is_element cell)
element-placed elements (cells.Elem n) e = refl
element-placed elements (cells.Prop n) e = absurd (true≢false (sym e))
element-placed elements (cells.Key key) e = absurd (true≢false (sym e))
element-placed elements cells.Default e = absurd (true≢false (sym e))

-- an element set
set-numbered : (number index m : ℕ) (elements : Elements) (element : Option Holder) → m ≡ number + index
    → set_value (same (cells.Elem m)) (numbered number elements) (bare element) ≡ numbered number (slice_set elements index element)
set-numbered number index m [] element e = refl
set-numbered number zero m (first ∷ elements) element e =
    ap (λ b. cond b ((cells.Elem number, bare element) ∷ numbered (suc number) elements)
    ((cells.Elem number, bare first) ∷ set_value (same (cells.Elem m)) (numbered (suc number) elements) (bare element)))
    (same-number m number (omega arith))
set-numbered number (suc index) m (first ∷ elements) element e =
    ap (λ b. cond b ((cells.Elem number, bare element) ∷ numbered (suc number) elements)
    ((cells.Elem number, bare first) ∷ set_value (same (cells.Elem m)) (numbered (suc number) elements) (bare element)))
    (other-number m number (λ w. absurd (omega arith)))
    ∙ ap (λ xs. (cells.Elem number, bare first) ∷ xs) (set-numbered (suc number) index m elements element (omega arith))

-- a content of an element's form is one of elements
shown-element : (n : ℕ) (content : Content) → IsTrue (is_form (cells.Elem n) (shown content)) → shown (content_of (element_of content))
    ≡ shown content
shown-element n Absent fits = refl
shown-element n (Held value) fits = refl
shown-element n (Slot tick value) fits = absurd (true≢false (sym fits))

module _ (elements : Elements) (content : Content) where
  pub parts-exchanged : (cell : Cell) → is_some (found elements (index_of cell)) ≡ true → IsTrue (is_form cell (shown content))
      → parts_in (exchanged elements (index_of cell) content) ≡ set_at (parts_in elements) cell (shown content)
  unfolding parts_in
  parts-exchanged (cells.Elem zero) there fits = absurd (true≢false (sym there))
  parts-exchanged (cells.Elem (suc index)) there fits =
      ap slots.parts_of (sym (set-numbered 1 index (suc index) elements (element_of content) (omega arith)))
      ∙ parts_of-set_value (numbered 1 elements) (cells.Elem (suc index)) (bare (element_of content))
      (ap is_some (lookup-numbered (cells.Elem (suc index)) elements) ∙ there)
      ∙ ap (set_at (slots.parts_of (numbered 1 elements)) (cells.Elem (suc index))) (shown-element (suc index) content fits)
  parts-exchanged (cells.Prop n) there fits = absurd (true≢false (sym there))
  parts-exchanged (cells.Key key) there fits = absurd (true≢false (sym there))
  parts-exchanged cells.Default there fits = absurd (true≢false (sym there))

-- one more element, at the end
pub numbered-push : (number : ℕ) (elements : Elements) (element : Option Holder) → numbered number (elements ++ element ∷ [])
    ≡ numbered number elements ++ (cells.Elem (number + length elements), bare element) ∷ []
numbered-push number [] element = ap (λ n. (cells.Elem n, bare element) ∷ []) (omega arith)
numbered-push number (first ∷ elements) element =
    ap (λ xs. (cells.Elem number, bare first) ∷ xs)
    (numbered-push (suc number) elements element
    ∙ ap (λ n. numbered (suc number) elements ++ (cells.Elem n, bare element) ∷ []) (omega arith))

-- an index past the end finds nothing
pub not-found : (elements : Elements) (index : ℕ) → is_some (found elements (Some index)) ≡ true → index < length elements
not-found [] index e = absurd (true≢false (sym e))
not-found (element ∷ elements) zero e = omega arith
not-found (element ∷ elements) (suc index) e = let h = not-found elements index e in omega arith

pub is-found : (elements : Elements) (index : ℕ) → index < length elements → is_some (found elements (Some index)) ≡ true
is-found [] index h = absurd (omega arith)
is-found (element ∷ elements) zero h = refl
is-found (element ∷ elements) (suc index) h = is-found elements index (omega arith)

-- how many cells have a place
apart-numbered : (n number : ℕ) (elements : Elements) → n < number
    → AllByRecursion (λ cell. same (cells.Elem n) cell ≡ false) (keys_of (numbered number elements))
apart-numbered n number [] h = tt
apart-numbered n number (element ∷ elements) h =
    (other-number n number (λ w. absurd (omega arith)), apart-numbered n (suc number) elements (omega arith))

pub distinct-numbered : (number : ℕ) (elements : Elements) → IsDistinct same (keys_of (numbered number elements))
unfolding IsDistinct
distinct-numbered number [] = tt
distinct-numbered number (element ∷ elements) =
    (apart-numbered number (suc number) elements (omega arith), distinct-numbered (suc number) elements)

length-numbered : (number : ℕ) (elements : Elements) → length (numbered number elements) ≡ length elements
length-numbered number [] = refl
length-numbered number (element ∷ elements) = ap (λ n. suc n) (length-numbered (suc number) elements)

-- how many elements are present
abbrev pub one : Option Present → ℕ
one o = if is_some o then 1 else 0

one-content_of : (element : Option Holder) → cond (is_some element) 1 0 ≡ one (shown (content_of element))
one-content_of None = refl
one-content_of (Some value) = refl

one-element_of : (content : Content) → cond (is_some (element_of content)) 1 0 ≡ one (shown content)
one-element_of Absent = refl
one-element_of (Held value) = refl
one-element_of (Slot tick value) = refl

count-set : (elements : Elements) (index : ℕ) (content : Content) → index < length elements
    → count_by is_some (slice_set elements index (element_of content)) + one (shown (content_in elements (Some index)))
    ≡ count_by is_some elements + one (shown content)
count-set elements index content h =
    ap (λ n. count_by is_some (slice_set elements index (element_of content)) + n)
    (ap (λ o. one (shown (content_found o))) (slice_get-get_or elements index None h)
    ∙ sym (one-content_of (get_or elements index None)))
    ∙ sum_by-set (λ (element : Option Holder). cond (is_some element) 1 0) elements index (element_of content) None h
    ∙ ap (λ n. count_by is_some elements + n) (one-element_of content)

module _ (elements : Elements) (present old added : ℕ) (content : Content) where
  pub one-of-present : (index : Option ℕ) → AreCounted elements present → is_some (found elements index) ≡ true
      → old ≡ one (shown (content_in elements index)) → old ≤ present
  one-of-present None counted there is = absurd (true≢false (sym there))
  one-of-present (Some index) counted there is =
      let cleared = count-set elements index Absent (not-found elements index there) in
      omega (arith, cleared, counted.counted)

  pub counted-exchanged : (index : Option ℕ) → AreCounted elements present → is_some (found elements index) ≡ true
      → old ≡ one (shown (content_in elements index)) → added ≡ one (shown content)
      → AreCounted (exchanged elements index content) (present - old + added)
  counted-exchanged None counted there was is = absurd (true≢false (sym there))
  counted-exchanged (Some index) counted there was is =
      let least : old ≤ present = one-of-present (Some index) counted there was in
      let change = count-set elements index content (not-found elements index there) in
      record {
        counted = omega (arith, change, counted.counted);
        few = let same_length = length-set elements index (element_of content) in omega (arith, same_length, counted.few);
      }

pub present-fits : (elements : Elements) (present : ℕ) → AreCounted elements present → present < 2 ^ 32
present-fits elements present counted =
    let least = count_by-le-length (λ (element : Option Holder). is_some element) elements in
    omega (arith, least, counted.counted, counted.few)

-- a place for the next element
pub new-cell : (elements : Elements) → list_any (same (cells.Elem (1 + length elements))) (keys_of (numbered 1 elements)) ≡ false
new-cell elements =
    sym (is_some-lookup (same (cells.Elem (1 + length elements))) (numbered 1 elements))
    ∙ ap is_some (lookup-at 1 (length elements) (1 + length elements) elements refl
    ∙ ap (option_map bare) (slice_get_past elements (length elements) (omega arith)))

pub parts-next : (elements : Elements) (index : Option ℕ) → parts_in (with_next elements index) ≡ parts_in elements
unfolding parts_in
parts-next elements None = refl
parts-next elements (Some index) = by (index == length elements)
  where
    by : (b : Bool) → slots.parts_of (numbered 1 (cond b (elements ++ None ∷ []) elements)) ≡ slots.parts_of (numbered 1 elements)
    by true = ap slots.parts_of (numbered-push 1 elements None)
        ∙ parts_of-add-absent (numbered 1 elements) (cells.Elem (1 + length elements)) (new-cell elements)
    by false = refl

-- the elements below have their places
stamp-within : (stamps : List ℕ) (index : ℕ) → is_some (slice_get stamps index) ≡ true → index < length stamps
stamp-within [] index e = absurd (true≢false (sym e))
stamp-within (s ∷ stamps) zero e = omega arith
stamp-within (s ∷ stamps) (suc index) e = let h = stamp-within stamps index e in omega arith

pub stamp-there : (stamps : List ℕ) (index : ℕ) → index < length stamps → is_some (slice_get stamps index) ≡ true
stamp-there [] index h = absurd (omega arith)
stamp-there (s ∷ stamps) zero h = refl
stamp-there (s ∷ stamps) (suc index) h = stamp-there stamps index (omega arith)

reaches : (stamps : List ℕ) (index : ℕ) → HasPlaceBelow (places_from 1 stamps) (cells.Elem (suc index)) → index ≤ length stamps
reaches stamps index below = by (nat_lt (length stamps) index) refl
  where
    by : (b : Bool) → nat_lt (length stamps) index ≡ b → index ≤ length stamps
    by true e =
        let h = ltb-true _ _ e in
        let there = sym (contains-places stamps (cells.Elem (suc (length stamps))))
        ∙ below.1 (suc (length stamps)) (omega arith) (omega arith) in
        let within = stamp-within stamps (length stamps) there in
        absurd (omega arith)
    by false e = ltb-false _ _ e

pub places-next : (stamps : List ℕ) (cell : Cell) → HasPlaceBelow (places_from 1 stamps) cell
    → places_from 1 (with_next_stamp stamps (index_of cell)) ≡ with_place (places_from 1 stamps) cell
places-next stamps (cells.Elem zero) below = absurd (omega (arith, below.0))
places-next stamps (cells.Elem (suc index)) below = by (index == length stamps) refl
  where
    by : (b : Bool) → (index == length stamps) ≡ b
        → places_from 1 (cond b (stamps ++ 0 ∷ []) stamps) ≡ with_place (places_from 1 stamps) (cells.Elem (suc index))
    by true e =
        let is = eqb-true _ _ e in
        let none : contains_key (places_from 1 stamps) (cells.Elem (suc index)) ≡ false =
        contains-places stamps (cells.Elem (suc index)) ∙ ap is_some (slice_get_past stamps index (omega arith)) in
        stamped.places-push stamps 0 ∙ (λ i. insert (places_from 1 stamps) (cells.Elem (suc (sym is i))) 0)
        ∙ λ i. if sym none i then places_from 1 stamps else insert (places_from 1 stamps) (cells.Elem (suc index)) 0
    by false e =
        let least = reaches stamps index below in
        let apart = eqb-false _ _ e in
        let within : index < length stamps = omega arith in
        sym (with_place-there (places_from 1 stamps) (cells.Elem (suc index))
        (contains-places stamps (cells.Elem (suc index)) ∙ stamp-there stamps index within))
places-next stamps (cells.Prop n) below = absurd below
places-next stamps (cells.Key key) below = absurd below
places-next stamps cells.Default below = absurd below

pub counted-next : (elements : Elements) (present : ℕ) (index : Option ℕ) → AreCounted elements present
    → length (with_next elements index) < 2 ^ 32 → AreCounted (with_next elements index) present
counted-next elements present None counted few = counted
counted-next elements present (Some index) counted few = record {
  counted = counted.counted ∙ sym (by (index == length elements));
  few = few;
}
  where
    by : (b : Bool) → count_by is_some (cond b (elements ++ None ∷ []) elements) ≡ count_by is_some elements
    by true = let more = sum_by-append (λ (element : Option Holder). cond (is_some element) 1 0) elements (None ∷ []) in omega (arith, more)
    by false = refl

-- an element with another stamp, or another value
pub values-set : (elements : List ValuePlace) (index t : ℕ) (e : ValuePlace) → index < length elements → e ≡ get_or elements index e
    → values_of (slice_set elements index (record e { stamp = t })) ≡ values_of elements
values-set [] index t e h is = absurd (omega arith)
values-set (x ∷ elements) zero t e h is = λ i. (is i).value ∷ values_of elements
values-set (x ∷ elements) (suc index) t e h is = ap (λ xs. x.value ∷ xs) (values-set elements index t e (omega arith) is)

pub stamps-set : (elements : List ValuePlace) (index t : ℕ) (e : ValuePlace) → stamps_of (slice_set elements index (record e { stamp = t }))
    ≡ slice_set (stamps_of elements) index t
stamps-set [] index t e = refl
stamps-set (x ∷ elements) zero t e = refl
stamps-set (x ∷ elements) (suc index) t e = ap (λ xs. x.stamp ∷ xs) (stamps-set elements index t e)

pub values-put : (elements : List ValuePlace) (index : ℕ) (o : Option Holder) (e : ValuePlace)
    → values_of (slice_set elements index (record e { value = o })) ≡ slice_set (values_of elements) index o
values-put [] index o e = refl
values-put (x ∷ elements) zero o e = refl
values-put (x ∷ elements) (suc index) o e = ap (λ xs. x.value ∷ xs) (values-put elements index o e)

pub stamps-put : (elements : List ValuePlace) (index : ℕ) (o : Option Holder) (e : ValuePlace) → index < length elements → e ≡ get_or elements index e
    → stamps_of (slice_set elements index (record e { value = o })) ≡ stamps_of elements
stamps-put [] index o e h is = absurd (omega arith)
stamps-put (x ∷ elements) zero o e h is = λ i. (is i).stamp ∷ stamps_of elements
stamps-put (x ∷ elements) (suc index) o e h is = ap (λ xs. x.stamp ∷ xs) (stamps-put elements index o e (omega arith) is)

pub value-at : (elements : List ValuePlace) (index : ℕ) (e : ValuePlace) → index < length elements → e ≡ get_or elements index e
    → slice_get (values_of elements) index ≡ Some e.value
value-at [] index e h is = absurd (omega arith)
value-at (x ∷ elements) zero e h is = λ i. Some (sym is i).value
value-at (x ∷ elements) (suc index) e h is = value-at elements index e (omega arith) is

pub value-past : (elements : List ValuePlace) (index : ℕ) → length elements ≤ index → slice_get (values_of elements) index ≡ None
value-past [] index h = refl
value-past (x ∷ elements) zero h = absurd (omega arith)
value-past (x ∷ elements) (suc index) h = value-past elements index (omega arith)

pub places-restamped : (stamps : List ℕ) (cell : Cell) (t : ℕ) → is_some (stamp_in stamps (index_of cell)) ≡ true
    → places_from 1 (restamped stamps (index_of cell) t) ≡ insert (places_from 1 stamps) cell t
places-restamped stamps (cells.Elem zero) t there = absurd (true≢false (sym there))
places-restamped stamps (cells.Elem (suc index)) t there = stamped.places-set stamps index t (stamp-within stamps index there)
places-restamped stamps (cells.Prop n) t there = absurd (true≢false (sym there))
places-restamped stamps (cells.Key key) t there = absurd (true≢false (sym there))
places-restamped stamps cells.Default t there = absurd (true≢false (sym there))
