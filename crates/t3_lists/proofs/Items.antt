-- The items of a vector: the values of its present elements. Other crates may use these.
use Rattle.std.proofs.Common.{◌≡◌, ◌∙◌, ap, sym, refl, ℕ, zero, suc, ◌+◌, ◌<◌, ◌≤◌, slice_get, set as slice_set, true, true≢false, cond, List, [], ◌∷◌, ◌++◌, length, filter, filter_map, map, Option, None, Some, is_some, count_by, arith}
use Rattle.std.specs.Ordering.{ordering_then}
use Rattle.std.specs.declared.cmp.Ordering.TheVariants.{Less, Equal}
use Rattle.std.specs.Cmp.{nat_cmp_is}
use Rattle.std.proofs.lemmas.List.Sums.{sum_by-cons, length-filter, count_by-le-length}
use Rattle.std.specs.FinMap.{get, entries, put, entries-insert, contains_key, same_map}
use Rattle.std.specs.FinMap.Entries.{by_order}
use Rattle.std.proofs.lemmas.Option.{slice_get_past}
use Rattle.t3_holder.specs.declared.holder.Holder.{Holder}
use Rattle.t3_undo.specs.Cell.{cell_cmp, cell_cmp_total, cell_cmp-IsAntisymmetric}
use Rattle.t3_undo.specs.Content.{shown, places_for}
use Rattle.t3_undo.specs.Present.{Present}
use Rattle.t3_undo.specs.Present as presents
use Rattle.t3_undo.specs.Objects.{set_at}
use Rattle.t3_undo.specs.Slots as slots
use Rattle.t3_undo.specs.declared.cell.Cell.{Cell}
use Rattle.t3_undo.specs.declared.cell.Cell.TheVariants as cells
use Rattle.t3_undo.specs.declared.content.Content.TheVariants.{Held}
use Rattle.t3_undo.proofs.Maps.{set_at-absent, set_at-back, entries-empty}
use Rattle.t3_undo.proofs.SlotLists.{seen, get-parts_of, parts_of-add, zero_if, get-places_for}
use Rattle.t3_lists.specs.Vector.{bare, numbered, parts_in, parts_of, places_of, values_of, stamps_of, item_in, items_of, filled, HasPlaceBelow}
use Rattle.t3_lists.specs.Inner.Elements.{content_found, content_in, index_of, stamp_in, present_of, AreCounted}
use Rattle.t3_undo.specs.StampedValue.{ValuePlace}
use Rattle.t3_lists.proofs.ElementStamps as stamped
use Rattle.t3_lists.proofs.ElementLists.{lookup-below, numbered-push, new-cell, parts-exchanged, found, is-found, not-found, get-parts, contains-places, stamp-there, placed}

abbrev Elements : Type 0
Elements = List (Option Holder)

-- the present elements in their cells
abbrev present_from : ℕ → Elements → List (Cell × Present)
present_from number [] = []
present_from number (None ∷ elements) = present_from (suc number) elements
present_from number (Some value ∷ elements) =
    (cells.Elem number, presents.Value None value) ∷ present_from (suc number) elements

-- a lower element comes first
put-first : (n number : ℕ) (p : Present) (elements : Elements) → n < number
    → put cell_cmp (cells.Elem n) p (present_from number elements) ≡ (cells.Elem n, p) ∷ present_from number elements
put-first n number p [] h = refl
put-first n number p (None ∷ elements) h = put-first n (suc number) p elements (omega arith)
put-first n number p (Some value ∷ elements) h =
    ap (λ r. by_order (ordering_then r Equal)
    ((cells.Elem n, p) ∷ (cells.Elem number, presents.Value None value) ∷ present_from (suc number) elements)
    ((cells.Elem number, p) ∷ present_from (suc number) elements)
    ((cells.Elem number, presents.Value None value) ∷ put cell_cmp (cells.Elem n) p (present_from (suc number) elements)))
    (sym (nat_cmp_is n number Less h))

entries-numbered : (number : ℕ) (elements : Elements) → entries (slots.parts_of (numbered number elements)) ≡ present_from number elements
unfolding slots.parts_of set_at
entries-numbered number [] = entries-empty cell_cmp
entries-numbered number (None ∷ elements) =
    ap entries (set_at-absent cell_cmp_total cell_cmp-IsAntisymmetric (slots.parts_of (numbered (suc number) elements)) (cells.Elem number)
    (get-parts_of (numbered (suc number) elements) (cells.Elem number)
    ∙ ap seen (lookup-below (suc number) number elements (omega arith))))
    ∙ entries-numbered (suc number) elements
entries-numbered number (Some value ∷ elements) =
    entries-insert cell_cmp_total (slots.parts_of (numbered (suc number) elements)) (cells.Elem number)
    (presents.Value None value)
    ∙ ap (put cell_cmp (cells.Elem number) (presents.Value None value)) (entries-numbered (suc number) elements)
    ∙ put-first number (suc number) (presents.Value None value) elements (omega arith)

-- the values of the present elements
abbrev pub values : Elements → List Holder
values elements = filter_map (λ element. element) elements

values-present : (number : ℕ) (elements : Elements) → filter_map (λ e. item_in e.0 e.1) (present_from number elements) ≡ values elements
values-present number [] = refl
values-present number (None ∷ elements) = values-present (suc number) elements
values-present number (Some value ∷ elements) = ap (λ xs. value ∷ xs) (values-present (suc number) elements)

pub items-parts : (elements : Elements) → items_of (parts_in elements) ≡ values elements
unfolding items_of parts_in
items-parts elements = ap (filter_map (λ (e : Cell × Present). item_in e.0 e.1)) (entries-numbered 1 elements) ∙ values-present 1 elements

pub values-filled : (items : List Holder) → values (map (λ item. Some item) items) ≡ items
values-filled [] = refl
values-filled (item ∷ items) = ap (λ xs. item ∷ xs) (values-filled items)

-- the items of a vector that has just these
pub items-filled : (items : List Holder) → items_of (filled items) ≡ items
items-filled items = items-parts (map (λ item. Some item) items) ∙ values-filled items

pub length-values : (elements : Elements) → length (values elements) ≡ count_by is_some elements
length-values [] = refl
length-values (None ∷ elements) =
    length-values elements ∙ sym (sum_by-cons (λ (element : Option Holder). cond (is_some element) 1 0) None elements ∙ omega arith)
length-values (Some value ∷ elements) =
    ap (λ n. suc n) (length-values elements)
    ∙ (let more = sum_by-cons (λ (element : Option Holder). cond (is_some element) 1 0) (Some value) elements in omega (arith, more))

-- the present elements alone
pub filter-present : (elements : Elements) → filter is_some elements ≡ map (λ item. Some item) (values elements)
filter-present [] = refl
filter-present (None ∷ elements) = filter-present elements
filter-present (Some value ∷ elements) = ap (λ xs. Some value ∷ xs) (filter-present elements)

pub counted-copy : (elements : Elements) (present : ℕ) → AreCounted elements present → AreCounted (filter is_some elements) present
counted-copy elements present counted = record {
  counted =
      counted.counted ∙ sym (length-values elements) ∙ ap length (sym (values-filled (values elements)))
      ∙ length-values (map (λ item. Some item) (values elements)) ∙ ap (count_by is_some) (sym (filter-present elements));
  few =
      let same = length-filter (λ (element : Option Holder). is_some element) elements in
      let least = count_by-le-length (λ (element : Option Holder). is_some element) elements in
      omega (arith, same, least, counted.few);
}

-- the items, where the parts are those of just these
pub values-whole : (elements : Elements) (items : List Holder) → parts_in elements ≡ filled items → values elements ≡ items
values-whole elements items e = sym (items-parts elements) ∙ ap items_of e ∙ items-filled items

pub parts-copy : (elements : Elements) (items : List Holder) → parts_in elements ≡ filled items
    → parts_in (filter is_some elements) ≡ parts_in elements
parts-copy elements items e =
    ap parts_in (filter-present elements) ∙ ap filled (values-whole elements items e) ∙ sym e

-- an item more
numbered-items : (number : ℕ) (items : List Holder) (item : Holder)
    → map (λ x. Some x) (items ++ item ∷ []) ≡ map (λ x. Some x) items ++ Some item ∷ []
numbered-items number [] item = refl
numbered-items number (first ∷ items) item = ap (λ xs. Some first ∷ xs) (numbered-items number items item)

length-map : (items : List Holder) → length (map (λ x. Some x) items) ≡ length items
length-map [] = refl
length-map (item ∷ items) = ap (λ n. suc n) (length-map items)

pub filled-push : (items : List Holder) (item : Holder)
    → filled (items ++ item ∷ []) ≡ set_at (filled items) (cells.Elem (1 + length items)) (shown (Held item))
unfolding parts_in
filled-push items item =
    ap (λ elements. slots.parts_of (numbered 1 elements)) (numbered-items 1 items item)
    ∙ ap slots.parts_of (numbered-push 1 (map (λ x. Some x) items) (Some item))
    ∙ parts_of-add (numbered 1 (map (λ x. Some x) items)) (cells.Elem (1 + length (map (λ x. Some x) items))) (bare (Some item))
    (new-cell (map (λ x. Some x) items))
    ∙ ap (λ n. set_at (slots.parts_of (numbered 1 (map (λ x. Some x) items))) (cells.Elem (1 + n)) (shown (Held item))) (length-map items)

-- an item set anew
set-map : (items : List Holder) (index : ℕ) (item : Holder)
    → map (λ x. Some x) (slice_set items index item) ≡ slice_set (map (λ x. Some x) items) index (Some item)
set-map [] index item = refl
set-map (first ∷ items) zero item = refl
set-map (first ∷ items) (suc index) item = ap (λ xs. Some first ∷ xs) (set-map items index item)

pub filled-set : (items : List Holder) (index : ℕ) (item : Holder) → index < length items
    → filled (slice_set items index item) ≡ set_at (filled items) (cells.Elem (1 + index)) (shown (Held item))
filled-set items index item h =
    ap parts_in (set-map items index item)
    ∙ parts-exchanged (map (λ x. Some x) items) (Held item) (cells.Elem (suc index))
    (is-found (map (λ x. Some x) items) index (let same = length-map items in omega (arith, same))) refl
    ∙ ap (λ n. set_at (filled items) (cells.Elem n) (shown (Held item))) (omega arith)

-- the last item taken away
pub filled-pop : (items : List Holder) (item : Holder)
    → set_at (filled (items ++ item ∷ [])) (cells.Elem (1 + length items)) None ≡ filled items
filled-pop items item =
    ap (λ parts. set_at parts (cells.Elem (1 + length items)) None) (filled-push items item)
    ∙ ap (set_at (set_at (filled items) (cells.Elem (1 + length items)) (shown (Held item))) (cells.Elem (1 + length items)))
    (sym (past items))
    ∙ set_at-back cell_cmp_total cell_cmp-IsAntisymmetric (filled items) (cells.Elem (1 + length items)) (shown (Held item))
  where
    past : (items : List Holder) → get (filled items) (cells.Elem (1 + length items)) ≡ None
    past items =
        (let e : 1 + length items ≡ suc (length items) = omega arith in ap (λ n. get (filled items) (cells.Elem n)) e)
        ∙ get-parts (map (λ x. Some x) items) (cells.Elem (suc (length items)))
        ∙ ap (λ o. shown (content_found o))
        (slice_get_past (map (λ x. Some x) items) (length items) (let same = length-map items in omega (arith, same)))

-- there are as many stamps as values
pub length-stamps : (elements : List ValuePlace) → length (stamps_of elements) ≡ length (values_of elements)
length-stamps [] = refl
length-stamps (element ∷ elements) = ap (λ n. suc n) (length-stamps elements)

-- where no element is missing, up to the next one each can be given a place
pub place-below : (elements : List ValuePlace) (items : List Holder) (index : ℕ) → parts_of elements ≡ filled items → index ≤ length items
    → HasPlaceBelow (places_of elements) (cells.Elem (suc index))
place-below elements items index whole h = (omega arith, below)
  where
    stands : (items : List Holder) (lower : ℕ) → lower < length items
        → is_some (shown (content_found (slice_get (map (λ x. Some x) items) lower))) ≡ true
    stands [] lower h = absurd (omega arith)
    stands (item ∷ items) zero h = refl
    stands (item ∷ items) (suc lower) h = stands items lower (omega arith)

    below : (lower : ℕ) → 0 < lower → lower < suc index → contains_key (places_of elements) (cells.Elem lower) ≡ true
    below zero least less = absurd (omega arith)
    below (suc lower) least less =
        let there = placed (values_of elements) (Some lower)
        (ap is_some (sym (get-parts (values_of elements) (cells.Elem (suc lower)))
        ∙ ap (λ parts. get parts (cells.Elem (suc lower))) whole
        ∙ get-parts (map (λ x. Some x) items) (cells.Elem (suc lower))) ∙ stands items lower (omega arith)) in
        let within = not-found (values_of elements) lower there in
        let same = length-stamps elements in
        contains-places (stamps_of elements) (cells.Elem (suc lower)) ∙ stamp-there (stamps_of elements) lower (omega (arith, within, same))

-- a copy's elements
pub values-afresh : (elements : List ValuePlace) → values_of (present_of elements) ≡ filter is_some (values_of elements)
values-afresh [] = refl
values-afresh (element ∷ elements) = by element.value (values-afresh elements)
  where
    by : (o : Option Holder) → values_of (present_of elements) ≡ filter is_some (values_of elements)
        → values_of (present_of (record { stamp = element.stamp; value = o } ∷ elements))
        ≡ filter is_some (values_of (record { stamp = element.stamp; value = o } ∷ elements))
    by None rest = rest
    by (Some value) rest = ap (λ xs. Some value ∷ xs) rest

-- each stamp of these is 0
abbrev AllZero : List ValuePlace → Type 0
AllZero elements = (index : ℕ) → slice_get (stamps_of elements) index ≡ zero_if (is_some (slice_get (values_of elements) index))

all-zero : (elements : List ValuePlace) → AllZero (present_of elements)
all-zero [] index = refl
all-zero (element ∷ elements) index = by element.value (all-zero elements) index
  where
    by : (o : Option Holder) → AllZero (present_of elements) → AllZero (present_of (record { stamp = element.stamp; value = o } ∷ elements))
    by None rest index = rest index
    by (Some value) rest zero = refl
    by (Some value) rest (suc index) = rest index

-- what stands among items is present
stands-at : (items : List Holder) (index : ℕ) → is_some (slice_get (map (λ x. Some x) items) index)
    ≡ is_some (shown (content_found (slice_get (map (λ x. Some x) items) index)))
stands-at [] index = refl
stands-at (item ∷ items) zero = refl
stands-at (item ∷ items) (suc index) = stands-at items index

-- and its places: a stamp 0 for each item
pub places-afresh : (elements : List ValuePlace) (items : List Holder) → values_of (present_of elements) ≡ map (λ x. Some x) items
    → places_of (present_of elements) ≡ places_for (filled items)
places-afresh elements items e =
    same_map cell_cmp_total cell_cmp-IsAntisymmetric _ _ (λ q.
    stamped.get-places (stamps_of (present_of elements)) q ∙ by (index_of q)
    ∙ ap (λ o. zero_if (is_some o)) (sym (get-parts (map (λ x. Some x) items) q))
    ∙ sym (get-places_for (filled items) q))
  where
    by : (index : Option ℕ) → stamp_in (stamps_of (present_of elements)) index
        ≡ zero_if (is_some (shown (content_in (map (λ x. Some x) items) index)))
    by None = refl
    by (Some index) = all-zero elements index ∙ (λ i. zero_if (is_some (slice_get (e i) index))) ∙ ap zero_if (stands-at items index)

pub places-copy : (elements : List ValuePlace) (items : List Holder) → parts_of elements ≡ filled items
    → places_of (present_of elements) ≡ places_for (parts_of elements)
places-copy elements items whole =
    places-afresh elements (values (values_of elements))
    (values-afresh elements ∙ filter-present (values_of elements))
    ∙ ap (λ items. places_for (filled items)) (values-whole (values_of elements) items whole) ∙ ap places_for (sym whole)

-- an element has a place where there is a value or none, and nowhere else
pub found-stamp : (elements : List ValuePlace) (index : Option ℕ) → is_some (found (values_of elements) index) ≡ true
    → is_some (stamp_in (stamps_of elements) index) ≡ true
found-stamp elements None there = there
found-stamp [] (Some index) there = absurd (true≢false (sym there))
found-stamp (element ∷ elements) (Some zero) there = refl
found-stamp (element ∷ elements) (Some (suc index)) there = found-stamp elements (Some index) there

pub stamp-found : (elements : List ValuePlace) (index : Option ℕ) → is_some (stamp_in (stamps_of elements) index) ≡ true
    → is_some (found (values_of elements) index) ≡ true
stamp-found elements None there = there
stamp-found [] (Some index) there = absurd (true≢false (sym there))
stamp-found (element ∷ elements) (Some zero) there = refl
stamp-found (element ∷ elements) (Some (suc index)) there = stamp-found elements (Some index) there
