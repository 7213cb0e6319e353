-- What a change of a vector's parts does to its items, where no element is missing. Other crates may use these.
use Rattle.std.proofs.Common.{◌≡◌, ◌∙◌, ap, sym, refl, ℕ, zero, suc, ◌+◌, ◌-◌, ◌<◌, ◌≤◌, ◌==◌, Bool, true, false, cond, ◌&&◌, ◌||◌, List, [], ◌∷◌, ◌++◌, length, take, map, slice_get, set as slice_set, Option, None, Some, IsSome, is_some, true≢false, nat_lt, ltb-true, ltb-false, lt-ltb, eqb-true, length-set, length-append, arith}
use Rattle.std.specs.Option.{option_and_then}
use Rattle.std.specs.FinMap.{get}
use Rattle.t3_holder.specs.declared.holder.Holder.{Holder}
use Rattle.t3_undo.specs.Content.{shown, Parts}
use Rattle.t3_undo.specs.Present.{Present, value_in}
use Rattle.t3_undo.specs.Present as presents
use Rattle.t3_undo.specs.Objects.{set_at}
use Rattle.t3_undo.specs.declared.cell.Cell.{Cell}
use Rattle.t3_undo.specs.declared.cell.Cell.TheVariants as cells
use Rattle.t3_lists.specs.Vector.{parts_of, places_of, items_of, filled, HasPlaceBelow}
use Rattle.t3_lists.specs.Inner.Elements.{content_found, content_in, index_of}
use Rattle.t3_undo.proofs.PresentForms.{value-shown}
use Rattle.t3_undo.specs.StampedValue.{ValuePlace}
use Rattle.t3_lists.proofs.ElementLists.{get-parts}
use Rattle.t3_lists.proofs.Items.{items-filled, filled-push, filled-set, filled-pop, place-below}
use Rattle.t3_lists.specs.Items.{IsWholeVector, element_at, set_item, with_element, but_last, without_element, is_element_within, is_element_for, is_last}

abbrev Items : Type 0
Items = List Holder

found-map : (items : Items) (index : ℕ)
    → option_and_then value_in (shown (content_found (slice_get (map (λ item. Some item) items) index))) ≡ slice_get items index
found-map [] index = refl
found-map (item ∷ items) zero = refl
found-map (item ∷ items) (suc index) = found-map items index

-- what stands in a cell of a vector of these items
pub held-filled : (items : Items) (cell : Cell) → option_and_then value_in (get (filled items) cell) ≡ element_at cell items
held-filled items (cells.Elem zero) = ap (option_and_then value_in) (get-parts (map (λ item. Some item) items) (cells.Elem zero))
held-filled items (cells.Elem (suc index)) =
    ap (option_and_then value_in) (get-parts (map (λ item. Some item) items) (cells.Elem (suc index))) ∙ found-map items index
held-filled items (cells.Prop n) = ap (option_and_then value_in) (get-parts (map (λ item. Some item) items) (cells.Prop n))
held-filled items (cells.Key key) = ap (option_and_then value_in) (get-parts (map (λ item. Some item) items) (cells.Key key))
held-filled items cells.Default = ap (option_and_then value_in) (get-parts (map (λ item. Some item) items) cells.Default)

-- what is present is a value
pub filled-valued : (items : Items) (cell : Cell) → is_some (option_and_then value_in (get (filled items) cell)) ≡ is_some (get (filled items) cell)
filled-valued items cell =
    let is = get-parts (map (λ item. Some item) items) cell in
    ap (λ o. is_some (option_and_then value_in o)) is ∙ value-shown (content_in (map (λ item. Some item) items) (index_of cell)) ∙ sym (ap is_some is)

pub vector-valued : (parts : Parts) (cell : Cell) → IsWholeVector parts
    → is_some (option_and_then value_in (get parts cell)) ≡ is_some (get parts cell)
vector-valued parts cell whole =
    ap (λ p. is_some (option_and_then value_in (get p cell))) whole.are ∙ filled-valued whole.items cell
    ∙ sym (ap (λ p. is_some (get p cell)) whole.are)

-- an element set
next-is : (index count : ℕ) → nat_lt index count ≡ false → (nat_lt index count || (index == count && nat_lt index 65535)) ≡ true
    → (index ≡ count) × (index < 65535)
next-is index count past can = by (index == count) refl (nat_lt index 65535) refl (ap (λ b. b || (index == count && nat_lt index 65535)) (sym past) ∙ can)
  where
    by : (a : Bool) → (index == count) ≡ a → (b : Bool) → nat_lt index 65535 ≡ b → (a && b) ≡ true → (index ≡ count) × (index < 65535)
    by true e true f both = (eqb-true index count e, ltb-true index 65535 f)
    by true e false f both = absurd (true≢false (sym both))
    by false e b f both = absurd (true≢false (sym both))

at-number : (items : Items) (n m : ℕ) (o : Option Present) → n ≡ m → set_at (filled items) (cells.Elem n) o ≡ set_at (filled items) (cells.Elem m) o
at-number items n m o e = ap (λ k. set_at (filled items) (cells.Elem k) o) e

item-set : (items : Items) (index : ℕ) (value : Holder) → is_element_within (suc index) (length items) ≡ true
    → set_at (filled items) (cells.Elem (suc index)) (Some (presents.Value None value)) ≡ filled (set_item index value items)
item-set items index value can = by (nat_lt index (length items)) refl
  where
    by : (b : Bool) → nat_lt index (length items) ≡ b
        → set_at (filled items) (cells.Elem (suc index)) (Some (presents.Value None value))
        ≡ filled (cond b (slice_set items index value) (items ++ value ∷ []))
    by true e = at-number items (suc index) (1 + index) _ (omega arith) ∙ sym (filled-set items index value (ltb-true index (length items) e))
    by false e =
        let is = next-is index (length items) e can in
        at-number items (suc index) (1 + length items) _ (omega (arith, is.0)) ∙ sym (filled-push items value)

pub filled-with : (items : Items) (cell : Cell) (value : Holder) → is_element_for cell (length items) ≡ true
    → set_at (filled items) cell (Some (presents.Value None value)) ≡ filled (with_element cell value items)
filled-with items (cells.Elem zero) value can = absurd (true≢false (sym can))
filled-with items (cells.Elem (suc index)) value can = item-set items index value can
filled-with items (cells.Prop n) value can = absurd (true≢false (sym can))
filled-with items (cells.Key key) value can = absurd (true≢false (sym can))
filled-with items cells.Default value can = absurd (true≢false (sym can))

found-less : (items : Items) (index : ℕ) → is_some (slice_get items index) ≡ nat_lt index (length items)
found-less [] index = by (nat_lt index 0) refl
  where
    by : (b : Bool) → nat_lt index 0 ≡ b → false ≡ b
    by true e = let h = ltb-true index 0 e in absurd (omega arith)
    by false e = refl
found-less (item ∷ items) zero = sym (lt-ltb 0 (suc (length items)) (omega arith))
found-less (item ∷ items) (suc index) = found-less items index ∙ by (nat_lt index (length items)) refl
  where
    by : (b : Bool) → nat_lt index (length items) ≡ b → b ≡ nat_lt (suc index) (suc (length items))
    by true e = let h = ltb-true index (length items) e in sym (lt-ltb (suc index) (suc (length items)) (omega arith))
    by false e = inner (nat_lt (suc index) (suc (length items))) refl
      where
        inner : (b : Bool) → nat_lt (suc index) (suc (length items)) ≡ b → false ≡ b
        inner true f =
            let h = ltb-true (suc index) (suc (length items)) f in
            let g = ltb-false index (length items) e in
            absurd (omega arith)
        inner false f = refl

-- how many items there are then
length-item : (items : Items) (index : ℕ) (value : Holder) → is_element_within (suc index) (length items) ≡ true
    → length (set_item index value items) ≡ cond (is_some (slice_get items index)) (length items) (length items + 1)
length-item items index value can =
    by (nat_lt index (length items)) ∙ ap (λ b. cond b (length items) (length items + 1)) (sym (found-less items index))
  where
    by : (b : Bool) → length (cond b (slice_set items index value) (items ++ value ∷ [])) ≡ cond b (length items) (length items + 1)
    by true = length-set items index value
    by false = let all = length-append items (value ∷ []) in omega arith

pub length-with : (items : Items) (cell : Cell) (value : Holder) → is_element_for cell (length items) ≡ true
    → length (with_element cell value items) ≡ cond (is_some (element_at cell items)) (length items) (length items + 1)
length-with items (cells.Elem zero) value can = absurd (true≢false (sym can))
length-with items (cells.Elem (suc index)) value can = length-item items index value can
length-with items (cells.Prop n) value can = absurd (true≢false (sym can))
length-with items (cells.Key key) value can = absurd (true≢false (sym can))
length-with items cells.Default value can = absurd (true≢false (sym can))

-- there are never too many
pub few-with : (items : Items) (cell : Cell) (value : Holder) → is_element_for cell (length items) ≡ true → length items ≤ 65535
    → length (with_element cell value items) ≤ 65535
few-with items (cells.Elem zero) value can few = absurd (true≢false (sym can))
few-with items (cells.Elem (suc index)) value can few = by (nat_lt index (length items)) refl
  where
    by : (b : Bool) → nat_lt index (length items) ≡ b → length (cond b (slice_set items index value) (items ++ value ∷ [])) ≤ 65535
    by true e = let same = length-set items index value in omega arith
    by false e =
        let is = next-is index (length items) e can in
        let all = length-append items (value ∷ []) in
        omega (arith, is.0, is.1)
few-with items (cells.Prop n) value can few = absurd (true≢false (sym can))
few-with items (cells.Key key) value can few = absurd (true≢false (sym can))
few-with items cells.Default value can few = absurd (true≢false (sym can))

-- the last element taken away
last-of : (items : Items) → 0 < length items → (item : Holder) × (items ≡ but_last items ++ item ∷ [])
last-of [] h = absurd (omega arith)
last-of (item ∷ []) h = (item, refl)
last-of (item ∷ next ∷ items) h =
    let rest = last-of (next ∷ items) (omega arith) in
    let less : length (item ∷ next ∷ items) - 1 ≡ suc (length (next ∷ items) - 1) = omega arith in
    (rest.0, ap (λ xs. item ∷ xs) rest.1 ∙ ap (λ n. take n (item ∷ next ∷ items) ++ rest.0 ∷ []) (sym less))

record IsLast (number count : ℕ) : Type 0 where
  some : 0 < number
  is : number ≡ count

last-is : (number count : ℕ) → (nat_lt 0 number && (number == count)) ≡ true → IsLast number count
last-is number count e = by (nat_lt 0 number) refl (number == count) refl e
  where
    by : (a : Bool) → nat_lt 0 number ≡ a → (b : Bool) → (number == count) ≡ b → (a && b) ≡ true → IsLast number count
    by true f true g both = record { some = ltb-true 0 number f; is = eqb-true number count g }
    by true f false g both = absurd (true≢false (sym both))
    by false f b g both = absurd (true≢false (sym both))

pub filled-without : (items : Items) (cell : Cell) → is_last cell (length items) ≡ true
    → set_at (filled items) cell None ≡ filled (without_element cell items)
filled-without items (cells.Elem number) can =
    let last = last-is number (length items) can in
    let rest = last-of items (omega (arith, last.some, last.is)) in
    let more : length items ≡ length (but_last items) + 1 = ap length rest.1 ∙ length-append (but_last items) (rest.0 ∷ []) in
    let number_is : number ≡ 1 + length (but_last items) = omega (arith, last.is, more) in
    at-number items number (1 + length (but_last items)) None number_is
    ∙ ap (λ xs. set_at (filled xs) (cells.Elem (1 + length (but_last items))) None) rest.1
    ∙ filled-pop (but_last items) rest.0
filled-without items (cells.Prop n) can = absurd (true≢false (sym can))
filled-without items (cells.Key key) can = absurd (true≢false (sym can))
filled-without items cells.Default can = absurd (true≢false (sym can))

pub length-without : (items : Items) (cell : Cell) → is_last cell (length items) ≡ true → length (without_element cell items) + 1 ≡ length items
length-without items (cells.Elem number) can =
    let last = last-is number (length items) can in
    let rest = last-of items (omega (arith, last.some, last.is)) in
    sym (ap length rest.1 ∙ length-append (but_last items) (rest.0 ∷ []))
length-without items (cells.Prop n) can = absurd (true≢false (sym can))
length-without items (cells.Key key) can = absurd (true≢false (sym can))
length-without items cells.Default can = absurd (true≢false (sym can))

-- an element that is there can be set
pub present-element : (items : Items) (cell : Cell) → IsSome (element_at cell items) → is_element_for cell (length items) ≡ true
present-element items (cells.Elem zero) some = absurd (true≢false (sym some))
present-element items (cells.Elem (suc index)) some =
    ap (λ b. b || (index == length items && nat_lt index 65535)) (sym (found-less items index) ∙ some)
present-element items (cells.Prop n) some = absurd (true≢false (sym some))
present-element items (cells.Key key) some = absurd (true≢false (sym some))
present-element items cells.Default some = absurd (true≢false (sym some))

-- up to the next one each element can be given a place
pub vector-place : (elements : List ValuePlace) (cell : Cell) → IsWholeVector (parts_of elements)
    → is_element_for cell (length (items_of (parts_of elements))) ≡ true → HasPlaceBelow (places_of elements) cell
vector-place elements (cells.Elem zero) whole can = absurd (true≢false (sym can))
vector-place elements (cells.Elem (suc index)) whole can =
    place-below elements whole.items index whole.are (by (nat_lt index (length whole.items)) refl)
  where
    within : is_element_within (suc index) (length whole.items) ≡ true
    within = ap (λ items. is_element_within (suc index) (length items)) (sym (ap items_of whole.are ∙ items-filled whole.items)) ∙ can

    by : (b : Bool) → nat_lt index (length whole.items) ≡ b → index ≤ length whole.items
    by true e = let h = ltb-true index (length whole.items) e in omega arith
    by false e = let is = next-is index (length whole.items) e within in omega (arith, is.0)
vector-place elements (cells.Prop n) whole can = absurd (true≢false (sym can))
vector-place elements (cells.Key key) whole can = absurd (true≢false (sym can))
vector-place elements cells.Default whole can = absurd (true≢false (sym can))

-- what stands in a cell of a vector
pub held-vector : (parts : Parts) (cell : Cell) → IsWholeVector parts → option_and_then value_in (get parts cell) ≡ element_at cell (items_of parts)
held-vector parts cell whole =
    ap (λ p. option_and_then value_in (get p cell)) whole.are ∙ held-filled whole.items cell
    ∙ ap (element_at cell) (sym (ap items_of whole.are ∙ items-filled whole.items))

-- a vector with an element set, and with the last one taken away
items-whole : (parts : Parts) (whole : IsWholeVector parts) → items_of parts ≡ whole.items
items-whole parts whole = ap items_of whole.are ∙ items-filled whole.items

vector-with : (parts : Parts) (cell : Cell) (value : Holder) (whole : IsWholeVector parts) → is_element_for cell (length (items_of parts)) ≡ true
    → set_at parts cell (Some (presents.Value None value)) ≡ filled (with_element cell value whole.items)
vector-with parts cell value whole can =
    ap (λ p. set_at p cell (Some (presents.Value None value))) whole.are
    ∙ filled-with whole.items cell value (ap (λ items. is_element_for cell (length items)) (sym (items-whole parts whole)) ∙ can)

pub vector-set : (parts : Parts) (cell : Cell) (value : Holder) → IsWholeVector parts → is_element_for cell (length (items_of parts)) ≡ true
    → items_of (set_at parts cell (Some (presents.Value None value))) ≡ with_element cell value (items_of parts)
vector-set parts cell value whole can =
    ap items_of (vector-with parts cell value whole can) ∙ items-filled (with_element cell value whole.items)
    ∙ ap (with_element cell value) (sym (items-whole parts whole))

pub whole-with : (parts : Parts) (cell : Cell) (value : Holder) → IsWholeVector parts → is_element_for cell (length (items_of parts)) ≡ true
    → IsWholeVector (set_at parts cell (Some (presents.Value None value)))
whole-with parts cell value whole can = record {
  items = with_element cell value whole.items;
  are = vector-with parts cell value whole can;
  few = few-with whole.items cell value (ap (λ items. is_element_for cell (length items)) (sym (items-whole parts whole)) ∙ can) whole.few;
}

vector-less : (parts : Parts) (cell : Cell) (whole : IsWholeVector parts) → is_last cell (length (items_of parts)) ≡ true
    → set_at parts cell None ≡ filled (without_element cell whole.items)
vector-less parts cell whole can =
    ap (λ p. set_at p cell None) whole.are
    ∙ filled-without whole.items cell (ap (λ items. is_last cell (length items)) (sym (items-whole parts whole)) ∙ can)

pub vector-without : (parts : Parts) (cell : Cell) → IsWholeVector parts → is_last cell (length (items_of parts)) ≡ true
    → items_of (set_at parts cell None) ≡ without_element cell (items_of parts)
vector-without parts cell whole can =
    ap items_of (vector-less parts cell whole can) ∙ items-filled (without_element cell whole.items)
    ∙ ap (without_element cell) (sym (items-whole parts whole))

pub whole-less : (parts : Parts) (cell : Cell) → IsWholeVector parts → is_last cell (length (items_of parts)) ≡ true → IsWholeVector (set_at parts cell None)
whole-less parts cell whole can = record {
  items = without_element cell whole.items;
  are = vector-less parts cell whole can;
  few =
      let last = ap (λ items. is_last cell (length items)) (sym (items-whole parts whole)) ∙ can in
      let less = length-without whole.items cell last in
      omega (arith, less, whole.few);
}
