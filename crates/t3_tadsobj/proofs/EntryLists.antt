-- What the entries of an object's properties answer, and what a change of one does.
use Rattle.std.proofs.Common.{◌≡◌, ◌∙◌, ap, sym, refl, ℕ, suc, ◌+◌, ◌≤◌, length, Bool, true, false, cond, List, [], ◌∷◌, filter, Option, None, Some, IsTrue, IsSome, is_some, true≢false, arith}
use Rattle.std.specs.Ordering.{nat_cmp, eq_by_cmp}
use Rattle.std.specs.Cmp.{nat_cmp_total, eq_by_cmp_equiv}
use Rattle.std.specs.Option.{option_map, option_and_then}
use Rattle.std.specs.Map.{keys_of, lookup}
use Rattle.std.specs.Map.Calls.{RetainsPairs}
use Rattle.std.specs.BTreeMap.{is_at}
use Rattle.std.specs.FinMap.{get, insert, len, get-insert, same_map, contains_key}
use Rattle.std.specs.List.{IsDistinct, AllByRecursion}
use Rattle.t3_holder.specs.declared.holder.Holder.{Holder}
use Rattle.t3_undo.specs.Cell.{cell_cmp_total, cell_cmp-IsAntisymmetric}
use Rattle.t3_undo.specs.Content.{shown, is_form, places_for}
use Rattle.t3_undo.specs.Present.{Present, value_in}
use Rattle.t3_undo.specs.Objects.{set_at}
use Rattle.t3_undo.specs.Slots.{parts_of, places_of, is_present}
use Rattle.t3_undo.specs.declared.cell.Cell.{Cell}
use Rattle.t3_undo.specs.declared.cell.Cell.TheVariants as cells
use Rattle.t3_undo.specs.declared.content.Content.{Content}
use Rattle.t3_undo.specs.declared.content.Content.TheVariants.{Absent, Held, Slot}
use Rattle.t3_undo.proofs.Maps.{one_if, get-set_at, len-set_at}
use Rattle.t3_undo.proofs.SlotLists.{same, same-is, seen, stamped, get-parts_of, get-places_of, contains-places_of, insert-own, len-places_of, len-parts_of}
use Rattle.t3_undo.proofs.SlotCopies.{parts_of-filter, places_of-filter, parts_of-afresh}
use Rattle.t3_undo.proofs.SlotCopies as slots
use Rattle.t3_tadsobj.specs.Object.{is_prop}
use Rattle.t3_tadsobj.specs.Inner.Entries.{content_of, content_at, value_at, new_stamp, replaced, place_of, slots_of, parts_in, places_in, afresh}
use Rattle.t3_undo.specs.StampedValue.{ValuePlace}
use Rattle.t3_undo.specs.declared.place.Place.{Place}
use Rattle.t3_tadsobj.proofs.PropLists.{same-Prop}

abbrev pub Entries : Type 0
Entries = List (ℕ × ValuePlace)

-- what stands under a number
abbrev pub at : ℕ → Entries → Option ValuePlace
at n es = lookup (is_at (nat_cmp n)) es

cond-place_of : (b : Bool) (p : ValuePlace) (rest : Option ValuePlace) → option_map place_of (cond b (Some p) rest)
    ≡ cond b (Some (place_of p)) (option_map place_of rest)
cond-place_of true p rest = refl
cond-place_of false p rest = refl

pub lookup-Prop : (es : Entries) (n : ℕ) → lookup (same (cells.Prop n)) (slots_of es) ≡ option_map place_of (at n es)
lookup-Prop [] n = refl
lookup-Prop (e ∷ es) n =
    (λ i. cond (same-Prop n e.0 i) (Some (place_of e.1)) (lookup-Prop es n i))
    ∙ sym (cond-place_of (eq_by_cmp nat_cmp n e.0) e.1 (at n es))

-- no other cell is found
pub lookup-other : (es : Entries) (cell : Cell) → is_prop cell ≡ false → lookup (same cell) (slots_of es) ≡ None
lookup-other es (cells.Prop n) other = absurd (true≢false other)
lookup-other [] (cells.Elem n) other = refl
lookup-other (e ∷ es) (cells.Elem n) other = lookup-other es (cells.Elem n) other
lookup-other [] (cells.Key key) other = refl
lookup-other (e ∷ es) (cells.Key key) other = lookup-other es (cells.Key key) other
lookup-other [] cells.Default other = refl
lookup-other (e ∷ es) cells.Default other = lookup-other es cells.Default other

-- what a property's cell shows
seen-content : (o : Option ValuePlace) → seen (option_map place_of o) ≡ shown (content_at o)
seen-content None = refl
seen-content (Some o) = refl

pub get-Prop : (es : Entries) (n : ℕ) → get (parts_in es) (cells.Prop n) ≡ shown (content_at (at n es))
get-Prop es n = get-parts_of (slots_of es) (cells.Prop n) ∙ ap seen (lookup-Prop es n) ∙ seen-content (at n es)

pub get-other : (es : Entries) (cell : Cell) → is_prop cell ≡ false → get (parts_in es) cell ≡ None
get-other es cell other = get-parts_of (slots_of es) cell ∙ ap seen (lookup-other es cell other)

is_some-map : {X Y : Type 0} (f : X → Y) (o : Option X) → is_some (option_map f o) ≡ is_some o
is_some-map f None = refl
is_some-map f (Some x) = refl

pub contains-Prop : (es : Entries) (n : ℕ) → contains_key (places_in es) (cells.Prop n) ≡ is_some (at n es)
contains-Prop es n =
    contains-places_of (slots_of es) (cells.Prop n) ∙ ap is_some (lookup-Prop es n) ∙ is_some-map place_of (at n es)

stamped-place : (o : Option ValuePlace) → stamped (option_map place_of o) ≡ option_map (λ p. p.stamp) o
stamped-place None = refl
stamped-place (Some p) = refl

-- and its stamp
pub stamp-Prop : (es : Entries) (n : ℕ) → get (places_in es) (cells.Prop n) ≡ option_map (λ p. p.stamp) (at n es)
stamp-Prop es n = get-places_of (slots_of es) (cells.Prop n) ∙ ap stamped (lookup-Prop es n) ∙ stamped-place (at n es)

-- only properties have a place
pub contains-other : (es : Entries) (cell : Cell) → is_prop cell ≡ false → contains_key (places_in es) cell ≡ false
contains-other es cell other = contains-places_of (slots_of es) cell ∙ ap is_some (lookup-other es cell other)

-- a present property has a place
pub placed-Prop : (es : Entries) (n : ℕ) → IsSome (shown (content_at (at n es))) → contains_key (places_in es) (cells.Prop n) ≡ true
placed-Prop es n some = contains-Prop es n ∙ found (at n es) some
  where
    found : (o : Option ValuePlace) → is_some (shown (content_at o)) ≡ true → is_some o ≡ true
    found None some = some
    found (Some p) some = refl

-- a number that isn't found has nothing
pub missed : (o : Option ValuePlace) → is_some o ≡ false → o ≡ None
missed None e = refl
missed (Some p) e = absurd (true≢false e)

-- what a property's entry has is of the cell's form
pub formed : (n : ℕ) (o : Option ValuePlace) → IsTrue (is_form (cells.Prop n) (shown (content_at o)))
formed n None = refl
formed n (Some p) = by p.value
  where
    by : (value : Option Holder) → IsTrue (is_form (cells.Prop n) (shown (content_of value)))
    by None = refl
    by (Some value) = refl

-- a content of that form is its value's
pub content-value : (n : ℕ) (content : Content) → IsTrue (is_form (cells.Prop n) (shown content))
    → shown (content_of (option_and_then value_in (shown content))) ≡ shown content
content-value n Absent fits = refl
content-value n (Held value) fits = refl
content-value n (Slot tick value) fits = absurd (true≢false (sym fits))

-- a property set, or given a place
module _ (old new : Entries) (k : ℕ) (p : ValuePlace) (updates : (q : ℕ) → at q new ≡ cond (is_at (nat_cmp k) q) (Some p) (at q old)) where
  lookup-set : (cell : Cell) → lookup (same cell) (slots_of new)
      ≡ cond (same cell (cells.Prop k)) (Some (place_of p)) (lookup (same cell) (slots_of old))
  lookup-set (cells.Prop n) =
      lookup-Prop new n ∙ ap (option_map place_of) (updates n) ∙ cond-place_of (eq_by_cmp nat_cmp k n) p (at n old)
      ∙ (let tied = (eq_by_cmp_equiv nat_cmp_total).symm k n ∙ sym (same-Prop n k) in
      λ i. cond (tied i) (Some (place_of p)) (sym (lookup-Prop old n) i))
  lookup-set (cells.Elem n) = lookup-other new (cells.Elem n) refl ∙ sym (lookup-other old (cells.Elem n) refl)
  lookup-set (cells.Key key) = lookup-other new (cells.Key key) refl ∙ sym (lookup-other old (cells.Key key) refl)
  lookup-set cells.Default = lookup-other new cells.Default refl ∙ sym (lookup-other old cells.Default refl)

  seen-cond : (b : Bool) (place : Place) (rest : Option Place) → seen (cond b (Some place) rest)
      ≡ cond b (shown place.content) (seen rest)
  seen-cond true place rest = refl
  seen-cond false place rest = refl

  stamped-cond : (b : Bool) (place : Place) (rest : Option Place) → stamped (cond b (Some place) rest)
      ≡ cond b (Some place.stamp) (stamped rest)
  stamped-cond true place rest = refl
  stamped-cond false place rest = refl

  pub parts-set : parts_in new ≡ set_at (parts_in old) (cells.Prop k) (shown (content_of p.value))
  parts-set =
      same_map cell_cmp_total cell_cmp-IsAntisymmetric _ _ (λ cell.
      get-parts_of (slots_of new) cell ∙ ap seen (lookup-set cell)
      ∙ seen-cond (same cell (cells.Prop k)) (place_of p) (lookup (same cell) (slots_of old))
      ∙ ap (cond (same cell (cells.Prop k)) (shown (content_of p.value))) (sym (get-parts_of (slots_of old) cell))
      ∙ sym (get-set_at cell_cmp_total (parts_in old) (cells.Prop k) (shown (content_of p.value)) cell))

  pub places-set : places_in new ≡ insert (places_in old) (cells.Prop k) p.stamp
  places-set =
      same_map cell_cmp_total cell_cmp-IsAntisymmetric _ _ (λ cell.
      get-places_of (slots_of new) cell ∙ ap stamped (lookup-set cell)
      ∙ stamped-cond (same cell (cells.Prop k)) (place_of p) (lookup (same cell) (slots_of old))
      ∙ ap (cond (same cell (cells.Prop k)) (Some p.stamp)) (sym (get-places_of (slots_of old) cell))
      ∙ sym (get-insert cell_cmp_total (places_in old) (cells.Prop k) p.stamp cell))

  one_if-shown : (o : Option Holder) → one_if (shown (content_of o)) ≡ one_if o
  one_if-shown None = refl
  one_if-shown (Some value) = refl

  one_if-at : (o : Option ValuePlace) → one_if (shown (content_at o)) ≡ one_if (value_at o)
  one_if-at None = refl
  one_if-at (Some q) = one_if-shown q.value

  -- how many are present then
  pub len-set : len (parts_in new) + one_if (value_at (at k old)) ≡ len (parts_in old) + one_if p.value
  len-set =
      let a = ap len parts-set in
      let b = len-set_at cell_cmp_total (parts_in old) (cells.Prop k) (shown (content_of p.value)) in
      let c = ap one_if (get-Prop old k) ∙ one_if-at (at k old) in
      let d = one_if-shown p.value in
      omega (arith, a, b, c, d)

-- a place made for a number that has none leaves the parts
absent-set : (b : Bool) (o : Option Present) → (b ≡ true → o ≡ None) → cond b None o ≡ o
absent-set true o none = sym (none refl)
absent-set false o none = refl

pub parts-unset : (es : Entries) (k : ℕ) → get (parts_in es) (cells.Prop k) ≡ None → set_at (parts_in es) (cells.Prop k) None ≡ parts_in es
parts-unset es k none =
    same_map cell_cmp_total cell_cmp-IsAntisymmetric _ _ (λ cell.
    get-set_at cell_cmp_total (parts_in es) (cells.Prop k) None cell
    ∙ absent-set (same cell (cells.Prop k)) (get (parts_in es) cell)
    (λ t. ap (get (parts_in es)) (same-is cell (cells.Prop k) t) ∙ none))

pub parts-absent : (es : Entries) (k : ℕ) → at k es ≡ None → set_at (parts_in es) (cells.Prop k) None ≡ parts_in es
parts-absent es k none = parts-unset es k (get-Prop es k ∙ ap (λ o. shown (content_at o)) none)

-- the content of a property, from its value
pub content-value_at : (o : Option ValuePlace) → content_of (value_at o) ≡ content_at o
content-value_at None = refl
content-value_at (Some p) = refl

-- and its value, from the content
pub shown-value : (o : Option Holder) → option_and_then value_in (shown (content_of o)) ≡ o
shown-value None = refl
shown-value (Some value) = refl

pub some-value : (o : Option Holder) → IsSome (shown (content_of o)) → IsSome o
some-value None some = some
some-value (Some value) some = refl

pub none-value : (o : Option Holder) → shown (content_of o) ≡ None → o ≡ None
none-value None none = refl
none-value (Some value) none = absurd cc

-- the entry under a number that is there
pub found : (o : Option ValuePlace) → is_some o ≡ true → (p : ValuePlace) × (o ≡ Some p)
found None e = absurd (true≢false (sym e))
found (Some p) e = (p, refl)

-- a value put in the place of one, and a stamp
module _ (old new : Entries) (k : ℕ) (p : ValuePlace) (there : at k old ≡ Some p) where
  abbrev Updated : ValuePlace → Type 0
  Updated q = (n : ℕ) → at n new ≡ cond (is_at (nat_cmp k) n) (Some q) (at n old)

  own-stamp : get (places_in old) (cells.Prop k) ≡ Some p.stamp
  own-stamp = stamp-Prop old k ∙ ap (option_map (λ p. p.stamp)) there

  own-content : get (parts_in old) (cells.Prop k) ≡ shown (content_of p.value)
  own-content = get-Prop old k ∙ ap (λ o. shown (content_at o)) there

  pub parts-put : (value : Option Holder) → Updated (record p { value = value })
      → parts_in new ≡ set_at (parts_in old) (cells.Prop k) (shown (content_of value))
  parts-put value updated = parts-set old new k (record p { value = value }) updated

  pub places-put : (value : Option Holder) → Updated (record p { value = value }) → places_in new ≡ places_in old
  places-put value updated =
      places-set old new k (record p { value = value }) updated ∙ insert-own (places_in old) (cells.Prop k) p.stamp own-stamp

  back : set_at (parts_in old) (cells.Prop k) (shown (content_of p.value)) ≡ parts_in old
  back =
      same_map cell_cmp_total cell_cmp-IsAntisymmetric _ _ (λ cell.
      get-set_at cell_cmp_total (parts_in old) (cells.Prop k) (shown (content_of p.value)) cell ∙ by cell (same cell (cells.Prop k)) refl)
    where
      by : (cell : Cell) (b : Bool) → same cell (cells.Prop k) ≡ b → cond b (shown (content_of p.value)) (get (parts_in old) cell)
          ≡ get (parts_in old) cell
      by cell true t = sym own-content ∙ ap (get (parts_in old)) (sym (same-is cell (cells.Prop k) t))
      by cell false t = refl

  pub parts-stamp : (stamp : ℕ) → Updated (record p { stamp = stamp }) → parts_in new ≡ parts_in old
  parts-stamp stamp updated = parts-set old new k (record p { stamp = stamp }) updated ∙ back

  pub places-stamp : (stamp : ℕ) → Updated (record p { stamp = stamp }) → places_in new ≡ insert (places_in old) (cells.Prop k) stamp
  places-stamp stamp updated = places-set old new k (record p { stamp = stamp }) updated

  -- both, where there is a value
  module _ (value : Holder) (stamp : Option ℕ) (updated : Updated (replaced value stamp p)) where
    is_replaced : (was : Holder) → p.value ≡ Some was
        → replaced value stamp p ≡ record { stamp = new_stamp stamp p.stamp; value = Some value }
    is_replaced was e = λ i. replaced value stamp (record { stamp = p.stamp; value = e i })

    pub parts-replaced : (was : Holder) → p.value ≡ Some was → parts_in new ≡ set_at (parts_in old) (cells.Prop k) (shown (Held value))
    parts-replaced was e = parts-set old new k (replaced value stamp p) updated
        ∙ λ i. set_at (parts_in old) (cells.Prop k) (shown (content_of (is_replaced was e i).value))

    pub places-replaced : (was : Holder) → p.value ≡ Some was
        → places_in new ≡ insert (places_in old) (cells.Prop k) (new_stamp stamp p.stamp)
    places-replaced was e = places-set old new k (replaced value stamp p) updated
        ∙ λ i. insert (places_in old) (cells.Prop k) (is_replaced was e i).stamp

    is_left : p.value ≡ None → replaced value stamp p ≡ p
    is_left e = (λ i. replaced value stamp (record { stamp = p.stamp; value = e i })) ∙ λ i. record { stamp = p.stamp; value = sym e i }

    pub parts-left : p.value ≡ None → parts_in new ≡ parts_in old
    parts-left e = parts-set old new k (replaced value stamp p) updated
        ∙ (λ i. set_at (parts_in old) (cells.Prop k) (shown (content_of (is_left e i).value))) ∙ back

    pub places-left : p.value ≡ None → places_in new ≡ places_in old
    places-left e = places-set old new k (replaced value stamp p) updated
        ∙ (λ i. insert (places_in old) (cells.Prop k) (is_left e i).stamp) ∙ insert-own (places_in old) (cells.Prop k) p.stamp own-stamp

-- the slots of the present entries
pub slots-afresh : (es : Entries) → slots_of (afresh es) ≡ slots.afresh (filter is_present (slots_of es))
slots-afresh [] = refl
slots-afresh (e ∷ es) = by e.1.value (slots-afresh es)
  where
    by : (value : Option Holder) → slots_of (afresh es) ≡ slots.afresh (filter is_present (slots_of es))
        → slots_of (afresh ((e.0, record { stamp = e.1.stamp; value = value }) ∷ es))
        ≡ slots.afresh (filter is_present (slots_of ((e.0, record { stamp = e.1.stamp; value = value }) ∷ es)))
    by None rest = rest
    by (Some value) rest = ap (λ ss. (cells.Prop e.0, record { stamp = 0; content = Held value }) ∷ ss) rest

-- what is left of entries, once those without a value are taken away and the stamps are cleared
module _ {F : Type 0} (Called : F → ℕ → ValuePlace → Bool → ValuePlace → F → Type 0) where
  pub afresh-retained : ((g : F) (k : ℕ) (v : ValuePlace) (b : Bool) (w : ValuePlace) (g' : F) → Called g k v b w g'
      → (b ≡ is_some v.value) × (w ≡ record { stamp = 0; value = v.value }))
      → (f : F) (es kept : Entries) → RetainsPairs Called f es kept → kept ≡ afresh es
  afresh-retained told f [] kept s = s
  afresh-retained told f (e ∷ es) kept s =
      let t = told f e.0 e.1 s.0 s.1 s.2 s.4 in
      let r = afresh-retained told s.2 es s.3 s.5 in
      s.6 ∙ (λ j. cond (t.0 j) ((e.0, t.1 j) ∷ r j) (r j)) ∙ by e.1.value
    where
      by : (o : Option Holder) → cond (is_some o) ((e.0, record { stamp = 0; value = o }) ∷ afresh es) (afresh es)
          ≡ afresh ((e.0, record { stamp = e.1.stamp; value = o }) ∷ es)
      by None = refl
      by (Some value) = refl

apart_from : (n : ℕ) (es : Entries) → AllByRecursion (λ k. eq_by_cmp nat_cmp n k ≡ false) (keys_of es)
    → AllByRecursion (λ cell. same (cells.Prop n) cell ≡ false) (keys_of (slots_of es))
apart_from n [] all = tt
apart_from n (e ∷ es) all = (same-Prop n e.0 ∙ all.0, apart_from n es all.1)

-- numbers that are distinct are distinct cells
pub distinct-slots : (es : Entries) → IsDistinct (eq_by_cmp nat_cmp) (keys_of es) → IsDistinct same (keys_of (slots_of es))
unfolding IsDistinct
distinct-slots [] apart = tt
distinct-slots (e ∷ es) apart = (apart_from e.0 es apart.0, distinct-slots es apart.1)

length-slots : (es : Entries) → length (slots_of es) ≡ length es
length-slots [] = refl
length-slots (e ∷ es) = ap suc (length-slots es)

-- no more properties are present than have a place
pub len-parts : (es : Entries) → len (parts_in es) ≤ length es
len-parts es = let a = len-parts_of (slots_of es) in let b = length-slots es in omega (arith, a, b)

module _ (es : Entries) (apart : IsDistinct (eq_by_cmp nat_cmp) (keys_of es)) where
  pub len-places : len (places_in es) ≡ length es
  len-places = len-places_of (slots_of es) (distinct-slots es apart) ∙ length-slots es

  -- a copy has the parts, and a place for what is present alone
  pub parts-afresh : parts_in (afresh es) ≡ parts_in es
  parts-afresh = ap parts_of (slots-afresh es) ∙ parts_of-afresh (filter is_present (slots_of es))
      ∙ parts_of-filter (slots_of es) (distinct-slots es apart)

  pub places-afresh : places_in (afresh es) ≡ places_for (parts_in es)
  places-afresh = ap places_of (slots-afresh es) ∙ places_of-filter (slots_of es) (distinct-slots es apart)
