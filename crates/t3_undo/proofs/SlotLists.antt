-- Slots as lists: what they answer, and what a change of one does. Other crates may use these.
use Rattle.std.proofs.Common.{◌≡◌, ◌∙◌, ap, sym, subst, refl, ℕ, zero, suc, ◌+◌, ◌≤◌, Bool, true, false, cond, ◌||◌, List, [], ◌∷◌, ◌++◌, length, map, take, slice_get, option_map, if◌then◌else◌, Option, None, Some, IsTrue, IsSome, is_some, true≢false, add-one, arith}
use Rattle.std.specs.Ordering.{eq_by_cmp}
use Rattle.std.specs.Cmp.{Equal-is, eq_by_cmp_equiv}
use Rattle.std.specs.List.{list_any, AllByRecursion, IsDistinct}
use Rattle.std.specs.Map.{keys_of, lookup, set_value}
use Rattle.std.specs.FinMap.{FinMap, get, get-empty, get-insert, get-entries, get-from_entries, insert, len, len-empty, len-insert, same_map, keys, entries, contains_key}
use Rattle.std.specs.FinMap.Entries.{find, find-append}
use Rattle.std.proofs.lemmas.Map.{lookup-set_value}
use Rattle.std.proofs.lemmas.Map.Made.{is_some-lookup}
use Rattle.t3_undo.specs.Cell.{cell_cmp, cell_cmp_total, cell_cmp-IsAntisymmetric}
use Rattle.t3_undo.specs.Content.{Parts, Places, shown, is_form, with_place, places_for}
use Rattle.t3_undo.specs.Present.{Present}
use Rattle.t3_undo.specs.Objects.{set_at}
use Rattle.t3_undo.specs.Slots.{parts_of, places_of, unstamped, AreFormed, AreSlots}
use Rattle.t3_undo.specs.declared.cell.Cell.{Cell}
use Rattle.t3_undo.specs.declared.content.Content.{Content}
use Rattle.t3_undo.specs.declared.content.Content.TheVariants.{Absent}
use Rattle.t3_undo.specs.declared.place.Place.{Place}
use Rattle.t3_undo.proofs.Maps.{one_if, get-set_at, len-set_at}

abbrev pub same : Cell → Cell → Bool
same = eq_by_cmp cell_cmp

pub same-is : (c d : Cell) → same c d ≡ true → c ≡ d
same-is c d e = cell_cmp-IsAntisymmetric c d ((Equal-is (cell_cmp c d)).0 e)

pub same-symm : (c d : Cell) → same c d ≡ same d c
same-symm = (eq_by_cmp_equiv cell_cmp_total).symm

abbrev pub Entries : Type 0
Entries = List (Cell × Place)

-- what a found place shows
abbrev pub seen : Option Place → Option Present
seen None = None
seen (Some place) = shown place.content

seen-cond : (b : Bool) (place : Place) (o : Option Place) → cond b (shown place.content) (seen o) ≡ seen (cond b (Some place) o)
seen-cond true place o = refl
seen-cond false place o = refl

-- the place that is found
pub found : (o : Option Place) → is_some o ≡ true → (place : Place) × (o ≡ Some place)
found None e = absurd (true≢false (sym e))
found (Some place) e = (place, refl)

-- its stamp
abbrev pub stamped : Option Place → Option ℕ
stamped place = option_map (λ p. p.stamp) place

stamped-cond : (b : Bool) (place : Place) (o : Option Place) → cond b (Some place.stamp) (stamped o) ≡ stamped (cond b (Some place) o)
stamped-cond true place o = refl
stamped-cond false place o = refl

-- a map without entries is no slots
pub no_slots : (slots : Entries) → slots ≡ [] → AreSlots slots 0
unfolding parts_of
no_slots slots none =
    subst (λ (s : Entries). AreSlots s 0) (sym none) (record { formed = tt; counted = sym (len-empty cell_cmp Present) })

pub get-parts_of : (slots : Entries) (cell : Cell) → get (parts_of slots) cell ≡ seen (lookup (same cell) slots)
unfolding parts_of
get-parts_of [] cell = get-empty cell_cmp cell
get-parts_of (slot ∷ slots) cell =
    get-set_at cell_cmp_total (parts_of slots) slot.0 (shown slot.1.content) cell
    ∙ ap (cond (same cell slot.0) (shown slot.1.content)) (get-parts_of slots cell)
    ∙ seen-cond (same cell slot.0) slot.1 (lookup (same cell) slots)

pub get-places_of : (slots : Entries) (cell : Cell) → get (places_of slots) cell ≡ stamped (lookup (same cell) slots)
unfolding places_of
get-places_of [] cell = get-empty cell_cmp cell
get-places_of (slot ∷ slots) cell =
    get-insert cell_cmp_total (places_of slots) slot.0 slot.1.stamp cell
    ∙ ap (cond (same cell slot.0) (Some slot.1.stamp)) (get-places_of slots cell)
    ∙ stamped-cond (same cell slot.0) slot.1 (lookup (same cell) slots)

is_some-stamped : (place : Option Place) → is_some (stamped place) ≡ is_some place
is_some-stamped None = refl
is_some-stamped (Some place) = refl

-- a cell has a place where it is found
pub contains-places_of : (slots : Entries) (cell : Cell) → contains_key (places_of slots) cell ≡ is_some (lookup (same cell) slots)
contains-places_of slots cell = ap is_some (get-places_of slots cell) ∙ is_some-stamped (lookup (same cell) slots)

-- the parts are known by what is found
pub same_parts : (slots others : Entries) → ((cell : Cell) → seen (lookup (same cell) slots) ≡ seen (lookup (same cell) others))
    → parts_of slots ≡ parts_of others
same_parts slots others alike =
    same_map cell_cmp_total cell_cmp-IsAntisymmetric _ _ (λ cell. get-parts_of slots cell ∙ alike cell ∙ sym (get-parts_of others cell))

-- what is found is of the cell's form
pub formed-lookup : (slots : Entries) (cell : Cell) → AreFormed slots → (place : Place) → lookup (same cell) slots ≡ Some place
    → IsTrue (is_form cell (shown place.content))
formed-lookup [] cell all place e = cc
formed-lookup (slot ∷ slots) cell all place e = by (formed-lookup slots cell all.1 place) (same cell slot.0) refl e
  where
    by : (lookup (same cell) slots ≡ Some place → IsTrue (is_form cell (shown place.content))) → (b : Bool) → same cell slot.0 ≡ b
        → cond b (Some slot.1) (lookup (same cell) slots) ≡ Some place → IsTrue (is_form cell (shown place.content))
    by rest true t e =
        let is : slot.1 ≡ place = cc in
        let P : Cell → Type 0 = λ c. IsTrue (is_form c (shown place.content)) in
        let Q : Place → Type 0 = λ p. IsTrue (is_form slot.0 (shown p.content)) in
        subst P (sym (same-is cell slot.0 t)) (subst Q is all.0)
    by rest false t e = rest e

-- the three clauses of a look-up
pub found-placed : (slots : Entries) (cell : Cell) (place : Place) → lookup (same cell) slots ≡ Some place
    → contains_key (places_of slots) cell ≡ true
found-placed slots cell place e = contains-places_of slots cell ∙ ap is_some e

pub missed-placed : (slots : Entries) (cell : Cell) → lookup (same cell) slots ≡ None → contains_key (places_of slots) cell ≡ false
missed-placed slots cell e = contains-places_of slots cell ∙ ap is_some e

-- what a cell that has a place is found with
pub place-there : (slots others : Entries) (cell : Cell) → slots ≡ others → contains_key (places_of others) cell ≡ true
    → (place : Place) × (lookup (same cell) slots ≡ Some place)
place-there slots others cell e placed =
    found (lookup (same cell) slots) (sym (contains-places_of slots cell) ∙ (λ i. contains_key (places_of (e i)) cell) ∙ placed)

-- a place changed under a cell that is there
module _ (slots : Entries) (cell : Cell) (place : Place) where
  one : (x y : Cell) → same cell x ≡ true → same cell y ≡ same x y
  one x y e = (eq_by_cmp_equiv cell_cmp_total).congr cell x y e

  pub parts_of-set_value : IsSome (lookup (same cell) slots) → parts_of (set_value (same cell) slots place)
      ≡ set_at (parts_of slots) cell (shown place.content)
  parts_of-set_value there =
      same_map cell_cmp_total cell_cmp-IsAntisymmetric _ _ (λ q.
      get-parts_of (set_value (same cell) slots place) q
      ∙ ap seen (lookup-set_value (eq_by_cmp_equiv cell_cmp_total) (same cell) one q place slots there)
      ∙ sym (seen-cond (same cell q) place (lookup (same q) slots))
      ∙ (let back = sym (get-parts_of slots q) in λ i. cond (same-symm cell q i) (shown place.content) (back i))
      ∙ sym (get-set_at cell_cmp_total (parts_of slots) cell (shown place.content) q))

  pub places_of-set_value : IsSome (lookup (same cell) slots) → places_of (set_value (same cell) slots place)
      ≡ insert (places_of slots) cell place.stamp
  places_of-set_value there =
      same_map cell_cmp_total cell_cmp-IsAntisymmetric _ _ (λ q.
      get-places_of (set_value (same cell) slots place) q
      ∙ ap stamped (lookup-set_value (eq_by_cmp_equiv cell_cmp_total) (same cell) one q place slots there)
      ∙ sym (stamped-cond (same cell q) place (lookup (same q) slots))
      ∙ (let back = sym (get-places_of slots q) in λ i. cond (same-symm cell q i) (Some place.stamp) (back i))
      ∙ sym (get-insert cell_cmp_total (places_of slots) cell place.stamp q))

-- what stands under a key put there again is no change
module _ {X : Type 0} (m : FinMap cell_cmp X) where
  pub insert-own : (cell : Cell) (x : X) → get m cell ≡ Some x → insert m cell x ≡ m
  insert-own cell x there =
      same_map cell_cmp_total cell_cmp-IsAntisymmetric _ _ (λ q. get-insert cell_cmp_total m cell x q ∙ by q (same q cell) refl)
    where
      by : (q : Cell) (b : Bool) → same q cell ≡ b → cond b (Some x) (get m q) ≡ get m q
      by q true t = sym there ∙ ap (get m) (sym (same-is q cell t))
      by q false t = refl

-- a content put in the place of one that is there, and a stamp
module _ (slots : Entries) (cell : Cell) (place : Place) (there : lookup (same cell) slots ≡ Some place) where
  own-stamp : get (places_of slots) cell ≡ Some place.stamp
  own-stamp = get-places_of slots cell ∙ ap stamped there

  pub parts_of-put : (content : Content) → parts_of (set_value (same cell) slots (record place { content = content }))
      ≡ set_at (parts_of slots) cell (shown content)
  parts_of-put content = parts_of-set_value slots cell (record place { content = content }) (ap is_some there)

  pub places_of-put : (content : Content) → places_of (set_value (same cell) slots (record place { content = content })) ≡ places_of slots
  places_of-put content =
      places_of-set_value slots cell (record place { content = content }) (ap is_some there)
      ∙ insert-own (places_of slots) cell place.stamp own-stamp

  pub parts_of-stamp : (stamp : ℕ) → parts_of (set_value (same cell) slots (record place { stamp = stamp })) ≡ parts_of slots
  parts_of-stamp stamp =
      parts_of-set_value slots cell (record place { stamp = stamp }) (ap is_some there)
      ∙ ap (set_at (parts_of slots) cell) (sym (get-parts_of slots cell ∙ ap seen there))
      ∙ back (parts_of slots) cell
    where
      back : (m : Parts) (k : Cell) → set_at m k (get m k) ≡ m
      back m k = same_map cell_cmp_total cell_cmp-IsAntisymmetric _ _ (λ q. get-set_at cell_cmp_total m k (get m k) q ∙ own m k q (same q k) refl)
        where
          own : (m : Parts) (k q : Cell) (b : Bool) → same q k ≡ b → cond b (get m k) (get m q) ≡ get m q
          own m k q true t = ap (get m) (sym (same-is q k t))
          own m k q false t = refl

  pub places_of-stamp : (stamp : ℕ) → places_of (set_value (same cell) slots (record place { stamp = stamp }))
      ≡ insert (places_of slots) cell stamp
  places_of-stamp stamp = places_of-set_value slots cell (record place { stamp = stamp }) (ap is_some there)

-- and each content stays of its cell's form
pub formed-set_value : (slots : Entries) (cell : Cell) (place : Place) → AreFormed slots → IsTrue (is_form cell (shown place.content))
    → AreFormed (set_value (same cell) slots place)
formed-set_value [] cell place all fits = all
formed-set_value (slot ∷ slots) cell place all fits = by (formed-set_value slots cell place all.1 fits) (same cell slot.0) refl
  where
    by : AreFormed (set_value (same cell) slots place) → (b : Bool) → same cell slot.0 ≡ b
        → AreFormed (cond b ((slot.0, place) ∷ slots) (slot ∷ set_value (same cell) slots place))
    by rest true t =
        let P : Cell → Type 0 = λ c. IsTrue (is_form c (shown place.content)) in
        (subst P (same-is cell slot.0 t) fits, all.1)
    by rest false t = (all.0, rest)

-- a slot added for a cell that has none
lookup-find : (slots : Entries) (cell : Cell) → lookup (same cell) slots ≡ find cell_cmp cell slots
lookup-find [] cell = refl
lookup-find (slot ∷ slots) cell = ap (cond (same cell slot.0) (Some slot.1)) (lookup-find slots cell)

none-false : (o : Option Place) → is_some o ≡ false → o ≡ None
none-false None e = refl
none-false (Some content) e = absurd (true≢false e)

pub lookup-none : (slots : Entries) (cell : Cell) → list_any (same cell) (keys_of slots) ≡ false → lookup (same cell) slots ≡ None
lookup-none slots cell e = none-false _ (is_some-lookup (same cell) slots ∙ e)

module _ (slots : Entries) (cell : Cell) (place : Place) (new : list_any (same cell) (keys_of slots) ≡ false) where
  pub lookup-add : (q : Cell) → lookup (same q) (slots ++ (cell, place) ∷ [])
      ≡ cond (same q cell) (Some place) (lookup (same q) slots)
  lookup-add q =
      lookup-find _ q
      ∙ find-append cell_cmp cell_cmp_total slots cell place q (sym (lookup-find slots cell) ∙ lookup-none slots cell new)
      ∙ ap (cond (same q cell) (Some place)) (sym (lookup-find slots q))

  pub parts_of-add : parts_of (slots ++ (cell, place) ∷ []) ≡ set_at (parts_of slots) cell (shown place.content)
  parts_of-add =
      same_map cell_cmp_total cell_cmp-IsAntisymmetric _ _ (λ q.
      get-parts_of (slots ++ (cell, place) ∷ []) q ∙ ap seen (lookup-add q)
      ∙ sym (seen-cond (same q cell) place (lookup (same q) slots))
      ∙ ap (cond (same q cell) (shown place.content)) (sym (get-parts_of slots q))
      ∙ sym (get-set_at cell_cmp_total (parts_of slots) cell (shown place.content) q))

  pub places_of-add : places_of (slots ++ (cell, place) ∷ []) ≡ insert (places_of slots) cell place.stamp
  places_of-add =
      same_map cell_cmp_total cell_cmp-IsAntisymmetric _ _ (λ q.
      get-places_of (slots ++ (cell, place) ∷ []) q ∙ ap stamped (lookup-add q)
      ∙ sym (stamped-cond (same q cell) place (lookup (same q) slots))
      ∙ ap (cond (same q cell) (Some place.stamp)) (sym (get-places_of slots q))
      ∙ sym (get-insert cell_cmp_total (places_of slots) cell place.stamp q))

  pub places_of-made : place.stamp ≡ 0 → places_of (slots ++ (cell, place) ∷ []) ≡ with_place (places_of slots) cell
  places_of-made unstamped =
      places_of-add ∙ ap (insert (places_of slots) cell) unstamped
      ∙ sym (λ i. if (contains-places_of slots cell ∙ is_some-lookup (same cell) slots ∙ new) i then places_of slots else insert (places_of slots) cell 0)

pub formed-add : (slots : Entries) (cell : Cell) (place : Place) → AreFormed slots → IsTrue (is_form cell (shown place.content))
    → AreFormed (slots ++ (cell, place) ∷ [])
formed-add [] cell place all fits = (fits, tt)
formed-add (slot ∷ slots) cell place all fits = (all.0, formed-add slots cell place all.1 fits)

-- a cell that isn't found has no place
pub unplaced : (slots others : Entries) (cell : Cell) → slots ≡ others → (b : Bool) → b ≡ is_some (lookup (same cell) slots) → b ≡ false
    → list_any (same cell) (keys_of others) ≡ false
unplaced slots others cell e b is missed = (λ i. list_any (same cell) (keys_of (sym e i))) ∙ sym (is_some-lookup (same cell) slots)
    ∙ sym is ∙ missed

-- a slot added with nothing in it leaves the parts
or-none : (b : Bool) (o : Option Place) → is_some o ≡ false → seen (cond b (Some (unstamped Absent)) o) ≡ seen o
or-none true None e = refl
or-none true (Some place) e = absurd (true≢false e)
or-none false o e = refl

pub parts_of-add-absent : (slots : Entries) (cell : Cell) → list_any (same cell) (keys_of slots) ≡ false
    → parts_of (slots ++ (cell, unstamped Absent) ∷ []) ≡ parts_of slots
parts_of-add-absent slots cell new =
    same_parts _ slots (λ q. ap seen (lookup-add slots cell (unstamped Absent) new q) ∙ by q (same q cell) refl)
  where
    by : (q : Cell) (b : Bool) → same q cell ≡ b
        → seen (cond b (Some (unstamped Absent)) (lookup (same q) slots)) ≡ seen (lookup (same q) slots)
    by q true t =
        let P : Cell → Type 0 = λ c. lookup (same c) slots ≡ None in
        or-none true (lookup (same q) slots) (ap is_some (subst P (sym (same-is q cell t)) (lookup-none slots cell new)))
    by q false t = refl

-- a place that is there is made again
pub with_place-there : (places : Places) (cell : Cell) → contains_key places cell ≡ true → with_place places cell ≡ places
with_place-there places cell there = λ i. if there i then places else insert places cell 0

-- how many cells have a place
pub none_after : (e : Cell → Cell → Bool) (x : Cell) (xs : List Cell) → AllByRecursion (λ y. e x y ≡ false) xs → list_any (e x) xs ≡ false
none_after e x [] all = refl
none_after e x (y ∷ ys) all = ap (λ b. b || list_any (e x) ys) all.0 ∙ none_after e x ys all.1

length-keys : (slots : Entries) → length (keys_of slots) ≡ length slots
length-keys [] = refl
length-keys (slot ∷ slots) = let e = length-keys slots in omega (arith, e)

pub len-places_of : (slots : Entries) → IsDistinct same (keys_of slots) → len (places_of slots) ≡ length slots
unfolding places_of IsDistinct
len-places_of [] apart = len-empty cell_cmp ℕ
len-places_of (slot ∷ slots) apart =
    len-insert cell_cmp_total (places_of slots) slot.0 slot.1.stamp
    ∙ ap (λ b. cond b (len (places_of slots)) (len (places_of slots) + 1))
    (contains-places_of slots slot.0 ∙ is_some-lookup (same slot.0) slots ∙ none_after same slot.0 (keys_of slots) apart.0)
    ∙ (let e = len-places_of slots apart.1 in omega (arith, e))

-- no more are present
pub len-parts_of : (slots : Entries) → len (parts_of slots) ≤ length slots
unfolding parts_of
len-parts_of [] = let e = len-empty cell_cmp Present in omega (arith, e)
len-parts_of (slot ∷ slots) =
    let rest = len-parts_of slots in
    let e = len-set_at cell_cmp_total (parts_of slots) slot.0 (shown slot.1.content) in
    by (is_some (shown slot.1.content)) e rest
  where
    by : (b : Bool) → len (set_at (parts_of slots) slot.0 (shown slot.1.content)) + one_if (get (parts_of slots) slot.0) ≡ len (parts_of slots) + cond b 1 0
        → len (parts_of slots) ≤ length slots → len (set_at (parts_of slots) slot.0 (shown slot.1.content)) ≤ suc (length slots)
    by true e rest = omega (arith, e, rest)
    by false e rest = omega (arith, e, rest)

-- what has a place for a copy
abbrev pub zero_if : Bool → Option ℕ
zero_if b = cond b (Some 0) None

find-zeros : (es : List (Cell × Present)) (q : Cell) → find cell_cmp q (map (λ cell. (cell, 0)) (map (λ e. e.0) es))
    ≡ zero_if (is_some (find cell_cmp q es))
find-zeros [] q = refl
find-zeros (e ∷ es) q = by (find-zeros es q) (same q e.0)
  where
    by : find cell_cmp q (map (λ cell. (cell, 0)) (map (λ e. e.0) es)) ≡ zero_if (is_some (find cell_cmp q es))
        → (b : Bool) → cond b (Some 0) (find cell_cmp q (map (λ cell. (cell, 0)) (map (λ e. e.0) es)))
        ≡ zero_if (is_some (cond b (Some e.1) (find cell_cmp q es)))
    by rest true = refl
    by rest false = rest

pub get-places_for : (parts : Parts) (q : Cell) → get (places_for parts) q ≡ zero_if (is_some (get parts q))
get-places_for parts q =
    get-from_entries cell_cmp_total (map (λ cell. (cell, 0)) (keys parts)) q ∙ find-zeros (entries parts) q
    ∙ ap (λ o. zero_if (is_some o)) (sym (get-entries parts q))

-- its cell is none of those before it
pub apart-at : (cell : Cell) (slots : Entries) (i : ℕ) (slot : Cell × Place) → AllByRecursion (λ y. same cell y ≡ false) (keys_of slots)
    → slice_get slots i ≡ Some slot → same slot.0 cell ≡ false
apart-at cell [] i slot all e = cc
apart-at cell (first ∷ slots) zero slot all e =
    let is : first ≡ slot = cc in
    let P : Cell × Place → Type 0 = λ s. same s.0 cell ≡ false in
    subst P is (same-symm first.0 cell ∙ all.0)
apart-at cell (first ∷ slots) (suc i) slot all e = apart-at cell slots i slot all.1 e

-- the slots up to behind one
take-next : (slots : Entries) (i : ℕ) (slot : Cell × Place) → slice_get slots i ≡ Some slot → take (suc i) slots
    ≡ take i slots ++ slot ∷ []
take-next [] i slot e = cc
take-next (first ∷ slots) zero slot e = let is : first ≡ slot = cc in ap (λ s. s ∷ []) is
take-next (first ∷ slots) (suc i) slot e = ap (λ xs. first ∷ xs) (take-next slots i slot e)

pub take-at : (slots : Entries) (i : ℕ) (slot : Cell × Place) → slice_get slots i ≡ Some slot → take (i + 1) slots
    ≡ take i slots ++ slot ∷ []
take-at slots i slot e = rw add-one (take-next slots i slot e)

-- the parts up to behind a slot, of which those before it don't have its cell
new-among : (slots : Entries) (i : ℕ) (slot : Cell × Place) → IsDistinct same (keys_of slots) → slice_get slots i ≡ Some slot
    → list_any (same slot.0) (keys_of (take i slots)) ≡ false
unfolding IsDistinct
new-among [] i slot apart e = cc
new-among (first ∷ slots) zero slot apart e = refl
new-among (first ∷ slots) (suc i) slot apart e =
    ap (λ b. b || list_any (same slot.0) (keys_of (take i slots))) (apart-at first.0 slots i slot apart.0 e)
    ∙ new-among slots i slot apart.1 e

pub parts_of-at : (slots : Entries) (i : ℕ) (slot : Cell × Place) → IsDistinct same (keys_of slots) → slice_get slots i ≡ Some slot
    → parts_of (take (i + 1) slots) ≡ set_at (parts_of (take i slots)) slot.0 (shown slot.1.content)
parts_of-at slots i slot apart e = ap parts_of (take-at slots i slot e)
    ∙ parts_of-add (take i slots) slot.0 slot.1 (new-among slots i slot apart e)

pub get-at : (slots : Entries) (i : ℕ) (slot : Cell × Place) → IsDistinct same (keys_of slots) → slice_get slots i ≡ Some slot
    → get (parts_of (take i slots)) slot.0 ≡ None
get-at slots i slot apart e = get-parts_of (take i slots) slot.0
    ∙ ap seen (lookup-none (take i slots) slot.0 (new-among slots i slot apart e))

-- a cell has the place that was made for a copy of it
pub placed-made : (old new : Places) (copy cell : Cell) → new ≡ with_place old copy → copy ≡ cell → contains_key new cell ≡ true
placed-made old new copy cell e is = (λ i. contains_key (e i) (sym is i)) ∙ by (contains_key old copy) refl
  where
    by : (b : Bool) → contains_key old copy ≡ b → contains_key (if b then old else insert old copy 0) copy ≡ true
    by true there = there
    by false missing =
        ap is_some (get-insert cell_cmp_total old copy 0 copy
        ∙ ap (λ b. cond b (Some 0) (get old copy)) ((eq_by_cmp_equiv cell_cmp_total).refl copy))
