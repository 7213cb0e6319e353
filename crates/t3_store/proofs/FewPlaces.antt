-- That objects have few places, whatever happens.
use Rattle.std.proofs.Common.{◌≡◌, ◌≢◌, ◌∙◌, ap, sym, subst, refl, ℕ, ◌+◌, ◌≤◌, inl, Bool, true, false, cond, if◌then◌else◌, nat_lt, [], Option, None, Some, is_some, arith}
use Rattle.std.specs.Option.{option_map}
use Rattle.std.specs.Cmp.{nat_cmp_total}
use Rattle.std.specs.FinMap.{get, insert, get-insert, len, len-insert, contains_key, get-retain_keys, nat_cmp-IsAntisymmetric}
use Rattle.t3_undo.specs.Cell.{cell_cmp_total}
use Rattle.t3_undo.specs.Content.{Parts, Places, places_for}
use Rattle.t3_undo.specs.Present.{Present}
use Rattle.t3_undo.specs.Content as content
use Rattle.t3_undo.specs.Objects.{set_at, set_cell, below}
use Rattle.t3_undo.specs.Journal.{Held}
use Rattle.t3_undo.specs.Stamps.{stamp_after}
use Rattle.t3_undo.specs.declared.cell.Cell.{Cell}
use Rattle.t3_undo.proofs.Maps.{get-adjust}
use Rattle.t3_undo.proofs.PuttingBack.{get-below}
use Rattle.t3_undo.proofs.Purging.{few-places}
use Rattle.t3_undo.proofs.SlotLists.{zero_if, get-places_for}
use Rattle.t3_store.specs.Inner.Shapes.{Shape, Stored, stamp_in, stamp_at, places_below}
use Rattle.t3_store.specs.Inner.Bounded.{parts_of, parts_under, IsBounded, AreBounded, AreOthersBounded, HaveFreshPlaces, IsPlaced}
use Rattle.t3_store.specs.Inner.Store.{NotesChange}
use Rattle.t3_store.proofs.OwnPlaces.{OwnPlaced, Other, Kept, Made, own-placed, parts-other}
use Rattle.t3_store.proofs.Rows.{same, same-is, differs}

-- ---- how many places and parts there are

len-with_place : (own : Places) (c : Cell) → len (content.with_place own c) ≤ len own + 1
len-with_place own c = by (contains_key own c) refl
  where
    by : (b : Bool) → contains_key own c ≡ b → len (if b then own else insert own c 0) ≤ len own + 1
    by true e = omega arith
    by false e = let more = len-insert cell_cmp_total own c 0 ∙ ap (λ x. cond x (len own) (len own + 1)) e in omega (arith, more)

len-set : (parts : Parts) (c : Cell) (v : Present) → len (set_at parts c (Some v)) ≡ cond (is_some (get parts c)) (len parts) (len parts + 1)
unfolding set_at
len-set parts c v = len-insert cell_cmp_total parts c v

-- a place of each present cell alone
len-places_for : (parts : Parts) → len (places_for parts) ≤ len parts
len-places_for parts =
    let few = few-places (places_for parts) parts 0 [] (λ c some. inl (by (is_some (get parts c)) (ap is_some (sym (get-places_for parts c)) ∙ some))) in
    omega (arith, few)
  where
    by : (b : Bool) → is_some (zero_if b) ≡ true → b ≡ true
    by true some = refl
    by false some = some

bounded-none-empty : (r : ℕ) (parts : Parts) (own : Places) → own ≡ places_for parts → IsBounded r parts own
bounded-none-empty r parts own is = let few = len-places_for parts in let size : len own ≡ len (places_for parts) = ap len is in omega (arith, few, size)

pub bounded-afresh : (r : ℕ) (stored : Stored) → HaveFreshPlaces stored → AreBounded r stored
bounded-afresh r stored all number own e = bounded-none-empty r (parts_under stored.objects number) own (all number own e)

-- ---- a cell is set

pub bounded-placed : (r : ℕ) (old new : Stored) (n : ℕ) (c : Cell) (o : Option Present) → new.objects ≡ set_cell old.objects n c o
    → IsPlaced old new n c → AreBounded r old → AreBounded r new
bounded-placed r old new n c o objects placed all q own there = by (own-placed old new n c o objects placed q own there)
  where
    by : OwnPlaced old new c q own → IsBounded r (parts_under new.objects q) own
    by (Other was parts) = subst (λ (p : Parts). IsBounded r p own) (sym parts) (all q own was)
    by (Kept v was parts present) =
        let few = all q own was in
        let size = ap len parts ∙ len-set (parts_under old.objects q) c v
        ∙ ap (λ b. cond b (len (parts_under old.objects q)) (len (parts_under old.objects q) + 1)) present in
        omega (arith, few, size)
    by (Made was v there is parts absent) =
        let few = all q was there in
        let size = ap len parts ∙ len-set (parts_under old.objects q) c v
        ∙ ap (λ p. cond (is_some p) (len (parts_under old.objects q)) (len (parts_under old.objects q) + 1)) absent in
        let places = len-with_place was c in
        let own_size = ap len is in
        omega (arith, few, size, places, own_size)

-- and noted
pub bounded-noted : (r : ℕ) (mid new : Stored) (j after : Held) (n : ℕ) (c : Cell) (was : Option Present)
    → NotesChange mid new j after n c was → AreBounded r mid → AreBounded r new
bounded-noted r mid new j after n c was noted all q own there =
    subst (λ (p : Parts). IsBounded r p own) (ap (λ m. parts_under m q) (sym noted.objects))
    (by (same q n) refl (get mid.places q) refl (sym (ap (λ m. get m q) noted.places
    ∙ get-adjust nat_cmp_total mid.places n (λ o. insert o c t) q) ∙ there))
  where
    at-own : (o : Places) → get mid.places q ≡ Some o → q ≡ n → is_some (get o c) ≡ true
    at-own o e is = ap is_some ((λ i. stamp_in (sym e i) c) ∙ (λ i. stamp_at mid.places (is i) c) ∙ noted.had)

    t : ℕ
    t = stamp_after n noted.stamp j.segments

    by : (b : Bool) → same q n ≡ b → (o : Option Places) → get mid.places q ≡ o
        → cond b (option_map (λ x. insert x c t) o) o ≡ Some own → IsBounded r (parts_under mid.objects q) own
    by true e None is there = cc
    by true e (Some o) is there =
        let few = all q o is in
        let new_is : insert o c t ≡ own = cc in
        let size = len-insert cell_cmp_total o c t ∙ ap (λ b. cond b (len o) (len o + 1)) (at-own o is (same-is q n e)) in
        let own_size = ap len new_is in
        omega (arith, few, size, own_size)
    by false e o is there = all q own (is ∙ there)

-- ---- a cell is taken: all others are as before

pub others-kept : (r : ℕ) (old new : Stored) (n : ℕ) (c : Cell) (o : Option Present) → new.objects ≡ set_cell old.objects n c o
    → ((q : ℕ) → q ≢ n → get new.places q ≡ get old.places q) → AreBounded r old → AreOthersBounded r n new
others-kept r old new n c o objects places all q own apart there =
    subst (λ (p : Parts). IsBounded r p own) (sym (ap (λ m. parts_under m q) objects ∙ parts-other old.objects n c o q apart))
    (all q own (sym (places q apart) ∙ there))

pub noted-others : (mid new : Stored) (j after : Held) (n : ℕ) (c : Cell) (was : Option Present) → NotesChange mid new j after n c was
    → (q : ℕ) → q ≢ n → get new.places q ≡ get mid.places q
noted-others mid new j after n c was noted q apart =
    ap (λ m. get m q) noted.places ∙ get-adjust nat_cmp_total mid.places n (λ o. insert o c t) q
    ∙ λ i. cond (differs q n apart i) (option_map (λ o. insert o c t) (get mid.places q)) (get mid.places q)
  where
    t : ℕ
    t = stamp_after n noted.stamp j.segments

-- ---- an object is made, and objects are taken away

pub bounded-insert : (r : ℕ) (old : Stored) (n tick : ℕ) (thing : Shape × Parts) (own : Places) → own ≡ places_for thing.1
    → AreBounded r old
    → AreBounded r (record { objects = insert old.objects n thing; places = insert old.places n own; ticks = insert old.ticks n tick })
bounded-insert r old n tick thing own new all q other e =
    subst (λ o. IsBounded r (parts_of o) other) (sym (get-insert nat_cmp_total old.objects n thing q))
    (by (same q n) (sym (get-insert nat_cmp_total old.places n own q) ∙ e))
  where
    by : (b : Bool) → cond b (Some own) (get old.places q) ≡ Some other → IsBounded r (parts_of (cond b (Some thing) (get old.objects q))) other
    by true e = let is : own ≡ other = cc in subst (IsBounded r thing.1) is (bounded-none-empty r thing.1 own new)
    by false e = all q other e

pub bounded-below : (r next : ℕ) (old new : Stored) → new.objects ≡ below next old.objects → new.places ≡ places_below next old.places
    → AreBounded r old → AreBounded r new
bounded-below r next old new objects places all q own there =
    subst (λ o. IsBounded r (parts_of o) own) (sym (ap (λ m. get m q) objects ∙ get-below next old.objects q))
    (by (nat_lt q next) (sym (ap (λ m. get m q) places
    ∙ get-retain_keys old.places (λ number. nat_lt number next) q (λ x t. ap (λ n. nat_lt n next) (sym (nat_cmp-IsAntisymmetric q x t)))) ∙ there))
  where
    by : (b : Bool) → cond b (get old.places q) None ≡ Some own → IsBounded r (parts_of (cond b (get old.objects q) None)) own
    by true e = all q own e
    by false e = cc
