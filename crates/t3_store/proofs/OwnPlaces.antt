-- The places of each object once a cell was set for which one was made, if it had none; and that then none is empty.
use Rattle.std.proofs.Common.{◌≡◌, ◌∙◌, ap, sym, subst, refl, ℕ, inl, inr, Bool, true, false, cond, Option, None, Some, IsTrue, IsSome, is_some, true≢false}
use Rattle.std.specs.Ordering.{eq_by_cmp}
use Rattle.std.specs.Option.{option_map}
use Rattle.std.specs.Cmp.{nat_cmp_total, eq_by_cmp_equiv}
use Rattle.std.specs.FinMap.{get, insert, get-insert}
use Rattle.t3_undo.specs.Cell.{cell_cmp, cell_cmp_total}
use Rattle.t3_undo.specs.Content.{Parts, Places, places_for}
use Rattle.t3_undo.specs.Present.{Present}
use Rattle.t3_undo.specs.Content as content
use Rattle.t3_undo.specs.Objects.{Objects, part_at, part_of, with_part, set_at, set_cell}
use Rattle.t3_undo.specs.declared.cell.Cell.{Cell}
use Rattle.t3_undo.proofs.Maps.{get-adjust, get-set_at}
use Rattle.t3_store.specs.Value.{can_have_at}
use Rattle.t3_store.specs.Inner.Shapes.{Shape, Stored, values, value_of, HasZeroStamps, HaveZeroStamps}
use Rattle.t3_store.specs.Inner.Bounded.{parts_of, parts_under, HaveFreshPlaces, IsPlaceMade, IsPlaced}
use Rattle.t3_store.proofs.FreshPlaces.{placed-set, kept-set}
use Rattle.t3_store.proofs.MapValues.{get-values}
use Rattle.t3_store.proofs.NoGaps.{part-under}
use Rattle.t3_store.proofs.Rows.{same, same-is, same-itself, differs}
use Rattle.t3_store.proofs.ZeroStamps.{zero-copy}

-- parts once a cell is set
pub parts-own : (m : Objects Shape) (n : ℕ) (c : Cell) (o : Option Present) (x : Shape × Parts) → get m n ≡ Some x
    → parts_under (set_cell m n c o) n ≡ set_at x.1 c o
parts-own m n c o x e =
    ap parts_of (get-adjust nat_cmp_total m n (with_part c o) n ∙ λ i. cond (same-itself n i) (option_map (with_part c o) (e i)) (e i))

pub parts-other : (m : Objects Shape) (n : ℕ) (c : Cell) (o : Option Present) (q : ℕ) → (q ≡ n → ⊥)
    → parts_under (set_cell m n c o) q ≡ parts_under m q
parts-other m n c o q apart =
    ap parts_of (get-adjust nat_cmp_total m n (with_part c o) q
    ∙ λ i. cond (differs q n apart i) (option_map (with_part c o) (get m q)) (get m q))

-- an object with a cell set is there
thing-there : (m : Objects Shape) (n : ℕ) (c : Cell) (o : Option Present) → IsSome (part_at (set_cell m n c o) n c)
    → (x : Shape × Parts) × (get m n ≡ Some x)
thing-there m n c o some = by (get m n) refl (ap is_some (sym at) ∙ some)
  where
    at : part_at (set_cell m n c o) n c ≡ part_of (option_map (with_part c o) (get m n)) c
    at = ap (λ x. part_of x c) (get-adjust nat_cmp_total m n (with_part c o) n
        ∙ λ i. cond (same-itself n i) (option_map (with_part c o) (get m n)) (get m n))

    by : (x : Option (Shape × Parts)) → get m n ≡ x → IsSome (part_of (option_map (with_part c o) x) c)
        → (x : Shape × Parts) × (get m n ≡ Some x)
    by None e some = absurd (true≢false (sym some))
    by (Some x) e some = (x, e)

value-there : (parts : Parts) (c : Cell) (o : Option Present) → IsSome (get (set_at parts c o) c) → (v : Present) × (o ≡ Some v)
value-there parts c o some = by o (ap is_some (sym at) ∙ some)
  where
    itself : eq_by_cmp cell_cmp c c ≡ true
    itself = (eq_by_cmp_equiv cell_cmp_total).refl c

    at : get (set_at parts c o) c ≡ o
    at = get-set_at cell_cmp_total parts c o c ∙ λ i. cond (itself i) o (get parts c)

    by : (p : Option Present) → IsSome p → (v : Present) × (p ≡ Some v)
    by None some = absurd (true≢false (sym some))
    by (Some v) some = (v, refl)

-- a cell of an object is present once it is set
set-at : (m : Objects Shape) (n : ℕ) (c : Cell) (o : Option Present) → IsSome (get m n) → IsSome o → IsSome (part_at (set_cell m n c o) n c)
set-at m n c o there some =
    ap is_some (ap (λ x. part_of x c) (get-adjust nat_cmp_total m n (with_part c o) n
    ∙ λ i. cond (same-itself n i) (option_map (with_part c o) (get m n)) (get m n))) ∙ by (get m n) there
  where
    by : (x : Option (Shape × Parts)) → IsSome x → IsSome (part_of (option_map (with_part c o) x) c)
    by None there = absurd (true≢false (sym there))
    by (Some x) there =
        ap is_some (get-set_at cell_cmp_total x.1 c o c ∙ λ i. cond ((eq_by_cmp_equiv cell_cmp_total).refl c i) o (get x.1 c)) ∙ some

pub present-set : (m : Objects Shape) (n : ℕ) (c : Cell) (o : Option Present) → IsTrue (can_have_at (get (values m) n) c) → IsSome o
    → IsSome (part_at (set_cell m n c o) n c)
present-set m n c o can some = set-at m n c o (by (get m n) (ap (λ v. can_have_at v c) (sym (get-values m n)) ∙ can)) some
  where
    by : (x : Option (Shape × Parts)) → IsTrue (can_have_at (option_map value_of x) c) → IsSome x
    by None can = absurd (true≢false (sym can))
    by (Some x) can = refl

pub present-again : (m : Objects Shape) (n : ℕ) (c : Cell) (o : Option Present) → IsSome (part_at m n c) → IsSome o
    → IsSome (part_at (set_cell m n c o) n c)
present-again m n c o was some = set-at m n c o (by (get m n) was) some
  where
    by : (x : Option (Shape × Parts)) → IsSome (part_of x c) → IsSome x
    by None was = absurd (true≢false (sym was))
    by (Some x) was = refl

-- what an object's places are then: as before, and so are its parts; or the cell was present; or it was absent and has a place
pub data OwnPlaced (old new : Stored) (c : Cell) (q : ℕ) (own : Places) : Type 0 where
  Other : get old.places q ≡ Some own → parts_under new.objects q ≡ parts_under old.objects q → OwnPlaced old new c q own
  Kept : (v : Present) → get old.places q ≡ Some own → parts_under new.objects q ≡ set_at (parts_under old.objects q) c (Some v)
      → IsSome (get (parts_under old.objects q) c) → OwnPlaced old new c q own
  Made : (was : Places) (v : Present) → get old.places q ≡ Some was → own ≡ content.with_place was c
      → parts_under new.objects q ≡ set_at (parts_under old.objects q) c (Some v) → get (parts_under old.objects q) c ≡ None
      → OwnPlaced old new c q own

placed-other : (old new : Stored) (n : ℕ) (c : Cell) (q : ℕ) → IsPlaceMade old new n c → (q ≡ n → ⊥) → get new.places q ≡ get old.places q
placed-other old new n c q (inl present) apart = ap (λ m. get m q) present.1
placed-other old new n c q (inr absent) apart =
    ap (λ m. get m q) absent.1 ∙ get-adjust nat_cmp_total old.places n (λ own. content.with_place own c) q
    ∙ λ i. cond (differs q n apart i) (option_map (λ own. content.with_place own c) (get old.places q)) (get old.places q)

pub own-placed : (old new : Stored) (n : ℕ) (c : Cell) (o : Option Present) → new.objects ≡ set_cell old.objects n c o
    → IsPlaced old new n c → (q : ℕ) (own : Places) → get new.places q ≡ Some own → OwnPlaced old new c q own
own-placed old new n c o objects placed q own there = by (same q n) refl
  where
    thing : (x : Shape × Parts) × (get old.objects n ≡ Some x)
    thing = thing-there old.objects n c o (ap (λ m. is_some (part_at m n c)) (sym objects) ∙ placed.present)

    under : parts_under old.objects n ≡ thing.0.1
    under = ap parts_of thing.1

    now : parts_under new.objects n ≡ set_at thing.0.1 c o
    now = ap (λ m. parts_under m n) objects ∙ parts-own old.objects n c o thing.0 thing.1

    value : (v : Present) × (o ≡ Some v)
    value = value-there thing.0.1 c o (ap (λ (p : Parts). is_some (get p c)) (sym now) ∙ ap is_some (part-under new.objects n c) ∙ placed.present)

    parts : parts_under new.objects n ≡ set_at (parts_under old.objects n) c (Some value.0)
    parts = now ∙ λ i. set_at (sym under i) c (value.1 i)

    own-at : get new.places n ≡ Some own → IsPlaceMade old new n c → OwnPlaced old new c n own
    own-at there (inl present) =
        Kept value.0 (ap (λ m. get m n) (sym present.1) ∙ there) parts (ap is_some (part-under old.objects n c) ∙ present.0)
    own-at there (inr absent) =
        made (get old.places n) refl
        (sym (ap (λ m. get m n) absent.1 ∙ get-adjust nat_cmp_total old.places n (λ own. content.with_place own c) n
        ∙ λ i. cond (same-itself n i) (option_map (λ own. content.with_place own c) (get old.places n)) (get old.places n)) ∙ there)
      where
        made : (was : Option Places) → get old.places n ≡ was → option_map (λ own. content.with_place own c) was ≡ Some own
            → OwnPlaced old new c n own
        made None e is = cc
        made (Some was) e is =
            let same : content.with_place was c ≡ own = cc in
            Made was value.0 e (sym same) parts (part-under old.objects n c ∙ absent.0)

    by : (b : Bool) → same q n ≡ b → OwnPlaced old new c q own
    by true e =
        let at = same-is q n e in
        subst (λ k. OwnPlaced old new c k own) (sym at) (own-at (ap (get new.places) (sym at) ∙ there) placed.made)
    by false e =
        let apart : q ≡ n → ⊥ = λ is. true≢false (sym (ap (λ k. same k n) is ∙ same-itself n) ∙ e) in
        Other (sym (placed-other old new n c q placed.made apart) ∙ there)
        (ap (λ m. parts_under m q) objects ∙ parts-other old.objects n c o q apart)

-- ---- that none is empty

-- an object more
pub no-empty-insert : (old : Stored) (n tick : ℕ) (thing : Shape × Parts) (own : Places) → HaveFreshPlaces old → own ≡ places_for thing.1
    → HaveFreshPlaces (record { objects = insert old.objects n thing; places = insert old.places n own; ticks = insert old.ticks n tick })
no-empty-insert old n tick thing own all new number other e =
    by (same number n) (sym (get-insert nat_cmp_total old.places n own number) ∙ e)
    ∙ ap (λ o. places_for (parts_of o)) (sym (get-insert nat_cmp_total old.objects n thing number))
  where
    by : (b : Bool) → cond b (Some own) (get old.places number) ≡ Some other
        → other ≡ places_for (parts_of (cond b (Some thing) (get old.objects number)))
    by true e = let is : own ≡ other = cc in sym is ∙ new
    by false e = all number other e

-- a cell is set
pub no-empty-placed : (old new : Stored) (n : ℕ) (c : Cell) (o : Option Present) → new.objects ≡ set_cell old.objects n c o
    → IsPlaced old new n c → HaveFreshPlaces old → HaveFreshPlaces new
no-empty-placed old new n c o objects placed all number own e = by (own-placed old new n c o objects placed number own e)
  where
    by : OwnPlaced old new c number own → own ≡ places_for (parts_under new.objects number)
    by (Other was parts) = all number own was ∙ ap places_for (sym parts)
    by (Kept v was parts present) =
        all number own was ∙ kept-set (parts_under old.objects number) c v present ∙ ap places_for (sym parts)
    by (Made was v there is parts absent) =
        is ∙ ap (λ p. content.with_place p c) (all number was there) ∙ placed-set (parts_under old.objects number) c v ∙ ap places_for (sym parts)

-- then all stamps are 0
pub zero-stamps : (stored : Stored) → HaveFreshPlaces stored → HaveZeroStamps stored.places
zero-stamps stored all number own e = subst HasZeroStamps (sym (all number own e)) (zero-copy (parts_under stored.objects number))
