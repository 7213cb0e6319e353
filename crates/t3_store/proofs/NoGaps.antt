-- That no savepoint has a gap in its records of a vector's elements, whatever happens.
use Rattle.std.proofs.Common.{◌≡◌, ◌∙◌, ap, sym, subst, refl, ℕ, zero, suc, ◌+◌, ◌-◌, ◌<◌, ◌≤◌, ◌==◌, Bool, true, false, cond, not, ◌&&◌, ◌||◌, ◌⊎◌, inl, inr, nat_lt, List, [], ◌∷◌, length, take, drop, slice_get, Option, None, Some, IsTrue, IsSome, is_some, true≢false, ltb-true, eqb-true, arith}
use Rattle.std.specs.Option.{option_map}
use Rattle.std.specs.FinMap.{empty, get, insert, get-empty}
use Rattle.t3_holder.specs.declared.holder.Holder.{Holder}
use Rattle.t3_undo.specs.Cell.{cell_cmp}
use Rattle.t3_undo.specs.Content.{Parts}
use Rattle.t3_undo.specs.Present.{Present}
use Rattle.t3_undo.specs.Objects as journaled
use Rattle.t3_undo.specs.Objects.{Objects, OldPart, Segment, part_of, part_at, put_back, before, is_of, is_noted}
use Rattle.t3_undo.specs.Journal.{room, is_due, add, note_in}
use Rattle.t3_undo.specs.Stamps.{HasRecord}
use Rattle.t3_undo.specs.UndoLaw as law
use Rattle.t3_undo.specs.declared.cell.Cell.{Cell}
use Rattle.t3_undo.specs.declared.cell.Cell.TheVariants as cells
use Rattle.t3_undo.proofs.PuttingBack.{kept, is_of-is, shape_at, part_at-set_cell, get-before, put_back-note, before-made, and-first}
use Rattle.t3_undo.proofs.Purging.{record-here, record-there, record-where}
use Rattle.t3_lists.specs.Vector.{items_of, filled}
use Rattle.t3_lists.proofs.Items.{items-filled}
use Rattle.t3_lists.specs.Items.{element_at, is_element_within, IsWholeVector}
use Rattle.t3_store.specs.Value.{can_have_at}
use Rattle.t3_store.specs.Inner.Shapes.{Shape, TadsShape, TextShape, ItemsShape, VectorShape, TableShape, values, value_of}
use Rattle.t3_store.specs.Inner.Valid.{IsValidAs, AreValid}
use Rattle.t3_store.specs.Inner.Store.{record_of}
use Rattle.t3_store.specs.Inner.Bounded.{parts_of, parts_under, IsFilledBelow, HaveNoGaps, IsWithoutGaps}
use Rattle.t3_store.proofs.MapValues.{get-values}
use Rattle.t3_store.proofs.Marks.{before-undue, before-now}
use Rattle.t3_lists.proofs.ItemValues.{held-filled, filled-valued}
use Rattle.t3_tadsobj.proofs.PropValues.{is-prop}
use Rattle.t3_tables.proofs.EntryValues.{table-cell}

-- ---- elements of vectors

abbrev Items : Type 0
Items = List Holder

some-element : (items : Items) (cell : Cell) → is_some (get (filled items) cell) ≡ is_some (element_at cell items)
some-element items cell = sym (filled-valued items cell) ∙ ap is_some (held-filled items cell)

-- an item is there exactly where its number is that of one
item-less : (items : Items) (index : ℕ) → is_some (slice_get items index) ≡ true → index < length items
item-less [] index there = absurd (true≢false (sym there))
item-less (item ∷ items) zero there = omega arith
item-less (item ∷ items) (suc index) there = let less = item-less items index there in omega arith

item-there : (items : Items) (index : ℕ) → index < length items → is_some (slice_get items index) ≡ true
item-there [] index less = absurd (omega arith)
item-there (item ∷ items) zero less = refl
item-there (item ∷ items) (suc index) less = item-there items index (omega arith)

-- an element up to so many is there
element-there : (items : Items) (i : ℕ) → 0 < i → i ≤ length items → is_some (element_at (cells.Elem i) items) ≡ true
element-there items zero above within = absurd (omega arith)
element-there items (suc index) above within = item-there items index (omega arith)

element-within : (items : Items) (j : ℕ) → is_some (element_at (cells.Elem j) items) ≡ true → j ≤ length items
element-within items zero there = omega arith
element-within items (suc index) there = let less = item-less items index there in omega arith

-- what stands in an object's cells
pub part-under : (m : Objects Shape) (n : ℕ) (c : Cell) → get (parts_under m n) c ≡ part_at m n c
part-under m n c = by (get m n)
  where
    by : (o : Option (Shape × Parts)) → get (parts_of o) c ≡ part_of o c
    by None = get-empty cell_cmp c
    by (Some thing) = refl

nothing : (parts : Parts) (c : Cell) → parts ≡ empty → IsSome (get parts c) → ⊥
nothing parts c is some = true≢false (sym some ∙ ap is_some ((λ i. get (is i) c) ∙ get-empty cell_cmp c))

-- below an element that is present each is
vector-below : (parts : Parts) (i j : ℕ) → IsWholeVector parts → 0 < i → i < j → IsSome (get parts (cells.Elem j))
    → IsSome (get parts (cells.Elem i))
vector-below parts i j whole above less some =
    let at = some-element whole.items (cells.Elem j) in
    let within = element-within whole.items j (sym at ∙ (λ k. is_some (get (sym whole.are k) (cells.Elem j))) ∙ some) in
    (λ k. is_some (get (whole.are k) (cells.Elem i))) ∙ some-element whole.items (cells.Elem i)
    ∙ element-there whole.items i above (omega arith)

thing-below : (shape : Shape) (parts : Parts) (i j : ℕ) → IsValidAs shape parts → 0 < i → i < j → IsSome (get parts (cells.Elem j))
    → IsSome (get parts (cells.Elem i))
thing-below (TadsShape supers class) parts i j valid above less some = absurd (true≢false (sym (is-prop parts (cells.Elem j) valid some)))
thing-below (TextShape bytes) parts i j valid above less some = absurd (nothing parts (cells.Elem j) valid.1 some)
thing-below (ItemsShape items) parts i j valid above less some = absurd (nothing parts (cells.Elem j) valid.1 some)
thing-below VectorShape parts i j valid above less some = vector-below parts i j valid above less some
thing-below TableShape parts i j valid above less some = absurd (true≢false (sym (table-cell parts (cells.Elem j) valid some)))

pub present-below : (m : Objects Shape) (n i j : ℕ) → AreValid m → 0 < i → i < j → IsSome (part_at m n (cells.Elem j))
    → IsSome (part_at m n (cells.Elem i))
present-below m n i j valid above less some = by (get m n) refl some
  where
    by : (o : Option (Shape × Parts)) → get m n ≡ o → IsSome (part_of o (cells.Elem j)) → IsSome (part_of o (cells.Elem i))
    by None e some = some
    by (Some thing) e some = thing-below thing.0 thing.1 i j (valid n thing e) above less some

-- below one that can be set each is present
within-next : (j count : ℕ) → is_element_within j count ≡ true → j ≤ count + 1
within-next zero count can = omega arith
within-next (suc index) count can = by (nat_lt index count) refl (index == count) refl can
  where
    by : (a : Bool) → nat_lt index count ≡ a → (b : Bool) → (index == count) ≡ b → (a || (b && nat_lt index 65535)) ≡ true
        → suc index ≤ count + 1
    by true e b f can = let less = ltb-true index count e in omega arith
    by false e true f can = let same = eqb-true index count f in omega arith
    by false e false f can = absurd (true≢false (sym can))

vector-filled : (parts : Parts) (i j : ℕ) → IsWholeVector parts → is_element_within j (length (items_of parts)) ≡ true → 0 < i → i < j
    → IsSome (get parts (cells.Elem i))
vector-filled parts i j whole can above less =
    let items = (λ k. length (items_of (whole.are k))) ∙ ap length (items-filled whole.items) in
    let within = within-next j (length (items_of parts)) can in
    (λ k. is_some (get (whole.are k) (cells.Elem i))) ∙ some-element whole.items (cells.Elem i)
    ∙ element-there whole.items i above (omega (arith, items, within))

pub filled-below : (m : Objects Shape) (n : ℕ) (c : Cell) → AreValid m → IsTrue (can_have_at (get (values m) n) c) → IsFilledBelow m n c
filled-below m n c valid can i j is above less =
    by (get m n) refl ((λ k. can_have_at (sym (get-values m n) k) (sym is k)) ∙ can)
  where
    by : (o : Option (Shape × Parts)) → get m n ≡ o → IsTrue (can_have_at (option_map value_of o) (cells.Elem j))
        → IsSome (part_of o (cells.Elem i))
    by None e can = absurd (true≢false (sym can))
    by (Some thing) e can = shaped thing.0 thing.1 (valid n thing e) can
      where
        shaped : (shape : Shape) (parts : Parts) → IsValidAs shape parts → IsTrue (can_have_at (Some (value_of (shape, parts))) (cells.Elem j))
            → IsSome (get parts (cells.Elem i))
        shaped (TadsShape supers class) parts valid can = absurd (true≢false (sym can))
        shaped (TextShape bytes) parts valid can = absurd (true≢false (sym can))
        shaped (ItemsShape items) parts valid can = absurd (true≢false (sym can))
        shaped VectorShape parts valid can = vector-filled parts i j valid can above less
        shaped TableShape parts valid can = absurd (true≢false (sym can))

pub filled-prop : (m : Objects Shape) (n number : ℕ) → IsFilledBelow m n (cells.Prop number)
filled-prop m n number i j is above less = absurd cc

-- ---- parts at a savepoint

pub first-false : (a b : Bool) → (a || b) ≡ false → a ≡ false
first-false true b e = e
first-false false b e = refl

pub second-false : (a b : Bool) → (a || b) ≡ false → b ≡ false
second-false true b e = absurd (true≢false e)
second-false false b e = e

-- a cell without a record is as it was
part-unnoted : (rs : List OldPart) (m : Objects Shape) (n : ℕ) (c : Cell) → is_noted n c rs ≡ false
    → part_at (put_back m rs) n c ≡ part_at m n c
unfolding put_back
part-unnoted [] m n c none = refl
part-unnoted (r ∷ rs) m n c none =
    part-unnoted rs (journaled.set_cell m r.number r.cell r.old) n c (second-false (is_of n c r) (is_noted n c rs) none)
    ∙ part_at-set_cell m r.number r.cell r.old n c
    ∙ λ i. cond (first-false (is_of n c r) (is_noted n c rs) none i) (kept (shape_at m n) r.old) (part_at m n c)

part_of-cond : (b : Bool) (x : Option (Shape × Parts)) (c : Cell) → part_of (cond b x None) c ≡ cond b (part_of x c) None
part_of-cond true x c = refl
part_of-cond false x c = refl

part-before : (s : Segment) (m : Objects Shape) (n : ℕ) (c : Cell) → is_noted n c s.records ≡ false
    → part_at (before m s) n c ≡ cond (nat_lt n s.next) (part_at m n c) None
part-before s m n c none =
    ap (λ x. part_of x c) (get-before s m n) ∙ part_of-cond (nat_lt n s.next) (get (put_back m s.records) n) c
    ∙ ap (λ o. cond (nat_lt n s.next) o None) (part-unnoted s.records m n c none)

none-cut : (b : Bool) (o : Option Present) → o ≡ None → cond b o None ≡ None
none-cut true o e = e
none-cut false o e = refl

-- ---- an absent element below one with a record has one

pub record-below : (ss : List Segment) (m : Objects Shape) (n i j : ℕ) → 0 < i → i < j → HaveNoGaps m ss
    → part_at m n (cells.Elem i) ≡ None → HasRecord n (cells.Elem j) ss → HasRecord n (cells.Elem i) ss
record-below [] m n i j above less gaps none has = absurd (true≢false (sym has))
record-below (s ∷ ss) m n i j above less gaps none has =
    by (is_noted n (cells.Elem i) s.records) refl (record-where n (cells.Elem j) s ss has)
    (λ e there. record-below ss (before m s) n i j above less gaps.1
    (part-before s m n (cells.Elem i) e ∙ none-cut (nat_lt n s.next) (part_at m n (cells.Elem i)) none) there)
  where
    here : is_noted n (cells.Elem i) s.records ≡ false
        → IsSome (part_at (before m s) n (cells.Elem i)) ⊎ (is_noted n (cells.Elem i) s.records ≡ true)
        → HasRecord n (cells.Elem i) (s ∷ ss)
    here e (inl present) =
        absurd (true≢false (sym present
        ∙ ap is_some (part-before s m n (cells.Elem i) e ∙ none-cut (nat_lt n s.next) (part_at m n (cells.Elem i)) none)))
    here e (inr noted) = record-here n (cells.Elem i) s ss noted

    by : (b : Bool) → is_noted n (cells.Elem i) s.records ≡ b
        → (is_noted n (cells.Elem j) s.records ≡ true) ⊎ HasRecord n (cells.Elem j) ss
        → (is_noted n (cells.Elem i) s.records ≡ false → HasRecord n (cells.Elem j) ss → HasRecord n (cells.Elem i) ss)
        → HasRecord n (cells.Elem i) (s ∷ ss)
    by true e has rest = record-here n (cells.Elem i) s ss e
    by false e (inl noted) rest = here e (gaps.0 n i j above less noted)
    by false e (inr there) rest = record-there n (cells.Elem i) s ss (rest e there)

-- and so it is below one that is present
pub without-gaps : (ss : List Segment) (m : Objects Shape) (n : ℕ) → AreValid m → HaveNoGaps m ss
    → IsWithoutGaps n (parts_under m n) ss
without-gaps ss m n valid gaps lower higher above less none needed = by needed
  where
    absent : part_at m n (cells.Elem lower) ≡ None
    absent = sym (part-under m n (cells.Elem lower)) ∙ none

    by : IsSome (get (parts_under m n) (cells.Elem higher)) ⊎ HasRecord n (cells.Elem higher) ss → HasRecord n (cells.Elem lower) ss
    by (inl present) =
        absurd (true≢false (sym (present-below m n lower higher valid above less
        (ap is_some (sym (part-under m n (cells.Elem higher))) ∙ present)) ∙ ap is_some absent))
    by (inr has) = record-below ss m n lower higher above less gaps absent has

-- ---- whatever happens

gaps-newest : (s : Segment) (ss : List Segment) (a b : Objects Shape) → before a s ≡ before b s → HaveNoGaps b (s ∷ ss)
    → HaveNoGaps a (s ∷ ss)
gaps-newest s ss a b e gaps = (
  λ n i j above less noted.
      subst (λ m. IsSome (part_at m n (cells.Elem i)) ⊎ (is_noted n (cells.Elem i) s.records ≡ true)) (sym e) (gaps.0 n i j above less noted),
  subst (λ m. HaveNoGaps m ss) (sym e) gaps.1,
)

-- a change is noted of a cell below which all are present
gaps-added : (s : Segment) (ss : List Segment) (m : Objects Shape) (n : ℕ) (c : Cell) (o : Option Present) (stamp : ℕ)
    → nat_lt n s.next ≡ true → IsFilledBelow m n c → HaveNoGaps m (s ∷ ss)
    → HaveNoGaps (journaled.set_cell m n c o) (record s { records = record_of n c (part_at m n c) stamp ∷ s.records } ∷ ss)
gaps-added s ss m n c o stamp older filled gaps =
    let back = ap (journaled.below s.next) (put_back-note s.records m n c o stamp) in (
      λ q i j above less noted.
          subst (λ x. IsSome (part_at x q (cells.Elem i)) ⊎ (is_noted q (cells.Elem i) (part ∷ s.records) ≡ true)) (sym back)
          (by q i j above less (is_of q (cells.Elem j) part) refl noted),
      subst (λ x. HaveNoGaps x ss) (sym back) gaps.1,
    )
  where
    part : OldPart
    part = record_of n c (part_at m n c) stamp

    old-one : (q i : ℕ) → IsSome (part_at (before m s) q (cells.Elem i)) ⊎ (is_noted q (cells.Elem i) s.records ≡ true)
        → (a : Bool) → IsSome (part_at (before m s) q (cells.Elem i)) ⊎ ((a || is_noted q (cells.Elem i) s.records) ≡ true)
    old-one q i (inl present) a = inl present
    old-one q i (inr noted) true = inr refl
    old-one q i (inr noted) false = inr noted

    new-one : (i : ℕ) → IsSome (part_at m n (cells.Elem i)) → (b : Bool) → is_noted n (cells.Elem i) s.records ≡ b
        → IsSome (part_at (before m s) n (cells.Elem i)) ⊎ (is_noted n (cells.Elem i) s.records ≡ true)
    new-one i present true e = inr e
    new-one i present false e =
        inl (ap is_some (part-before s m n (cells.Elem i) e ∙ ap (λ b. cond b (part_at m n (cells.Elem i)) None) older) ∙ present)

    by : (q i j : ℕ) → 0 < i → i < j → (b : Bool) → is_of q (cells.Elem j) part ≡ b
        → (is_of q (cells.Elem j) part || is_noted q (cells.Elem j) s.records) ≡ true
        → IsSome (part_at (before m s) q (cells.Elem i))
        ⊎ ((is_of q (cells.Elem i) part || is_noted q (cells.Elem i) s.records) ≡ true)
    by q i j above less true e noted =
        let to = is_of-is q (cells.Elem j) part e in
        old-one q i
        (subst (λ x. IsSome (part_at (before m s) x (cells.Elem i)) ⊎ (is_noted x (cells.Elem i) s.records ≡ true)) (sym to.0)
        (new-one i (filled i j (sym to.1) above less) (is_noted n (cells.Elem i) s.records) refl))
        (is_of q (cells.Elem i) part)
    by q i j above less false e noted =
        old-one q i (gaps.0 q i j above less (sym (ap (λ b. b || is_noted q (cells.Elem j) s.records) e) ∙ noted))
        (is_of q (cells.Elem i) part)

gaps-if : (b : Bool) (m : Objects Shape) (ss : List Segment) → HaveNoGaps m ss → HaveNoGaps m (cond b ss [])
gaps-if true m ss gaps = gaps
gaps-if false m ss gaps = tt

gaps-room : (limit : ℕ) (ss : List Segment) (m : Objects Shape) → HaveNoGaps m ss → HaveNoGaps m (room limit ss)
gaps-room limit [] m gaps = tt
gaps-room limit (s ∷ ss) m gaps =
    gaps-if (nat_lt (length s.records) limit) m (s ∷ room (limit - length s.records) ss)
    (gaps.0, gaps-room (limit - length s.records) ss (before m s) gaps.1)

pub gaps-noted : (limit : ℕ) (ss : List Segment) (m : Objects Shape) (n : ℕ) (c : Cell) (o : Option Present) (stamp : ℕ)
    → IsFilledBelow m n c → HaveNoGaps m ss
    → HaveNoGaps (journaled.set_cell m n c o) (note_in limit (record_of n c (part_at m n c) stamp) ss)
gaps-noted limit ss m n c o stamp filled gaps = by (is_due n c ss) refl
  where
    older : (ss : List Segment) → is_due n c ss ≡ true → (s : Segment) (rest : List Segment) → ss ≡ s ∷ rest → nat_lt n s.next ≡ true
    older [] e s rest is = cc
    older (q ∷ qs) e s rest is =
        let same : q ≡ s = cc in
        subst (λ (x : Segment). nat_lt n x.next ≡ true) same (and-first (nat_lt n q.next) (not (is_noted n c q.records)) e)

    added : (ss : List Segment) → is_due n c ss ≡ true → HaveNoGaps m ss
        → HaveNoGaps (journaled.set_cell m n c o) (add (record_of n c (part_at m n c) stamp) (room limit ss))
    added [] e gaps = tt
    added (s ∷ ss) e gaps = inner (nat_lt (length s.records) limit)
      where
        inner : (b : Bool) → HaveNoGaps (journaled.set_cell m n c o)
            (add (record_of n c (part_at m n c) stamp) (cond b (s ∷ room (limit - length s.records) ss) []))
        inner true =
            gaps-added s (room (limit - length s.records) ss) m n c o stamp (older (s ∷ ss) e s ss refl) filled
            (gaps.0, gaps-room (limit - length s.records) ss (before m s) gaps.1)
        inner false = tt

    undue : (ss : List Segment) → is_due n c ss ≡ false → HaveNoGaps m ss → HaveNoGaps (journaled.set_cell m n c o) ss
    undue [] e gaps = tt
    undue (s ∷ ss) e gaps = gaps-newest s ss (journaled.set_cell m n c o) m (before-undue s m n c o e) gaps

    by : (b : Bool) → is_due n c ss ≡ b
        → HaveNoGaps (journaled.set_cell m n c o) (cond b (add (record_of n c (part_at m n c) stamp) (room limit ss)) ss)
    by true e = added ss e gaps
    by false e = undue ss e gaps

pub gaps-made : (ss : List Segment) (m : Objects Shape) (n : ℕ) (x : Shape × Parts)
    → ((q : Segment) (qs : List Segment) → ss ≡ q ∷ qs → q.next ≤ n) → HaveNoGaps m ss → HaveNoGaps (insert m n x) ss
gaps-made [] m n x older gaps = tt
gaps-made (s ∷ ss) m n x older gaps = gaps-newest s ss (insert m n x) m (before-made s m n x (older s ss refl)) gaps

gaps-take : (k : ℕ) (ss : List Segment) (m : Objects Shape) → HaveNoGaps m ss → HaveNoGaps m (take k ss)
gaps-take zero ss m gaps = tt
gaps-take (suc k) [] m gaps = tt
gaps-take (suc k) (s ∷ ss) m gaps = (gaps.0, gaps-take k ss (before m s) gaps.1)

pub gaps-saved : (serial next k : ℕ) (ss : List Segment) (m : Objects Shape) → ((q : ℕ) → next ≤ q → get m q ≡ None)
    → HaveNoGaps m ss → HaveNoGaps m (record { serial = serial; next = next; records = [] } ∷ take k ss)
gaps-saved serial next k ss m all gaps = (
  λ n i j above less noted. absurd (true≢false (sym noted)),
  subst (λ x. HaveNoGaps x (take k ss)) (sym (before-now serial next m all)) (gaps-take k ss m gaps),
)

pub gaps-undone : (ss : List Segment) (m : Objects Shape) → HaveNoGaps m ss → HaveNoGaps (law.undone m ss) (drop 1 ss)
gaps-undone [] m gaps = tt
gaps-undone (s ∷ ss) m gaps = gaps.1
