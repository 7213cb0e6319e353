-- Records of first changes and whole copies stay the same, whatever happens.
use Rattle.std.proofs.Common.{◌≡◌, ◌∙◌, ap, sym, refl, ℕ, ◌+◌, ◌≤◌, zero, suc, Bool, true, false, cond, not, ◌&&◌, nat_lt, if◌then◌else◌, List, [], ◌∷◌, take, drop, fold, Option, None, Some, true≢false, ltb-true, ltb-false, arith}
use Rattle.std.specs.List.{AllByRecursion}
use Rattle.std.specs.Option.{option_map}
use Rattle.std.specs.Cmp.{nat_cmp_total}
use Rattle.std.specs.FinMap.{get, insert, same_map, get-insert, nat_cmp-IsAntisymmetric}
use Rattle.t3_undo.specs.Content.{Parts}
use Rattle.t3_undo.specs.Present.{Present}
use Rattle.t3_undo.specs.Objects.{Objects, OldPart, Segment, set_cell, with_part, part_at, below, is_noted, AreApart, put_back, before, copies}
use Rattle.t3_undo.specs.Journal.{add, HaveDistinctCells}
use Rattle.t3_undo.specs.UndoLaw.{Event, Sets, Makes, Saves, Drops, Undoes, Copied, Noted, newest_copy, copied_after, noted, undone, noted_after, AreBelow, IsUndoLaw}
use Rattle.t3_undo.specs.declared.cell.Cell.{Cell}
use Rattle.t3_undo.proofs.Maps.{get-adjust}
use Rattle.t3_undo.proofs.PuttingBack.{same_number-is, same_number, put_back-noted, put_back-note, before-newer, before-made, get-before}
use Rattle.t3_undo.proofs.AnyOrder.{copies-reordered}

-- next numbers don't pass this one
abbrev pub AreOlder : ℕ → List Segment → Type 0
AreOlder next segments = AllByRecursion (λ s. s.next ≤ next) segments

-- what stays true on the side of the records
pub record IsKept {S : Type 0} (k : Noted S) : Type 0 where
  pub apart : HaveDistinctCells k.segments
  pub older : AreOlder k.next k.segments
  pub below : AreBelow k.next k.objects

-- the whole copies that the records are as good as
abbrev whole : {S : Type 0} → Noted S → Copied S
whole k = record { objects = k.objects; next = k.next; copies = copies k.objects k.segments }

-- a cell set with its first change noted leaves the newest copy
due-split : (n next : ℕ) (seen : Bool) → (nat_lt n next && not seen) ≡ false → (seen ≡ false → next ≤ n)
due-split n next true e f = absurd (true≢false f)
due-split n next false e f = by (nat_lt n next) refl e
  where
    by : (b : Bool) → nat_lt n next ≡ b → (b && true) ≡ false → next ≤ n
    by true t e = absurd (true≢false e)
    by false t e = ltb-false n next t

-- what stays true of the records
older-more : (ss : List Segment) (n : ℕ) → AreOlder n ss → AreOlder (n + 1) ss
older-more [] n all = all
older-more (s ∷ ss) n all = (omega (arith, all.0), older-more ss n all.1)

all-take : (P : Segment → Type 0) (kept : ℕ) (ss : List Segment) → AllByRecursion P ss → AllByRecursion P (take kept ss)
all-take P zero ss all = tt
all-take P (suc kept) [] all = all
all-take P (suc kept) (s ∷ ss) all = (all.0, all-take P kept ss all.1)

all-drop : (P : Segment → Type 0) (ss : List Segment) → AllByRecursion P ss → AllByRecursion P (drop 1 ss)
all-drop P [] all = all
all-drop P (s ∷ ss) all = all.1

apart-noted : (ss : List Segment) (part : OldPart) → HaveDistinctCells ss → HaveDistinctCells (noted part ss)
apart-noted [] part all = all
apart-noted (s ∷ ss) part all = by (nat_lt part.number s.next && not (is_noted part.number part.cell s.records)) refl
  where
    new : (a b : Bool) → (a && not b) ≡ true → b ≡ false
    new true true e = sym e
    new true false e = refl
    new false b e = absurd (true≢false (sym e))

    by : (b : Bool) → (nat_lt part.number s.next && not (is_noted part.number part.cell s.records)) ≡ b
        → HaveDistinctCells (if b then add part (s ∷ ss) else (s ∷ ss))
    by true t = ((new (nat_lt part.number s.next) (is_noted part.number part.cell s.records) t, all.0), all.1)
    by false t = all

older-noted : (ss : List Segment) (part : OldPart) (next : ℕ) → AreOlder next ss → AreOlder next (noted part ss)
older-noted [] part next all = all
older-noted (s ∷ ss) part next all = by (nat_lt part.number s.next && not (is_noted part.number part.cell s.records))
  where
    by : (b : Bool) → AreOlder next (if b then add part (s ∷ ss) else (s ∷ ss))
    by true = (all.0, all.1)
    by false = all

module _ {S : Type 0} where
  -- the older copies come from the newest
  copies-newest : (s t : Segment) (ss : List Segment) (a b : Objects S) → before a s ≡ before b t → copies a (s ∷ ss) ≡ copies b (t ∷ ss)
  unfolding copies
  copies-newest s t ss a b e = ap (λ x. x ∷ copies x ss) e

  copies-none : (a : Objects S) → copies a [] ≡ []
  unfolding copies
  copies-none a = refl

  before-undue : (s : Segment) (m : Objects S) (n : ℕ) (c : Cell) (o : Option Present)
      → (nat_lt n s.next && not (is_noted n c s.records)) ≡ false
      → before (set_cell m n c o) s ≡ before m s
  before-undue s m n c o e = by (is_noted n c s.records) refl
    where
      by : (b : Bool) → is_noted n c s.records ≡ b → before (set_cell m n c o) s ≡ before m s
      by true t = ap (below s.next) (put_back-noted s.records m n c o t)
      by false t = before-newer s m n c o (due-split n s.next false (ap (λ b. nat_lt n s.next && not b) (sym t) ∙ e) refl)

  copies-set : (ss : List Segment) (m : Objects S) (n : ℕ) (c : Cell) (o : Option Present)
      → copies (set_cell m n c o) (noted (record { number = n; cell = c; old = part_at m n c; stamp = 0 }) ss) ≡ copies m ss
  copies-set [] m n c o = copies-none (set_cell m n c o) ∙ sym (copies-none m)
  copies-set (s ∷ ss) m n c o = by (nat_lt n s.next && not (is_noted n c s.records)) refl
    where
      by : (b : Bool) → (nat_lt n s.next && not (is_noted n c s.records)) ≡ b
          → copies (set_cell m n c o)
          (if b then add (record { number = n; cell = c; old = part_at m n c; stamp = 0 }) (s ∷ ss) else (s ∷ ss))
          ≡ copies m (s ∷ ss)
      by true t = copies-newest (record s { records = record { number = n; cell = c; old = part_at m n c; stamp = 0 } ∷ s.records }) s
          ss _ m (ap (below s.next) (put_back-note s.records m n c o 0))
      by false t = copies-newest s s ss _ m (before-undue s m n c o t)

  copies-made : (ss : List Segment) (m : Objects S) (n : ℕ) (x : S × Parts) → AreOlder n ss → copies (insert m n x) ss ≡ copies m ss
  copies-made [] m n x older = copies-none (insert m n x) ∙ sym (copies-none m)
  copies-made (s ∷ ss) m n x older = copies-newest s s ss _ m (before-made s m n x older.0)

  copies-take : (kept : ℕ) (ss : List Segment) (m : Objects S) → take kept (copies m ss) ≡ copies m (take kept ss)
  unfolding copies
  copies-take zero ss m = refl
  copies-take (suc kept) [] m = refl
  copies-take (suc kept) (s ∷ ss) m = ap (λ xs. before m s ∷ xs) (copies-take kept ss (before m s))

  unchanged : (next : ℕ) (m : Objects S) → AreBelow next m → before m (record { serial = 0; next = next; records = [] }) ≡ m
  unfolding put_back
  unchanged next m all =
      same_map nat_cmp_total nat_cmp-IsAntisymmetric _ m (λ q. get-before (record { serial = 0; next = next; records = [] }) m q
      ∙ by q (nat_lt q next) refl)
    where
      by : (q : ℕ) (b : Bool) → nat_lt q next ≡ b → cond b (get m q) None ≡ get m q
      by q true t = refl
      by q false t = sym (all q (ltb-false q next t))

  -- one thing that happens
  happens : (k : Noted S) (e : Event S) → IsKept k → copied_after (whole k) e ≡ whole (noted_after k e)
  unfolding copies
  happens k (Sets n c o) is = λ i. record
      { objects = set_cell k.objects n c o; next = k.next; copies = sym (copies-set k.segments k.objects n c o) i }
  happens k (Makes shape parts) is =
      λ i. record {
        objects = insert k.objects k.next (shape, parts);
        next = k.next + 1;
        copies = sym
            (copies-made k.segments k.objects k.next (shape, parts) is.older) i;
      }
  happens k Saves is =
      let same = sym (unchanged k.next k.objects is.below) in
      λ i. record { objects = k.objects; next = k.next; copies = same i ∷ copies (same i) k.segments }
  happens k (Drops kept) is = λ i. record { objects = k.objects; next = k.next; copies = copies-take kept k.segments k.objects i }
  happens k Undoes is = by k.segments
    where
      by : (ss : List Segment) → ◌≡◌ {A = Copied S}
          (record { objects = newest_copy k.objects (copies k.objects ss); next = k.next; copies = drop 1 (copies k.objects ss) })
          (record { objects = undone k.objects ss; next = k.next; copies = copies (undone k.objects ss) (drop 1 ss) })
      by [] = refl
      by (s ∷ ss) = refl

  none-set : (b : Bool) (f : S × Parts → S × Parts) (x : Option (S × Parts)) → x ≡ None → cond b (option_map f x) x ≡ None
  none-set true f None e = refl
  none-set true f (Some x) e = cc
  none-set false f x e = e

  below-made : (next : ℕ) (m : Objects S) (x : S × Parts) → AreBelow next m → AreBelow (next + 1) (insert m next x)
  below-made next m x all q later =
      get-insert nat_cmp_total m next x q ∙ by (same_number q next) refl
    where
      by : (b : Bool) → same_number q next ≡ b → cond b (Some x) (get m q) ≡ None
      by true t = let is : q ≡ next = same_number-is q next t in absurd (omega arith)
      by false t = all q (omega arith)

  below-before : (next : ℕ) (m : Objects S) (s : Segment) → s.next ≤ next → AreBelow next (before m s)
  below-before next m s older q later = get-before s m q ∙ by (nat_lt q s.next) refl
    where
      by : (b : Bool) → nat_lt q s.next ≡ b → cond b (get (put_back m s.records) q) None ≡ None
      by true t = absurd (omega (arith, ltb-true q s.next t))
      by false t = refl

  stays : (k : Noted S) (e : Event S) → IsKept k → IsKept (noted_after k e)
  stays k (Sets n c o) is = record {
    apart = apart-noted k.segments (record { number = n; cell = c; old = part_at k.objects n c; stamp = 0 }) is.apart;
    older = older-noted k.segments (record { number = n; cell = c; old = part_at k.objects n c; stamp = 0 }) k.next is.older;
    below = λ q later. get-adjust nat_cmp_total k.objects n (with_part c o) q
        ∙ none-set (same_number q n) (with_part c o) (get k.objects q) (is.below q later);
  }
  stays k (Makes shape parts) is = record {
    apart = is.apart;
    older = older-more k.segments k.next is.older;
    below = below-made k.next k.objects (shape, parts) is.below;
  }
  stays k Saves is = record { apart = (tt, is.apart); older = (omega arith, is.older); below = is.below }
  stays k (Drops kept) is = record {
    apart = all-take (λ s. AreApart s.records) kept k.segments is.apart;
    older = all-take (λ s. s.next ≤ k.next) kept k.segments is.older;
    below = is.below;
  }
  stays k Undoes is = record {
    apart = all-drop (λ s. AreApart s.records) k.segments is.apart;
    older = all-drop (λ s. s.next ≤ k.next) k.segments is.older;
    below = by k.segments is.older;
  }
    where
      by : (ss : List Segment) → AreOlder k.next ss → AreBelow k.next (undone k.objects ss)
      by [] older = is.below
      by (s ∷ ss) older = below-before k.next k.objects s older.0

  -- and all that happens
  all-happen : (es : List (Event S)) (k : Noted S) → IsKept k → fold copied_after (whole k) es ≡ whole (fold noted_after k es)
  all-happen [] k is = refl
  all-happen (e ∷ es) k is = ap (λ c. fold copied_after c es) (happens k e is) ∙ all-happen es (noted_after k e) (stays k e is)

  all-stay : (es : List (Event S)) (k : Noted S) → IsKept k → IsKept (fold noted_after k es)
  all-stay [] k is = is
  all-stay (e ∷ es) k is = all-stay es (noted_after k e) (stays k e is)

-- the law
pub undo_law : (S : Type 0) → IsUndoLaw S
unfolding copies
undo_law S objects next events all =
    let start : Noted S = record { objects = objects; next = next; segments = [] } in
    let sound : IsKept start = record { apart = tt; older = tt; below = all } in
    let same = all-happen events start sound in
    let kept = all-stay events start sound in (
      sym (ap (λ c. c.objects) same),
      λ segments moved. copies-reordered (fold noted_after start events).segments segments kept.apart moved
          (fold noted_after start events).objects ∙ sym (ap (λ c. c.copies) same),
    )
