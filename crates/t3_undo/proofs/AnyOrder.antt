-- Old contents may be put back in any order, where no cell has two.
use Rattle.std.proofs.Common.{◌≡◌, ◌∙◌, ap, sym, refl, ℕ, zero, suc, Bool, true, false, cond, ◌||◌, List, [], ◌∷◌, Option, None, true≢false, IsPermutation, All, arith}
use Rattle.std.specs.List.{AllByRecursion}
use Rattle.std.proofs.lemmas.List.Sorted.{All-permutation, list_any-IsPermutation}
use Rattle.t3_undo.specs.Present.{Present}
use Rattle.t3_undo.specs.Objects.{Objects, OldPart, Segment, set_cell, part_at, is_of, is_noted, AreApart, put_back, below, before, copies}
use Rattle.t3_undo.specs.Journal.{HaveDistinctCells}
use Rattle.t3_undo.specs.UndoLaw.{AreReordered}
use Rattle.t3_undo.specs.declared.cell.Cell.{Cell}
use Rattle.t3_undo.proofs.PuttingBack.{shape_at, kept, is_of-is, is_of-itself, same_objects, shape_at-set_cell, part_at-set_cell}

-- what the records say of a cell
abbrev old_at : List OldPart → ℕ → Cell → Option Present
old_at [] q d = None
old_at (r ∷ rs) q d = cond (is_of q d r) r.old (old_at rs q d)

-- each record says what a function does of its cell
abbrev Agree : (ℕ → Cell → Option Present) → List OldPart → Type 0
Agree F rs = AllByRecursion (λ r. F r.number r.cell ≡ r.old) rs

false-or : (a b : Bool) → (a || b) ≡ false → (a ≡ false) × (b ≡ false)
false-or true b e = absurd (true≢false e)
false-or false b e = (refl, e)

-- of two records of one cell each is of the other's
is_of-symm : (r s : OldPart) → is_of r.number r.cell s ≡ false → is_of s.number s.cell r ≡ false
is_of-symm r s e = by (is_of s.number s.cell r) refl
  where
    by : (b : Bool) → is_of s.number s.cell r ≡ b → b ≡ false
    by true t =
        let is = is_of-is s.number s.cell r t in
        absurd (true≢false (sym (is_of-itself s) ∙ (λ i. is_of (is.0 i) (is.1 i) s) ∙ e))
    by false t = refl

agree-skip : (r : OldPart) (F : ℕ → Cell → Option Present) (rs : List OldPart) → is_noted r.number r.cell rs ≡ false
    → Agree F rs → Agree (λ q d. cond (is_of q d r) r.old (F q d)) rs
agree-skip r F [] e all = all
agree-skip r F (s ∷ rs) e all =
    let two = false-or (is_of r.number r.cell s) (is_noted r.number r.cell rs) e in
    ((λ i. cond (is_of-symm r s two.0 i) r.old (F s.number s.cell)) ∙ all.0, agree-skip r F rs two.1 all.1)

-- where no cell has two records, each says what all say of its cell
agree-apart : (rs : List OldPart) → AreApart rs → Agree (old_at rs) rs
agree-apart [] apart = tt
agree-apart (r ∷ rs) apart =
    ((λ i. cond (is_of-itself r i) r.old (old_at rs r.number r.cell)), agree-skip r (old_at rs) rs apart.0 (agree-apart rs apart.1))

-- the two ways to say that something holds of all
to_all : (P : OldPart → Type 0) (rs : List OldPart) → AllByRecursion P rs → All P rs
to_all P [] all k d less = absurd (omega arith)
to_all P (r ∷ rs) all zero d less = all.0
to_all P (r ∷ rs) all (suc k) d less = to_all P rs all.1 k d (omega arith)

from_all : (P : OldPart → Type 0) (rs : List OldPart) → All P rs → AllByRecursion P rs
from_all P [] all = tt
from_all P (r ∷ rs) all = (all 0 r (omega arith), from_all P rs (λ k d less. all (suc k) d (omega arith)))

agree-reordered : (F : ℕ → Cell → Option Present) (rs ss : List OldPart) → IsPermutation rs ss → Agree F rs → Agree F ss
agree-reordered F rs ss moved all =
    let P : OldPart → Type 0 = λ r. F r.number r.cell ≡ r.old in
    from_all P ss (All-permutation P rs ss moved (to_all P rs all))

joined : (a b : Bool) (x y z : Option Present) → (b ≡ true → y ≡ x) → cond a x (cond b y z) ≡ cond (b || a) x z
joined true true x y z same = refl
joined true false x y z same = refl
joined false true x y z same = same refl
joined false false x y z same = refl

module _ {S : Type 0} where
  pub shape_at-put_back : (rs : List OldPart) (m : Objects S) (q : ℕ) → shape_at (put_back m rs) q ≡ shape_at m q
  unfolding put_back
  shape_at-put_back [] m q = refl
  shape_at-put_back (r ∷ rs) m q = shape_at-put_back rs (set_cell m r.number r.cell r.old) q ∙ shape_at-set_cell m r.number r.cell r.old q

  -- records that agree with a function put its values back, in whatever order they stand
  part_at-put_back : (F : ℕ → Cell → Option Present) (rs : List OldPart) → Agree F rs → (m : Objects S) (q : ℕ) (d : Cell)
      → part_at (put_back m rs) q d ≡ cond (is_noted q d rs) (kept (shape_at m q) (F q d)) (part_at m q d)
  unfolding put_back
  part_at-put_back F [] all m q d = refl
  part_at-put_back F (r ∷ rs) all m q d =
      part_at-put_back F rs all.1 (set_cell m r.number r.cell r.old) q d
      ∙ (λ i. cond (is_noted q d rs) (kept (shape_at-set_cell m r.number r.cell r.old q i) (F q d))
      (part_at-set_cell m r.number r.cell r.old q d i))
      ∙ joined (is_noted q d rs) (is_of q d r) _ _ _ (λ t.
      let is = is_of-is q d r t in
      ap (kept (shape_at m q)) (sym all.0 ∙ λ i. F (sym is.0 i) (sym is.1 i)))

  put_back-reordered : (rs ss : List OldPart) → AreApart rs → IsPermutation rs ss → (m : Objects S) → put_back m ss ≡ put_back m rs
  put_back-reordered rs ss apart moved m =
      let all = agree-apart rs apart in
      same_objects _ _ (λ q. shape_at-put_back ss m q ∙ sym (shape_at-put_back rs m q))
      (λ q d.
      part_at-put_back (old_at rs) ss (agree-reordered (old_at rs) rs ss moved all) m q d
      ∙ ap (λ b. cond b (kept (shape_at m q) (old_at rs q d)) (part_at m q d)) (sym (list_any-IsPermutation (is_of q d) rs ss moved))
      ∙ sym (part_at-put_back (old_at rs) rs all m q d))

  -- so the copies are the same
  pub copies-reordered : (ss ts : List Segment) → HaveDistinctCells ss → AreReordered ss ts → (m : Objects S) → copies m ts ≡ copies m ss
  unfolding copies
  copies-reordered [] [] apart moved m = refl
  copies-reordered [] (t ∷ ts) apart moved m = absurd moved
  copies-reordered (s ∷ ss) [] apart moved m = absurd moved
  copies-reordered (s ∷ ss) (t ∷ ts) apart moved m =
      let one : before m t ≡ before m s = λ i. below (sym moved.0 i) (put_back-reordered s.records t.records apart.0 moved.1 m i) in
      (λ i. one i ∷ copies (one i) ts) ∙ ap (λ xs. before m s ∷ xs) (copies-reordered ss ts apart.1 moved.2 (before m s))
