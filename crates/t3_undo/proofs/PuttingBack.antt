-- Objects with a cell set, with old contents put back, and as they were at a savepoint. Other crates may use these.
use Rattle.std.proofs.Common.{◌≡◌, ◌∙◌, ap, sym, refl, ℕ, ◌<◌, ◌≤◌, Bool, true, false, cond, ◌&&◌, ◌||◌, List, [], ◌∷◌, Option, None, Some, true≢false, nat_lt, ltb-true, arith}
use Rattle.std.specs.Ordering.{eq_by_cmp, nat_cmp}
use Rattle.std.specs.Option.{option_map}
use Rattle.std.specs.Cmp.{nat_cmp_total, Equal-is, eq_by_cmp_equiv}
use Rattle.std.specs.FinMap.{get, insert, same_map, get-insert, get-retain_keys, nat_cmp-IsAntisymmetric}
use Rattle.t3_undo.specs.Cell.{cell_cmp, cell_cmp_total, cell_cmp-IsAntisymmetric}
use Rattle.t3_undo.specs.Content.{Parts}
use Rattle.t3_undo.specs.Present.{Present}
use Rattle.t3_undo.specs.Objects.{Objects, OldPart, Segment, set_cell, with_part, part_of, part_at, is_of, is_noted, put_back, below, before}
use Rattle.t3_undo.specs.declared.cell.Cell.{Cell}
use Rattle.t3_undo.proofs.Maps.{get-set_at, get-adjust}

abbrev pub same_number : ℕ → ℕ → Bool
same_number = eq_by_cmp nat_cmp

abbrev pub same_cell : Cell → Cell → Bool
same_cell = eq_by_cmp cell_cmp

pub same_number-is : (n q : ℕ) → same_number n q ≡ true → n ≡ q
same_number-is n q e = nat_cmp-IsAntisymmetric n q ((Equal-is (nat_cmp n q)).0 e)

pub same_cell-is : (c d : Cell) → same_cell c d ≡ true → c ≡ d
same_cell-is c d e = cell_cmp-IsAntisymmetric c d ((Equal-is (cell_cmp c d)).0 e)

pub and-first : (a b : Bool) → (a && b) ≡ true → a ≡ true
and-first true b e = refl
and-first false b e = e

pub and-second : (a b : Bool) → (a && b) ≡ true → b ≡ true
and-second true b e = e
and-second false b e = absurd (true≢false (sym e))

-- a record of this cell
abbrev pub at : ℕ → Cell → OldPart
at number cell = record { number = number; cell = cell; old = None; stamp = 0 }

pub is_of-is : (q : ℕ) (d : Cell) (r : OldPart) → is_of q d r ≡ true → (q ≡ r.number) × (d ≡ r.cell)
is_of-is q d r e = (same_number-is q r.number (and-first _ _ e), same_cell-is d r.cell (and-second _ _ e))

pub is_of-itself : (r : OldPart) → is_of r.number r.cell r ≡ true
is_of-itself r =
    (λ i. (eq_by_cmp_equiv nat_cmp_total).refl r.number i && same_cell r.cell r.cell) ∙ (eq_by_cmp_equiv cell_cmp_total).refl r.cell

cond-None : (b : Bool) → ◌≡◌ {A = Option Present} None (cond b None None)
cond-None true = refl
cond-None false = refl

shadow : {X : Type 0} (b : Bool) (x y z : X) → cond b x (cond b y z) ≡ cond b x z
shadow true x y z = refl
shadow false x y z = refl

exchanged : {X : Type 0} (a b : Bool) (x y z : X) → (a ≡ true → b ≡ true → ⊥) → cond a x (cond b y z) ≡ cond b y (cond a x z)
exchanged true true x y z apart = absurd (apart refl refl)
exchanged true false x y z apart = refl
exchanged false b x y z apart = refl

cond-alike : {X : Type 0} (b : Bool) (x y z : X) → (b ≡ true → x ≡ y) → cond b x z ≡ cond b y z
cond-alike true x y z alike = alike refl
cond-alike false x y z alike = refl

differs : (q n : ℕ) → q < n → same_number q n ≡ false
differs q n less = by (same_number q n) refl
  where
    by : (b : Bool) → same_number q n ≡ b → b ≡ false
    by true e = let is : q ≡ n = same_number-is q n e in absurd (omega arith)
    by false e = refl

module _ {S : Type 0} where
  -- what an object has besides its parts
  abbrev pub shape_of : Option (S × Parts) → Option S
  shape_of None = None
  shape_of (Some x) = Some x.0

  abbrev pub shape_at : Objects S → ℕ → Option S
  shape_at objects number = shape_of (get objects number)

  same_object : (x y : Option (S × Parts)) → shape_of x ≡ shape_of y → ((cell : Cell) → part_of x cell ≡ part_of y cell) → x ≡ y
  same_object None None shape parts = refl
  same_object None (Some y) shape parts = cc
  same_object (Some x) None shape parts = cc
  same_object (Some x) (Some y) shape parts =
      let one : x.0 ≡ y.0 = cc in
      let other : x.1 ≡ y.1 = same_map cell_cmp_total cell_cmp-IsAntisymmetric x.1 y.1 parts in
      λ i. Some (one i, other i)

  -- objects are known by their shapes and by what stands in their cells
  pub same_objects : (a b : Objects S) → ((q : ℕ) → shape_at a q ≡ shape_at b q) → ((q : ℕ) (d : Cell) → part_at a q d ≡ part_at b q d)
      → a ≡ b
  same_objects a b shapes parts = same_map nat_cmp_total nat_cmp-IsAntisymmetric a b
      (λ q. same_object (get a q) (get b q) (shapes q) (parts q))

  -- a content, if there is the object
  abbrev pub kept : Option S → Option Present → Option Present
  kept None o = None
  kept (Some s) o = o

  shape-adjusted : (b : Bool) (c : Cell) (o : Option Present) (x : Option (S × Parts))
      → shape_of (cond b (option_map (with_part c o) x) x) ≡ shape_of x
  shape-adjusted true c o None = refl
  shape-adjusted true c o (Some x) = refl
  shape-adjusted false c o x = refl

  pub shape_at-set_cell : (m : Objects S) (n : ℕ) (c : Cell) (o : Option Present) (q : ℕ) → shape_at (set_cell m n c o) q ≡ shape_at m q
  shape_at-set_cell m n c o q = ap shape_of (get-adjust nat_cmp_total m n (with_part c o) q)
      ∙ shape-adjusted (same_number q n) c o (get m q)

  part-adjusted : (b : Bool) (c : Cell) (o : Option Present) (x : Option (S × Parts)) (d : Cell)
      → part_of (cond b (option_map (with_part c o) x) x) d ≡ cond (b && same_cell d c) (kept (shape_of x) o) (part_of x d)
  part-adjusted true c o None d = cond-None (same_cell d c)
  part-adjusted true c o (Some x) d = get-set_at cell_cmp_total x.1 c o d
  part-adjusted false c o x d = refl

  pub part_at-set_cell : (m : Objects S) (n : ℕ) (c : Cell) (o : Option Present) (q : ℕ) (d : Cell)
      → part_at (set_cell m n c o) q d ≡ cond (is_of q d (at n c)) (kept (shape_at m q) o) (part_at m q d)
  part_at-set_cell m n c o q d = ap (λ x. part_of x d) (get-adjust nat_cmp_total m n (with_part c o) q)
      ∙ part-adjusted (same_number q n) c o (get m q) d

  -- twice set, each at a place of its own test
  twice : (m : Objects S) (n : ℕ) (c : Cell) (o : Option Present) (n' : ℕ) (c' : Cell) (o' : Option Present) (q : ℕ) (d : Cell)
      → part_at (set_cell (set_cell m n c o) n' c' o') q d
      ≡ cond (is_of q d (at n' c')) (kept (shape_at m q) o') (cond (is_of q d (at n c)) (kept (shape_at m q) o) (part_at m q d))
  twice m n c o n' c' o' q d =
      part_at-set_cell (set_cell m n c o) n' c' o' q d
      ∙ λ i. cond (is_of q d (at n' c')) (kept (shape_at-set_cell m n c o q i) o') (part_at-set_cell m n c o q d i)

  twice-shape : (m : Objects S) (n : ℕ) (c : Cell) (o : Option Present) (n' : ℕ) (c' : Cell) (o' : Option Present) (q : ℕ)
      → shape_at (set_cell (set_cell m n c o) n' c' o') q ≡ shape_at m q
  twice-shape m n c o n' c' o' q = shape_at-set_cell (set_cell m n c o) n' c' o' q ∙ shape_at-set_cell m n c o q

  -- a cell set twice is set once
  pub set_cell-again : (m : Objects S) (n : ℕ) (c : Cell) (o o' : Option Present) → set_cell (set_cell m n c o) n c o' ≡ set_cell m n c o'
  set_cell-again m n c o o' =
      same_objects _ _ (λ q. twice-shape m n c o n c o' q ∙ sym (shape_at-set_cell m n c o' q))
      (λ q d. twice m n c o n c o' q d ∙ shadow (is_of q d (at n c)) _ _ _ ∙ sym (part_at-set_cell m n c o' q d))

  kept-own : (x : Option (S × Parts)) (c : Cell) → kept (shape_of x) (part_of x c) ≡ part_of x c
  kept-own None c = refl
  kept-own (Some x) c = refl

  own : (m : Objects S) (n : ℕ) (c : Cell) (q : ℕ) (d : Cell) (b : Bool) → is_of q d (at n c) ≡ b
      → cond b (kept (shape_at m q) (part_at m n c)) (part_at m q d) ≡ part_at m q d
  own m n c q d true e =
      let is = is_of-is q d (at n c) e in
      (λ i. kept (shape_at m q) (part_at m (sym is.0 i) (sym is.1 i))) ∙ kept-own (get m q) d
  own m n c q d false e = refl

  -- what stood there put back is no change
  pub set_cell-back : (m : Objects S) (n : ℕ) (c : Cell) (o : Option Present) → set_cell (set_cell m n c o) n c (part_at m n c) ≡ m
  set_cell-back m n c o =
      same_objects _ m (λ q. twice-shape m n c o n c (part_at m n c) q)
      (λ q d. twice m n c o n c (part_at m n c) q d ∙ shadow (is_of q d (at n c)) _ _ _ ∙ own m n c q d (is_of q d (at n c)) refl)

  -- two cells are set in either order
  pub set_cell-apart : (m : Objects S) (n : ℕ) (c : Cell) (o : Option Present) (r : OldPart) → is_of n c r ≡ false
      → set_cell (set_cell m n c o) r.number r.cell r.old ≡ set_cell (set_cell m r.number r.cell r.old) n c o
  set_cell-apart m n c o r apart =
      same_objects _ _ (λ q. twice-shape m n c o r.number r.cell r.old q ∙ sym (twice-shape m r.number r.cell r.old n c o q))
      (λ q d. twice m n c o r.number r.cell r.old q d
      ∙ exchanged (is_of q d (at r.number r.cell)) (is_of q d (at n c)) _ _ _ (λ at_r at_n.
      let to_r = is_of-is q d (at r.number r.cell) at_r in
      let to_n = is_of-is q d (at n c) at_n in
      true≢false (sym (is_of-itself r) ∙ (λ i. is_of ((sym to_r.0 ∙ to_n.0) i) ((sym to_r.1 ∙ to_n.1) i) r) ∙ apart))
      ∙ sym (twice m r.number r.cell r.old n c o q d))

  -- a cell with a record may be changed: the record still puts it back
  pub put_back-noted : (rs : List OldPart) (m : Objects S) (n : ℕ) (c : Cell) (o : Option Present) → is_noted n c rs ≡ true
      → put_back (set_cell m n c o) rs ≡ put_back m rs
  unfolding put_back
  put_back-noted [] m n c o e = absurd (true≢false (sym e))
  put_back-noted (r ∷ rs) m n c o e = by (λ m e. put_back-noted rs m n c o e) (is_of n c r) refl e
    where
      by : ((m : Objects S) → is_noted n c rs ≡ true → put_back (set_cell m n c o) rs ≡ put_back m rs)
          → (b : Bool) → is_of n c r ≡ b → (b || is_noted n c rs) ≡ true → put_back (set_cell m n c o) (r ∷ rs) ≡ put_back m (r ∷ rs)
      by rest true t e =
          let is = is_of-is n c r t in
          ap (λ x. put_back x rs)
          ((λ i. set_cell (set_cell m (is.0 i) (is.1 i) o) r.number r.cell r.old) ∙ set_cell-again m r.number r.cell o r.old)
      by rest false t e = ap (λ x. put_back x rs) (set_cell-apart m n c o r t) ∙ rest (set_cell m r.number r.cell r.old) e

  -- a cell changed with a record of what stood there
  pub put_back-note : (rs : List OldPart) (m : Objects S) (n : ℕ) (c : Cell) (o : Option Present) (t : ℕ)
      → put_back (set_cell m n c o) (record { number = n; cell = c; old = part_at m n c; stamp = t } ∷ rs) ≡ put_back m rs
  unfolding put_back
  put_back-note rs m n c o t = ap (λ x. put_back x rs) (set_cell-back m n c o)

  get-set_cell : (a b : Objects S) (n : ℕ) (c : Cell) (o : Option Present) (q : ℕ) → get a q ≡ get b q → get (set_cell a n c o) q
      ≡ get (set_cell b n c o) q
  get-set_cell a b n c o q alike =
      get-adjust nat_cmp_total a n (with_part c o) q
      ∙ (λ i. cond (same_number q n) (option_map (with_part c o) (alike i)) (alike i))
      ∙ sym (get-adjust nat_cmp_total b n (with_part c o) q)

  -- what is put back in an object hangs on that object alone
  get-put_back : (rs : List OldPart) (a b : Objects S) (q : ℕ) → get a q ≡ get b q → get (put_back a rs) q ≡ get (put_back b rs) q
  unfolding put_back
  get-put_back [] a b q alike = alike
  get-put_back (r ∷ rs) a b q alike = get-put_back rs _ _ q (get-set_cell a b r.number r.cell r.old q alike)

  pub get-below : (next : ℕ) (m : Objects S) (q : ℕ) → get (below next m) q ≡ cond (nat_lt q next) (get m q) None
  get-below next m q = get-retain_keys m (λ n. nat_lt n next) q (λ x t. ap (λ n. nat_lt n next) (sym (nat_cmp-IsAntisymmetric q x t)))

  pub get-before : (s : Segment) (m : Objects S) (q : ℕ) → get (before m s) q ≡ cond (nat_lt q s.next) (get (put_back m s.records) q) None
  get-before s m q = get-below s.next (put_back m s.records) q

  -- what differs from the savepoint's next number on makes no difference
  pub before-alike : (s : Segment) (a b : Objects S) → ((q : ℕ) → q < s.next → get a q ≡ get b q) → before a s ≡ before b s
  before-alike s a b alike =
      same_map nat_cmp_total nat_cmp-IsAntisymmetric _ _ (λ q.
      get-before s a q
      ∙ cond-alike (nat_lt q s.next) _ _ None (λ e. get-put_back s.records a b q (alike q (ltb-true q s.next e)))
      ∙ sym (get-before s b q))

  -- an object made since, or changed
  pub before-newer : (s : Segment) (m : Objects S) (n : ℕ) (c : Cell) (o : Option Present) → s.next ≤ n → before (set_cell m n c o) s
      ≡ before m s
  before-newer s m n c o later =
      before-alike s _ m (λ q less.
      let lower : q < n = omega arith in
      get-adjust nat_cmp_total m n (with_part c o) q
      ∙ ap (λ b. cond b (option_map (with_part c o) (get m q)) (get m q)) (differs q n lower))

  pub before-made : (s : Segment) (m : Objects S) (n : ℕ) (x : S × Parts) → s.next ≤ n → before (insert m n x) s ≡ before m s
  before-made s m n x later =
      before-alike s _ m (λ q less.
      let lower : q < n = omega arith in
      get-insert nat_cmp_total m n x q ∙ ap (λ b. cond b (Some x) (get m q)) (differs q n lower))
