-- A walk over components leaves a number, and with the first of a component the component.
use Rattle.std.proofs.Common.{◌≡◌, ℕ, ◌+◌, ◌<◌, ◌≤◌, Bool, true, false, true≢false, cond, eqb, ◌⊎◌, inl, inr, ⊎_elim, Some, List, [], ◌∷◌, ◌++◌, length, sym, refl, ap, ◌∙◌, subst, arith}
use Rattle.std.specs.List.{list_any, Contains}
use Rattle.std.proofs.lemmas.List.Elements.{Contains-append_left, Contains-push, Contains-push_cases}
use Rattle.t3_tadsobj.specs.declared.cycles.Mark.{Mark}
use Rattle.t3_tadsobj.specs.declared.cycles.Mark.TheVariants.{Open, Done}
use Rattle.t3_tadsobj.specs.declared.cycles.Task.{Task}
use Rattle.t3_tadsobj.specs.declared.cycles.Task.TheVariants.{Look, Leave}
use Rattle.t3_tadsobj.specs.declared.cycles.Component.{Component}
use Rattle.t3_tadsobj.specs.Order.{SupersAt, IsSuperclass, IsWalk, IsAncestor}
use Rattle.t3_tadsobj.specs.Inner.ComponentSteps.{Marked, EndsLast, IsLeft}
use Rattle.t3_tadsobj.specs.Inner.ComponentWalk.{IsAt, IsInCycle, IsAbove, StartRising, IsWalking}
use Rattle.t3_tadsobj.proofs.CycleLists.{at-cases, at-left, at-less, at-right, at-some, contains-first, contains-none, rising-last, rising-left, starts-last, starts-left}
use Rattle.t3_tadsobj.proofs.CycleSteps.{top, onward}

-- ---- a number that isn't the first of its component

last_of : (cs : List Component) (c : Component) → Contains cs c
    → (front : List Component) × (last : Component) × (cs ≡ front ++ last ∷ [])
last_of [] c among = absurd (contains-none c among)
last_of (x ∷ []) c among = ([], x, refl)
last_of (x ∷ y ∷ cs) c among =
    let rest = last_of (y ∷ cs) y (contains-first y cs) in (x ∷ rest.0, rest.1, ap (λ (ds : List Component). x ∷ ds) rest.2)

ended-nothing : (at : SupersAt) (f : Marked) (path : List ℕ) (cs : List Component) (mid : List Task) (p : ℕ)
    → ((front : List Component) (last : Component) → cs ≡ front ++ last ∷ [] → ¬ (last.start ≡ p))
    → IsWalking at f path cs (mid ++ Leave p ∷ []) → IsWalking at f path cs mid
ended-nothing at f path cs mid p apart w = record {
  open_are = w.open_are;
  are_open = w.are_open;
  first = w.first;
  starts = w.starts;
  rising = rising-left mid (Leave p ∷ []) w.rising;
  steps = λ q x n among is. w.steps q x n (Contains-append_left mid (Leave p ∷ []) (Look q x) among) is;
  placed = λ t among. w.placed t (Contains-append_left mid (Leave p ∷ []) t among);
  roots = λ c among. ⊎_elim
      (λ kept. kept)
      (λ same. let e : p ≡ c.start = cc in absurd (no_root c among (sym e)))
      (Contains-push_cases mid (Leave p) (Leave c.start) (w.roots c among));
  reach = w.reach;
  cycles = w.cycles;
  looked = λ q n x is step. ⊎_elim
      (λ among. ⊎_elim
      (λ kept. inl kept)
      (λ same. absurd (cc same))
      (Contains-push_cases mid (Leave p) (Look q x) among))
      (λ rest. inr rest)
      (w.looked q n x is step);
  closed = w.closed;
  true_cycles = w.true_cycles;
  false_cycles = w.false_cycles;
}
  where
    no_root : (c : Component) → Contains cs c → c.start ≡ p → ⊥
    no_root c among e =
        let found = last_of cs c among in
        let rising : StartRising (found.0 ++ found.1 ∷ []) = subst StartRising found.2 w.starts in
        let most : found.1.start ≤ p = top at f path cs mid (Leave p) w found.1
        (subst (λ (ds : List Component). Contains ds found.1) (sym found.2) (Contains-push found.0 found.1)) in
        ⊎_elim
        (λ front. let less = starts-last found.0 found.1 rising c front in omega arith)
        (λ same. apart found.0 found.1 found.2 (ap (λ (k : Component). k.start) same ∙ e))
        (Contains-push_cases found.0 found.1 c (subst (λ (ds : List Component). Contains ds c) found.2 among))

-- ---- the first of a component

-- from what these numbers have no walk comes to others
walk_keeps : (at : SupersAt) (X Y : ℕ → Type 0) → ((m above : ℕ) → Y m → IsSuperclass at m above → X above) → ((m : ℕ) → X m → Y m)
    → (path : List ℕ) (n above : ℕ) → Y n → IsWalk at n path above → X above
walk_keeps at X Y gives stays [] n above holds step = gives n above holds step
walk_keeps at X Y gives stays (next ∷ path) n above holds walk =
    walk_keeps at X Y gives stays path next above (stays next (gives n next holds walk.0)) walk.1

-- the number is done, or stands no lower than this on the path
abbrev IsFrom : Marked → List ℕ → ℕ → ℕ → Type 0
IsFrom f path low m = ((cyclic : Bool) × (f m ≡ Some (Done cyclic))) ⊎ ((r : ℕ) × IsAt path r m × (low ≤ r))

ended-last : (at : SupersAt) (f g : Marked) (path new_path : List ℕ) (old cs : List Component) (mid : List Task) (p : ℕ)
    → EndsLast p old cs path new_path f g → IsWalking at f path old (mid ++ Leave p ∷ []) → IsWalking at g new_path cs mid
ended-last at f g path new_path old cs mid p ends w = record {
  open_are = λ n q is. ⊎_elim
      (λ new. absurd (cc new.1))
      (λ was. ⊎_elim
      (λ left. left)
      (λ right. absurd (true≢false (sym right.1 ∙ was.0)))
      (at-cases new_path members q n (split q n (w.open_are n q was.1))))
      (mark_cases n (Open q) is);
  are_open = λ n q is. marks_same n (apart q n is) ∙ w.are_open n q (joins q n is);
  first = λ some. let was = w.first (omega (arith, inside, size)) in ⊎_elim
      (λ kept. (was.0, kept, was.2))
      (λ same. let e : last.start ≡ was.0.start = ap (λ (k : Component). k.start) same in
      let zero_start = was.2 in let begins = ends.starts in absurd (omega (arith, some, size)))
      (component_cases was.0 was.1);
  starts = starts-left cs (last ∷ []) rising;
  rising = rising-left mid (Leave p ∷ []) w.rising;
  steps = λ q x n among is. w.steps q x n (Contains-append_left mid (Leave p ∷ []) (Look q x) among) (joins q n is);
  placed = λ t among. let less = rising-last mid (Leave p) t w.rising among in omega (arith, size);
  roots = λ c among. ⊎_elim
      (λ kept. kept)
      (λ same. let e : p ≡ c.start = cc in let less = below c among in absurd (omega arith))
      (Contains-push_cases mid (Leave p) (Leave c.start) (w.roots c (old_has c among)));
  reach = λ i q n m is also none. w.reach i q n m (joins i n is) (joins q m also) (λ c among low high. ⊎_elim
      (λ kept. none c kept low high)
      (λ same. let e : last.start ≡ c.start = ap (λ (k : Component). k.start) same in
      let less = at-less new_path i n is in let begins = ends.starts in omega (arith, size))
      (component_cases c among));
  cycles = λ c n among cyclic is. w.cycles c n (old_has c among) cyclic (joins c.start n is);
  looked = λ q n x is step. ⊎_elim
      (λ among. ⊎_elim (λ kept. inl kept) (λ same. absurd (cc same)) (Contains-push_cases mid (Leave p) (Look q x) among))
      (λ rest. inr (⊎_elim
      (λ done. inl (done_stays x done.0 done.1))
      (λ up. still_above q x (at-less new_path q n is) up)
      rest))
      (w.looked q n x (joins q n is) step);
  closed = λ n x cyclic is step. ⊎_elim
      (λ new. let place = at-right new_path members n new.0 in
      let begins = size in member_closed place.0 n x (omega arith) (rejoined place.0 n place.2) step)
      (λ was. let up = w.closed n x cyclic was.1 step in done_stays x up.0 up.1)
      (mark_cases n (Done cyclic) is);
  true_cycles = λ n is. ⊎_elim
      (λ new. let place = at-right new_path members n new.0 in let begins = size in
      let flag : last.cyclic ≡ true = cc new.1 in
      turns place.0 n (omega arith) (rejoined place.0 n place.2) flag)
      (λ was. w.true_cycles n was.1)
      (mark_cases n (Done true) is);
  false_cycles = λ n is walk. ⊎_elim
      (λ new. let place = at-right new_path members n new.0 in let begins = size in
      let flag : last.cyclic ≡ false = cc new.1 in
      never place.0 n (omega arith) (rejoined place.0 n place.2) flag walk)
      (λ was. w.false_cycles n was.1 walk)
      (mark_cases n (Done false) is);
}
  where
    last : Component
    last = ends.last

    members : List ℕ
    members = ends.finished.members

    is_member : ℕ → Bool
    is_member n = list_any (λ m. eqb n m) ends.finished.members

    inside : p < length path
    inside = w.placed (Leave p) (Contains-push mid (Leave p))

    size : length new_path ≡ p
    size = let e = ends.starts in let less = inside in ends.finished.size (omega arith) ∙ ends.starts

    rising : StartRising (cs ++ last ∷ [])
    rising = subst StartRising ends.were w.starts

    old_has : (c : Component) → Contains cs c → Contains old c
    old_has c among = subst (λ (ds : List Component). Contains ds c) (sym ends.were) (Contains-append_left cs (last ∷ []) c among)

    has_last : Contains old last
    has_last = subst (λ (ds : List Component). Contains ds ends.last) (sym ends.were) (Contains-push cs last)

    component_cases : (c : Component) → Contains old c → Contains cs c ⊎ (last ≡ c)
    component_cases c among = Contains-push_cases cs last c (subst (λ (ds : List Component). Contains ds c) ends.were among)

    below : (c : Component) → Contains cs c → c.start < p
    below c among = let less = starts-last cs last rising c among in let e = ends.starts in omega arith

    joins : (q n : ℕ) → IsAt new_path q n → IsAt path q n
    joins q n is = subst (λ (xs : List ℕ). IsAt xs q n) (sym ends.finished.was) (at-left new_path members q n is)

    split : (q n : ℕ) → IsAt path q n → IsAt (new_path ++ members) q n
    split q n is = subst (λ (xs : List ℕ). IsAt xs q n) ends.finished.was is

    rejoined : (q n : ℕ) → IsAt (new_path ++ members) q n → IsAt path q n
    rejoined q n is = subst (λ (xs : List ℕ). IsAt xs q n) (sym ends.finished.was) is

    one_place : (q r n : ℕ) → IsAt path q n → IsAt path r n → q ≡ r
    one_place q r n is also = let e : Some (Open q) ≡ Some (Open r) = sym (w.are_open n q is) ∙ w.are_open n r also in cc

    apart : (q n : ℕ) → IsAt new_path q n → is_member n ≡ false
    apart q n is = by (is_member n) refl
      where
        by : (b : Bool) → is_member n ≡ b → is_member n ≡ false
        by true has =
            let place = at-right new_path ends.finished.members n has in
            let less = at-less new_path q n is in
            let e = one_place q place.0 n (joins q n is) (rejoined place.0 n place.2) in
            absurd (let more = place.1 in omega arith)
        by false has = has

    marks_same : (n : ℕ) → is_member n ≡ false → g n ≡ f n
    marks_same n none = ends.finished.marks n ∙ ap (λ b. cond b (Some (Done ends.last.cyclic)) (f n)) none

    marks_new : (n : ℕ) → is_member n ≡ true → g n ≡ Some (Done last.cyclic)
    marks_new n has = ends.finished.marks n ∙ ap (λ b. cond b (Some (Done ends.last.cyclic)) (f n)) has

    mark_cases : (n : ℕ) (x : Mark) → g n ≡ Some x
        → ((is_member n ≡ true) × (Done last.cyclic ≡ x)) ⊎ ((is_member n ≡ false) × (f n ≡ Some x))
    mark_cases n x is = by (is_member n) refl
      where
        by : (b : Bool) → is_member n ≡ b → ((is_member n ≡ true) × (Done last.cyclic ≡ x)) ⊎ ((is_member n ≡ false) × (f n ≡ Some x))
        by true has = let e : Some (Done ends.last.cyclic) ≡ Some x = sym (marks_new n has) ∙ is in inl (has, cc)
        by false none = inr (none, sym (marks_same n none) ∙ is)

    done_stays : (x : ℕ) (c : Bool) → f x ≡ Some (Done c) → (d : Bool) × (g x ≡ Some (Done d))
    done_stays x c is = by (is_member x) refl
      where
        by : (b : Bool) → is_member x ≡ b → (d : Bool) × (g x ≡ Some (Done d))
        by true has = (ends.last.cyclic, marks_new x has)
        by false none = (c, marks_same x none ∙ is)

    in_members : (r x : ℕ) → p ≤ r → IsAt path r x → is_member x ≡ true
    in_members r x more is =
        ⊎_elim
        (λ left. let less = at-less new_path r x left in let e = size in absurd (omega arith))
        (λ right. right.1)
        (at-cases new_path members r x (split r x is))

    still_above : (q x : ℕ) → q < length new_path → IsAbove path old q x
        → ((d : Bool) × (g x ≡ Some (Done d))) ⊎ IsAbove new_path cs q x
    still_above q x less up =
        ⊎_elim
        (λ left. inr (record {
          stands = up.stands;
          is = left;
          higher = ⊎_elim (λ later. inl later) (λ cycle. inr (in_cycle (at-less new_path up.stands x left) cycle)) up.higher;
        }))
        (λ right. inl (ends.last.cyclic, marks_new x right.1))
        (at-cases new_path members up.stands x (split up.stands x up.is))
      where
        in_cycle : up.stands < length new_path → IsInCycle old up.stands q → IsInCycle cs up.stands q
        in_cycle low cycle = record {
          component = cycle.component;
          among = ⊎_elim
              (λ kept. kept)
              (λ same. let e : ends.last.start ≡ cycle.component.start = ap (λ (k : Component). k.start) same in
              let begins = ends.starts in let starts = cycle.starts in let long = size in absurd (omega arith))
              (component_cases cycle.component cycle.among);
          cyclic = cycle.cyclic;
          starts = cycle.starts;
          within = λ c among. cycle.within c (old_has c among);
        }

    no_look : (q x : ℕ) → p ≤ q → Contains (mid ++ Leave p ∷ []) (Look q x) → ⊥
    no_look q x more among =
        ⊎_elim
        (λ kept. let less = rising-last mid (Leave p) (Look q x) w.rising kept in omega arith)
        (λ same. cc same)
        (Contains-push_cases mid (Leave p) (Look q x) among)

    high_cycle : (q r : ℕ) → p ≤ q → (cycle : IsInCycle old r q) → (last ≡ cycle.component)
    high_cycle q r more cycle =
        ⊎_elim
        (λ kept. let less = below cycle.component kept in let e = ends.starts in
        absurd (cycle.within ends.last has_last (omega arith) (omega arith)))
        (λ same. same)
        (component_cases cycle.component cycle.among)

    high : (q x : ℕ) → p ≤ q → (up : IsAbove path old q x) → p ≤ up.stands
    high q x more up =
        ⊎_elim
        (λ later. omega arith)
        (λ cycle. let e : ends.last.start ≡ cycle.component.start
        = ap (λ (k : Component). k.start) (high_cycle q up.stands more cycle) in
        let begins = ends.starts in let starts = cycle.starts in omega arith)
        up.higher

    member_closed : (q n x : ℕ) → p ≤ q → IsAt path q n → IsSuperclass at n x → (c : Bool) × (g x ≡ Some (Done c))
    member_closed q n x more is step =
        ⊎_elim
        (λ among. absurd (no_look q x more among))
        (λ rest. ⊎_elim
        (λ done. done_stays x done.0 done.1)
        (λ up. (ends.last.cyclic, marks_new x (in_members up.stands x (high q x more up) up.is)))
        rest)
        (w.looked q n x is step)

    head : (v : ℕ) × IsAt path p v
    head = at-some path p inside

    turns : (q n : ℕ) → p ≤ q → IsAt path q n → last.cyclic ≡ true → IsAncestor at n n
    turns q n more is flag =
        ⊎_elim
        (λ same. subst (λ (k : ℕ). IsAncestor at k k) (sym same) itself)
        (λ up. ⊎_elim
        (λ same. subst (λ (k : ℕ). IsAncestor at n k) same up)
        (λ down. onward at n head.0 n up down)
        (w.reach p q head.0 n head.1 is (λ c among low high. let most = top at f path old mid (Leave p) w c among in omega arith)))
        (w.reach q p n head.0 is head.1 (λ c among low high. let most = top at f path old mid (Leave p) w c among in omega arith))
      where
        itself : IsAncestor at head.0 head.0
        itself = w.cycles ends.last head.0 has_last flag (subst (λ (i : ℕ). IsAt path i head.0) (sym ends.starts) head.1)

    never : (q n : ℕ) → p ≤ q → IsAt path q n → last.cyclic ≡ false → IsAncestor at n n → ⊥
    never q n more is flag walk =
        ⊎_elim
        (λ done. cc (done.1, w.are_open n q is))
        (λ place. let e = one_place q place.0 n is place.1 in let less = place.2 in omega arith)
        (walk_keeps at (IsFrom f path (q + 1)) (IsFrom f path q) gives stays walk.0 n n (inr (q, is, omega arith)) walk.1)
      where
        stays : (m : ℕ) → IsFrom f path (q + 1) m → IsFrom f path q m
        stays m from = ⊎_elim (λ done. inl done) (λ place. let less = place.2 in inr (place.0, place.1, omega arith)) from

        climbs : (r x : ℕ) → q ≤ r → IsAbove path old r x → IsFrom f path (q + 1) x
        climbs r x less up =
            ⊎_elim
            (λ later. inr (up.stands, up.is, omega arith))
            (λ cycle. absurd (true≢false (sym cycle.cyclic
            ∙ sym (ap (λ (k : Component). k.cyclic) (high_cycle r up.stands (omega arith) cycle)) ∙ flag)))
            up.higher

        gives : (m x : ℕ) → IsFrom f path q m → IsSuperclass at m x → IsFrom f path (q + 1) x
        gives m x from step =
            ⊎_elim
            (λ done. inl (w.closed m x done.0 done.1 step))
            (λ place. let less = place.2 in ⊎_elim
            (λ among. absurd (no_look place.0 x (omega arith) among))
            (λ rest. ⊎_elim (λ done. inl done) (λ up. climbs place.0 x less up) rest)
            (w.looked place.0 m x place.1 step))
            from

-- a number is left
pub left-one : (at : SupersAt) (f g : Marked) (path new_path : List ℕ) (old cs : List Component) (mid : List Task) (p : ℕ)
    → IsLeft p old cs path new_path f g → IsWalking at f path old (mid ++ Leave p ∷ []) → IsWalking at g new_path cs mid
left-one at f g path new_path old cs mid p left w =
    ⊎_elim
    (λ ends. ended-last at f g path new_path old cs mid p ends w)
    (λ nothing.
    subst (λ (h : Marked). IsWalking at h new_path cs mid) (sym nothing.marks_same)
    (subst (λ (xs : List ℕ). IsWalking at f xs cs mid) (sym nothing.path_same)
    (subst (λ (ds : List Component). IsWalking at f path ds mid) (sym nothing.components_same)
    (ended-nothing at f path old mid p nothing.apart w))))
    left
