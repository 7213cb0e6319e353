-- The first steps of a walk over components: a number is met, or is known.
use Rattle.std.proofs.Common.{◌≡◌, ℕ, zero, suc, ◌+◌, ◌<◌, ◌≤◌, Bool, true, false, true≢false, cond, eqb, ◌⊎◌, inl, inr, ⊎_elim, Some, None, List, [], ◌∷◌, ◌++◌, length, map, sym, refl, ap, ◌∙◌, subst, arith}
use Rattle.std.specs.List.{AllByRecursion, Contains}
use Rattle.std.proofs.lemmas.Bool.{eq-eqb}
use Rattle.std.proofs.lemmas.Bool.Decides.{eqb_tells}
use Rattle.std.proofs.lemmas.List.{length-append}
use Rattle.std.proofs.lemmas.List.Elements.{Contains-append_left, Contains-append_right, Contains-append_cases, Contains-push, Contains-push_cases}
use Rattle.t3_tadsobj.specs.declared.cycles.Mark.{Mark}
use Rattle.t3_tadsobj.specs.declared.cycles.Mark.TheVariants.{Open, Done}
use Rattle.t3_tadsobj.specs.declared.cycles.Task.{Task}
use Rattle.t3_tadsobj.specs.declared.cycles.Task.TheVariants.{Look, Leave}
use Rattle.t3_tadsobj.specs.declared.cycles.Component.{Component}
use Rattle.t3_tadsobj.specs.Order.{SupersAt, IsSuperclass, IsWalk, IsAncestor}
use Rattle.t3_tadsobj.specs.Inner.ComponentSteps.{Marked}
use Rattle.t3_tadsobj.specs.Inner.ComponentWalk.{IsAt, IsAbove, AreRising, place_of, limit_of, IsWalking}
use Rattle.t3_tadsobj.proofs.OrderMembers.{Has-cases}
use Rattle.t3_tadsobj.proofs.OrderDepth.{further, nearer}
use Rattle.t3_tadsobj.proofs.CycleLists.{at-cases, at-left, at-less, at-push, contains-cons, contains-first, contains-none, rising-append, rising-last, rising-without, starts-push}

-- ---- the last task

limit-small : (t : Task) → limit_of t ≤ place_of t + 1
limit-small (Look p w) = omega arith
limit-small (Leave p) = omega arith

-- each component starts no later than the place of the last task
pub top : (at : SupersAt) (f : Marked) (path : List ℕ) (cs : List Component) (mid : List Task) (t : Task)
    → IsWalking at f path cs (mid ++ t ∷ []) → (c : Component) → Contains cs c → c.start ≤ place_of t
top at f path cs mid t w c among =
    ⊎_elim
    (λ left. omega (arith, limit-small t, rising-last mid t (Leave c.start) w.rising left))
    (λ same. let e : place_of t ≡ c.start = ap place_of same in omega arith)
    (Contains-push_cases mid t (Leave c.start) (w.roots c among))

-- ---- walks over superclasses

pub onward : (at : SupersAt) (n m k : ℕ) → IsAncestor at n m → IsAncestor at m k → IsAncestor at n k
onward at n m k first second = by first.0 n first.1
  where
    by : (path : List ℕ) (x : ℕ) → IsWalk at x path m → IsAncestor at x k
    by [] x walk = nearer at x m k walk second
    by (next ∷ path) x walk = nearer at x next k walk.0 (by path next walk.1)

-- from a number or its ancestor a step to a number or to one of which the other is an ancestor
pub joined : (at : SupersAt) (n v w m : ℕ) → (n ≡ v) ⊎ IsAncestor at n v → IsSuperclass at v w → (w ≡ m) ⊎ IsAncestor at w m
    → IsAncestor at n m
joined at n v w m before step after =
    let front : IsAncestor at n w = ⊎_elim
    (λ same. subst (λ (k : ℕ). IsAncestor at k w) (sym same) ([], step))
    (λ walk. further at n v w walk step) before in
    ⊎_elim (λ same. subst (λ (k : ℕ). IsAncestor at n k) same front) (λ walk. onward at n w m front walk) after

pub steps_none : (at : SupersAt) (n m : ℕ) → at n ≡ None → IsSuperclass at n m → ⊥
steps_none at n m none step = absurd (cc (none, step.are))

pub walks_none : (at : SupersAt) (n m : ℕ) → at n ≡ None → IsAncestor at n m → ⊥
walks_none at n m none ([], step) = steps_none at n m none step
walks_none at n m none (next ∷ path, walk) = steps_none at n next none walk.0

-- ---- marks

-- the number gets a mark, and no other
abbrev pub Sets : Marked → Marked → ℕ → Mark → Type 0
Sets f g n mark = (m : ℕ) → g m ≡ cond (eqb n m) (Some mark) (f m)

pub sets-new : (f g : Marked) (n : ℕ) (mark : Mark) → Sets f g n mark → g n ≡ Some mark
sets-new f g n mark sets = sets n ∙ ap (λ b. cond b (Some mark) (f n)) (eq-eqb n n refl)

pub sets-old : (f g : Marked) (n : ℕ) (mark : Mark) → Sets f g n mark → f n ≡ None → (m : ℕ) (x : Mark) → f m ≡ Some x → g m ≡ Some x
sets-old f g n mark sets none m x is =
    ⊎_elim
    (λ same. absurd (cc (subst (λ (k : ℕ). f k ≡ None) same.1 none, is)))
    (λ other. sets m ∙ ap (λ b. cond b (Some mark) (f m)) other.0 ∙ is)
    (eqb_tells n m)

pub sets-cases : (f g : Marked) (n : ℕ) (mark : Mark) → Sets f g n mark → (m : ℕ) (x : Mark) → g m ≡ Some x
    → ((n ≡ m) × (mark ≡ x)) ⊎ (f m ≡ Some x)
sets-cases f g n mark sets m x is =
    ⊎_elim
    (λ same. let e : Some mark ≡ Some x = sym (ap (λ b. cond b (Some mark) (f m)) same.0) ∙ sym (sets m) ∙ is in inl (same.1, cc))
    (λ other. inr (sym (ap (λ b. cond b (Some mark) (f m)) other.0) ∙ sym (sets m) ∙ is))
    (eqb_tells n m)

-- ---- a superclass is known

-- what is known of a superclass that was looked at
abbrev pub IsKnown : Marked → List ℕ → List Component → ℕ → ℕ → Type 0
IsKnown f path cs p above = ((cyclic : Bool) × (f above ≡ Some (Done cyclic))) ⊎ IsAbove path cs p above

pub removed : (at : SupersAt) (f : Marked) (path : List ℕ) (cs : List Component) (a b : List Task) (p above : ℕ)
    → IsKnown f path cs p above → IsWalking at f path cs (a ++ Look p above ∷ b) → IsWalking at f path cs (a ++ b)
removed at f path cs a b p above known w = record {
  open_are = w.open_are;
  are_open = w.are_open;
  first = w.first;
  starts = w.starts;
  reach = w.reach;
  cycles = w.cycles;
  closed = w.closed;
  true_cycles = w.true_cycles;
  false_cycles = w.false_cycles;
  rising = rising-without a (Look p above) b w.rising;
  steps = λ q x n among is. w.steps q x n (more (Look q x) among) is;
  placed = λ t among. w.placed t (more t among);
  roots = λ c among. ⊎_elim (λ same. absurd (cc same)) (λ kept. kept) (fewer (Leave c.start) (w.roots c among));
  looked = λ q n x is step. ⊎_elim
      (λ among. ⊎_elim
      (λ same. let place : p ≡ q = cc in let number : above ≡ x = cc in
      inr (subst (λ (i : ℕ). IsKnown f path cs i x) place (subst (λ (k : ℕ). IsKnown f path cs p k) number known)))
      (λ kept. inl kept)
      (fewer (Look q x) among))
      (λ rest. inr rest)
      (w.looked q n x is step);
}
  where
    more : (t : Task) → Contains (a ++ b) t → Contains (a ++ Look p above ∷ b) t
    more t among =
        ⊎_elim
        (λ left. Contains-append_left a (Look p above ∷ b) t left)
        (λ right. Contains-append_right a (Look p above ∷ b) t (Contains-append_right (Look p above ∷ []) b t right))
        (Contains-append_cases a b t among)

    fewer : (t : Task) → Contains (a ++ Look p above ∷ b) t → (Look p above ≡ t) ⊎ Contains (a ++ b) t
    fewer t among =
        ⊎_elim
        (λ left. inr (Contains-append_left a b t left))
        (λ right. ⊎_elim (λ same. inl same) (λ later. inr (Contains-append_right a b t later)) (contains-cons (Look p above) b t right))
        (Contains-append_cases a (Look p above ∷ b) t among)

-- ---- a number is met that isn't live

pub met-missing : (at : SupersAt) (f g : Marked) (path : List ℕ) (cs : List Component) (tasks : List Task) (n : ℕ)
    → f n ≡ None → at n ≡ None → Sets f g n (Done false) → IsWalking at f path cs tasks → IsWalking at g path cs tasks
met-missing at f g path cs tasks n none missing sets w = record {
  first = w.first;
  starts = w.starts;
  rising = w.rising;
  steps = w.steps;
  placed = w.placed;
  roots = w.roots;
  reach = w.reach;
  cycles = w.cycles;
  open_are = λ m p is. ⊎_elim (λ new. absurd (cc new.1)) (λ old. w.open_are m p old) (sets-cases f g n (Done false) sets m (Open p) is);
  are_open = λ m p is. kept m (Open p) (w.are_open m p is);
  looked = λ p m above is step. ⊎_elim
      (λ among. inl among)
      (λ rest. ⊎_elim (λ done. inr (inl (done.0, kept above (Done done.0) done.1))) (λ up. inr (inr up)) rest)
      (w.looked p m above is step);
  closed = λ m above cyclic is step. ⊎_elim
      (λ new. absurd (steps_none at m above (subst (λ (k : ℕ). at k ≡ None) new.0 missing) step))
      (λ old. let up = w.closed m above cyclic old step in (up.0, kept above (Done up.0) up.1))
      (sets-cases f g n (Done false) sets m (Done cyclic) is);
  true_cycles = λ m is. ⊎_elim (λ new. absurd (cc new.1)) (λ old. w.true_cycles m old)
      (sets-cases f g n (Done false) sets m (Done true) is);
  false_cycles = λ m is walk. ⊎_elim
      (λ new. walks_none at m m (subst (λ (k : ℕ). at k ≡ None) new.0 missing) walk)
      (λ old. w.false_cycles m old walk)
      (sets-cases f g n (Done false) sets m (Done false) is);
}
  where
    kept : (m : ℕ) (x : Mark) → f m ≡ Some x → g m ≡ Some x
    kept = sets-old f g n (Done false) sets none

-- ---- a live number is met

pushed-cases : (path : List ℕ) (x p n : ℕ) → IsAt (path ++ x ∷ []) p n → IsAt path p n ⊎ ((p ≡ length path) × (x ≡ n))
pushed-cases path x p n is =
    ⊎_elim
    (λ left. inl left)
    (λ right. let less : p < length (path ++ x ∷ []) = at-less (path ++ x ∷ []) p n is in
    inr (
      omega (arith, less, right.0, length-append path (x ∷ [])),
      ⊎_elim (λ same. sym same) (λ none. absurd (true≢false (sym none))) (Has-cases x n [] right.1),
    ))
    (at-cases path (x ∷ []) p n is)

looks-cases : (place : ℕ) (supers : List ℕ) (p above : ℕ) → Contains (map (Look place) supers) (Look p above)
    → (place ≡ p) × Contains supers above
looks-cases place [] p above among = absurd (contains-none (Look p above) among)
looks-cases place (s ∷ supers) p above among =
    ⊎_elim
    (λ same. let number : s ≡ above = cc in (cc, subst (λ (k : ℕ). Contains (s ∷ supers) k) number (contains-first s supers)))
    (λ later. let rest = looks-cases place supers p above later in (rest.0, Contains-append_right (s ∷ []) supers above rest.1))
    (contains-cons (Look place s) (map (Look place) supers) (Look p above) among)

looks-has : (place : ℕ) (supers : List ℕ) (above : ℕ) → Contains supers above → Contains (map (Look place) supers) (Look place above)
looks-has place [] above among = absurd (contains-none above among)
looks-has place (s ∷ supers) above among =
    ⊎_elim
    (λ same. subst (λ (k : ℕ). Contains (map (Look place) (s ∷ supers)) (Look place k)) same
    (contains-first (Look place s) (map (Look place) supers)))
    (λ later. Contains-append_right (Look place s ∷ []) (map (Look place) supers) (Look place above) (looks-has place supers above later))
    (contains-cons s supers above among)

looks-leave : (place : ℕ) (supers : List ℕ) (p : ℕ) → Contains (map (Look place) supers) (Leave p) → ⊥
looks-leave place [] p among = contains-none (Leave p) among
looks-leave place (s ∷ supers) p among =
    ⊎_elim (λ same. absurd (cc same)) (λ later. looks-leave place supers p later)
    (contains-cons (Look place s) (map (Look place) supers) (Leave p) among)

looks-above : (place low : ℕ) (supers : List ℕ) → low < place + 1 → AllByRecursion (λ u. low < limit_of u) (map (Look place) supers)
looks-above place low [] less = tt
looks-above place low (s ∷ supers) less = (less, looks-above place low supers less)

looks-rising : (place : ℕ) (supers : List ℕ) → AreRising (map (Look place) supers)
looks-rising place [] = tt
looks-rising place (s ∷ supers) = (looks-above place place supers (omega arith), looks-rising place supers)

-- the places of the new tasks
new-place : (place : ℕ) (supers : List ℕ) (t : Task) → Contains (Leave place ∷ map (Look place) supers) t
    → (place_of t ≡ place) × (place ≤ limit_of t)
new-place place supers (Leave p) among =
    ⊎_elim (λ same. let e : place ≡ p = cc in (sym e, omega arith)) (λ later. absurd (looks-leave place supers p later))
    (contains-cons (Leave place) (map (Look place) supers) (Leave p) among)
new-place place supers (Look p above) among =
    ⊎_elim (λ same. absurd (cc same)) (λ later. let e = (looks-cases place supers p above later).0 in (sym e, omega arith))
    (contains-cons (Leave place) (map (Look place) supers) (Look p above) among)

pub met-live : (at : SupersAt) (f g : Marked) (path : List ℕ) (cs : List Component) (tasks : List Task) (n : ℕ) (supers : List ℕ)
    → f n ≡ None → at n ≡ Some supers → Sets f g n (Open (length path)) → ((q m : ℕ) → IsAt path q m → IsAncestor at m n)
    → IsWalking at f path cs tasks
    → IsWalking at g (path ++ n ∷ []) (cs ++ record { start = length path; cyclic = false } ∷ [])
    (tasks ++ Leave (length path) ∷ map (Look (length path)) supers)
met-live at f g path cs tasks n supers none live sets all w = record {
  open_are = λ m p is. ⊎_elim
      (λ new. let place : length path ≡ p = cc new.1 in
      subst (λ (i : ℕ). IsAt (path ++ n ∷ []) i m) place (subst (λ (k : ℕ). IsAt (path ++ n ∷ []) (length path) k) new.0 (at-push path n)))
      (λ old. at-left path (n ∷ []) p m (w.open_are m p old))
      (cases m (Open p) is);
  are_open = λ m p is. ⊎_elim
      (λ old. kept m (Open p) (w.are_open m p old))
      (λ new. subst (λ (k : ℕ). g k ≡ Some (Open p)) new.1 (sets-new f g n (Open (length path)) sets ∙ ap (λ i. Some (Open i)) (sym new.0)))
      (pushed-cases path n p m is);
  first = λ some. by_length (length path) refl;
  starts = starts-push cs last w.starts below;
  rising = rising-append tasks news w.rising (looks-above place place supers (omega arith), looks-rising place supers)
      (λ t u among also. let less = w.placed t among in let more = (new-place place supers u also).1 in omega arith);
  steps = λ p above m among is. ⊎_elim
      (λ old. w.steps p above m old (still p m (w.placed (Look p above) old) is))
      (λ new. ⊎_elim
      (λ same. absurd (cc same))
      (λ later. let found = looks-cases place supers p above later in
      ⊎_elim
      (λ low. let less = at-less path p m low in absurd (let e = found.0 in omega arith))
      (λ here. record { supers = supers; are = subst (λ (k : ℕ). at k ≡ Some supers) here.1 live; among = found.1 })
      (pushed-cases path n p m is))
      (contains-cons (Leave place) (map (Look place) supers) (Look p above) new))
      (Contains-append_cases tasks news (Look p above) among);
  placed = λ t among. ⊎_elim
      (λ old. let less = w.placed t old in omega (arith, less, length-append path (n ∷ [])))
      (λ new. let e = (new-place place supers t new).0 in omega (arith, e, length-append path (n ∷ [])))
      (Contains-append_cases tasks news t among);
  roots = λ c among. ⊎_elim
      (λ old. Contains-append_left tasks news (Leave c.start) (w.roots c old))
      (λ same. Contains-append_right tasks news (Leave c.start)
      (subst (λ (k : Component). Contains news (Leave k.start)) same (contains-first (Leave place) (map (Look place) supers))))
      (Contains-push_cases cs last c among);
  reach = λ p q m k is also no. ⊎_elim
      (λ m_old. ⊎_elim
      (λ k_old. w.reach p q m k m_old k_old (λ c among. no c (Contains-append_left cs (last ∷ []) c among)))
      (λ k_new. inr (subst (λ (x : ℕ). IsAncestor at m x) k_new.1 (all p m m_old)))
      (pushed-cases path n q k also))
      (λ m_new. ⊎_elim
      (λ k_old. let less = at-less path q k k_old in let e = m_new.0 in absurd (no last (Contains-push cs last) less (omega arith)))
      (λ k_new. inl (sym m_new.1 ∙ k_new.1))
      (pushed-cases path n q k also))
      (pushed-cases path n p m is);
  cycles = λ c m among is_cyclic is. ⊎_elim
      (λ old. w.cycles c m old is_cyclic (still c.start m (below c old) is))
      (λ same. absurd (true≢false (sym is_cyclic ∙ sym (ap (λ (k : Component). k.cyclic) same))))
      (Contains-push_cases cs last c among);
  looked = λ p m above is step. ⊎_elim
      (λ old. ⊎_elim
      (λ among. inl (Contains-append_left tasks news (Look p above) among))
      (λ rest. ⊎_elim
      (λ done. inr (inl (done.0, kept above (Done done.0) done.1)))
      (λ up. inr (inr (higher p above (at-less path p m old) up)))
      rest)
      (w.looked p m above old step))
      (λ new. let e : supers ≡ step.supers = cc (live, step.are, new.1) in
      let has : Contains supers above = subst (λ (xs : List ℕ). Contains xs above) (sym e) step.among in
      inl (Contains-append_right tasks news (Look p above)
      (subst (λ (i : ℕ). Contains news (Look i above)) (sym new.0)
      (Contains-append_right (Leave place ∷ []) (map (Look place) supers) (Look place above) (looks-has place supers above has)))))
      (pushed-cases path n p m is);
  closed = λ m above cyclic is step. ⊎_elim
      (λ new. absurd (cc new.1))
      (λ old. let up = w.closed m above cyclic old step in (up.0, kept above (Done up.0) up.1))
      (cases m (Done cyclic) is);
  true_cycles = λ m is. ⊎_elim (λ new. absurd (cc new.1)) (λ old. w.true_cycles m old) (cases m (Done true) is);
  false_cycles = λ m is walk. ⊎_elim (λ new. absurd (cc new.1)) (λ old. w.false_cycles m old walk) (cases m (Done false) is);
}
  where
    place : ℕ
    place = length path

    last : Component
    last = record { start = length path; cyclic = false }

    news : List Task
    news = Leave (length path) ∷ map (Look (length path)) supers

    kept : (m : ℕ) (x : Mark) → f m ≡ Some x → g m ≡ Some x
    kept = sets-old f g n (Open (length path)) sets none

    cases : (m : ℕ) (x : Mark) → g m ≡ Some x → ((n ≡ m) × (Open (length path) ≡ x)) ⊎ (f m ≡ Some x)
    cases = sets-cases f g n (Open (length path)) sets

    below : (c : Component) → Contains cs c → c.start < length path
    below c among = w.placed (Leave c.start) (w.roots c among)

    still : (p m : ℕ) → p < length path → IsAt (path ++ n ∷ []) p m → IsAt path p m
    still p m less is = ⊎_elim (λ old. old) (λ new. let e = new.0 in absurd (omega arith)) (pushed-cases path n p m is)

    by_length : (k : ℕ) → length path ≡ k
        → (c : Component) × Contains (cs ++ record { start = length path; cyclic = false } ∷ []) c × (c.start ≡ 0)
    by_length zero is = (last, Contains-push cs last, is)
    by_length (suc k) is =
        let old = w.first (omega (arith, is)) in
        (old.0, Contains-append_left cs (record { start = length path; cyclic = false } ∷ []) old.0 old.1, old.2)

    higher : (p above : ℕ) → p < length path → IsAbove path cs p above
        → IsAbove (path ++ n ∷ []) (cs ++ record { start = length path; cyclic = false } ∷ []) p above
    higher p above less up = record {
      stands = up.stands;
      is = at-left path (n ∷ []) up.stands above up.is;
      higher = ⊎_elim
          (λ later. inl later)
          (λ cycle. inr (record {
            component = cycle.component;
            among = Contains-append_left cs (last ∷ []) cycle.component cycle.among;
            cyclic = cycle.cyclic;
            starts = cycle.starts;
            within = λ c among low high. ⊎_elim
                (λ old. cycle.within c old low high)
                (λ same. let e : length path ≡ c.start = ap (λ (k : Component). k.start) same in omega arith)
                (Contains-push_cases cs last c among);
          }))
          up.higher;
    }
