-- A walk over components meets a number of the path: components are merged.
use Rattle.std.proofs.Common.{◌≡◌, ℕ, zero, suc, ◌<◌, ◌≤◌, Bool, true, ◌⊎◌, inl, inr, ⊎_elim, Some, List, [], ◌∷◌, ◌++◌, sym, refl, ap, ◌∙◌, subst, arith}
use Rattle.std.specs.List.{Contains}
use Rattle.std.proofs.lemmas.List.Elements.{Contains-append_left, Contains-append_cases, Contains-push, Contains-push_cases}
use Rattle.t3_tadsobj.specs.declared.cycles.Mark.TheVariants.{Open, Done}
use Rattle.t3_tadsobj.specs.declared.cycles.Task.{Task}
use Rattle.t3_tadsobj.specs.declared.cycles.Task.TheVariants.{Look, Leave}
use Rattle.t3_tadsobj.specs.declared.cycles.Component.{Component}
use Rattle.t3_tadsobj.specs.Order.{SupersAt, IsSuperclass, IsAncestor}
use Rattle.t3_tadsobj.specs.Inner.ComponentSteps.{Marked, IsMerged}
use Rattle.t3_tadsobj.specs.Inner.ComponentWalk.{IsAt, HasNoStart, IsInCycle, IsAbove, StartRising, IsWalking}
use Rattle.t3_tadsobj.proofs.CycleLists.{all-holds, at-some, starts-last, starts-left, starts-push}
use Rattle.t3_tadsobj.proofs.CycleSteps.{top, joined, removed}

-- the component into which others are merged
abbrev pub merged_of : Component → Component
merged_of c = record { start = c.start; cyclic = true }

order-cases : (a b : ℕ) → (a < b) ⊎ (b ≤ a)
order-cases zero zero = inr (omega arith)
order-cases zero (suc b) = inl (omega arith)
order-cases (suc a) zero = inr (omega arith)
order-cases (suc a) (suc b) = ⊎_elim (λ less. inl (omega arith)) (λ more. inr (omega arith)) (order-cases a b)

-- a component stays, or starts above the place
merged-forth : (place : ℕ) (old new : List Component) → IsMerged place old new → (c : Component) → Contains old c
    → ((d : Component) × Contains new d × (d.start ≡ c.start)) ⊎ (place < c.start)
merged-forth place old new m c among =
    ⊎_elim
    (λ low. ⊎_elim
    (λ front. inl (c, has c (Contains-append_left m.front (merged_of m.base ∷ []) c front), refl))
    (λ same. inl (
      merged_of m.base,
      has (merged_of m.base) (Contains-push m.front (merged_of m.base)),
      ap (λ (k : Component). k.start) same,
    ))
    (Contains-push_cases m.front m.base c low))
    (λ above. inr (all-holds (λ (k : Component). place < k.start) m.popped c m.later above))
    (Contains-append_cases (m.front ++ m.base ∷ []) m.popped c (subst (λ (cs : List Component). Contains cs c) m.were among))
  where
    has : (d : Component) → Contains (m.front ++ merged_of m.base ∷ []) d → Contains new d
    has d among = subst (λ (cs : List Component). Contains cs d) (sym m.are) among

-- a component was there before, or is the one that is merged
merged-back : (place : ℕ) (old new : List Component) (m : IsMerged place old new) → (d : Component) → Contains new d
    → (Contains m.front d × Contains old d) ⊎ (merged_of m.base ≡ d)
merged-back place old new m d among =
    ⊎_elim
    (λ front. inl (
      front,
      subst (λ (cs : List Component). Contains cs d) (sym m.were)
          (Contains-append_left (m.front ++ m.base ∷ []) m.popped d (Contains-append_left m.front (m.base ∷ []) d front)),
    ))
    (λ same. inr same)
    (Contains-push_cases m.front (merged_of m.base) d (subst (λ (cs : List Component). Contains cs d) m.are among))

merged-at : (place : ℕ) (old new : List Component) (m : IsMerged place old new) → Contains old m.base
merged-at place old new m = subst (λ (cs : List Component). Contains cs m.base) (sym m.were)
    (Contains-append_left (m.front ++ m.base ∷ []) m.popped m.base (Contains-push m.front m.base))

merged-starts : (place : ℕ) (old new : List Component) (m : IsMerged place old new) → StartRising old
    → (c : Component) → Contains m.front c → c.start < m.base.start
merged-starts place old new m r c among =
    starts-last m.front m.base (starts-left (m.front ++ m.base ∷ []) m.popped (subst StartRising m.were r)) c among

pub merged : (at : SupersAt) (f : Marked) (path : List ℕ) (old new : List Component) (mid : List Task) (p above place : ℕ)
    → IsMerged place old new → f above ≡ Some (Open place) → IsWalking at f path old (mid ++ Look p above ∷ [])
    → IsWalking at f path new mid
merged at f path old new mid p above place m stands w =
    subst (λ (tasks : List Task). IsWalking at f path new tasks) (append-none mid)
    (removed at f path new mid [] p above known walking)
  where
    append-none : (xs : List Task) → xs ++ [] ≡ xs
    append-none [] = refl
    append-none (x ∷ xs) = ap (λ rest. x ∷ rest) (append-none xs)

    one : Component
    one = record { start = m.base.start; cyclic = true }

    has_one : Contains new (merged_of m.base)
    has_one = subst (λ (cs : List Component). Contains cs (merged_of m.base)) (sym m.are) (Contains-push m.front (merged_of m.base))

    front_less : (c : Component) → Contains m.front c → c.start < m.base.start
    front_less = merged-starts place old new m w.starts

    least : (d : Component) → Contains new d → d.start ≤ m.base.start
    least d among =
        ⊎_elim
        (λ front. let less = front_less d front.0 in omega arith)
        (λ same. let e : m.base.start ≡ d.start = ap (λ (k : Component). k.start) same in omega arith)
        (merged-back place old new m d among)

    same_start : (d : Component) → Contains new d → (c : Component) × Contains old c × (c.start ≡ d.start)
    same_start d among =
        ⊎_elim
        (λ front. (d, front.1, refl))
        (λ same. (m.base, merged-at place old new m, ap (λ (k : Component). k.start) same))
        (merged-back place old new m d among)

    highest : (c : Component) → Contains old c → c.start ≤ p
    highest = top at f path old mid (Look p above) w

    here : IsAt path place above
    here = w.open_are above place stands

    owner : (v : ℕ) × IsAt path p v
    owner = at-some path p (w.placed (Look p above) (Contains-push mid (Look p above)))

    step : IsSuperclass at owner.0 above
    step = w.steps p above owner.0 (Contains-push mid (Look p above)) owner.1

    -- each number that stands no lower than the last component reaches the owner of the task
    up : (i n : ℕ) → IsAt path i n → (n ≡ owner.0) ⊎ IsAncestor at n owner.0
    up i n is = w.reach i p n owner.0 is owner.1 (λ c among low high. let most = highest c among in omega arith)

    known : ((cyclic : Bool) × (f above ≡ Some (Done cyclic))) ⊎ IsAbove path new p above
    known = inr (record {
      stands = place;
      is = here;
      higher = inr (record {
        component = merged_of m.base;
        among = has_one;
        cyclic = refl;
        starts = m.starts;
        within = λ c among low high. let most = least c among in omega arith;
      });
    })

    reaches : (i q n k : ℕ) → IsAt path i n → IsAt path q k → HasNoStart new q i → (n ≡ k) ⊎ IsAncestor at n k
    reaches i q n k is also apart =
        ⊎_elim
        (λ below. w.reach i q n k is also (λ c among low high. ⊎_elim
        (λ kept. let e = kept.2 in apart kept.0 kept.1 (omega arith) (omega arith))
        (λ later. omega arith)
        (merged-forth place old new m c among)))
        (λ within. inr (joined at n owner.0 above k (up i n is) step
        (w.reach place q above k here also (λ c among low high. ⊎_elim
        (λ kept. let e = kept.2 in apart kept.0 kept.1 (omega arith) (omega arith))
        (λ later. omega arith)
        (merged-forth place old new m c among)))))
        (order-cases i place)

    down : (n : ℕ) → IsAt path m.base.start n → (above ≡ n) ⊎ IsAncestor at above n
    down n is = w.reach place m.base.start above n here is
        (λ c among low high. ⊎_elim
        (λ kept. let most = least kept.0 kept.1 in let e = kept.2 in omega arith)
        (λ later. omega arith)
        (merged-forth place old new m c among))

    in_cycle : (low high : ℕ) → IsInCycle old low high → IsInCycle new low high
    in_cycle low high cycle = by
        (Contains-append_cases (m.front ++ m.base ∷ []) m.popped cycle.component
        (subst (λ (cs : List Component). Contains cs cycle.component) m.were cycle.among))
      where
        at_one : m.base.start ≤ cycle.component.start → IsInCycle new low high
        at_one less = record {
          component = merged_of m.base;
          among = has_one;
          cyclic = refl;
          starts = let starts = cycle.starts in omega arith;
          within = λ c among l h. let most = least c among in omega arith;
        }

        by : Contains (m.front ++ m.base ∷ []) cycle.component ⊎ Contains m.popped cycle.component → IsInCycle new low high
        by (inl in') = ⊎_elim
            (λ front. record {
              component = cycle.component;
              among = subst (λ (cs : List Component). Contains cs cycle.component) (sym m.are)
                  (Contains-append_left m.front (merged_of m.base ∷ []) cycle.component front);
              cyclic = cycle.cyclic;
              starts = cycle.starts;
              within = λ d among l h. let was = same_start d among in let e = was.2 in cycle.within was.0 was.1 (omega arith) (omega arith);
            })
            (λ same. let e : m.base.start ≡ cycle.component.start = ap (λ (k : Component). k.start) same in at_one (omega arith))
            (Contains-push_cases m.front m.base cycle.component in')
        by (inr in') =
            let less : place < cycle.component.start =
            all-holds (λ (k : Component). place < k.start) m.popped cycle.component m.later in' in
            let starts = m.starts in at_one (omega arith)

    walking : IsWalking at f path new (mid ++ Look p above ∷ [])
    walking = record {
      open_are = w.open_are;
      are_open = w.are_open;
      first = λ some. let old_first = w.first some in ⊎_elim
          (λ kept. (kept.0, kept.1, kept.2 ∙ old_first.2))
          (λ later. let e = old_first.2 in absurd (omega arith))
          (merged-forth place old new m old_first.0 old_first.1);
      starts = subst StartRising (sym m.are)
          (starts-push m.front (merged_of m.base)
          (starts-left m.front (m.base ∷ []) (starts-left (m.front ++ m.base ∷ []) m.popped (subst StartRising m.were w.starts)))
          front_less);
      rising = w.rising;
      steps = w.steps;
      placed = w.placed;
      roots = λ d among. let was = same_start d among in
          subst (λ (i : ℕ). Contains (mid ++ Look p above ∷ []) (Leave i)) was.2 (w.roots was.0 was.1);
      reach = reaches;
      cycles = λ d n among is_cyclic is. ⊎_elim
          (λ front. w.cycles d n front.1 is_cyclic is)
          (λ same. let is_at : IsAt path m.base.start n =
          subst (λ (i : ℕ). IsAt path i n) (sym (ap (λ (k : Component). k.start) same)) is in
          joined at n owner.0 above n (up m.base.start n is_at) step (down n is_at))
          (merged-back place old new m d among);
      looked = λ i n x is step. ⊎_elim
          (λ among. inl among)
          (λ rest. ⊎_elim
          (λ done. inr (inl done))
          (λ higher. inr (inr (record {
            stands = higher.stands;
            is = higher.is;
            higher = ⊎_elim (λ later. inl later) (λ cycle. inr (in_cycle higher.stands i cycle)) higher.higher;
          })))
          rest)
          (w.looked i n x is step);
      closed = w.closed;
      true_cycles = w.true_cycles;
      false_cycles = w.false_cycles;
    }
