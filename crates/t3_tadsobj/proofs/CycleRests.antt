-- A walk over components from its start to its end, and how much is left of it.
use Rattle.std.proofs.Common.{◌≡◌, ℕ, zero, suc, ◌+◌, ◌<◌, ◌≤◌, Bool, true, false, true≢false, cond, eqb, ◌⊎◌, inl, inr, ⊎_elim, Option, Some, None, List, [], ◌∷◌, ◌++◌, length, map, sym, refl, ap, ◌∙◌, subst, arith, append_assoc, take, drop, get_or}
use Rattle.std.specs.Prelude.{IsSome, is_some}
use Rattle.std.specs.List.{AllByRecursion, list_any, Contains}
use Rattle.std.proofs.lemmas.List.{append-nil, length-append}
use Rattle.std.proofs.lemmas.List.Elements.{Contains-push, Contains-push_cases}
use Rattle.t3_tadsobj.specs.declared.cycles.Mark.{Mark}
use Rattle.t3_tadsobj.specs.declared.cycles.Mark.TheVariants.{Open, Done}
use Rattle.t3_tadsobj.specs.declared.cycles.Task.{Task}
use Rattle.t3_tadsobj.specs.declared.cycles.Task.TheVariants.{Look, Leave}
use Rattle.t3_tadsobj.specs.declared.cycles.Component.{Component}
use Rattle.t3_tadsobj.specs.Order.{SupersAt, IsAncestor}
use Rattle.t3_tadsobj.specs.Cycles.{HasNoCyclic, IsFirstAmong}
use Rattle.t3_tadsobj.specs.Inner.ComponentSteps.{Marked, mark_of, path_of, components_of, tasks_of, IsMerged, IsLeft}
use Rattle.t3_tadsobj.specs.Inner.ComponentWalk.{IsAt, IsWalking, IsAtRest}
use Rattle.t3_tadsobj.proofs.CycleLists.{all-holds, at-less, at-push, at-some, contains-cons, contains-none}
use Rattle.t3_tadsobj.proofs.CycleSteps.{top, joined, Sets, sets-new, IsKnown, removed, met-missing, met-live}
use Rattle.t3_tadsobj.proofs.CycleMerges.{merged}
use Rattle.t3_tadsobj.proofs.CycleEnds.{left-one}

-- ---- at rest

pub rest-begun : (at : SupersAt) (f : Marked) (path : List ℕ) (cs : List Component) (tasks : List Task) → ((n : ℕ) → f n ≡ None)
    → path ≡ [] → cs ≡ [] → tasks ≡ [] → IsAtRest at f path cs tasks
rest-begun at f path cs tasks unmarked no_path no_cs no_tasks =
    rw (no_path, no_cs, no_tasks) (record {
      rests = refl;
      walks = record {
        open_are = λ n p is. absurd (cc (unmarked n, is));
        are_open = λ n p is. absurd (cc is);
        first = λ some. absurd (omega arith);
        starts = tt;
        rising = tt;
        steps = λ p above n among is. absurd (contains-none (Look p above) among);
        placed = λ t among. absurd (contains-none t among);
        roots = λ c among. absurd (contains-none c among);
        reach = λ p q n m is also apart. absurd (cc is);
        cycles = λ c n among cyclic is. absurd (contains-none c among);
        looked = λ p n above is step. absurd (cc is);
        closed = λ n above cyclic is step. absurd (cc (unmarked n, is));
        true_cycles = λ n is. absurd (cc (unmarked n, is));
        false_cycles = λ n is walk. absurd (cc (unmarked n, is));
      };
    })

pub rest-none : (at : SupersAt) (f : Marked) (path : List ℕ) (cs : List Component) (tasks : List Task) → IsAtRest at f path cs tasks
    → (p n : ℕ) → IsAt path p n → ⊥
rest-none at f path cs tasks r p n is =
    let some = r.walks.first (let less = at-less path p n is in omega arith) in
    contains-none (Leave some.0.start) (subst (λ (ts : List Task). Contains ts (Leave some.0.start)) r.rests (r.walks.roots some.0 some.1))

none-left : (tasks : List Task) → length tasks ≡ 0 → tasks ≡ []
none-left [] is = refl
none-left (t ∷ tasks) is = absurd (omega arith)

pub rested : (at : SupersAt) (f : Marked) (path : List ℕ) (cs : List Component) (tasks : List Task) → length tasks ≡ 0
    → IsWalking at f path cs tasks → IsAtRest at f path cs tasks
rested at f path cs tasks none w = record { walks = w; rests = none-left tasks none }

-- ---- steps

pub met : (at : SupersAt) (f g : Marked) (path : List ℕ) (cs : List Component) (tasks : List Task) (n : ℕ)
    → f n ≡ None → Sets f g n (mark_of (length path) (at n)) → ((q m : ℕ) → IsAt path q m → IsAncestor at m n)
    → IsWalking at f path cs tasks
    → IsWalking at g (path ++ path_of n (at n)) (cs ++ components_of (length path) (at n)) (tasks ++ tasks_of (length path) (at n))
met at f g path cs tasks n none sets all w = by (at n) refl sets
  where
    by : (o : Option (List ℕ)) → at n ≡ o → Sets f g n (mark_of (length path) o)
        → IsWalking at g (path ++ path_of n o) (cs ++ components_of (length path) o) (tasks ++ tasks_of (length path) o)
    by None is sets = rw (append-nil path, append-nil cs, append-nil tasks) (met-missing at f g path cs tasks n none is sets w)
    by (Some supers) is sets = met-live at f g path cs tasks n supers none is sets all w

-- a superclass is met for the first time
pub met-above : (at : SupersAt) (f g : Marked) (path : List ℕ) (cs : List Component) (mid : List Task) (p n : ℕ)
    → f n ≡ None → Sets f g n (mark_of (length path) (at n)) → IsWalking at f path cs (mid ++ Look p n ∷ [])
    → IsWalking at g (path ++ path_of n (at n)) (cs ++ components_of (length path) (at n)) (mid ++ tasks_of (length path) (at n))
met-above at f g path cs mid p n none sets w =
    removed at g (path ++ path_of n (at n)) (cs ++ components_of (length path) (at n)) mid (tasks_of (length path) (at n)) p n
    (known (at n) sets)
    (subst (λ (ts : List Task). IsWalking at g (path ++ path_of n (at n)) (cs ++ components_of (length path) (at n)) ts)
    (append_assoc mid (Look p n ∷ []) (tasks_of (length path) (at n)))
    (met at f g path cs (mid ++ Look p n ∷ []) n none sets all w))
  where
    inside : p < length path
    inside = w.placed (Look p n) (Contains-push mid (Look p n))

    known : (o : Option (List ℕ)) → Sets f g n (mark_of (length path) o)
        → IsKnown g (path ++ path_of n o) (cs ++ components_of (length path) o) p n
    known None s = inl (false, sets-new f g n (Done false) s)
    known (Some supers) s = inr (record { stands = length path; is = at-push path n; higher = inl inside })

    owner : (v : ℕ) × IsAt path p v
    owner = at-some path p inside

    all : (q m : ℕ) → IsAt path q m → IsAncestor at m n
    all q m is = joined at m owner.0 n n
        (w.reach q p m owner.0 is owner.1 (λ c among low high. let most = top at f path cs mid (Look p n) w c among in omega arith))
        (w.steps p n owner.0 (Contains-push mid (Look p n)) owner.1) (inl refl)

-- or it is done already
pub met-done : (at : SupersAt) (f : Marked) (path : List ℕ) (cs : List Component) (mid : List Task) (p n : ℕ) (cyclic : Bool)
    → f n ≡ Some (Done cyclic) → IsWalking at f path cs (mid ++ Look p n ∷ []) → IsWalking at f path cs mid
met-done at f path cs mid p n cyclic done w =
    subst (λ (ts : List Task). IsWalking at f path cs ts) (append-nil mid) (removed at f path cs mid [] p n (inl (cyclic, done)) w)

-- ---- marks stay

pub sets-some : (f g : Marked) (n : ℕ) (mark : Mark) → Sets f g n mark → (m : ℕ) → IsSome (f m) → IsSome (g m)
sets-some f g n mark sets m some = subst (λ (o : Option Mark). IsSome o) (sym (sets m)) (by (eqb n m))
  where
    by : (b : Bool) → IsSome (cond b (Some mark) (f m))
    by true = refl
    by false = some

pub left-some : (p : ℕ) (old cs : List Component) (path new_path : List ℕ) (f g : Marked) → IsLeft p old cs path new_path f g
    → (m : ℕ) → IsSome (f m) → IsSome (g m)
left-some p old cs path new_path f g left m some =
    ⊎_elim
    (λ ends. subst (λ (o : Option Mark). IsSome o) (sym (ends.finished.marks m))
    (by (list_any (λ k. eqb m k) ends.finished.members) (Done ends.last.cyclic)))
    (λ nothing. subst (λ (h : Marked). IsSome (h m)) (sym nothing.marks_same) some)
    left
  where
    by : (b : Bool) (mark : Mark) → IsSome (cond b (Some mark) (f m))
    by true mark = refl
    by false mark = some

-- ---- how much is left

abbrev weight : Option Mark → Option (List ℕ) → ℕ
weight (Some mark) o = 0
weight None None = 0
weight None (Some supers) = 1 + length supers

-- how many tasks can still come of the numbers that weren't met
abbrev pub left : SupersAt → Marked → List ℕ → ℕ
left at f [] = 0
left at f (m ∷ ms) = weight (f m) (at m) + left at f ms

weight-fewer : (a b : Option Mark) (o : Option (List ℕ)) → (IsSome a → IsSome b) → weight b o ≤ weight a o
weight-fewer (Some a) (Some b) o more = omega arith
weight-fewer (Some a) None o more = absurd (true≢false (sym (more refl)))
weight-fewer None (Some b) o more = omega arith
weight-fewer None None o more = omega arith

pub left-fewer : (at : SupersAt) (f g : Marked) → ((m : ℕ) → IsSome (f m) → IsSome (g m)) → (ms : List ℕ) → left at g ms ≤ left at f ms
left-fewer at f g more [] = omega arith
left-fewer at f g more (m ∷ ms) = omega (arith, left-fewer at f g more ms, weight-fewer (f m) (g m) (at m) (more m))

left-less : (at : SupersAt) (f g : Marked) (n : ℕ) (mark : Mark) (supers : List ℕ) → f n ≡ None → at n ≡ Some supers → Sets f g n mark
    → (ms : List ℕ) → Contains ms n → left at g ms + (1 + length supers) ≤ left at f ms
left-less at f g n mark supers none live sets [] among = absurd (contains-none n among)
left-less at f g n mark supers none live sets (m ∷ ms) among =
    ⊎_elim
    (λ same. subst (λ (k : ℕ). left at g (k ∷ ms) + (1 + length supers) ≤ left at f (k ∷ ms)) (sym same) here)
    (λ later. omega (
      arith,
      left-less at f g n mark supers none live sets ms later,
      weight-fewer (f m) (g m) (at m) (sets-some f g n mark sets m),
    ))
    (contains-cons m ms n among)
  where
    here : left at g (n ∷ ms) + (1 + length supers) ≤ left at f (n ∷ ms)
    here = rw (none, live, sets-new f g n mark sets) (omega (arith, left-fewer at f g (sets-some f g n mark sets) ms))

length-looks : (place : ℕ) (supers : List ℕ) → length (map (Look place) supers) ≡ length supers
length-looks place [] = refl
length-looks place (s ∷ supers) = omega (arith, length-looks place supers)

pub met-less : (at : SupersAt) (f g : Marked) (numbers : List ℕ) (place n : ℕ) (mid old new : List Task) (t : Task)
    → ((m : ℕ) → IsSome (at m) → Contains numbers m) → f n ≡ None → Sets f g n (mark_of place (at n))
    → old ≡ mid ++ t ∷ [] → new ≡ mid ++ tasks_of place (at n)
    → length new + left at g numbers < length old + left at f numbers
met-less at f g numbers place n mid old new t covers none sets was is = rw (was, is) (by (at n) refl sets)
  where
    by : (o : Option (List ℕ)) → at n ≡ o → Sets f g n (mark_of place o)
        → length (mid ++ tasks_of place o) + left at g numbers < length (mid ++ t ∷ []) + left at f numbers
    by None e s = omega (
      arith,
      length-append mid (t ∷ []),
      length-append mid (tasks_of place None),
      left-fewer at f g (sets-some f g n (mark_of place None) s) numbers,
    )
    by (Some supers) e s = omega (
      arith,
      length-append mid (t ∷ []),
      length-append mid (tasks_of place (Some supers)),
      length-looks place supers,
      left-less at f g n (mark_of place (Some supers)) supers none e s numbers (covers n (ap is_some e)),
    )

pub fewer-less : (at : SupersAt) (f g : Marked) (numbers : List ℕ) (mid old new : List Task) (t : Task)
    → ((m : ℕ) → IsSome (f m) → IsSome (g m)) → old ≡ mid ++ t ∷ [] → new ≡ mid
    → length new + left at g numbers < length old + left at f numbers
fewer-less at f g numbers mid old new t more was is =
    rw (was, is) (omega (arith, length-append mid (t ∷ []), left-fewer at f g more numbers))

-- ---- what is told

some-is : (o : Option Mark) → IsSome o → (mark : Mark) × (o ≡ Some mark)
some-is (Some mark) some = (mark, refl)
some-is None some = absurd (true≢false (sym some))

pub tells : (at : SupersAt) (f : Marked) (path : List ℕ) (cs : List Component) (tasks : List Task) (n : ℕ) (cyclic : Bool)
    → IsAtRest at f path cs tasks → f n ≡ Some (Done cyclic) → (cyclic ≡ true → IsAncestor at n n) × (IsAncestor at n n → cyclic ≡ true)
tells at f path cs tasks n true r is = (λ yes. r.walks.true_cycles n is, λ walk. refl)
tells at f path cs tasks n false r is = (λ yes. absurd (true≢false (sym yes)), λ walk. absurd (r.walks.false_cycles n is walk))

pub not-open : (at : SupersAt) (f : Marked) (path : List ℕ) (cs : List Component) (tasks : List Task) (n p : ℕ)
    → IsAtRest at f path cs tasks → f n ≡ Some (Open p) → ⊥
not-open at f path cs tasks n p r is = rest-none at f path cs tasks r p n (r.walks.open_are n p is)

-- ---- the steps, by what the functions say

pub step-begun : (at : SupersAt) (f g : Marked) (path new_path : List ℕ) (cs new_cs : List Component) (tasks new : List Task) (n : ℕ)
    → f n ≡ None → Sets f g n (mark_of (length path) (at n)) → new_path ≡ path ++ path_of n (at n)
    → new_cs ≡ cs ++ components_of (length path) (at n) → new ≡ tasks ++ tasks_of (length path) (at n)
    → IsAtRest at f path cs tasks → IsWalking at g new_path new_cs new × IsSome (g n)
step-begun at f g path new_path cs new_cs tasks new n none sets path_is cs_is tasks_is r = (
  rw (path_is, cs_is, tasks_is)
      (met at f g path cs tasks n none sets (λ q m is. absurd (rest-none at f path cs tasks r q m is)) r.walks),
  ap is_some (sets-new f g n (mark_of (length path) (at n)) sets),
)

pub step-met : (at : SupersAt) (f g : Marked) (path new_path : List ℕ) (cs new_cs : List Component) (old mid new : List Task) (p n root : ℕ)
    → f n ≡ None → Sets f g n (mark_of (length path) (at n)) → old ≡ mid ++ Look p n ∷ [] → new_path ≡ path ++ path_of n (at n)
    → new_cs ≡ cs ++ components_of (length path) (at n) → new ≡ mid ++ tasks_of (length path) (at n)
    → IsWalking at f path cs old × IsSome (f root) → IsWalking at g new_path new_cs new × IsSome (g root)
step-met at f g path new_path cs new_cs old mid new p n root none sets was path_is cs_is tasks_is w = (
  rw (path_is, cs_is, tasks_is)
      (met-above at f g path cs mid p n none sets (subst (λ (ts : List Task). IsWalking at f path cs ts) was w.0)),
  sets-some f g n (mark_of (length path) (at n)) sets root w.1,
)

pub step-merged : (at : SupersAt) (f : Marked) (path : List ℕ) (cs new_cs : List Component) (old mid : List Task) (p n place root : ℕ)
    → f n ≡ Some (Open place) → old ≡ mid ++ Look p n ∷ []
    → IsMerged place cs new_cs ⊎ AllByRecursion (λ c. place < c.start) cs
    → IsWalking at f path cs old × IsSome (f root) → IsWalking at f path new_cs mid × IsSome (f root)
step-merged at f path cs new_cs old mid p n place root is was either w = (
  ⊎_elim
      (λ m. merged at f path cs new_cs mid p n place m is (subst (λ (ts : List Task). IsWalking at f path cs ts) was w.0))
      (λ all. absurd (none all))
      either,
  w.1,
)
  where
    none : AllByRecursion (λ c. place < c.start) cs → ⊥
    none all =
        let some = w.0.first (let less = at-less path place n (w.0.open_are n place is) in omega arith) in
        let less : place < some.0.start = all-holds (λ (c : Component). place < c.start) cs some.0 all some.1 in
        let e = some.2 in omega arith

pub step-done : (at : SupersAt) (f : Marked) (path : List ℕ) (cs : List Component) (old mid : List Task) (p n root : ℕ) (cyclic : Bool)
    → f n ≡ Some (Done cyclic) → old ≡ mid ++ Look p n ∷ []
    → IsWalking at f path cs old × IsSome (f root) → IsWalking at f path cs mid × IsSome (f root)
step-done at f path cs old mid p n root cyclic is was w =
    (met-done at f path cs mid p n cyclic is (subst (λ (ts : List Task). IsWalking at f path cs ts) was w.0), w.1)

pub step-left : (at : SupersAt) (f g : Marked) (path new_path : List ℕ) (cs new_cs : List Component) (old mid new : List Task) (p root : ℕ)
    → IsLeft p cs new_cs path new_path f g → old ≡ mid ++ Leave p ∷ [] → new ≡ mid
    → IsWalking at f path cs old × IsSome (f root) → IsWalking at g new_path new_cs new × IsSome (g root)
step-left at f g path new_path cs new_cs old mid new p root left was is w = (
  rw is (left-one at f g path new_path cs new_cs mid p left (subst (λ (ts : List Task). IsWalking at f path cs ts) was w.0)),
  left-some p cs new_cs path new_path f g left root w.1,
)

-- ---- a list of numbers

take-one : (xs : List ℕ) (i : ℕ) → i < length xs → take (suc i) xs ≡ take i xs ++ get_or xs i 0 ∷ []
take-one [] i less = absurd (omega arith)
take-one (x ∷ xs) zero less = refl
take-one (x ∷ xs) (suc i) less = ap (λ (ys : List ℕ). x ∷ ys) (take-one xs i (omega arith))

split-one : (xs : List ℕ) (i : ℕ) → i < length xs → xs ≡ take i xs ++ get_or xs i 0 ∷ drop (suc i) xs
split-one [] i less = absurd (omega arith)
split-one (x ∷ xs) zero less = refl
split-one (x ∷ xs) (suc i) less = ap (λ (ys : List ℕ). x ∷ ys) (split-one xs i (omega arith))

take-none-left : (xs : List ℕ) (i : ℕ) → length xs ≤ i → take i xs ≡ xs
take-none-left [] zero more = refl
take-none-left [] (suc i) more = refl
take-none-left (x ∷ xs) zero more = absurd (omega arith)
take-none-left (x ∷ xs) (suc i) more = ap (λ (ys : List ℕ). x ∷ ys) (take-none-left xs i (omega arith))

pub none-more : (at : SupersAt) (xs : List ℕ) (i j : ℕ) → i < length xs → j ≡ suc i → HasNoCyclic at (take i xs)
    → ¬ IsAncestor at (get_or xs i 0) (get_or xs i 0) → HasNoCyclic at (take j xs)
none-more at xs i j less is none not_it = λ n among walk.
    ⊎_elim
    (λ before. none n before walk)
    (λ same. not_it (subst (λ (k : ℕ). IsAncestor at k k) (sym same) walk))
    (Contains-push_cases (take i xs) (get_or xs i 0) n
    (subst (λ (ys : List ℕ). Contains ys n) (ap (λ k. take k xs) is ∙ take-one xs i less) among))

pub none-at-all : (at : SupersAt) (xs : List ℕ) (i : ℕ) → length xs ≤ i → HasNoCyclic at (take i xs) → HasNoCyclic at xs
none-at-all at xs i more none = subst (λ (ys : List ℕ). HasNoCyclic at ys) (take-none-left xs i more) none

pub first-found : (at : SupersAt) (xs : List ℕ) (i : ℕ) → i < length xs → HasNoCyclic at (take i xs)
    → IsAncestor at (get_or xs i 0) (get_or xs i 0) → IsFirstAmong at xs (get_or xs i 0)
first-found at xs i less none walk = record {
  before = take i xs;
  after = drop (suc i) xs;
  are = split-one xs i less;
  none_before = none;
  itself = walk;
}
