-- The lists of a walk over components: places, and what merging and finishing take off.
use Rattle.std.proofs.Common.{◌≡◌, ℕ, zero, suc, ◌<◌, ◌≤◌, true, cond, eqb, ◌⊎◌, inl, inr, ⊎_elim, Some, List, [], ◌∷◌, ◌++◌, length, sym, refl, ap, ◌∙◌, subst, arith, append_assoc}
use Rattle.std.specs.List.{AllByRecursion, list_any, Contains}
use Rattle.std.proofs.lemmas.List.{append-nil, length-append}
use Rattle.t3_tadsobj.specs.declared.cycles.Mark.TheVariants.{Done}
use Rattle.t3_tadsobj.specs.declared.cycles.Task.{Task}
use Rattle.t3_tadsobj.specs.declared.cycles.Component.{Component}
use Rattle.t3_tadsobj.specs.Inner.ComponentSteps.{Marked, IsMerged, IsFinished}
use Rattle.t3_tadsobj.specs.Inner.ComponentWalk.{IsAt, StartRising, AreRising, place_of, limit_of}
use Rattle.t3_tadsobj.proofs.OrderMembers.{Has, Has-here, Has-there, Has-cases, both, left_of, right_of, each}
use Rattle.std.proofs.lemmas.List.Elements.{Contains-append_right}

-- ---- places

pub at-less : (xs : List ℕ) (p n : ℕ) → IsAt xs p n → p < length xs
at-less [] p n is = absurd cc
at-less (x ∷ xs) zero n is = omega arith
at-less (x ∷ xs) (suc p) n is = omega (arith, at-less xs p n is)

pub at-left : (xs ys : List ℕ) (p n : ℕ) → IsAt xs p n → IsAt (xs ++ ys) p n
at-left [] ys p n is = absurd cc
at-left (x ∷ xs) ys zero n is = is
at-left (x ∷ xs) ys (suc p) n is = at-left xs ys p n is

pub at-has : (xs : List ℕ) (p n : ℕ) → IsAt xs p n → Has xs n
at-has [] p n is = absurd cc
at-has (x ∷ xs) zero n is = let same : x ≡ n = cc in subst (λ (k : ℕ). Has (x ∷ xs) k) same (Has-here x xs)
at-has (x ∷ xs) (suc p) n is = Has-there x n xs (at-has xs p n is)

pub at-cases : (xs ys : List ℕ) (p n : ℕ) → IsAt (xs ++ ys) p n → IsAt xs p n ⊎ ((length xs ≤ p) × Has ys n)
at-cases [] ys p n is = inr (omega arith, at-has ys p n is)
at-cases (x ∷ xs) ys zero n is = inl is
at-cases (x ∷ xs) ys (suc p) n is =
    ⊎_elim (λ left. inl left) (λ right. let less = right.0 in inr (omega arith, right.1)) (at-cases xs ys p n is)

pub has-at : (xs : List ℕ) (n : ℕ) → Has xs n → (p : ℕ) × IsAt xs p n
has-at [] n has = absurd cc
has-at (x ∷ xs) n has =
    ⊎_elim (λ same. (0, ap Some (sym same))) (λ later. let found = has-at xs n later in (suc found.0, found.1)) (Has-cases x n xs has)

pub at-right : (xs ys : List ℕ) (n : ℕ) → Has ys n → (p : ℕ) × (length xs ≤ p) × IsAt (xs ++ ys) p n
at-right [] ys n has = let found = has-at ys n has in (found.0, omega arith, found.1)
at-right (x ∷ xs) ys n has = let found = at-right xs ys n has in let less = found.1 in (suc found.0, omega arith, found.2)

pub at-some : (xs : List ℕ) (p : ℕ) → p < length xs → (n : ℕ) × IsAt xs p n
at-some [] p less = absurd (omega arith)
at-some (x ∷ xs) zero less = (x, refl)
at-some (x ∷ xs) (suc p) less = at-some xs p (omega arith)

pub at-push : (xs : List ℕ) (x : ℕ) → IsAt (xs ++ x ∷ []) (length xs) x
at-push [] x = refl
at-push (y ∷ xs) x = at-push xs x

-- ---- members

pub contains-cons : {X : Type 0} (x : X) (xs : List X) (y : X) → Contains (x ∷ xs) y → (x ≡ y) ⊎ Contains xs y
contains-cons x xs y (zero, less, is) = inl is
contains-cons x xs y (suc k, less, is) = inr (k, omega arith, is)

pub contains-none : {X : Type 0} (y : X) → Contains [] y → ⊥
contains-none y (k, less, is) = omega arith

pub contains-first : {X : Type 0} (x : X) (xs : List X) → Contains (x ∷ xs) x
contains-first x xs = (0, omega arith, refl)

pub all-holds : {X : Type 0} (P : X → Type 0) (xs : List X) (x : X) → AllByRecursion P xs → Contains xs x → P x
all-holds P [] x all among = absurd (contains-none x among)
all-holds P (y ∷ xs) x all among =
    ⊎_elim (λ same. subst P same all.0) (λ later. all-holds P xs x all.1 later) (contains-cons y xs x among)

-- ---- rising places

pub rising-append : (a b : List Task) → AreRising a → AreRising b
    → ((t u : Task) → Contains a t → Contains b u → place_of t < limit_of u) → AreRising (a ++ b)
rising-append [] b left right between = right
rising-append (t ∷ a) b left right between = (
  both (λ u. place_of t < limit_of u) a b left.0
      (each (λ u. place_of t < limit_of u) b (λ u among. between t u (contains-first t a) among)),
  rising-append a b left.1 right (λ x u among also. between x u (Contains-append_right (t ∷ []) a x among) also),
)

pub rising-left : (a b : List Task) → AreRising (a ++ b) → AreRising a
rising-left [] b r = tt
rising-left (t ∷ a) b r = (left_of (λ u. place_of t < limit_of u) a b r.0, rising-left a b r.1)

pub rising-without : (a : List Task) (t : Task) (b : List Task) → AreRising (a ++ t ∷ b) → AreRising (a ++ b)
rising-without [] t b r = r.1
rising-without (x ∷ a) t b r = (
  both (λ u. place_of x < limit_of u) a b
      (left_of (λ u. place_of x < limit_of u) a (t ∷ b) r.0)
      (right_of (λ u. place_of x < limit_of u) a (t ∷ b) r.0).1,
  rising-without a t b r.1,
)

pub rising-last : (mid : List Task) (t u : Task) → AreRising (mid ++ t ∷ []) → Contains mid u → place_of u < limit_of t
rising-last [] t u r among = absurd (contains-none u among)
rising-last (x ∷ mid) t u r among =
    ⊎_elim
    (λ same. subst (λ (k : Task). place_of k < limit_of t) same (right_of (λ v. place_of x < limit_of v) mid (t ∷ []) r.0).0)
    (λ later. rising-last mid t u r.1 later)
    (contains-cons x mid u among)

pub starts-push : (cs : List Component) (x : Component) → StartRising cs → ((c : Component) → Contains cs c → c.start < x.start)
    → StartRising (cs ++ x ∷ [])
starts-push [] x r less = (tt, tt)
starts-push (c ∷ cs) x r less = (
  both (λ later. c.start < later.start) cs (x ∷ []) r.0 (less c (contains-first c cs), tt),
  starts-push cs x r.1 (λ d among. less d (Contains-append_right (c ∷ []) cs d among)),
)

pub starts-left : (a b : List Component) → StartRising (a ++ b) → StartRising a
starts-left [] b r = tt
starts-left (c ∷ a) b r = (left_of (λ later. c.start < later.start) a b r.0, starts-left a b r.1)

pub starts-last : (front : List Component) (x : Component) → StartRising (front ++ x ∷ []) → (c : Component) → Contains front c
    → c.start < x.start
starts-last [] x r c among = absurd (contains-none c among)
starts-last (d ∷ front) x r c among =
    ⊎_elim
    (λ same. subst (λ (k : Component). k.start < x.start) same (right_of (λ later. d.start < later.start) front (x ∷ []) r.0).0)
    (λ later. starts-last front x r.1 c later)
    (contains-cons d front c among)

-- ---- what was merged so far

pub record IsMerging (place : ℕ) (old new : List Component) : Type 0 where
  pub popped : List Component
  pub were : old ≡ new ++ popped
  pub later : AllByRecursion (λ c. place < c.start) popped

pub merging-begun : (place : ℕ) (old : List Component) → IsMerging place old old
merging-begun place old = record { popped = []; were = sym (append-nil old); later = tt }

pub merging-on : (place : ℕ) (old mid new : List Component) (last : Component) → mid ≡ new ++ last ∷ [] → place < last.start
    → IsMerging place old mid → IsMerging place old new
merging-on place old mid new last was less m = record {
  popped = last ∷ m.popped;
  were = m.were ∙ ap (λ (cs : List Component). cs ++ m.popped) was ∙ append_assoc new (last ∷ []) m.popped;
  later = (less, m.later);
}

pub merging-found : (place : ℕ) (old mid new : List Component) (last : Component) → mid ≡ new ++ last ∷ [] → last.start ≤ place
    → IsMerging place old mid → IsMerged place old (new ++ record { start = last.start; cyclic = true } ∷ [])
merging-found place old mid new last was less m = record {
  front = new;
  base = last;
  popped = m.popped;
  were = m.were ∙ ap (λ (cs : List Component). cs ++ m.popped) was;
  are = refl;
  starts = less;
  later = m.later;
}

none-left : {X : Type 0} (xs : List X) → length xs ≡ 0 → xs ≡ []
none-left [] is = refl
none-left (x ∷ xs) is = absurd (omega arith)

pub merging-none : (place : ℕ) (old new : List Component) → length new ≡ 0 → IsMerging place old new
    → AllByRecursion (λ c. place < c.start) old
merging-none place old new none m = rw (m.were, none-left new none) m.later

-- ---- what was finished so far

pub record IsFinishing (last : Component) (path new_path : List ℕ) (old new : Marked) (cs new_cs : List Component)
    (ts new_ts : List Task) : Type 0 where
  pub members : List ℕ
  pub was : path ≡ new_path ++ members
  pub size : last.start ≤ length path → last.start ≤ length new_path
  pub marks : (n : ℕ) → new n ≡ cond (list_any (λ m. eqb n m) members) (Some (Done last.cyclic)) (old n)
  pub components : new_cs ≡ cs
  pub tasks : new_ts ≡ ts

pub finishing-begun : (last : Component) (path : List ℕ) (f : Marked) (cs : List Component) (ts : List Task)
    → IsFinishing last path path f f cs cs ts ts
finishing-begun last path f cs ts = record {
  members = [];
  was = sym (append-nil path);
  size = λ less. less;
  marks = λ n. refl;
  components = refl;
  tasks = refl;
}

pub finishing-on : (last : Component) (n : ℕ) (path mid new_path : List ℕ) (old f new : Marked)
    (cs new_cs : List Component) (ts new_ts : List Task)
    → mid ≡ new_path ++ n ∷ [] → last.start < length mid → ((m : ℕ) → new m ≡ cond (eqb n m) (Some (Done last.cyclic)) (f m))
    → IsFinishing last path mid old f cs new_cs ts new_ts → IsFinishing last path new_path old new cs new_cs ts new_ts
finishing-on last n path mid new_path old f new cs new_cs ts new_ts was less sets fin = record {
  members = n ∷ fin.members;
  was = fin.was ∙ ap (λ (xs : List ℕ). xs ++ fin.members) was ∙ append_assoc new_path (n ∷ []) fin.members;
  size = λ within. omega (arith, less, ap (λ (xs : List ℕ). length xs) was, length-append new_path (n ∷ []));
  marks = λ m. sets m ∙ marked m;
  components = fin.components;
  tasks = fin.tasks;
}
  where
    marked : (m : ℕ) → cond (eqb n m) (Some (Done last.cyclic)) (f m)
        ≡ cond (list_any (λ k. eqb m k) (n ∷ fin.members)) (Some (Done last.cyclic)) (old m)
    marked m = grind (arith, fin.marks m)

pub finishing-done : (last : Component) (path new_path : List ℕ) (old new : Marked) (cs new_cs : List Component) (ts new_ts : List Task)
    → length new_path ≤ last.start
    → IsFinishing last path new_path old new cs new_cs ts new_ts → IsFinished last path new_path old new
finishing-done last path new_path old new cs new_cs ts new_ts less fin = record {
  members = fin.members;
  was = fin.was;
  size = λ within. let more = fin.size within in omega arith;
  marks = fin.marks;
}
