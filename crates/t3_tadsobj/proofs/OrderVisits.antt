-- The tasks of a walk: the list that they still stand for, and how much work they are.
use Rattle.std.proofs.Common.{◌≡◌, ℕ, zero, suc, ◌+◌, ◌<◌, true, false, cond, eqb, inr, ⊎_elim, Option, Some, None, List, [], ◌∷◌, ◌++◌, map, reverse, sym, refl, ap, ◌∙◌, subst, arith, append_assoc}
use Rattle.std.specs.List.{AllByRecursion, flat_map, list_any}
use Rattle.std.proofs.lemmas.List.Concat.{flat_map-append}
use Rattle.std.proofs.lemmas.List.{append-nil, reverse-append}
use Rattle.std.proofs.lemmas.Bool.{eq-eqb}
use Rattle.std.proofs.lemmas.Bool.Decides.{eqb_tells}
use Rattle.t3_tadsobj.specs.declared.order.Task.{Task}
use Rattle.t3_tadsobj.specs.declared.order.Task.TheVariants.{Enter, Leave}
use Rattle.t3_tadsobj.specs.Order.{SupersAt, preorder, last_places, IsLinearOrder}
use Rattle.t3_tadsobj.specs.Inner.Visits.{entered}
use Rattle.t3_tadsobj.proofs.OrderMembers.{Has, weaker, both, left_of, right_of, last_places-again, last_places-new}
use Rattle.t3_tadsobj.proofs.OrderDepth.{EndsWithin, superclasses_end, preorder-live, preorder-missing, is_preorder}
use Rattle.t3_tadsobj.proofs.OrderClosed.{end_is_closed, has_preorder}

-- ---- work

abbrev pub total : {X : Type 0} → (X → ℕ) → List X → ℕ
total f [] = 0
total f (x ∷ xs) = f x + total f xs

total-append : {X : Type 0} (f : X → ℕ) (xs ys : List X) → total f (xs ++ ys) ≡ total f xs + total f ys
total-append f [] ys = omega arith
total-append f (x ∷ xs) ys = omega (arith, total-append f xs ys)

abbrev work_from : (ℕ → ℕ) → Option (List ℕ) → ℕ
work_from f None = 1
work_from f (Some supers) = 2 + total f supers

-- how many tasks come of entering a number, down to a depth
unfoldable pub work : SupersAt → ℕ → ℕ → ℕ
work at zero n = 1
work at (suc depth) n = work_from (work at depth) (at n)

abbrev pub work_of : SupersAt → ℕ → Task → ℕ
work_of at depth (Enter n) = work at depth n
work_of at depth (Leave n) = 1

total-same : (f g : ℕ → ℕ) (xs : List ℕ) → AllByRecursion (λ x. f x ≡ g x) xs → total f xs ≡ total g xs
total-same f g [] all = refl
total-same f g (x ∷ xs) all = omega (arith, all.0, total-same f g xs all.1)

work_from-same : (f g : ℕ → ℕ) (o : Option (List ℕ)) → ((supers : List ℕ) → o ≡ Some supers → AllByRecursion (λ x. f x ≡ g x) supers)
    → work_from f o ≡ work_from g o
work_from-same f g None same = refl
work_from-same f g (Some supers) same = ap (λ w. 2 + w) (total-same f g supers (same supers refl))

work-deeper : (at : SupersAt) (depth n : ℕ) → EndsWithin at depth n → work at (suc depth) n ≡ work at depth n
unfolding work
work-deeper at zero n ends = rw ends refl
work-deeper at (suc depth) n ends =
    work_from-same (work at (suc depth)) (work at depth) (at n)
    (λ supers is. weaker (EndsWithin at depth) (λ x. work at (suc depth) x ≡ work at depth x) (work-deeper at depth) supers
    (ends supers is))

work_once : (at : SupersAt) (depth n : ℕ) (supers : List ℕ) → at n ≡ Some supers → work at (suc depth) n ≡ 2 + total (work at depth) supers
unfolding work
work_once at depth n supers is = rw is refl

work-live : (at : SupersAt) (depth n : ℕ) (supers : List ℕ) → EndsWithin at depth n → at n ≡ Some supers
    → work at depth n ≡ 2 + total (work at depth) supers
work-live at depth n supers ends is = sym (work-deeper at depth n ends) ∙ work_once at depth n supers is

work_from-some : (f : ℕ → ℕ) (o : Option (List ℕ)) → 0 < work_from f o
work_from-some f None = omega arith
work_from-some f (Some supers) = omega arith

work-some : (at : SupersAt) (depth n : ℕ) → 0 < work at depth n
unfolding work
work-some at zero n = omega arith
work-some at (suc depth) n = work_from-some (work at depth) (at n)

total-entered : (at : SupersAt) (depth : ℕ) (supers : List ℕ) → total (work_of at depth) (map Enter supers) ≡ total (work at depth) supers
total-entered at depth [] = refl
total-entered at depth (n ∷ supers) = ap (λ w. work at depth n + w) (total-entered at depth supers)

work-entered : (at : SupersAt) (depth n : ℕ) → EndsWithin at depth n → (o : Option (List ℕ)) → at n ≡ o
    → total (work_of at depth) (entered n o) < work at depth n
work-entered at depth n ends None is = work-some at depth n
work-entered at depth n ends (Some supers) is = omega (arith, work-live at depth n supers ends is, total-entered at depth supers)

-- entering a number leaves less work
pub work-smaller : (at : SupersAt) (depth n : ℕ) (old mid new : List Task) → EndsWithin at depth n → old ≡ mid ++ Enter n ∷ []
    → new ≡ mid ++ entered n (at n) → total (work_of at depth) new < total (work_of at depth) old
work-smaller at depth n old mid new ends was is =
    rw (was, is) (omega (
      arith,
      total-append (work_of at depth) mid (Enter n ∷ []),
      total-append (work_of at depth) mid
          (entered n (at n)),
      work-entered at depth n ends (at n) refl,
    ))

work_of-some : (at : SupersAt) (depth : ℕ) (task : Task) → 0 < work_of at depth task
work_of-some at depth (Enter n) = work-some at depth n
work_of-some at depth (Leave n) = omega arith

-- so does leaving a task out
pub work-fewer : (at : SupersAt) (depth : ℕ) (task : Task) (old mid : List Task) → old ≡ mid ++ task ∷ []
    → total (work_of at depth) mid < total (work_of at depth) old
work-fewer at depth task old mid was = rw was (omega (arith, total-append (work_of at depth) mid (task ∷ []), work_of-some at depth task))

-- ---- what is left to do

-- the part of the preorder list that a task stands for
abbrev pub list_of : SupersAt → ℕ → Task → List ℕ
list_of at depth (Enter n) = preorder at depth n
list_of at depth (Leave n) = n ∷ []

abbrev pub lists_of : SupersAt → ℕ → List Task → List ℕ
lists_of at depth tasks = flat_map (list_of at depth) tasks

abbrev pub IsGood : SupersAt → ℕ → Task → Type 0
IsGood at depth (Enter n) = EndsWithin at depth n
IsGood at depth (Leave n) = Unit {0}

-- a walk: the tasks stand for the prefix of the preorder list, and of its end each number is in the order already
pub record IsWalking (at : SupersAt) (depth root : ℕ) (tasks : List Task) (order seen : List ℕ) : Type 0 where
  pub end : List ℕ
  pub ends : EndsWithin at depth root
  pub is : preorder at depth root ≡ lists_of at depth tasks ++ end
  pub order_is : reverse order ≡ last_places end
  pub seen_is : (m : ℕ) → list_any (λ k. eqb m k) seen ≡ list_any (λ k. eqb m k) end
  pub good : AllByRecursion (IsGood at depth) tasks

lists-entered : (at : SupersAt) (depth : ℕ) (supers : List ℕ) → lists_of at depth (map Enter supers) ≡ flat_map (preorder at depth) supers
lists-entered at depth [] = refl
lists-entered at depth (n ∷ supers) = ap (λ list. preorder at depth n ++ list) (lists-entered at depth supers)

list-entered : (at : SupersAt) (depth n : ℕ) → EndsWithin at depth n → (o : Option (List ℕ)) → at n ≡ o
    → lists_of at depth (entered n o) ≡ preorder at depth n
list-entered at depth n ends None is = sym (preorder-missing at depth n is)
list-entered at depth n ends (Some supers) is = ap (λ list. n ∷ list) (lists-entered at depth supers)
    ∙ sym (preorder-live at depth n supers ends is)

good-supers : (at : SupersAt) (depth : ℕ) (supers : List ℕ) → AllByRecursion (EndsWithin at depth) supers
    → AllByRecursion (IsGood at depth) (map Enter supers)
good-supers at depth [] all = tt
good-supers at depth (n ∷ supers) all = (all.0, good-supers at depth supers all.1)

good-entered : (at : SupersAt) (depth n : ℕ) → EndsWithin at depth n → (o : Option (List ℕ)) → at n ≡ o
    → AllByRecursion (IsGood at depth) (entered n o)
good-entered at depth n ends None is = tt
good-entered at depth n ends (Some supers) is = (tt, good-supers at depth supers (superclasses_end at depth n supers ends is))

-- the last task and those before it
before_last : (at : SupersAt) (depth : ℕ) (old mid : List Task) (task : Task) (end : List ℕ) → old ≡ mid ++ task ∷ []
    → lists_of at depth old ++ end ≡ lists_of at depth mid ++ (list_of at depth task ++ end)
before_last at depth old mid task end was =
    rw (
      was,
      flat_map-append (list_of at depth) mid (task ∷ []),
      append-nil (list_of at depth task),
      append_assoc
          (lists_of at depth mid) (list_of at depth task) end,
    ) refl

-- ---- the steps of a walk

-- numbers that are there already change nothing
same_has : (m : ℕ) (xs list : List ℕ) → AllByRecursion (Has list) xs → list_any (λ k. eqb m k) list ≡ list_any (λ k. eqb m k) (xs ++ list)
same_has m [] list all = refl
same_has m (x ∷ xs) list all =
    ⊎_elim
    (λ same. rw same.0 (subst (λ (k : ℕ). Has list k) (sym same.1) all.0))
    (λ other. rw other.0 (same_has m xs list all.1))
    (eqb_tells m x)

added_has : (n m : ℕ) (seen end : List ℕ) → list_any (λ k. eqb m k) seen ≡ list_any (λ k. eqb m k) end
    → cond (eqb n m) true (list_any (λ k. eqb m k) seen) ≡ list_any (λ k. eqb m k) (n ∷ end)
added_has n m seen end is =
    ⊎_elim
    (λ same. rw (same.0, eq-eqb m n (sym same.1)) refl)
    (λ other. ⊎_elim (λ same. absurd (other.1 (sym same.1))) (λ differ. rw (other.0, differ.0) is) (eqb_tells m n))
    (eqb_tells n m)

pub walk_begun : (at : SupersAt) (depth root : ℕ) (tasks : List Task) (order seen : List ℕ) → EndsWithin at depth root
    → tasks ≡ Enter root ∷ [] → order ≡ [] → seen ≡ [] → IsWalking at depth root tasks order seen
walk_begun at depth root tasks order seen ends is empty none = record {
  end = [];
  ends = ends;
  is = rw is (sym (append-nil (preorder at depth root ++ []) ∙ append-nil (preorder at depth root)));
  order_is = rw empty refl;
  seen_is = λ m. rw none refl;
  good = rw is (ends, tt);
}

pub walk_entered : (at : SupersAt) (depth root n : ℕ) (old mid new : List Task) (order seen : List ℕ) → old ≡ mid ++ Enter n ∷ []
    → new ≡ mid ++ entered n (at n) → IsWalking at depth root old order seen → IsWalking at depth root new order seen
walk_entered at depth root n old mid new order seen was is walking =
    let good = rw was at walking.good in
    let ends : EndsWithin at depth n = (right_of (IsGood at depth) mid (Enter n ∷ []) good).0 in
    let end = walking.end in
    record {
      end = end;
      ends = walking.ends;
      is = walking.is ∙ before_last at depth old mid (Enter n) end was
          ∙ ap (λ list. lists_of at depth mid ++ (list ++ end)) (sym (list-entered at depth n ends (at n) refl))
          ∙ sym (append_assoc (lists_of at depth mid) (lists_of at depth (entered n (at n))) end)
          ∙ ap (λ list. list ++ end) (sym (flat_map-append (list_of at depth) mid (entered n (at n))))
          ∙ ap (λ tasks. lists_of at depth tasks ++ end) (sym is);
      order_is = walking.order_is;
      seen_is = walking.seen_is;
      good = rw is (both (IsGood at depth) mid (entered n (at n)) (left_of (IsGood at depth) mid (Enter n ∷ []) good)
          (good-entered at depth n ends (at n) refl));
    }

-- a number that is in the order already, and so all above it
pub walk_passed : (at : SupersAt) (depth root n : ℕ) (old mid : List Task) (order seen : List ℕ) → old ≡ mid ++ Enter n ∷ []
    → list_any (λ k. eqb n k) seen ≡ true → IsWalking at depth root old order seen → IsWalking at depth root mid order seen
walk_passed at depth root n old mid order seen was has walking =
    let end = walking.end in
    let list = preorder at depth n in
    let closed = end_is_closed at depth root walking.ends (lists_of at depth old) end walking.is in
    let in_end : Has end n = sym (walking.seen_is n) ∙ has in
    let all : AllByRecursion (Has end) list = has_preorder at depth end closed n (inr in_end) in
    record {
      end = list ++ end;
      ends = walking.ends;
      is = walking.is ∙ before_last at depth old mid (Enter n) end was;
      order_is = walking.order_is ∙ sym (last_places-again list end all);
      seen_is = λ m. walking.seen_is m ∙ same_has m list end all;
      good = left_of (IsGood at depth) mid (Enter n ∷ []) (rw was at walking.good);
    }

-- a number whose turn has come, again or for the first time
pub walk_left_again : (at : SupersAt) (depth root n : ℕ) (old mid : List Task) (order seen new_seen : List ℕ)
    → old ≡ mid ++ Leave n ∷ [] → list_any (λ k. eqb n k) seen ≡ true
    → ((m : ℕ) → list_any (λ k. eqb m k) new_seen ≡ cond (eqb n m) true (list_any (λ k. eqb m k) seen))
    → IsWalking at depth root old order seen → IsWalking at depth root mid order new_seen
walk_left_again at depth root n old mid order seen new_seen was has adds walking =
    let end = walking.end in
    let in_end : Has end n = sym (walking.seen_is n) ∙ has in
    record {
      end = n ∷ end;
      ends = walking.ends;
      is = walking.is ∙ before_last at depth old mid (Leave n) end was;
      order_is = walking.order_is ∙ sym (last_places-again (n ∷ []) end (in_end, tt));
      seen_is = λ m. adds m ∙ added_has n m seen end (walking.seen_is m);
      good = left_of (IsGood at depth) mid (Leave n ∷ []) (rw was at walking.good);
    }

pub walk_left : (at : SupersAt) (depth root n : ℕ) (old mid : List Task) (order new_order seen new_seen : List ℕ)
    → old ≡ mid ++ Leave n ∷ [] → list_any (λ k. eqb n k) seen ≡ false
    → ((m : ℕ) → list_any (λ k. eqb m k) new_seen ≡ cond (eqb n m) true (list_any (λ k. eqb m k) seen)) → new_order ≡ order ++ n ∷ []
    → IsWalking at depth root old order seen → IsWalking at depth root mid new_order new_seen
walk_left at depth root n old mid order new_order seen new_seen was absent adds pushed walking =
    let end = walking.end in
    record {
      end = n ∷ end;
      ends = walking.ends;
      is = walking.is ∙ before_last at depth old mid (Leave n) end was;
      order_is = rw (pushed, reverse-append order (n ∷ [])) (ap (λ list. n ∷ list) walking.order_is
          ∙ sym (last_places-new n end (sym (walking.seen_is n) ∙ absent)));
      seen_is = λ m. adds m ∙ added_has n m seen end (walking.seen_is m);
      good = left_of (IsGood at depth) mid (Leave n ∷ []) (rw was at walking.good);
    }

-- with nothing left to do, the order is whole
pub walk_done : (at : SupersAt) (depth root : ℕ) (tasks : List Task) (order seen : List ℕ) → tasks ≡ []
    → IsWalking at depth root tasks order seen → IsLinearOrder at root (reverse order)
walk_done at depth root tasks order seen none walking = record {
  list = preorder at depth root;
  preorder = is_preorder at depth root walking.ends;
  is = walking.order_is ∙ ap last_places (sym (walking.is ∙ ap (λ tasks. lists_of at depth tasks ++ walking.end) none));
}

-- ---- each step leaves less to do

pub entered_smaller : (at : SupersAt) (depth root n : ℕ) (old mid new : List Task) (order seen : List ℕ) → old ≡ mid ++ Enter n ∷ []
    → new ≡ mid ++ entered n (at n) → IsWalking at depth root old order seen
    → total (work_of at depth) new < total (work_of at depth) old
entered_smaller at depth root n old mid new order seen was is walking =
    let good = rw was at walking.good in
    work-smaller at depth n old mid new (right_of (IsGood at depth) mid (Enter n ∷ []) good).0 was is
