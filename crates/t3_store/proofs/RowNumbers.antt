-- The numbers of a row are the keys of its map, and rise; and a number that stands behind another is no smaller.
use Rattle.std.proofs.Common.{◌≡◌, ◌∙◌, ap, sym, subst, refl, ℕ, zero, suc, ◌<◌, ◌≤◌, List, [], ◌∷◌, ◌++◌, map, arith}
use Rattle.std.specs.Prelude.{Contains}
use Rattle.std.specs.List.{AllByRecursion}
use Rattle.std.specs.Ordering.{nat_cmp}
use Rattle.std.specs.declared.cmp.Ordering.TheVariants.{Less}
use Rattle.std.specs.Cmp.{nat_cmp_total, nat_cmp_is}
use Rattle.std.specs.FinMap.{FinMap, entries, entries-insert, entries_sorted, keys, put}
use Rattle.std.specs.FinMap.Entries.{by_order}
use Rattle.t3_undo.specs.Objects.{set_at}
use Rattle.t3_store.specs.Inner.Shapes.{thing_of, value_of, values}
use Rattle.t3_store.specs.Inner.Entries.{IsRising, by_number, things_of}
use Rattle.t3_store.specs.declared.object.Object.{Object}
use Rattle.t3_store.specs.declared.entries.Entry.{Entry}
use Rattle.t3_store.proofs.MapValues.{Rise, rise, entries-empty, values-by_number}

module _ {X : Type 0} (read : Object → X) where
  abbrev pairs : List Entry → List (ℕ × X)
  pairs es = map (λ e. (e.number, read e.object)) es

  put-first : (k : ℕ) (v : X) (es : List Entry) → AllByRecursion (λ l. k < l.number) es → put nat_cmp k v (pairs es) ≡ (k, v) ∷ pairs es
  put-first k v [] all = refl
  put-first k v (y ∷ es) all =
      ap (λ r. by_order r ((k, v) ∷ pairs (y ∷ es)) ((y.number, v) ∷ pairs es) ((y.number, read y.object) ∷ put nat_cmp k v (pairs es)))
      (sym (nat_cmp_is k y.number Less all.0))

  entries-by_number : (es : List Entry) → IsRising es → entries (by_number read es) ≡ pairs es
  unfolding by_number set_at
  entries-by_number [] rises = entries-empty
  entries-by_number (x ∷ es) rises =
      entries-insert nat_cmp_total (by_number read es) x.number (read x.object)
      ∙ ap (put nat_cmp x.number (read x.object)) (entries-by_number es rises.1)
      ∙ put-first x.number (read x.object) es rises.0

  numbers-of_pairs : (es : List Entry) → map (λ p. p.0) (pairs es) ≡ map (λ e. e.number) es
  numbers-of_pairs [] = refl
  numbers-of_pairs (x ∷ es) = ap (λ ns. x.number ∷ ns) (numbers-of_pairs es)

pub numbers-keys : (es : List Entry) → IsRising es → map (λ e. e.number) es ≡ keys (values (things_of es))
numbers-keys es rises =
    sym (ap (λ m. keys m) (values-by_number es)
    ∙ ap (map (λ p. p.0)) (entries-by_number (λ o. value_of (thing_of o)) es rises)
    ∙ numbers-of_pairs (λ o. value_of (thing_of o)) es)

-- each number is below those behind it
abbrev pub NumbersRise : List ℕ → Type 0
NumbersRise [] = Unit {0}
NumbersRise (n ∷ ns) = AllByRecursion (λ later. n < later) ns × NumbersRise ns

below-keys : {X : Type 0} (n : ℕ) (es : List (ℕ × X)) → AllByRecursion (λ later. n < later.0) es
    → AllByRecursion (λ later. n < later) (map (λ e. e.0) es)
below-keys n [] all = tt
below-keys n (e ∷ es) all = (all.0, below-keys n es all.1)

rise-keys : {X : Type 0} (es : List (ℕ × X)) → Rise es → NumbersRise (map (λ e. e.0) es)
rise-keys [] rises = tt
rise-keys (e ∷ es) rises = (below-keys e.0 es rises.0, rise-keys es rises.1)

pub keys-rise : {X : Type 0} (m : FinMap nat_cmp X) → NumbersRise (keys m)
keys-rise m = rise-keys (entries m) (rise (entries m) (entries_sorted m))

among-later : (n : ℕ) (ns : List ℕ) (q : ℕ) → AllByRecursion (λ later. n < later) ns → Contains ns q → n < q
among-later n [] q all has = absurd (omega (arith, has.1))
among-later n (m ∷ ns) q all (zero, less, is) = subst (λ k. n < k) is all.0
among-later n (m ∷ ns) q all (suc k, less, is) = among-later n ns q all.1 (k, omega arith, is)

from-here : (n : ℕ) (ns : List ℕ) (q : ℕ) → AllByRecursion (λ later. n < later) ns → Contains (n ∷ ns) q → n ≤ q
from-here n ns q all (zero, less, is) = omega (arith, is)
from-here n ns q all (suc k, less, is) = let above = among-later n ns q all (k, omega arith, is) in omega arith

pub from-on : (before after : List ℕ) (n q : ℕ) → NumbersRise (before ++ n ∷ after) → Contains (n ∷ after) q → n ≤ q
from-on [] after n q rises has = from-here n after q rises.0 has
from-on (b ∷ before) after n q rises has = from-on before after n q rises.1 has
