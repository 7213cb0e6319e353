-- The order along a chain, and that there is one order.
use Rattle.std.proofs.Common.{◌≡◌, ℕ, zero, suc, ◌+◌, ◌≤◌, Bool, true, false, eqb, inl, ⊎_elim, Option, Some, None, List, [], ◌∷◌, length, sym, refl, ap, ◌∙◌, subst, arith, add_comm, add-zero, add-suc}
use Rattle.std.specs.Prelude.{IsSome, Contains}
use Rattle.std.specs.List.{AllByRecursion, flat_map, list_any}
use Rattle.std.proofs.lemmas.List.{append-nil, length-append}
use Rattle.t3_tadsobj.specs.Order.{SupersAt, list_from, preorder, last_places, IsPreorder, IsLinearOrder, IsAcyclicFrom, IsChain}
use Rattle.t3_tadsobj.proofs.OrderMembers.{Has, Has-cases, Has-either, Has-from_contains, weaker, last_places-new}
use Rattle.t3_tadsobj.proofs.OrderDepth.{EndsWithin, ends, ends_later, preorder-deeper, is_preorder, preorder-missing, superclasses_end, preorder-live}

-- ---- there is one order

pub one_order : (at : SupersAt) (n : ℕ) (a b : List ℕ) → IsLinearOrder at n a → IsLinearOrder at n b → a ≡ b
one_order at n a b first second =
    let x = first.preorder.depth in
    let y = second.preorder.depth in
    let same : first.list ≡ second.list = sym (first.preorder.is y) ∙ ap (λ depth. preorder at depth n) (add_comm x y)
    ∙ second.preorder.is x in
    first.is ∙ ap last_places same ∙ sym second.is

pub some_order : (at : SupersAt) (numbers : List ℕ) (n : ℕ) → ((m : ℕ) → IsSome (at m) → Contains numbers m) → IsAcyclicFrom at n
    → (order : List ℕ) × IsLinearOrder at n order
some_order at numbers n covers acyclic =
    let depth = length numbers in
    let all : EndsWithin at depth n = ends at depth numbers (omega arith) n
    (λ m supers is. inl (Has-from_contains numbers m (covers m (rw is refl)))) acyclic in
    (last_places (preorder at depth n), record { list = preorder at depth n; preorder = is_preorder at depth n all; is = refl })

-- ---- a list that a greater depth leaves as long ends there

grows_all : (at : SupersAt) (depth : ℕ) → ((n : ℕ) → length (preorder at depth n) ≤ length (preorder at (suc depth) n))
    → (supers : List ℕ) → length (flat_map (preorder at depth) supers) ≤ length (flat_map (preorder at (suc depth)) supers)
grows_all at depth grows [] = omega arith
grows_all at depth grows (n ∷ supers) =
    omega (
      arith,
      grows n,
      grows_all at depth grows supers,
      length-append (preorder at depth n) (flat_map (preorder at depth) supers),
      length-append (preorder at (suc depth) n) (flat_map (preorder at (suc depth)) supers),
    )

grows_from : (at : SupersAt) (depth n : ℕ) → ((m : ℕ) → length (preorder at depth m) ≤ length (preorder at (suc depth) m))
    → (o : Option (List ℕ)) → length (list_from (preorder at depth) n o) ≤ length (list_from (preorder at (suc depth)) n o)
grows_from at depth n grows None = omega arith
grows_from at depth n grows (Some supers) = omega (arith, grows_all at depth grows supers)

grows : (at : SupersAt) (depth n : ℕ) → length (preorder at depth n) ≤ length (preorder at (suc depth) n)
unfolding preorder
grows at zero n = omega arith
grows at (suc depth) n = grows_from at depth n (grows at depth) (at n)

-- numbers whose joined lists stay as long
all_end : (at : SupersAt) (depth : ℕ) → ((n : ℕ) → length (preorder at (suc depth) n) ≡ length (preorder at depth n)
    → EndsWithin at depth n) → (supers : List ℕ)
    → length (flat_map (preorder at (suc depth)) supers) ≡ length (flat_map (preorder at depth) supers)
    → AllByRecursion (EndsWithin at depth) supers
all_end at depth each [] same = tt
all_end at depth each (n ∷ supers) same =
    let here = length-append (preorder at depth n) (flat_map (preorder at depth) supers) in
    let deeper = length-append (preorder at (suc depth) n) (flat_map (preorder at (suc depth)) supers) in
    let first = grows at depth n in
    let rest = grows_all at depth (grows at depth) supers in
    (each n (omega arith), all_end at depth each supers (omega arith))

none_from : (f : ℕ → List ℕ) (n : ℕ) (o : Option (List ℕ)) → length (list_from f n o) ≡ 0 → o ≡ None
none_from f n None is = refl
none_from f n (Some supers) is = absurd (omega arith)

end_from : (at : SupersAt) (depth n : ℕ) (o : Option (List ℕ)) (supers : List ℕ) → o ≡ Some supers
    → ((m : ℕ) → length (preorder at (suc depth) m) ≡ length (preorder at depth m) → EndsWithin at depth m)
    → length (list_from (preorder at (suc depth)) n o) ≡ length (list_from (preorder at depth) n o)
    → AllByRecursion (EndsWithin at depth) supers
end_from at depth n None supers is each same = absurd cc
end_from at depth n (Some those) supers is each same =
    let equal : those ≡ supers = cc in
    subst (λ (list : List ℕ). AllByRecursion (EndsWithin at depth) list) equal (all_end at depth each those (omega arith))

ends_where : (at : SupersAt) (depth n : ℕ) → length (preorder at (suc depth) n) ≡ length (preorder at depth n) → EndsWithin at depth n
unfolding preorder
ends_where at zero n same = none_from (preorder at zero) n (at n) same
ends_where at (suc depth) n same = λ supers is. end_from at depth n (at n) supers is (ends_where at depth) same

-- a whole list ends
pub preorder_ends : (at : SupersAt) (n : ℕ) (list : List ℕ) (whole : IsPreorder at n list) → EndsWithin at whole.depth n
preorder_ends at n list whole =
    ends_where at whole.depth n
    (ap length (ap (λ depth. preorder at depth n) (sym (add-suc whole.depth zero ∙ ap suc (add-zero whole.depth)))
    ∙ whole.is (suc zero) ∙ sym (whole.is zero) ∙ ap (λ depth. preorder at depth n) (add-zero whole.depth)))

-- the lists of the superclasses of a live number
pub preorder_live : (at : SupersAt) (n : ℕ) (list supers : List ℕ) → IsPreorder at n list → at n ≡ Some supers
    → (lists : ℕ → List ℕ) × AllByRecursion (λ above. IsPreorder at above (lists above)) supers × (list ≡ n ∷ flat_map lists supers)
preorder_live at n list supers whole is =
    let depth = whole.depth in
    let all : EndsWithin at depth n = preorder_ends at n list whole in
    let here : preorder at depth n ≡ list = ap (λ d. preorder at d n) (sym (add-zero depth)) ∙ whole.is zero in (
      preorder at depth,
      weaker (EndsWithin at depth) (λ above. IsPreorder at above (preorder at depth above)) (λ above ends. is_preorder at depth above ends)
          supers (superclasses_end at depth n supers all is),
      sym here ∙ preorder-live at depth n supers all is,
    )

pub preorder_none : (at : SupersAt) (n : ℕ) (list : List ℕ) → IsPreorder at n list → at n ≡ None → list ≡ []
preorder_none at n list whole is = sym (whole.is zero) ∙ preorder-missing at (whole.depth + zero) n is

-- ---- what a list has ends within it

abbrev EndsInside : SupersAt → ℕ → ℕ → ℕ → Type 0
EndsInside at depth n long = EndsWithin at depth n × (length (preorder at depth n) ≤ long)

inside_all : (at : SupersAt) (depth : ℕ) → ((m n : ℕ) → EndsWithin at depth m → Has (preorder at depth m) n
    → EndsInside at depth n (length (preorder at depth m))) → (supers : List ℕ) (n : ℕ)
    → AllByRecursion (EndsWithin at depth) supers → Has (flat_map (preorder at depth) supers) n
    → EndsInside at depth n (length (flat_map (preorder at depth) supers))
inside_all at depth each [] n all has = absurd cc
inside_all at depth each (m ∷ supers) n all has =
    let long = length-append (preorder at depth m) (flat_map (preorder at depth) supers) in
    ⊎_elim
    (λ here. let inside = each m n all.0 here in (inside.0, omega (arith, inside.1)))
    (λ later. let inside = inside_all at depth each supers n all.1 later in (inside.0, omega (arith, inside.1)))
    (Has-either (preorder at depth m) (flat_map (preorder at depth) supers) n has)

inside_from : (at : SupersAt) (depth m n : ℕ) → ((k j : ℕ) → EndsWithin at depth k → Has (preorder at depth k) j
    → EndsInside at depth j (length (preorder at depth k))) → (o : Option (List ℕ)) → at m ≡ o
    → EndsWithin at (suc depth) m → preorder at (suc depth) m ≡ list_from (preorder at depth) m o
    → Has (list_from (preorder at depth) m o) n → EndsInside at (suc depth) n (length (preorder at (suc depth) m))
inside_from at depth m n each None is ends whole has = absurd cc
inside_from at depth m n each (Some supers) is ends whole has =
    ⊎_elim
    (λ same. subst (λ (k : ℕ). EndsInside at (suc depth) k (length (preorder at (suc depth) m))) (sym same) (ends, omega arith))
    (λ later.
    let inside = inside_all at depth each supers n (ends supers is) later in
    let deeper = ap length (preorder-deeper at depth n inside.0) in
    (ends_later at depth n inside.0, rw whole (omega (arith, inside.1, deeper))))
    (Has-cases m n (flat_map (preorder at depth) supers) has)

inside : (at : SupersAt) (depth m n : ℕ) → EndsWithin at depth m → Has (preorder at depth m) n
    → EndsInside at depth n (length (preorder at depth m))
unfolding preorder
inside at zero m n ends has = absurd cc
inside at (suc depth) m n ends has = inside_from at depth m n (inside at depth) (at m) refl ends refl has

-- ---- a chain

later : (depth more : ℕ) → suc depth + more ≡ suc (depth + more)
later depth more = omega arith

once : (at : SupersAt) (depth n above : ℕ) → at n ≡ Some (above ∷ []) → preorder at (suc depth) n ≡ n ∷ preorder at depth above
unfolding preorder
once at depth n above is = rw is (ap (λ list. n ∷ list) (append-nil (preorder at depth above)))

absent_above : (at : SupersAt) (depth n above : ℕ) → at n ≡ Some (above ∷ []) → EndsWithin at depth above → (has : Bool)
    → list_any (λ m. eqb n m) (preorder at depth above) ≡ has → has ≡ false
absent_above at depth n above is all true has =
    let within = inside at depth above n all has in
    let deeper = ap length (preorder-deeper at depth n within.0) in
    let longer = ap length (once at depth n above is) in
    absurd (omega (arith, within.1))
absent_above at depth n above is all false has = refl

pub order_step : (at : SupersAt) (n above : ℕ) (order : List ℕ) → at n ≡ Some (above ∷ []) → IsLinearOrder at above order
    → IsLinearOrder at n (n ∷ order)
order_step at n above order is whole =
    let depth = whole.preorder.depth in
    let list = whole.list in
    let all : EndsWithin at depth above = preorder_ends at above list whole.preorder in
    let here : preorder at depth above ≡ list = ap (λ d. preorder at d above) (sym (add-zero depth)) ∙ whole.preorder.is zero in
    let absent : list_any (λ m. eqb n m) list ≡ false = ap (list_any (λ m. eqb n m)) (sym here)
    ∙ absent_above at depth n above is all (list_any (λ m. eqb n m) (preorder at depth above)) refl in
    record {
      list = n ∷ list;
      preorder = record {
        depth = suc depth;
        is = λ more. ap (λ d. preorder at d n) (later depth more) ∙ once at (depth + more) n above is
            ∙ ap (λ rest. n ∷ rest) (whole.preorder.is more);
      };
      is = ap (λ rest. n ∷ rest) whole.is ∙ sym (last_places-new n list absent);
    }

pub order_missing : (at : SupersAt) (n : ℕ) → at n ≡ None → IsLinearOrder at n []
order_missing at n is = record {
  list = [];
  preorder = record { depth = zero; is = λ more. preorder-missing at (zero + more) n is };
  is = refl;
}

alone : (at : SupersAt) (depth n : ℕ) → at n ≡ Some [] → preorder at (suc depth) n ≡ n ∷ []
unfolding preorder
alone at depth n is = rw is refl

pub order_last : (at : SupersAt) (n : ℕ) → at n ≡ Some [] → IsLinearOrder at n (n ∷ [])
order_last at n is = record {
  list = n ∷ [];
  preorder = record { depth = suc zero; is = λ more. ap (λ d. preorder at d n) (later zero more) ∙ alone at (zero + more) n is };
  is = refl;
}

pub order_chain : (at : SupersAt) (n : ℕ) (chain : List ℕ) → IsChain at n chain → IsLinearOrder at n (n ∷ chain)
order_chain at n [] ends = ⊎_elim (λ last. order_last at n last) (λ ending. order_step at n ending.0 [] ending.1
    (order_missing at ending.0 ending.2)) ends
order_chain at n (above ∷ chain) is = order_step at n above (above ∷ chain) is.0 (order_chain at above chain is.1)
