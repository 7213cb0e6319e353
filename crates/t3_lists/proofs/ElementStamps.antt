-- The places of a vector, from the stamps of its elements alone.
use Rattle.std.proofs.Common.{◌≡◌, ◌∙◌, ap, sym, refl, ℕ, zero, suc, ◌+◌, ◌<◌, ◌==◌, Bool, true, false, cond, List, [], ◌∷◌, ◌++◌, length, slice_get, set as slice_set, None, Some, is_some, ne_eqb, eq-eqb, eqb-true, arith}
use Rattle.std.proofs.lemmas.Bool.{eqb-false}
use Rattle.std.specs.declared.cmp.Ordering.{Ordering}
use Rattle.std.specs.declared.cmp.Ordering.TheVariants.{Less, Equal, Greater}
use Rattle.std.specs.Ordering.{nat_cmp, ordering_then, is_eq}
use Rattle.std.specs.Cmp.{unsigned_tied, eq_by_cmp_equiv}
use Rattle.std.specs.FinMap.{get, get-empty, insert, get-insert, len, len-empty, len-insert, same_map}
use Rattle.t3_undo.specs.Cell.{cell_cmp, cell_cmp_total, cell_cmp-IsAntisymmetric}
use Rattle.t3_undo.specs.Content.{Places}
use Rattle.t3_undo.specs.declared.cell.Cell.{Cell}
use Rattle.t3_undo.specs.declared.cell.Cell.TheVariants as cells
use Rattle.t3_undo.proofs.SlotLists.{same}
use Rattle.t3_lists.specs.Vector.{places_from}
use Rattle.t3_lists.specs.Inner.Elements.{index_of, stamp_in}

then-Equal : (r : Ordering) → is_eq (ordering_then r Equal) ≡ is_eq r
then-Equal Less = refl
then-Equal Equal = refl
then-Equal Greater = refl

same-Elem : (n k : ℕ) → same (cells.Elem n) (cells.Elem k) ≡ (n == k)
same-Elem n k = then-Equal (nat_cmp n k) ∙ unsigned_tied n k

itself : (n k : ℕ) → n ≡ k → same (cells.Elem n) (cells.Elem k) ≡ true
itself n k e = ap (λ m. same (cells.Elem n) (cells.Elem m)) (sym e) ∙ (eq_by_cmp_equiv cell_cmp_total).refl (cells.Elem n)

other : (n k : ℕ) → (n ≡ k → ⊥) → same (cells.Elem n) (cells.Elem k) ≡ false
other n k e = same-Elem n k ∙ ne_eqb n k e

shift : (a b : ℕ) → (a == b) ≡ (suc a == suc b)
shift a b = by (a == b) refl
  where
    by : (x : Bool) → (a == b) ≡ x → (a == b) ≡ (suc a == suc b)
    by true e = e ∙ sym (eq-eqb (suc a) (suc b) (let is = eqb-true a b e in omega arith))
    by false e = e ∙ sym (ne_eqb (suc a) (suc b) (λ w. eqb-false a b e (omega arith)))

get-at : (number index m : ℕ) (stamps : List ℕ) → m ≡ number + index → get (places_from number stamps) (cells.Elem m) ≡ slice_get stamps index
unfolding places_from
get-at number index m [] e = get-empty cell_cmp (cells.Elem m)
get-at number zero m (t ∷ stamps) e =
    get-insert cell_cmp_total (places_from (suc number) stamps) (cells.Elem number) t (cells.Elem m)
    ∙ ap (λ b. cond b (Some t) (get (places_from (suc number) stamps) (cells.Elem m))) (itself m number (omega arith))
get-at number (suc index) m (t ∷ stamps) e =
    get-insert cell_cmp_total (places_from (suc number) stamps) (cells.Elem number) t (cells.Elem m)
    ∙ ap (λ b. cond b (Some t) (get (places_from (suc number) stamps) (cells.Elem m))) (other m number (λ w. absurd (omega arith)))
    ∙ get-at (suc number) index m stamps (omega arith)

get-below : (number m : ℕ) (stamps : List ℕ) → m < number → get (places_from number stamps) (cells.Elem m) ≡ None
unfolding places_from
get-below number m [] e = get-empty cell_cmp (cells.Elem m)
get-below number m (t ∷ stamps) e =
    get-insert cell_cmp_total (places_from (suc number) stamps) (cells.Elem number) t (cells.Elem m)
    ∙ ap (λ b. cond b (Some t) (get (places_from (suc number) stamps) (cells.Elem m))) (other m number (λ w. absurd (omega arith)))
    ∙ get-below (suc number) m stamps (omega arith)

get-none : (number : ℕ) (stamps : List ℕ) (cell : Cell) → ((n : ℕ) → same cell (cells.Elem n) ≡ false)
    → get (places_from number stamps) cell ≡ None
unfolding places_from
get-none number [] cell none = get-empty cell_cmp cell
get-none number (t ∷ stamps) cell none =
    get-insert cell_cmp_total (places_from (suc number) stamps) (cells.Elem number) t cell
    ∙ ap (λ b. cond b (Some t) (get (places_from (suc number) stamps) cell)) (none number)
    ∙ get-none (suc number) stamps cell none

-- the places of a vector
abbrev places_of : List ℕ → Places
places_of stamps = places_from 1 stamps

pub get-places : (stamps : List ℕ) (cell : Cell) → get (places_of stamps) cell ≡ stamp_in stamps (index_of cell)
get-places stamps (cells.Elem zero) = get-below 1 0 stamps (omega arith)
get-places stamps (cells.Elem (suc index)) = get-at 1 index (suc index) stamps (omega arith)
get-places stamps (cells.Prop n) = get-none 1 stamps (cells.Prop n) (λ k. refl)
get-places stamps (cells.Key key) = get-none 1 stamps (cells.Key key) (λ k. refl)
get-places stamps cells.Default = get-none 1 stamps cells.Default (λ k. refl)

len-from : (number : ℕ) (stamps : List ℕ) → len (places_from number stamps) ≡ length stamps
unfolding places_from
len-from number [] = len-empty cell_cmp ℕ
len-from number (t ∷ stamps) =
    let a = len-insert cell_cmp_total (places_from (suc number) stamps) (cells.Elem number) t
    ∙ ap (λ b. cond b (len (places_from (suc number) stamps)) (len (places_from (suc number) stamps) + 1))
    (ap is_some (get-below (suc number) number stamps (omega arith))) in
    let b = len-from (suc number) stamps in
    omega (arith, a, b)

pub len-places : (stamps : List ℕ) → len (places_of stamps) ≡ length stamps
len-places stamps = len-from 1 stamps

-- one more place, and another stamp
get-push : (stamps : List ℕ) (t index : ℕ) → slice_get (stamps ++ t ∷ []) index
    ≡ cond (index == length stamps) (Some t) (slice_get stamps index)
get-push [] t zero = refl
get-push [] t (suc index) = ap (λ b. cond b (Some t) None) (sym (ne_eqb (suc index) 0 (λ w. absurd (omega arith))))
get-push (s ∷ stamps) t zero = ap (λ b. cond b (Some t) (Some s)) (sym (ne_eqb 0 (length (s ∷ stamps)) (λ w. absurd (omega arith))))
get-push (s ∷ stamps) t (suc index) =
    get-push stamps t index ∙ ap (λ b. cond b (Some t) (slice_get stamps index)) (shift index (length stamps))

pub places-push : (stamps : List ℕ) (t : ℕ) → places_of (stamps ++ t ∷ []) ≡ insert (places_of stamps) (cells.Elem (suc (length stamps))) t
places-push stamps t =
    same_map cell_cmp_total cell_cmp-IsAntisymmetric _ _ (λ q.
    get-places (stamps ++ t ∷ []) q ∙ by q
    ∙ ap (cond (same q (cells.Elem (suc (length stamps)))) (Some t)) (sym (get-places stamps q))
    ∙ sym (get-insert cell_cmp_total (places_of stamps) (cells.Elem (suc (length stamps))) t q))
  where
    by : (q : Cell) → stamp_in (stamps ++ t ∷ []) (index_of q)
        ≡ cond (same q (cells.Elem (suc (length stamps)))) (Some t) (stamp_in stamps (index_of q))
    by (cells.Elem zero) = ap (λ b. cond b (Some t) None) (sym (other 0 (suc (length stamps)) (λ w. absurd (omega arith))))
    by (cells.Elem (suc index)) = get-push stamps t index
        ∙ ap (λ b. cond b (Some t) (slice_get stamps index)) (shift index (length stamps) ∙ sym (same-Elem (suc index) (suc (length stamps))))
    by (cells.Prop n) = refl
    by (cells.Key key) = refl
    by cells.Default = refl

get-set : (stamps : List ℕ) (at t index : ℕ) → at < length stamps → slice_get (slice_set stamps at t) index
    ≡ cond (index == at) (Some t) (slice_get stamps index)
get-set [] at t index h = absurd (omega arith)
get-set (s ∷ stamps) zero t zero h = refl
get-set (s ∷ stamps) zero t (suc index) h = ap (λ b. cond b (Some t) (slice_get stamps index)) (sym (ne_eqb (suc index) 0 (λ w. absurd (omega arith))))
get-set (s ∷ stamps) (suc at) t zero h = ap (λ b. cond b (Some t) (Some s)) (sym (ne_eqb 0 (suc at) (λ w. absurd (omega arith))))
get-set (s ∷ stamps) (suc at) t (suc index) h =
    get-set stamps at t index (omega arith) ∙ ap (λ b. cond b (Some t) (slice_get stamps index)) (shift index at)

pub places-set : (stamps : List ℕ) (at t : ℕ) → at < length stamps → places_of (slice_set stamps at t)
    ≡ insert (places_of stamps) (cells.Elem (suc at)) t
places-set stamps at t h =
    same_map cell_cmp_total cell_cmp-IsAntisymmetric _ _ (λ q.
    get-places (slice_set stamps at t) q ∙ by q
    ∙ ap (cond (same q (cells.Elem (suc at))) (Some t)) (sym (get-places stamps q))
    ∙ sym (get-insert cell_cmp_total (places_of stamps) (cells.Elem (suc at)) t q))
  where
    by : (q : Cell) → stamp_in (slice_set stamps at t) (index_of q)
        ≡ cond (same q (cells.Elem (suc at))) (Some t) (stamp_in stamps (index_of q))
    by (cells.Elem zero) = ap (λ b. cond b (Some t) None) (sym (other 0 (suc at) (λ w. absurd (omega arith))))
    by (cells.Elem (suc index)) = get-set stamps at t index h
        ∙ ap (λ b. cond b (Some t) (slice_get stamps index)) (shift index at ∙ sym (same-Elem (suc index) (suc at)))
    by (cells.Prop n) = refl
    by (cells.Key key) = refl
    by cells.Default = refl
