-- Numbers counted down in place, the ones that are left moved up.
use Rattle.std.proofs.Common.{◌≡◌, ℕ, zero, suc, ◌+◌, ◌-◌, ◌<◌, ◌≤◌, List, [], ◌∷◌, ◌++◌, length, take, drop, get_or, set, refl, sym, ap, ◌∙◌, append_assoc, subst, arith}
use Rattle.std.proofs.lemmas.List.{append-nil, take_more_set, drop-set-lt, drop_more, drop_all}
use Rattle.t3_io.specs.Failing.{numbers_after}

after_positive : (number : ℕ) (numbers : List ℕ) → 0 < number → numbers_after (number ∷ numbers) ≡ (number - 1) ∷ numbers_after numbers
unfolding numbers_after
after_positive zero numbers positive = absurd (omega arith)
after_positive (suc number) numbers positive = ap (λ n. n ∷ numbers_after numbers) (omega arith)

after_zero : (number : ℕ) (numbers : List ℕ) → number ≡ 0 → numbers_after (number ∷ numbers) ≡ numbers_after numbers
unfolding numbers_after
after_zero zero numbers is = refl
after_zero (suc number) numbers is = absurd (omega arith)

-- those that are left stand first, and after them those that are still to be looked at
pub record IsCountedTo (first numbers : List ℕ) (kept at : ℕ) : Type 0 where
  pub within : kept ≤ at
  pub left : take kept numbers ++ numbers_after (drop at numbers) ≡ numbers_after first

counted_positive : (first numbers : List ℕ) (kept at number : ℕ) → IsCountedTo first numbers kept at → at < length numbers
    → number ≡ get_or numbers at 0
    → 0 < number → IsCountedTo first (set numbers kept (number - 1)) (kept + 1) (at + 1)
counted_positive first numbers kept at number so_far within is positive =
    let less : kept < length numbers = omega (arith, so_far.within) in
    let apart : kept < at + 1 = omega (arith, so_far.within) in
    let next : drop at numbers ≡ number ∷ drop (at + 1) numbers = drop_more numbers at 0 within ∙ ap (λ n. n ∷ drop (at + 1) numbers) (sym is) in
    let value = number - 1 in
    record {
      within = omega (arith, so_far.within);
      left =
          (λ i. take_more_set numbers kept value less i ++ numbers_after (drop-set-lt (at + 1) numbers kept value apart i))
          ∙ append_assoc (take kept numbers) (value ∷ []) (numbers_after (drop (at + 1) numbers))
          ∙ ap (λ ns. take kept numbers ++ ns) (sym (ap numbers_after next ∙ after_positive number (drop (at + 1) numbers) positive))
          ∙ so_far.left;
    }

counted_zero : (first numbers : List ℕ) (kept at number : ℕ) → IsCountedTo first numbers kept at → at < length numbers
    → number ≡ get_or numbers at 0
    → number ≡ 0 → IsCountedTo first numbers kept (at + 1)
counted_zero first numbers kept at number so_far within is none =
    let next : drop at numbers ≡ number ∷ drop (at + 1) numbers = drop_more numbers at 0 within ∙ ap (λ n. n ∷ drop (at + 1) numbers) (sym is) in
    record {
      within = omega (arith, so_far.within);
      left =
          ap (λ ns. take kept numbers ++ ns) (sym (ap numbers_after next ∙ after_zero number (drop (at + 1) numbers) none)) ∙ so_far.left;
    }

-- one number more was looked at
pub counted_set : (first numbers new : List ℕ) (kept now at : ℕ) → IsCountedTo first numbers kept at → at < length numbers
    → 0 < get_or numbers at 0
    → new ≡ set numbers kept (get_or numbers at 0 - 1) → now ≡ kept + 1 → IsCountedTo first new now (at + 1)
counted_set first numbers new kept now at so_far within positive written moved =
    let P : List ℕ → Type 0 = λ ns. IsCountedTo first ns now (at + 1) in
    let Q : ℕ → Type 0 = λ k. IsCountedTo first (set numbers kept (get_or numbers at 0 - 1)) k (at + 1) in
    subst P (sym written) (subst Q (sym moved) (counted_positive first numbers kept at (get_or numbers at 0) so_far within refl positive))

pub counted_same : (first numbers new : List ℕ) (kept now at : ℕ) → IsCountedTo first numbers kept at → at < length numbers
    → get_or numbers at 0 ≤ 0
    → new ≡ numbers → now ≡ kept → IsCountedTo first new now (at + 1)
counted_same first numbers new kept now at so_far within none written moved =
    let P : List ℕ → Type 0 = λ ns. IsCountedTo first ns now (at + 1) in
    let Q : ℕ → Type 0 = λ k. IsCountedTo first numbers k (at + 1) in
    subst P (sym written) (subst Q (sym moved) (counted_zero first numbers kept at (get_or numbers at 0) so_far within refl (omega arith)))

-- all of them were
pub counted_all : (first numbers : List ℕ) (kept at : ℕ) → IsCountedTo first numbers kept at → length numbers ≤ at
    → take kept numbers ≡ numbers_after first
unfolding numbers_after
counted_all first numbers kept at so_far all =
    sym (append-nil (take kept numbers)) ∙ sym (ap (λ ns. take kept numbers ++ numbers_after ns) (drop_all at numbers all)) ∙ so_far.left
