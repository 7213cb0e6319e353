-- What a body says, or after how many objects it breaks.
use Rattle.std.proofs.Common.{◌≡◌, ℕ, ◌<◌, ◌^◌, true, false, List, [], ◌++◌, length, take, drop, Some, refl, sym, ap, subst, ◌∙◌, inl, inr}
use Rattle.std.specs.Prelude.{◌⊎◌, ◌≢◌, ◌==◌}
use Rattle.std.proofs.lemmas.Bool.{eqb-true}
use Rattle.std.specs.FinMap.{from_entries}
use Rattle.std.specs.List.{flat_map}
use Rattle.std.proofs.lemmas.List.{take-append-drop, append-nil, drop-drop, nil_from_length}
use Rattle.t3_holder.specs.NumberText.{little_endian}
use Rattle.t3_store.specs.Value.{Objects}
use Rattle.t3_snapshot.specs.Layout.{object_text}
use Rattle.t3_snapshot.specs.State.{One, with_counts, body_text, IsComplete}
use Rattle.t3_snapshot.specs.Refusal.{IsMalformed}
use Rattle.t3_snapshot.specs.Building.{IsBuilt}
use Rattle.t3_snapshot.specs.Inner.Body.{HasRead, StopsAt, IsBody, FailsAt}
use Rattle.t3_snapshot.specs.declared.body.BodyRefusal.{BodyRefusal}
use Rattle.t3_snapshot.specs.declared.body.BodyRefusal.TheVariants as bodies
use Rattle.t3_snapshot.specs.declared.builder.StateBuilder.{StateBuilder}

body_parts : (body : List ℕ) (next due : ℕ) → take 4 (drop 0 body) ≡ little_endian 4 next → take 4 (drop 4 body) ≡ little_endian 4 due
    → body ≡ little_endian 4 next ++ (little_endian 4 due ++ drop 8 body)
body_parts body next due first second =
    sym (take-append-drop 4 body) ∙ ap (λ x. x ++ drop 4 body) first
    ∙ ap (λ x. little_endian 4 next ++ x) (sym (take-append-drop 4 (drop 4 body)) ∙ ap (λ x. x ++ drop 4 (drop 4 body)) second
    ∙ ap (λ x. little_endian 4 due ++ x) (drop-drop 4 4 body))

pub head_read : (body : List ℕ) (next due : ℕ) (after : List ℕ) → take 4 (drop 0 body) ≡ little_endian 4 next
    → take 4 (drop 4 body) ≡ little_endian 4 due → after ≡ drop 8 body → body ≡ with_counts One next due after
head_read body next due after first second is = body_parts body next due first second ∙ ap (with_counts One next due) (sym is)

stopped : (body after : List ℕ) (next due items : ℕ) → next < 2 ^ 32 → due < 2 ^ 32 → body ≡ with_counts One next due after
    → StopsAt next due after items → IsMalformed One body items
stopped body after next due items fits fits_due is at = inr (record {
  next = next;
  due = due;
  objects = at.objects;
  rest = at.rest;
  next_fits = fits;
  due_fits = fits_due;
  is = is ∙ ap (with_counts One next due) at.is;
  turn = at.turn;
  count = at.count;
  breaks = inl (at.less, at.none);
})

pub failed : (body after : List ℕ) (next due : ℕ) (why : BodyRefusal) → next < 2 ^ 32 → due < 2 ^ 32
    → body ≡ with_counts One next due after → FailsAt (StopsAt next due after) why → FailsAt (IsMalformed One body) why
failed body after next due (bodies.Malformed items) fits fits_due is at = stopped body after next due items fits fits_due is at
failed body after next due bodies.NoMemory fits fits_due is at = tt

-- all due objects were read, and bytes are left or the objects are no complete state
pub ended : (body after : List ℕ) (next due last : ℕ) (builder : StateBuilder) (rest : List ℕ) → next < 2 ^ 32 → due < 2 ^ 32
    → body ≡ with_counts One next due after → (read : HasRead next after builder last due rest)
    → (rest ≢ []) ⊎ ¬ IsComplete (from_entries read.objects) next → IsMalformed One body due
ended body after next due last builder rest fits fits_due is read breaks = inr (record {
  next = next;
  due = due;
  objects = read.objects;
  rest = rest;
  next_fits = fits;
  due_fits = fits_due;
  is = is ∙ ap (with_counts One next due) read.is;
  turn = read.has.turn;
  count = read.count;
  breaks = inr (refl, breaks);
})

-- or none are left, and they are one
pub is_body : (body after : List ℕ) (next due last : ℕ) (builder : StateBuilder) (rest : List ℕ) (state : Objects) → next < 2 ^ 32
    → due < 2 ^ 32
    → body ≡ with_counts One next due after → (read : HasRead next after builder last due rest) → rest ≡ []
    → IsBuilt next read.objects (Some state) → IsBody One body state next
unfolding body_text
is_body body after next due last builder rest state fits fits_due is read none built = record {
  objects = read.objects;
  next_fits = fits;
  few = subst (λ k. k < 2 ^ 32) (sym read.count) fits_due;
  is = is ∙ ap (with_counts One next due)
      (read.is ∙ ap (λ x. flat_map object_text read.objects ++ x) none ∙ append-nil (flat_map object_text read.objects))
      ∙ ap (λ k. with_counts One next k (flat_map object_text read.objects)) (sym read.count);
  turn = read.has.turn;
  state_is = built.0;
  complete = built.1;
}

pub not_none : (rest : List ℕ) → (length rest == 0) ≡ false → rest ≢ []
not_none rest told none = absurd_len (ap (λ (r : List ℕ). length r == 0) none)
  where
    absurd_len : (length rest == 0) ≡ true → ⊥
    absurd_len e = absurd cc

pub is_nil : (rest : List ℕ) → (length rest == 0) ≡ true → rest ≡ []
is_nil rest told = nil_from_length rest (eqb-true (length rest) 0 told)
