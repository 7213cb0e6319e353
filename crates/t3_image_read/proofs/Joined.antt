-- Two pieces in a row are taken as one.
use Rattle.std.proofs.Common.{◌≡◌, ℕ, ◌+◌, List, ◌++◌, length, take, Result, Ok, Err, refl, sym, ap, subst, ◌∙◌, append_assoc, arith}
use Rattle.std.proofs.lemmas.List.{length-append, take-append-le, take_at, drop_at}
use Rattle.t3_image_read.specs.declared.reader.Fed.{Fed}
use Rattle.t3_image_read.specs.declared.reader.Fed.TheVariants.{More, Done}
use Rattle.t3_image_read.specs.declared.refusal.ReadRefusal.{ReadRefusal}
use Rattle.t3_image_read.specs.ImageText.{ImageValue}
use Rattle.t3_image_read.specs.Reader.{Reading, Taking, Ended, Failed, RefusesBy, IsCutSoFar, EndsIn, TakesPiece, Feeds, joined_answer}
use Rattle.t3_image_read.proofs.Lists.{take_add}
use Rattle.t3_image_read.proofs.Steps.{RefusesBy-append}

-- the image ends in the first piece, or in the second
ends_first : (before p q : List ℕ) (used : ℕ) (image : ImageValue) → EndsIn before p used image → EndsIn before (p ++ q) used image
ends_first before p q used image ends = record {
  valid = ends.valid;
  within = let near = ends.within in omega (arith, length-append p q);
  is = ends.is ∙ ap (λ t. before ++ t) (sym (take-append-le used p q ends.within));
}

take-both : (p q : List ℕ) (used : ℕ) → take (length p + used) (p ++ q) ≡ p ++ take used q
take-both p q used = take_add (length p) used (p ++ q) ∙ (λ i. take_at p q (length p) refl i ++ take used (drop_at p q (length p) refl i))

ends_second : (before p q : List ℕ) (used : ℕ) (image : ImageValue) → EndsIn (before ++ p) q used image
    → EndsIn before (p ++ q) (length p + used) image
ends_second before p q used image ends = record {
  valid = ends.valid;
  within = let near = ends.within in omega (arith, length-append p q);
  is = ends.is ∙ append_assoc before p (take used q) ∙ ap (λ t. before ++ t) (sym (take-both p q used));
}

-- the second piece, after one that was taken whole
takes_second : (before p q : List ℕ) (answer : Result Fed ReadRefusal) (after : Reading) → TakesPiece (before ++ p) q answer after
    → TakesPiece before (p ++ q) (joined_answer (length p) (Ok More) answer) after
takes_second before p q (Ok More) after took =
    let same = append_assoc before p q in
    (took.0 ∙ ap Taking same, subst IsCutSoFar same took.1)
takes_second before p q (Ok (Done used)) after took = (took.0, took.1, ends_second before p q used took.0 took.2)
takes_second before p q (Err refusal) after took = (took.0, subst (λ s. RefusesBy s refusal) (append_assoc before p q) took.1)

takes_both : (before p q : List ℕ) (a b : Result Fed ReadRefusal) (between after : Reading) → TakesPiece before p a between
    → Feeds between q b after
    → TakesPiece before (p ++ q) (joined_answer (length p) a b) after
takes_both before p q (Ok More) b between after first second =
    takes_second before p q b after (subst (λ r. Feeds r q b after) first.0 second)
takes_both before p q (Ok (Done used)) b between after first second =
    let ended = subst (λ r. Feeds r q b after) first.1 second in
    (first.0, ended.1, ends_first before p q used first.0 first.2)
takes_both before p q (Err refusal) b between after first second =
    let failed = subst (λ r. Feeds r q b after) first.0 second in
    (failed.1, subst (λ s. RefusesBy s refusal) (append_assoc before p q) (RefusesBy-append (before ++ p) q refusal first.1))

pub joined : (before between after : Reading) (p q : List ℕ) (a b : Result Fed ReadRefusal) → Feeds before p a between
    → Feeds between q b after
    → Feeds before (p ++ q) (joined_answer (length p) a b) after
joined (Taking stream) between after p q a b first second = takes_both stream p q a b between after first second
joined (Ended image) between after p q a b first second =
    let ended = subst (λ r. Feeds r q b after) first.1 second in
    (ap (λ answer. joined_answer (length p) answer b) first.0, ended.1)
joined (Failed refusal) between after p q a b first second =
    let failed = subst (λ r. Feeds r q b after) first.1 second in
    (ap (λ answer. joined_answer (length p) answer b) first.0, failed.1)
