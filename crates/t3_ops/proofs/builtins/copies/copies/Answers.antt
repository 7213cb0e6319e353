use Rattle.std.proofs.Common.{◌≡◌, ℕ, List, ap, ◌∙◌}
use Rattle.std.specs.List.{repeat}
use Rattle.std.proofs.lemmas.List.Elements.{same_from_all_zip}
use Rattle.t3_ops.specs.Making.{new_object, fitting_text_of}
use Rattle.t3_ops.proofs.Counting.{copies-long}
use Rattle.t3_ops.proofs.builtins.copies.copies.Goals as goal

pub returns-then-bytes-from-clause-made : goal.returns-then-bytes-from-clause-made
returns-then-bytes-from-clause-made c =
    let is = c.from.ensures in
    let long = c.if-bytes-from.true in
    copies-long c.args.bytes.now c.args.count (rw c.from.ensures at long)

pub returns-clause-made : goal.returns-clause-made
returns-clause-made c =
    let bytes = c.args.bytes.now in
    let copies : c.in_ok-text.text.items ≡ repeat c.from-2.result bytes =
    same_from_all_zip (λ (x : ℕ) (y : ℕ). y ≡ x) (repeat c.from-2.result bytes) c.in_ok-text.text.items c.in_ok-text.ensures.items
    (λ x y same. same) in
    c.outcome_of.ensures.made
    ∙ ap new_object c.fitting_text.ensures.made
    ∙ ap (λ (l : List ℕ). new_object (fitting_text_of l)) (copies ∙ ap (λ n. repeat n bytes) c.from-2.ensures)
