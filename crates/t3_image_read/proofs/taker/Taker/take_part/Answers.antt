use Rattle.std.proofs.Common.{◌≡◌, ◌++◌, take, drop, subst, ap, ◌∙◌, append_assoc}
use Rattle.std.proofs.lemmas.List.{take-append-drop}
use Rattle.std.proofs.lemmas.Result.{err_from_is_err_and}
use Rattle.t3_image_read.specs.Reader.{RefusesBy}
use Rattle.t3_image_read.specs.Inner.Steps.{stream_of}
use Rattle.t3_image_read.proofs.Steps.{stream_of-held, RefusesBy-append}
use Rattle.t3_image_read.proofs.taker.Taker.take_part.Goals as goal

pub returns-in_err-parsed-clause-refused : goal.returns-in_err-parsed-clause-refused
returns-in_err-parsed-clause-refused c =
    let t = c.args.self.now in
    let rest = c.args.rest.now in
    let count = c.in_ok-count.count in
    let held = stream_of-held t c.hold.new.self rest count c.in_ok-count.ensures in
    let whole : stream_of c.hold.new.self ++ drop count rest ≡ stream_of t ++ rest = ap (λ s. s ++ drop count rest) held
    ∙ append_assoc (stream_of t) (take count rest) (drop count rest) ∙ ap (λ r. stream_of t ++ r) (take-append-drop count rest) in
    let p = err_from_is_err_and c.from_residual-in_err-parsed.result c.from_residual-in_err-parsed.ensures.1 in
    rw (p.1, p.2) (subst (λ s. RefusesBy s c.in_err-parsed.field-0.0) whole
    (RefusesBy-append (stream_of c.hold.new.self) (drop count rest) c.in_err-parsed.field-0.0 c.in_err-parsed.ensures.refused))
