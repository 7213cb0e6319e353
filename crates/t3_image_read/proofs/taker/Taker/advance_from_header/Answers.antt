use Rattle.std.proofs.Common.{◌≡◌, ◌++◌, subst, ap, sym, ◌∙◌, Some}
use Rattle.std.specs.Prelude.{IfOk, IfErr}
use Rattle.std.proofs.lemmas.List.{append-nil}
use Rattle.t3_image_read.specs.declared.refusal.ReadRefusal.TheVariants.{At}
use Rattle.t3_image_read.specs.declared.taker.Part.TheVariants.{InHeader}
use Rattle.t3_image_read.specs.ImageText.{prefix_text, header_text}
use Rattle.t3_image_read.specs.Inner.Faults.{header_why, IsAllowed, HasHeaderFault}
use Rattle.t3_image_read.specs.Reader.{RefusesBy}
use Rattle.t3_image_read.specs.Inner.Steps.{stream_of, ComesToEnd, RunsTo}
use Rattle.t3_image_read.proofs.Steps.{at_part, stream_of-at, header_refused, header_ends}
use Rattle.t3_image_read.proofs.taker.Taker.advance_from_header.Goals as goal

pub returns-in-Some-clause-refused : goal.returns-in-Some-clause-refused
returns-in-Some-clause-refused c =
    let t = c.args.self.now in
    let header = c.read-header.result in
    let fault = c.in-Some.fault in
    let at = at_part t InHeader c.requires.part c.requires.at in
    let text = c.read-header.ensures.text ∙ c.deref.ensures.value in
    let broken = subst (λ n. HasHeaderFault n t.place header (Some fault)) c.count.ensures c.in-Some.ensures in
    let refused = header_refused t.head t.blocks t.place header t.held.items at.prefix at.place_is c.read-header.ensures.fits text
    fault broken in
    let here = subst (λ s. RefusesBy s (At t.place (header_why fault))) (sym (stream_of-at t InHeader c.requires.part)) refused in
    subst (λ why. RefusesBy (stream_of t) (At t.place why)) (sym c.why.ensures) here

pub returns-in-End-clause-advanced : goal.returns-in-End-clause-advanced
returns-in-End-clause-advanced c =
    let t = c.args.self.now in
    let header = c.read-header.result in
    let at = at_part t InHeader c.requires.part c.requires.at in
    let text = c.read-header.ensures.text ∙ c.deref.ensures.value in
    let allowed = subst (λ n. IsAllowed n t.place header) c.count.ensures c.in_default.ensures in
    let ends = header_ends t header t.held.items at c.read-header.ensures.fits text allowed c.in-End.ensures in
    subst (λ s. ComesToEnd t s header.flags) (sym (stream_of-at t InHeader c.requires.part)) ends

pub returns-in_default-kind : goal.returns-in_default-kind
returns-in_default-kind c =
    let t = c.args.self.now in
    let header = c.read-header.result in
    let text = c.read-header.ensures.text ∙ c.deref.ensures.value in
    let prefix = prefix_text t.head t.blocks in
    let answer = c.advance_from_payload.result in
    let same : (prefix ++ header_text header) ++ c.clear.new.self.items ≡ stream_of t =
    ap (λ h. (prefix ++ header_text header) ++ h) c.clear.ensures.items ∙ append-nil (prefix ++ header_text header)
    ∙ ap (λ h. prefix ++ h) text ∙ sym (stream_of-at t InHeader c.requires.part) in
    record {
      advanced = subst (λ s. IfOk answer (RunsTo s c.advance_from_payload.new.self)) same c.advance_from_payload.ensures.advanced;
      blocks = c.advance_from_payload.ensures.blocks;
      refused = subst (λ s. IfErr answer (RefusesBy s)) same c.advance_from_payload.ensures.refused;
    }
