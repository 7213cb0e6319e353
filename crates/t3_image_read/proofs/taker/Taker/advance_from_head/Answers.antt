use Rattle.std.proofs.Common.{◌++◌, length, Some, subst, ap, sym, ◌∙◌, arith}
use Rattle.std.proofs.lemmas.List.{append-nil}
use Rattle.t3_image_read.specs.declared.taker.Part.TheVariants.{InHead}
use Rattle.t3_image_read.specs.ImageText.{prefix_text}
use Rattle.t3_image_read.specs.declared.refusal.ReadRefusal.TheVariants.{At}
use Rattle.t3_image_read.specs.Refusal.{head_place}
use Rattle.t3_image_read.specs.Inner.Faults.{head_why, HasHeadFault}
use Rattle.t3_image_read.specs.Reader.{RefusesBy}
use Rattle.t3_image_read.specs.Inner.Steps.{stream_of}
use Rattle.t3_image_read.proofs.Steps.{at_part, stream_of-at, head_advances, head_refused}
use Rattle.t3_image_read.proofs.taker.Taker.advance_from_head.Goals as goal

pub returns-clause-advanced :
    goal.returns-clause-advanced
returns-clause-advanced c =
    let t = c.args.self.now in
    let head = c.read_head-self.result in
    let text = c.read_head-self.ensures.text ∙ c.deref-2.ensures.value in
    let at = at_part t InHead c.requires.part c.requires.at in
    let whole = head_advances head t.blocks t.held.items c.read_head-self.ensures.head text at.0 in
    let none = c.clear.ensures.items in (
      record { at = record { prefix = whole.prefix; place_is = whole.place }; good = tt; short = omega (arith, ap length none) },
      ap (λ h. prefix_text head t.blocks ++ h) none ∙ append-nil (prefix_text head t.blocks) ∙ whole.is
          ∙ sym (stream_of-at t InHead c.requires.part),
    )

pub returns-in-Some-clause-refused : goal.returns-in-Some-clause-refused
returns-in-Some-clause-refused c =
    let t = c.args.self.now in
    let fault = c.in-Some.fault in
    let why = head_why fault in
    let broken = subst (λ h. HasHeadFault h (Some fault)) c.deref.ensures.value c.in-Some.ensures in
    let refused = subst (λ s. RefusesBy s (At (head_place why) why)) (sym (stream_of-at t InHead c.requires.part))
    (head_refused t.held.items fault broken) in
    subst (λ r. RefusesBy (stream_of t) r) (sym c.refused_head.ensures) refused
