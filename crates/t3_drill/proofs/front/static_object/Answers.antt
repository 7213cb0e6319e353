use Rattle.std.proofs.Common.{◌∙◌, sym, ap}
use Rattle.t3_drill.proofs.Texts.{object_text}
use Rattle.t3_drill.proofs.front.static_object.Goals as goal

pub returns : goal.returns
returns c =
    ap (λ bytes. record { number = c.args.number; bytes = bytes }) c.in_ok-from_slice.ensures.items
    ∙ sym (object_text c.args.number)
