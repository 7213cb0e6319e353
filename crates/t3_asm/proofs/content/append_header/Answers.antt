use Rattle.t3_asm.proofs.Steps.{six_more}
use Rattle.t3_asm.proofs.content.append_header.Goals as goal

pub returns : goal.returns
returns c =
    six_more c.append_bytes.result _ _ _ _ _ _ _ _ _ _ _ _ _ c.in_ok-append_number.ensures c.in_ok-append_number-2.ensures
    c.in_ok-append_number-3.ensures c.in_ok-append_number-4.ensures c.in_ok-append_number-5.ensures c.append_bytes.ensures
