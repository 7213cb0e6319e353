use Rattle.std.proofs.Common.{arith}
use Rattle.std.proofs.lemmas.Result.{err_from_is_err_and}
use Rattle.t3_image_read.proofs.Steps.{within_part}
use Rattle.t3_image_read.proofs.Payloads.{held_added, held_refused}
use Rattle.t3_image_read.proofs.taker.Taker.advance_from_payload.Goals as goal

pub returns-in_err-placed-clause-refused : goal.returns-in_err-placed-clause-refused
returns-in_err-placed-clause-refused c =
    let t = c.args.self.now in
    let within = within_part t _ c.requires.part c.requires.within in
    let p = err_from_is_err_and c.from_residual.result c.from_residual.ensures.1 in
    rw (p.1, p.2) (held_refused t c.take_held-given.new.self c.count_block.new.self c.args.header c.args.kind c.requires.part c.requires.at
    c.take_held-given.ensures.others (omega (arith, c.len.ensures, t.held.ok.0)) c.take_held-given.result c.take_held-given.ensures.gives
    c.in_err-placed.field-0.0 c.in_err-placed.ensures)

pub returns-clause-advanced : goal.returns-clause-advanced
returns-clause-advanced c =
    let t = c.args.self.now in
    let within = within_part t _ c.requires.part c.requires.within in
    held_added t c.take_held-given.new.self c.count_block.new.self c.args.header c.args.kind c.requires.part c.requires.at
    c.take_held-given.ensures.others (omega (arith, c.len.ensures, t.held.ok.0)) c.take_held-given.result c.take_held-given.ensures.gives
    c.in_ok-placed.placed c.take_held-given.ensures.none c.in_ok-placed.ensures
