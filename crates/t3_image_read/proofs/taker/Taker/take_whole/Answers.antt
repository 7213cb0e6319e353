use Rattle.std.proofs.lemmas.Result.{err_from_is_err_and}
use Rattle.t3_image_read.proofs.Payloads.{whole_added, whole_refused}
use Rattle.t3_image_read.proofs.taker.Taker.take_whole.Goals as goal

pub returns-in_err-placed-clause-refused : goal.returns-in_err-placed-clause-refused
returns-in_err-placed-clause-refused c =
    let p = err_from_is_err_and c.from_residual.result c.from_residual.ensures.1 in
    rw (p.1, p.2)
    (whole_refused c.args.self.now c.count_block.new.self c.args.rest.now c.args.header c.args.kind c.requires.sound c.requires.begins
    c.spelled_block-given.result c.spelled_block-given.ensures.gives c.in_err-placed.field-0.0 c.in_err-placed.ensures)

pub returns-clause-taken : goal.returns-clause-taken
returns-clause-taken c =
    whole_added c.args.self.now c.count_block.new.self c.args.rest.now c.args.header c.args.kind c.requires.sound c.requires.begins
    c.spelled_block-given.result c.spelled_block-given.ensures.gives c.in_ok-placed.placed c.in_ok-placed.ensures
