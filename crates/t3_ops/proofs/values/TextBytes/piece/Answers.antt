use Rattle.std.proofs.Common.{arith}
use Rattle.t3_ops.proofs.Contents.{length-constant-text, bounded-text, piece-constant, piece-ends}
use Rattle.t3_ops.proofs.values.TextBytes.piece.Goals as goal

pub overflow_sub-left : goal.overflow_sub-left
overflow_sub-left c =
    let is = c.from.ensures in
    let within = c.requires.within in
    let long = length-constant-text c.args.pools.now.constants c.args.self c.in-Constant.first c.in-Constant.length
    c.in-Constant.is c.requires.stands in
    omega arith

pub overflow_cast-at : goal.overflow_cast-at
overflow_cast-at c =
    let within = c.requires.within in
    let long = length-constant-text c.args.pools.now.constants c.args.self c.in-Constant.first c.in-Constant.length
    c.in-Constant.is c.requires.stands in
    let below = bounded-text c.args.pools.now.constants c.args.self c.in-Constant.first c.in-Constant.length
    c.in-Constant.is c.requires.stands in
    omega arith

pub overflow_add-first : goal.overflow_add-first
overflow_add-first c =
    let within = c.requires.within in
    let long = length-constant-text c.args.pools.now.constants c.args.self c.in-Constant.first c.in-Constant.length
    c.in-Constant.is c.requires.stands in
    let below = bounded-text c.args.pools.now.constants c.args.self c.in-Constant.first c.in-Constant.length
    c.in-Constant.is c.requires.stands in
    omega arith

pub returns-in-Constant-clause-first : goal.returns-in-Constant-clause-first
returns-in-Constant-clause-first c =
    let is = c.from.ensures in
    let within = c.requires.within in
    let long = length-constant-text c.args.pools.now.constants c.args.self c.in-Constant.first c.in-Constant.length
    c.in-Constant.is c.requires.stands in
    let cut = c.min.ensures in
    piece-constant c.args.pools.now.constants c.args.self c.in-Constant.first c.in-Constant.length c.args.at c.min.result
    c.run-run.result.now c.in-Constant.is c.requires.stands (omega arith) c.run-run.ensures.stand (omega arith)

pub returns-in-Constant-clause-some : goal.returns-in-Constant-clause-some
returns-in-Constant-clause-some c = λ none.
    let is = c.from.ensures in
    let within = c.requires.within in
    let long = length-constant-text c.args.pools.now.constants c.args.self c.in-Constant.first c.in-Constant.length
    c.in-Constant.is c.requires.stands in
    let cut = c.min.ensures in
    piece-ends c.args.pools.now.constants c.args.self c.in-Constant.first c.in-Constant.length c.args.at c.min.result
    c.run-run.result.now c.in-Constant.is c.requires.stands (omega arith) c.run-run.ensures.empty (omega arith) none
