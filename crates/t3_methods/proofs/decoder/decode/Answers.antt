use Rattle.std.proofs.Common.{◌≢◌, length, sym, arith}
use Rattle.std.proofs.lemmas.Bool.{eqb-false}
use Rattle.t3_methods.proofs.Decoding.{other_there, stands_there, alone_there}
use Rattle.t3_methods.proofs.decoder.decode.Goals as goal

pub returns-in_default-clause-finds : goal.returns-in_default-clause-finds
returns-in_default-clause-finds g c =
    let some : length c.args.window.now.bytes.now ≢ 0 = eqb-false _ _ (sym c.if-is_empty.ensures) in
    other_there c.args.pools.now.code c.ubyte-opcode.result c.args.window.now c.requires (omega (arith, some)) c.ubyte-opcode.ensures
    c.in_default.ensures

pub returns-in_default-instruction_end-clause-finds : goal.returns-in_default-instruction_end-clause-finds
returns-in_default-instruction_end-clause-finds g c =
    let some : length c.args.window.now.bytes.now ≢ 0 = eqb-false _ _ (sym c.if-is_empty.ensures) in
    alone_there c.args.pools.now.code c.ubyte-opcode.result c.args.window.now c.in-Some.row c.requires (omega (arith, some))
    c.ubyte-opcode.ensures c.in-Some.ensures c.in_default-instruction_end.ensures

pub returns-clause-finds : goal.returns-clause-finds
returns-clause-finds g c =
    let some : length c.args.window.now.bytes.now ≢ 0 = eqb-false _ _ (sym c.if-is_empty.ensures) in
    stands_there c.args.pools.now.code c.ubyte-opcode.result c.in-Some-instruction_end.size c.args.window.now c.in-Some.row c.requires
    (omega (arith, some)) c.ubyte-opcode.ensures c.in-Some.ensures c.in-Some-instruction_end.ensures
