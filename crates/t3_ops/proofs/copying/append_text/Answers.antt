use Rattle.std.proofs.Common.{◌∙◌, drop, arith}
use Rattle.std.proofs.lemmas.List.{length-drop}
use Rattle.t3_ops.specs.References.{bytes_of}
use Rattle.t3_ops.proofs.Fronts.{take_within}
use Rattle.t3_ops.proofs.Appending.{append-piece}
use Rattle.t3_ops.proofs.copying.append_text.Goals as goal

pub pieces-preserved : goal.pieces-preserved
pieces-preserved c =
    let xs = bytes_of c.args.pools.now.constants c.args.text in
    let piece = c.piece-piece.result.now in
    let front = take_within piece (drop c.pieces.at xs) c.piece-piece.ensures.first in
    let long = length-drop c.pieces.at xs in
    let within = c.pieces.invariant.within in
    record {
      appended = c.in_ok-extend_from_slice.ensures.items
          ∙ append-piece c.args.bytes.now.items c.pieces.bytes.items xs piece c.pieces.at c.pieces.invariant.appended
          c.piece-piece.ensures.first;
      within = omega arith;
    }
