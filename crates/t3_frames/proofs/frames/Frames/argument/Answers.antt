use Rattle.std.proofs.Common.{◌+◌, ◌-◌, sym, reverse, vec_len, arith}
use Rattle.std.proofs.lemmas.List.{length-reverse}
use Rattle.t3_frames.proofs.Tops.{finds_argument}
use Rattle.t3_frames.proofs.frames.Frames.argument.Goals as goal

pub returns : goal.returns
returns c =
    let items = c.self.inside.values.items in
    let mark = c.self.inside.newest in
    let base = c.self.inside.base in
    finds_argument items (vec_len c.self.inside.values - base) (base - 1 - (mark.locals + c.from-2.result)) mark (reverse
    c.self.inside.older.items)
    c.args.self.now c.args.n c.index.result.now c.self.view_is (omega (arith, c.from.ensures, c.if-from-self.false))
    (omega (
      arith,
      c.self.inside.values.ok.0,
      length-reverse items,
      c.self.invariant.counted,
      c.self.invariant.holds,
      c.from.ensures,
      c.from-2.ensures,
      c.if-from-self.false,
    ))
    (sym c.index.ensures)
