use Rattle.std.proofs.Common.{◌-◌, sym, reverse, vec_len, arith}
use Rattle.t3_frames.proofs.Tops.{has_top}
use Rattle.t3_frames.proofs.frames.Frames.top.Goals as goal

pub returns : goal.returns
returns c =
    let items = c.self.inside.values.items in
    has_top items (vec_len c.self.inside.values - c.self.inside.base) c.self.inside.newest (reverse c.self.inside.older.items)
    c.args.self.now
    (c.len-2.result - 1) c.index.result.now c.self.view_is
    (omega (arith, c.len.ensures, c.if-len-self.false)) (omega (
      arith,
      c.len.ensures,
      c.len-2.ensures,
      c.self.inside.values.ok.0,
      c.if-len-self.false,
    ))
    (sym c.index.ensures)
