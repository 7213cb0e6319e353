use Rattle.std.proofs.Common.{◌≡◌, ◌-◌, min, List, take, drop, ap, ◌∙◌, reverse, vec_len, arith}
use Rattle.std.proofs.lemmas.List.{length-reverse, take_rest}
use Rattle.t3_holder.specs.declared.holder.Holder.{Holder}
use Rattle.t3_frames.specs.Frame.{FramesValue}
use Rattle.t3_frames.proofs.Tops.{reverse-drop, takes}
use Rattle.t3_frames.proofs.frames.Frames.topmost.Goals as goal

pub returns : goal.returns
returns c =
    let items = c.self.inside.values.items in
    let base = c.self.inside.base in
    let o = vec_len c.self.inside.values - base in
    let shown = c.min-shown.result in
    let from = c.len-2.result - shown in
    let shown_is : shown ≡ min c.args.count o = search arith in
    ap reverse (take_rest c.deref.result.now from) ∙ ap (λ (xs : List Holder). reverse (drop from xs)) c.deref.ensures.value
    ∙ reverse-drop items from shown (omega (
      arith,
      c.len-2.ensures,
      c.self.inside.values.ok.0,
      length-reverse items,
      c.self.invariant.holds,
      shown_is,
    ))
    ∙ ap (λ n. take n (reverse items)) shown_is ∙ takes (reverse items) c.args.count o
    ∙ ap (λ (f : FramesValue). take c.args.count f.newest.operands) c.self.view_is
