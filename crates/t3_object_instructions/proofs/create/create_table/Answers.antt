use Rattle.std.proofs.Common.{◌≡◌, take, refl, ap, ◌∙◌}
use Rattle.t3_frames.specs.Frame.{FramesValue}
use Rattle.t3_ops.specs.Making.{value_of_new}
use Rattle.t3_ops.specs.Creating.{new_table_of}
use Rattle.t3_frame_instructions.specs.declared.context.Core.{Core}
use Rattle.t3_object_instructions.specs.Creating.{arguments, creates}
use Rattle.t3_object_instructions.proofs.Turning.{shown-turned}
use Rattle.t3_object_instructions.proofs.Arguments.{turned-creation}
use Rattle.t3_object_instructions.proofs.create.create_table.Goals as goal

pub returns : goal.returns
returns c =
    let old : Core = c.args.core.now in
    let count = c.args.count in
    let operands = old.frames.newest.operands in
    let shown : c.topmost.result.now ≡ take count operands =
    shown-turned count operands c.topmost.result.now
    (c.topmost.ensures ∙ ap (λ (f : FramesValue). take count f.newest.operands) c.turn_operands.ensures) in
    turned-creation
    (λ context. creates c.args.transient count (new_table_of (arguments count context)) context)
    c.args.transient count (value_of_new c.new_table-made.result) (new_table_of (take count operands)) old
    c.create_made.new.core c.turn_operands.new.self c.create_made.result c.turn_operands.ensures refl
    (c.new_table-made.ensures.made ∙ ap (λ args. new_table_of args) shown) c.create_made.ensures
