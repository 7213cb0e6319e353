use Rattle.std.proofs.Common.{take, map, add-one, arith}
use Rattle.t3_asm_line.specs.declared.listing.Listed.TheVariants.{Number}
use Rattle.t3_asm_line.specs.Appending.{argument_of}
use Rattle.t3_asm_line.specs.Keywords.{fields_of}
use Rattle.t3_asm_line.specs.Listing.{spelled_fields}
use Rattle.t3_asm_line.proofs.Appended.{Appends-after, appended_more, spelled_fields_more}
use Rattle.t3_asm_line.proofs.listing.append_fields.Goals as goal

pub returns-in_err-append_field : goal.returns-in_err-append_field
returns-in_err-append_field c =
    Appends-after c.args.out.now.items c.loop-at.out.items c.append_field.new.out.items
    (spelled_fields (take c.loop-at.at (fields_of c.args.keyword)) (map argument_of (take c.loop-at.at c.args.arguments.now))) _
    c.from_residual.result c.from_residual.ensures.0 c.loop-at.invariant c.in_err-append_field.ensures

pub loop-at-preserved : goal.loop-at-preserved
loop-at-preserved c =
    rw add-one
    (appended_more c.args.out.now.items c.loop-at.out.items c.append_field.new.out.items _ _ _ c.in_ok-append_field.ensures c.loop-at.invariant
    (rw (← c.field.ensures) at (spelled_fields_more (fields_of c.args.keyword) c.args.arguments.now c.loop-at.at c.field.result
    (Number 0) (omega arith) (omega arith))))
