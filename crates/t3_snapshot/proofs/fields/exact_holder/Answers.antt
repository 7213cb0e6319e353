use Rattle.std.proofs.Common.{arith, sym, ◌∙◌}
use Rattle.t3_holder.specs.declared.holder.Raw.{Raw}
use Rattle.t3_snapshot.proofs.Leaves.{from_means, from_meant_none, from_other_none}
use Rattle.t3_snapshot.proofs.fields.exact_holder.Goals as goal

pub returns-then-raw_of-bits : goal.returns-then-raw_of-bits
returns-then-raw_of-bits c =
    let raw : Raw = record { tag = c.args.tag; bits = c.args.bits } in
    from_means raw c.in-Some.holder c.in-Some.ensures.means (sym c.if-raw_of-bits.true ∙ c.raw_of.ensures.bits)

pub returns-else-raw_of-bits : goal.returns-else-raw_of-bits
returns-else-raw_of-bits c =
    let raw : Raw = record { tag = c.args.tag; bits = c.args.bits } in
    from_other_none raw c.in-Some.holder (omega arith) c.in-Some.ensures.means (λ e. c.if-raw_of-bits.false (c.raw_of.ensures.bits ∙ sym e))

pub returns-in-None : goal.returns-in-None
returns-in-None c =
    let raw : Raw = record { tag = c.args.tag; bits = c.args.bits } in
    from_meant_none raw (omega arith) (λ holder means. let e = c.holder_of.ensures.meant holder means in let n = c.in-None.is in absurd cc)
