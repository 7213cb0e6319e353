use Rattle.std.proofs.Common.{◌-◌, ◌/◌, ◌%◌, bit_and, ap, sym, ◌∙◌, arith}
use Rattle.std.proofs.lemmas.Nat.{and_mask}
use Rattle.std.proofs.Math.Pow.{pow_pos}
use Rattle.t3_pools.proofs.page_size.PageSize.index_and_place.Goals as goal

pub returns-then-self-lt-BITS : goal.returns-then-self-lt-BITS
returns-then-self-lt-BITS c =
    let address = c.args.address in
    let shift = c.args.self.shift in
    let size = c.args.self.shifts c.if-self-lt-BITS.true in
    let place = ap (λ n. bit_and address (n - 1)) (sym size) ∙ and_mask address shift ∙ ap (λ n. address % n) size in
    (omega (arith, size, pow_pos shift), ap (λ n. address / n) size, place)
