use Rattle.std.proofs.Common.{◌≡◌, ◌∷◌, [], sym, ap, ◌∙◌, arith, get_or, ◌+◌}
use Rattle.t3_holder.specs.NumberText.{little_endian, value_of}
use Rattle.t3_holder.proofs.Numbers.{four_at, little_endian-value_of}
use Rattle.t3_holder.proofs.number.u32_at.Goals as goal

pub returns : goal.returns
returns c =
    let xs = c.args.bytes.now in
    let i = c.args.at in
    let text = get_or xs i 0 ∷ get_or xs (i + 1) 0 ∷ get_or xs (i + 2) 0 ∷ get_or xs (i + 3) 0 ∷ [] in
    let says : value_of text ≡ c.from_le_bytes.result = omega (arith, c.from_le_bytes.ensures) in
    four_at xs i c.requires ∙ sym
    (little_endian-value_of text (
      omega (arith, c.type_inv.bytes i),
      (
        omega (arith, c.type_inv.bytes (i + 1)),
        (omega (arith, c.type_inv.bytes (i + 2)), (omega (arith, c.type_inv.bytes (i + 3)), tt)),
      ),
    )) ∙ ap (little_endian 4) says
