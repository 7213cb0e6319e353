use Rattle.std.proofs.Common.{◌≡◌, ◌++◌, drop}
use Rattle.std.specs.Option.{option_map}
use Rattle.t3_asm_line.specs.declared.quoted.Due.TheVariants.{AnyByte}
use Rattle.t3_asm_line.specs.Quoted.{text_from}
use Rattle.t3_asm_line.specs.Inner.Escaped.{IsDue}
use Rattle.t3_asm_line.proofs.quoted.text.Given as goal

-- the text so far, and the text of what is left
abbrev pub invariant-loop-at : goal.invariant-loop-at
invariant-loop-at l = record {
  due : IsDue l.due;
  is : option_map (λ more. l.text.items ++ more) (text_from l.due (drop l.at l.bytes)) ≡ text_from AnyByte l.bytes;
}
