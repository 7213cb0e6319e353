use Rattle.std.proofs.Common.{◌≡◌, true, min, take}
use Rattle.std.specs.Char.{is_digit}
use Rattle.std.specs.List.{list_all}
use Rattle.std.specs.Str.Parse.{digits_value}
use Rattle.t3_asm_line.specs.Inner.Clipped.{far}
use Rattle.t3_asm_line.proofs.numbers.natural.Given as goal

-- the digits so far are digits, and the value is theirs up to the limit
abbrev pub invariant-loop-digit : goal.invariant-loop-digit
invariant-loop-digit l = record {
  digits : list_all (λ digit. is_digit digit l.base) (take l.digit-index l.digits) ≡ true;
  value : l.value ≡ min (digits_value l.base (take l.digit-index l.digits)) far;
}
