use Rattle.std.proofs.Common.{◌<◌, length, get_or, arith, ◌∙◌, ap, min, ◌*◌, ◌+◌, take}
use Rattle.std.specs.Char.{is_digit, digit_value}
use Rattle.std.specs.Str.Parse.{digits_value}
use Rattle.std.proofs.lemmas.Bool.{and_from, lt-ltb}
use Rattle.std.proofs.lemmas.List.Folds.{list_all_more}
use Rattle.std.proofs.lemmas.Int.Digits.{digits_value_more}
use Rattle.t3_asm_line.specs.Inner.Clipped.{far}
use Rattle.t3_asm_line.proofs.Clipping.{near_more}
use Rattle.t3_asm_line.proofs.numbers.natural.Goals as goal

pub loop-digit-preserved : goal.loop-digit-preserved
loop-digit-preserved c =
    let i = c.loop-digit.digit-index in
    let digits = c.args.digits.now in
    let base = c.args.base in
    let inside : i < length digits = omega arith in
    let read = rw c.from.ensures at c.in-Some.ensures.value in
    let step = near_more c.loop-digit.value (digits_value base (take i digits)) base c.in-Some.digit c.loop-digit.invariant.value
    (omega arith) in
    record {
      digits = list_all_more (λ digit. is_digit digit base) digits i 0 inside
          ∙ and_from _ _ c.loop-digit.invariant.digits (lt-ltb (digit_value (get_or digits i 0)) base read.0);
      value = rw (c.min-value.ensures, c.from-in-loop-digit.ensures, c.from-in-loop-digit-2.ensures, digits_value_more base digits i inside)
          (step ∙ ap (λ digit. min (digits_value base (take i digits) * base + digit) far) read.1);
    }
