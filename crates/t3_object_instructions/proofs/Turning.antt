-- Operands that were turned over, as arguments.
use Rattle.std.proofs.Common.{◌≡◌, ℕ, List, [], ◌++◌, reverse, take, drop, length, Bool, true, false, nat_lt, refl, sym, ap, ◌∙◌, append-nil, arith}
use Rattle.std.proofs.lemmas.List.{length-reverse, length-take, reverse-reverse, take_all, drop_all, take_at, drop_at}
use Rattle.std.proofs.lemmas.Bool.{ltb-false, ltb-true}
use Rattle.t3_holder.specs.declared.holder.Holder.{Holder}
use Rattle.t3_frames.specs.Frame.{turned}

module _ (count : ℕ) (operands : List Holder) where
  abbrev front : List Holder
  front = reverse (take count operands)

  long : length front ≡ length (take count operands)
  long = length-reverse (take count operands)

  pub take-turned : take count (turned count operands) ≡ reverse (take count operands)
  take-turned = by (nat_lt (length operands) count) refl
    where
      by : (b : Bool) → nat_lt (length operands) count ≡ b → take count (turned count operands) ≡ front
      by true few =
          let less = ltb-true (length operands) count few in
          let none : drop count operands ≡ [] = drop_all count operands (omega (arith, less)) in
          ap (λ rest. take count (front ++ rest)) none ∙ ap (take count) (append-nil front)
          ∙ take_all count front (omega (arith, long, length-take count operands))
      by false enough =
          let less = ltb-false (length operands) count enough in
          take_at front (drop count operands) count (omega (arith, less, long, length-take count operands))

  pub drop-turned : drop count (turned count operands) ≡ drop count operands
  drop-turned = by (nat_lt (length operands) count) refl
    where
      by : (b : Bool) → nat_lt (length operands) count ≡ b → drop count (turned count operands) ≡ drop count operands
      by true few =
          let less = ltb-true (length operands) count few in
          let none : drop count operands ≡ [] = drop_all count operands (omega (arith, less)) in
          ap (λ rest. drop count (front ++ rest)) none ∙ ap (drop count) (append-nil front)
          ∙ drop_all count front (omega (arith, long, length-take count operands)) ∙ sym none
      by false enough =
          let less = ltb-false (length operands) count enough in
          drop_at front (drop count operands) count (omega (arith, less, long, length-take count operands))

  -- what is shown of them is the arguments, the first one first
  pub shown-turned : (shown : List Holder) → reverse shown ≡ take count (turned count operands) → shown ≡ take count operands
  shown-turned shown is =
      sym (reverse-reverse shown) ∙ ap reverse (is ∙ take-turned) ∙ reverse-reverse (take count operands)
