use Rattle.std.proofs.Common.{◌≡◌, ◌+◌, ◌-◌, ◌<◌, ◌∷◌, ◌++◌, ℕ, List, length, take, drop, get_or, sym, ap, ◌∙◌, arith}
use Rattle.std.proofs.lemmas.List.{drop_more}
use Rattle.t3_holder.specs.NumberText.{little_endian}
use Rattle.t3_methods.proofs.Gathering.{shifted_text, take-word_more, joined}
use Rattle.t3_methods.proofs.window.join.Goals as goal

pub loop-count-preserved : goal.loop-count-preserved
loop-count-preserved c =
    let front : List ℕ = c.args.front.now in
    let back : List ℕ = c.args.back.now in
    let word : ℕ = c.loop-count.word in
    let byte : ℕ = c.from.result in
    let place : ℕ = length front - 1 - c.loop-count.count in
    let inside = c.loop-count-test.true in
    let left : List ℕ = drop (length front - c.loop-count.count) front in
    let is_byte : byte < 256 = omega (arith, c.from.ensures, c.type_inv.front place) in
    let next : place + 1 ≡ length front - c.loop-count.count = omega (arith, inside) in
    let here : length front - (c.loop-count.count + 1) ≡ place = omega arith in
    let more : drop (length front - (c.loop-count.count + 1)) front ≡ byte ∷ left =
    ap (λ (n : ℕ). drop n front) here ∙ drop_more front place 0 (omega (arith, inside))
    ∙ ap (λ (n : ℕ). get_or front place 0 ∷ drop n front) next ∙ ap (λ (n : ℕ). n ∷ left) (sym c.from.ensures) in
    shifted_text word byte (left ++ back) is_byte c.loop-count.invariant ∙ ap (λ (t : List ℕ). take 8 (t ++ back)) (sym more)

pub returns : goal.returns
returns c =
    let front : List ℕ = c.args.front.now in
    let back : List ℕ = c.args.back.now in
    let word : ℕ = c.loop-count.word in
    let none_left : length front - c.loop-count.count ≡ 0 = omega (arith, c.loop-count-test.false) in
    let first : little_endian 8 word ≡ take 8 (front ++ back) =
    c.loop-count.invariant ∙ ap (λ (n : ℕ). take 8 (drop n front ++ back)) none_left in
    take-word_more 2 word c.u16_at.result _ _ _ _ (c.copy_from_slice.ensures.after ∙ c.to_le_bytes.ensures)
    (c.copy_from_slice-2.ensures.after ∙ c.u16_bytes.ensures) (omega arith)
    ∙ joined front back word c.u16_at.result c.requires.few first c.u16_at.ensures
