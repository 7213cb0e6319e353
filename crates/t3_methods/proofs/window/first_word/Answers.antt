use Rattle.std.proofs.Common.{◌<◌, ℕ, List, take, get_or, sym, ap, subst, ◌≡◌, length, ◌∙◌, arith}
use Rattle.std.proofs.lemmas.List.{length-take-le}
use Rattle.std.proofs.lemmas.Nat.{le_bytes_8}
use Rattle.t3_methods.proofs.Windows.{AreBytes-each, AreBytes-take, each-AreBytes}
use Rattle.t3_methods.proofs.Gathering.{written_eight}
use Rattle.t3_methods.proofs.window.first_word.Goals as goal

pub returns : goal.returns
returns c =
    let bytes : List ℕ = c.args.bytes.now in
    let eight : List ℕ = c.copy_from_slice.new.self in
    let same : eight ≡ take 8 bytes = c.copy_from_slice.ensures.after in
    let long : length eight ≡ 8 = ap length same ∙ length-take-le 8 bytes (omega (arith, c.requires)) in
    let small : (i : ℕ) → get_or eight i 0 < 256 = subst (λ (b : List ℕ). (i : ℕ) → get_or b i 0 < 256) (sym same)
    (each-AreBytes (take 8 bytes) (AreBytes-take 8 bytes (AreBytes-each bytes (λ i. omega (arith, c.type_inv.bytes i))))) in
    sym (written_eight c.from_le_bytes.result) ∙ le_bytes_8 eight c.from_le_bytes.result long small c.from_le_bytes.ensures ∙ same
