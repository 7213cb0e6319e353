use Rattle.std.proofs.Common.{◌≡◌, ◌∙◌}
use Rattle.std.specs.Ordering.{eq_by_cmp, nat_cmp}
use Rattle.std.specs.Cmp.Lexicographic.{slice_cmp, texts_ties}
use Rattle.t3_undo.proofs.key.same_key.Goals as goal

pub returns-in-Text-other : goal.returns-in-Text-other
returns-in-Text-other c =
    let one : c.as_slice.result.now ≡ c.in-Text.bytes = c.as_slice.ensures.value ∙ c.bytes.view_is in
    let other : c.as_slice-in-Text-other.result.now ≡ c.in-Text-other.same = c.as_slice-in-Text-other.ensures.value ∙ c.same.view_is in
    rw (c.in-Text.is, c.in-Text-other.is)
    (c.eq.ensures ∙ texts_ties c.as_slice.result.now c.as_slice-in-Text-other.result.now
    ∙ λ i. eq_by_cmp (slice_cmp nat_cmp) (one i) (other i))
