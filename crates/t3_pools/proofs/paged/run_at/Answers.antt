use Rattle.std.proofs.Common.{◌%◌, [], length, drop, ap, sym, ◌∙◌, arith}
use Rattle.std.proofs.lemmas.Bool.{ltb-false}
use Rattle.std.proofs.lemmas.Option.{slice_get_past, slice_get-get_or}
use Rattle.std.proofs.Math.Seq.{drop-nil}
use Rattle.std.specs.List.{slice_get}
use Rattle.t3_pools.specs.Inner.Keeping.{bytes_of}
use Rattle.t3_pools.proofs.Kept.{run_in-zero, run_in-page}
use Rattle.t3_pools.proofs.paged.run_at.Goals as goal

pub returns-in_default : goal.returns-in_default
returns-in_default c = run_in-zero c.args.size.size c.args.pages.now c.args.address c.in_default.ensures

pub returns-in-Some-get : goal.returns-in-Some-get
returns-in-Some-get c =
    let at = c.in-Some.ensures in
    let l = c.in-Some-get.ensures.lookup in
    let there = ap bytes_of (slice_get-get_or c.args.pages.now c.in-Some.index c.in-Some-get.page.now l.3.0) ∙ sym l.1 in
    let found = ap (λ n. bytes_of (slice_get c.args.pages.now n)) (sym at.1) ∙ there in
    c.from_place.ensures ∙ ap (λ p. drop c.in-Some.place p) c.as_slice.ensures ∙ ap (λ n. drop n c.in-Some-get.page.now) at.2
    ∙ run_in-page c.args.size.size c.args.pages.now c.args.address c.in-Some-get.page.now (omega (arith, at.0)) found

pub returns-in-None : goal.returns-in-None
returns-in-None c =
    let at = c.in-Some.ensures in
    let past = ltb-false c.in-Some.index (length c.args.pages.now) (sym c.in-None.ensures.lookup.0) in
    let none = ap (λ n. bytes_of (slice_get c.args.pages.now n)) (sym at.1) ∙ ap bytes_of (slice_get_past c.args.pages.now c.in-Some.index past) in
    sym (drop-nil (c.args.address % c.args.size.size)) ∙ run_in-page c.args.size.size c.args.pages.now c.args.address [] (omega (arith, at.0)) none
