use Rattle.std.proofs.Common.{◌≡◌, ℕ, ◌∙◌, suc, ◌-◌, [], ◌∷◌, length, sym, ap, subst, arith}
use Rattle.std.proofs.lemmas.List.{length-append}
use Rattle.t3_load.specs.Inner.Reading.{row_read}
use Rattle.t3_load.proofs.Reading.{behind_items, behind_none, one_read_more, none_read_more, all_read}
use Rattle.t3_load.proofs.rows.take_row.Goals as goal

pub loop-rest-init : goal.loop-rest-init
loop-rest-init g c =
    let read = λ (n : ℕ). row_read g.I.Item.WIDTH g.I.Item.item n c.args.bytes.now in
    let none = c.in_ok-items.ensures.items in (
      omega (arith, ap length none),
      λ left is. subst (λ items. behind_items items (read left) ≡ read c.from-count.result) (sym none)
          (behind_none (read left) ∙ ap read (omega (arith, ap length none, is))),
    )

pub returns-in_default : goal.returns-in_default
returns-in_default g c =
    let items = c.loop-rest.items.items in
    let left = c.from-count.result - length items - 1 in
    ap (λ n. row_read g.I.Item.WIDTH g.I.Item.item n c.args.bytes.now) (sym c.from-count.ensures)
    ∙ sym (c.loop-rest.invariant.1 (suc left) (omega (arith, c.loop-rest-test.true, c.len.ensures)))
    ∙ none_read_more g.I.Item.WIDTH g.I.Item.item items left c.loop-rest.rest.now c.in_default.ensures

pub loop-rest-preserved : goal.loop-rest-preserved
loop-rest-preserved g c =
    let items = c.loop-rest.items.items in
    let pushed = c.in_ok-push.ensures.items in
    let long = length-append items (c.in-Some.item ∷ []) in
    let read = row_read g.I.Item.WIDTH g.I.Item.item in (
      omega (arith, c.loop-rest-test.true, c.len.ensures, ap length pushed, long),
      λ left is. subst (λ all. behind_items all (read left c.in-Some.behind.now) ≡ read c.from-count.result c.args.bytes.now) (sym pushed)
          (one_read_more g.I.Item.WIDTH g.I.Item.item items c.in-Some.item left c.loop-rest.rest.now c.in-Some.behind.now c.in-Some.ensures
          ∙ c.loop-rest.invariant.1 (suc left) (omega (arith, is, ap length pushed, long))),
    )

pub returns : goal.returns
returns g c =
    let none_left = c.loop-rest.invariant.1 0 (omega (arith, c.loop-rest-test.false, c.len.ensures, c.loop-rest.invariant.0)) in
    ap (λ n. row_read g.I.Item.WIDTH g.I.Item.item n c.args.bytes.now) (sym c.from-count.ensures)
    ∙ sym none_left ∙ all_read g.I.Item.WIDTH g.I.Item.item c.loop-rest.items.items c.loop-rest.rest.now
