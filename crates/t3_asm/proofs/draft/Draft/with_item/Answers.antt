use Rattle.std.proofs.Common.{◌≡◌, false, ◌∙◌, ap, sym}
use Rattle.t3_asm.specs.Forms.{is_twice}
use Rattle.t3_asm.specs.Inner.Tables.{labels_with, sizes_with}
use Rattle.t3_asm.specs.Places.{labels_of, pool_sizes_of}
use Rattle.t3_asm.proofs.Drafting.{labels_of-push, pool_sizes_of-push}
use Rattle.t3_asm.proofs.draft.Draft.with_item.Goals as goal

pub invariant_of-result : goal.invariant_of-result
invariant_of-result c =
    let items = c.self.inside.items.items in
    let item = c.args.item in
    let pushed = c.in_ok-push.ensures.items in
    let fresh : is_twice items item ≡ false = ap (λ l. is_twice l item) c.self.view_is ∙ c.requires in
    record {
      labels_are =
          c.in_ok-keep_label.ensures ∙ ap (λ l. labels_with l item.keyword item) c.self.invariant.labels_are
          ∙ labels_of-push items item fresh ∙ ap labels_of (sym pushed);
      pools_are =
          c.in_ok-keep_size.ensures ∙ ap (λ l. sizes_with l item.keyword item) c.self.invariant.pools_are
          ∙ pool_sizes_of-push items item ∙ ap pool_sizes_of (sym pushed);
    }
