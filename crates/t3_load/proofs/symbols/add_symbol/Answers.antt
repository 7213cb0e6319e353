use Rattle.std.proofs.Common.{◌∙◌, ap, not}
use Rattle.t3_load.proofs.FirstSymbols.{listed-insert}
use Rattle.t3_load.proofs.symbols.add_symbol.Goals as goal

pub returns-in_ok-insert : goal.returns-in_ok-insert
returns-in_ok-insert c =
    listed-insert c.args.named.now.entries c.insert.new.self.entries c.in_ok-from_slice.field-0 c.symbol.inside.0.0 c.as_slice-name.result.now
    c.args.symbol.now c.raw_at.result c.in_ok-insert.ensures.entries c.raw_at.ensures (c.is_none.ensures ∙ ap not c.if-is_none.true)
    c.in_ok-from_slice.ensures.items (ap (λ s. s.raw) c.symbol.view_is) (c.as_slice-name.ensures.value ∙ ap (λ s. s.name) c.symbol.view_is)
