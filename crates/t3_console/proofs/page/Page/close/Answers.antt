use Rattle.std.proofs.Common.{List, ℕ, true}
use Rattle.t3_console.specs.Rendering.{closed_rendering}
use Rattle.t3_console.specs.Page.{HasTaken, Ends}
use Rattle.t3_console.specs.Inner.Ending.{EndsLine}
use Rattle.t3_console.proofs.Appending.{on_ok}
use Rattle.t3_console.proofs.Pages.{closes}
use Rattle.t3_console.proofs.page.Page.close.Goals as goal

pub returns-clause-ended : goal.returns-clause-ended
returns-clause-ended c =
    let old = c.args.self.now in
    let new = c.end.new.self in
    let before = c.args.out.now.items in
    let after = c.end.new.out.items in
    on_ok c.end.result (EndsLine old new true before after) ((taken : List ℕ) → HasTaken old taken
    → Ends taken (closed_rendering old.width taken) old new before after)
    c.end.ensures.ended (λ ends taken has. closes old new taken before after has ends)
