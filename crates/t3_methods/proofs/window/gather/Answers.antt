use Rattle.std.proofs.Common.{List, ℕ, sym, subst}
use Rattle.t3_methods.specs.Inner.Window.{ShowsAll}
use Rattle.t3_methods.proofs.Gathering.{shows_joined}
use Rattle.t3_methods.proofs.window.gather.Goals as goal

pub returns-then-back-ge-WINDOW_SIZE-clause-shows : goal.returns-then-back-ge-WINDOW_SIZE-clause-shows
returns-then-back-ge-WINDOW_SIZE-clause-shows c =
    let code = c.args.pools.now.code in
    let front = c.in_page.result.bytes.now in
    let back = c.in_page-then-front-le-WORD_SIZE.result.bytes.now in
    subst (λ (b : List ℕ). ShowsAll code c.args.address b) (sym c.join.ensures)
    (shows_joined code c.args.address front back c.in_page.ensures.shows c.in_page-then-front-le-WORD_SIZE.ensures.shows
    c.if-back-ge-WINDOW_SIZE.true c.if-front-le-WORD_SIZE.true c.in_page.ensures.beyond)
