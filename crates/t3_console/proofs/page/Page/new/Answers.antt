use Rattle.t3_console.proofs.Pages.{new_page}
use Rattle.t3_console.proofs.page.Page.new.Goals as goal

pub returns : goal.returns
returns c = rw c.new.ensures.items (new_page c.args.width)
