use Rattle.std.proofs.Common.{subst}
use Rattle.t3_console.specs.Page.{PageValue, HasTaken, Says}
use Rattle.t3_console.proofs.Pages.{says}
use Rattle.t3_console.proofs.page.Page.say.Goals as goal

pub returns-in-Ok-clause-said : goal.returns-in-Ok-clause-said
returns-in-Ok-clause-said c = λ taken.
    let before = c.args.out.now.items in
    let after = c.say_words.new.out.items in
    let line = c.self.inside.line in
    let page : PageValue = record { width = line.width; column = line.column; word = c.self.inside.word.items } in
    let new : PageValue = record { width = line.width; column = c.in-Ok.column; word = c.say_words.new.word.items } in
    subst (λ (p : PageValue). HasTaken p taken → Says taken c.args.text.now p new before after) c.self.view_is
    (λ has. says page taken c.args.text.now before after c.in-Ok.column c.say_words.new.word.items has c.in-Ok.ensures.put
    c.in-Ok.ensures.after)
