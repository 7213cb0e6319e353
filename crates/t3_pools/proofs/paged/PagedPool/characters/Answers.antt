use Rattle.std.proofs.Common.{◌≡◌, ℕ, length, min, length-take, arith}
use Rattle.t3_pools.proofs.Texts.{window-begins, gap-none, no_characters}
use Rattle.t3_pools.proofs.paged.PagedPool.characters.Goals as goal

pub returns-then-fill-clause-begins : goal.returns-then-fill-clause-begins
returns-then-fill-clause-begins c =
    let long : length c.fill.new.window ≡ min c.args.left 4 =
    (let kept = c.fill.auto.window in let took = c.min.ensures in grind (arith, kept, length-take {A = ℕ})) in
    window-begins c.args.self.now.bytes c.args.address c.args.left c.whole_characters.result c.fill.new.window c.if-fill.ensures.fills
    c.whole_characters.ensures c.requires long

pub returns-else-fill-clause-begins : goal.returns-else-fill-clause-begins
returns-else-fill-clause-begins c =
    let long : length c.fill.new.window ≡ min c.args.left 4 =
    (let kept = c.fill.auto.window in let took = c.min.ensures in grind (arith, kept, length-take {A = ℕ})) in
    record {
      within = omega arith;
      whole = no_characters c.args.self.now.bytes c.args.address;
      none = λ none. gap-none c.args.self.now.bytes c.args.address c.args.left (length c.fill.new.window) (omega arith) c.if-fill.ensures.fills;
    }
