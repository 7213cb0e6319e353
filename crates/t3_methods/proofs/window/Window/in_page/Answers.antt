use Rattle.std.proofs.Common.{◌≡◌, ◌≢◌, ℕ, List, [], length, sym, ap, subst, arith}
use Rattle.t3_methods.specs.Inner.Window.{Shows}
use Rattle.t3_methods.proofs.window.Window.in_page.Goals as goal

pub returns-clause-shows : goal.returns-clause-shows
returns-clause-shows c =
    let run : List ℕ = c.run.result.now in
    subst (λ (b : List ℕ). Shows c.args.pools.now.code c.args.address b) (sym c.new.ensures.same) (record {
      are = c.new.ensures.are;
      stands = c.run.ensures.stand;
      empty = c.run.ensures.empty;
      bounded = λ some.
          let filled : run ≢ [] = λ none. (let zero : length run ≡ 0 = ap length none in absurd (omega (arith, some, zero))) in
          c.run.ensures.bounded filled;
    })
