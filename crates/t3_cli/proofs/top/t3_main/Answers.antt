use Rattle.std.proofs.Common.{subst}
use Rattle.std.specs.Prelude.{IfSome, map, string_bytes}
use Rattle.t3_words.specs.Verbs.{command_of}
use Rattle.t3_cli.specs.Inner.Following.{Answers}
use Rattle.t3_cli.proofs.Answered.{whole_of, cut_of, causes_of, usage_answers, shown_some}
use Rattle.t3_cli.proofs.top.t3_main.Goals as goal

-- what is answered where the words are no command
no_command : (g : _) (c : goal.After-end_with g) → IfSome (g.D.Depot.files c.args.depot.now) (λ files.
    Answers (command_of (map string_bytes c.args.words.now)) files (g.C.Console.session c.args.console.now) c.end_with.result (g.D.Depot.files c.args.depot.now) (g.C.Console.session c.end_with.new.console))
no_command g c =
    let all = g.D.Depot.files c.args.depot.now in
    let before = g.C.Console.session c.args.console.now in
    let after = g.C.Console.session c.end_with.new.console in
    subst (λ command. IfSome all (λ files. Answers command files before c.end_with.result all after)) c.in-None.ensures.command
    (usage_answers all before after c.end_with.result c.end_with.ensures.shown)

-- and where they are one
some_command : (g : _) (c : goal.After-carry_out g) → IfSome (g.D.Depot.files c.args.depot.now) (λ files.
    Answers (command_of (map string_bytes c.args.words.now)) files (g.C.Console.session c.args.console.now) c.carry_out.result (g.D.Depot.files c.carry_out.new.depot) (g.C.Console.session c.carry_out.new.console))
some_command g c =
    let all = g.D.Depot.files c.args.depot.now in
    let before = g.C.Console.session c.args.console.now in
    subst (λ command. IfSome all (λ files. Answers command files before c.carry_out.result (g.D.Depot.files c.carry_out.new.depot) (g.C.Console.session c.carry_out.new.console))) c.in-Some.ensures.command
    c.carry_out.ensures.answers

pub returns-in-None-clause-whole : goal.returns-in-None-clause-whole
returns-in-None-clause-whole g c = whole_of _ (g.D.Depot.files c.args.depot.now) _ _ _ _ (no_command g c)

pub returns-in-None-clause-cut : goal.returns-in-None-clause-cut
returns-in-None-clause-cut g c = cut_of _ (g.D.Depot.files c.args.depot.now) _ _ _ _ (no_command g c)

pub returns-in-None-clause-causes : goal.returns-in-None-clause-causes
returns-in-None-clause-causes g c = causes_of _ (g.D.Depot.files c.args.depot.now) _ _ _ _ (no_command g c)

pub returns-in-None-clause-moved : goal.returns-in-None-clause-moved
returns-in-None-clause-moved g c = shown_some _ _ _ _ _ c.end_with.ensures.shown

pub returns-in-Some-clause-whole : goal.returns-in-Some-clause-whole
returns-in-Some-clause-whole g c = whole_of _ (g.D.Depot.files c.args.depot.now) _ _ _ _ (some_command g c)

pub returns-in-Some-clause-cut : goal.returns-in-Some-clause-cut
returns-in-Some-clause-cut g c = cut_of _ (g.D.Depot.files c.args.depot.now) _ _ _ _ (some_command g c)

pub returns-in-Some-clause-causes : goal.returns-in-Some-clause-causes
returns-in-Some-clause-causes g c = causes_of _ (g.D.Depot.files c.args.depot.now) _ _ _ _ (some_command g c)
