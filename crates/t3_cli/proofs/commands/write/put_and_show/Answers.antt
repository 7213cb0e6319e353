use Rattle.std.proofs.Common.{◌≡◌, ℕ, IfOk, subst}
use Rattle.std.specs.Prelude.{string_bytes}
use Rattle.t3_cli.specs.Lines.{put_line}
use Rattle.t3_cli.proofs.Followed.{put_follows, put_cut}
use Rattle.t3_cli.proofs.commands.write.put_and_show.Goals as goal

pub returns-in-Ok-clause-follows : goal.returns-in-Ok-clause-follows
returns-in-Ok-clause-follows g c bytes is =
    let puts = c.in-Ok.ensures.puts bytes is in
    let line = subst (λ (n : ℕ). IfOk c.put.result (λ l. string_bytes l ≡ put_line n)) puts.0 c.put.ensures in
    put_follows string_bytes (g.D.Depot.files c.args.depot.now) (g.D.Depot.files c.put_text.new.depot) c.args.out.now bytes
    _ _ c.put.result c.answer.result puts.1 line c.answer.ensures.shown

pub returns-in-Err-clause-follows : goal.returns-in-Err-clause-follows
returns-in-Err-clause-follows g c bytes is =
    put_cut (g.D.Depot.files c.args.depot.now) (g.D.Depot.files c.put_text.new.depot) c.args.out.now bytes
    (g.C.Console.session c.args.console.now) c.in-Err.refusal c.depot_status.result c.depot_status.ensures.fault
    (c.in-Err.ensures.puts bytes is) c.depot_status.ensures.cut
