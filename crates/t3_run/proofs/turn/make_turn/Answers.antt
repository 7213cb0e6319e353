use Rattle.std.proofs.Common.{◌≡◌, ◌∙◌, ℕ, List, [], refl, sym, subst}
use Rattle.t3_interp.specs.declared.event.Event.TheVariants.{Said, WantLine, WantPut, WantGet, Ended}
use Rattle.t3_run.specs.Cause.{IsFault}
use Rattle.t3_run.specs.Running.{outside}
use Rattle.t3_run.specs.Inner.Playing.{HasPlayed, EventLeft, world_of}
use Rattle.t3_run.proofs.PlayedActs.{played-flushed}
use Rattle.t3_run.proofs.PlayedTurns.{event-into}
use Rattle.t3_run.proofs.PlayedRuns.{as-event, finished-turns, depot-told, console-told, still_page, shown_all, shown_some}
use Rattle.t3_run.proofs.turn.make_turn.Goals as goal

pub returns-in-Said-clause-turned : goal.returns-in-Said-clause-turned
returns-in-Said-clause-turned g c play left text page own steps played =
    let state = c.args.machine.state in
    let reader = c.args.lines.now in
    let files = g.D.Depot.files c.args.depot.now in
    let now = outside files (g.C.Console.session c.args.console.now) in
    let said : c.deref.result.now ≡ c.in-Said.text = c.deref.ensures.value ∙ c.text.view_is in
    let matched = as-event play left c.args.event (Said c.in-Said.text) state text reader.given c.args.screen.now.out.items reader now c.in-Said.is played in
    console-told play left c.say.new.screen reader (outside files (g.C.Console.session c.say.new.console)) c.say.result _
    c.on_console.ensures
    (c.say.ensures.turned play left text reader files page own steps
    (subst (λ (t : List ℕ). HasPlayed play (EventLeft play left (Said t) (world_of state text reader.given)) reader.given c.args.screen.now.out.items
    reader now) (sym said) matched))

pub returns-in-WantLine-clause-turned : goal.returns-in-WantLine-clause-turned
returns-in-WantLine-clause-turned g c play left text page own steps played =
    let state = c.args.machine.state in
    let reader = c.args.lines.now in
    let files = g.D.Depot.files c.args.depot.now in
    let now = outside files (g.C.Console.session c.args.console.now) in
    let matched = as-event play left c.args.event WantLine state text reader.given c.args.screen.now.out.items reader now c.in-WantLine.is played in
    console-told play left c.ask.new.screen c.ask.new.lines (outside files (g.C.Console.session c.ask.new.console)) c.ask.result _
    c.on_console-in-WantLine.ensures (c.ask.ensures.turned play left text files page own steps matched)

-- what was pending is shown, and then the file is put
pub returns-in-Ok-clause-turned : goal.returns-in-Ok-clause-turned
returns-in-Ok-clause-turned g c play left text page own steps played =
    let state = c.args.machine.state in
    let reader = c.args.lines.now in
    let files = g.D.Depot.files c.args.depot.now in
    let before = g.C.Console.session c.args.console.now in
    let after = g.C.Console.session c.flush.new.console in
    let old = c.args.screen.now in
    let new = c.flush.new.self in
    let name : c.deref-in-Ok.result.now ≡ c.in-WantPut.name = c.deref-in-Ok.ensures.value ∙ c.name.view_is in
    let bytes : c.deref-in-Ok-2.result.now ≡ c.in-WantPut.bytes = c.deref-in-Ok-2.ensures.value ∙ c.bytes.view_is in
    let matched =
    as-event play left c.args.event (WantPut c.in-WantPut.name c.in-WantPut.bytes) state text reader.given old.out.items reader (outside files before)
    c.in-WantPut.is played in
    let flushed =
    played-flushed play (EventLeft play left (WantPut c.in-WantPut.name c.in-WantPut.bytes) (world_of state text reader.given)) reader.given
    old.out.items [] reader files before after matched (shown_all before after old.out.items [] c.in-Ok.ensures.shown refl) in
    let Put : List ℕ → List ℕ → Type 0 =
    λ n b. HasPlayed play (EventLeft play left (WantPut n b) (world_of state text reader.given)) reader.given [] reader (outside files after) in
    let put : Put c.deref-in-Ok.result.now c.deref-in-Ok-2.result.now =
    subst (λ (n : List ℕ). Put n c.deref-in-Ok-2.result.now) (sym name)
    (subst (λ (b : List ℕ). Put c.in-WantPut.name b) (sym bytes) flushed) in
    let now = outside (g.D.Depot.files c.store_file.new.depot) after in
    depot-told play left new reader now c.store_file.result _ c.on_depot.ensures
    (finished-turns IsFault play left text new reader now c.store_file.result (still_page play old new text c.flush.ensures.page page) c.in-Ok.ensures.out
    (c.store_file.ensures.finished play left text reader after own steps put))

pub returns-in-Err-clause-turned : goal.returns-in-Err-clause-turned
returns-in-Err-clause-turned g c play left text page own steps played =
    let state = c.args.machine.state in
    let reader = c.args.lines.now in
    let files = g.D.Depot.files c.args.depot.now in
    let before = g.C.Console.session c.args.console.now in
    let after = g.C.Console.session c.flush.new.console in
    let pending = c.args.screen.now.out.items in
    let shifts = shown_some before after pending c.in-Err.ensures.shown in
    event-into play left reader state c.args.event text shifts.0 (outside files after)
    (played-flushed play (EventLeft play left c.args.event (world_of state text reader.given)) reader.given pending shifts.0 reader files before after
    played shifts.1)

pub returns-in-WantGet-clause-turned : goal.returns-in-WantGet-clause-turned
returns-in-WantGet-clause-turned g c play left text page own steps played =
    let state = c.args.machine.state in
    let reader = c.args.lines.now in
    let session = g.C.Console.session c.args.console.now in
    let screen = c.args.screen.now in
    let now = outside (g.D.Depot.files c.args.depot.now) session in
    let name : c.deref-in-WantGet.result.now ≡ c.in-WantGet.name = c.deref-in-WantGet.ensures.value ∙ c.name-in-WantGet.view_is in
    let matched = as-event play left c.args.event (WantGet c.in-WantGet.name) state text reader.given screen.out.items reader now c.in-WantGet.is played in
    depot-told play left screen reader (outside (g.D.Depot.files c.give_file.new.depot) session) c.give_file.result _
    c.on_depot-in-WantGet.ensures
    (c.give_file.ensures.turned play left text screen reader session page own steps
    (subst (λ (n : List ℕ). HasPlayed play (EventLeft play left (WantGet n) (world_of state text reader.given)) reader.given screen.out.items reader now)
    (sym name) matched))

pub returns-in-Ended-clause-turned : goal.returns-in-Ended-clause-turned
returns-in-Ended-clause-turned g c play left text page own steps played =
    let reader = c.args.lines.now in (
      text,
      page,
      record {
        given = reader.given;
        count = reader.given;
        played =
            as-event play left c.args.event (Ended c.in-Ended.end) c.args.machine.state text reader.given c.args.screen.now.out.items reader
            (outside (g.D.Depot.files c.args.depot.now) (g.C.Console.session c.args.console.now)) c.in-Ended.is played;
      },
    )
