-- A play from its first step to its end, and what of it stands after a failure.
use Rattle.std.proofs.Common.{◌≡◌, ℕ, ◌+◌, List, [], ◌∷◌, ◌++◌, Option, Result, Ok, Err, refl, sym, ap, subst, ◌∙◌, arith}
use Rattle.t3_io.specs.Files.{Files}
use Rattle.t3_io.specs.Session.{Session}
use Rattle.t3_io.specs.declared.refusal.DeviceRefusal.{DeviceRefusal}
use Rattle.std.proofs.lemmas.List.{append-nil}
use Rattle.t3_console.specs.Page.{PageValue, HasTaken}
use Rattle.t3_console.specs.Output.{close_out}
use Rattle.t3_lines.specs.Reader.{ReaderValue, new_reader}
use Rattle.t3_load.specs.Loading.{ProgramValue}
use Rattle.t3_interp.specs.declared.event.Event.{Event}
use Rattle.t3_interp.specs.declared.event.Event.TheVariants.{Went, Said, WantLine, WantPut, WantGet, Ended}
use Rattle.t3_interp.specs.Wanting.{WantsOn}
use Rattle.t3_interp.proofs.Runs.{wants_gone}
use Rattle.t3_interp.specs.Machine.{State, MachineValue, initial}
use Rattle.t3_interp.specs.Step.{Goes}
use Rattle.t3_run.specs.declared.screen.Screen.{Screen}
use Rattle.t3_run.specs.declared.stop.Stop.{Stop}
use Rattle.t3_run.specs.declared.stop.Stop.TheVariants.{NoStep}
use Rattle.t3_run.specs.declared.stop.RunEnd.{RunEnd}
use Rattle.t3_run.specs.declared.refusal.RunRefusal.{RunRefusal}
use Rattle.t3_run.specs.Act.{Shows}
use Rattle.t3_run.specs.Showing.{ShowsMore, ShowsPrefixOf}
use Rattle.t3_run.specs.EndLines.{end_line}
use Rattle.t3_run.specs.Run.{Ran, stopped}
use Rattle.t3_run.specs.Running.{Outside, outside, end_at, HasRun, HasRunInto, IsRun}
use Rattle.t3_run.specs.Cause.{depot_refusal, console_refusal, IsDepotFault, IsFault, IsNoDepotFault}
use Rattle.t3_run.proofs.Cutting.{behind_as}
use Rattle.t3_run.specs.Inner.Playing.{Shifts, Play, HasPlayed, world_of, StepsLeft, EventLeft, StopLeft, IsPageOf, Turns, HasTurned, HasFinished, HasEnded, IsAt, told_as}
use Rattle.t3_run.specs.declared.turn.Turn.{Turn}
use Rattle.t3_run.specs.declared.turn.Turn.TheVariants as turns
use Rattle.t3_run.proofs.PlayedActs.{played-more, played-into, played-all, shifted-into}
use Rattle.t3_run.proofs.PlayedRests.{played-none, played-gone, steps-into, played-last, last_ran, Nothing, stop-behind}
use Rattle.t3_run.proofs.PlayedTurns.{text_alone}

-- ---- an answer, as it was matched

-- what was matched
pub as-event : (play : Play) (left : ℕ) (event is : Event) (state : State) (text : List ℕ) (count : ℕ) (pending : List ℕ) (reader : ReaderValue)
    (now : Outside) → event ≡ is → HasPlayed play (EventLeft play left event (world_of state text reader.given)) count pending reader now
    → HasPlayed play (EventLeft play left is (world_of state text reader.given)) count pending reader now
as-event play left event is state text count pending reader now same played =
    subst (λ (e : Event). HasPlayed play (EventLeft play left e (world_of state text reader.given)) count pending reader now) same played

pub turned-err : {E : Type 0} (Faulted : E → Type 0) (play : Play) (left : ℕ) (screen : Screen) (reader : ReaderValue) (now : Outside)
    (answer : Result Turn E) (e : E) → answer ≡ Err e → HasRunInto (Faulted e) play.program play.steps play.width play.before now
    → HasTurned Faulted play left screen reader now answer
turned-err {E} Faulted play left screen reader now answer e is into =
    subst (λ (r : Result Turn E). HasTurned Faulted play left screen reader now r) (sym is) into

pub finished-err : {E : Type 0} (Faulted : E → Type 0) (play : Play) (left : ℕ) (text : List ℕ) (reader : ReaderValue) (now : Outside)
    (answer : Result Turn E) (e : E) → answer ≡ Err e → HasRunInto (Faulted e) play.program play.steps play.width play.before now
    → HasFinished Faulted play left text reader now answer
finished-err {E} Faulted play left text reader now answer e is into =
    subst (λ (r : Result Turn E). HasFinished Faulted play left text reader now r) (sym is) into

pub ended-err : (play : Play) (screen : Screen) (now : Outside) (answer : Result (MachineValue × Stop) RunRefusal) (e : RunRefusal)
    → answer ≡ Err e → HasRunInto (IsDepotFault e) play.program play.steps play.width play.before now → HasEnded play screen now answer
ended-err play screen now answer e is into = subst (λ (r : Result (MachineValue × Stop) RunRefusal). HasEnded play screen now r) (sym is) into

-- what an instruction came to that waited is what the turn did
pub finished-turns : {E : Type 0} (Faulted : E → Type 0) (play : Play) (left : ℕ) (text : List ℕ) (screen : Screen) (reader : ReaderValue) (now : Outside)
    (answer : Result Turn E) → IsPageOf play screen text → screen.out.items ≡ [] → HasFinished Faulted play left text reader now answer
    → HasTurned Faulted play left screen reader now answer
finished-turns Faulted play left text screen reader now (Ok turn) page none finished =
    (text, page, subst (λ (pending : List ℕ). Turns play left text pending reader now turn) (sym none) finished)
finished-turns Faulted play left text screen reader now (Err e) page none into = into

pub into-told : {F G : Type 0} (play : Play) (now : Outside) → (F → G) → HasRunInto F play.program play.steps play.width play.before now
    → HasRunInto G play.program play.steps play.width play.before now
into-told play now told into = record {
  ran = into.ran;
  run = into.run;
  done = into.done;
  rest = into.rest;
  acts_are = into.acts_are;
  said = into.said;
  stops = behind_as told play.before.files into.done into.rest now.files into.said into.stops;
  asks = into.asks;
}

-- told as of a run
turned-told : (told : DeviceRefusal → RunRefusal) (Faulted : DeviceRefusal → Type 0) → ((e : DeviceRefusal) → Faulted e → IsDepotFault (told e))
    → (play : Play) (left : ℕ) (screen : Screen) (reader : ReaderValue) (now : Outside)
    (answer : Result Turn DeviceRefusal) (result : Result Turn RunRefusal) → result ≡ told_as told answer
    → HasTurned Faulted play left screen reader now answer
    → HasTurned IsDepotFault play left screen reader now result
turned-told told Faulted faults play left screen reader now (Ok turn) result is turned =
    subst (λ (r : Result Turn RunRefusal). HasTurned IsDepotFault play left screen reader now r) (sym is) turned
turned-told told Faulted faults play left screen reader now (Err e) result is into =
    subst (λ (r : Result Turn RunRefusal). HasTurned IsDepotFault play left screen reader now r) (sym is) (into-told play now (faults e) into)

pub depot-told : (play : Play) (left : ℕ) (screen : Screen) (reader : ReaderValue) (now : Outside)
    (answer : Result Turn DeviceRefusal) (result : Result Turn RunRefusal) → result ≡ told_as depot_refusal answer
    → HasTurned IsFault play left screen reader now answer → HasTurned IsDepotFault play left screen reader now result
depot-told = turned-told depot_refusal IsFault (λ e is. ap depot_refusal is)

pub console-told : (play : Play) (left : ℕ) (screen : Screen) (reader : ReaderValue) (now : Outside)
    (answer : Result Turn DeviceRefusal) (result : Result Turn RunRefusal) → result ≡ told_as console_refusal answer
    → HasTurned IsNoDepotFault play left screen reader now answer → HasTurned IsDepotFault play left screen reader now result
console-told = turned-told console_refusal IsNoDepotFault (λ e never. absurd never)

-- a page that wasn't touched
pub still_page : (play : Play) (old new : Screen) (text : List ℕ) → new.page ≡ old.page → IsPageOf play old text → IsPageOf play new text
still_page play old new text same page = record {
  taken = subst (λ (p : PageValue). HasTaken p text) (sym same) page.taken;
  width = ap (λ (p : PageValue). p.width) same ∙ page.width;
}

-- what was pending is shown, or a prefix of it
pub shown_all : (before after : Option Session) (pending left : List ℕ) → ShowsMore before after pending → left ≡ []
    → Shifts before after pending [] left
shown_all before after pending left shows none = record {
  said = pending;
  is = ap (λ t. pending ++ t) (sym none);
  shows = shows;
}

pub shown_some : (before after : Option Session) (pending : List ℕ) → ShowsPrefixOf before after pending
    → (left : List ℕ) × Shifts before after pending [] left
shown_some before after pending prefix = (
  prefix.prefix.rest,
  record {
    said = prefix.said;
    is = append-nil pending ∙ prefix.prefix.is ∙ ap (λ t. t ++ prefix.prefix.rest) (sym prefix.prefix.said_is);
    shows = prefix.shows;
  },
)

-- ---- the steps

wants_still : (program : ProgramValue) (steps : ℕ) (event : Event) (state : State) → WantsOn program steps event state
    → (state.steps ≡ steps) × WantsOn program state.steps event state
wants_still program steps Went state (is, wants) = (is, (refl, wants))
wants_still program steps (Said text) state (is, wants) = (is, (refl, wants))
wants_still program steps WantLine state (is, wants, framed) = (is, (refl, wants, framed))
wants_still program steps (WantPut name bytes) state (is, wants, framed, put) = (is, (refl, wants, framed, put))
wants_still program steps (WantGet name) state (is, wants, framed) = (is, (refl, wants, framed))
wants_still program steps (Ended end) state is = (is, refl)

-- nothing was done yet, by a reader that has taken nothing and a page that has
pub begun-at : (play : Play) (machine : MachineValue) (screen : Screen) (reader : ReaderValue) → machine.program ≡ play.program
    → machine.state ≡ initial machine.program → screen.out.items ≡ [] → reader ≡ new_reader
    → IsAt play play.steps machine [] screen.out.items reader play.before
begun-at play machine screen reader own begun none new =
    let state : machine.state ≡ initial play.program = begun ∙ ap initial own in
    let steps : machine.state.steps ≡ 0 = ap (λ (s : State). s.steps) begun in
    let Come : List ℕ → ReaderValue → Type 0 =
    λ pending r. HasPlayed play (StepsLeft play play.steps (world_of machine.state [] r.given)) r.given pending r play.before in
    record {
      program = own;
      wants = ap (λ (s : State). s.wants) begun;
      made = omega (arith, steps);
      played =
          subst (λ (pending : List ℕ). Come pending reader) (sym none)
          (subst (λ (r : ReaderValue). Come [] r) (sym new) (played-none play machine.state state));
    }

-- so many steps were made, with what a machine wants behind them
pub record IsGone (play : Play) (left : ℕ) (machine : MachineValue) (event : Event) (text pending : List ℕ) (reader : ReaderValue) (now : Outside) : Type 0 where
  pub own : machine.program ≡ play.program
  pub made : machine.state.steps + left ≡ play.steps
  pub wants : WantsOn machine.program machine.state.steps event machine.state
  pub played : HasPlayed play (EventLeft play left event (world_of machine.state text reader.given)) reader.given pending reader now

pub at-gone : (play : Play) (left made next : ℕ) (old new : MachineValue) (event : Event) (text pending : List ℕ) (reader : ReaderValue)
    (now : Outside) → left ≡ made + next → new.program ≡ old.program
    → Goes old.program made old.state (record { state = new.state; event = event })
    → IsAt play left old text pending reader now → IsGone play next new event text pending reader now
at-gone play left made next old new event text pending reader now is same goes at =
    let after = wants_gone old.program made old.state (record { state = new.state; event = event }) at.wants goes in
    let wants = wants_still old.program (old.state.steps + made) event new.state after in
    let counted = wants.0 in
    let so_far = at.made in
    record {
      own = same ∙ at.program;
      made = omega (arith, is, counted, so_far);
      wants = subst (λ (p : ProgramValue). WantsOn p new.state.steps event new.state) (sym same) wants.1;
      played =
          played-gone play left made next old.program old.state new.state event text reader.given reader.given pending reader now is at.program goes
          at.played;
    }

-- ---- the whole run

-- nothing was done yet
pub unbegun-into : {F : Type 0} (play : Play) → HasRunInto F play.program play.steps play.width play.before play.before
unbegun-into play =
    steps-into play play.steps (world_of (initial play.program) [] 0) 0 [] new_reader play.before (played-none play (initial play.program) refl)

-- it has stopped, and how it did isn't shown
pub stop-into : {F : Type 0} (play : Play) (screen : Screen) (now : Outside) (machine : MachineValue) (stop : Stop) → HasEnded play screen now (Ok (machine, stop))
    → HasRunInto F play.program play.steps play.width play.before now
stop-into play screen now machine stop (text, reader, page, at) =
    played-into play (StopLeft stop (world_of machine.state text at.given)) at.count screen.out.items reader now
    (λ files terms. (stopped terms stop (world_of machine.state text at.given files), refl)) at.played

-- what is shown then is what the run shows
close_shifts : (play : Play) (screen : Screen) (stop : Stop) (text line left : List ℕ) (mid after : Option Session)
    → IsPageOf play screen text → line ≡ end_line stop
    → Shifts mid after screen.out.items (close_out screen.page.width text ++ line) left
    → Shifts mid after screen.out.items (close_out play.width text ++ end_line stop) left
close_shifts play screen stop text line left mid after page line_is shifts =
    subst (λ t. Shifts mid after screen.out.items t left) (λ i. close_out (page.width i) text ++ line_is i) shifts

pub closed-into : {F : Type 0} (play : Play) (screen : Screen) (files : Option Files) (mid after : Option Session) (machine : MachineValue) (stop : Stop)
    (line : List ℕ) → line ≡ end_line stop
    → ((taken : List ℕ) → HasTaken screen.page taken
    → (left : List ℕ) × Shifts mid after screen.out.items (close_out screen.page.width taken ++ line) left)
    → HasEnded play screen (outside files mid) (Ok (machine, stop))
    → HasRunInto F play.program play.steps play.width play.before (outside files after)
closed-into play screen files mid after machine stop line line_is puts (text, reader, page, at) =
    let put = puts text page.taken in
    let shown = close_out play.width text ++ end_line stop in
    shifted-into play (StopLeft stop (world_of machine.state text at.given)) (Nothing stop machine.state) at.count (Shows shown ∷ [])
    screen.out.items shown put.0 reader files mid after refl tt (text_alone shown) (stop-behind play reader stop machine.state text at.given)
    (λ files terms. (last_ran stop machine.state, refl)) at.played
    (close_shifts play screen stop text line put.0 mid after page line_is put.1)

has_run : (play : Play) (stop : Stop) (state : State) (count : ℕ) (reader : ReaderValue) (now : Outside) (ended : RunEnd) → ended ≡ end_at stop state
    → HasPlayed play (Nothing stop state) count [] reader now → HasRun play.program play.steps play.width play.before now ended
has_run play stop state count reader now ended is played =
    let all = played-all play (Nothing stop state) count reader now (last_ran stop state) refl (λ files terms. refl) played in
    record {
      ran = all.0;
      run = all.2;
      end_is = is ∙ ap (λ (r : Ran). end_at r.stop r.last) (sym all.1);
      leaves = all.3;
      asks = all.4;
    }

pub closed-run : (play : Play) (screen : Screen) (files : Option Files) (mid after : Option Session) (machine : MachineValue) (stop : Stop)
    (line left : List ℕ) (ended : RunEnd) → line ≡ end_line stop → left ≡ []
    → ended ≡ end_at stop machine.state
    → ((taken : List ℕ) → HasTaken screen.page taken → Shifts mid after screen.out.items (close_out screen.page.width taken ++ line) left)
    → HasEnded play screen (outside files mid) (Ok (machine, stop))
    → HasRun play.program play.steps play.width play.before (outside files after) ended
closed-run play screen files mid after machine stop line left ended line_is none is puts (text, reader, page, at) =
    let shown = close_out play.width text ++ end_line stop in
    let shifts = close_shifts play screen stop text line left mid after page line_is (puts text page.taken) in
    has_run play stop machine.state at.count reader (outside files after) ended is
    (played-more play (StopLeft stop (world_of machine.state text at.given)) (Nothing stop machine.state) at.count (Shows shown ∷ []) screen.out.items
    shown [] reader files mid after refl tt (text_alone shown) (stop-behind play reader stop machine.state text at.given) at.played
    (subst (λ (pending : List ℕ). Shifts mid after screen.out.items shown pending) none shifts))

-- a turn, as it was matched
pub as-goes : (play : Play) (left : ℕ) (screen : Screen) (reader : ReaderValue) (now : Outside) (turn : Turn) (next : MachineValue)
    → turn ≡ turns.Goes next → (text : List ℕ) × IsPageOf play screen text × Turns play left text screen.out.items reader now turn
    → (text : List ℕ) × IsPageOf play screen text × IsAt play left next text screen.out.items reader now
as-goes play left screen reader now turn next is turned =
    (turned.0, turned.1, subst (λ (t : Turn). Turns play left turned.0 screen.out.items reader now t) is turned.2)

pub as-stops : (play : Play) (left : ℕ) (screen : Screen) (reader : ReaderValue) (now : Outside) (turn : Turn) (machine : MachineValue) (stop : Stop)
    → turn ≡ turns.Stops machine stop → (text : List ℕ) × IsPageOf play screen text × Turns play left text screen.out.items reader now turn
    → HasEnded play screen now (Ok (machine, stop))
as-stops play left screen reader now turn machine stop is turned =
    (turned.0, reader, turned.1, subst (λ (t : Turn). Turns play left turned.0 screen.out.items reader now t) is turned.2)

-- no step is left
pub at-last : (play : Play) (left : ℕ) (machine : MachineValue) (screen : Screen) (text : List ℕ) (reader : ReaderValue) (now : Outside)
    → left ≡ 0 → IsPageOf play screen text → IsAt play left machine text screen.out.items reader now
    → HasEnded play screen now (Ok (machine, NoStep))
at-last play left machine screen text reader now none page at = (
  text,
  reader,
  page,
  record {
    given = reader.given;
    count = reader.given;
    played = played-last play left machine.state text reader.given reader.given screen.out.items reader now none at.played;
  },
)

-- the loop's own words for the run that is carried out
pub ended-of : (play : Play) (program : ProgramValue) (width : ℕ) (screen : Screen) (now : Outside) (machine : MachineValue) (stop : Stop)
    → program ≡ play.program → width ≡ play.width
    → HasEnded (record { program = program; steps = play.steps; width = width; before = play.before }) screen now (Ok (machine, stop))
    → HasEnded play screen now (Ok (machine, stop))
ended-of play program width screen now machine stop same wide ended =
    subst (λ (p : Play). HasEnded p screen now (Ok (machine, stop))) (λ i. record play { program = same i; width = wide i }) ended

pub run-err : (play : Play) (now : Outside) (answer : Result RunEnd RunRefusal) (e : RunRefusal) → answer ≡ Err e
    → HasRunInto (IsDepotFault e) play.program play.steps play.width play.before now → IsRun play.program play.steps play.width play.before now answer
run-err play now answer e is into =
    subst (λ (r : Result RunEnd RunRefusal). IsRun play.program play.steps play.width play.before now r) (sym is) into
