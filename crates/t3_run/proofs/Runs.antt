-- For other crates too: what a run is by its first step, and that there is exactly one.
use Rattle.std.proofs.Common.{◌≡◌, ℕ, zero, suc, ◌+◌, List, [], ◌∷◌, ◌++◌, Option, Some, None, refl, sym, ap, subst, ◌∙◌, append_assoc, arith}
use Rattle.std.specs.FinMap.{get, insert}
use Rattle.std.specs.Option.{option_map}
use Rattle.t3_io.specs.Files.{Files}
use Rattle.t3_files.specs.Reading.{read_bytes}
use Rattle.t3_console.specs.Output.{said_out, rest_out}
use Rattle.t3_lines.specs.Lines.{wanted_line}
use Rattle.t3_lines.specs.declared.line.WantedLine.{WantedLine}
use Rattle.t3_lines.specs.declared.line.WantedLine.TheVariants as lines
use Rattle.t3_load.specs.Loading.{ProgramValue}
use Rattle.t3_interp.specs.declared.event.Event.{Event}
use Rattle.t3_interp.specs.declared.event.Event.TheVariants.{Went, Said, WantLine, WantPut, WantGet, Ended}
use Rattle.t3_interp.specs.declared.event.Input.{Input}
use Rattle.t3_interp.specs.declared.event.Input.TheVariants as inputs
use Rattle.t3_interp.specs.Machine.{State}
use Rattle.t3_interp.specs.Step.{After, Steps, Goes}
use Rattle.t3_interp.proofs.Runs.{one_after, some_after, one_by, some_by}
use Rattle.t3_run.specs.declared.stop.Stop.TheVariants.{Ends, NoStep, NoLine}
use Rattle.t3_run.specs.Act.{Act, Shows, Puts, Asks, with_file}
use Rattle.t3_run.specs.Run.{Terms, World, Ran, preceded_by, stopped, GoesOn, IsAnswered, TakesLine, file_input, GivesFile, RunsOn, Runs}

-- ---- acts in front

pub preceded_by-preceded_by : (a b : List Act) (ran : Ran) → preceded_by a (preceded_by b ran) ≡ preceded_by (a ++ b) ran
preceded_by-preceded_by a b ran = λ i. record ran { acts = sym (append_assoc a b ran.acts) i }

-- ---- a run without a step, and by its first step

pub no_step_left : (terms : Terms) (program : ProgramValue) (world : World) → Runs terms program 0 world (stopped terms NoStep world)
unfolding Runs
no_step_left terms program world = refl

step_and : (terms : Terms) (program : ProgramValue) (left : ℕ) (world : World) (next : State) (event : Event) (ran : Ran)
    → Steps program world.state (record { state = next; event = event })
    → RunsOn (Runs terms program left) terms program event (record world { state = next }) ran → Runs terms program (suc left) world ran
unfolding Runs
step_and terms program left world next event ran steps on = (record { state = next; event = event }, steps, on)

-- so many steps are made, and then what comes of the last
pub go_and : (terms : Terms) (program : ProgramValue) (made left : ℕ) (world : World) (next : State) (event : Event) (ran : Ran)
    → Goes program made world.state (record { state = next; event = event })
    → RunsOn (Runs terms program left) terms program event (record world { state = next }) ran → Runs terms program (made + left) world ran
unfolding Goes
go_and terms program zero left world next event ran goes on =
    let none : left ≡ 0 + left = omega arith in
    subst (λ n. Runs terms program n world ran) none
    (subst (λ (a : After). RunsOn (Runs terms program left) terms program a.event (record world { state = a.state }) ran) goes on)
go_and terms program (suc made) left world next event ran goes on =
    let runs = step_and terms program left (record world { state = goes.0 }) next event ran goes.2 on in
    let more : made + suc left ≡ suc made + left = omega arith in
    subst (λ n. Runs terms program n world ran) more (go_and terms program made (suc left) world goes.0 Went ran goes.1 runs)

by_step : (terms : Terms) (program : ProgramValue) (left : ℕ) (world : World) (after : After) (ran : Ran) → Steps program world.state after
    → Runs terms program (suc left) world ran
    → RunsOn (Runs terms program left) terms program after.event (record world { state = after.state }) ran
unfolding Runs
by_step terms program left world after ran steps runs =
    let same : runs.0 ≡ after = one_after program world.state runs.0 after runs.1 steps in
    subst (λ (a : After). RunsOn (Runs terms program left) terms program a.event (record world { state = a.state }) ran) same runs.2

-- ---- one run

-- the files are told
abbrev HasFiles : World → Type 0
HasFiles world = (files : Files) × (world.files ≡ Some files)

abbrev IsOne : (World → Ran → Type 0) → Type 0
IsOne Rest = (world : World) (a b : Ran) → HasFiles world → Rest world a → Rest world b → a ≡ b

one_going : (Rest : World → Ran → Type 0) → IsOne Rest → (terms : Terms) (event : Event) (world : World) (a b : Ran) → HasFiles world
    → GoesOn Rest terms event world a → GoesOn Rest terms event world b → a ≡ b
one_going Rest one terms Went world a b told on_a on_b = one world a b told on_a on_b
one_going Rest one terms (Said text) world a b told on_a on_b = one world a b told on_a on_b
one_going Rest one terms WantLine world a b told on_a on_b = one world a b told on_a on_b
one_going Rest one terms (WantPut name bytes) world a b told on_a on_b = one world a b told on_a on_b
one_going Rest one terms (WantGet name) world a b told on_a on_b = one world a b told on_a on_b
one_going Rest one terms (Ended end) world a b told on_a on_b = on_a ∙ sym on_b

one_answered : (Rest : World → Ran → Type 0) → IsOne Rest → (terms : Terms) (program : ProgramValue) (input : Input) (world : World) (a b : Ran)
    → HasFiles world → IsAnswered Rest terms program input world a → IsAnswered Rest terms program input world b → a ≡ b
one_answered Rest one terms program input world a b told on_a on_b =
    let same : on_a.0 ≡ on_b.0 = one_by program input world.state on_a.0 on_b.0 on_a.1 on_b.1 in
    let P : After → Type 0 = λ after. GoesOn Rest terms after.event (record world { state = after.state }) a in
    one_going Rest one terms on_b.0.event (record world { state = on_b.0.state }) a b told (subst P same on_a.2) on_b.2

one_line : (Rest : World → Ran → Type 0) → IsOne Rest → (terms : Terms) (program : ProgramValue) (line : WantedLine) (world : World) (a b : Ran)
    → HasFiles world → TakesLine Rest terms program line world a → TakesLine Rest terms program line world b → a ≡ b
one_line Rest one terms program (lines.Line line) world a b told on_a on_b =
    one_answered Rest one terms program (inputs.Line line) (record world { given = world.given + 1 }) a b told on_a on_b
one_line Rest one terms program lines.EndOfInput world a b told on_a on_b = one_answered Rest one terms program inputs.EndOfInput world a b told on_a on_b
one_line Rest one terms program lines.PastLimit world a b told on_a on_b = on_a ∙ sym on_b

-- the file that is wanted is one
one_get : (Rest : World → Ran → Type 0) → IsOne Rest → (terms : Terms) (program : ProgramValue) (name : List ℕ) (world : World) (a b : Ran)
    → HasFiles world → RunsOn Rest terms program (WantGet name) world a → RunsOn Rest terms program (WantGet name) world b → a ≡ b
one_get Rest one terms program name world a b told on_a on_b =
    let Gives : Input → Option Files → Type 0 = λ input files. GivesFile files name input in
    let same : on_a.0 ≡ on_b.0 = subst (Gives on_a.0) told.1 on_a.1 ∙ sym (subst (Gives on_b.0) told.1 on_b.1) in
    one_answered Rest one terms program on_b.0 world a b told
    (subst (λ (input : Input). IsAnswered Rest terms program input world a) same on_a.2) on_b.2

one_on : (Rest : World → Ran → Type 0) → IsOne Rest → (terms : Terms) (program : ProgramValue) (event : Event) (world : World) (a b : Ran)
    → HasFiles world → RunsOn Rest terms program event world a → RunsOn Rest terms program event world b → a ≡ b
one_on Rest one terms program Went world a b told on_a on_b = one world a b told on_a on_b
one_on Rest one terms program (Said text) world a b told on_a on_b =
    on_a.2 ∙ ap (preceded_by (Shows (said_out terms.width world.text text) ∷ [])) (one (record world { text = world.text ++ text }) on_a.0 on_b.0 told on_a.1 on_b.1) ∙ sym on_b.2
one_on Rest one terms program WantLine world a b told on_a on_b =
    let line = wanted_line terms.input world.given in
    on_a.2 ∙ ap (preceded_by (Shows (rest_out terms.width world.text) ∷ Asks ∷ [])) (one_line Rest one terms program line (record world { text = [] }) on_a.0 on_b.0 told on_a.1 on_b.1) ∙ sym on_b.2
one_on Rest one terms program (WantPut name bytes) world a b told on_a on_b =
    let set : HasFiles (record world { files = with_file name bytes world.files }) = (insert told.0 name bytes, ap (with_file name bytes) told.1) in
    on_a.2 ∙ ap (preceded_by (Puts name bytes ∷ [])) (one_answered Rest one terms program inputs.Stored (record world { files = with_file name bytes world.files }) on_a.0 on_b.0 set on_a.1 on_b.1) ∙ sym on_b.2
one_on Rest one terms program (WantGet name) world a b told on_a on_b = one_get Rest one terms program name world a b told on_a on_b
one_on Rest one terms program (Ended end) world a b told on_a on_b = on_a ∙ sym on_b

pub one_run : (terms : Terms) (program : ProgramValue) (left : ℕ) → IsOne (Runs terms program left)
unfolding Runs
one_run terms program zero world a b told runs_a runs_b = runs_a ∙ sym runs_b
one_run terms program (suc left) world a b told runs_a runs_b =
    one_on (Runs terms program left) (one_run terms program left) terms program runs_b.0.event (record world { state = runs_b.0.state }) a b told
    (by_step terms program left world runs_b.0 a runs_b.1 runs_a) runs_b.2

-- ---- some run

abbrev IsSome : (World → Ran → Type 0) → Type 0
IsSome Rest = (world : World) → (ran : Ran) × Rest world ran

some_going : (Rest : World → Ran → Type 0) → IsSome Rest → (terms : Terms) (event : Event) (world : World)
    → (ran : Ran) × GoesOn Rest terms event world ran
some_going Rest some terms Went world = some world
some_going Rest some terms (Said text) world = some world
some_going Rest some terms WantLine world = some world
some_going Rest some terms (WantPut name bytes) world = some world
some_going Rest some terms (WantGet name) world = some world
some_going Rest some terms (Ended end) world = (stopped terms (Ends end) world, refl)

some_answered : (Rest : World → Ran → Type 0) → IsSome Rest → (terms : Terms) (program : ProgramValue) (input : Input) (world : World)
    → (ran : Ran) × IsAnswered Rest terms program input world ran
some_answered Rest some terms program input world =
    let after = some_by program input world.state in
    let on = some_going Rest some terms after.0.event (record world { state = after.0.state }) in
    (on.0, (after.0, after.1, on.1))

some_line : (Rest : World → Ran → Type 0) → IsSome Rest → (terms : Terms) (program : ProgramValue) (line : WantedLine) (world : World)
    → (ran : Ran) × TakesLine Rest terms program line world ran
some_line Rest some terms program (lines.Line line) world =
    some_answered Rest some terms program (inputs.Line line) (record world { given = world.given + 1 })
some_line Rest some terms program lines.EndOfInput world = some_answered Rest some terms program inputs.EndOfInput world
some_line Rest some terms program lines.PastLimit world = (stopped terms NoLine world, refl)

-- some file, or none, is given
some_given : (files : Option Files) (name : List ℕ) → (input : Input) × GivesFile files name input
some_given None name = (inputs.NoFile, tt)
some_given (Some files) name = (file_input (option_map read_bytes (get files name)), refl)

some_on : (Rest : World → Ran → Type 0) → IsSome Rest → (terms : Terms) (program : ProgramValue) (event : Event) (world : World)
    → (ran : Ran) × RunsOn Rest terms program event world ran
some_on Rest some terms program Went world = some world
some_on Rest some terms program (Said text) world =
    let rest = some (record world { text = world.text ++ text }) in
    (preceded_by (Shows (said_out terms.width world.text text) ∷ []) rest.0, (rest.0, rest.1, refl))
some_on Rest some terms program WantLine world =
    let rest = some_line Rest some terms program (wanted_line terms.input world.given) (record world { text = [] }) in
    (preceded_by (Shows (rest_out terms.width world.text) ∷ Asks ∷ []) rest.0, (rest.0, rest.1, refl))
some_on Rest some terms program (WantPut name bytes) world =
    let rest = some_answered Rest some terms program inputs.Stored (record world { files = with_file name bytes world.files }) in
    (preceded_by (Puts name bytes ∷ []) rest.0, (rest.0, rest.1, refl))
some_on Rest some terms program (WantGet name) world =
    let given = some_given world.files name in
    let rest = some_answered Rest some terms program given.0 world in
    (rest.0, (given.0, given.1, rest.1))
some_on Rest some terms program (Ended end) world = (stopped terms (Ends end) world, refl)

pub some_run : (terms : Terms) (program : ProgramValue) (left : ℕ) → IsSome (Runs terms program left)
unfolding Runs
some_run terms program zero world = (stopped terms NoStep world, refl)
some_run terms program (suc left) world =
    let step = some_after program world.state in
    let on = some_on (Runs terms program left) (some_run terms program left) terms program step.0.event (record world { state = step.0.state }) in
    (on.0, (step.0, step.1, on.1))

-- what comes of an event, or of a line that was wanted, is something
pub some_event : (terms : Terms) (program : ProgramValue) (left : ℕ) (event : Event) (world : World)
    → (ran : Ran) × RunsOn (Runs terms program left) terms program event world ran
some_event terms program left event world = some_on (Runs terms program left) (some_run terms program left) terms program event world

pub some_taken : (terms : Terms) (program : ProgramValue) (left : ℕ) (line : WantedLine) (world : World)
    → (ran : Ran) × TakesLine (Runs terms program left) terms program line world ran
some_taken terms program left line world = some_line (Runs terms program left) (some_run terms program left) terms program line world

pub some_answer : (terms : Terms) (program : ProgramValue) (left : ℕ) (input : Input) (world : World)
    → (ran : Ran) × IsAnswered (Runs terms program left) terms program input world ran
some_answer terms program left input world = some_answered (Runs terms program left) (some_run terms program left) terms program input world
