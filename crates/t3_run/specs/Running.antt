-- What a run that was carried out has done.
use Rattle.std.specs.Prelude.{◌≡◌, ℕ, List, ◌++◌, length, Option, Result, Ok, Err}
use Rattle.t3_io.specs.Files.{Files}
use Rattle.t3_io.specs.Session.{Session}
use Rattle.t3_store.specs.Store.{changed_cells}
use Rattle.t3_load.specs.Loading.{ProgramValue}
use Rattle.t3_interp.specs.Machine.{State}
use Rattle.t3_run.specs.declared.stop.Stop.{Stop}
use Rattle.t3_run.specs.declared.stop.RunEnd.{RunEnd}
use Rattle.t3_run.specs.declared.refusal.RunRefusal.{RunRefusal}
use Rattle.t3_run.specs.Act.{Act, shown_by, LeavesActs, StopsBehind}
use Rattle.t3_run.specs.Cause.{IsDepotFault}
use Rattle.t3_run.specs.Asking.{IsInput, AsksBy}
use Rattle.t3_run.specs.Run.{Ran, Runs, begun}

-- what the devices tell: a depot of its files, a console of its session
pub record Outside : Type 0 where
  pub files : Option Files
  pub session : Option Session

abbrev pub outside : Option Files → Option Session → Outside
outside files session = record { files = files; session = session }

-- why a run stops, and how many steps were made, savepoints are held and cells were changed since one of them in the state in which it does
abbrev pub end_at : Stop → State → RunEnd
end_at stop state = record {
  stop = stop;
  steps = state.steps;
  held = length state.store.marks;
  records = changed_cells state.store.marks;
}

-- a run with the files that the depot had and the input that the console had left
pub record IsRunOf (program : ProgramValue) (steps width : ℕ) (before : Outside) (ran : Ran) : Type 0 where
  pub input : List ℕ
  pub is_input : IsInput before.session input
  pub runs : Runs (record { width = width; input = input }) program steps (begun program before.files) ran

-- all of a run was carried out
pub record HasRun (program : ProgramValue) (steps width : ℕ) (before after : Outside) (ended : RunEnd) : Type 0 where
  pub ran : Ran
  pub run : IsRunOf program steps width before ran
  pub end_is : ended ≡ end_at ran.stop ran.last
  pub leaves : LeavesActs before.files after.files ran.acts
  pub asks : AsksBy ran.acts before.session after.session (shown_by ran.acts)

-- it was cut short within one of its acts, or after the last, where the depot faulted or not
pub record HasRunInto (Faulted : Type 0) (program : ProgramValue) (steps width : ℕ) (before after : Outside) : Type 0 where
  pub ran : Ran
  pub run : IsRunOf program steps width before ran
  pub done : List Act
  pub rest : List Act
  pub acts_are : ran.acts ≡ done ++ rest
  pub said : List ℕ
  pub stops : StopsBehind Faulted before.files done rest after.files said
  pub asks : AsksBy ran.acts before.session after.session said

abbrev pub IsRun : ProgramValue → (steps width : ℕ) → Outside → Outside → Result RunEnd RunRefusal → Type 0
IsRun program steps width before after (Ok ended) = HasRun program steps width before after ended
IsRun program steps width before after (Err refusal) = HasRunInto (IsDepotFault refusal) program steps width before after
