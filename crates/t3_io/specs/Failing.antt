-- Devices in memory that fail at the calls whose numbers they were given.
use Rattle.std.specs.Prelude.{◌≡◌, ◌⊎◌, ℕ, zero, suc, ◌+◌, ◌/◌, Bool, true, false, ◌==◌, if◌then◌else◌, List, [], ◌∷◌, length, take, Result, Ok, Err, refl}
use Rattle.std.specs.List.{list_any}
use Rattle.std.specs.Coded.{Coded, code_by, coded×, coded_ℕ, coded_list}
use Rattle.std.specs.FinMap as map
use Rattle.t3_io.specs.Files.{Files}
use Rattle.t3_io.specs.Session.{Session}
use Rattle.t3_io.specs.declared.refusal.DeviceRefusal.{DeviceRefusal}
use Rattle.t3_io.specs.declared.refusal.DeviceRefusal.TheVariants.{Fault, NoMemory}

-- the numbers of the calls to come that are to fail, where the next call is 0; and how many calls have failed
pub record Calls : Type 0 where
  pub failing : List ℕ
  pub faults : ℕ

-- no call was made yet
abbrev pub no_calls : List ℕ → Calls
no_calls failing = record { failing = failing; faults = 0 }

-- the next call is to fail
abbrev pub is_to_fail : Calls → Bool
is_to_fail calls = list_any (λ number. number == 0) calls.failing

-- the numbers one call later: that of the call just made is gone, and each other is less by one
unfoldable pub numbers_after : List ℕ → List ℕ
numbers_after [] = []
numbers_after (zero ∷ numbers) = numbers_after numbers
numbers_after (suc number ∷ numbers) = number ∷ numbers_after numbers

-- the calls after one more was made
abbrev pub calls_after : Calls → Calls
calls_after calls = record {
  failing = numbers_after calls.failing;
  faults = calls.faults + (if is_to_fail calls then 1 else 0);
}

abbrev pub is_fault : {T : Type 0} → Result T DeviceRefusal → Bool
is_fault (Ok _) = false
is_fault (Err Fault) = true
is_fault (Err NoMemory) = false

-- one more call was made, and its answer is a fault exactly where it was to fail
pub record Counts {T : Type 0} (before after : Calls) (answer : Result T DeviceRefusal) : Type 0 where
  pub counted : after ≡ calls_after before
  pub fails : is_fault answer ≡ is_to_fail before

-- the first half of the bytes, rounded down: never all of them, unless there are none
abbrev pub half : List ℕ → List ℕ
half bytes = take (length bytes / 2) bytes

-- a put that faults leaves the first half of the bytes, or changes nothing where that half found no memory
abbrev pub LeavesHalf : Files → Files → List ℕ → List ℕ → Result (Unit {0}) DeviceRefusal → Type 0
LeavesHalf before after name bytes (Ok _) = Unit {0}
LeavesHalf before after name bytes (Err Fault) = (after ≡ map.insert before name (half bytes)) ⊎ (after ≡ before)
LeavesHalf before after name bytes (Err NoMemory) = Unit {0}

pub record FailingDepot : Type 0 where
  pub files : Files
  pub calls : Calls

pub record FailingConsole : Type 0 where
  pub session : Session
  pub calls : Calls

-- how these are stored: as the tuples of their fields
abbrev pub calls_code : Coded Calls
calls_code =
    code_by (List ℕ × ℕ) (coded× (coded_list coded_ℕ) coded_ℕ) (λ c. (c.failing, c.faults)) (λ p. record {
      failing =
          p.0;
      faults = p.1;
    }) (λ _. refl)

abbrev pub depot_code : Coded FailingDepot
depot_code =
    code_by (Files × Calls) (coded× (map.code (coded_list coded_ℕ) (coded_list coded_ℕ)) calls_code) (λ d. (d.files, d.calls)) (λ p. record {
      files =
          p.0;
      calls = p.1;
    }) (λ _. refl)
