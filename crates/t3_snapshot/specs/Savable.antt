-- When what is left of a state after trimming is sound, said of the state itself.
use Rattle.std.specs.Prelude.{◌≡◌, ◌<◌, ◌≤◌, ◌^◌, ◌⊎◌, ℕ, Some, None, IsTrue}
use Rattle.std.specs.FinMap.{get, len}
use Rattle.std.specs.List.{AllByRecursion}
use Rattle.t3_store.specs.Value.{Value, Objects, units_in}
use Rattle.t3_store.specs.Whole.{IsWhole, supers_in}
use Rattle.t3_snapshot.specs.Layout.{IsSpellable}
use Rattle.t3_snapshot.specs.State.{named_as_keys, can_be_key}

-- a number that a key names was given; and if it is an object's, that can be a key
pub record IsHeldKey (top : ℕ) (objects : Objects) (number : ℕ) : Type 0 where
  pub given : (number < top) ⊎ (2 ^ 31 ≤ number)
  pub able : (get objects number ≡ None) ⊎ IsTrue (can_be_key (get objects number))

-- objects that are a sound state once they are trimmed
pub record IsSavable (top : ℕ) (objects : Objects) : Type 0 where
  pub next : top ≤ 2 ^ 31
  pub numbers : (number : ℕ) (value : Value) → get objects number ≡ Some value → (0 < number) × (number < top)
  pub spellable : (number : ℕ) (value : Value) → get objects number ≡ Some value → IsSpellable value
  pub keys : (number : ℕ) (value : Value) → get objects number ≡ Some value → AllByRecursion (IsHeldKey top objects) (named_as_keys value)
  pub whole : IsWhole (supers_in objects)
  pub few : len objects ≤ 1048576
  pub few_units : units_in objects ≤ 4194304
