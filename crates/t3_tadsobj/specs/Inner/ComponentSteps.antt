-- What the steps of a walk over components do.
use Rattle.std.specs.Prelude.{◌≡◌, ℕ, ◌<◌, ◌≤◌, ◌⊎◌, true, false, List, [], ◌∷◌, ◌++◌, Option, Some, None, map, length, if◌then◌else◌, nat_eq}
use Rattle.std.specs.List.{list_any, AllByRecursion}
use Rattle.t3_tadsobj.specs.declared.cycles.Mark.{Mark}
use Rattle.t3_tadsobj.specs.declared.cycles.Mark.TheVariants.{Open, Done}
use Rattle.t3_tadsobj.specs.declared.cycles.Task.{Task}
use Rattle.t3_tadsobj.specs.declared.cycles.Task.TheVariants.{Look, Leave}
use Rattle.t3_tadsobj.specs.declared.cycles.Component.{Component}

-- the marks of the numbers that were met
abbrev pub Marked : Type 0
Marked = ℕ → Option Mark

-- the mark of a number that is met at this place, with these superclasses
abbrev pub mark_of : ℕ → Option (List ℕ) → Mark
mark_of place None = Done false
mark_of place (Some supers) = Open place

-- how the path becomes longer by it
abbrev pub path_of : ℕ → Option (List ℕ) → List ℕ
path_of n None = []
path_of n (Some supers) = n ∷ []

-- it is a component by itself
abbrev pub components_of : ℕ → Option (List ℕ) → List Component
components_of place None = []
components_of place (Some supers) = record { start = place; cyclic = false } ∷ []

-- what is to be done of it
abbrev pub tasks_of : ℕ → Option (List ℕ) → List Task
tasks_of place None = []
tasks_of place (Some supers) = Leave place ∷ map (Look place) supers

-- the components that start above a place and the one below them become one, which is cyclic
pub record IsMerged (place : ℕ) (old new : List Component) : Type 0 where
  pub front : List Component
  pub base : Component
  pub popped : List Component
  pub were : old ≡ (front ++ base ∷ []) ++ popped
  pub are : new ≡ front ++ record { start = base.start; cyclic = true } ∷ []
  pub starts : base.start ≤ place
  pub later : AllByRecursion (λ c. place < c.start) popped

-- the numbers of a component are taken off the path, and each is marked as done
pub record IsFinished (component : Component) (path new_path : List ℕ) (old new : Marked) : Type 0 where
  pub members : List ℕ
  pub was : path ≡ new_path ++ members
  pub size : component.start ≤ length path → length new_path ≡ component.start
  pub marks : (n : ℕ) → new n
      ≡ (if list_any (λ m. nat_eq n m) members then Some (Done component.cyclic) else old n)

-- the number at this place is left: as the first of the last component it ends it, or nothing changes
pub record EndsLast (place : ℕ) (old_components components : List Component) (old_path path : List ℕ) (old new : Marked) : Type 0 where
  pub last : Component
  pub starts : last.start ≡ place
  pub were : old_components ≡ components ++ last ∷ []
  pub finished : IsFinished last old_path path old new

pub record EndsNothing (place : ℕ) (old_components components : List Component) (old_path path : List ℕ) (old new : Marked) : Type 0 where
  pub apart : (front : List Component) (last : Component) → old_components ≡ front ++ last ∷ [] → ¬ (last.start ≡ place)
  pub components_same : components ≡ old_components
  pub path_same : path ≡ old_path
  pub marks_same : new ≡ old

abbrev pub IsLeft : ℕ → List Component → List Component → List ℕ → List ℕ → Marked → Marked → Type 0
IsLeft place old_components components old_path path old new =
    EndsLast place old_components components old_path path old new ⊎ EndsNothing place old_components components old_path path old new
