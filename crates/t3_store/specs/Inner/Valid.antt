-- Which parts an object of a shape can have while no change is under way.
use Rattle.std.specs.Prelude.{◌≡◌, ◌≤◌, ℕ, List, [], ◌∷◌, length, Some}
use Rattle.std.specs.FinMap.{get, empty}
use Rattle.t3_undo.specs.Content.{Parts}
use Rattle.t3_undo.specs.Objects.{Objects, Segment, before}
use Rattle.t3_tadsobj.specs.Props.{AreProps}
use Rattle.t3_lists.specs.Items.{IsWholeVector}
use Rattle.t3_tables.specs.Entries.{IsWholeTable}
use Rattle.t3_store.specs.Inner.Shapes.{Shape, TadsShape, TextShape, ItemsShape, VectorShape, TableShape}

abbrev pub IsValidAs : Shape → Parts → Type 0
IsValidAs (TadsShape supers class) parts = AreProps parts
IsValidAs (TextShape bytes) parts = (length bytes ≤ 65535) × (parts ≡ empty)
IsValidAs (ItemsShape items) parts = (length items ≤ 65535) × (parts ≡ empty)
IsValidAs VectorShape parts = IsWholeVector parts
IsValidAs TableShape parts = IsWholeTable parts

abbrev pub IsValid : Shape × Parts → Type 0
IsValid thing = IsValidAs thing.0 thing.1

-- each of these objects is
abbrev pub AreValid : Objects Shape → Type 0
AreValid things = (number : ℕ) (thing : Shape × Parts) → get things number ≡ Some thing → IsValid thing

-- and so at each savepoint
abbrev pub AreValidBefore : Objects Shape → List Segment → Type 0
AreValidBefore things [] = Unit {0}
AreValidBefore things (segment ∷ segments) = AreValid (before things segment) × AreValidBefore (before things segment) segments
