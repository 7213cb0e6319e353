-- Objects by their numbers, what stands in their cells, and how old contents are put back.
use Rattle.std.specs.Prelude.{◌≡◌, ℕ, Bool, false, ◌&&◌, List, [], ◌∷◌, Option, None, Some, nat_lt}
use Rattle.std.specs.Ordering.{nat_cmp, eq_by_cmp}
use Rattle.std.specs.List.{list_any}
use Rattle.std.specs.declared.cmp.Ordering.{Ordering}
use Rattle.std.specs.FinMap.{FinMap, get, insert, remove, retain_keys}
use Rattle.t3_undo.specs.Cell.{cell_cmp}
use Rattle.t3_undo.specs.Content.{Parts}
use Rattle.t3_undo.specs.Present.{Present}
use Rattle.t3_undo.specs.declared.cell.Cell.{Cell}

module _ {K X : Type 0} {R : K → K → Ordering} where
  -- the map with this value at the key, or without the key
  unfoldable pub set_at : FinMap R X → K → Option X → FinMap R X
  set_at m k (Some v) = insert m k v
  set_at m k None = remove m k

  abbrev pub adjusted : FinMap R X → K → (X → X) → Option X → FinMap R X
  adjusted m k f None = m
  adjusted m k f (Some v) = insert m k (f v)

  -- the map with the value at the key changed, if there is one
  unfoldable pub adjust : FinMap R X → K → (X → X) → FinMap R X
  adjust m k f = adjusted m k f (get m k)

-- objects by their numbers: of each what never changes, its shape, and its parts
abbrev pub Objects : Type 0 → Type 0
Objects S = FinMap nat_cmp (S × Parts)

-- an object with one cell set, or without it
abbrev pub with_part : {S : Type 0} → Cell → Option Present → S × Parts → S × Parts
with_part cell content x = (x.0, set_at x.1 cell content)

-- the objects with one cell of one object set
abbrev pub set_cell : {S : Type 0} → Objects S → ℕ → Cell → Option Present → Objects S
set_cell objects number cell content = adjust objects number (with_part cell content)

abbrev pub part_of : {S : Type 0} → Option (S × Parts) → Cell → Option Present
part_of None cell = None
part_of (Some x) cell = get x.1 cell

-- what stands in a cell of an object
abbrev pub part_at : {S : Type 0} → Objects S → ℕ → Cell → Option Present
part_at objects number cell = part_of (get objects number) cell

-- what stood in a cell of an object before it was changed, and the stamp that the cell's place had then
pub record OldPart : Type 0 where
  pub number : ℕ
  pub cell : Cell
  pub old : Option Present
  pub stamp : ℕ

-- whether this is a record of that cell
abbrev pub is_of : ℕ → Cell → OldPart → Bool
is_of number cell part = eq_by_cmp nat_cmp number part.number && eq_by_cmp cell_cmp cell part.cell

-- whether a cell has a record
abbrev pub is_noted : ℕ → Cell → List OldPart → Bool
is_noted number cell parts = list_any (is_of number cell) parts

-- no cell has two records
abbrev pub AreApart : List OldPart → Type 0
AreApart [] = Unit {0}
AreApart (part ∷ parts) = (is_noted part.number part.cell parts ≡ false) × AreApart parts

-- old contents put back, in the list's order
unfoldable pub put_back : {S : Type 0} → Objects S → List OldPart → Objects S
put_back objects [] = objects
put_back objects (part ∷ parts) = put_back (set_cell objects part.number part.cell part.old) parts

-- the objects numbered below
abbrev pub below : {S : Type 0} → ℕ → Objects S → Objects S
below next objects = retain_keys objects (λ number. nat_lt number next)

-- of a savepoint: its serial, which is how many had been made with it; the number that was next then; and what was
-- changed first since, the newest change first
pub record Segment : Type 0 where
  pub serial : ℕ
  pub next : ℕ
  pub records : List OldPart

-- the objects as they were at the savepoint: old contents are put back, and what was made since is taken away
abbrev pub before : {S : Type 0} → Objects S → Segment → Objects S
before objects segment = below segment.next (put_back objects segment.records)

-- the objects as they were at each savepoint, the newest first, each from those of the next newer one
unfoldable pub copies : {S : Type 0} → Objects S → List Segment → List (Objects S)
copies objects [] = []
copies objects (segment ∷ segments) = before objects segment ∷ copies (before objects segment) segments
