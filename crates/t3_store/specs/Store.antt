-- A store: two finite maps from numbers to values, savepoints as whole copies, and what each call makes of them.
use Rattle.std.specs.Prelude.{◌≡◌, ◌≤◌, ℕ, ◌+◌, ◌-◌, ◌^◌, max, Bool, true, false, ◌&&◌, ◌||◌, not, if◌then◌else◌, List, [], ◌∷◌, Option, None, Some, is_some, is_none, nat_lt, nat_le, length, take, drop, refl}
use Rattle.std.specs.List.{list_any}
use Rattle.std.specs.Ordering.{nat_cmp, eq_by_cmp}
use Rattle.std.specs.FinMap.{get, insert, len, keys}
use Rattle.std.specs.Coded.{Coded, code_by, coded×, coded_ℕ, coded_list}
use Rattle.t3_holder.specs.declared.holder.Holder.{Holder}
use Rattle.t3_undo.specs.Cell.{cell_cmp, coded_cell}
use Rattle.t3_undo.specs.Objects.{adjust}
use Rattle.t3_undo.specs.declared.cell.Cell.{Cell}
use Rattle.t3_store.specs.Value.{Value, Objects, coded_objects, holder_at, with_cell, without_cell, units_of, units_in}
use Rattle.t3_undo.specs.Units.{cell_units}
use Rattle.t3_store.specs.declared.limits.StoreLimits.{StoreLimits}
use Rattle.t3_store.specs.declared.admit.Admit.{Admit}
use Rattle.t3_store.specs.declared.admit.Admit.TheVariants.{Fits, Clash, Full}

-- a savepoint: a whole copy of the persistent objects, the number that was next, and which cells of which objects were
-- changed first since, the newest change first
pub record Mark : Type 0 where
  pub copy : Objects
  pub next : ℕ
  pub changed : List (ℕ × Cell)

-- a store: its objects in two halves, the next number of each, its limits, and the held savepoints, the newest first
pub record StoreValue : Type 0 where
  pub persistent : Objects
  pub transient : Objects
  pub next : ℕ
  pub next_transient : ℕ
  pub limits : StoreLimits
  pub marks : List Mark

-- a store, and how many savepoints and how many writes there were
pub record CountedStore : Type 0 where
  pub store : StoreValue
  pub savepoints : ℕ
  pub writes : ℕ

abbrev coded_mark : Coded Mark
coded_mark =
    code_by (Objects × (ℕ × List (ℕ × Cell))) (coded× coded_objects (coded× coded_ℕ (coded_list (coded× coded_ℕ coded_cell))))
    (λ m. (m.copy, (m.next, m.changed))) (λ t. record { copy = t.0; next = t.1.0; changed = t.1.1 }) (λ _. refl)

abbrev coded_limits : Coded StoreLimits
coded_limits =
    code_by (ℕ × (ℕ × (ℕ × ℕ))) (coded× coded_ℕ (coded× coded_ℕ (coded× coded_ℕ coded_ℕ)))
    (λ l. (l.objects, (l.units, (l.records, l.savepoints))))
    (λ t. record { objects = t.0; units = t.1.0; records = t.1.1.0; savepoints = t.1.1.1 }) (λ _. refl)

abbrev Coding : Type 0
Coding = Objects × (Objects × (ℕ × (ℕ × (StoreLimits × List Mark))))

abbrev coded_store : Coded StoreValue
coded_store =
    code_by Coding
    (coded× coded_objects (coded× coded_objects (coded× coded_ℕ (coded× coded_ℕ (coded× coded_limits (coded_list coded_mark))))))
    (λ s. (s.persistent, (s.transient, (s.next, (s.next_transient, (s.limits, s.marks))))))
    (λ t. record {
      persistent = t.0;
      transient = t.1.0;
      next = t.1.1.0;
      next_transient = t.1.1.1.0;
      limits = t.1.1.1.1.0;
      marks = t.1.1.1.1.1;
    }) (λ _. refl)

abbrev pub coded_counted_store : Coded CountedStore
coded_counted_store =
    code_by (StoreValue × (ℕ × ℕ)) (coded× coded_store (coded× coded_ℕ coded_ℕ)) (λ c. (c.store, (c.savepoints, c.writes)))
    (λ t. record { store = t.0; savepoints = t.1.0; writes = t.1.1 }) (λ _. refl)

-- each limit is at most the greatest, and there is room for a record and a savepoint
pub record AreLimits (limits : StoreLimits) : Type 0 where
  pub objects : limits.objects ≤ 1048576
  pub units : limits.units ≤ 4194304
  pub records : limits.records ≤ 1048576
  pub savepoints : limits.savepoints ≤ 1024
  pub one_record : 1 ≤ limits.records
  pub one_savepoint : 1 ≤ limits.savepoints

-- no object has the number or a greater one
abbrev pub AreBelow : ℕ → Objects → Type 0
AreBelow next objects = (number : ℕ) → next ≤ number → get objects number ≡ None

abbrev pub either : {X : Type 0} → Option X → Option X → Option X
either None other = other
either (Some value) other = Some value

-- the value of a live object: of a persistent one, or else of a transient one
abbrev pub value_at : StoreValue → ℕ → Option Value
value_at s number = either (get s.persistent number) (get s.transient number)

abbrev pub is_persistent : StoreValue → ℕ → Bool
is_persistent s number = is_some (get s.persistent number)

-- how many objects there are, and how many units they count
abbrev pub objects_in : StoreValue → ℕ
objects_in s = len s.persistent + len s.transient

abbrev pub store_units : StoreValue → ℕ
store_units s = units_in s.persistent + units_in s.transient

-- with so many more, one of the two sums would stand above its limit
abbrev pub is_full_with : ℕ → ℕ → StoreValue → Bool
is_full_with objects units s =
    nat_lt s.limits.objects (objects_in s + objects) || nat_lt s.limits.units (store_units s + units)

-- so many of the newest savepoints as have fewer changed cells together than the limit
abbrev pub room_for : ℕ → List Mark → List Mark
room_for limit [] = []
room_for limit (mark ∷ marks) =
    if nat_lt (length mark.changed) limit then mark ∷ room_for (limit - length mark.changed) marks else []

abbrev pub is_change_of : ℕ → Cell → ℕ × Cell → Bool
is_change_of number cell change = eq_by_cmp nat_cmp number change.0 && eq_by_cmp cell_cmp cell change.1

-- a change is due: the object is older than the newest savepoint, since which the cell wasn't changed
abbrev pub is_change_due : ℕ → Cell → List Mark → Bool
is_change_due number cell [] = false
is_change_due number cell (mark ∷ marks) = nat_lt number mark.next && not (list_any (is_change_of number cell) mark.changed)

-- a cell changed since the newest savepoint, if one is held
abbrev pub add_change : ℕ → Cell → List Mark → List Mark
add_change number cell [] = []
add_change number cell (mark ∷ marks) = record mark { changed = (number, cell) ∷ mark.changed } ∷ marks

-- a change that is due is added, after the oldest savepoints have made room for it
abbrev pub changed_in : ℕ → ℕ → Cell → List Mark → List Mark
changed_in limit number cell marks = if is_change_due number cell marks then add_change number cell (room_for limit marks) else marks

-- the change of a persistent object's cell is noted where it is due
abbrev pub noted : ℕ → Cell → StoreValue → StoreValue
noted number cell s =
    if is_persistent s number then record s { marks = changed_in s.limits.records number cell s.marks } else s

-- one object's value changed
abbrev pub with_value : ℕ → (Value → Value) → StoreValue → StoreValue
with_value number change s =
    if is_persistent s number
    then record s { persistent = adjust s.persistent number change }
    else record s { transient = adjust s.transient number change }

-- a cell of an object set
abbrev pub set_cell : ℕ → Cell → Holder → StoreValue → StoreValue
set_cell number cell holder s = with_value number (with_cell cell holder) (noted number cell s)

-- a cell of an object taken away, which is no change where it is absent
abbrev pub taken : ℕ → Cell → StoreValue → StoreValue
taken number cell s =
    if is_some (holder_at (value_at s number) cell) then with_value number (without_cell cell) (noted number cell s) else s

-- a cell is set, and none where that is full: only where it is absent
abbrev pub written : ℕ → Cell → Holder → StoreValue → Option StoreValue
written number cell holder s =
    if is_none (holder_at (value_at s number) cell) && is_full_with 0 (cell_units cell) s then None else Some (set_cell number cell holder s)

-- a cell is set or taken away
abbrev pub after_write : ℕ → Cell → Option Holder → StoreValue → Option StoreValue
after_write number cell None s = Some (taken number cell s)
after_write number cell (Some holder) s = written number cell holder s

-- no number is left in a half
abbrev pub no_number : Bool → StoreValue → Bool
no_number transient s = if transient then nat_le (2 ^ 32) s.next_transient else nat_le (2 ^ 31) s.next

-- the number of the object that is made next
abbrev pub next_number : Bool → StoreValue → ℕ
next_number transient s = if transient then s.next_transient else s.next

-- an object is made with the next number
abbrev pub with_object : Value → Bool → StoreValue → StoreValue
with_object value transient s =
    if transient
    then record s { transient = insert s.transient s.next_transient value; next_transient = s.next_transient + 1 }
    else record s { persistent = insert s.persistent s.next value; next = s.next + 1 }

-- an object is made, and none where that is full
abbrev pub created_in : Value → Bool → StoreValue → Option (ℕ × StoreValue)
created_in value transient s =
    if is_full_with 1 (units_of value) s || no_number transient s then None
    else Some (next_number transient s, with_object value transient s)

-- a store with these objects, and no savepoint
abbrev pub started : StoreLimits → Objects → Objects → ℕ → StoreValue
started limits first passing next = record {
  persistent = first;
  transient = passing;
  next = next;
  next_transient = 2 ^ 31;
  limits = limits;
  marks = [];
}

-- a savepoint copies the objects; where as many are held as may be, the oldest goes
abbrev pub saved : StoreValue → StoreValue
saved s = record s { marks = record { copy = s.persistent; next = s.next; changed = [] } ∷ take (s.limits.savepoints - 1) s.marks }

abbrev pub newest_copy : Objects → List Mark → Objects
newest_copy objects [] = objects
newest_copy objects (mark ∷ marks) = mark.copy

-- an undo gives the newest savepoint's copy, and ends it
abbrev pub undone : StoreValue → StoreValue
undone s = record s { persistent = newest_copy s.persistent s.marks; marks = drop 1 s.marks }

abbrev pub is_held : List Mark → Bool
is_held [] = false
is_held (mark ∷ marks) = true

-- how many cells were changed first since a held savepoint
abbrev pub changed_cells : List Mark → ℕ
changed_cells [] = 0
changed_cells (mark ∷ marks) = length mark.changed + changed_cells marks

-- a number of the state is a transient object's
abbrev pub has_clash : Objects → StoreValue → Bool
has_clash state s = list_any (λ number. is_some (get s.transient number)) (keys state)

-- one of the sums of the state and the transient objects stands above its limit
abbrev pub is_past_limits : Objects → StoreValue → Bool
is_past_limits state s =
    nat_lt s.limits.objects (len state + len s.transient) || nat_lt s.limits.units (units_in state + units_in s.transient)

-- whether a state can take the place of the persistent objects
abbrev pub admit_of : Objects → StoreValue → Admit
admit_of state s = if has_clash state s then Clash else (if is_past_limits state s then Full else Fits)

-- a state in place of the persistent objects, with the greater of both next numbers, and no savepoint
abbrev pub replaced : Objects → ℕ → StoreValue → StoreValue
replaced state next s = record s { persistent = state; next = max s.next next; marks = [] }
