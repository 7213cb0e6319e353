-- What the functions answer that gather lists from blocks.
use Rattle.std.specs.Prelude.{◌≡◌, ℕ, List, ◌++◌, Option, Some, Result, Ok, Err, length, map}
use Rattle.std.specs.Global.{Vec}
use Rattle.t3_blocks.specs.declared.items.Symbol.{Symbol}
use Rattle.t3_holder.specs.declared.holder.Raw.{Raw}
use Rattle.t3_load.specs.declared.refusal.NameRefusal.{NameRefusal}
use Rattle.t3_load.specs.declared.refusal.NameRefusal.TheVariants.{Unknown, NoMemory}
use Rattle.t3_load.specs.Names.{unknown_from}

-- what items mean comes behind what is there; or the index of the first that means nothing, counted from what was there
abbrev pub Appends : {Item Entry : Type 0} → (Item → Option Entry) → List Item → List Entry → List Entry
    → Result (Unit {0}) NameRefusal → Type 0
Appends meaning items old new (Ok _) = map Some new ≡ map Some old ++ map meaning items
Appends meaning items old new (Err (Unknown index)) = unknown_from meaning (length old) items ≡ Some index
Appends meaning items old new (Err NoMemory) = Unit {0}

-- the symbols of a map from names
abbrev pub listed : List (Vec ℕ × Raw) → List Symbol
listed entries = map (λ entry. record { raw = entry.1; name = entry.0.items }) entries
