-- What the functions that read exception tables answer.
use Rattle.std.specs.Prelude.{◌≡◌, ℕ, List, Option, Some, None, if◌then◌else◌}
use Rattle.t3_pools.specs.Pool.{Pool, HasBytes}
use Rattle.t3_methods.specs.declared.handler.TableEntry.{TableEntry}
use Rattle.t3_methods.specs.ExceptionTable.{Entry, IsEntry, entry_text, HasTable, catches, handler_among}

abbrev pub entry_of : TableEntry → Entry
entry_of entry = record { first = entry.first; last = entry.last; class = entry.class; handler = entry.handler }

-- an entry stands at an address
pub record HasEntry (code : Pool) (at : ℕ) (entry : Entry) : Type 0 where
  pub fits : IsEntry entry
  pub stands : HasBytes code at (entry_text entry)

-- the entry at an address, or none stands there
abbrev pub ReadsEntry : Pool → ℕ → Option TableEntry → Type 0
ReadsEntry code at None = (entry : Entry) → ¬ HasEntry code at entry
ReadsEntry code at (Some entry) = HasEntry code at (entry_of entry)

-- the handler that was found, or else that of an entry which catches
abbrev pub earlier_of : ℕ → ℕ → List ℕ → Option ℕ → Entry → Option ℕ
earlier_of method place classes (Some handler) entry = Some handler
earlier_of method place classes None entry = if catches method place classes entry then Some entry.handler else None

-- the handler by the table at an address, or no table stands there
abbrev pub ReadsTable : Pool → ℕ → ℕ → ℕ → List ℕ → Option (Option ℕ) → Type 0
ReadsTable code table method place classes None = (entries : List Entry) → ¬ HasTable code table entries
ReadsTable code table method place classes (Some found) =
    (entries : List Entry) × (HasTable code table entries × (found ≡ handler_among method place classes entries))
