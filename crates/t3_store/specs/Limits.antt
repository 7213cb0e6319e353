-- Refusals of a store.
use Rattle.t3_store.specs.declared.limits.StoreRefusal.{StoreRefusal}
use Rattle.t3_store.specs.declared.limits.StoreRefusal.TheVariants as refusals

-- want of memory, as a refusal
abbrev pub Wanting : StoreRefusal
Wanting = refusals.NoMemory
