-- What a method comes to that makes no comparisons.
use Rattle.std.proofs.Common.{ℕ, Result, Ok, Err, sym, ap}
use Rattle.t3_holder.specs.declared.no_memory.NoMemory.{NoMemory}
use Rattle.t3_store.specs.Store.{StoreValue}
use Rattle.t3_ops.specs.declared.fault.Fault.{Fault}
use Rattle.t3_kinds.specs.declared.deed.Deed as code
use Rattle.t3_kinds.specs.Changes.{Deed}
use Rattle.t3_kinds.specs.ListMethods.{with_turns}
use Rattle.t3_kinds.specs.Inner.Deeds.{Comes, ComesWith}

pub comes_with : (wanted : Result Deed Fault) (store : StoreValue) (result : Result (Result code.Deed Fault) NoMemory) (turns : ℕ)
    → Comes wanted store result → ComesWith (with_turns turns wanted) store result turns
comes_with wanted store (Ok (Ok deed)) turns comes = (ap (with_turns turns) (sym comes.0), comes.1)
comes_with wanted store (Ok (Err fault)) turns comes = ap (with_turns turns) (sym comes.0)
comes_with wanted store (Err e) turns comes = tt
