-- What is left by a put that kept the first half of its bytes, or found no memory for it.
use Rattle.std.proofs.Common.{◌≡◌, ℕ, ◌/◌, List, length, drop, Some, Ok, Err, Result, OnOk, OnErr, sym, ap, inl, inr}
use Rattle.std.proofs.lemmas.List.{take-append-drop}
use Rattle.std.specs.FinMap.{insert}
use Rattle.t3_io.specs.Files.{Files}
use Rattle.t3_io.specs.Putting.{MaySpoil}
use Rattle.t3_io.specs.Failing.{half}

pub half_spoils : {E : Type 0} (files after : Files) (name bytes : List ℕ) (answer : Result (Unit {0}) E)
    → OnOk answer (after ≡ insert files name (half bytes)) → OnErr answer (after ≡ files) → MaySpoil files name bytes (Some after)
half_spoils files after name bytes (Ok _) ok err =
    inr (inr (record {
      prefix =
          half bytes;
      rest = drop (length bytes / 2) bytes;
      is = sym (take-append-drop (length bytes / 2) bytes);
      left_is = ap Some ok;
    }))
half_spoils files after name bytes (Err _) ok err = inl (ap Some err)
