-- Objects with one more. Other crates use these lemmas.
use Rattle.std.proofs.Common.{◌≡◌, ◌∙◌, ap, ℕ, ◌+◌, cond, None, Some}
use Rattle.std.specs.Cmp.{nat_cmp_total}
use Rattle.std.specs.FinMap.{get, insert, len, empty, get-insert}
use Rattle.t3_store.specs.Value.{Value, Objects, units_in, units_of}
use Rattle.t3_store.proofs.MapValues.{units_in-new, units_in-empty}
use Rattle.t3_store.proofs.Creating.{len-new, none-inserted}
use Rattle.t3_store.proofs.Rows.{same-itself}

-- it is there under its number
pub added_here : (objects : Objects) (n : ℕ) (value : Value) → get (insert objects n value) n ≡ Some value
added_here objects n value = get-insert nat_cmp_total objects n value n ∙ ap (λ b. cond b (Some value) (get objects n)) (same-itself n)

-- under other numbers is what was there
pub added_there : (objects : Objects) (n q : ℕ) (value : Value) → (q ≡ n → ⊥) → get (insert objects n value) q ≡ get objects q
added_there objects n q value apart = none-inserted objects n q value apart

pub added_len : (objects : Objects) (n : ℕ) (value : Value) → get objects n ≡ None → len (insert objects n value) ≡ len objects + 1
added_len objects n value none = len-new objects n value none

pub added_units : (objects : Objects) (n : ℕ) (value : Value) → get objects n ≡ None
    → units_in (insert objects n value) ≡ units_in objects + units_of value
added_units objects n value none = units_in-new objects n value none

pub none_units : units_in empty ≡ 0
none_units = units_in-empty
