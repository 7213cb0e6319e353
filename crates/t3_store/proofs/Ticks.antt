-- Ticks within a bound, as objects come, go and change.
use Rattle.std.proofs.Common.{◌≡◌, ◌∙◌, ap, sym, refl, ℕ, zero, suc, ◌+◌, ◌-◌, ◌≤◌, nat_lt, length, take, drop, Bool, true, false, cond, List, [], ◌∷◌, Option, None, Some, is_some, true≢false, arith}
use Rattle.std.specs.Option.{option_map}
use Rattle.std.specs.Ordering.{nat_cmp}
use Rattle.std.specs.Cmp.{nat_cmp_total, Equal-is}
use Rattle.std.specs.List.{AllByRecursion}
use Rattle.std.specs.FinMap.{FinMap, get, insert, empty, get-empty, get-insert, get-retain_keys, nat_cmp-IsAntisymmetric}
use Rattle.t3_undo.specs.Present.{Present}
use Rattle.t3_undo.specs.Objects.{OldPart, Segment, adjust}
use Rattle.t3_undo.specs.Journal.{room, is_due, add, note_in}
use Rattle.t3_undo.proofs.Maps.{get-adjust}
use Rattle.t3_store.specs.Inner.Shapes.{tick_behind, ticks_below, AreWithin}
use Rattle.t3_tables.specs.Entries.{risen}
use Rattle.t3_store.specs.Inner.Store.{AreRecordsWithin}
use Rattle.t3_store.proofs.Rows.{same}

abbrev Ticks : Type 0
Ticks = FinMap nat_cmp ℕ

-- a bound that may have risen
pub least : (bound : ℕ) (o : Option Present) → 0 ≤ risen bound o
least bound None = omega arith
least bound (Some p) = omega arith

pub risen-most : (bound : ℕ) (o : Option Present) → risen bound o ≤ bound + 1
risen-most bound None = omega arith
risen-most bound (Some p) = omega arith

pub risen-least : (bound : ℕ) (o : Option Present) → bound ≤ risen bound o
risen-least bound None = omega arith
risen-least bound (Some p) = omega arith

pub risen-up : (a b : ℕ) (o : Option Present) → a ≤ b → risen a o ≤ risen b o
risen-up a b None h = omega arith
risen-up a b (Some p) h = omega arith

pub within-none : (bound : ℕ) → AreWithin bound empty
within-none bound q tick e = absurd (true≢false (ap is_some (sym e ∙ get-empty nat_cmp q)))

pub within-more : (bound more : ℕ) (m : Ticks) → bound ≤ more → AreWithin bound m → AreWithin more m
within-more bound more m h all q tick e = let own = all q tick e in omega arith

pub within-adjust : (bound : ℕ) (m : Ticks) (n : ℕ) (f : ℕ → ℕ) → AreWithin bound m → ((x : ℕ) → get m n ≡ Some x → f x ≤ bound)
    → AreWithin bound (adjust m n f)
within-adjust bound m n f all own q tick e = by (same q n) refl (get m q) refl (sym (get-adjust nat_cmp_total m n f q) ∙ e)
  where
    by : (b : Bool) → same q n ≡ b → (o : Option ℕ) → get m q ≡ o → cond b (option_map f o) o ≡ Some tick → tick ≤ bound
    by true t None is e = cc
    by true t (Some x) is e =
        let value : f x ≡ tick = cc in
        let here : q ≡ n = nat_cmp-IsAntisymmetric q n ((Equal-is (nat_cmp q n)).0 t) in
        let h = own x (ap (get m) (sym here) ∙ is) in
        omega arith
    by false t o is e = all q tick (is ∙ e)

pub within-insert : (bound : ℕ) (m : Ticks) (n x : ℕ) → AreWithin bound m → x ≤ bound → AreWithin bound (insert m n x)
within-insert bound m n x all own q tick e = by (same q n) refl (sym (get-insert nat_cmp_total m n x q) ∙ e)
  where
    by : (b : Bool) → same q n ≡ b → cond b (Some x) (get m q) ≡ Some tick → tick ≤ bound
    by true t e = let is : x ≡ tick = cc in omega arith
    by false t e = all q tick e

pub within-below : (bound next : ℕ) (m : Ticks) → AreWithin bound m → AreWithin bound (ticks_below next m)
within-below bound next m all q tick e =
    by (nat_lt q next) (sym (get-retain_keys m (λ number. nat_lt number next) q
    (λ x t. ap (λ n. nat_lt n next) (sym (nat_cmp-IsAntisymmetric q x t)))) ∙ e)
  where
    by : (b : Bool) → cond b (get m q) None ≡ Some tick → tick ≤ bound
    by true e = all q tick e
    by false e = cc

-- records within a bound, as they are noted and dropped
abbrev Within : ℕ → List OldPart → Type 0
Within bound parts = AllByRecursion (λ part. tick_behind part.old ≤ bound) parts

more-parts : (bound more : ℕ) (parts : List OldPart) → bound ≤ more → Within bound parts → Within more parts
more-parts bound more [] h all = tt
more-parts bound more (part ∷ parts) h all = (omega (arith, all.0), more-parts bound more parts h all.1)

pub records-more : (bound more : ℕ) (ss : List Segment) → bound ≤ more → AreRecordsWithin bound ss → AreRecordsWithin more ss
records-more bound more [] h all = tt
records-more bound more (s ∷ ss) h all = (more-parts bound more s.records h all.0, records-more bound more ss h all.1)

records-if : (b : Bool) (bound : ℕ) (ss : List Segment) → AreRecordsWithin bound ss → AreRecordsWithin bound (cond b ss [])
records-if true bound ss all = all
records-if false bound ss all = tt

records-room : (bound limit : ℕ) (ss : List Segment) → AreRecordsWithin bound ss → AreRecordsWithin bound (room limit ss)
records-room bound limit [] all = tt
records-room bound limit (s ∷ ss) all =
    records-if (nat_lt (length s.records) limit) bound (s ∷ room (limit - length s.records) ss)
    (all.0, records-room bound (limit - length s.records) ss all.1)

records-add : (bound : ℕ) (part : OldPart) (ss : List Segment) → tick_behind part.old ≤ bound → AreRecordsWithin bound ss
    → AreRecordsWithin bound (add part ss)
records-add bound part [] own all = tt
records-add bound part (s ∷ ss) own all = ((own, all.0), all.1)

pub records-noted : (bound limit : ℕ) (part : OldPart) (ss : List Segment) → tick_behind part.old ≤ bound → AreRecordsWithin bound ss
    → AreRecordsWithin bound (note_in limit part ss)
records-noted bound limit part ss own all = by (is_due part.number part.cell ss)
  where
    by : (b : Bool) → AreRecordsWithin bound (cond b (add part (room limit ss)) ss)
    by true = records-add bound part (room limit ss) own (records-room bound limit ss all)
    by false = all

pub records-take : (bound k : ℕ) (ss : List Segment) → AreRecordsWithin bound ss → AreRecordsWithin bound (take k ss)
records-take bound zero ss all = tt
records-take bound (suc k) [] all = tt
records-take bound (suc k) (s ∷ ss) all = (all.0, records-take bound k ss all.1)

pub records-drop : (bound : ℕ) (ss : List Segment) → AreRecordsWithin bound ss → AreRecordsWithin bound (drop 1 ss)
records-drop bound [] all = tt
records-drop bound (s ∷ ss) all = all.1
