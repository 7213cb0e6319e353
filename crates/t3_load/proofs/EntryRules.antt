-- The rules on entries.
use Rattle.std.proofs.Common.{◌≡◌, ℕ, ◌≤◌, List, [], ◌∷◌, not, length, ap, subst, arith}
use Rattle.std.specs.Prelude.{IsTrue}
use Rattle.std.specs.List.{list_any}
use Rattle.t3_image_read.specs.declared.image.PlacedBlock.{PlacedBlock}
use Rattle.t3_store.specs.declared.limits.StoreLimits.{StoreLimits}
use Rattle.t3_load.specs.Entries.{EntryValue, entries, has_sizes}
use Rattle.t3_load.specs.Rules.{Breaks, KeepsRules}
use Rattle.t3_load.proofs.RuleSteps.{kept_one, kept_both}

-- there is an entry
pub some_entry : (blocks : List PlacedBlock) (entry : EntryValue) (more : List EntryValue) → entries blocks ≡ entry ∷ more
    → (limits : StoreLimits) → KeepsRules blocks limits 1 2
some_entry blocks entry more is limits =
    kept_one blocks limits 1 (λ why same broken.
    let none : entries blocks ≡ [] = subst (λ w. Breaks blocks limits w) same broken in absurd cc)

-- there is no more than one
pub one_entry : (blocks : List PlacedBlock) (entry : EntryValue) → entries blocks ≡ entry ∷ [] → (limits : StoreLimits)
    → KeepsRules blocks limits 1 3
one_entry blocks entry is limits =
    kept_both blocks limits 1 2 3 (some_entry blocks entry [] is limits)
    (kept_one blocks limits 2 (λ why same broken.
    let two : 2 ≤ length (entries blocks) = subst (λ w. Breaks blocks limits w) same broken in
    omega (arith, two, ap length is)))

-- and its sizes are those of this machine
pub good_entry : (blocks : List PlacedBlock) (code : ℕ)
    → entries blocks ≡ record { code = code; method_size = 10; exception_size = 10 } ∷ []
    → (limits : StoreLimits) → KeepsRules blocks limits 1 4
good_entry blocks code is limits =
    kept_both blocks limits 1 3 4 (one_entry blocks (record { code = code; method_size = 10; exception_size = 10 }) is limits)
    (kept_one blocks limits 3 (λ why same broken.
    let bad : IsTrue (list_any (λ (e : EntryValue). not (has_sizes e)) (entries blocks)) =
    subst (λ w. Breaks blocks limits w) same broken in
    let here : IsTrue (list_any (λ (e : EntryValue). not (has_sizes e)) (record {
      code = code;
      method_size = 10;
      exception_size =
          10;
    } ∷ [])) =
    subst (λ es. IsTrue (list_any (λ (e : EntryValue). not (has_sizes e)) es)) is bad in
    absurd (cc here)))
