use Rattle.std.proofs.Common.{◌≡◌, ℕ, ap, ◌-◌, ◌<◌, ◌↔◌, List, length, get_or, ltb-true, refl, arith}
use Rattle.std.proofs.lemmas.Bool.{lt-ltb}
use Rattle.std.specs.List.{AllWithin}
use Rattle.t3_store.specs.Inner.Entries.{IsRising}
use Rattle.t3_store.specs.declared.entries.Entry.{Entry}
use Rattle.t3_store.proofs.Rows.{rising-before}
use Rattle.t3_store.proofs.entries.is_behind_all.Goals as goal

-- all are below a number where the last is
below-all : (es : List Entry) (n : ℕ) (last : Entry) → IsRising es → 0 < length es → ((d : Entry) → last ≡ get_or es (length es - 1) d)
    → (last.number < n) ↔ AllWithin (λ e. e.number < n) es 0 (length es)
below-all es n last rises some is = (
  λ less k d h l.
      let before = rising-before es k (length es - 1) d rises (omega arith) (omega arith) in
      omega (arith, ap (λ (e : Entry). e.number) (is d)),
  λ all.
      let below = all (length es - 1) last (omega arith) (omega arith) in
      omega (arith, ap (λ (e : Entry). e.number) (is last)),
)

pub returns-in-Some : goal.returns-in-Some
returns-in-Some c =
    let item = c.in-Some.ensures.item.3 in
    let all = below-all c.args.entries.now c.args.number c.in-Some.last.now c.requires item.0 item.1 in
    (λ t. all.0 (ltb-true c.in-Some.last.now.number c.args.number t), λ below. lt-ltb c.in-Some.last.now.number c.args.number (all.1 below))

pub returns-in-None : goal.returns-in-None
returns-in-None c = let none = c.in-None.ensures.item.3 in (λ _ k d h l. absurd (omega arith), λ _. refl)
