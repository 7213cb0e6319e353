-- Whether a number of a state is a transient object's: by the rows in which objects stand, and what it means.
use Rattle.std.proofs.Common.{◌≡◌, ◌∙◌, ap, sym, refl, ℕ, Bool, true, false, ◌||◌, if◌then◌else◌, List, [], ◌∷◌, map, is_some, true≢false}
use Rattle.std.specs.List.{list_any}
use Rattle.std.specs.FinMap.{get, keys, contains_key-keys}
use Rattle.t3_store.specs.Value.{Objects}
use Rattle.t3_store.specs.Store.{StoreValue, has_clash, is_past_limits, admit_of}
use Rattle.t3_store.specs.Whole.{AreApart}
use Rattle.t3_store.specs.Inner.Shapes.{thing_of, values}
use Rattle.t3_store.specs.Inner.Entries.{IsRising, object_at, things_of}
use Rattle.t3_store.specs.declared.admit.Admit.TheVariants.{Fits, Clash, Full}
use Rattle.t3_store.specs.declared.entries.Entry.{Entry}
use Rattle.t3_store.proofs.MapValues.{none-of, some-map, some-values}
use Rattle.t3_store.proofs.RowNumbers.{numbers-keys}
use Rattle.t3_store.proofs.Rows.{same, same-is, same-itself, get-by_number}

-- by the rows
some-object : (others : List Entry) (q : ℕ) → is_some (object_at q others) ≡ is_some (get (values (things_of others)) q)
some-object others q =
    sym (some-values (things_of others) q ∙ ap is_some (get-by_number thing_of others q) ∙ some-map thing_of (object_at q others))

any-along : (others es : List Entry) → list_any (λ (e : Entry). is_some (object_at e.number others)) es
    ≡ list_any (λ n. is_some (get (values (things_of others)) n)) (map (λ (e : Entry). e.number) es)
any-along others [] = refl
any-along others (e ∷ es) = λ i. some-object others e.number i || any-along others es i

pub meeting : (es others : List Entry) → IsRising es → list_any (λ (e : Entry). is_some (object_at e.number others)) es
    ≡ list_any (λ n. is_some (get (values (things_of others)) n)) (keys (values (things_of es)))
meeting es others rises =
    any-along others es ∙ ap (list_any (λ n. is_some (get (values (things_of others)) n))) (numbers-keys es rises)

-- a number that passes a test, and one of a list of which none does
or-second : (a b : Bool) → b ≡ true → (a || b) ≡ true
or-second true b e = refl
or-second false b e = e

any-some : (p : ℕ → Bool) (ns : List ℕ) → list_any p ns ≡ true → (n : ℕ) × ((list_any (same n) ns ≡ true) × (p n ≡ true))
any-some p [] e = absurd (true≢false (sym e))
any-some p (m ∷ ns) e = by (any-some p ns) (p m) refl e
  where
    by : (list_any p ns ≡ true → (n : ℕ) × ((list_any (same n) ns ≡ true) × (p n ≡ true))) → (b : Bool) → p m ≡ b
        → (b || list_any p ns) ≡ true → (n : ℕ) × ((list_any (same n) (m ∷ ns) ≡ true) × (p n ≡ true))
    by rest true t e = (m, (ap (λ b. b || list_any (same m) ns) (same-itself m), t))
    by rest false t e = let found = rest e in (found.0, (or-second (same found.0 m) (list_any (same found.0) ns) found.1.0, found.1.1))

any-none : (p : ℕ → Bool) (ns : List ℕ) (n : ℕ) → list_any p ns ≡ false → list_any (same n) ns ≡ true → p n ≡ false
any-none p [] n none has = absurd (true≢false (sym has))
any-none p (m ∷ ns) n none has = by (any-none p ns n) (same n m) refl (p m) refl has none
  where
    by : (list_any p ns ≡ false → list_any (same n) ns ≡ true → p n ≡ false) → (s : Bool) → same n m ≡ s → (b : Bool) → p m ≡ b
        → (s || list_any (same n) ns) ≡ true → (b || list_any p ns) ≡ false → p n ≡ false
    by rest s e true t has none = absurd (true≢false none)
    by rest true e false t has none = ap p (same-is n m e) ∙ t
    by rest false e false t has none = rest none has

-- where a number clashes the two aren't apart, and else they are
pub clash-meets : (first second : Objects) → list_any (λ n. is_some (get second n)) (keys first) ≡ true → AreApart first second → ⊥
clash-meets first second has apart =
    let found = any-some (λ n. is_some (get second n)) (keys first) has in
    true≢false (sym found.1.1 ∙ ap is_some (apart found.0 (contains_key-keys first found.0 ∙ found.1.0)))

pub no-clash : (first second : Objects) → list_any (λ n. is_some (get second n)) (keys first) ≡ false → AreApart first second
no-clash first second none n some =
    none-of (get second n) (any-none (λ n. is_some (get second n)) (keys first) n none (sym (contains_key-keys first n) ∙ some))

-- a state that fits neither clashes nor is past a limit
pub fits : (state : Objects) (s : StoreValue) → admit_of state s ≡ Fits → (has_clash state s ≡ false) × (is_past_limits state s ≡ false)
fits state s e = by (has_clash state s) (is_past_limits state s) e
  where
    by : (a b : Bool) → (if a then Clash else (if b then Full else Fits)) ≡ Fits → (a ≡ false) × (b ≡ false)
    by true b e = cc
    by false true e = cc
    by false false e = (refl, refl)
