-- Places of objects: what a place more, or fewer objects, does to them.
use Rattle.std.proofs.Common.{◌≡◌, ◌∙◌, ap, sym, refl, ℕ, ◌⊎◌, inl, inr, true≢false, Bool, true, false, cond, if◌then◌else◌, Option, None, Some, IsTrue, IsSome, is_some}
use Rattle.std.specs.Ordering.{nat_cmp, eq_by_cmp}
use Rattle.std.specs.Option.{option_map}
use Rattle.std.specs.Cmp.{nat_cmp_total}
use Rattle.std.specs.FinMap.{FinMap, get, insert, get-insert, contains_key}
use Rattle.t3_undo.specs.Cell.{cell_cmp, cell_cmp_total}
use Rattle.t3_undo.specs.Content.{Places}
use Rattle.t3_undo.specs.Present.{Present}
use Rattle.t3_undo.specs.Content as content
use Rattle.t3_undo.specs.Objects.{part_at}
use Rattle.t3_undo.specs.declared.cell.Cell.{Cell}
use Rattle.t3_undo.specs.declared.cell.Cell.TheVariants as cells
use Rattle.t3_undo.proofs.Maps.{get-adjust}
use Rattle.t3_undo.proofs.SlotLists.{insert-own, same-is}
use Rattle.t3_tadsobj.specs.Object.{Tads}
use Rattle.t3_store.specs.Inner.Shapes.{Stored, has_place, has_place_in, stamp_in, stamp_at, with_place}
use Rattle.t3_store.specs.Inner.Store.{AreKept, KeepStamps, IsReady}

unplaced : (o : Option ℕ) → is_some o ≡ false → o ≡ None
unplaced None e = refl
unplaced (Some t) e = absurd (true≢false e)

-- no place is lost by one more
kept-own : (own : Places) (cell d : Cell) → contains_key own d ≡ true → contains_key (content.with_place own cell) d ≡ true
kept-own own cell d placed = by (contains_key own cell)
  where
    there : (b : Bool) → is_some (cond b (Some 0) (get own d)) ≡ true
    there true = refl
    there false = placed

    by : (b : Bool) → contains_key (if b then own else insert own cell 0) d ≡ true
    by true = placed
    by false = ap is_some (get-insert cell_cmp_total own cell 0 d) ∙ there (eq_by_cmp cell_cmp d cell)

pub kept-with_place : (places : FinMap nat_cmp Places) (n : ℕ) (cell : Cell) → AreKept places (with_place n cell places)
kept-with_place places n cell q d placed =
    ap (λ o. has_place_in o d) (get-adjust nat_cmp_total places n (λ own. content.with_place own cell) q)
    ∙ by (eq_by_cmp nat_cmp q n) (get places q) placed
  where
    by : (b : Bool) (o : Option Places) → has_place_in o d ≡ true
        → has_place_in (cond b (option_map (λ own. content.with_place own cell) o) o) d ≡ true
    by true None placed = placed
    by true (Some own) placed = kept-own own cell d placed
    by false o placed = placed

pub kept-same : (places : FinMap nat_cmp Places) → AreKept places places
kept-same places q d placed = placed

-- each has its stamp, and one more has stamp 0
theirs-own : (own : Places) (cell d : Cell) (t : ℕ) → get (content.with_place own cell) d ≡ Some t
    → (get own d ≡ Some t) ⊎ ((get own d ≡ None) × (t ≡ 0))
theirs-own own cell d t there = by (contains_key own cell) refl there
  where
    more : (b : Bool) → eq_by_cmp cell_cmp d cell ≡ b → contains_key own cell ≡ false → cond b (Some 0) (get own d) ≡ Some t
        → (get own d ≡ Some t) ⊎ ((get own d ≡ None) × (t ≡ 0))
    more true e gone there =
        let zero : 0 ≡ t = cc in
        inr (unplaced (get own d) ((λ i. contains_key own (same-is d cell e i)) ∙ gone), sym zero)
    more false e gone there = inl there

    by : (b : Bool) → contains_key own cell ≡ b → get (if b then own else insert own cell 0) d ≡ Some t
        → (get own d ≡ Some t) ⊎ ((get own d ≡ None) × (t ≡ 0))
    by true e there = inl there
    by false e there = more (eq_by_cmp cell_cmp d cell) refl e (sym (get-insert cell_cmp_total own cell 0 d) ∙ there)

pub theirs-with_place : (places : FinMap nat_cmp Places) (n : ℕ) (cell : Cell) → KeepStamps places (with_place n cell places)
theirs-with_place places n cell q d t there =
    by (eq_by_cmp nat_cmp q n) (get places q)
    (sym (ap (λ o. stamp_in o d) (get-adjust nat_cmp_total places n (λ own. content.with_place own cell) q)) ∙ there)
  where
    by : (b : Bool) (o : Option Places) → stamp_in (cond b (option_map (λ own. content.with_place own cell) o) o) d ≡ Some t
        → (stamp_in o d ≡ Some t) ⊎ ((stamp_in o d ≡ None) × (t ≡ 0))
    by true None there = inl there
    by true (Some own) there = theirs-own own cell d t there
    by false o there = inl there

pub theirs-same : (places : FinMap nat_cmp Places) → KeepStamps places places
theirs-same places q d t there = inl there

-- an object has a place more
pub ready : (old new : Stored) (n : ℕ) (cell copy : Cell) → copy ≡ cell → new ≡ record old { places = with_place n copy old.places }
    → IsTrue (has_place new.places n copy) → part_at old.objects n cell ≡ None → IsReady old new n cell
ready old new n cell copy same is placed absent = record {
  same = ap (λ s. s.objects) is;
  ticks = ap (λ s. s.ticks) is;
  kept = λ q d h. (λ i. has_place (is i).places q d) ∙ kept-with_place old.places n copy q d h;
  stamps = λ q d t there. theirs-with_place old.places n copy q d t ((λ i. stamp_at (sym is i).places q d) ∙ there);
  placed = (λ i. has_place new.places n (sym same i)) ∙ placed;
  made = inr (absent, ap (λ s. s.places) is ∙ λ i. with_place n (same i) old.places);
}

-- a property replaced under the stamp that its place has
pub places-replaced : (old new : Tads) (n : ℕ) (was : Option Present) (stamp : ℕ)
    → (IsSome was → get old.places (cells.Prop n) ≡ Some stamp) → (IsSome was → new.places ≡ insert old.places (cells.Prop n) stamp)
    → (was ≡ None → new.places ≡ old.places) → new.places ≡ old.places
places-replaced old new n None stamp placed set kept = kept refl
places-replaced old new n (Some present) stamp placed set kept =
    set refl ∙ insert-own old.places (cells.Prop n) stamp (placed refl)
