-- Entries and a default as cells: what is found there, and what a change of one does. Other crates may use these.
use Rattle.std.proofs.Common.{◌≡◌, ◌≢◌, ◌∙◌, ap, sym, subst, refl, ℕ, ◌+◌, ◌<◌, ◌≤◌, max, Bool, true, false, cond, if◌then◌else◌, Option, None, Some, is_some, true≢false, map, arith}
use Rattle.std.specs.FinMap.{get, get-empty, get-insert, empty, insert, contains_key, len, len-insert, entries as all_entries}
use Rattle.t3_holder.specs.declared.holder.Holder.{Holder}
use Rattle.t3_undo.specs.Cell.{cell_cmp, cell_cmp_total, cell_cmp-IsAntisymmetric}
use Rattle.t3_undo.specs.Content.{Parts, Places, shown, with_place}
use Rattle.t3_undo.specs.Present.{Present, tick_in}
use Rattle.t3_undo.specs.Objects.{set_at}
use Rattle.t3_undo.specs.declared.cell.Cell.{Cell}
use Rattle.t3_undo.specs.declared.cell.Cell.TheVariants as cells
use Rattle.t3_undo.specs.declared.content.Content.TheVariants.{Held}
use Rattle.t3_undo.proofs.Maps.{get-set_at, set_at-again, set_at-apart}
use Rattle.t3_undo.proofs.SlotLists.{same, same-is, with_place-there}
use Rattle.t3_tables.specs.Table.{with_default, is_cell, above, tick_after, AreBelow, pair_of, entries_of}
use Rattle.t3_tables.specs.Inner.Slots.{IsEntry}
use Rattle.t3_tables.proofs.OrderedEntries.{ordered-Default}

-- what stands in a cell
pub get-default : (entries : Parts) (default : Holder) → get (with_default entries default) cells.Default ≡ shown (Held default)
get-default entries default = get-set_at cell_cmp_total entries cells.Default (shown (Held default)) cells.Default

pub get-other : (entries : Parts) (default : Holder) (cell : Cell) → same cell cells.Default ≡ false
    → get (with_default entries default) cell ≡ get entries cell
get-other entries default cell apart =
    get-set_at cell_cmp_total entries cells.Default (shown (Held default)) cell
    ∙ ap (λ b. cond b (shown (Held default)) (get entries cell)) apart

-- and the stamp of its place
pub stamp-default : (places : Places) (stamp : ℕ) → get (insert places cells.Default stamp) cells.Default ≡ Some stamp
stamp-default places stamp = get-insert cell_cmp_total places cells.Default stamp cells.Default

pub stamp-other : (places : Places) (stamp : ℕ) (cell : Cell) → same cell cells.Default ≡ false
    → get (insert places cells.Default stamp) cell ≡ get places cell
stamp-other places stamp cell apart =
    get-insert cell_cmp_total places cells.Default stamp cell ∙ ap (λ b. cond b (Some stamp) (get places cell)) apart

-- a cell that is set
pub default-set : (entries : Parts) (default value : Holder)
    → with_default entries value ≡ set_at (with_default entries default) cells.Default (shown (Held value))
default-set entries default value =
    sym (set_at-again cell_cmp_total cell_cmp-IsAntisymmetric entries cells.Default (shown (Held default)) (shown (Held value)))

pub other-set : (entries : Parts) (default : Holder) (cell : Cell) (o : Option Present) → same cell cells.Default ≡ false
    → with_default (set_at entries cell o) default ≡ set_at (with_default entries default) cell o
other-set entries default cell o apart =
    set_at-apart cell_cmp_total cell_cmp-IsAntisymmetric entries cell cells.Default o (shown (Held default)) apart

-- a stamp that is given
pub stamp-set : (places : Places) (old new : ℕ)
    → insert places cells.Default new ≡ insert (insert places cells.Default old) cells.Default new
unfolding set_at
stamp-set places old new = sym (set_at-again cell_cmp_total cell_cmp-IsAntisymmetric places cells.Default (Some old) (Some new))

pub stamp-set_other : (places : Places) (stamp : ℕ) (cell : Cell) (new : ℕ) → same cell cells.Default ≡ false
    → insert (insert places cell new) cells.Default stamp ≡ insert (insert places cells.Default stamp) cell new
unfolding set_at
stamp-set_other places stamp cell new apart =
    set_at-apart cell_cmp_total cell_cmp-IsAntisymmetric places cell cells.Default (Some new) (Some stamp) apart

-- a place that is made
pub place-default : (places : Places) (stamp : ℕ)
    → insert places cells.Default stamp ≡ with_place (insert places cells.Default stamp) cells.Default
place-default places stamp =
    sym (with_place-there (insert places cells.Default stamp) cells.Default (ap is_some (stamp-default places stamp)))

pub place-other : (places : Places) (stamp : ℕ) (cell : Cell) → same cell cells.Default ≡ false
    → insert (with_place places cell) cells.Default stamp ≡ with_place (insert places cells.Default stamp) cell
place-other places stamp cell apart =
    by (contains_key places cell)
    ∙ ap (λ b. if b then insert places cells.Default stamp else insert (insert places cells.Default stamp) cell 0)
    (ap is_some (sym (stamp-other places stamp cell apart)))
  where
    by : (b : Bool) → insert (if b then places else insert places cell 0) cells.Default stamp
        ≡ if b then insert places cells.Default stamp else insert (insert places cells.Default stamp) cell 0
    by true = refl
    by false = stamp-set_other places stamp cell 0 apart

-- how many places there are, where only entries have some, and how many cells are present
pub len-default : (places : Places) (stamp : ℕ) → ((cell : Cell) → contains_key places cell ≡ true → IsEntry cell)
    → len (insert places cells.Default stamp) ≡ len places + 1
len-default places stamp only = by (contains_key places cells.Default) refl
  where
    by : (b : Bool) → contains_key places cells.Default ≡ b → len (insert places cells.Default stamp) ≡ len places + 1
    by true e = absurd (only cells.Default e)
    by false e = len-insert cell_cmp_total places cells.Default stamp ∙ ap (λ b. cond b (len places) (len places + 1)) e

-- the entries don't have the default's row
pub entries-default : (entries : Parts) (default : Holder) → entries_of (with_default entries default) ≡ entries_of entries
unfolding entries_of
entries-default entries default = ap (λ m. map pair_of (all_entries m)) (ordered-Default entries (shown (Held default)))

-- ticks below the next one
pub below-default : (next : ℕ) (entries : Parts) (default : Holder) → AreBelow next entries → AreBelow next (with_default entries default)
below-default next entries default below cell present tick stands is = by (same cell cells.Default) refl
  where
    by : (b : Bool) → same cell cells.Default ≡ b → tick < next
    by true e =
        let P : Cell → Type 0 = λ c. get (with_default entries default) c ≡ Some present in
        let here = sym (get-default entries default) ∙ subst P (same-is cell cells.Default e) stands in
        cc
    by false e = below cell present tick (sym (get-other entries default cell e) ∙ stands) is

least : (a b : ℕ) → b ≤ max b a
least a b = omega arith

more : (next : ℕ) (tick : Option ℕ) → next ≤ above next tick
more next None = omega arith
more next (Some tick) = omega arith

pub more-after : (next : ℕ) (o : Option Present) → next ≤ tick_after next o
more-after next None = omega arith
more-after next (Some present) = more next (tick_in present)

own : (next : ℕ) (present : Present) (tick : ℕ) → tick_in present ≡ Some tick → tick < tick_after next (Some present)
own next present tick is = let e : tick_after next (Some present) ≡ max next (tick + 1) = ap (above next) is in omega (arith, e)

pub below-set : (next : ℕ) (entries : Parts) (cell : Cell) (o : Option Present) → AreBelow next entries
    → AreBelow (tick_after next o) (set_at entries cell o)
below-set next entries cell o below q present tick stands is =
    by (same q cell) refl (sym (get-set_at cell_cmp_total entries cell o q) ∙ stands)
  where
    put : (o : Option Present) → o ≡ Some present → tick < tick_after next o
    put None e = cc
    put (Some p) e =
        let same : p ≡ present = cc in
        let P : Present → Type 0 = λ p. tick < tick_after next (Some p) in
        subst P (sym same) (own next present tick is)

    by : (b : Bool) → same q cell ≡ b → cond b o (get entries q) ≡ Some present → tick < tick_after next o
    by true e stands = put o stands
    by false e stands = let h = below q present tick stands is in let m = more-after next o in omega (arith, h, m)

-- a content is below the next tick
pub tick-below : (next : ℕ) (entries : Parts) (cell : Cell) (o : Option Present) → AreBelow next entries → o ≡ get entries cell
    → tick_after 0 o ≤ next
tick-below next entries cell None below is = omega arith
tick-below next entries cell (Some present) below is = by (tick_in present) refl
  where
    by : (tick : Option ℕ) → tick_in present ≡ tick → above 0 tick ≤ next
    by None e = omega arith
    by (Some tick) e = let h = below cell present tick (sym is) e in omega arith

pub below-empty : (next : ℕ) → AreBelow next (empty {R = cell_cmp})
below-empty next cell present tick stands is = absurd (true≢false (ap is_some (sym stands ∙ get-empty cell_cmp cell)))

-- only entries have a place, in a new table, with a place more and with another stamp
pub only-empty : (cell : Cell) → contains_key (empty {X = ℕ} {R = cell_cmp}) cell ≡ true → IsEntry cell
only-empty cell placed = absurd (true≢false (sym placed ∙ ap is_some (get-empty cell_cmp cell)))

module _ (places : Places) (new : Cell) (only : (cell : Cell) → contains_key places cell ≡ true → IsEntry cell) (is : IsEntry new) where
  pub only-insert : (stamp : ℕ) (cell : Cell) → contains_key (insert places new stamp) cell ≡ true → IsEntry cell
  only-insert stamp cell placed =
      by (same cell new) refl (sym (ap is_some (get-insert cell_cmp_total places new stamp cell)) ∙ placed)
    where
      by : (b : Bool) → same cell new ≡ b → is_some (cond b (Some stamp) (get places cell)) ≡ true → IsEntry cell
      by true e placed = subst IsEntry (sym (same-is cell new e)) is
      by false e placed = only cell placed

  pub only-with_place : (cell : Cell) → contains_key (with_place places new) cell ≡ true → IsEntry cell
  only-with_place cell = by (contains_key places new)
    where
      by : (b : Bool) → contains_key (if b then places else insert places new 0) cell ≡ true → IsEntry cell
      by true placed = only cell placed
      by false placed = only-insert 0 cell placed

-- a cell that isn't the default's
pub apart-default : (cell : Cell) → cell ≢ cells.Default → same cell cells.Default ≡ false
apart-default cell other = by (same cell cells.Default) refl
  where
    by : (b : Bool) → same cell cells.Default ≡ b → b ≡ false
    by true e = absurd (other (same-is cell cells.Default e))
    by false e = refl

-- its place is one of the entries'
pub placed-other : (places : Places) (stamp : ℕ) (cell : Cell) → cell ≢ cells.Default
    → contains_key (insert places cells.Default stamp) cell ≡ true → contains_key places cell ≡ true
placed-other places stamp cell other placed = ap is_some (sym (stamp-other places stamp cell (apart-default cell other))) ∙ placed

pub entry-cell : (cell : Cell) → IsEntry cell → is_cell cell ≡ true
entry-cell (cells.Key key) is = refl
entry-cell cells.Default is = refl
entry-cell (cells.Prop n) is = absurd is
entry-cell (cells.Elem n) is = absurd is

pub cell-entry : (cell : Cell) → is_cell cell ≡ true → cell ≢ cells.Default → IsEntry cell
cell-entry (cells.Key key) is other = tt
cell-entry cells.Default is other = other refl
cell-entry (cells.Prop n) is other = absurd (true≢false (sym is))
cell-entry (cells.Elem n) is other = absurd (true≢false (sym is))

-- how many cells are present
pub present-default : (entries : Parts) (default : Holder) → get entries cells.Default ≡ None
    → len (with_default entries default) ≡ len entries + 1
unfolding set_at
present-default entries default none =
    len-insert cell_cmp_total entries cells.Default _ ∙ ap (λ o. cond (is_some o) (len entries) (len entries + 1)) none
