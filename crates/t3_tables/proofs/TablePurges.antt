-- A table's places once those of its entries are purged: which are left, and which are gone. Other crates may use these.
use Rattle.std.proofs.Common.{◌≡◌, ◌∙◌, ap, sym, subst, ℕ, Bool, true, false, cond, Some, is_some, inl, inr, refl}
use Rattle.std.specs.FinMap.{get, insert, get-insert, contains_key}
use Rattle.t3_holder.specs.declared.holder.Holder.{Holder}
use Rattle.t3_undo.specs.Cell.{cell_cmp_total}
use Rattle.t3_undo.specs.Content.{Parts, Places}
use Rattle.t3_undo.specs.Purging.{IsNeeded, Stays}
use Rattle.t3_undo.specs.declared.cell.Cell.{Cell}
use Rattle.t3_undo.specs.declared.cell.Cell.TheVariants as cells
use Rattle.t3_undo.proofs.SlotLists.{same, same-is}
use Rattle.t3_tables.specs.Table.{with_default}
use Rattle.t3_tables.specs.Inner.Slots.{IsEntry}
use Rattle.t3_tables.proofs.Defaults.{get-default, get-other, stamp-other}

module _ (entries : Parts) (default : Holder) (old new : Places) (stamp oldest : ℕ) where
  abbrev pub places_then : Places
  places_then = insert old cells.Default stamp

  abbrev pub places_now : Places
  places_now = insert new cells.Default stamp

  abbrev pub parts : Parts
  parts = with_default entries default

  pub fewer : ((cell : Cell) (t : ℕ) → get new cell ≡ Some t → get old cell ≡ Some t)
      → (cell : Cell) (t : ℕ) → get places_now cell ≡ Some t → get places_then cell ≡ Some t
  fewer each cell t e =
      get-insert cell_cmp_total old cells.Default stamp cell
      ∙ by (same cell cells.Default) (sym (get-insert cell_cmp_total new cells.Default stamp cell) ∙ e)
    where
      by : (b : Bool) → cond b (Some stamp) (get new cell) ≡ Some t → cond b (Some stamp) (get old cell) ≡ Some t
      by true e = e
      by false e = each cell t e

  -- a cell of an entry that stays is needed
  needed : ((cell : Cell) → contains_key old cell ≡ true → IsEntry cell) → (cell : Cell) → same cell cells.Default ≡ false
      → contains_key old cell ≡ true → Stays parts places_then oldest cell → IsNeeded entries old oldest cell
  needed only cell apart placed (inl (inl present)) = inl (ap is_some (sym (get-other entries default cell apart)) ∙ present)
  needed only cell apart placed (inl (inr from)) = inr (from.0, sym (stamp-other old stamp cell apart) ∙ from.1, from.2)
  needed only cell apart placed (inr below) = absurd (subst IsEntry below.2 (only cell placed))

  pub kept : ((cell : Cell) → contains_key old cell ≡ true → IsEntry cell)
      → ((cell : Cell) (t : ℕ) → get old cell ≡ Some t → IsNeeded entries old oldest cell → get new cell ≡ Some t)
      → (cell : Cell) (t : ℕ) → get places_then cell ≡ Some t → Stays parts places_then oldest cell → get places_now cell ≡ Some t
  kept only each cell t e stays =
      get-insert cell_cmp_total new cells.Default stamp cell
      ∙ by (same cell cells.Default) refl (sym (get-insert cell_cmp_total old cells.Default stamp cell) ∙ e)
    where
      by : (b : Bool) → same cell cells.Default ≡ b → cond b (Some stamp) (get old cell) ≡ Some t
          → cond b (Some stamp) (get new cell) ≡ Some t
      by true is e = e
      by false apart e = each cell t e (needed only cell apart (ap is_some e) stays)

  -- a cell that is needed among the entries is needed of the table
  needed-table : (cell : Cell) → same cell cells.Default ≡ false → IsNeeded entries old oldest cell
      → IsNeeded parts places_then oldest cell
  needed-table cell apart (inl present) = inl (ap is_some (get-other entries default cell apart) ∙ present)
  needed-table cell apart (inr from) = inr (from.0, stamp-other old stamp cell apart ∙ from.1, from.2)

  pub gone : ((cell : Cell) (t : ℕ) → get new cell ≡ Some t → IsNeeded entries old oldest cell)
      → (cell : Cell) (t : ℕ) → get places_now cell ≡ Some t → Stays parts places_then oldest cell
  gone each cell t e = by (same cell cells.Default) refl (sym (get-insert cell_cmp_total new cells.Default stamp cell) ∙ e)
    where
      by : (b : Bool) → same cell cells.Default ≡ b → cond b (Some stamp) (get new cell) ≡ Some t → Stays parts places_then oldest cell
      by true is e =
          inl (inl (ap (λ c. is_some (get parts c)) (same-is cell cells.Default is) ∙ ap is_some (get-default entries default)))
      by false apart e = inl (needed-table cell apart (each cell t e))
