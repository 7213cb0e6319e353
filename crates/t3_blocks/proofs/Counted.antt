-- Counted payloads: the head, and the list after it that is whole or breaks.
use Rattle.std.proofs.Common.{◌≡◌, ℕ, ◌^◌, ◌<◌, List, ◌++◌, take, drop, refl, sym, ap, subst, ◌∙◌, Err, inl, inr}
use Rattle.std.specs.Prelude.{codes}
use Rattle.t3_holder.specs.NumberText.{little_endian}
use Rattle.t3_blocks.specs.declared.block.Block.TheVariants.{Functions, Metas, Objects, Symbols}
use Rattle.t3_blocks.specs.declared.items.Meta.{Meta}
use Rattle.t3_blocks.specs.declared.items.Static.{Static}
use Rattle.t3_blocks.specs.declared.items.Symbol.{Symbol}
use Rattle.t3_blocks.specs.Spelling.{Spells, payload_of, name_text, IsName, meta_text, IsMeta, size_width, static_text, IsStatic, symbol_text, IsSymbol, objects_head}
use Rattle.t3_blocks.specs.Malformed.{BreaksList, BreaksCounted, BreaksObjects}
use Rattle.t3_blocks.specs.declared.refusal.PayloadRefusal.{PayloadRefusal}
use Rattle.t3_blocks.specs.declared.refusal.PayloadRefusal.TheVariants.{Malformed, NoMemory}
use Rattle.t3_blocks.specs.Parsing.{Gives}
use Rattle.t3_blocks.specs.Inner.Lists.{IsList, IsCounted, Breaks}
use Rattle.t3_blocks.proofs.ItemTexts.{three}
use Rattle.t3_blocks.proofs.Layouts.{at_place}

-- ---- a count in two bytes

module _ {Item : Type 0} (item_text : Item → List ℕ) (Fits : Item → Type 0) where
  pub counted_is : (payload list : List ℕ) (due : ℕ) (items : List Item) → due < 2 ^ 16 → payload ≡ little_endian 2 due ++ list
      → IsList item_text Fits due list items
      → IsCounted item_text Fits payload items
  counted_is payload list due items fits is whole = record {
    few = subst (λ n. n < 2 ^ 16) (sym whole.long) fits;
    fit = whole.fit;
    is = (λ i. little_endian 2 (whole.long i) ++ whole.is i) ∙ sym is;
  }

  pub counted_breaks : (payload list : List ℕ) (due count : ℕ) → due < 2 ^ 16 → payload ≡ little_endian 2 due ++ list
      → BreaksList item_text Fits due list count
      → BreaksCounted item_text Fits payload count
  counted_breaks payload list due count fits is breaks = inr (due, fits, record { body = list; is = is; breaks = breaks })

pub spells_functions : (payload : List ℕ) (names : List (List ℕ)) → IsCounted name_text IsName payload names
    → Spells (Functions names) (codes "FNSD") payload
unfolding payload_of
spells_functions payload names counted = record { spellable = (counted.few, counted.fit); name_is = refl; payload_is = counted.is }

pub spells_metas : (payload : List ℕ) (metas : List Meta) → IsCounted meta_text IsMeta payload metas
    → Spells (Metas metas) (codes "MCLD") payload
unfolding payload_of
spells_metas payload metas counted = record { spellable = (counted.few, counted.fit); name_is = refl; payload_is = counted.is }

pub spells_symbols : (payload : List ℕ) (symbols : List Symbol) → IsCounted symbol_text IsSymbol payload symbols
    → Spells (Symbols symbols) (codes "SYMD") payload
unfolding payload_of
spells_symbols payload symbols counted = record { spellable = (counted.few, counted.fit); name_is = refl; payload_is = counted.is }

-- ---- the head of objects

-- what the six bytes say
pub record HasHead (payload : List ℕ) (due metaclass flags : ℕ) : Type 0 where
  pub due_fits : due < 2 ^ 16
  pub metaclass_fits : metaclass < 2 ^ 16
  pub flags_fits : flags < 2 ^ 16
  pub is : payload ≡ objects_head due metaclass flags ++ drop 6 payload

pub has_head : (payload : List ℕ) (due metaclass flags : ℕ) → due < 2 ^ 16 → metaclass < 2 ^ 16 → flags < 2 ^ 16
    → take 2 (drop 0 payload) ≡ little_endian 2 due → take 2 (drop 2 payload) ≡ little_endian 2 metaclass
    → take 2 (drop 4 payload) ≡ little_endian 2 flags
    → HasHead payload due metaclass flags
has_head payload due metaclass flags f1 f2 f3 is_due is_metaclass is_flags = record {
  due_fits = f1;
  metaclass_fits = f2;
  flags_fits = f3;
  is =
      sym (
      three (little_endian 2 due) (little_endian 2 metaclass) (little_endian 2 flags) (drop 6 payload)
      ∙ ap (λ r. little_endian 2 due ++ r)
      (ap (λ r. little_endian 2 metaclass ++ r) (at_place 2 4 flags payload is_flags) ∙ at_place 2 2 metaclass payload is_metaclass)
      ∙ at_place 2 0 due payload is_due
      );
}

pub objects_breaks : (payload : List ℕ) (due metaclass flags count : ℕ) → HasHead payload due metaclass flags
    → BreaksList (static_text (size_width flags)) (IsStatic (size_width flags)) due (drop 6 payload) count → BreaksObjects payload count
objects_breaks payload due metaclass flags count head breaks =
    inr (
      due,
      metaclass,
      flags,
      head.due_fits,
      head.metaclass_fits,
      head.flags_fits,
      record { body = drop 6 payload; is = head.is; breaks = breaks },
    )

pub objects_refused : (payload : List ℕ) (due metaclass flags : ℕ) (refusal : PayloadRefusal) → HasHead payload due metaclass flags
    → Breaks (BreaksList (static_text (size_width flags)) (IsStatic (size_width flags)) due (drop 6 payload)) refusal
    → Gives (codes "OBJS") payload (Err refusal)
objects_refused payload due metaclass flags (Malformed items) head breaks =
    inr (inr (inr (inl (refl, objects_breaks payload due metaclass flags items head breaks))))
objects_refused payload due metaclass flags NoMemory head breaks = tt

pub spells_objects : (payload : List ℕ) (due metaclass flags : ℕ) (objects : List Static) → HasHead payload due metaclass flags
    → IsList (static_text (size_width flags)) (IsStatic (size_width flags)) due (drop 6 payload) objects
    → Spells (Objects metaclass flags objects) (codes "OBJS") payload
unfolding payload_of
spells_objects payload due metaclass flags objects head whole = record {
  spellable = (head.metaclass_fits, head.flags_fits, subst (λ n. n < 2 ^ 16) (sym whole.long) head.due_fits, whole.fit);
  name_is = refl;
  payload_is = (λ i. objects_head (whole.long i) metaclass flags ++ whole.is i) ∙ sym head.is;
}
