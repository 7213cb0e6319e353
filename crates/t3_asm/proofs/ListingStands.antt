-- The lines of a valid image's listing may stand one behind the other.
use Rattle.std.proofs.Common.{◌≡◌, ◌≢◌, ℕ, ◌%◌, ◌^◌, ◌<◌, Bool, true, false, ◌&&◌, ◌||◌, not, cond, List, [], ◌∷◌, ◌++◌, length, map, refl, sym, ap, ◌∙◌, subst, arith}
use Rattle.std.specs.Prelude.{codes}
use Rattle.std.specs.List.{AllByRecursion, flat_map, list_any}
use Rattle.std.specs.Str.{bytes_eq}
use Rattle.t3_blocks.specs.BlockName.{end_name, layout_names, is_among, is_mandatory, is_unknown_mandatory}
use Rattle.t3_blocks.proofs.BlockNames.{differs}
use Rattle.t3_blocks.specs.declared.block.Block.{Block}
use Rattle.t3_blocks.specs.declared.block.Block.TheVariants as blocks
use Rattle.t3_blocks.specs.declared.items.Meta.{Meta}
use Rattle.t3_blocks.specs.declared.items.Static.{Static}
use Rattle.t3_blocks.specs.Spelling.{IsMeta, IsSpellable, name_of}
use Rattle.t3_image_read.specs.declared.image.PlacedBlock.{PlacedBlock}
use Rattle.t3_image_read.specs.ImageText.{ImageValue}
use Rattle.t3_image_read.specs.Validity.{IsGood, IsValid}
use Rattle.t3_asm_line.specs.declared.argument.Argument.{Argument}
use Rattle.t3_asm_line.specs.declared.argument.Argument.TheVariants.{Number, Text}
use Rattle.t3_asm_line.specs.declared.keyword.Keyword.TheVariants as of
use Rattle.t3_asm_line.specs.declared.line.ParsedLine.{ParsedLine}
use Rattle.t3_asm_line.specs.Line.{parsed_line}
use Rattle.t3_asm.specs.declared.stage.Stage.{Stage}
use Rattle.t3_asm.specs.declared.stage.Stage.TheVariants as stages
use Rattle.t3_asm.specs.Arguments.{short_at, resized, block_name, is_address, is_offset}
use Rattle.t3_asm.specs.Forms.{is_good_block}
use Rattle.t3_asm.specs.Listing.{bytes_lines, entry_line, end_line, static_lines, prop_lines, meta_lines, name_lines, symbol_lines, lines_in, block_lines, listed_lines}
use Rattle.t3_asm.specs.Stages.{stage_of_name, takes_block, takes_metaclass}
use Rattle.t3_asm.proofs.EachLine.{resized-same}
use Rattle.t3_asm.proofs.ListingForm.{StandFrom}
use Rattle.t3_asm.proofs.EntriesStand.{stage_through, StandFrom-append, stage_through-append, StandTo, not_resized, bytes_lines_stand, names_stand, symbols_stand, objects_end, objects_stand, props_stand}

-- ---- metaclasses and blocks, which further blocks may follow

pub record StandWell (stage : Stage) (lines : List ParsedLine) : Type 0 where
  pub stand : StandFrom stage lines
  pub closes : takes_block (stage_through stage lines) ≡ true

well : (stage end : Stage) (lines : List ParsedLine) → StandTo stage lines end → takes_block end ≡ true → StandWell stage lines
well stage end lines to closes = record { stand = to.stand; closes = ap takes_block to.ends ∙ closes }

StandWell-append : (stage mid : Stage) (front back : List ParsedLine) → StandTo stage front mid → StandWell mid back
    → StandWell stage (front ++ back)
StandWell-append stage mid front back first second = record {
  stand = StandFrom-append stage front back first.stand (subst (λ s. StandFrom s back) (sym first.ends) second.stand);
  closes =
      ap takes_block (stage_through-append stage front back ∙ ap (λ s. stage_through s back) first.ends) ∙ second.closes;
}

StandWell-both : (stage : Stage) (front back : List ParsedLine) → StandWell stage front
    → ((s : Stage) → takes_block s ≡ true → StandWell s back) → StandWell stage (front ++ back)
StandWell-both stage front back first second =
    StandWell-append stage (stage_through stage front) front back (record { stand = first.stand; ends = refl })
    (second (stage_through stage front) first.closes)

pub short_number : (n : ℕ) → n < 2 ^ 16 → n % 4294967296 % 65536 ≡ n
short_number n less = omega arith

meta_to : (stage : Stage) (meta : Meta) → takes_metaclass stage ≡ true → IsMeta meta
    → StandTo stage (meta_lines meta) (stages.Metaclass meta.property_size)
meta_to stage meta takes is =
    let size = meta.property_size in
    let same : stages.Metaclass (size % 4294967296 % 65536) ≡ stages.Metaclass size = ap stages.Metaclass (short_number size is.1.size) in
    let props = props_stand size meta.props is.1.props in
    record {
      stand = (
        record {
          taken = takes;
          sized = not_resized stage of.Metaclass (Text meta.name ∷ Number size ∷ Text meta.tail ∷ []) (λ n. refl);
          named = refl;
          no_label = refl;
          no_address = refl;
          no_offset = refl;
        },
        subst (λ s. StandFrom s (flat_map (prop_lines size) meta.props)) (sym same) props.stand,
      );
      ends = ap (λ s. stage_through s (flat_map (prop_lines size) meta.props)) same ∙ props.ends;
    }

meta_closes : (stage : Stage) → takes_metaclass stage ≡ true → takes_block stage ≡ true
meta_closes stages.Metaclasses is = refl
meta_closes (stages.Metaclass size) is = refl
meta_closes stage is = absurd cc

metas_stand : (stage : Stage) (metas : List Meta) → takes_metaclass stage ≡ true → AllByRecursion IsMeta metas
    → StandWell stage (flat_map meta_lines metas)
metas_stand stage [] takes are = record { stand = tt; closes = meta_closes stage takes }
metas_stand stage (meta ∷ metas) takes are =
    StandWell-append stage (stages.Metaclass meta.property_size) (meta_lines meta) (flat_map meta_lines metas)
    (meta_to stage meta takes are.0)
    (metas_stand (stages.Metaclass meta.property_size) metas refl are.1)

objects_close : (flags : ℕ) (objects : List Static) → takes_block (objects_end flags objects) ≡ true
objects_close flags [] = refl
objects_close flags (object ∷ objects) = refl

abbrev pub named_by : List ℕ → ℕ → List Argument
named_by name flags = Text name ∷ Number flags ∷ []

-- a block's line, and what it has
with_block : (stage kind : Stage) (name : List ℕ) (flags : ℕ) (lines : List ParsedLine) → takes_block stage ≡ true
    → is_good_block (block_name (named_by name flags)) (short_at (named_by name flags) 1) ≡ true
    → stage_of_name (block_name (named_by name flags)) ≡ kind → StandWell kind lines
    → StandWell stage (parsed_line of.Block (named_by name flags) ∷ lines)
with_block stage kind name flags lines closes good is lists = record {
  stand = (
    record {
      taken = closes;
      sized = not_resized stage of.Block (named_by name flags) (λ n. refl);
      named = good;
      no_label = refl;
      no_address = refl;
      no_offset = refl;
    },
    subst (λ s. StandFrom s lines) (sym is) lists.stand,
  );
  closes = ap (λ s. takes_block (stage_through s lines)) is ∙ lists.closes;
}

and_false : (b : Bool) → (b && false) ≡ false
and_false true = refl
and_false false = refl

known_name : (flags : ℕ) → not (false || (is_mandatory flags && false)) ≡ true
known_name flags = ap (λ b. not (false || b)) (and_false (is_mandatory flags))

pub numbers_address : (numbers text : List ℕ) → list_any is_address (map Number numbers ++ Text text ∷ []) ≡ false
numbers_address [] text = refl
numbers_address (n ∷ numbers) text = numbers_address numbers text

pub numbers_offset : (numbers text : List ℕ) → list_any is_offset (map Number numbers ++ Text text ∷ []) ≡ false
numbers_offset [] text = refl
numbers_offset (n ∷ numbers) text = numbers_offset numbers text

no_kind : (a b c d e f g : Bool) → (a || (b || (c || (d || (e || (f || (g || false))))))) ≡ false
    → cond a stages.EntryHead (cond b stages.ObjectsHead
    (cond c stages.PoolHead (cond d stages.PageHead
    (cond e stages.Metaclasses (cond f stages.FunctionSets (cond g stages.Symbols stages.Kept))))))
    ≡ stages.Kept
no_kind false false false false false false false is = refl
no_kind a b c d e f g is = absurd cc

pub kept_stage : (name : List ℕ) → is_among name layout_names ≡ false → stage_of_name name ≡ stages.Kept
unfolding stage_of_name
kept_stage name is =
    no_kind (bytes_eq (codes "ENTP") name) (bytes_eq (codes "OBJS") name) (bytes_eq (codes "CPDF") name) (bytes_eq (codes "CPPG") name)
    (bytes_eq (codes "MCLD") name) (bytes_eq (codes "FNSD") name) (bytes_eq (codes "SYMD") name) is

good_plain : (a b : Bool) → a ≡ false → b ≡ false → not (a || b) ≡ true
good_plain a b ia ib = ap (λ x. not (x || b)) ia ∙ ap (λ x. not (false || x)) ib

kept_good : (name : List ℕ) (flags : ℕ) → length name ≡ 4 → name ≢ end_name → flags < 2 ^ 16 → is_unknown_mandatory name flags ≡ false
    → is_good_block (block_name (named_by name flags)) (short_at (named_by name flags) 1) ≡ true
kept_good name flags long other less known =
    ap (λ n. is_good_block n (flags % 4294967296 % 65536)) (resized-same 4 0 name long)
    ∙ ap (λ f. is_good_block name f) (short_number flags less)
    ∙ good_plain (bytes_eq end_name name) (is_unknown_mandatory name flags) (differs end_name name other) known

by_block : (block : Block) (flags : ℕ) → IsSpellable block → flags < 2 ^ 16 → is_unknown_mandatory (name_of block) flags ≡ false
    → (stage : Stage) → takes_block stage ≡ true
    → StandWell stage (parsed_line of.Block (named_by (name_of block) flags) ∷ lines_in block)
unfolding resized stage_of_name
by_block (blocks.Entry code m e debug tail) flags is less known stage closes =
    with_block stage stages.EntryHead (codes "ENTP") flags (entry_line code m e debug tail ∷ []) closes (known_name _) refl (record {
      stand = (
        record {
          taken = refl;
          sized = refl;
          named = refl;
          no_label = refl;
          no_address = numbers_address debug tail;
          no_offset = numbers_offset debug tail;
        },
        tt,
      );
      closes = refl;
    })
by_block (blocks.Objects metaclass own objects) flags is less known stage closes =
    let head = parsed_line of.Objects (Number metaclass ∷ Number own ∷ []) in
    let same : stages.Objects (own % 4294967296 % 65536) ≡ stages.Objects own = ap stages.Objects (short_number own is.1) in
    let all = objects_stand own objects in
    with_block stage stages.ObjectsHead (codes "OBJS") flags (head ∷ flat_map static_lines objects) closes (known_name _) refl (record {
      stand = (
        record { taken = refl; sized = refl; named = refl; no_label = refl; no_address = refl; no_offset = refl },
        subst (λ s. StandFrom s (flat_map static_lines objects)) (sym same) all.stand,
      );
      closes = ap (λ s. takes_block (stage_through s (flat_map static_lines objects))) same ∙ ap takes_block all.ends
          ∙ objects_close own objects;
    })
by_block (blocks.PoolDef pool count size) flags is less known stage closes =
    with_block stage stages.PoolHead (codes "CPDF") flags (parsed_line of.Pool (Number pool ∷ Number count ∷ Number size ∷ []) ∷ []) closes
    (known_name _) refl (record {
      stand = (record { taken = refl; sized = refl; named = refl; no_label = refl; no_address = refl; no_offset = refl }, tt);
      closes = refl;
    })
by_block (blocks.Page pool index mask bytes) flags is less known stage closes =
    let page = bytes_lines_stand stages.Page refl bytes in
    with_block stage stages.PageHead (codes "CPPG") flags
    (parsed_line of.Page (Number pool ∷ Number index ∷ Number mask ∷ []) ∷ bytes_lines bytes) closes (known_name _) refl (record {
      stand = (record { taken = refl; sized = refl; named = refl; no_label = refl; no_address = refl; no_offset = refl }, page.stand);
      closes = ap takes_block page.ends;
    })
by_block (blocks.Metas metas) flags is less known stage closes =
    with_block stage stages.Metaclasses (codes "MCLD") flags (flat_map meta_lines metas) closes (known_name _) refl
    (metas_stand stages.Metaclasses metas refl is.1)
by_block (blocks.Functions names) flags is less known stage closes =
    with_block stage stages.FunctionSets (codes "FNSD") flags (flat_map name_lines names) closes (known_name _) refl
    (well stages.FunctionSets stages.FunctionSets (flat_map name_lines names) (names_stand names) refl)
by_block (blocks.Symbols symbols) flags is less known stage closes =
    with_block stage stages.Symbols (codes "SYMD") flags (flat_map symbol_lines symbols) closes (known_name _) refl
    (well stages.Symbols stages.Symbols (flat_map symbol_lines symbols) (symbols_stand symbols) refl)
by_block (blocks.Opaque name bytes) flags is less known stage closes =
    with_block stage stages.Kept name flags (bytes_lines bytes) closes (kept_good name flags is.0 is.1.not_end less known)
    (ap stage_of_name (resized-same 4 0 name is.0) ∙ kept_stage name is.1.no_layout)
    (well stages.Kept stages.Kept (bytes_lines bytes) (bytes_lines_stand stages.Kept refl bytes) refl)

pub block_stands : (placed : PlacedBlock) → IsGood placed → (stage : Stage) → takes_block stage ≡ true
    → StandWell stage (block_lines placed)
block_stands placed good stage closes = by_block placed.block placed.flags good.spellable good.flags good.known stage closes

blocks_stand : (placed : List PlacedBlock) → AllByRecursion IsGood placed → (stage : Stage) → takes_block stage ≡ true
    → StandWell stage (flat_map block_lines placed)
blocks_stand [] good stage closes = record { stand = tt; closes = closes }
blocks_stand (block ∷ placed) good stage closes =
    StandWell-both stage (block_lines block) (flat_map block_lines placed) (block_stands block good.0 stage closes)
    (blocks_stand placed good.1)

-- the lines of a valid image's listing
pub listed_stand : (image : ImageValue) → IsValid image → StandFrom stages.Image (listed_lines image)
unfolding listed_lines
listed_stand image valid =
    let all = blocks_stand image.blocks valid.blocks stages.Between refl in
    let last = stage_through stages.Between (flat_map block_lines image.blocks) in (
      record { taken = refl; sized = refl; named = refl; no_label = refl; no_address = refl; no_offset = refl },
      StandFrom-append stages.Between (flat_map block_lines image.blocks) (end_line image.eof_flags ∷ []) all.stand (
        record {
          taken = all.closes;
          sized = not_resized last of.End (Number image.eof_flags ∷ []) (λ n. refl);
          named = refl;
          no_label = refl;
          no_address = refl;
          no_offset = refl;
        },
        tt,
      ),
    )
