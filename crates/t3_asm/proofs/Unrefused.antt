-- The lines of a valid image's listing break no rule of values.
use Rattle.std.proofs.Common.{◌≡◌, ℕ, zero, ◌+◌, Bool, false, ◌&&◌, ◌||◌, cond, List, [], ◌∷◌, ◌++◌, Option, Some, None, refl, ap, subst, ◌∙◌, arith}
use Rattle.std.specs.List.{AllByRecursion, list_any}
use Rattle.t3_asm_line.specs.declared.argument.Argument.{Argument}
use Rattle.t3_asm_line.specs.declared.argument.Argument.TheVariants.{Number, Text, Address, Offset}
use Rattle.t3_asm_line.specs.declared.field.Field.{Field}
use Rattle.t3_asm_line.specs.declared.field.Field.TheVariants.{Jump}
use Rattle.t3_asm_line.specs.declared.keyword.Keyword.{Keyword}
use Rattle.t3_asm_line.specs.declared.keyword.Keyword.TheVariants as of
use Rattle.t3_asm_line.specs.declared.line.ParsedLine.{ParsedLine}
use Rattle.t3_asm_line.specs.Keywords.{fields_of}
use Rattle.t3_asm.specs.declared.item.Item.{Item}
use Rattle.t3_asm.specs.declared.stage.Stage.{Stage}
use Rattle.t3_asm.specs.declared.refusal.AsmWhy.TheVariants as whys
use Rattle.t3_asm.specs.declared.values.Rule.{Rule}
use Rattle.t3_asm.specs.declared.values.Rule.TheVariants.{Missing, Far, Wide}
use Rattle.t3_asm.specs.Arguments.{is_address, is_offset}
use Rattle.t3_asm.specs.Blocks.{ends_block}
use Rattle.t3_asm.specs.Places.{Labels}
use Rattle.t3_asm.specs.Source.{is_crowded, block_size, header_count, passes_limits, value_why, or_next, refused_from}
use Rattle.t3_asm.specs.Stages.{stage_behind}
use Rattle.t3_asm.specs.Sizes.{width_of}
use Rattle.t3_asm.specs.Values.{is_far_jump, breaks, some_breaks, lead_size, line_breaks}
use Rattle.t3_asm.proofs.Chain.{Follow}
use Rattle.t3_asm.proofs.EntriesStand.{stage_through}
use Rattle.t3_asm.proofs.Goods.{or_false}
use Rattle.t3_asm.proofs.ListedItems.{Positions, item_at, after, items_at}

-- ---- one line

far_number : (labels : Labels) (own : ℕ) (field : Field) (n : ℕ) → is_far_jump labels own field (Number n) ≡ false
far_number labels own Jump n = refl
far_number labels own field n = refl

far_text : (labels : Labels) (own : ℕ) (field : Field) (text : List ℕ) → is_far_jump labels own field (Text text) ≡ false
far_text labels own Jump text = refl
far_text labels own field text = refl

-- an argument without a label breaks no rule
breaks_none : (rule : Rule) (labels : Labels) (method : Option ℕ) (own : ℕ) (field : Field) (argument : Argument)
    → is_address argument ≡ false → is_offset argument ≡ false → breaks rule labels method own field argument ≡ false
breaks_none Missing labels method own field (Number n) address offset = refl
breaks_none Far labels method own field (Number n) address offset = far_number labels own field n
breaks_none Wide labels method own field (Number n) address offset = refl
breaks_none Missing labels method own field (Text text) address offset = refl
breaks_none Far labels method own field (Text text) address offset = far_text labels own field text
breaks_none Wide labels method own field (Text text) address offset = refl
breaks_none rule labels method own field (Address label) address offset = absurd cc
breaks_none rule labels method own field (Offset label) address offset = absurd cc

-- arguments without labels
pub record HasNoLabel (arguments : List Argument) : Type 0 where
  pub no_address : list_any is_address arguments ≡ false
  pub no_offset : list_any is_offset arguments ≡ false

some_none : (rule : Rule) (labels : Labels) (method : Option ℕ) (own : ℕ) (fields : List Field) (arguments : List Argument)
    → HasNoLabel arguments → some_breaks rule labels method own fields arguments ≡ false
some_none rule labels method own [] arguments none = refl
some_none rule labels method own (field ∷ fields) [] none = refl
some_none rule labels method own (field ∷ fields) (argument ∷ arguments) none =
    let address = or_false (is_address argument) (list_any is_address arguments) none.no_address in
    let offset = or_false (is_offset argument) (list_any is_offset arguments) none.no_offset in
    ap (λ b. b || some_breaks rule labels method (own + width_of field) fields arguments)
    (breaks_none rule labels method own field argument address.0 offset.0)
    ∙ some_none rule labels method (own + width_of field) fields arguments (record { no_address = address.1; no_offset = offset.1 })

line_none : (rule : Rule) (labels : Labels) (item : Item) → HasNoLabel item.arguments → line_breaks rule labels item ≡ false
line_none rule labels item none =
    some_none rule labels item.place.method (item.place.address + lead_size item.keyword) (fields_of item.keyword) item.arguments none

by_rules : (missing far wide crowded long : Bool) → missing ≡ false → far ≡ false → wide ≡ false → crowded ≡ false → long ≡ false
    → cond missing (Some whys.LabelMissing)
    (cond far (Some whys.Jump) (cond (wide || crowded) (Some whys.Range) (cond long (Some whys.TooLong) None))) ≡ None
by_rules missing far wide crowded long m f w c l =
    ap (λ b. cond b (Some whys.LabelMissing)
    (cond far (Some whys.Jump) (cond (wide || crowded) (Some whys.Range) (cond long (Some whys.TooLong) None)))) m
    ∙ ap (λ b. cond b (Some whys.Jump) (cond (wide || crowded) (Some whys.Range) (cond long (Some whys.TooLong) None))) f
    ∙ ap (λ b. cond (b || crowded) (Some whys.Range) (cond long (Some whys.TooLong) None)) w
    ∙ ap (λ b. cond b (Some whys.Range) (cond long (Some whys.TooLong) None)) c ∙ ap (λ b. cond b (Some whys.TooLong) None) l

-- a line that breaks no rule, and others behind it
pub refused_none : (labels : Labels) (size count : ℕ) (item : Item) (items : List Item) (with_block with_header : ℕ)
    → size + block_size labels item items item.keyword ≡ with_block → count + header_count item.keyword ≡ with_header
    → HasNoLabel item.arguments → is_crowded labels item items item.keyword ≡ false
    → (ends_block item.keyword && passes_limits with_block with_header) ≡ false
    → refused_from labels with_block with_header items ≡ None → refused_from labels size count (item ∷ items) ≡ None
refused_none labels size count item items with_block with_header size_is count_is none roomy within others =
    (λ i. or_next item.line (value_why labels item items (size_is i) (count_is i)) (refused_from labels (size_is i) (count_is i) items))
    ∙ ap (λ why. or_next item.line why (refused_from labels with_block with_header items))
    (by_rules (line_breaks Missing labels item) (line_breaks Far labels item) (line_breaks Wide labels item)
    (is_crowded labels item items item.keyword)
    (ends_block item.keyword && passes_limits with_block with_header) (line_none Missing labels item none) (line_none Far labels item none)
    (line_none Wide labels item none) roomy within)
    ∙ others

-- ---- lines that begin nothing which is counted or measured

pub record IsQuiet (line : ParsedLine) : Type 0 where
  pub no_address : list_any is_address line.arguments ≡ false
  pub no_offset : list_any is_offset line.arguments ≡ false
  pub inside : ends_block line.keyword ≡ false
  pub roomy : (labels : Labels) (item : Item) (behind : List Item) → is_crowded labels item behind line.keyword ≡ false

no_size : (labels : Labels) (item : Item) (behind : List Item) (keyword : Keyword) → ends_block keyword ≡ false
    → block_size labels item behind keyword ≡ 0
no_size labels item behind of.Block inside = absurd cc
no_size labels item behind of.End inside = absurd cc
no_size labels item behind keyword inside = refl

-- a line inside a block
pub inside_none : (labels : Labels) (size count : ℕ) (item : Item) (items : List Item) → HasNoLabel item.arguments
    → ends_block item.keyword ≡ false
    → is_crowded labels item items item.keyword ≡ false → refused_from labels size count items ≡ None
    → refused_from labels size count (item ∷ items) ≡ None
inside_none labels size count item items none inside roomy others =
    refused_none labels size count item items size count (omega (arith, no_size labels item items item.keyword inside))
    (omega (arith, ap {B = ℕ} (λ b. cond b 1 0) inside)) none roomy (ap (λ b. b && passes_limits size count) inside) others

-- each line follows the one before it, wherever it stands
pub follow_next : (stage : Stage) (positions : Positions) (line : ParsedLine) (lines : List ParsedLine)
    → Follow stage (items_at positions (line ∷ lines))
    → Follow (stage_behind stage line.keyword line.arguments) (items_at (after positions) lines)
follow_next stage positions line lines follow =
    subst (λ s. Follow (stage_behind s line.keyword line.arguments) (items_at (after positions) lines)) follow.0 follow.1

-- what lines are unrefused with, wherever they stand
abbrev pub Unrefused : Labels → ℕ → ℕ → Stage → List ParsedLine → Type 0
Unrefused labels size count stage lines = (positions : Positions) → Follow stage (items_at positions lines)
    → refused_from labels size count (items_at positions lines) ≡ None

pub quiet_none : (labels : Labels) (size count : ℕ) (stage : Stage) (front behind : List ParsedLine) → AllByRecursion IsQuiet front
    → Unrefused labels size count (stage_through stage front) behind → Unrefused labels size count stage (front ++ behind)
quiet_none labels size count stage [] behind quiet others positions follow = others positions follow
quiet_none labels size count stage (line ∷ front) behind quiet others positions follow =
    let items = items_at (after positions) (front ++ behind) in
    inside_none labels size count (item_at (positions zero) line) items
    (record { no_address = quiet.0.no_address; no_offset = quiet.0.no_offset }) quiet.0.inside
    (quiet.0.roomy labels (item_at (positions zero) line) items)
    (quiet_none labels size count (stage_behind stage line.keyword line.arguments) front behind quiet.1 others (after positions)
    (follow_next stage positions line (front ++ behind) follow))
