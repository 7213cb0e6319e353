-- The image of lines that break no rule is valid.
use Rattle.std.proofs.Common.{◌≡◌, ◌≢◌, ℕ, ◌+◌, ◌*◌, ◌<◌, ◌≤◌, Bool, true, false, ◌&&◌, ◌||◌, not, cond, ltb, List, [], ◌∷◌, ◌++◌, length, slice_get, Option, Some, None, refl, sym, ap, subst, ◌∙◌, lit<, lit≤, arith}
use Rattle.std.specs.Prelude.{codes}
use Rattle.std.specs.List.{AllByRecursion, flat_map}
use Rattle.std.specs.Str.{bytes_eq}
use Rattle.std.proofs.lemmas.Bool.{ltb-false, false≢true}
use Rattle.std.proofs.lemmas.List.{length-append, length-replicate}
use Rattle.std.proofs.lemmas.Slice.Eq.{bytes_eq-Decides}
use Rattle.t3_holder.specs.NumberText.{little_endian}
use Rattle.t3_holder.proofs.Numbers.{length-little_endian}
use Rattle.t3_blocks.specs.declared.block.Block.TheVariants as blocks
use Rattle.t3_blocks.specs.BlockName.{end_name, layout_names, is_among, is_mandatory, is_unknown_mandatory}
use Rattle.t3_blocks.specs.Spelling.{IsSpellable, name_of, image_limit}
use Rattle.t3_image_read.specs.declared.image.Head.{Head}
use Rattle.t3_image_read.specs.declared.image.PlacedBlock.{PlacedBlock}
use Rattle.t3_image_read.specs.ImageText.{signature, head_text, header_text, block_text, prefix_text, end_header, text}
use Rattle.t3_image_read.specs.Validity.{IsHead, IsGood, IsValid, header_limit}
use Rattle.t3_asm_line.specs.declared.argument.Argument.{Argument}
use Rattle.t3_asm_line.specs.declared.keyword.Keyword.{Keyword}
use Rattle.t3_asm_line.specs.declared.keyword.Keyword.TheVariants as of
use Rattle.t3_asm.specs.declared.item.Item.{Item}
use Rattle.t3_asm.specs.declared.stage.Stage.{Stage}
use Rattle.t3_asm.specs.declared.stage.Stage.TheVariants as stages
use Rattle.t3_asm.specs.Arguments.{short_at, text_at, block_name}
use Rattle.t3_asm.specs.Blocks.{ends_block, is_block, is_object, statics_of, static_of, head_arguments, arguments_in, block_by, block_of, placed_of, blocks_of, head_by, head_in, image_of}
use Rattle.t3_asm.specs.Forms.{is_in_order, is_good_block, has_page_size, has_method, has_good_name, is_end_line, is_ended}
use Rattle.t3_asm.specs.Places.{Labels, labels_of, newest}
use Rattle.t3_asm.specs.Source.{is_many, is_crowded_block, is_crowded, block_size, header_count, passes_limits, refused_from, head_size}
use Rattle.t3_asm.specs.Stages.{stage_behind, stage_of_name, takes}
use Rattle.t3_asm.proofs.EachLine.{length-resized}
use Rattle.t3_asm.proofs.Payloads.{length-placed}
use Rattle.t3_asm.proofs.Chain.{IsSound, Follow, newest-cons, AreWhole}
use Rattle.t3_asm.proofs.Goods.{number_fits, short_fits, few, stands, statics_good, metas_good, names_good, symbols_good, refused_from-None, IsUnrefused, and_true, or_false}

-- ---- names

abbrev is_head : Stage → Bool
is_head stages.EntryHead = true
is_head stages.ObjectsHead = true
is_head stages.PoolHead = true
is_head stages.PageHead = true
is_head stages.Metaclasses = true
is_head stages.FunctionSets = true
is_head stages.Symbols = true
is_head stage = false

no_kind : (a b c d e f g : Bool)
    → is_head (cond a stages.EntryHead (cond b stages.ObjectsHead
    (cond c stages.PoolHead (cond d stages.PageHead
    (cond e stages.Metaclasses (cond f stages.FunctionSets (cond g stages.Symbols stages.Kept))))))) ≡ false
    → (a || (b || (c || (d || (e || (f || (g || false))))))) ≡ false
no_kind false false false false false false false is = refl
no_kind a b c d e f g is = absurd cc

no_layout : (name : List ℕ) → is_head (stage_of_name name) ≡ false → is_among name layout_names ≡ false
unfolding stage_of_name
no_layout name is =
    no_kind (bytes_eq (codes "ENTP") name) (bytes_eq (codes "OBJS") name) (bytes_eq (codes "CPDF") name) (bytes_eq (codes "CPPG") name)
    (bytes_eq (codes "MCLD") name) (bytes_eq (codes "FNSD") name) (bytes_eq (codes "SYMD") name) is

-- a good name
record HasGoodName (name : List ℕ) (flags : ℕ) : Type 0 where
  long : length name ≡ 4
  not_end : name ≢ end_name
  known : is_unknown_mandatory name flags ≡ false

not_true : (b : Bool) → not b ≡ true → b ≡ false
not_true true is = absurd cc
not_true false is = refl

good_name : (arguments : List Argument) (flags : ℕ) → is_good_block (block_name arguments) flags ≡ true
    → HasGoodName (block_name arguments) flags
good_name arguments flags is =
    let name = block_name arguments in
    let parts = or_false (bytes_eq end_name name) (is_unknown_mandatory name flags) (not_true _ is) in
    record {
      long = length-resized 4 0 (text_at arguments 0);
      not_end = λ same. false≢true (sym parts.0 ∙ (bytes_eq-Decides end_name name).1 (sym same));
      known = parts.1;
    }

-- ---- one block

objects_keyword : (keyword : Keyword) → takes stages.ObjectsHead keyword ≡ true → keyword ≡ of.Objects
objects_keyword of.Objects is = refl
objects_keyword keyword is = absurd cc

objects_good : (labels : Labels) (size count : ℕ) (behind : List Item) → Follow stages.ObjectsHead behind → AllByRecursion IsSound behind
    → refused_from labels size count behind ≡ None → IsSpellable (block_by labels [] behind stages.ObjectsHead)
objects_good labels size count [] follow sound good = (lit< tt, lit< tt, lit< tt, tt)
objects_good labels size count (head ∷ items) follow sound good =
    let flags = short_at head.arguments 1 in
    let parts = refused_from-None labels size count head items good in
    let here : takes stages.ObjectsHead head.keyword ≡ true = subst (λ s. takes s head.keyword ≡ true) follow.0
    (stands head sound.0.stands) in
    let is : head.keyword ≡ of.Objects = objects_keyword head.keyword here in
    let next : stage_behind head.place.stage head.keyword head.arguments ≡ stages.Objects flags =
    ap (λ k. stage_behind head.place.stage k head.arguments) is in
    let same : statics_of labels (head ∷ items) ≡ statics_of labels items =
    ap (λ k. cond (ends_block k) [] (cond (is_object k) (static_of labels head items ∷ statics_of labels items)
    (statics_of labels items))) is in
    let roomy : is_many (length (statics_of labels items)) ≡ false = sym (ap (λ k. is_crowded labels head items k) is)
    ∙ parts.first.roomy in
    subst (λ all. IsSpellable (blocks.Objects (short_at head.arguments 0) flags all)) (sym same) (
      short_fits head.arguments 0,
      short_fits head.arguments 1,
      few _ roomy,
      statics_good labels flags (size + block_size labels head items head.keyword) (count + header_count head.keyword)
          (stages.Objects flags) items refl
          (subst (λ s. Follow s items) next follow.1) sound.1 parts.others,
    )

spelled_by : (labels : Labels) (size count : ℕ) (name : List ℕ) (flags : ℕ) (behind : List Item) (stage : Stage)
    → stage_of_name name ≡ stage
    → HasGoodName name flags → Follow stage behind → AllByRecursion IsSound behind → refused_from labels size count behind ≡ None
    → is_crowded_block labels behind stage ≡ false → IsSpellable (block_by labels name behind stage)
spelled_by labels size count name flags behind stages.EntryHead is named follow sound good roomy =
    let head = head_arguments behind in (
      omega arith,
      short_fits head 1,
      short_fits head 2,
      refl,
      (short_fits head 3, (short_fits head 4, (short_fits head 5, (short_fits head 6, tt)))),
    )
spelled_by labels size count name flags behind stages.PoolHead is named follow sound good roomy =
    let head = head_arguments behind in (short_fits head 0, number_fits head 1, number_fits head 2)
spelled_by labels size count name flags behind stages.PageHead is named follow sound good roomy =
    let head = head_arguments behind in (short_fits head 0, number_fits head 1, omega arith)
spelled_by labels size count name flags behind stages.ObjectsHead is named follow sound good roomy =
    objects_good labels size count behind follow sound good
spelled_by labels size count name flags behind stages.Metaclasses is named follow sound good roomy =
    (few _ roomy, metas_good labels size count stages.Metaclasses behind follow sound good)
spelled_by labels size count name flags behind stages.FunctionSets is named follow sound good roomy =
    (few _ roomy, names_good behind sound)
spelled_by labels size count name flags behind stages.Symbols is named follow sound good roomy =
    (few _ roomy, symbols_good labels behind sound)
spelled_by labels size count name flags behind stage is named follow sound good roomy =
    (named.long, record { not_end = named.not_end; no_layout = no_layout name (ap is_head is) })

and_false : (b : Bool) → (b && false) ≡ false
and_false true = refl
and_false false = refl

known_by : (labels : Labels) (name : List ℕ) (behind : List Item) (stage : Stage) (flags : ℕ) → is_unknown_mandatory name flags ≡ false
    → is_unknown_mandatory (name_of (block_by labels name behind stage)) flags ≡ false
known_by labels name behind stages.EntryHead flags known = and_false (is_mandatory flags)
known_by labels name behind stages.PoolHead flags known = and_false (is_mandatory flags)
known_by labels name behind stages.PageHead flags known = and_false (is_mandatory flags)
known_by labels name behind stages.ObjectsHead flags known = and_false (is_mandatory flags)
known_by labels name behind stages.Metaclasses flags known = and_false (is_mandatory flags)
known_by labels name behind stages.FunctionSets flags known = and_false (is_mandatory flags)
known_by labels name behind stages.Symbols flags known = and_false (is_mandatory flags)
known_by labels name behind stage flags known = known

block_keyword : (keyword : Keyword) → is_block keyword ≡ true → keyword ≡ of.Block
block_keyword of.Block is = refl
block_keyword keyword is = absurd cc

named : (item : Item) → is_in_order item ≡ true → has_good_name item.keyword item.arguments ≡ true
named item is =
    let a = and_true (takes item.place.stage item.keyword) _ is in
    let b = and_true (has_page_size item) _ a.1 in
    (and_true (has_method item) _ b.1).1

-- a header's line passes no limit
within_limits : (labels : Labels) (item : Item) (items : List Item) (size count : ℕ) (keyword : Keyword) → item.keyword ≡ keyword
    → ends_block keyword ≡ true
    → (ends_block item.keyword && passes_limits (size + block_size labels item items item.keyword) (count + header_count item.keyword))
    ≡ false
    → (size + block_size labels item items keyword ≤ image_limit) × (count + 1 ≤ header_limit)
within_limits labels item items size count keyword is ends within =
    let here : passes_limits (size + block_size labels item items keyword) (count + 1) ≡ false =
    sym (ap (λ b. b && passes_limits (size + block_size labels item items keyword) (count + cond b 1 0)) ends)
    ∙ sym (ap (λ k. ends_block k && passes_limits (size + block_size labels item items k) (count + header_count k)) is) ∙ within in
    let parts = or_false (ltb image_limit (size + block_size labels item items keyword)) (ltb header_limit (count + 1)) here in
    (ltb-false image_limit (size + block_size labels item items keyword) parts.0, ltb-false header_limit (count + 1) parts.1)

good_block : (labels : Labels) (size count : ℕ) (item : Item) (items : List Item) → item.keyword ≡ of.Block → IsSound item
    → Follow (stage_behind item.place.stage item.keyword item.arguments) items → AllByRecursion IsSound items
    → IsUnrefused labels item items (size + block_size labels item items item.keyword) (count + header_count item.keyword)
    → refused_from labels (size + block_size labels item items item.keyword) (count + header_count item.keyword) items ≡ None
    → IsGood (placed_of labels item items)
unfolding block_of
good_block labels size count item items is sound follow others_sound first others =
    let name = block_name item.arguments in
    let flags = short_at item.arguments 1 in
    let stage = stage_of_name name in
    let good : is_good_block name flags ≡ true = sym (ap (λ k. has_good_name k item.arguments) is) ∙ named item sound.stands in
    let says = good_name item.arguments flags good in
    let next : stage_behind item.place.stage item.keyword item.arguments ≡ stage =
    ap (λ k. stage_behind item.place.stage k item.arguments) is in
    let roomy : is_crowded_block labels items stage ≡ false = sym (ap (λ k. is_crowded labels item items k) is) ∙ first.roomy in
    let limits = within_limits labels item items size count of.Block is refl first.within in
    record {
      spellable =
          spelled_by labels (size + block_size labels item items item.keyword)
          (count + header_count item.keyword) name flags items stage refl says
          (subst (λ s. Follow s items) next follow) others_sound others roomy;
      size = omega (arith, limits.0, length-placed labels item items);
      flags = short_fits item.arguments 1;
      known = known_by labels name items stage flags says.known;
    }

-- ---- all blocks

good_by : (labels : Labels) (item : Item) (items : List Item) (begins : Bool) → (begins ≡ true → IsGood (placed_of labels item items))
    → AllByRecursion IsGood (blocks_of labels items)
    → AllByRecursion IsGood (cond begins (placed_of labels item items ∷ blocks_of labels items) (blocks_of labels items))
good_by labels item items true good others = (good refl, others)
good_by labels item items false good others = others

blocks_good : (labels : Labels) (size count : ℕ) (stage : Stage) (items : List Item) → Follow stage items → AllByRecursion IsSound items
    → refused_from labels size count items ≡ None → AllByRecursion IsGood (blocks_of labels items)
unfolding blocks_of
blocks_good labels size count stage [] follow sound good = tt
blocks_good labels size count stage (item ∷ items) follow sound good =
    let parts = refused_from-None labels size count item items good in
    good_by labels item items (is_block item.keyword) (λ begins.
    good_block labels size count item items (block_keyword item.keyword begins) sound.0 follow.1 sound.1 parts.first parts.others)
    (blocks_good labels (size + block_size labels item items item.keyword) (count + header_count item.keyword)
    (stage_behind item.place.stage item.keyword item.arguments) items follow.1 sound.1 parts.others)

-- ---- limits

-- how many lines are the end's
abbrev end_lines : List Item → ℕ
end_lines [] = 0
end_lines (item ∷ items) = cond (is_end_line item.keyword) 1 0 + end_lines items

-- blocks and ends fit the image behind what was there
record Fits (size count blocks headers ends : ℕ) : Type 0 where
  bytes : size + blocks + 10 * ends ≤ image_limit
  few_headers : count + headers + ends ≤ header_limit

fits_by : (labels : Labels) (item : Item) (items : List Item) (size count : ℕ) (keyword : Keyword) → item.keyword ≡ keyword
    → Fits (size + block_size labels item items keyword) (count + header_count keyword)
    (length (flat_map block_text (blocks_of labels items)))
    (length (blocks_of labels items)) (end_lines items)
    → Fits size count (length (flat_map block_text
    (cond (is_block keyword) (placed_of labels item items ∷ blocks_of labels items) (blocks_of labels items))))
    (length (cond (is_block keyword) (placed_of labels item items ∷ blocks_of labels items) (blocks_of labels items)))
    (cond (is_end_line keyword) 1 0 + end_lines items)
fits_by labels item items size count of.Block is fits = record {
  bytes = omega (
    arith,
    fits.bytes,
    length-append (block_text (placed_of labels item items))
        (flat_map block_text (blocks_of labels items)),
  );
  few_headers = omega (arith, fits.few_headers);
}
fits_by labels item items size count of.End is fits =
    record { bytes = omega (arith, fits.bytes); few_headers = omega (arith, fits.few_headers) }
fits_by labels item items size count keyword is fits =
    record { bytes = omega (arith, fits.bytes); few_headers = omega (arith, fits.few_headers) }

-- what has come so far is within the limits, at a line that begins no block as before it
so_far : (labels : Labels) (item : Item) (items : List Item) (size count : ℕ) (keyword : Keyword) → item.keyword ≡ keyword
    → (ends_block item.keyword && passes_limits (size + block_size labels item items item.keyword) (count + header_count item.keyword))
    ≡ false
    → size ≤ image_limit → count ≤ header_limit
    → (size + block_size labels item items keyword ≤ image_limit) × (count + header_count keyword ≤ header_limit)
so_far labels item items size count of.Block is within small few = within_limits labels item items size count of.Block is refl within
so_far labels item items size count of.End is within small few = within_limits labels item items size count of.End is refl within
so_far labels item items size count keyword is within small few = (omega arith, omega arith)

totals : (labels : Labels) (size count : ℕ) (items : List Item) → refused_from labels size count items ≡ None
    → size ≤ image_limit → count ≤ header_limit
    → Fits size count (length (flat_map block_text (blocks_of labels items))) (length (blocks_of labels items)) (end_lines items)
unfolding blocks_of
totals labels size count [] good small few = record { bytes = omega arith; few_headers = omega arith }
totals labels size count (item ∷ items) good small few =
    let parts = refused_from-None labels size count item items good in
    let here = so_far labels item items size count item.keyword refl parts.first.within small few in
    fits_by labels item items size count item.keyword refl
    (totals labels (size + block_size labels item items item.keyword) (count + header_count item.keyword) items parts.others here.0 here.1)

one_end : (item : Item) (items : List Item) → is_ended (newest (item ∷ items)) ≡ true → 0 < end_lines (item ∷ items)
one_end item [] ended = subst (λ b. 0 < cond b 1 0 + 0) (sym ended) (lit< tt)
one_end a (b ∷ items) ended = omega (arith, one_end b items (sym (ap is_ended (newest-cons a b items)) ∙ ended))

some_end : (items : List Item) → is_ended (newest items) ≡ true → 0 < end_lines items
some_end [] ended = absurd cc
some_end (item ∷ items) ended = one_end item items ended

-- ---- the image

length-head_text : (head : Head) → IsHead head → length (head_text head) ≡ 69
unfolding head_text signature
length-head_text head is =
    omega (
      arith,
      is.reserved,
      is.stamp,
      length-append (signature ++ little_endian 2 1 ++ head.reserved) head.stamp,
      length-append (signature ++ little_endian 2 1) head.reserved,
      length-append signature (little_endian 2 1),
      length-little_endian 2 1,
    )

length-end : (flags : ℕ) → length (header_text (end_header flags)) ≡ 10
unfolding header_text
length-end flags =
    omega (
      arith,
      length-append (end_name ++ little_endian 4 0) (little_endian 2 flags),
      length-append end_name (little_endian 4 0),
      length-little_endian 4 0,
      length-little_endian 2 flags,
    )

pub length-text : (head : Head) (blocks : List PlacedBlock) (flags : ℕ) → IsHead head
    → length (text (record { head = head; blocks = blocks; eof_flags = flags })) ≡ 69 + length (flat_map block_text blocks) + 10
unfolding text prefix_text
length-text head blocks flags is =
    omega (
      arith,
      length-append (prefix_text head blocks) (header_text (end_header flags)),
      length-append (head_text head) (flat_map block_text blocks),
      length-head_text head is,
      length-end flags,
    )

head_good : (keyword : Keyword) (arguments : List Argument) → IsHead (head_by keyword arguments)
head_good of.ImageHead arguments =
    record { reserved = length-resized 32 0 (text_at arguments 0); stamp = length-resized 24 32 (text_at arguments 1) }
head_good keyword arguments = record { reserved = length-replicate {A = ℕ} 32 0; stamp = length-replicate {A = ℕ} 24 32 }

first_head : (item : Option Item) → IsHead (head_in item)
first_head None = head_good of.Image []
first_head (Some item) = head_good item.keyword item.arguments

-- lines that break no rule say a valid image
pub image_valid : (items : List Item) → AreWhole items → refused_from (labels_of items) head_size 0 items ≡ None
    → IsValid (image_of (labels_of items) items)
unfolding image_of
image_valid items whole good =
    let labels = labels_of items in
    let fits = totals labels head_size 0 items good (lit≤ tt) (lit≤ tt) in
    let ended = some_end items whole.ended in
    let flags = short_at (arguments_in (newest items)) 0 in
    record {
      head = first_head (slice_get items 0);
      blocks = blocks_good labels head_size 0 stages.Image items whole.read.follow whole.read.sound good;
      eof_flags = short_fits (arguments_in (newest items)) 0;
      count = omega (arith, fits.few_headers, ended);
      size = omega (
        arith,
        fits.bytes,
        ended,
        length-text (head_in (slice_get items 0)) (blocks_of labels items) flags
            (first_head (slice_get items 0)),
      );
    }
