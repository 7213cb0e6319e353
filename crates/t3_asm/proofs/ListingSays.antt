-- The listing of a valid image is a source of exactly that image.
use Rattle.std.proofs.Common.{◌≡◌, zero, List, [], ◌∷◌, ◌++◌, None, Ok, refl, sym, ap, subst, ◌∙◌, arith}
use Rattle.std.specs.List.{flat_map}
use Rattle.t3_image_read.specs.declared.image.Head.{Head}
use Rattle.t3_image_read.specs.ImageText.{ImageValue}
use Rattle.t3_image_read.specs.Validity.{IsHead, IsValid}
use Rattle.t3_asm_line.specs.declared.line.ParsedLine.{ParsedLine}
use Rattle.t3_asm.specs.declared.stage.Stage.TheVariants as stages
use Rattle.t3_asm.specs.Arguments.{short_at, resized}
use Rattle.t3_asm.specs.Blocks.{arguments_in, blocks_of, image_of}
use Rattle.t3_asm.specs.Forms.{formed}
use Rattle.t3_asm.specs.Listing.{listing, listed_lines, head_line, end_line, block_lines}
use Rattle.t3_asm.specs.Places.{Labels, labels_of, newest, items_behind}
use Rattle.t3_asm.specs.Source.{head_size, refused_from, Satisfies}
use Rattle.t3_asm.proofs.Chain.{Follow, newest-cons, formed-whole}
use Rattle.t3_asm.proofs.EachLine.{resized-same}
use Rattle.t3_asm.proofs.ListedItems.{Positions, item_at, after, items_at, positions_behind, lines_with-flat}
use Rattle.t3_asm.proofs.ListingStands.{short_number}
use Rattle.t3_asm.proofs.SaidBlocks.{blocks_said}
use Rattle.t3_asm.proofs.Sourcing.{says_image}
use Rattle.t3_asm.proofs.Unrefused.{inside_none, follow_next}
use Rattle.t3_asm.proofs.UnrefusedBlocks.{blocks_none}
use Rattle.t3_asm.proofs.Valid.{length-text}

head_said : (head : Head) → IsHead head → record { reserved = resized 32 0 head.reserved; stamp = resized 24 32 head.stamp } ≡ head
head_said head is =
    let reserved = resized-same 32 0 head.reserved is.reserved in
    let stamp = resized-same 24 32 head.stamp is.stamp in
    λ i. record { reserved = reserved i; stamp = stamp i }

-- the last line is the newest
last_arguments : (positions : Positions) (front : List ParsedLine) (line : ParsedLine)
    → arguments_in (newest (items_at positions (front ++ line ∷ []))) ≡ line.arguments
last_arguments positions [] line = refl
last_arguments positions (first ∷ []) line =
    ap arguments_in (newest-cons (item_at (positions zero) first) (item_at (after positions zero) line) [])
last_arguments positions (first ∷ second ∷ front) line =
    ap arguments_in (newest-cons (item_at (positions zero) first) (item_at (after positions zero) second)
    (items_at (after (after positions)) (front ++ line ∷ [])))
    ∙ last_arguments (after positions) (second ∷ front) line

image_said : (labels : Labels) (image : ImageValue) → IsValid image → (positions : Positions)
    → image_of labels (items_at positions (listed_lines image)) ≡ image
unfolding image_of blocks_of listed_lines
image_said labels image valid positions =
    let head = head_said image.head valid.head in
    let front = flat_map block_lines image.blocks in
    let blocks = ap (λ l. blocks_of labels (items_at (after positions) l))
    (lines_with-flat block_lines image.blocks (end_line image.eof_flags ∷ []))
    ∙ blocks_said labels image.blocks valid.blocks image.eof_flags (after positions) in
    let flags = ap (λ arguments. short_at arguments 0) (last_arguments positions (head_line image.head ∷ front) (end_line image.eof_flags))
    ∙ short_number image.eof_flags valid.eof_flags in
    λ i. record { head = head i; blocks = blocks i; eof_flags = flags i }

image_unrefused : (labels : Labels) (image : ImageValue) → IsValid image → (positions : Positions)
    → Follow stages.Image (items_at positions (listed_lines image))
    → refused_from labels head_size 0 (items_at positions (listed_lines image)) ≡ None
unfolding listed_lines
image_unrefused labels image valid positions follow =
    let front = flat_map block_lines image.blocks in
    let last = end_line image.eof_flags ∷ [] in
    let same = lines_with-flat block_lines image.blocks last in
    let size = length-text image.head image.blocks image.eof_flags valid.head in
    let next = follow_next stages.Image positions (head_line image.head) (front ++ last) follow in
    inside_none labels head_size 0 (item_at (positions zero) (head_line image.head)) (items_at (after positions) (front ++ last))
    (record { no_address = refl; no_offset = refl }) refl refl
    (ap (λ l. refused_from labels head_size 0 (items_at (after positions) l)) same
    ∙ blocks_none labels head_size 0 image.blocks valid.blocks image.eof_flags (omega (arith, size, valid.size))
    (omega (arith, valid.count))
    stages.Between (after positions) (subst (λ l. Follow stages.Between (items_at (after positions) l)) same next))

-- the lines of a valid image's listing say the image
pub listing_satisfies : (image : ImageValue) → IsValid image → formed (listing image) ≡ Ok (items_behind 1 [] (listed_lines image))
    → Satisfies (listing image) image
listing_satisfies image valid is =
    let lines = listed_lines image in
    let placed = positions_behind 1 [] lines in
    let items = items_at placed.0 lines in
    let read : formed (listing image) ≡ Ok items = is ∙ ap Ok placed.1 in
    let follow = (formed-whole (listing image) items read).read.follow in
    says_image (listing image) items read (sym (image_unrefused (labels_of items) image valid placed.0 follow))
    ∙ ap Ok (image_said (labels_of items) image valid placed.0)
