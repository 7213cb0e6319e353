-- A stream begins with one valid image's text, or is refused at one place by one rule. Other crates may use what stands here.
use Rattle.std.proofs.Common.{◌≡◌, ℕ, ◌+◌, List, [], ◌++◌, length, sym, ap, subst, ◌∙◌, inl, inr, append_assoc, arith}
use Rattle.std.specs.List.{flat_map}
use Rattle.std.proofs.lemmas.List.{length-append, append-nil}
use Rattle.t3_image_read.specs.declared.header.BlockHeader.{BlockHeader}
use Rattle.t3_image_read.specs.declared.image.Head.{Head}
use Rattle.t3_image_read.specs.declared.image.PlacedBlock.{PlacedBlock}
use Rattle.t3_image_read.specs.declared.refusal.ReadWhy.{ReadWhy}
use Rattle.t3_image_read.specs.ImageText.{ImageValue, head_text, header_text, block_text, prefix_text, end_header, text}
use Rattle.t3_image_read.specs.Validity.{IsHead, IsGoodPrefix, IsValid}
use Rattle.t3_image_read.specs.Refusal.{IsFirstBroken, HeadBreaks, head_place, BlockBreaks, RefusedAtBlock, Refused}
use Rattle.t3_image_read.proofs.Headers.{header_same, length-header_text}
use Rattle.t3_image_read.proofs.Heads.{head_same, head_unbroken, length-head_text}
use Rattle.t3_image_read.proofs.Blocks.{IsHeader-end_header, end_unbroken}
use Rattle.t3_image_read.proofs.Firsts.{head_first_unique, block_first_unique}
use Rattle.t3_image_read.proofs.Prefixes.{Stops, Stops-broken, Stops-end, same_blocks}

pub prefix_text-append : (h : Head) (bs : List PlacedBlock) (x : List ℕ)
    → prefix_text h bs ++ x ≡ head_text h ++ (flat_map block_text bs ++ x)
unfolding prefix_text
prefix_text-append h bs x = append_assoc (head_text h) (flat_map block_text bs) x

pub length-prefix_text : (h : Head) (bs : List PlacedBlock) → IsHead h → length (prefix_text h bs) ≡ 69 + length (flat_map block_text bs)
unfolding prefix_text
length-prefix_text h bs is = let long = length-head_text h is in omega (arith, length-append (head_text h) (flat_map block_text bs))

stops_from : (h : Head) (bs : List PlacedBlock) (x : List ℕ) → IsHead h → Stops (length bs) (length (prefix_text h bs)) x
    → Stops (0 + length bs) (69 + length (flat_map block_text bs)) x
stops_from h bs x is stops placed y good few near e =
    let long = length-prefix_text h bs is in
    stops placed y good (omega arith) (omega arith) e

-- two good prefixes of a stream, after which no further block comes, are one
pub same_prefix : (h k : Head) (bs cs : List PlacedBlock) (x y : List ℕ) → IsGoodPrefix h bs → IsGoodPrefix k cs
    → Stops (length bs) (length (prefix_text h bs)) x → Stops (length cs) (length (prefix_text k cs)) y
    → prefix_text h bs ++ x ≡ prefix_text k cs ++ y → (h ≡ k) × ((bs ≡ cs) × (x ≡ y))
same_prefix h k bs cs x y is_h is_k stop_x stop_y e =
    let heads = head_same h k _ _ is_h.head is_k.head (sym (prefix_text-append h bs x) ∙ e ∙ prefix_text-append k cs y) in
    let long_h = length-prefix_text h bs is_h.head in
    let long_k = length-prefix_text k cs is_k.head in
    let few_h = is_h.count in
    let few_k = is_k.count in
    let near_h = is_h.size in
    let near_k = is_k.size in (
      heads.0,
      same_blocks 0 69 bs cs x y is_h.blocks is_k.blocks (omega arith) (omega arith) (omega arith) (omega arith)
          (stops_from h bs x is_h.head stop_x) (stops_from k cs y is_k.head stop_y) heads.1,
    )

-- a valid image's text is a good prefix and the end
pub text-append : (image : ImageValue) (x : List ℕ)
    → text image ++ x ≡ prefix_text image.head image.blocks ++ (header_text (end_header image.eof_flags) ++ x)
unfolding text
text-append image x = append_assoc (prefix_text image.head image.blocks) (header_text (end_header image.eof_flags)) x

pub length-text : (image : ImageValue) → IsValid image → length (text image) ≡ length (prefix_text image.head image.blocks) + 10
unfolding text
length-text image valid = let long = length-header_text (end_header image.eof_flags)
    (IsHeader-end_header image.eof_flags valid.eof_flags) in omega
    (arith, length-append (prefix_text image.head image.blocks) (header_text (end_header image.eof_flags)))

pub IsGoodPrefix-image : (image : ImageValue) → IsValid image → IsGoodPrefix image.head image.blocks
IsGoodPrefix-image image valid = record {
  head = valid.head;
  blocks = valid.blocks;
  count = let few = valid.count in omega arith;
  size = let near = valid.size in omega (arith, length-text image valid);
}

pub one_image : (a b : ImageValue) (x y : List ℕ) → IsValid a → IsValid b → text a ++ x ≡ text b ++ y → (a ≡ b) × (x ≡ y)
one_image a b x y valid_a valid_b e =
    let prefixes = same_prefix a.head b.head a.blocks b.blocks _ _ (IsGoodPrefix-image a valid_a) (IsGoodPrefix-image b valid_b)
    (Stops-end _ _ a.eof_flags x valid_a.eof_flags) (Stops-end _ _ b.eof_flags y valid_b.eof_flags)
    (sym (text-append a x) ∙ e ∙ text-append b y) in
    let ends = header_same (end_header a.eof_flags) (end_header b.eof_flags) x y (IsHeader-end_header _ valid_a.eof_flags)
    (IsHeader-end_header _ valid_b.eof_flags) prefixes.1.1 in
    let flags : a.eof_flags ≡ b.eof_flags = ap (λ (h : BlockHeader). h.flags) ends.0 in
    ((λ i. record { head = prefixes.0 i; blocks = prefixes.1.0 i; eof_flags = flags i }), ends.1)

pub no_prefix : (a b : ImageValue) (x : List ℕ) → IsValid a → IsValid b → text b ≡ text a ++ x → x ≡ []
no_prefix a b x valid_a valid_b e = (one_image a b x [] valid_a valid_b (sym e ∙ sym (append-nil (text b)))).1

broken_there : (stream : List ℕ) (place : ℕ) (why : ReadWhy) (r : RefusedAtBlock stream place why)
    → BlockBreaks (length r.blocks) (length (prefix_text r.head r.blocks)) r.rest why
broken_there stream place why r = subst (λ p. BlockBreaks (length r.blocks) p r.rest why) r.place_is r.first.broken

pub not_both : (image : ImageValue) (trailing : List ℕ) (place : ℕ) (why : ReadWhy) → IsValid image
    → Refused (text image ++ trailing) place why → ⊥
not_both image trailing place why valid (inl refused) =
    let rest = flat_map block_text image.blocks ++ (header_text (end_header image.eof_flags) ++ trailing) in
    let broken = refused.first.broken in
    head_unbroken image.head rest valid.head why
    (subst (λ s. HeadBreaks s why) (text-append image trailing ∙ prefix_text-append image.head image.blocks _) broken)
not_both image trailing place why valid (inr refused) =
    let broken = broken_there _ place why refused in
    let few = valid.count in
    let near = valid.size in
    let long = length-text image valid in
    let prefixes = same_prefix image.head refused.head image.blocks refused.blocks _ _ (IsGoodPrefix-image image valid) refused.prefix
    (Stops-end _ _ image.eof_flags trailing valid.eof_flags) (Stops-broken _ _ refused.rest why broken)
    (sym (text-append image trailing) ∙ refused.stream_is) in
    let at_end : BlockBreaks (length image.blocks) (length (prefix_text image.head image.blocks))
    (header_text (end_header image.eof_flags) ++ trailing) why =
    rw (prefixes.0, prefixes.1.0, prefixes.1.1) broken in
    end_unbroken _ _ image.eof_flags trailing valid.eof_flags (omega arith) (omega arith) why at_end

pub one_refusal : (stream : List ℕ) (p q : ℕ) (v w : ReadWhy) → Refused stream p v → Refused stream q w → (p ≡ q) × (v ≡ w)
one_refusal stream p q v w (inl a) (inl b) =
    let same = head_first_unique stream v w a.first b.first in
    (a.place_is ∙ ap head_place same ∙ sym b.place_is, same)
one_refusal stream p q v w (inl a) (inr b) =
    absurd (head_unbroken b.head _ b.prefix.head v
    (subst (λ s. HeadBreaks s v) (b.stream_is ∙ prefix_text-append b.head b.blocks b.rest) a.first.broken))
one_refusal stream p q v w (inr a) (inl b) =
    absurd (head_unbroken a.head _ a.prefix.head w
    (subst (λ s. HeadBreaks s w) (a.stream_is ∙ prefix_text-append a.head a.blocks a.rest) b.first.broken))
one_refusal stream p q v w (inr a) (inr b) =
    let prefixes = same_prefix a.head b.head a.blocks b.blocks a.rest b.rest a.prefix b.prefix
    (Stops-broken _ _ a.rest v (broken_there stream p v a)) (Stops-broken _ _ b.rest w (broken_there stream q w b))
    (sym a.stream_is ∙ b.stream_is) in
    let place : p ≡ q = a.place_is ∙ (λ i. length (prefix_text (prefixes.0 i) (prefixes.1.0 i))) ∙ sym b.place_is in
    let first_w : IsFirstBroken (BlockBreaks (length a.blocks) p a.rest) w =
    subst (λ r. IsFirstBroken (BlockBreaks (length a.blocks) p r) w) (sym prefixes.1.1)
    (subst (λ (bs : List PlacedBlock). IsFirstBroken (BlockBreaks (length bs) p b.rest) w) (sym prefixes.1.0)
    (subst (λ n. IsFirstBroken (BlockBreaks (length b.blocks) n b.rest) w) (sym place) b.first)) in
    (place, block_first_unique (length a.blocks) p a.rest v w a.first first_w)
