-- Every stream of bytes begins with a valid image's text, or is refused. Other crates may use what stands here.
use Rattle.std.proofs.Common.{◌≡◌, ◌≢◌, ℕ, zero, suc, ◌+◌, ◌^◌, ◌<◌, ◌≤◌, min, List, [], ◌∷◌, ◌++◌, length, take, drop, get_or, refl, sym, ap, subst, ◌∙◌, ◌⊎◌, inl, inr, append_assoc, arith}
use Rattle.std.proofs.lemmas.Bool.{cases_lt, cases_eq}
use Rattle.std.proofs.lemmas.List.{length-append, length-take, length-drop, get_or-take, ext_get_or}
use Rattle.t3_holder.specs.NumberText.{little_endian, AreBytes}
use Rattle.t3_blocks.specs.Spelling.{image_limit}
use Rattle.t3_image_read.specs.declared.image.Head.{Head}
use Rattle.t3_image_read.specs.declared.image.PlacedBlock.{PlacedBlock}
use Rattle.t3_image_read.specs.declared.refusal.ReadWhy.{ReadWhy}
use Rattle.t3_image_read.specs.declared.refusal.ReadWhy.TheVariants.{Signature, Version, Truncated}
use Rattle.t3_image_read.specs.ImageText.{ImageValue, signature, version, head_text, header_text, block_text, prefix_text, end_header, text}
use Rattle.t3_image_read.specs.Validity.{IsHead, IsGoodPrefix, IsValid, header_limit}
use Rattle.t3_image_read.specs.Refusal.{IsFirstBroken, DiffersFromSignature, HasOtherVersion, HeadBreaks, head_place, IsRefused, BeginsWithImage}
use Rattle.t3_image_read.proofs.Lists.{head_parts}
use Rattle.t3_blocks.proofs.Lists.{same_or_not, AreBytes-drop, AreBytes-after}
use Rattle.t3_image_read.proofs.Headers.{length-header_text}
use Rattle.t3_image_read.proofs.Heads.{length-signature, head_text-append}
use Rattle.t3_image_read.proofs.Blocks.{IsHeader-end_header, length-block_text}
use Rattle.t3_image_read.proofs.Firsts.{first_signature, first_version, first_head_cut}
use Rattle.t3_image_read.proofs.Uniqueness.{text-append}
use Rattle.t3_image_read.proofs.Push.{prefix_text-push, IsGoodPrefix-push, IsGoodPrefix-head, prefix_text-head}
use Rattle.t3_image_read.proofs.Places.{GoodBlock, what_stands}

-- ---- the header

pub first_difference : (n : ℕ) (xs ys : List ℕ) → ((i : ℕ) × (i < n) × (get_or xs i 0 ≢ get_or ys i 0)) ⊎
    ((i : ℕ) → i < n → get_or xs i 0 ≡ get_or ys i 0)
first_difference zero xs ys = inr (λ i lt. absurd (omega arith))
first_difference (suc n) xs ys =
    elim (first_difference n xs ys) [
      | inl found ↦ inl (found.0, omega (arith, found.1), found.2)
      | inr same ↦ elim (cases_eq (get_or xs n 0) (get_or ys n 0)) [
        | inr differs ↦ inl (n, omega arith, differs)
        | inl here ↦ inr (λ i lt. elim (cases_eq i n) [ inl at ↦ rw at here | inr before ↦ same i (omega arith) ])
      ]
    ]

-- a header with the right signature and version is a head
abbrev pub head_made : List ℕ → Head
head_made stream = record { reserved = take 32 (drop 13 stream); stamp = take 24 (drop 45 stream) }

pub some_head : (stream : List ℕ) → take 11 stream ≡ signature → take 2 (drop 11 stream) ≡ little_endian 2 version → 69 ≤ length stream
    → IsHead (head_made stream) × (stream ≡ head_text (head_made stream) ++ drop 69 stream)
some_head stream is_signature is_version long = (
  record {
    reserved = omega (arith, length-take 32 (drop 13 stream), length-drop 13 stream);
    stamp =
        omega (arith, length-take 24 (drop 45 stream), length-drop 45 stream);
  },
  sym (head_text-append (head_made stream) (drop 69 stream) ∙ rw (← is_signature, ← is_version) (head_parts stream)),
)

-- all eleven bytes are the signature where none differs
pub is_signature : (stream : List ℕ) → 11 ≤ length stream → ¬ DiffersFromSignature stream → take 11 stream ≡ signature
is_signature stream long same =
    ext_get_or 0 (take 11 stream) signature (omega (arith, length-take 11 stream, length-signature)) (λ i lt.
    let near : i < 11 = omega (arith, length-take 11 stream) in
    get_or-take 11 stream i 0 near ∙ elim
    (cases_eq (get_or stream i 0) (get_or signature i 0)) [ inl e ↦ e | inr differs ↦ absurd (same (i, near, omega arith, differs)) ])

signature_or_not : (stream : List ℕ) → DiffersFromSignature stream ⊎ ¬ DiffersFromSignature stream
signature_or_not stream =
    elim (first_difference (min 11 (length stream)) stream signature) [
      | inl (i, lt, differs) ↦ inl (i, omega arith, omega arith, differs)
      | inr same ↦ inr (λ d. d.3 (same d.0 (let near = d.1 in let there = d.2 in omega arith)))
    ]

version_or_not : (stream : List ℕ) → HasOtherVersion stream ⊎ (13 ≤ length stream → take 2 (drop 11 stream) ≡ little_endian 2 version)
version_or_not stream =
    elim (same_or_not (take 2 (drop 11 stream)) (little_endian 2 version)) [
      | inl same ↦ inr (λ there. same)
      | inr other ↦ elim (cases_lt (length stream) 13) [
        | inl short ↦ inr (λ there. absurd (omega arith))
        | inr there ↦ inl (there, other)
      ]
    ]

-- what the header is: refused, or good
head_stands : (stream : List ℕ) → ((why : ReadWhy) × IsFirstBroken (HeadBreaks stream) why) ⊎
    ((head : Head) × IsHead head × (stream ≡ head_text head ++ drop 69 stream))
head_stands stream =
    elim (signature_or_not stream) [
      | inl differs ↦ inl (Signature, first_signature stream differs)
      | inr same ↦ elim (version_or_not stream) [
        | inl other ↦ inl (Version, first_version stream same other)
        | inr right ↦ elim (cases_lt (length stream) 69) [
          | inl short ↦ elim (same_or_not (take 2 (drop 11 stream)) (little_endian 2 version)) [
            | inl is ↦ inl (Truncated, first_head_cut stream same (λ other. other.1 is) short)
            | inr not ↦ inl (Truncated, first_head_cut stream same (λ other. not (right other.0)) short)
          ]
          | inr long ↦ let found = some_head stream (is_signature stream (omega arith) same) (right (omega arith)) long in inr
              (head_made stream, found.0, found.1)
        ]
      ]
    ]

-- ---- the stream

-- the end after a good prefix ends a valid image
pub valid_image : (head : Head) (blocks : List PlacedBlock) (flags : ℕ) → IsGoodPrefix head blocks → flags < 2 ^ 16
    → length blocks < header_limit → length (prefix_text head blocks) + 10 ≤ image_limit
    → IsValid (record { head = head; blocks = blocks; eof_flags = flags })
unfolding text
valid_image head blocks flags prefix fits few near = record {
  head = prefix.head;
  blocks = prefix.blocks;
  eof_flags = fits;
  count = few;
  size = omega (
    arith,
    length-append (prefix_text head blocks) (header_text (end_header flags)),
    length-header_text (end_header flags) (IsHeader-end_header flags fits),
  );
}

-- after a good prefix comes a broken rule, the end, or a good block, at which it goes on
next_stands : (head : Head) (blocks : List PlacedBlock) (rest stream : List ℕ) → IsGoodPrefix head blocks → AreBytes rest
    → stream ≡ prefix_text head blocks ++ rest
    → (GoodBlock (length blocks) (length (prefix_text head blocks)) rest → BeginsWithImage stream ⊎ IsRefused stream)
    → BeginsWithImage stream ⊎ IsRefused stream
next_stands head blocks rest stream prefix bytes is goes_on =
    elim (what_stands (length blocks) (length (prefix_text head blocks)) rest bytes) [
      | inl (why, first) ↦ inr (
        length (prefix_text head blocks),
        why,
        inr
            (record { head = head; blocks = blocks; rest = rest; prefix = prefix; stream_is = is; place_is = refl; first = first }),
      )
      | inr (inl good) ↦ goes_on good
      | inr (inr end) ↦
          let image : ImageValue = record { head = head; blocks = blocks; eof_flags = end.flags } in
          inl (
            image,
            end.trailing,
            valid_image head blocks end.flags prefix end.fits end.few end.near,
            is
                ∙ ap (λ r. prefix_text head blocks ++ r) end.is ∙ sym (text-append image end.trailing),
          )
    ]

one_more : (head : Head) (blocks : List PlacedBlock) (rest stream : List ℕ)
    (g : GoodBlock (length blocks) (length (prefix_text head blocks)) rest) → stream ≡ prefix_text head blocks ++ rest
    → stream ≡ prefix_text head (blocks ++ g.block ∷ []) ++ g.trailing
one_more head blocks rest stream g is =
    is ∙ ap (λ r. prefix_text head blocks ++ r) g.is ∙ sym (append_assoc (prefix_text head blocks) (block_text g.block) g.trailing)
    ∙ ap (λ t. t ++ g.trailing) (sym (prefix_text-push head blocks g.block))

after_prefix : (fuel : ℕ) (head : Head) (blocks : List PlacedBlock) (rest stream : List ℕ) → length rest ≤ fuel → IsGoodPrefix head blocks
    → AreBytes rest → stream ≡ prefix_text head blocks ++ rest → BeginsWithImage stream ⊎ IsRefused stream
after_prefix zero head blocks rest stream enough prefix bytes is =
    next_stands head blocks rest stream prefix bytes is
    (λ g. absurd (omega (arith, ap length g.is, length-append (block_text g.block) g.trailing, length-block_text g.block g.good)))
after_prefix (suc fuel) head blocks rest stream enough prefix bytes is =
    next_stands head blocks rest stream prefix bytes is (λ g.
    after_prefix fuel head (blocks ++ g.block ∷ []) g.trailing stream
    (omega (arith, ap length g.is, length-append (block_text g.block) g.trailing, length-block_text g.block g.good))
    (IsGoodPrefix-push head blocks g.block prefix g.good g.few g.near)
    (AreBytes-after (block_text g.block) g.trailing (subst AreBytes g.is bytes))
    (one_more head blocks rest stream g is))

pub image_or_refused : (stream : List ℕ) → AreBytes stream → BeginsWithImage stream ⊎ IsRefused stream
image_or_refused stream bytes =
    elim (head_stands stream) [
      | inl (why, first) ↦ inr (head_place why, why, inl (record { first = first; place_is = refl }))
      | inr (head, good, is) ↦ after_prefix (length stream) head [] (drop 69 stream) stream (omega (arith, length-drop 69 stream))
          (IsGoodPrefix-head head good) (AreBytes-drop 69 stream bytes) (is ∙ ap (λ t. t ++ drop 69 stream) (sym (prefix_text-head head)))
    ]
