-- A block header is told from its bytes. Other crates may use what stands here.
use Rattle.std.proofs.Common.{◌≡◌, ℕ, ◌≤◌, List, [], ◌∷◌, ◌++◌, length, get_or, take, drop, refl, sym, ap, ◌∙◌, append_assoc, arith}
use Rattle.std.proofs.lemmas.List.{append-nil, drop_all, length-append, length-take}
use Rattle.t3_holder.specs.NumberText.{little_endian, AreBytes}
use Rattle.t3_holder.proofs.Numbers.{length-little_endian, same_number, four_at}
use Rattle.t3_image_read.specs.declared.header.BlockHeader.{BlockHeader}
use Rattle.t3_image_read.specs.ImageText.{header_text}
use Rattle.t3_image_read.specs.Validity.{IsHeader}
use Rattle.t3_image_read.specs.Refusal.{StartsWith}
use Rattle.t3_blocks.proofs.Lists.{split_same, says}
use Rattle.t3_image_read.proofs.Lists.{four_four_two}

pub length-header_text : (h : BlockHeader) → IsHeader h → length (header_text h) ≡ 10
unfolding header_text
length-header_text h fits =
    simp (length-append, length-little_endian) (omega (arith, fits.name))

regroup : (h : BlockHeader) (x : List ℕ) → header_text h ++ x ≡ h.name ++ (little_endian 4 h.size ++ (little_endian 2 h.flags ++ x))
unfolding header_text
regroup h x = simp append_assoc

-- a stream begins with one block header at most
pub header_same : (h k : BlockHeader) (x y : List ℕ) → IsHeader h → IsHeader k → header_text h ++ x ≡ header_text k ++ y → (h ≡ k) × (x ≡ y)
header_same h k x y fits_h fits_k e =
    let whole = sym (regroup h x) ∙ e ∙ regroup k y in
    let name = split_same h.name k.name _ _ (omega (arith, fits_h.name, fits_k.name)) whole in
    let size = split_same (little_endian 4 h.size)
    (little_endian 4 k.size) _ _ (length-little_endian 4 h.size ∙ sym (length-little_endian 4 k.size)) name.1 in
    let flags = split_same (little_endian 2 h.flags)
    (little_endian 2 k.flags) x y (length-little_endian 2 h.flags ∙ sym (length-little_endian 2 k.flags)) size.1 in
    let size_same = same_number 4 h.size k.size fits_h.size fits_k.size size.0 in
    let flags_same = same_number 2 h.flags k.flags fits_h.flags fits_k.flags flags.0 in
    ((λ i. record { name = name.0 i; size = size_same i; flags = flags_same i }), flags.1)

-- ten bytes are a block header
pub header_text-parts : (name : List ℕ) (size flags : ℕ) (bytes : List ℕ) → take 4 bytes ≡ name
    → take 4 (drop 4 bytes) ≡ little_endian 4 size → take 2 (drop 8 bytes) ≡ little_endian 2 flags
    → header_text (record { name = name; size = size; flags = flags }) ++ drop 10 bytes ≡ bytes
header_text-parts name size flags bytes is_name is_size is_flags =
    regroup (record { name = name; size = size; flags = flags }) (drop 10 bytes)
    ∙ rw (← is_name, ← is_size, ← is_flags) (four_four_two bytes)

-- what a reader of the ten bytes makes of them
pub header_text-read : (bytes : List ℕ) (size flags : ℕ) → length bytes ≡ 10 → take 4 (drop 4 bytes) ≡ little_endian 4 size
    → take 2 (drop 8 bytes) ≡ little_endian 2 flags
    → header_text (record {
      name = get_or bytes 0 0 ∷ get_or bytes 1 0 ∷ get_or bytes 2 0 ∷ get_or bytes 3 0 ∷ [];
      size = size;
      flags =
          flags;
    }) ≡ bytes
header_text-read bytes size flags long is_size is_flags =
    let name = get_or bytes 0 0 ∷ get_or bytes 1 0 ∷ get_or bytes 2 0 ∷ get_or bytes 3 0 ∷ [] in
    let header : BlockHeader = record { name = name; size = size; flags = flags } in
    let none : drop 10 bytes ≡ [] = drop_all 10 bytes (omega arith) in
    sym (append-nil (header_text header)) ∙ ap (λ r. header_text header ++ r) (sym none)
    ∙ header_text-parts name size flags bytes (four_at bytes 0 (omega arith)) is_size is_flags

-- any ten bytes begin with a block header
pub some_header : (bytes : List ℕ) → AreBytes bytes → 10 ≤ length bytes
    → (header : BlockHeader) × (trailing : List ℕ) × StartsWith bytes header trailing
some_header bytes all le =
    let size = says 4 4 bytes all (omega arith) in
    let flags = says 2 8 bytes all (omega arith) in
    let header : BlockHeader = record { name = take 4 bytes; size = size.0; flags = flags.0 } in (
      header,
      drop 10 bytes,
      record {
        fits = record { name = omega (arith, length-take 4 bytes); size = omega (arith, size.1); flags = omega (arith, flags.1) };
        is = sym (header_text-parts (take 4 bytes) size.0 flags.0 bytes refl size.2 flags.2);
      },
    )
