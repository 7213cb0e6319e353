-- Lines of a listing, one after the other.
use Rattle.std.proofs.Common.{◌≡◌, ℕ, zero, suc, ◌<◌, ◌≤◌, min, eqb, false, List, [], ◌∷◌, ◌++◌, length, map, take, drop, Result, Ok, Err, refl, sym, ap, ◌∙◌, append_assoc, arith}
use Rattle.std.specs.Prelude.{IfOk}
use Rattle.std.proofs.lemmas.List.{append-nil, length-drop}
use Rattle.std.proofs.lemmas.Grind.{flat_map-append}
use Rattle.t3_asm_line.specs.declared.line.ParsedLine.{ParsedLine}
use Rattle.t3_asm_line.specs.Listing.{listed_line, listing_of}
use Rattle.t3_asm.specs.Inner.Listed.{Lists}
use Rattle.t3_asm.specs.Listing.{piece_size, first_pieces, pieces, bytes_line, bytes_lines}
use Rattle.t3_asm.proofs.EachLine.{take-min, drop-min}

-- one line
pub lists_one : {T E : Type 0} (result : Result T E) (old new : List ℕ) (line : ParsedLine)
    → IfOk result (λ _. new ≡ old ++ (listed_line line.keyword line.arguments ++ 10 ∷ [])) → Lists old new (line ∷ []) result
lists_one (Ok done) old new line is = is ∙ ap (λ l. old ++ l) (sym (append-nil (listed_line line.keyword line.arguments ++ 10 ∷ [])))
lists_one (Err refusal) old new line is = tt

-- some lines behind others
pub lists_more : {T E : Type 0} (result : Result T E) (old mid new : List ℕ) (front more : List ParsedLine)
    → mid ≡ old ++ listing_of front → Lists mid new more result → Lists old new (front ++ more) result
lists_more (Ok done) old mid new front more is lists =
    lists ∙ ap (λ l. l ++ listing_of more) is ∙ append_assoc old (listing_of front) (listing_of more)
    ∙ ap (λ l. old ++ l) (sym (flat_map-append (λ line. listed_line line.keyword line.arguments ++ 10 ∷ []) front more))
lists_more (Err refusal) old mid new front more is lists = tt

-- ---- pieces

no_pieces : (count : ℕ) → first_pieces count [] ≡ []
no_pieces zero = refl
no_pieces (suc count) = refl

enough : (m n : ℕ) (bytes : List ℕ) → length bytes ≤ m → length bytes ≤ n → first_pieces m bytes ≡ first_pieces n bytes
enough zero n [] less few = sym (no_pieces n)
enough zero n (byte ∷ bytes) less few = absurd (omega arith)
enough (suc m) zero [] less few = refl
enough (suc m) zero (byte ∷ bytes) less few = absurd (omega arith)
enough (suc m) (suc n) [] less few = refl
enough (suc m) (suc n) (byte ∷ bytes) less few =
    let rest = length-drop 32 (byte ∷ bytes) in
    ap (λ ps. take piece_size (byte ∷ bytes) ∷ ps)
    (enough m n (drop piece_size (byte ∷ bytes)) (omega (arith, rest)) (omega (arith, rest)))

-- the first piece, and the others
pieces-more : (bytes : List ℕ) → 0 < length bytes → pieces bytes ≡ take piece_size bytes ∷ pieces (drop piece_size bytes)
unfolding pieces
pieces-more [] some = absurd (omega arith)
pieces-more (byte ∷ bytes) some =
    let rest = length-drop 32 (byte ∷ bytes) in
    ap (λ ps. take piece_size (byte ∷ bytes) ∷ ps)
    (enough (length bytes) (length (drop piece_size (byte ∷ bytes))) (drop piece_size (byte ∷ bytes)) (omega (arith, rest)) (omega arith))

-- the lines of some bytes, of which the first piece is taken
pub bytes_lines-more : (bytes piece behind : List ℕ) (size : ℕ) → 0 < length bytes → size ≡ min (length bytes) 32
    → piece ≡ take size bytes → behind ≡ drop size bytes → bytes_lines bytes ≡ bytes_line piece ∷ bytes_lines behind
unfolding bytes_lines
bytes_lines-more bytes piece behind size some size_is piece_is behind_is =
    let first : take piece_size bytes ≡ piece = sym (piece_is ∙ ap (λ n. take n bytes) size_is ∙ take-min bytes 32) in
    let rest : drop piece_size bytes ≡ behind = sym (behind_is ∙ ap (λ n. drop n bytes) size_is ∙ drop-min bytes 32) in
    ap (map bytes_line) (pieces-more bytes some ∙ λ i. first i ∷ pieces (rest i))

pub bytes_lines-none : (bytes : List ℕ) → length bytes ≡ 0 → bytes_lines bytes ≡ []
unfolding bytes_lines pieces
bytes_lines-none [] none = refl
bytes_lines-none (byte ∷ bytes) none = absurd (omega (arith, none))

-- one piece more
pub piece_more : (out new old bytes rest piece behind : List ℕ) (size : ℕ) → 0 < length rest → size ≡ min (length rest) 32
    → piece ≡ take size rest → behind ≡ drop size rest
    → new ≡ out ++ listing_of (bytes_line piece ∷ [])
    → out ++ listing_of (bytes_lines rest) ≡ old ++ listing_of (bytes_lines bytes)
    → new ++ listing_of (bytes_lines behind) ≡ old ++ listing_of (bytes_lines bytes)
piece_more out new old bytes rest piece behind size some size_is piece_is behind_is one before =
    let line = listed_line (bytes_line piece).keyword (bytes_line piece).arguments ++ 10 ∷ [] in
    ap (λ o. o ++ listing_of (bytes_lines behind)) (one ∙ ap (λ l. out ++ l) (append-nil line))
    ∙ append_assoc out line (listing_of (bytes_lines behind))
    ∙ ap (λ ls. out ++ listing_of ls) (sym (bytes_lines-more rest piece behind size some size_is piece_is behind_is)) ∙ before

pub some_left : (n : ℕ) → eqb n 0 ≡ false → 0 < n
some_left zero is = absurd cc
some_left (suc n) is = omega arith

-- no piece is left
pub pieces_whole : (out old bytes rest : List ℕ) → length rest ≡ 0
    → out ++ listing_of (bytes_lines rest) ≡ old ++ listing_of (bytes_lines bytes) → out ≡ old ++ listing_of (bytes_lines bytes)
pieces_whole out old bytes rest none before =
    sym (append-nil out) ∙ ap (λ ls. out ++ listing_of ls) (sym (bytes_lines-none rest none)) ∙ before
