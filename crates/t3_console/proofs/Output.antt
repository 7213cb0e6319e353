-- Other crates may use these: what is put out of a text, piece by piece, joins to its rendering.
use Rattle.std.proofs.Common.{◌≡◌, ℕ, List, [], ◌∷◌, ◌++◌, length, drop, sym, refl, ap, ◌∙◌, append_assoc}
use Rattle.std.specs.List.{concat}
use Rattle.std.proofs.lemmas.List.{append-nil}
use Rattle.std.proofs.Math.Seq.{drop-append_seam}
use Rattle.t3_console.specs.Rendering.{rendering, closed_rendering, part_after, last_line, newline_due}
use Rattle.t3_console.specs.Page.{shown, page_after, PutsOut}
use Rattle.t3_console.specs.Output.{put_out, said_out, rest_out, close_out, pieces_out}
use Rattle.t3_console.specs.Inner.Stepping.{start, put, put_text, after_text}
use Rattle.t3_console.proofs.Stepping.{put_text-append}
use Rattle.t3_console.proofs.Pages.{shown_is, rendered}
use Rattle.t3_console.proofs.Shown.{shown-nil}

more_is : (before more whole : List ℕ) → before ++ more ≡ whole → more ≡ put_out before whole
more_is before more whole is = sym (drop-append_seam before more) ∙ ap (drop (length before)) is

joins : (before more whole : List ℕ) → before ++ more ≡ whole → before ++ put_out before whole ≡ whole
joins before more whole is = ap (λ m. before ++ m) (sym (more_is before more whole is)) ∙ is

-- what was put out is the text's next part
pub puts : (old new before whole : List ℕ) → PutsOut old new before whole → new ≡ old ++ put_out before whole
puts old new before whole out = out.put ∙ ap (λ m. old ++ m) (more_is before out.more whole out.is)

pub said-joins : (width : ℕ) (taken piece : List ℕ) → shown width taken ++ said_out width taken piece ≡ shown width (taken ++ piece)
said-joins width taken piece =
    let more = put_text width (after_text width start taken) piece in
    joins (shown width taken) more (shown width (taken ++ piece))
    (ap (λ o. o ++ more) (shown_is width taken) ∙ sym (put_text-append width start taken piece) ∙ sym (shown_is width (taken ++ piece)))

abbrev rest_of : ℕ → List ℕ → List ℕ
rest_of width taken = put width (page_after width taken).column (page_after width taken).word

rest-is : (width : ℕ) (taken : List ℕ) → shown width taken ++ rest_of width taken ≡ rendering width taken
unfolding part_after
rest-is width taken = rendered (page_after width taken) taken refl

pub rest-joins : (width : ℕ) (taken : List ℕ) → shown width taken ++ rest_out width taken ≡ rendering width taken
rest-joins width taken = joins (shown width taken) (rest_of width taken) (rendering width taken) (rest-is width taken)

pub close-joins : (width : ℕ) (taken : List ℕ) → shown width taken ++ close_out width taken ≡ closed_rendering width taken
close-joins width taken =
    let ending = newline_due (last_line (rendering width taken)) in
    joins (shown width taken) (rest_of width taken ++ ending) (closed_rendering width taken)
    (sym (append_assoc (shown width taken) (rest_of width taken) ending) ∙ ap (λ o. o ++ ending) (rest-is width taken))

pieces_from : (width : ℕ) (taken : List ℕ) (pieces : List (List ℕ))
    → shown width taken ++ pieces_out width taken pieces ≡ shown width (taken ++ concat pieces)
pieces_from width taken [] = append-nil (shown width taken) ∙ ap (shown width) (sym (append-nil taken))
pieces_from width taken (piece ∷ pieces) =
    sym (append_assoc (shown width taken) (said_out width taken piece) (pieces_out width (taken ++ piece) pieces))
    ∙ ap (λ o. o ++ pieces_out width (taken ++ piece) pieces) (said-joins width taken piece)
    ∙ pieces_from width (taken ++ piece) pieces
    ∙ ap (shown width) (append_assoc taken piece (concat pieces))

pieces-shown : (width : ℕ) (pieces : List (List ℕ)) → pieces_out width [] pieces ≡ shown width (concat pieces)
pieces-shown width pieces = ap (λ o. o ++ pieces_out width [] pieces) (sym (shown-nil width)) ∙ pieces_from width [] pieces

pub pieces-rest : (width : ℕ) (pieces : List (List ℕ))
    → pieces_out width [] pieces ++ rest_out width (concat pieces) ≡ rendering width (concat pieces)
pieces-rest width pieces =
    ap (λ o. o ++ rest_out width (concat pieces)) (pieces-shown width pieces) ∙ rest-joins width (concat pieces)

pub pieces-close : (width : ℕ) (pieces : List (List ℕ))
    → pieces_out width [] pieces ++ close_out width (concat pieces) ≡ closed_rendering width (concat pieces)
pieces-close width pieces =
    ap (λ o. o ++ close_out width (concat pieces)) (pieces-shown width pieces) ∙ close-joins width (concat pieces)
