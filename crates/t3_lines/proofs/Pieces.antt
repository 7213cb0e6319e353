-- Pieces of the input that are taken one after the other.
use Rattle.std.proofs.Common.{◌≡◌, ℕ, ◌-◌, ◌<◌, ◌≤◌, true, false, ◌||◌, Option, Some, None, Ok, Err, List, [], ◌∷◌, ◌++◌, length, take, drop, refl, sym, ap, subst, ◌∙◌, append_assoc, arith, length-append}
use Rattle.std.specs.List.{list_any, concat}
use Rattle.std.proofs.lemmas.List.{append-nil, take-append-drop, length-take}
use Rattle.std.proofs.lemmas.List.Folds.{concat-append, list_any-append}
use Rattle.t3_io.specs.Session.{Session, TakesPiece}
use Rattle.t3_io.specs.declared.refusal.DeviceRefusal.{DeviceRefusal}
use Rattle.t3_lines.specs.Lines.{limit, ended_lines}
use Rattle.t3_lines.specs.Reader.{TellsPieces, AreWanted, asked_by, is_nothing}

told_nothing : (session : Option Session) → TellsPieces session session []
told_nothing None = tt
told_nothing (Some session) = record {
  left = refl;
  ended = λ nothing. absurd cc;
  shown = refl;
  asked = sym (append-nil session.asked);
}

pub told_same : (before after : Option Session) → after ≡ before → TellsPieces before after []
told_same before after same = subst (λ a. TellsPieces before a []) (sym same) (told_nothing before)

-- a refusal takes nothing
pub told_refused : (before after : Option Session) (buffer : List ℕ) (refusal : DeviceRefusal)
    → TakesPiece before after buffer (Err refusal) → TellsPieces before after []
told_refused None after buffer refusal takes = tt
told_refused (Some before) after buffer refusal takes = told_same (Some before) after takes

nothing_is : (bytes : List ℕ) → is_nothing bytes ≡ true → bytes ≡ []
nothing_is [] nothing = refl
nothing_is (byte ∷ bytes) nothing = absurd cc

none_left : (bytes : List ℕ) → drop 0 bytes ≡ bytes
none_left bytes = refl

-- a read takes one piece
pub told_piece : (before after : Option Session) (buffer : List ℕ) (count : ℕ) → 0 < length buffer → count ≤ length buffer
    → TakesPiece before after buffer (Ok count) → TellsPieces before after (take count buffer ∷ [])
told_piece None after buffer count some fits takes = tt
told_piece (Some before) after buffer count some fits takes =
    let piece = take count buffer in
    let long : length piece ≡ count = omega (arith, length-take count buffer) in
    let P : Option Session → Type 0 = λ a. TellsPieces (Some before) a (piece ∷ []) in
    subst P (sym takes.after_is) (record {
      left =
          sym (take-append-drop count before.left)
          ∙ ap (λ b. b ++ drop count before.left) (sym takes.copied ∙ sym (append-nil piece));
      ended = λ nothing. ended piece long nothing;
      shown = refl;
      asked = refl;
    })
  where
    ended : (piece : List ℕ) → length piece ≡ count → list_any is_nothing (piece ∷ []) ≡ true → drop count before.left ≡ []
    ended [] long nothing = rw (sym long) (takes.ended some (sym long))
    ended (byte ∷ bytes) long nothing = absurd cc

asked_by-more : (left shown : ℕ) (pieces : List (List ℕ)) (piece : List ℕ)
    → asked_by left shown (pieces ++ piece ∷ []) ≡ asked_by left shown pieces ++ (left - length (concat pieces), shown) ∷ []
asked_by-more left shown [] piece = let same : left ≡ left - 0 = omega arith in ap (λ (l : ℕ). (l, shown) ∷ []) same
asked_by-more left shown (first ∷ pieces) piece =
    let less : left - length first - length (concat pieces) ≡ left - length (first ++ concat pieces) = omega
    (arith, length-append first (concat pieces)) in
    ap (λ asked. (left, shown) ∷ asked) (asked_by-more (left - length first) shown pieces piece
    ∙ ap (λ (l : ℕ). asked_by (left - length first) shown pieces ++ (l, shown) ∷ []) less)

pub concat-more : (pieces : List (List ℕ)) (piece : List ℕ) → concat (pieces ++ piece ∷ []) ≡ concat pieces ++ piece
concat-more pieces piece = concat-append pieces (piece ∷ []) ∙ ap (λ b. concat pieces ++ b) (append-nil piece)

-- one piece more
pub told_more : (before mid after : Option Session) (pieces : List (List ℕ)) (piece : List ℕ)
    → list_any is_nothing pieces ≡ false → TellsPieces before mid pieces → TellsPieces mid after (piece ∷ [])
    → TellsPieces before after (pieces ++ piece ∷ [])
told_more None mid after pieces piece some first second = tt
told_more (Some before) None after pieces piece some first second = absurd first
told_more (Some before) (Some mid) None pieces piece some first second = absurd second
told_more (Some before) (Some mid) (Some after) pieces piece some first second =
    let nothing : list_any is_nothing (pieces ++ piece ∷ []) ≡ list_any is_nothing (piece ∷ []) =
    list_any-append is_nothing pieces (piece ∷ []) ∙ ap (λ b. b || list_any is_nothing (piece ∷ [])) some in
    let left : length mid.left ≡ length before.left - length (concat pieces) =
    omega (arith, ap length first.left, length-append (concat pieces) mid.left) in
    record {
      left =
          first.left ∙ ap (λ b. concat pieces ++ b) second.left ∙ sym (append_assoc (concat pieces) (concat (piece ∷ [])) after.left)
          ∙ ap (λ b. b ++ after.left) (sym (concat-append pieces (piece ∷ [])));
      ended = λ is. second.ended (sym nothing ∙ is);
      shown = second.shown ∙ first.shown;
      asked =
          second.asked ∙ ap (λ asked. asked ++ (length mid.left, length mid.shown) ∷ []) first.asked
          ∙ append_assoc before.asked (asked_by (length before.left) (length before.shown) pieces)
          ((length mid.left, length mid.shown) ∷ [])
          ∙ ap (λ asked. before.asked ++ asked) (ap (λ (l : ℕ). asked_by (length before.left) (length before.shown) pieces ++
          (l, length mid.shown) ∷ []) left
          ∙ ap (λ (s : List ℕ). asked_by (length before.left) (length before.shown) pieces ++
          (length before.left - length (concat pieces), length s) ∷ []) first.shown
          ∙ sym (asked_by-more (length before.left) (length before.shown) pieces piece));
    }

-- a piece was wanted after others that weren't nothing
pub wanted_more : (given : ℕ) (taken : List ℕ) (pieces : List (List ℕ)) (piece : List ℕ) → AreWanted given taken pieces
    → list_any is_nothing pieces ≡ false → ended_lines (taken ++ concat pieces) ≡ given → length (taken ++ concat pieces) < limit
    → length ((taken ++ concat pieces) ++ piece) ≤ limit → AreWanted given taken (pieces ++ piece ∷ [])
wanted_more given taken [] piece wanted some unended room fits =
    let P : List ℕ → Type 0 = λ t. ended_lines t ≡ given in
    let Q : List ℕ → Type 0 = λ t. length t < limit in
    let R : List ℕ → Type 0 = λ t. length (t ++ piece) ≤ limit in
    let same = append-nil taken in
    (record { unended = subst P same unended; room = subst Q same room; fits = subst R same fits; last = λ _. refl }, tt)
wanted_more given taken (first ∷ pieces) piece wanted some unended room fits =
    let P : List ℕ → Type 0 = λ t. ended_lines t ≡ given in
    let Q : List ℕ → Type 0 = λ t. length t < limit in
    let R : List ℕ → Type 0 = λ t. length (t ++ piece) ≤ limit in
    let same = sym (append_assoc taken first (concat pieces)) in (
      record {
        unended = wanted.0.unended;
        room = wanted.0.room;
        fits = wanted.0.fits;
        last = λ nothing. absurd (is_some first nothing some);
      },
      wanted_more given (taken ++ first) pieces piece wanted.1 (rest_some first some) (subst P same unended) (subst Q same room)
          (subst R same fits),
    )
  where
    is_some : (first : List ℕ) → first ≡ [] → list_any is_nothing (first ∷ pieces) ≡ false → ⊥
    is_some [] nothing some = cc
    is_some (byte ∷ bytes) nothing some = cc

    rest_some : (first : List ℕ) → list_any is_nothing (first ∷ pieces) ≡ false → list_any is_nothing pieces ≡ false
    rest_some [] some = absurd cc
    rest_some (byte ∷ bytes) some = some
