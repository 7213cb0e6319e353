-- Bytes taken piece by piece while no newline ends the line.
use Rattle.std.proofs.Common.{◌≡◌, ℕ, ◌+◌, ◌-◌, ◌<◌, ◌≤◌, Bool, true, false, ◌||◌, Option, Some, None, Result, Ok, Err, List, [], ◌∷◌, ◌++◌, length, take, drop, refl, sym, ap, subst, ◌∙◌, append_assoc, arith, length-append}
use Rattle.std.specs.List.{list_any, concat}
use Rattle.std.proofs.lemmas.List.{append-nil, take-append-drop, drop-append-le, length-drop, take_rest}
use Rattle.std.proofs.lemmas.List.Folds.{list_any-append}
use Rattle.std.proofs.Math.Seq.{drop-append_seam}
use Rattle.t3_io.specs.Session.{Session}
use Rattle.t3_io.specs.declared.refusal.DeviceRefusal.{DeviceRefusal}
use Rattle.t3_lines.specs.Lines.{limit, ended_lines}
use Rattle.t3_lines.specs.Reader.{TellsPieces, AreWanted, is_nothing}
use Rattle.t3_lines.specs.Inner.Taking.{TakesWanted, IsPiece, IsLineEnd, IsEndFrom, FindsEnd}
use Rattle.t3_lines.proofs.Pieces.{told_same, told_more, wanted_more, concat-more}
use Rattle.t3_lines.proofs.Cutting.{ended-append, end_after}

-- pieces were taken, none of which has a newline, and none of which is nothing
pub record IsTaking (old now : List ℕ) (before mid : Option Session) : Type 0 where
  pub pieces : List (List ℕ)
  pub taken : now ≡ old ++ concat pieces
  pub limited : length now ≤ limit
  pub wanted : AreWanted (ended_lines old) old pieces
  pub some : list_any is_nothing pieces ≡ false
  pub none : ended_lines (drop (length old) now) ≡ 0
  pub told : TellsPieces before mid pieces

pub taking_none : (old : List ℕ) (before : Option Session) → length old ≤ limit → IsTaking old old before before
taking_none old before limited = record {
  pieces = [];
  taken = sym (append-nil old);
  limited = limited;
  wanted = tt;
  some = refl;
  none = ap ended_lines (ap (drop (length old)) (sym (append-nil old)) ∙ drop-append_seam old []);
  told = told_same before before refl;
}

-- the bytes up to now have as many newlines as before
unended : (old now : List ℕ) (before mid : Option Session) (is : IsTaking old now before mid)
    → ended_lines (old ++ concat is.pieces) ≡ ended_lines old
unended old now before mid is =
    let more : drop (length old) now ≡ concat is.pieces = ap (drop (length old)) is.taken ∙ drop-append_seam old (concat is.pieces) in
    let none : ended_lines (concat is.pieces) ≡ 0 = ap ended_lines (sym more) ∙ is.none in
    ended-append old (concat is.pieces) ∙ omega (arith, none)

-- the pieces of one more
more_wanted : (old now new : List ℕ) (before mid after : Option Session) (count : ℕ) (is : IsTaking old now before mid) → length now < limit
    → (piece : IsPiece now new mid after count) → AreWanted (ended_lines old) old (is.pieces ++ piece.piece ∷ [])
more_wanted old now new before mid after count is room piece =
    let P : List ℕ → Type 0 = λ t. length t < limit in
    let Q : List ℕ → Type 0 = λ t. length (t ++ piece.piece) ≤ limit in
    let R : List ℕ → Type 0 = λ t. length t ≤ limit in
    wanted_more (ended_lines old) old is.pieces piece.piece is.wanted is.some (unended old now before mid is) (subst P is.taken room)
    (subst Q is.taken (subst R piece.is piece.fits))

more_taken : (old now new : List ℕ) (before mid after : Option Session) (count : ℕ) (is : IsTaking old now before mid)
    (piece : IsPiece now new mid after count) → new ≡ old ++ concat (is.pieces ++ piece.piece ∷ [])
more_taken old now new before mid after count is piece =
    piece.is ∙ ap (λ t. t ++ piece.piece) is.taken ∙ append_assoc old (concat is.pieces) piece.piece
    ∙ ap (λ t. old ++ t) (sym (concat-more is.pieces piece.piece))

is_some : (bytes : List ℕ) → 0 < length bytes → is_nothing bytes ≡ false
is_some [] some = absurd (omega arith)
is_some (byte ∷ bytes) some = refl

is_none : (bytes : List ℕ) → length bytes ≡ 0 → is_nothing bytes ≡ true
is_none [] none = refl
is_none (byte ∷ bytes) none = absurd (omega arith)

any_more : (pieces : List (List ℕ)) (piece : List ℕ) (is : Bool) → list_any is_nothing pieces ≡ false → is_nothing piece ≡ is
    → list_any is_nothing (pieces ++ piece ∷ []) ≡ is
any_more pieces piece is some last =
    list_any-append is_nothing pieces (piece ∷ []) ∙ ap (λ b. b || (is_nothing piece || false)) some ∙ by_last (is_nothing piece) is last
  where
    by_last : (b is : Bool) → b ≡ is → (b || false) ≡ is
    by_last true is last = last
    by_last false is last = last

-- one piece more, which has no newline
pub taking_more : (old now new : List ℕ) (before mid after : Option Session) (count start : ℕ) → IsTaking old now before mid
    → length now < limit → IsPiece now new mid after count → 0 < count → start ≡ length now → ended_lines (drop start new) ≡ 0
    → IsTaking old new before after
taking_more old now new before mid after count start is room piece some at none = record {
  pieces = is.pieces ++ piece.piece ∷ [];
  taken = more_taken old now new before mid after count is piece;
  limited = piece.fits;
  wanted = more_wanted old now new before mid after count is room piece;
  some = any_more is.pieces piece.piece false is.some (is_some piece.piece (omega (arith, piece.long)));
  none = none_more;
  told = told_more before mid after is.pieces piece.piece is.some is.told piece.told;
}
  where
    within : length old ≤ length now
    within = omega (arith, ap length is.taken, length-append old (concat is.pieces))

    last : ended_lines piece.piece ≡ 0
    last = ap ended_lines (sym (ap (λ (s : ℕ). drop s new) at ∙ ap (drop (length now)) piece.is ∙ drop-append_seam now piece.piece)) ∙ none

    none_more : ended_lines (drop (length old) new) ≡ 0
    none_more =
        ap ended_lines (ap (drop (length old)) piece.is ∙ drop-append-le (length old) now piece.piece within)
        ∙ ended-append (drop (length old) now) piece.piece ∙ omega (arith, is.none, last)

-- what was taken up to a newline, the end or the limit
pub taken_so_far : (old now : List ℕ) (before mid : Option Session) → IsTaking old now before mid
    → TakesWanted (ended_lines old) old now false false before mid
taken_so_far old now before mid is = record {
  pieces = is.pieces;
  taken = is.taken;
  limited = is.limited;
  wanted = is.wanted;
  once = λ ended. absurd cc;
  ended = sym is.some;
  short = λ _ ended. absurd cc;
  told = is.told;
}

-- with a last piece of nothing
pub taken_to_end : (old now new : List ℕ) (before mid after : Option Session) (count : ℕ) → IsTaking old now before mid → length now < limit
    → IsPiece now new mid after count → count ≡ 0 → TakesWanted (ended_lines old) old new false true before after
taken_to_end old now new before mid after count is room piece none =
    record {
      pieces = is.pieces ++ piece.piece ∷ [];
      taken = more_taken old now new before mid after count is piece;
      limited = piece.fits;
      wanted = more_wanted old now new before mid after count is room piece;
      once = λ ended. absurd cc;
      ended = sym (any_more is.pieces piece.piece true is.some (is_none piece.piece (piece.long ∙ none)));
      short = λ _ _. omega (arith, room, piece.long, none, ap length piece.is, length-append now piece.piece);
      told = told_more before mid after is.pieces piece.piece is.some is.told piece.told;
    }

-- with one more that has a newline, or none
pub taken_with : (old now new : List ℕ) (before mid after : Option Session) (count : ℕ) → IsTaking old now before mid → length now < limit
    → IsPiece now new mid after count → 0 < count → TakesWanted (ended_lines old) old new false false before after
taken_with old now new before mid after count is room piece some =
    record {
      pieces = is.pieces ++ piece.piece ∷ [];
      taken = more_taken old now new before mid after count is piece;
      limited = piece.fits;
      wanted = more_wanted old now new before mid after count is room piece;
      once = λ ended. absurd cc;
      ended = sym (any_more is.pieces piece.piece false is.some (is_some piece.piece (omega (arith, piece.long))));
      short = λ _ ended. absurd cc;
      told = told_more before mid after is.pieces piece.piece is.some is.told piece.told;
    }

-- nothing is taken once the input has ended
pub taken_nothing : (given : ℕ) (old : List ℕ) (is_ended : Bool) (before : Option Session) → length old ≤ limit
    → TakesWanted given old old is_ended is_ended before before
taken_nothing given old is_ended before limited = record {
  pieces = [];
  taken = sym (append-nil old);
  limited = limited;
  wanted = tt;
  once = λ _. refl;
  ended = or_false is_ended;
  short = λ was is. absurd cc;
  told = told_same before before refl;
}
  where
    or_false : (b : Bool) → b ≡ (b || false)
    or_false true = refl
    or_false false = refl

-- the newline of the piece just taken is the first of all that was taken here
pub end_found : (old now new : List ℕ) (before mid after : Option Session) (count start place : ℕ) → IsTaking old now before mid
    → IsPiece now new mid after count → start ≡ length now → IsLineEnd (take (length new - start) (drop start new)) place
    → IsEndFrom (length old) new (start + place)
end_found old now new before mid after count start place is piece at end =
    let within : length old ≤ length now = omega (arith, ap length is.taken, length-append old (concat is.pieces)) in
    let first : drop start new ≡ piece.piece =
    ap (λ (s : ℕ). drop s new) at ∙ ap (drop (length now)) piece.is ∙ drop-append_seam now piece.piece in
    let there : IsLineEnd piece.piece place =
    let P : List ℕ → Type 0 = λ bytes. IsLineEnd bytes place in subst P (take_rest new start ∙ first) end in
    let all : drop (length old) new ≡ drop (length old) now ++ piece.piece =
    ap (drop (length old)) piece.is ∙ drop-append-le (length old) now piece.piece within in
    let P : List ℕ → Type 0 = λ bytes. IsLineEnd bytes (start + place - length old) in
    record {
      at_least = omega (arith, at);
      there = subst P (sym all) (end_after (drop (length old) now) piece.piece place (start + place - length old) is.none there
          (omega (arith, at, length-drop (length old) now)));
    }

-- the bytes before a line that isn't ended have all the newlines
pub wanted_from : (start : ℕ) (old new : List ℕ) (was is : Bool) (before after : Option Session) → ended_lines (drop start old) ≡ 0
    → TakesWanted (ended_lines old) old new was is before after → TakesWanted (ended_lines (take start old)) old new was is before after
wanted_from start old new was is before after none takes =
    let same : ended_lines old ≡ ended_lines (take start old) =
    ap ended_lines (sym (take-append-drop start old)) ∙ ended-append (take start old) (drop start old) ∙ omega (arith, none) in
    let P : ℕ → Type 0 = λ given. TakesWanted given old new was is before after in
    subst P same takes

-- and what ends the line is the first newline of the line too
pub found_from : (start : ℕ) (old new : List ℕ) (was is : Bool) (before after : Option Session) (answer : Result (Option ℕ) DeviceRefusal)
    → start ≤ length old → ended_lines (drop start old) ≡ 0
    → TakesWanted (ended_lines old) old new was is before after → FindsEnd (length old) new is answer → FindsEnd start new is answer
found_from start old new was is before after (Err refusal) within none takes found = tt
found_from start old new was is before after (Ok None) within none takes found =
    record {
      none =
          ap ended_lines (ap (drop start) takes.taken ∙ drop-append-le start old (concat takes.pieces) within)
          ∙ ended-append (drop start old) (concat takes.pieces)
          ∙ omega (
            arith,
            none,
            ap ended_lines (sym (ap (drop (length old)) takes.taken
                ∙ drop-append_seam old (concat takes.pieces))),
            found.none,
          );
      full = found.full;
    }
found_from start old new was is before after (Ok (Some place)) within none takes found =
    let more = concat takes.pieces in
    let all : drop start new ≡ drop start old ++ more = ap (drop start) takes.taken ∙ drop-append-le start old more within in
    let P : List ℕ → Type 0 = λ bytes. IsLineEnd bytes (place - length old) in
    let Q : List ℕ → Type 0 = λ bytes. IsLineEnd bytes (place - start) in
    let there = subst P (ap (drop (length old)) takes.taken ∙ drop-append_seam old more) found.there in
    record {
      at_least = omega (arith, within, found.at_least);
      there = subst Q (sym all) (end_after (drop start old) more (place - length old) (place - start) none there
          (omega (arith, within, found.at_least, length-drop start old)));
    }
