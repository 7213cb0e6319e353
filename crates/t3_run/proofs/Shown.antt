-- For other crates too: showing texts one after the other, and piece by piece.
use Rattle.std.proofs.Common.{◌≡◌, ℕ, ◌+◌, ◌-◌, List, [], ◌++◌, length, take, drop, Option, Some, None, Result, Ok, Err, ◌≤◌, refl, sym, ap, subst, ◌∙◌, append_assoc}
use Rattle.std.proofs.lemmas.List.{append-nil, take-append-drop, take_rest, take_all}
use Rattle.t3_io.specs.Session.{Session, after_showing, ShowsPiece}
use Rattle.t3_io.specs.declared.refusal.DeviceRefusal.{DeviceRefusal}
use Rattle.t3_image_read.proofs.Lists.{take_add}
use Rattle.t3_run.specs.Showing.{ShowsMore, ShowsAll}

pub after_showing-after_showing : (before : Session) (a b : List ℕ) → after_showing (after_showing before a) b ≡ after_showing before (a ++ b)
after_showing-after_showing before a b = λ i. record before { shown = append_assoc before.shown a b i }

-- a text after another
pub shows_after : (before mid after : Option Session) (a b : List ℕ) → ShowsMore before mid a → ShowsMore mid after b
    → ShowsMore before after (a ++ b)
shows_after None mid after a b first second = tt
shows_after (Some session) mid after a b first second =
    let P : Option Session → Type 0 = λ m. ShowsMore m after b in
    let then : after ≡ Some (after_showing (after_showing session a) b) = subst P first second in
    then ∙ ap Some (after_showing-after_showing session a b)

-- nothing is shown by who doesn't touch the console
pub shows_nothing : (before : Option Session) → ShowsMore before before []
shows_nothing None = tt
shows_nothing (Some session) = λ i. Some (record session { shown = sym (append-nil session.shown) i })

-- what a console took of the rest of a text is shown after what was
pub shows_piece : (first middle last : Option Session) (text : List ℕ) (at count : ℕ) → ShowsMore first middle (take at text)
    → ShowsPiece middle last (take (length text - at) (drop at text)) (Ok count) → ShowsMore first last (take (at + count) text)
shows_piece None middle last text at count so_far shows = tt
shows_piece (Some before) middle last text at count so_far shows =
    let rest = take (length text - at) (drop at text) in
    let now = subst (λ m. ShowsPiece m last rest (Ok count)) so_far shows in
    let piece : take at text ++ take count rest ≡ take (at + count) text = ap (λ r. take at text ++ take count r) (take_rest text at) ∙ sym (take_add at count text) in
    now ∙ ap Some (after_showing-after_showing before (take at text) (take count rest) ∙ ap (after_showing before) piece)

-- at the end all was shown
pub shows_all : (first last : Option Session) (text : List ℕ) (at : ℕ) → ShowsMore first last (take at text) → length text ≤ at
    → ShowsMore first last text
shows_all first last text at so_far all = let P : List ℕ → Type 0 = ShowsMore first last in subst P (take_all at text all) so_far

-- where it took none, what was shown is a prefix
pub shows_prefix : (first middle last : Option Session) (text piece : List ℕ) (at : ℕ) (refusal other : DeviceRefusal)
    (answer : Result (Unit {0}) DeviceRefusal) → answer ≡ Err other
    → ShowsMore first middle (take at text) → ShowsPiece middle last piece (Err refusal) → ShowsAll first last text answer
shows_prefix first middle last text piece at refusal other answer is so_far shows =
    let P : Result (Unit {0}) DeviceRefusal → Type 0 = ShowsAll first last text in
    subst P (sym is) (record {
      said =
          take at text;
      prefix = record { part = take at text; rest = drop at text; is = sym (take-append-drop at text); said_is = refl };
      shows = stays first middle so_far shows;
    })
  where
    stays : (first middle : Option Session) → ShowsMore first middle (take at text) → ShowsPiece middle last piece (Err refusal)
        → ShowsMore first last (take at text)
    stays None middle so_far shows = tt
    stays (Some before) middle so_far shows = subst (λ m. ShowsPiece m last piece (Err refusal)) so_far shows
