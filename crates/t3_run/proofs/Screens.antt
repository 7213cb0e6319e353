-- What a screen has put out, and what of it was shown.
use Rattle.std.proofs.Common.{◌≡◌, ℕ, List, [], ◌++◌, Option, Result, Ok, Err, IfOk, refl, sym, ap, subst, ◌∙◌}
use Rattle.std.proofs.lemmas.List.{append-nil}
use Rattle.t3_io.specs.Session.{Session}
use Rattle.t3_io.specs.declared.refusal.DeviceRefusal.{DeviceRefusal}
use Rattle.t3_run.specs.declared.screen.Screen.{Screen}
use Rattle.t3_run.specs.Showing.{ShowsAll}
use Rattle.t3_run.specs.Inner.Playing.{PutsOn}
use Rattle.t3_run.proofs.Shown.{shows_nothing}

-- no memory was there to put it out
pub puts-none : (now : Option Session) (old new : Screen) (text : List ℕ) (answer : Result (Unit {0}) DeviceRefusal) (e : DeviceRefusal)
    → answer ≡ Err e → PutsOn now now old text new answer
puts-none now old new text answer e is =
    subst (λ (r : Result (Unit {0}) DeviceRefusal). PutsOn now now old text new r) (sym is)
    (old.out.items ++ text, record { said = []; is = refl; shows = shows_nothing now })

-- it was put out behind what was pending, and all of that is shown
pub puts-shown : (before after : Option Session) (old new : Screen) (text all : List ℕ) (answer : Result (Unit {0}) DeviceRefusal)
    → all ≡ old.out.items ++ text → ShowsAll before after all answer → IfOk answer (λ _. new.out.items ≡ [])
    → PutsOn before after old text new answer
puts-shown before after old new text all (Ok done) is shows none = record {
  said = all;
  is = sym is ∙ sym (append-nil all) ∙ ap (λ t. all ++ t) (sym none);
  shows = shows;
}
puts-shown before after old new text all (Err refusal) is shows none = (
  shows.prefix.rest,
  record {
    said = shows.said;
    is = sym is ∙ shows.prefix.is ∙ ap (λ t. t ++ shows.prefix.rest) (sym shows.prefix.said_is);
    shows = shows.shows;
  },
)
