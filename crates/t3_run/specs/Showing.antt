-- What a console has shown of a text.
use Rattle.std.specs.Prelude.{◌≡◌, ℕ, List, [], ◌++◌, Option, Some, None, Result, Ok, Err}
use Rattle.t3_io.specs.Session.{Session, after_showing}
use Rattle.t3_io.specs.declared.refusal.DeviceRefusal.{DeviceRefusal}

-- so much more was shown, and nothing was read of the input; nothing is claimed of a console that doesn't tell
abbrev pub ShowsMore : Option Session → Option Session → List ℕ → Type 0
ShowsMore None after said = Unit {0}
ShowsMore (Some before) after said = after ≡ Some (after_showing before said)

-- a prefix of a text was shown after what had been
pub record ShowsPrefix (shown text said : List ℕ) : Type 0 where
  pub part : List ℕ
  pub rest : List ℕ
  pub is : text ≡ part ++ rest
  pub said_is : said ≡ shown ++ part

-- a prefix of the text was shown, and nothing else
pub record ShowsPrefixOf (before after : Option Session) (text : List ℕ) : Type 0 where
  pub said : List ℕ
  pub prefix : ShowsPrefix [] text said
  pub shows : ShowsMore before after said

-- all of a text is shown, or at a failure a prefix of it
abbrev pub ShowsAll : Option Session → Option Session → List ℕ → Result (Unit {0}) DeviceRefusal → Type 0
ShowsAll before after text (Ok _) = ShowsMore before after text
ShowsAll before after text (Err _) = ShowsPrefixOf before after text
