-- What each command does with its image: a table with a line a command.
use Rattle.std.specs.Prelude.{ℕ, List, Option, Some, None}
use Rattle.t3_image_read.specs.ImageText.{ImageValue, text}
use Rattle.t3_image_write.specs.Masks.{masked_image}
use Rattle.t3_asm.specs.Listing.{listing}
use Rattle.t3_drill.specs.Drill.{drill_actions}
use Rattle.t3_words.specs.Command.{CommandValue, Check, Show, Run, Rewrite, Listing, Asm, Drill, RunOptions, default_options}
use Rattle.t3_cli.specs.BlockLines.{check_text, show_text}

-- a text is shown, a file is put, or the image is run; behind the run of a drill of so many actions a line tells what it came to
pub data Plan : Type 0 where
  Showing : (text : List ℕ) → Plan
  Putting : (out bytes : List ℕ) → Plan
  Running : (options : RunOptions) (actions : Option ℕ) → Plan

-- what is written of an image
abbrev pub written_text : Option ℕ → ImageValue → List ℕ
written_text mask image = text (masked_image mask image)

abbrev pub plan_of : CommandValue → ImageValue → Plan
plan_of (Check name) image = Showing (check_text image)
plan_of (Show name) image = Showing (show_text image)
plan_of (Run name options) image = Running options None
plan_of (Rewrite name out mask) image = Putting out (written_text mask image)
plan_of (Listing name out) image = Putting out (listing image)
plan_of (Asm name out) image = Putting out (text image)
plan_of (Drill number) image = Running default_options (Some (drill_actions number))
