-- For other crates too: acts behind one another.
use Rattle.std.proofs.Common.{◌≡◌, ℕ, zero, suc, ◌+◌, List, [], ◌∷◌, ◌++◌, Option, Some, None, refl, sym, ap, ◌∙◌, append_assoc, arith}
use Rattle.std.specs.FinMap.{insert}
use Rattle.t3_io.specs.Files.{Files}
use Rattle.std.specs.Prelude.{option_map}
use Rattle.t3_run.specs.Act.{Act, Shows, Puts, Asks, shown_by, shown_before, files_by, with_file, files_after}
use Rattle.t3_run.specs.Inner.Playing.{asks_in, NoPuts}

pub shown_by-append : (a b : List Act) → shown_by (a ++ b) ≡ shown_by a ++ shown_by b
shown_by-append [] b = refl
shown_by-append (Shows text ∷ a) b =
    ap (λ t. text ++ t) (shown_by-append a b) ∙ sym (append_assoc text (shown_by a) (shown_by b))
shown_by-append (Puts name bytes ∷ a) b = shown_by-append a b
shown_by-append (Asks ∷ a) b = shown_by-append a b

pub asks_in-append : (a b : List Act) → asks_in (a ++ b) ≡ asks_in a + asks_in b
asks_in-append [] b = omega arith
asks_in-append (Shows text ∷ a) b = asks_in-append a b
asks_in-append (Puts name bytes ∷ a) b = asks_in-append a b
asks_in-append (Asks ∷ a) b = let rest = asks_in-append a b in omega (arith, rest)

mapped : (text shown : List ℕ) (a b : Option (List ℕ)) → ((s : List ℕ) → a ≡ Some s → b ≡ Some s)
    → option_map (λ s. text ++ s) a ≡ Some shown → option_map (λ s. text ++ s) b ≡ Some shown
mapped text shown None b both is = absurd cc
mapped text shown (Some s) b both is = ap (λ (o : Option (List ℕ)). option_map (λ s. text ++ s) o) (both s refl) ∙ is

-- what is shown before a line doesn't depend on what comes behind
pub shown_before-more : (count : ℕ) (acts more : List Act) (shown : List ℕ) → shown_before count acts ≡ Some shown
    → shown_before count (acts ++ more) ≡ Some shown
shown_before-more count [] more shown is = absurd cc
shown_before-more count (Shows text ∷ acts) more shown is =
    mapped text shown (shown_before count acts) (shown_before count (acts ++ more)) (λ s here. shown_before-more count acts more s here) is
shown_before-more count (Puts name bytes ∷ acts) more shown is = shown_before-more count acts more shown is
shown_before-more zero (Asks ∷ acts) more shown is = is
shown_before-more (suc count) (Asks ∷ acts) more shown is = shown_before-more count acts more shown is

-- and before the line that is wanted behind acts, it is all that they show
pub shown_before-here : (acts more : List Act) → shown_before (asks_in acts) (acts ++ Asks ∷ more) ≡ Some (shown_by acts)
shown_before-here [] more = refl
shown_before-here (Shows text ∷ acts) more =
    ap (λ (o : Option (List ℕ)). option_map (λ s. text ++ s) o) (shown_before-here acts more)
shown_before-here (Puts name bytes ∷ acts) more = shown_before-here acts more
shown_before-here (Asks ∷ acts) more =
    let next : asks_in acts + 1 ≡ suc (asks_in acts) = omega arith in
    ap (λ n. shown_before n (Asks ∷ (acts ++ Asks ∷ more))) next ∙ shown_before-here acts more

-- ---- the files after acts

pub files_by-append : (files : Files) (a b : List Act) → files_by files (a ++ b) ≡ files_by (files_by files a) b
files_by-append files [] b = refl
files_by-append files (Shows text ∷ a) b = files_by-append files a b
files_by-append files (Puts name bytes ∷ a) b = files_by-append (insert files name bytes) a b
files_by-append files (Asks ∷ a) b = files_by-append files a b

pub files_after-append : (files : Option Files) (a b : List Act) → files_after files (a ++ b) ≡ files_after (files_after files a) b
files_after-append files [] b = refl
files_after-append files (Shows text ∷ a) b = files_after-append files a b
files_after-append files (Puts name bytes ∷ a) b = files_after-append (with_file name bytes files) a b
files_after-append files (Asks ∷ a) b = files_after-append files a b

pub files_after-told : (files : Files) (acts : List Act) → files_after (Some files) acts ≡ Some (files_by files acts)
files_after-told files [] = refl
files_after-told files (Shows text ∷ acts) = files_after-told files acts
files_after-told files (Puts name bytes ∷ acts) = files_after-told (insert files name bytes) acts
files_after-told files (Asks ∷ acts) = files_after-told files acts

pub files_after-untold : (acts : List Act) → files_after None acts ≡ None
files_after-untold [] = refl
files_after-untold (Shows text ∷ acts) = files_after-untold acts
files_after-untold (Puts name bytes ∷ acts) = files_after-untold acts
files_after-untold (Asks ∷ acts) = files_after-untold acts

-- ---- acts that put no file

pub unput-append : (a b : List Act) → NoPuts a → NoPuts b → NoPuts (a ++ b)
unput-append [] b first second = second
unput-append (Shows text ∷ a) b first second = unput-append a b first second
unput-append (Puts name bytes ∷ a) b first second = absurd first
unput-append (Asks ∷ a) b first second = unput-append a b first second

-- leave the files
pub files_by-unput : (files : Files) (acts : List Act) → NoPuts acts → files_by files acts ≡ files
files_by-unput files [] unput = refl
files_by-unput files (Shows text ∷ acts) unput = files_by-unput files acts unput
files_by-unput files (Puts name bytes ∷ acts) unput = absurd unput
files_by-unput files (Asks ∷ acts) unput = files_by-unput files acts unput

pub files_after-unput : (files : Option Files) (acts : List Act) → NoPuts acts → files_after files acts ≡ files
files_after-unput files [] unput = refl
files_after-unput files (Shows text ∷ acts) unput = files_after-unput files acts unput
files_after-unput files (Puts name bytes ∷ acts) unput = absurd unput
files_after-unput files (Asks ∷ acts) unput = files_after-unput files acts unput
