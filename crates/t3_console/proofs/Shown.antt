-- Other crates may use these: a page that has taken nothing yet.
use Rattle.std.proofs.Common.{◌≡◌, ℕ, [], ◌∙◌, ap, sym}
use Rattle.t3_console.specs.Page.{PageValue, shown, page_after, HasTaken}
use Rattle.t3_console.proofs.Pages.{shown_is}

-- nothing is shown of it
pub shown-nil : (width : ℕ) → shown width [] ≡ []
shown-nil width = shown_is width []

pub taken_nothing : (page : PageValue) (width : ℕ) → page ≡ page_after width [] → HasTaken page []
taken_nothing page width is = is ∙ ap (λ w. page_after w []) (sym (ap (λ p. p.width) is))
