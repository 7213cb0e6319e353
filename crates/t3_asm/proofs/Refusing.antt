-- One line more of those that break no rule of values.
use Rattle.std.proofs.Common.{◌≡◌, ℕ, ◌+◌, ◌<◌, List, ◌∷◌, length, get_or, drop, Option, Some, None, sym, ap, ◌∙◌, arith}
use Rattle.t3_asm.specs.declared.item.Item.{Item}
use Rattle.t3_asm.specs.declared.refusal.AsmRefusal.{AsmRefusal}
use Rattle.t3_asm.specs.Inner.Measures.{near}
use Rattle.t3_asm.specs.Places.{Labels}
use Rattle.t3_asm.specs.Source.{block_size, header_count, value_why, or_next, refused_from}
use Rattle.t3_asm.specs.Refusals.{refusal}
use Rattle.t3_asm.specs.declared.refusal.AsmWhy.{AsmWhy}
use Rattle.t3_asm.proofs.Steps.{drop-at}

refused-at : (labels : Labels) (size count : ℕ) (items : List Item) (at : ℕ) (item : Item) → item ≡ get_or items at item → at < length items
    → refused_from labels size count (drop at items)
    ≡ refused_from labels size count (item ∷ drop (at + 1) items)
refused-at labels size count items at item is less = ap (refused_from labels size count) (drop-at items at item is less)

-- how far the rules have come: the size is that of so many bytes
abbrev pub Comes : Labels → ℕ → ℕ → List Item → Option AsmRefusal → Type 0
Comes labels size count items due = (whole : ℕ) × (size ≡ near whole) × (refused_from labels whole count items ≡ due)

pub comes_on : (labels : Labels) (size count : ℕ) (items : List Item) (at : ℕ) (due : Option AsmRefusal) (item : Item) (behind : List Item)
    (measure headers next : ℕ)
    → item ≡ get_or items at item → at < length items → behind ≡ drop (at + 1) items
    → measure ≡ near (block_size labels item behind item.keyword) → next ≡ near (size + measure) → headers ≡ header_count item.keyword
    → ((whole : ℕ) → next ≡ near whole → None ≡ value_why labels item behind whole (count + headers))
    → Comes labels size count (drop at items) due
    → Comes labels next (count + headers) (drop (at + 1) items) due
comes_on labels size count items at due item behind measure headers next is less rest measured next_is headers_are good before =
    let whole = before.0 in
    let more = block_size labels item behind item.keyword in
    let grown : next ≡ near (whole + more) = omega (arith, next_is, before.1, measured) in
    let now : refused_from labels whole count (item ∷ behind) ≡ due =
    ap (λ b. refused_from labels whole count (item ∷ b)) rest ∙ sym (refused-at labels whole count items at item is less) ∙ before.2 in
    let fine : value_why labels item behind (whole + more) (count + header_count item.keyword) ≡ None =
    ap (λ h. value_why labels item behind (whole + more) (count + h)) (sym headers_are) ∙ sym (good (whole + more) grown) in
    let on : refused_from labels (whole + more) (count + header_count item.keyword) behind ≡ due =
    sym (ap (λ why. or_next item.line why (refused_from labels (whole + more) (count + header_count item.keyword) behind)) fine) ∙ now in (
      whole + more,
      grown,
      ap (λ h. refused_from labels (whole + more) (count + h) (drop (at + 1) items)) headers_are
          ∙ ap (λ b. refused_from labels (whole + more) (count + header_count item.keyword) b) (sym rest) ∙ on,
    )

-- a line that breaks one
pub comes_to : (labels : Labels) (size count : ℕ) (items : List Item) (at : ℕ) (due : Option AsmRefusal) (item : Item) (behind : List Item)
    (measure headers next : ℕ) (why : AsmWhy)
    → item ≡ get_or items at item → at < length items → behind ≡ drop (at + 1) items
    → measure ≡ near (block_size labels item behind item.keyword) → next ≡ near (size + measure) → headers ≡ header_count item.keyword
    → ((whole : ℕ) → next ≡ near whole → Some why ≡ value_why labels item behind whole (count + headers))
    → Comes labels size count (drop at items) due
    → Some (refusal item.line why) ≡ due
comes_to labels size count items at due item behind measure headers next why is less rest measured next_is headers_are bad before =
    let whole = before.0 in
    let more = block_size labels item behind item.keyword in
    let grown : next ≡ near (whole + more) = omega (arith, next_is, before.1, measured) in
    let now : refused_from labels whole count (item ∷ behind) ≡ due =
    ap (λ b. refused_from labels whole count (item ∷ b)) rest ∙ sym (refused-at labels whole count items at item is less) ∙ before.2 in
    let broken : value_why labels item behind (whole + more) (count + header_count item.keyword) ≡ Some why =
    ap (λ h. value_why labels item behind (whole + more) (count + h)) (sym headers_are) ∙ sym (bad (whole + more) grown) in
    sym (ap (λ w. or_next item.line w (refused_from labels (whole + more) (count + header_count item.keyword) behind)) broken) ∙ now
