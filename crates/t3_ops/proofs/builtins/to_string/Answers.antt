use Rattle.std.proofs.Common.{◌≡◌, ℕ, codes, List, [], ◌∷◌, Some, option_map, sym, ap, ◌∙◌, string_bytes}
use Rattle.t3_ops.specs.Values.{kind_fault}
use Rattle.t3_ops.specs.Adding.{text_form_of, word_of}
use Rattle.t3_ops.specs.Builtins.{text_copy_of, string_or, to_string_of}
use Rattle.t3_ops.specs.References.{text_of}
use Rattle.t3_ops.specs.Inner.Outcomes.{made_of}
use Rattle.t3_ops.proofs.Appending.{if_ok}
use Rattle.t3_ops.proofs.TextForms.{text_form-text, text_form-word}
use Rattle.t3_ops.proofs.builtins.to_string.Goals as goal

pub returns-in-Text-clause-made : goal.returns-in-Text-clause-made
returns-in-Text-clause-made c =
    let pool = c.args.pools.now.constants in
    let store = c.args.store.now.store in
    let fault = kind_fault store (c.args.value ∷ []) in
    let text = text_of pool c.in-Text.text in
    let form = text_form-text (codes "nil") pool store c.args.value text c.in-Text.ensures in
    if_ok c.text_copy.result (λ outcome. made_of outcome ≡ text_copy_of text)
    (λ outcome. made_of outcome ≡ to_string_of pool store c.args.value)
    (λ outcome is. is ∙ ap (λ f. string_or fault f) form)
    c.text_copy.ensures.made

pub returns-in-Some-clause-made : goal.returns-in-Some-clause-made
returns-in-Some-clause-made c =
    let pool = c.args.pools.now.constants in
    let store = c.args.store.now.store in
    let fault = kind_fault store (c.args.value ∷ []) in
    let bytes = c.as_bytes.result.now in
    let word : Some (string_bytes c.in-Some.word) ≡ word_of (codes "nil") c.args.value =
    ap (λ o. option_map string_bytes o) (sym c.in-Some.is) ∙ c.in_ok-word.ensures in
    let form : Some (Some bytes) ≡ text_form_of (codes "nil") pool store c.args.value =
    ap (λ (b : List ℕ). Some (Some b)) c.as_bytes.ensures.value
    ∙ text_form-word (codes "nil") pool store c.args.value (string_bytes c.in-Some.word) word in
    if_ok c.text_copy-in-Some.result (λ outcome. made_of outcome ≡ text_copy_of (Some bytes))
    (λ outcome. made_of outcome ≡ to_string_of pool store c.args.value)
    (λ outcome is. is ∙ ap (λ f. string_or fault f) form)
    c.text_copy-in-Some.ensures.made
