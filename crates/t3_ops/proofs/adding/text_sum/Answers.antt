use Rattle.std.proofs.Common.{◌≡◌, ℕ, List, [], ◌∷◌, Some, option_map, sym, ap, ◌∙◌, string_bytes}
use Rattle.t3_ops.specs.Values.{kind_fault}
use Rattle.t3_ops.specs.Adding.{joined_texts_of, text_sum, text_form_of, word_of}
use Rattle.t3_ops.specs.References.{text_of}
use Rattle.t3_ops.specs.Inner.Outcomes.{made_of}
use Rattle.t3_ops.proofs.Appending.{if_ok}
use Rattle.t3_ops.proofs.TextForms.{text_form-text, text_form-word}
use Rattle.t3_ops.proofs.adding.text_sum.Goals as goal

pub returns-in-Text-clause-sum : goal.returns-in-Text-clause-sum
returns-in-Text-clause-sum c =
    let pool = c.args.pools.now.constants in
    let store = c.args.store.now.store in
    let fault = kind_fault store (c.args.right ∷ []) in
    let left = text_of pool c.args.left in
    let right = text_of pool c.in-Text.right in
    let form = text_form-text [] pool store c.args.right right c.in-Text.ensures in
    if_ok c.joined_texts.result (λ outcome. made_of outcome ≡ joined_texts_of left right)
    (λ outcome. made_of outcome ≡ text_sum fault left (text_form_of [] pool store c.args.right))
    (λ outcome is. is ∙ ap (λ f. text_sum fault left f) form)
    c.joined_texts.ensures.sum

pub returns-in-Some-clause-sum : goal.returns-in-Some-clause-sum
returns-in-Some-clause-sum c =
    let pool = c.args.pools.now.constants in
    let store = c.args.store.now.store in
    let fault = kind_fault store (c.args.right ∷ []) in
    let left = text_of pool c.args.left in
    let bytes = c.as_bytes.result.now in
    let word : Some (string_bytes c.in-Some.word) ≡ word_of [] c.args.right =
    ap (λ o. option_map string_bytes o) (sym c.in-Some.is) ∙ c.in_ok-word.ensures in
    let form : Some (Some bytes) ≡ text_form_of [] pool store c.args.right =
    ap (λ (b : List ℕ). Some (Some b)) c.as_bytes.ensures.value
    ∙ text_form-word [] pool store c.args.right (string_bytes c.in-Some.word) word in
    if_ok c.joined_texts-in-Some.result (λ outcome. made_of outcome ≡ joined_texts_of left (Some bytes))
    (λ outcome. made_of outcome ≡ text_sum fault left (text_form_of [] pool store c.args.right))
    (λ outcome is. is ∙ ap (λ f. text_sum fault left f) form)
    c.joined_texts-in-Some.ensures.sum
