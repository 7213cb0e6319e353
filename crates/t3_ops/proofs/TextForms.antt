-- The text form of a value, by what it is.
use Rattle.std.proofs.Common.{◌≡◌, ℕ, List, Option, Some, option_map, sym, ap}
use Rattle.std.proofs.lemmas.Option.{none-some}
use Rattle.t3_holder.specs.declared.holder.Holder.{Holder}
use Rattle.t3_holder.specs.declared.holder.Holder.TheVariants as holders
use Rattle.t3_pools.specs.Pool.{Pool}
use Rattle.t3_store.specs.Store.{StoreValue}
use Rattle.t3_ops.specs.Values.{OfText, text_or_list_of}
use Rattle.t3_ops.specs.Adding.{word_of, text_form_by, text_form_of}

pub text_form-text : (nil : List ℕ) (constants : Pool) (store : StoreValue) (value : Holder) (bytes : Option (List ℕ))
    → OfText bytes ≡ text_or_list_of constants store value → Some bytes ≡ text_form_of nil constants store value
text_form-text nil constants store value bytes is = ap (λ shape. text_form_by nil shape value) is

pub text_form-word : (nil : List ℕ) (constants : Pool) (store : StoreValue) (value : Holder) (word : List ℕ)
    → Some word ≡ word_of nil value → Some (Some word) ≡ text_form_of nil constants store value
text_form-word nil constants store holders.Nil word is = ap (λ (o : Option (List ℕ)). option_map Some o) is
text_form-word nil constants store holders.True word is = ap (λ (o : Option (List ℕ)). option_map Some o) is
text_form-word nil constants store (holders.Int z) word is = ap (λ (o : Option (List ℕ)). option_map Some o) is
text_form-word nil constants store (holders.Enum n) word is = absurd (none-some word (sym is))
text_form-word nil constants store (holders.Prop n) word is = absurd (none-some word (sym is))
text_form-word nil constants store (holders.Obj n) word is = absurd (none-some word (sym is))
text_form-word nil constants store (holders.Text n) word is = absurd (none-some word (sym is))
text_form-word nil constants store (holders.Shown n) word is = absurd (none-some word (sym is))
text_form-word nil constants store (holders.List n) word is = absurd (none-some word (sym is))
text_form-word nil constants store (holders.Code n) word is = absurd (none-some word (sym is))
text_form-word nil constants store (holders.Func n) word is = absurd (none-some word (sym is))
