-- The text forms of values, joined one by one.
use Rattle.std.proofs.Common.{◌≡◌, ℕ, ◌+◌, ◌<◌, List, ◌++◌, drop, length, Option, Some, None, Bool, true, false, refl, sym, ap, ◌∙◌, append_assoc, slice_index_or}
use Rattle.std.proofs.lemmas.List.{drop_more}
use Rattle.std.specs.Fmt.{option_append}
use Rattle.t3_holder.specs.declared.holder.Holder.{Holder}
use Rattle.t3_pools.specs.Pool.{Pool}
use Rattle.t3_store.specs.Store.{StoreValue}
use Rattle.t3_ops.specs.Saying.{joined_text_forms, read_text_form}
use Rattle.t3_ops.specs.References.{Appends}

-- a text form more stands before the rest
before-rest : (before form after : List ℕ) (rest : Option (List ℕ)) → after ≡ before ++ form
    → option_append (Some after) rest ≡ option_append (Some before) (option_append (Some form) rest)
before-rest before form after None is = refl
before-rest before form after (Some rest) is = ap (λ text. Some (text ++ rest)) is ∙ ap Some (append_assoc before form rest)

pub said-more : (constants : Pool) (store : StoreValue) (values : List Holder) (i : ℕ) (value : Holder) (before after : List ℕ) (read : Bool)
    → i < length values
    → option_append (Some before) (joined_text_forms constants store (drop i values)) ≡ joined_text_forms constants store values
    → Appends before (read_text_form constants store (slice_index_or values i value)) read after → read ≡ true
    → option_append (Some after) (joined_text_forms constants store (drop (i + 1) values)) ≡ joined_text_forms constants store values
said-more constants store values i value before after read less so_far appends is = by (read_text_form constants store here) refl appends
  where
    here : Holder
    here = slice_index_or values i value

    rest : Option (List ℕ)
    rest = joined_text_forms constants store (drop (i + 1) values)

    by : (form : Option (List ℕ)) → read_text_form constants store here ≡ form → Appends before form read after
        → option_append (Some after) rest ≡ joined_text_forms constants store values
    by None told appends = let clash : true ≡ false = sym is ∙ appends in absurd cc
    by (Some form) told appends =
        before-rest before form after rest appends.1
        ∙ ap (λ f. option_append (Some before) (option_append f rest)) (sym told)
        ∙ ap (λ vs. option_append (Some before) (joined_text_forms constants store vs)) (sym (drop_more values i value less))
        ∙ so_far
