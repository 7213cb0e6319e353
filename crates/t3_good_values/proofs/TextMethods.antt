-- The methods of texts answer what is good.
use Rattle.std.proofs.Common.{ℕ, nat_eq, List, Option, Some, None, Bool}
use Rattle.std.specs.List.{starts_with, ends_with}
use Rattle.std.specs.Str.{IsUtf8}
use Rattle.t3_holder.specs.declared.holder.Holder.{Holder}
use Rattle.t3_pools.specs.Pool.{Pool}
use Rattle.t3_store.specs.Store.{StoreValue}
use Rattle.t3_ops.specs.declared.fault.Fault.TheVariants.{BadConstant}
use Rattle.t3_ops.specs.Making.{fitting_text_of}
use Rattle.t3_kinds.specs.declared.methods.TextMethod.{TextMethod}
use Rattle.t3_kinds.specs.declared.methods.TextMethod.TheVariants as text
use Rattle.t3_kinds.specs.declared.part.Part.{Part}
use Rattle.t3_kinds.specs.Deeds.{answers_count, answers_new, first_of, second_of, part_of}
use Rattle.t3_kinds.specs.TextMethods.{character_count, characters_in, part_of_text, tested_texts}
use Rattle.t3_kinds.specs.Methods.{text_deed}
use Rattle.t3_good_values.specs.Stores.{IsGoodDeed}
use Rattle.t3_good_values.proofs.Lists.{IfThere}
use Rattle.t3_good_values.proofs.Outcomes.{good-needed, good-found, good-text_of}
use Rattle.t3_good_values.proofs.Parts.{AreGiven}
use Rattle.t3_good_values.proofs.Deeds.{IsGoodAnswer, good-truth, good-count, good-new, good-ok, good-when_text}
use Rattle.t3_good_values.proofs.Utf8.{utf8-part}

good-part : {Good : Holder → Type 0} {constants : Pool} {store : StoreValue} → AreGiven Good constants store → (bytes : Option (List ℕ))
    → IfThere IsUtf8 bytes → (part : Part) → IsGoodAnswer Good (part_of_text store bytes part)
good-part {Good} {constants} {store} given bytes utf8 part =
    good-needed IsUtf8 (IsGoodDeed Good) BadConstant bytes (λ bytes. answers_new (fitting_text_of (characters_in part bytes)) store) utf8
    (λ bytes utf8. good-new given.closed given.store_good (fitting_text_of (characters_in part bytes))
    (good-text_of Good (characters_in part bytes) (utf8-part part bytes utf8)))

good-tested : {Good : Holder → Type 0} {constants : Pool} {store : StoreValue} → AreGiven Good constants store
    → (test : List ℕ → List ℕ → Bool) (bytes other : Option (List ℕ)) → IsGoodAnswer Good (tested_texts test bytes other)
good-tested given test None other = tt
good-tested given test (Some bytes) None = tt
good-tested given test (Some bytes) (Some other) = good-truth given.closed (test bytes other)

pub good-text_deed : {Good : Holder → Type 0} {constants : Pool} {store : StoreValue} → AreGiven Good constants store
    → (method : TextMethod)
    (args : List Holder) (bytes : Option (List ℕ)) → IfThere IsUtf8 bytes → IsGoodAnswer Good (text_deed constants store method args bytes)
good-text_deed {Good} given text.Length args bytes utf8 =
    good-found (IsGoodDeed Good) BadConstant bytes (λ bytes. answers_count (character_count bytes))
    (λ bytes. good-count given.closed (character_count bytes))
good-text_deed {Good} {constants} {store} given text.Substr args bytes utf8 =
    good-ok (IsGoodDeed Good) (part_of (first_of args) (second_of args)) (part_of_text store bytes) (good-part given bytes utf8)
good-text_deed {Good} {constants} {store} given text.StartsWith args bytes utf8 =
    good-when_text (IsGoodDeed Good) given (first_of args) (tested_texts (starts_with nat_eq) bytes)
    (λ other _. good-tested given (starts_with nat_eq) bytes other)
good-text_deed {Good} {constants} {store} given text.EndsWith args bytes utf8 =
    good-when_text (IsGoodDeed Good) given (first_of args) (tested_texts (ends_with nat_eq) bytes)
    (λ other _. good-tested given (ends_with nat_eq) bytes other)
