-- One line more of those that a loop goes over.
use Rattle.std.proofs.Common.{◌≡◌, ℕ, suc, ◌+◌, ◌-◌, ◌/◌, ◌%◌, ◌<◌, ◌≤◌, Bool, true, false, ◌||◌, cond, List, [], ◌∷◌, ◌++◌, length, get_or, drop, Result, Ok, Err, refl, sym, ap, ◌∙◌, append_assoc, arith}
use Rattle.std.specs.Prelude.{IfOk}
use Rattle.std.proofs.lemmas.List.{append-nil, drop_more, drop_all}
use Rattle.t3_holder.specs.NumberText.{little_endian}
use Rattle.t3_asm_line.specs.declared.keyword.Keyword.{Keyword}
use Rattle.t3_asm.specs.declared.item.Item.{Item}
use Rattle.t3_asm.specs.declared.level.Level.{Level}
use Rattle.t3_asm.specs.Blocks.{ends, entries_of, contents_of}
use Rattle.t3_asm.specs.Places.{Labels}
use Rattle.t3_asm.specs.Values.{content_text}

pub drop-at : {X : Type 0} (xs : List X) (i : ℕ) (x : X) → x ≡ get_or xs i x → i < length xs → drop i xs ≡ x ∷ drop (i + 1) xs
drop-at xs i x is less = drop_more xs i x less ∙ ap (λ f. f ∷ drop (i + 1) xs) (sym is)

pub entries_of-at : {A : Type 0} (level : Level) (begins : Keyword → Bool) (entry : Item → List Item → A) (items : List Item) (i : ℕ)
    (item : Item)
    → item ≡ get_or items i item → i < length items
    → entries_of level begins entry (drop i items)
    ≡ cond (ends level item.keyword) [] (cond (begins item.keyword)
    (entry item (drop (i + 1) items) ∷ entries_of level begins entry (drop (i + 1) items))
    (entries_of level begins entry (drop (i + 1) items)))
entries_of-at level begins entry items i item is less = let one = drop-at items i item is less in rw one refl

pub contents_of-at : (level : Level) (labels : Labels) (items : List Item) (i : ℕ) (item : Item)
    → item ≡ get_or items i item → i < length items
    → contents_of level labels (drop i items)
    ≡ cond (ends level item.keyword) [] (content_text labels item ++ contents_of level labels (drop (i + 1) items))
contents_of-at level labels items i item is less = let one = drop-at items i item is less in rw one refl

pub entries_ended : {A : Type 0} (level : Level) (begins : Keyword → Bool) (entry : Item → List Item → A) (items : List Item) (i : ℕ)
    (item : Item)
    → item ≡ get_or items i item → i < length items → ends level item.keyword ≡ true
    → entries_of level begins entry (drop i items) ≡ []
entries_ended level begins entry items i item is less ended =
    let rest = entries_of level begins entry (drop (i + 1) items) in
    entries_of-at level begins entry items i item is less
    ∙ ap (λ b. cond b [] (cond (begins item.keyword) (entry item (drop (i + 1) items) ∷ rest) rest)) ended

pub entries_past : {A : Type 0} (level : Level) (begins : Keyword → Bool) (entry : Item → List Item → A) (items : List Item) (i : ℕ)
    → length items ≤ i → entries_of level begins entry (drop i items) ≡ []
entries_past level begins entry items i past = ap (entries_of level begins entry) (drop_all i items past)

pub contents_ended : (level : Level) (labels : Labels) (items : List Item) (i : ℕ) (item : Item)
    → item ≡ get_or items i item → i < length items → ends level item.keyword ≡ true → contents_of level labels (drop i items) ≡ []
contents_ended level labels items i item is less ended =
    contents_of-at level labels items i item is less
    ∙ ap (λ b. cond b [] (content_text labels item ++ contents_of level labels (drop (i + 1) items))) ended

pub contents_past : (level : Level) (labels : Labels) (items : List Item) (i : ℕ) → length items ≤ i
    → contents_of level labels (drop i items) ≡ []
contents_past level labels items i past = ap (contents_of level labels) (drop_all i items past)

-- ---- numbers and texts one after the other

-- one byte more of a number
pub byte_more : (out new old : List ℕ) (width at rest number : ℕ) → at < width → new ≡ out ++ rest % 256 ∷ []
    → out ++ little_endian (width - at) rest ≡ old ++ little_endian width number
    → new ++ little_endian (width - (at + 1)) (rest / 256) ≡ old ++ little_endian width number
unfolding little_endian
byte_more out new old width at rest number less is before =
    let one : width - at ≡ suc (width - (at + 1)) = omega arith in
    ap (λ o. o ++ little_endian (width - (at + 1)) (rest / 256)) is
    ∙ append_assoc out (rest % 256 ∷ []) (little_endian (width - (at + 1)) (rest / 256))
    ∙ ap (λ w. out ++ little_endian w rest) (sym one) ∙ before

-- all bytes of a number
pub bytes_whole : (out old : List ℕ) (width at rest number : ℕ) → width ≤ at
    → out ++ little_endian (width - at) rest ≡ old ++ little_endian width number → out ≡ old ++ little_endian width number
unfolding little_endian
bytes_whole out old width at rest number past before =
    let none : width - at ≡ 0 = omega arith in
    sym (append-nil out) ∙ ap (λ w. out ++ little_endian w rest) (sym none) ∙ before

-- six texts one after the other
pub six_more : {T E : Type 0} (answer : Result T E) (old a b c d e new p q r s t u : List ℕ)
    → a ≡ old ++ p → b ≡ a ++ q → c ≡ b ++ r → d ≡ c ++ s → e ≡ d ++ t → IfOk answer (λ _. new ≡ e ++ u)
    → IfOk answer (λ _. new ≡ old ++ (p ++ (q ++ (r ++ (s ++ (t ++ u))))))
six_more (Ok x) old a b c d e new p q r s t u ia ib ic id ie last =
    last ∙ ap (λ o. o ++ u) (ie ∙ ap (λ o. o ++ t) (id ∙ ap (λ o. o ++ s) (ic ∙ ap (λ o. o ++ r) (ib ∙ ap (λ o. o ++ q) ia))))
    ∙ append_assoc (old ++ p ++ q ++ r ++ s) t u ∙ append_assoc (old ++ p ++ q ++ r) s (t ++ u)
    ∙ append_assoc (old ++ p ++ q) r (s ++ (t ++ u))
    ∙ append_assoc (old ++ p) q (r ++ (s ++ (t ++ u))) ∙ append_assoc old p (q ++ (r ++ (s ++ (t ++ u))))
six_more (Err x) old a b c d e new p q r s t u ia ib ic id ie last = tt

-- ---- tests

pub or_left : (a b : Bool) → a ≡ true → true ≡ (a || b)
or_left true b is = refl
or_left false b is = absurd cc

pub or_right : (a b : Bool) → a ≡ false → b ≡ (a || b)
or_right true b is = absurd cc
or_right false b is = refl
