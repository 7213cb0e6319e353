-- The laws of the spelling: one payload, one block, and a payload that spells none is malformed in one way. Other crates may use what stands here.
use Rattle.std.proofs.Common.{◌≡◌, ℕ, List, [], ◌++◌, length, refl, sym, ap, subst, ◌∙◌, inl, inr}
use Rattle.std.specs.Prelude.{codes, ◌<◌, ◌^◌}
use Rattle.std.specs.List.{flat_map, AllByRecursion}
use Rattle.t3_holder.specs.NumberText.{little_endian}
use Rattle.t3_holder.proofs.Numbers.{same_number}
use Rattle.t3_blocks.specs.BlockName.{end_name}
use Rattle.t3_blocks.specs.declared.block.Block.{Block}
use Rattle.t3_blocks.specs.declared.block.Block.TheVariants.{Entry, Objects, PoolDef, Page, Metas, Functions, Symbols, Opaque}
use Rattle.t3_blocks.specs.declared.items.Static.{Static}
use Rattle.t3_blocks.specs.declared.kind.BlockKind.{BlockKind}
use Rattle.t3_blocks.specs.declared.kind.BlockKind.TheVariants as kinds
use Rattle.t3_blocks.specs.Spelling.{Spells, IsSpellable, name_of, payload_of, masked_bytes, name_text, IsName, meta_text, IsMeta, size_width, static_text, IsStatic, symbol_text, IsSymbol}
use Rattle.t3_blocks.specs.Malformed.{IsUnspelled, BreaksCounted, BreaksObjects, IsMalformed}
use Rattle.t3_blocks.proofs.Lists.{number_split, numbers_split, masked_same}
use Rattle.t3_blocks.proofs.ItemLists.{Told, same_items}
use Rattle.t3_blocks.proofs.ItemTexts.{names_told, metas_told, statics_told, symbols_told}
use Rattle.t3_blocks.proofs.BrokenLists.{one_counted, counted_unbroken, objects_head_split, one_objects, objects_unbroken}
use Rattle.t3_blocks.proofs.Inversion.{kind_of, layout_of, named}

-- no block of this kind has this payload, of which so many items spell; those that have a head alone have no items
abbrev Breaks : BlockKind → List ℕ → ℕ → Type 0
Breaks kinds.Entry payload items = (items ≡ 0) × IsUnspelled (codes "ENTP") payload
Breaks kinds.Objects payload items = BreaksObjects payload items
Breaks kinds.PoolDef payload items = (items ≡ 0) × IsUnspelled (codes "CPDF") payload
Breaks kinds.Page payload items = (items ≡ 0) × IsUnspelled (codes "CPPG") payload
Breaks kinds.Metas payload items = BreaksCounted meta_text IsMeta payload items
Breaks kinds.Functions payload items = BreaksCounted name_text IsName payload items
Breaks kinds.Symbols payload items = BreaksCounted symbol_text IsSymbol payload items
Breaks _ payload items = ⊥

-- what the kind of a name breaks
at_kind : (name own payload : List ℕ) (items : ℕ) → name ≡ own → Breaks (kind_of own) payload items → Breaks (kind_of name) payload items
at_kind name own payload items is breaks = subst (λ n. Breaks (kind_of n) payload items) (sym is) breaks

under : (name own payload : List ℕ) → name ≡ own → IsUnspelled name payload → IsUnspelled own payload
under name own payload is none = subst (λ n. IsUnspelled n payload) is none

as_kind : (name payload : List ℕ) (items : ℕ) → IsMalformed name payload items → Breaks (kind_of name) payload items
as_kind name payload items (inl (inl is, count, none)) =
    at_kind name (codes "ENTP") payload items is (count, under name (codes "ENTP") payload is none)
as_kind name payload items (inl (inr (inl is), count, none)) =
    at_kind name (codes "CPDF") payload items is (count, under name (codes "CPDF") payload is none)
as_kind name payload items (inl (inr (inr is), count, none)) =
    at_kind name (codes "CPPG") payload items is (count, under name (codes "CPPG") payload is none)
as_kind name payload items (inr (inl (is, breaks))) = at_kind name (codes "FNSD") payload items is breaks
as_kind name payload items (inr (inr (inl (is, breaks)))) = at_kind name (codes "MCLD") payload items is breaks
as_kind name payload items (inr (inr (inr (inl (is, breaks))))) = at_kind name (codes "OBJS") payload items is breaks
as_kind name payload items (inr (inr (inr (inr (is, breaks))))) = at_kind name (codes "SYMD") payload items is breaks

head_spells : (block : Block) (name payload own : List ℕ) → Spells block name payload → name_of block ≡ own → Spells block own payload
head_spells block name payload own spells is = record { spellable = spells.spellable; name_is = is; payload_is = spells.payload_is }

unbroken : (block : Block) (name payload : List ℕ) (items : ℕ) → Spells block name payload → Breaks (layout_of block) payload items → ⊥
unfolding payload_of
unbroken (Entry code method_size exception_size debug tail) name payload items spells breaks =
    breaks.1 (Entry code method_size exception_size debug tail) (head_spells _ name payload _ spells refl)
unbroken (PoolDef pool count size) name payload items spells breaks =
    breaks.1 (PoolDef pool count size) (head_spells _ name payload _ spells refl)
unbroken (Page pool index mask bytes) name payload items spells breaks =
    breaks.1 (Page pool index mask bytes) (head_spells _ name payload _ spells refl)
unbroken (Functions names) name payload items spells breaks =
    counted_unbroken name_text IsName names_told names payload items spells.spellable.0 spells.spellable.1 spells.payload_is breaks
unbroken (Metas metas) name payload items spells breaks =
    counted_unbroken meta_text IsMeta metas_told metas payload items spells.spellable.0 spells.spellable.1 spells.payload_is breaks
unbroken (Objects metaclass flags objects) name payload items spells breaks =
    objects_unbroken metaclass flags objects payload items spells.spellable spells.payload_is breaks
unbroken (Symbols symbols) name payload items spells breaks =
    counted_unbroken symbol_text IsSymbol symbols_told symbols payload items spells.spellable.0 spells.spellable.1 spells.payload_is breaks
unbroken (Opaque own bytes) name payload items spells breaks = breaks

pub not_both : (block : Block) (name payload : List ℕ) (items : ℕ) → Spells block name payload → IsMalformed name payload items → ⊥
not_both block name payload items spells malformed =
    unbroken block name payload items spells
    (subst (λ k. Breaks k payload items) (named block name spells.spellable spells.name_is) (as_kind name payload items malformed))

one_breaks : (kind : BlockKind) (payload : List ℕ) (m n : ℕ) → Breaks kind payload m → Breaks kind payload n → m ≡ n
one_breaks kinds.Entry payload m n a b = a.0 ∙ sym b.0
one_breaks kinds.Objects payload m n a b = one_objects payload m n a b
one_breaks kinds.PoolDef payload m n a b = a.0 ∙ sym b.0
one_breaks kinds.Page payload m n a b = a.0 ∙ sym b.0
one_breaks kinds.Metas payload m n a b = one_counted meta_text IsMeta metas_told payload m n a b
one_breaks kinds.Functions payload m n a b = one_counted name_text IsName names_told payload m n a b
one_breaks kinds.Symbols payload m n a b = one_counted symbol_text IsSymbol symbols_told payload m n a b
one_breaks _ payload m n a b = absurd a

pub one_count : (name payload : List ℕ) (m n : ℕ) → IsMalformed name payload m → IsMalformed name payload n → m ≡ n
one_count name payload m n a b = one_breaks (kind_of name) payload m n (as_kind name payload m a) (as_kind name payload n b)

-- ---- the end is no block

pub not_end : (block : Block) → IsSpellable block → name_of block ≡ end_name → ⊥
not_end (Opaque own bytes) is name = is.1.not_end name
not_end block is name = let other : kinds.Unknown ≡ layout_of block = named block end_name is name in absurd cc

pub end_not_malformed : (payload : List ℕ) (items : ℕ) → IsMalformed end_name payload items → ⊥
end_not_malformed payload items malformed = as_kind end_name payload items malformed

-- ---- one block

entry_same : (c m x : ℕ) (d t : List ℕ) (c' m' x' : ℕ) (d' t' : List ℕ) → IsSpellable (Entry c m x d t) → IsSpellable (Entry c' m' x' d' t')
    → payload_of (Entry c m x d t) ≡ payload_of (Entry c' m' x' d' t') → Entry c m x d t ≡ Entry c' m' x' d' t'
unfolding payload_of
entry_same c m x d t c' m' x' d' t' a b e =
    let code = number_split 4 c c' _ _ a.0 b.0 e in
    let method = number_split 2 m m' _ _ a.1 b.1 code.1 in
    let exception = number_split 2 x x' _ _ a.2 b.2 method.1 in
    let debug = numbers_split d d' t t' a.4 b.4 (a.3 ∙ sym b.3) exception.1 in
    λ i. Entry (code.0 i) (method.0 i) (exception.0 i) (debug.0 i) (debug.1 i)

pool_def_same : (p c s p' c' s' : ℕ) → IsSpellable (PoolDef p c s) → IsSpellable (PoolDef p' c' s')
    → payload_of (PoolDef p c s) ≡ payload_of (PoolDef p' c' s') → PoolDef p c s ≡ PoolDef p' c' s'
unfolding payload_of
pool_def_same p c s p' c' s' a b e =
    let pool = number_split 2 p p' _ _ a.0 b.0 e in
    let count = number_split 4 c c' _ _ a.1 b.1 pool.1 in
    let size = same_number 4 s s' a.2 b.2 count.1 in
    λ i. PoolDef (pool.0 i) (count.0 i) (size i)

page_same : (p x m : ℕ) (bytes : List ℕ) (p' x' m' : ℕ) (bytes' : List ℕ) → IsSpellable (Page p x m bytes)
    → IsSpellable (Page p' x' m' bytes') → payload_of (Page p x m bytes) ≡ payload_of (Page p' x' m' bytes')
    → Page p x m bytes ≡ Page p' x' m' bytes'
unfolding payload_of
page_same p x m bytes p' x' m' bytes' a b e =
    let pool = number_split 2 p p' _ _ a.0 b.0 e in
    let index = number_split 4 x x' _ _ a.1 b.1 pool.1 in
    let mask : m ≡ m' = cc in
    let under : masked_bytes m bytes ≡ masked_bytes m' bytes' = cc in
    let plain = masked_same m bytes bytes' (under ∙ ap (λ k. masked_bytes k bytes') (sym mask)) in
    λ i. Page (pool.0 i) (index.0 i) (mask i) (plain i)

counted_same : {Item : Type 0} (item_text : Item → List ℕ) (Fits : Item → Type 0) → Told item_text Fits → (xs ys : List Item)
    → length xs < 2 ^ 16 → length ys < 2 ^ 16 → AllByRecursion Fits xs → AllByRecursion Fits ys
    → little_endian 2 (length xs) ++ flat_map item_text xs ≡ little_endian 2 (length ys) ++ flat_map item_text ys → xs ≡ ys
counted_same item_text Fits told xs ys few_x few_y fit_x fit_y e =
    let count = number_split 2 (length xs) (length ys) _ _ few_x few_y e in
    (same_items item_text Fits told xs ys [] [] fit_x fit_y count.0 (ap (λ t. t ++ []) count.1)).0

objects_same : (m f : ℕ) (xs : List Static) (m' f' : ℕ) (ys : List Static) → IsSpellable (Objects m f xs) → IsSpellable (Objects m' f' ys)
    → payload_of (Objects m f xs) ≡ payload_of (Objects m' f' ys) → Objects m f xs ≡ Objects m' f' ys
unfolding payload_of
objects_same m f xs m' f' ys a b e =
    let head = objects_head_split (length xs) m f (length ys) m' f' _ _ a.2 a.0 a.1 b.2 b.0 b.1 e in
    let fit : AllByRecursion (IsStatic (size_width f)) ys = subst (λ k. AllByRecursion (IsStatic (size_width k)) ys) (sym head.2) b.3 in
    let body : flat_map (static_text (size_width f)) xs ≡ flat_map (static_text (size_width f)) ys =
    head.3 ∙ ap (λ k. flat_map (static_text (size_width k)) ys) (sym head.2) in
    let objects = (same_items (static_text (size_width f)) (IsStatic (size_width f))
    (statics_told (size_width f)) xs ys [] [] a.3 fit head.0 (ap (λ t. t ++ []) body)).0 in
    λ i. Objects (head.1 i) (head.2 i) (objects i)

payloads_same : (a b : Block) → IsSpellable a → IsSpellable b → layout_of a ≡ layout_of b → name_of a ≡ name_of b
    → payload_of a ≡ payload_of b → a ≡ b
unfolding payload_of
payloads_same (Entry c m x d t) (Entry c' m' x' d' t') fits_a fits_b same name e = entry_same c m x d t c' m' x' d' t' fits_a fits_b e
payloads_same (Objects m f objects) (Objects m' f' objects') fits_a fits_b same name e =
    objects_same m f objects m' f' objects' fits_a fits_b e
payloads_same (PoolDef p c s) (PoolDef p' c' s') fits_a fits_b same name e = pool_def_same p c s p' c' s' fits_a fits_b e
payloads_same (Page p x m bytes) (Page p' x' m' bytes') fits_a fits_b same name e = page_same p x m bytes p' x' m' bytes' fits_a fits_b e
payloads_same (Metas metas) (Metas metas') fits_a fits_b same name e =
    ap Metas (counted_same meta_text IsMeta metas_told metas metas' fits_a.0 fits_b.0 fits_a.1 fits_b.1 e)
payloads_same (Functions names) (Functions names') fits_a fits_b same name e =
    ap Functions (counted_same name_text IsName names_told names names' fits_a.0 fits_b.0 fits_a.1 fits_b.1 e)
payloads_same (Symbols symbols) (Symbols symbols') fits_a fits_b same name e =
    ap Symbols (counted_same symbol_text IsSymbol symbols_told symbols symbols' fits_a.0 fits_b.0 fits_a.1 fits_b.1 e)
payloads_same (Opaque own bytes) (Opaque own' bytes') fits_a fits_b same name e = λ i. Opaque (name i) (e i)
payloads_same a b fits_a fits_b same name e = absurd cc

pub same_block : (a b : Block) (name payload : List ℕ) → Spells a name payload → Spells b name payload → a ≡ b
same_block a b name payload spells_a spells_b =
    let kinds_are = sym (named a name spells_a.spellable spells_a.name_is) ∙ named b name spells_b.spellable spells_b.name_is in
    payloads_same a b spells_a.spellable spells_b.spellable kinds_are (spells_a.name_is ∙ sym spells_b.name_is)
    (spells_a.payload_is ∙ sym spells_b.payload_is)
