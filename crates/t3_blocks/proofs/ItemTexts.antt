-- The items of counted payloads are told from their bytes.
use Rattle.std.proofs.Common.{◌≡◌, ℕ, ◌+◌, List, ◌++◌, length, sym, ap, subst, ◌∙◌, append_assoc, arith}
use Rattle.std.specs.List.{AllByRecursion}
use Rattle.t3_holder.specs.NumberText.{little_endian}
use Rattle.t3_holder.specs.HolderText.{raw_text, IsRaw}
use Rattle.t3_blocks.specs.declared.items.Meta.{Meta}
use Rattle.t3_blocks.specs.Spelling.{name_text, IsName, prop_text, IsProp, frame_text, IsFrame, meta_body, meta_text, IsMetaBody, IsMeta, static_text, IsStatic, symbol_text, IsSymbol}
use Rattle.t3_blocks.proofs.Lists.{split_same, number_split, name_split}
use Rattle.t3_blocks.proofs.ItemLists.{Told, same_items}

-- parts of a text and what follows it
pub three : (a b c x : List ℕ) → (a ++ (b ++ c)) ++ x ≡ a ++ (b ++ (c ++ x))
three a b c x = append_assoc a (b ++ c) x ∙ ap (λ r. a ++ r) (append_assoc b c x)

pub names_told : Told name_text IsName
names_told a b x y fit_a fit_b e = name_split a b x y e

pub props_told : (size : ℕ) → Told prop_text (IsProp size)
props_told size a b x y fit_a fit_b e =
    let number = number_split 2 a.number b.number (a.extra ++ x)
    (b.extra ++ y) fit_a.0 fit_b.0
    (sym (append_assoc (little_endian 2 a.number) a.extra x) ∙ e ∙ append_assoc (little_endian 2 b.number) b.extra y) in
    let extra = split_same a.extra b.extra x y (omega (arith, fit_a.1, fit_b.1)) number.1 in
    ((λ i. record { number = number.0 i; extra = extra.0 i }), extra.1)

pub frames_told : Told frame_text IsFrame
frames_told a b x y fit_a fit_b e =
    let size = number_split 2 (2 + length a) (2 + length b) (a ++ x)
    (b ++ y) fit_a fit_b (sym (append_assoc (little_endian 2 (2 + length a)) a x) ∙ e
    ∙ append_assoc (little_endian 2 (2 + length b)) b y) in
    split_same a b x y (omega (arith, size.0)) size.1

pub statics_told : (width : ℕ) → Told (static_text width) (IsStatic width)
statics_told width a b x y fit_a fit_b e =
    let number = number_split 4 a.number b.number _ _ fit_a.0 fit_b.0
    (sym (three (little_endian 4 a.number) (little_endian width (length a.bytes)) a.bytes x) ∙ e
    ∙ three (little_endian 4 b.number) (little_endian width (length b.bytes)) b.bytes y) in
    let size = number_split width (length a.bytes) (length b.bytes) _ _ fit_a.1 fit_b.1 number.1 in
    let bytes = split_same a.bytes b.bytes x y size.0 size.1 in
    ((λ i. record { number = number.0 i; bytes = bytes.0 i }), bytes.1)

pub raws_told : Told raw_text IsRaw
unfolding raw_text
raws_told a b x y fit_a fit_b e =
    let tag : a.tag ≡ b.tag = cc in
    let after : little_endian 4 a.bits ++ x ≡ little_endian 4 b.bits ++ y = cc in
    let bits = number_split 4 a.bits b.bits x y fit_a.bits fit_b.bits after in
    ((λ i. record { tag = tag i; bits = bits.0 i }), bits.1)

pub symbols_told : Told symbol_text IsSymbol
symbols_told a b x y fit_a fit_b e =
    let raw = raws_told a.raw b.raw _ _ fit_a.0 fit_b.0
    (sym (append_assoc (raw_text a.raw) (name_text a.name) x) ∙ e ∙ append_assoc (raw_text b.raw) (name_text b.name) y) in
    let name = name_split a.name b.name x y raw.1 in
    ((λ i. record { raw = raw.0 i; name = name.0 i }), name.1)

-- a metaclass is told from the body of its entry
pub bodies_told : (a b : Meta) → IsMetaBody a → IsMetaBody b → meta_body a ≡ meta_body b → a ≡ b
bodies_told a b fit_a fit_b e =
    let name = name_split a.name b.name _ _ e in
    let count = number_split 2 (length a.props) (length b.props) _ _ fit_a.count fit_b.count name.1 in
    let size = number_split 2 a.property_size b.property_size _ _ fit_a.size fit_b.size count.1 in
    let fit : AllByRecursion (IsProp a.property_size) b.props = subst (λ n. AllByRecursion (IsProp n) b.props) (sym size.0) fit_b.props in
    let props = same_items prop_text (IsProp a.property_size)
    (props_told a.property_size) a.props b.props a.tail b.tail fit_a.props fit count.0 size.1 in
    λ i. record { name = name.0 i; property_size = size.0 i; props = props.0 i; tail = props.1 i }

pub metas_told : Told meta_text IsMeta
metas_told a b x y fit_a fit_b e =
    let body = frames_told (meta_body a) (meta_body b) x y fit_a.0 fit_b.0 e in
    (bodies_told a b fit_a.1 fit_b.1 body.0, body.1)
