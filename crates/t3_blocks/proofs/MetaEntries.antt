-- A metaclass entry: its frame, what comes before its properties, and the properties.
use Rattle.std.proofs.Common.{◌≡◌, ℕ, ◌^◌, ◌<◌, List, ◌++◌, length, sym, ap, subst, ◌∙◌, None, Some}
use Rattle.std.specs.List.{flat_map, AllByRecursion}
use Rattle.t3_holder.specs.NumberText.{little_endian}
use Rattle.t3_blocks.specs.declared.items.Meta.{Meta}
use Rattle.t3_blocks.specs.declared.items.PropEntry.{PropEntry}
use Rattle.t3_blocks.specs.Spelling.{name_text, prop_text, IsProp, frame_text, IsFrame, meta_body, meta_text, IsMetaBody, IsMeta}
use Rattle.t3_blocks.specs.Malformed.{BeginsWithItem}
use Rattle.t3_blocks.specs.Inner.Metas.{MetaHead, meta_head_text, IsMetaHead, IsMetaOrNone}
use Rattle.t3_blocks.specs.Inner.Lists.{HasTaken, OneFails}
use Rattle.t3_blocks.proofs.Lists.{number_split, name_split}
use Rattle.t3_blocks.proofs.ItemLists.{Told, none_begin}
use Rattle.t3_blocks.proofs.ItemTexts.{three, frames_told, props_told}

abbrev pub head_of : Meta → MetaHead
head_of meta = record { name = meta.name; count = length meta.props; size = meta.property_size }

pub heads_told : Told meta_head_text IsMetaHead
heads_told a b x y fit_a fit_b e =
    let name = name_split a.name b.name _ _
    (sym (three (name_text a.name) (little_endian 2 a.count) (little_endian 2 a.size) x) ∙ e
    ∙ three (name_text b.name) (little_endian 2 b.count) (little_endian 2 b.size) y) in
    let count = number_split 2 a.count b.count _ _ fit_a.count fit_b.count name.1 in
    let size = number_split 2 a.size b.size x y fit_a.size fit_b.size count.1 in
    ((λ i. record { name = name.0 i; count = count.0 i; size = size.0 i }), size.1)

IsMetaHead-head_of : (meta : Meta) → IsMetaBody meta → IsMetaHead (head_of meta)
IsMetaHead-head_of meta fits = record { name = fits.name; count = fits.count; size = fits.size }

-- what comes before the properties, and the properties and the tail
pub meta_body-parts : (meta : Meta) → meta_head_text (head_of meta) ++ (flat_map prop_text meta.props ++ meta.tail) ≡ meta_body meta
meta_body-parts meta = three (name_text meta.name) (little_endian 2 (length meta.props)) (little_endian 2 meta.property_size)
    (flat_map prop_text meta.props ++ meta.tail)

-- ---- where an entry is none

pub no_meta_head : (body : List ℕ) → ¬ BeginsWithItem meta_head_text IsMetaHead body → IsMetaOrNone body None
no_meta_head body none meta fits is =
    none (record {
      item = head_of meta;
      trailing = flat_map prop_text meta.props ++ meta.tail;
      fits = IsMetaHead-head_of meta fits;
      is = is
          ∙ sym (meta_body-parts meta);
    })

pub no_meta_props : (body first : List ℕ) (head : MetaHead) (count : ℕ) → IsMetaHead head → body ≡ meta_head_text head ++ first
    → OneFails prop_text (IsProp head.size) head.count first count
    → IsMetaOrNone body None
no_meta_props body first head so_many fits_head is_head fails meta fits is =
    let same = heads_told head (head_of meta) first (flat_map prop_text meta.props ++ meta.tail) fits_head (IsMetaHead-head_of meta fits)
    (sym is_head ∙ is ∙ sym (meta_body-parts meta)) in
    let size : head.size ≡ meta.property_size = ap (λ (h : MetaHead). h.size) same.0 in
    let count : head.count ≡ length meta.props = ap (λ (h : MetaHead). h.count) same.0 in
    let fit : AllByRecursion (IsProp head.size) meta.props = subst (λ n. AllByRecursion (IsProp n) meta.props) (sym size) fits.props in
    none_begin prop_text (IsProp head.size) (props_told head.size) head.count so_many first meta.tail meta.props fails fit
    (sym count) same.1

-- ---- where it is one

pub is_meta : (body first tail : List ℕ) (head : MetaHead) (items : List PropEntry) → IsMetaHead head → body ≡ meta_head_text head ++ first
    → HasTaken prop_text (IsProp head.size) head.count first items tail → length items ≡ head.count
    → IsMetaOrNone body (Some (record { name = head.name; property_size = head.size; props = items; tail = tail }))
is_meta body first tail head items fits is_head taken long =
    let meta : Meta = record { name = head.name; property_size = head.size; props = items; tail = tail } in (
      record { name = fits.name; count = subst (λ n. n < 2 ^ 16) (sym long) fits.count; size = fits.size; props = taken.fit },
      is_head ∙ ap (λ r. meta_head_text head ++ r) taken.is
          ∙ three (name_text head.name) (little_endian 2 head.count) (little_endian 2 head.size) (flat_map prop_text items ++ tail)
          ∙ ap (λ n. name_text head.name ++ (little_endian 2 n ++ (little_endian 2 head.size ++ (flat_map prop_text items ++ tail))))
          (sym long),
    )

-- ---- entries in a list of them

pub no_meta_frame : (bytes : List ℕ) → ¬ BeginsWithItem frame_text IsFrame bytes → ¬ BeginsWithItem meta_text IsMeta bytes
no_meta_frame bytes none begins =
    none (record { item = meta_body begins.item; trailing = begins.trailing; fits = begins.fits.0; is = begins.is })

pub no_meta_body : (bytes body trailing : List ℕ) → IsFrame body → bytes ≡ frame_text body ++ trailing → IsMetaOrNone body None
    → ¬ BeginsWithItem meta_text IsMeta bytes
no_meta_body bytes body trailing fits is none begins =
    none begins.item begins.fits.1
    (frames_told body (meta_body begins.item) trailing begins.trailing fits begins.fits.0 (sym is ∙ begins.is)).0

pub begins_meta : (bytes body trailing : List ℕ) (meta : Meta) → IsFrame body → bytes ≡ frame_text body ++ trailing
    → IsMetaOrNone body (Some meta) → IsMeta meta × (bytes ≡ meta_text meta ++ trailing)
begins_meta bytes body trailing meta fits is found =
    ((subst IsFrame found.1 fits, found.0), is ∙ ap (λ b. frame_text b ++ trailing) found.1)
