-- Of each kind of items, one begins given bytes or none does.
use Rattle.std.proofs.Common.{◌≡◌, ℕ, ◌+◌, ◌-◌, ◌^◌, ◌<◌, List, [], ◌∷◌, ◌++◌, length, take, drop, refl, sym, ap, subst, ◌∙◌, ◌⊎◌, inl, inr, None, Some, append_assoc, arith}
use Rattle.std.proofs.lemmas.Bool.{cases_lt}
use Rattle.std.proofs.lemmas.List.{length-append, length-take, length-drop, take-append-drop}
use Rattle.t3_holder.specs.NumberText.{little_endian, AreBytes}
use Rattle.t3_holder.specs.HolderText.{raw_text}
use Rattle.t3_holder.proofs.Holders.{some_raw}
use Rattle.t3_blocks.specs.declared.items.Meta.{Meta}
use Rattle.t3_blocks.specs.Spelling.{name_text, IsName, prop_text, IsProp, frame_text, IsFrame, meta_text, IsMeta, static_text, IsStatic, symbol_text, IsSymbol}
use Rattle.t3_blocks.specs.Inner.Metas.{MetaHead, meta_head_text, IsMetaHead, IsMetaOrNone}
use Rattle.t3_blocks.proofs.Lists.{says, has_number, AreBytes-take, AreBytes-drop, AreBytes-after, AreBytes-before}
use Rattle.t3_blocks.proofs.ItemLists.{IsTried, tried_items}
use Rattle.t3_blocks.proofs.ItemTexts.{three}
use Rattle.t3_blocks.proofs.MetaEntries.{no_meta_head, no_meta_props, is_meta, no_meta_frame, no_meta_body, begins_meta}
use Rattle.t3_blocks.proofs.Splits.{no_frame_size, no_frame, no_frame_body, is_frame, no_raw, no_symbol_name, no_static_number, no_static_size, no_static_bytes, no_prop_number, no_prop, no_prop_extra, no_meta_name, no_meta_count, no_meta_size}

-- a name begins the bytes, or none
pub name_tried : IsTried name_text IsName
name_tried [] are = inr (λ begins. absurd (omega (arith, ap length begins.is)))
name_tried (long ∷ rest) are =
    elim (cases_lt (length rest) long) [
      | inl short ↦ inr (λ begins.
          let first : long ≡ length begins.item = cc in
          let trailing : rest ≡ begins.item ++ begins.trailing = cc in
          absurd (omega (arith, first, ap length trailing, length-append begins.item begins.trailing)))
      | inr whole ↦
          let name = take long rest in
          let size : length name ≡ long = omega (arith, length-take long rest) in
          inl (record {
            item = name;
            trailing = drop long rest;
            fits = omega (arith, are.0);
            is =
                λ i. sym size i ∷ sym (take-append-drop long rest) i;
          })
    ]

pub frame_tried : IsTried frame_text IsFrame
frame_tried bytes are =
    elim (cases_lt (length bytes) 2) [
      | inl short ↦ inr (no_frame_size bytes short)
      | inr long ↦
          let size = says 2 0 bytes are (omega arith) in
          let rest = drop 2 bytes in
          let is = has_number 2 size.0 bytes size.2 in
          elim (cases_lt size.0 2) [
            | inl small ↦ inr (no_frame bytes rest size.0 size.1 is small)
            | inr least ↦ elim (cases_lt (length rest) (size.0 - 2)) [
              | inl short ↦ inr (no_frame_body bytes rest size.0 size.1 is short)
              | inr whole ↦
                  let body = take (size.0 - 2) rest in
                  let trailing = drop (size.0 - 2) rest in
                  let found = is_frame bytes rest body trailing size.0 size.1 is least
                  (whole, refl, refl, omega (arith, length-take (size.0 - 2) rest), omega (arith, length-drop (size.0 - 2) rest)) in
                  inl (record { item = body; trailing = trailing; fits = found.0; is = found.1 })
            ]
          ]
    ]

pub prop_tried : (size : ℕ) → IsTried prop_text (IsProp size)
prop_tried size bytes are =
    elim (cases_lt (length bytes) 2) [
      | inl short ↦ inr (no_prop_number size bytes short)
      | inr long ↦
          let number = says 2 0 bytes are (omega arith) in
          let rest = drop 2 bytes in
          let is = has_number 2 number.0 bytes number.2 in
          elim (cases_lt size 2) [
            | inl small ↦ inr (no_prop size bytes small)
            | inr least ↦ elim (cases_lt (length rest) (size - 2)) [
              | inl short ↦ inr (no_prop_extra size bytes rest number.0 number.1 is short)
              | inr whole ↦
                  let extra = take (size - 2) rest in
                  let trailing = drop (size - 2) rest in
                  inl (record {
                    item = record { number = number.0; extra = extra };
                    trailing = trailing;
                    fits = (number.1, omega (arith, length-take (size - 2) rest));
                    is = is ∙ ap (λ r. little_endian 2 number.0 ++ r) (sym (take-append-drop (size - 2) rest))
                        ∙ sym (append_assoc (little_endian 2 number.0) extra trailing);
                  })
            ]
          ]
    ]

-- the properties trailing their count and size are there, or the entry is none
with_props : (body first : List ℕ) (head : MetaHead) → IsMetaHead head → AreBytes first → body ≡ meta_head_text head ++ first
    → ((meta : Meta) × IsMetaOrNone body (Some meta)) ⊎ IsMetaOrNone body None
with_props body first head fits are is =
    elim (tried_items prop_text (IsProp head.size) (prop_tried head.size) head.count first are) [
      | inl all ↦ inl (
        record { name = head.name; property_size = head.size; props = all.items; tail = all.rest },
        is_meta body first all.rest head all.items fits is all.taken all.long,
      )
      | inr fails ↦ inr (no_meta_props body first head fails.0 fits is fails.1)
    ]

-- the bytes trailing an entry size are a metaclass, or none
meta_or_none : (body : List ℕ) → AreBytes body → ((meta : Meta) × IsMetaOrNone body (Some meta)) ⊎ IsMetaOrNone body None
meta_or_none body are =
    elim (name_tried body are) [
      | inr none ↦ inr (no_meta_head body (no_meta_name body none))
      | inl name ↦
          let rest = name.trailing in
          let rest_are = AreBytes-after (name_text name.item) rest (subst AreBytes name.is are) in
          elim (cases_lt (length rest) 2) [
            | inl short ↦ inr (no_meta_head body (no_meta_count body rest name.item name.fits name.is short))
            | inr long ↦
                let count = says 2 0 rest rest_are (omega arith) in
                let is_count = has_number 2 count.0 rest count.2 in
                let sizes = drop 2 rest in
                elim (cases_lt (length sizes) 2) [
                  | inl short ↦ inr (no_meta_head body
                      (no_meta_size body rest sizes name.item count.0 name.fits name.is count.1 is_count short))
                  | inr long ↦
                      let sizes_are = AreBytes-drop 2 rest rest_are in
                      let size = says 2 0 sizes sizes_are (omega arith) in
                      let is_size = has_number 2 size.0 sizes size.2 in
                      let head : MetaHead = record { name = name.item; count = count.0; size = size.0 } in
                      let is = name.is ∙ ap (λ r. name_text name.item ++ r) (is_count ∙ ap (λ r. little_endian 2 count.0 ++ r) is_size)
                      ∙ sym (three (name_text name.item) (little_endian 2 count.0) (little_endian 2 size.0) (drop 2 sizes)) in
                      with_props body (drop 2 sizes) head (record { name = name.fits; count = count.1; size = size.1 })
                      (AreBytes-drop 2 sizes sizes_are) is
                ]
          ]
    ]

pub meta_tried : IsTried meta_text IsMeta
meta_tried bytes are =
    elim (frame_tried bytes are) [
      | inr none ↦ inr (no_meta_frame bytes none)
      | inl frame ↦
          let body = frame.item in
          let body_are = AreBytes-after (little_endian 2 (2 + length body)) body
          (AreBytes-before (frame_text body) frame.trailing (subst AreBytes frame.is are)) in
          elim (meta_or_none body body_are) [
            | inl (meta, found) ↦ let begins = begins_meta bytes body frame.trailing meta frame.fits frame.is found in inl
                (record { item = meta; trailing = frame.trailing; fits = begins.0; is = begins.1 })
            | inr none ↦ inr (no_meta_body bytes body frame.trailing frame.fits frame.is none)
          ]
    ]

pub static_tried : (width : ℕ) → IsTried (static_text width) (IsStatic width)
static_tried width bytes are =
    elim (cases_lt (length bytes) 4) [
      | inl short ↦ inr (no_static_number width bytes short)
      | inr long ↦
          let number = says 4 0 bytes are (omega arith) in
          let rest = drop 4 bytes in
          let rest_are = AreBytes-drop 4 bytes are in
          let is = has_number 4 number.0 bytes number.2 in
          elim (cases_lt (length rest) width) [
            | inl short ↦ inr (no_static_size width bytes rest number.0 number.1 is short)
            | inr long ↦
                let size = says width 0 rest rest_are (omega arith) in
                let trailing = drop width rest in
                let is_size = has_number width size.0 rest size.2 in
                elim (cases_lt (length trailing) size.0) [
                  | inl short ↦ inr (no_static_bytes width bytes rest trailing number.0 size.0 number.1 is size.1 is_size short)
                  | inr whole ↦
                      let own = take size.0 trailing in
                      let after = drop size.0 trailing in
                      let long : size.0 ≡ length own = omega (arith, length-take size.0 trailing) in
                      let parts = is_size ∙ (λ i. little_endian width (long i) ++ sym (take-append-drop size.0 trailing) i) in
                      inl (record {
                        item = record { number = number.0; bytes = own };
                        trailing = after;
                        fits = (number.1, subst (λ n. n < 256 ^ width) long size.1);
                        is = is ∙ ap (λ r. little_endian 4 number.0 ++ r) parts
                            ∙ sym (three (little_endian 4 number.0) (little_endian width (length own)) own after);
                      })
                ]
          ]
    ]

pub symbol_tried : IsTried symbol_text IsSymbol
symbol_tried bytes are =
    elim (cases_lt (length bytes) 5) [
      | inl short ↦ inr (no_raw bytes short)
      | inr long ↦
          let raw = some_raw (take 5 bytes) (omega (arith, length-take 5 bytes)) (AreBytes-take 5 bytes are) in
          let rest = drop 5 bytes in
          let is : bytes ≡ raw_text raw.0 ++ rest = sym (take-append-drop 5 bytes) ∙ ap (λ t. t ++ rest) (sym raw.2) in
          elim (name_tried rest (AreBytes-drop 5 bytes are)) [
            | inr none ↦ inr (no_symbol_name bytes rest raw.0 raw.1 is none)
            | inl name ↦ inl (record {
              item = record { raw = raw.0; name = name.item };
              trailing = name.trailing;
              fits = (raw.1, name.fits);
              is = is ∙ ap (λ r. raw_text raw.0 ++ r) name.is ∙ sym (append_assoc (raw_text raw.0) (name_text name.item) name.trailing);
            })
          ]
    ]
