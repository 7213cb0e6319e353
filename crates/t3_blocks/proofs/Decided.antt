-- Every payload of bytes spells a block under its name, or is malformed. Other crates may use what stands here.
use Rattle.std.proofs.Common.{◌≡◌, ◌≢◌, ℕ, zero, suc, ◌<◌, false, List, [], ◌∷◌, length, drop, get_or, refl, sym, subst, ◌⊎◌, inl, inr, arith}
use Rattle.std.specs.Prelude.{codes}
use Rattle.std.proofs.lemmas.Bool.{cases_lt, cases_eq}
use Rattle.t3_holder.specs.NumberText.{AreBytes}
use Rattle.t3_blocks.specs.BlockName.{end_name, layout_names, is_among}
use Rattle.t3_blocks.specs.declared.block.Block.{Block}
use Rattle.t3_blocks.specs.declared.block.Block.TheVariants.{Entry, Objects, PoolDef, Page, Metas, Functions, Symbols, Opaque}
use Rattle.t3_blocks.specs.Spelling.{Spells, payload_of, masked_bytes, name_text, IsName, meta_text, IsMeta, size_width, static_text, IsStatic, symbol_text, IsSymbol}
use Rattle.t3_blocks.specs.Malformed.{IsMalformed, BreaksCounted}
use Rattle.t3_blocks.proofs.BlockNames.{differs}
use Rattle.t3_blocks.proofs.Lists.{same_or_not, says, has_number, AreBytes-drop}
use Rattle.t3_blocks.proofs.ItemLists.{IsTried, list_or_breaks}
use Rattle.t3_blocks.proofs.Layouts.{spells_entry, spells_pool_def, spells_page, entry_short, pool_def_other, page_short}
use Rattle.t3_blocks.specs.Inner.Lists.{IsCounted}
use Rattle.t3_blocks.proofs.Counted.{counted_is, counted_breaks, spells_functions, spells_metas, spells_symbols, has_head, objects_breaks, spells_objects}
use Rattle.t3_blocks.proofs.Tried.{name_tried, meta_tried, static_tried, symbol_tried}

-- what bytes under a name are
abbrev pub IsDecided : List ℕ → List ℕ → Type 0
IsDecided name payload = ((block : Block) × Spells block name payload) ⊎ ((items : ℕ) × IsMalformed name payload items)

decided_entry : (payload : List ℕ) → AreBytes payload → IsDecided (codes "ENTP") payload
decided_entry payload bytes =
    elim (cases_lt (length payload) 16) [
      | inl short ↦ inr (0, entry_short payload short)
      | inr long ↦
          let code = says 4 0 payload bytes (omega arith) in
          let method = says 2 4 payload bytes (omega arith) in
          let exception = says 2 6 payload bytes (omega arith) in
          let a = says 2 8 payload bytes (omega arith) in
          let b = says 2 10 payload bytes (omega arith) in
          let c = says 2 12 payload bytes (omega arith) in
          let d = says 2 14 payload bytes (omega arith) in
          inl (
            Entry code.0 method.0 exception.0 (a.0 ∷ b.0 ∷ c.0 ∷ d.0 ∷ []) (drop 16 payload),
            spells_entry payload code.0 method.0 exception.0 a.0 b.0 c.0 d.0
                (drop 16 payload) code.1 method.1 exception.1 a.1 b.1 c.1 d.1 code.2 method.2 exception.2 a.2 b.2 c.2 d.2 refl,
          )
    ]

decided_pool_def : (payload : List ℕ) → AreBytes payload → IsDecided (codes "CPDF") payload
decided_pool_def payload bytes =
    elim (cases_eq (length payload) 10) [
      | inr other ↦ inr (0, pool_def_other payload other)
      | inl long ↦
          let pool = says 2 0 payload bytes (omega arith) in
          let count = says 4 2 payload bytes (omega arith) in
          let size = says 4 6 payload bytes (omega arith) in
          inl (
            PoolDef pool.0 count.0 size.0,
            spells_pool_def payload pool.0 count.0 size.0 pool.1 count.1 size.1 long pool.2 count.2 size.2,
          )
    ]

byte_at : (xs : List ℕ) (i : ℕ) → AreBytes xs → get_or xs i 0 < 256
byte_at [] i bytes = omega arith
byte_at (x ∷ xs) zero bytes = bytes.0
byte_at (x ∷ xs) (suc i) bytes = byte_at xs i bytes.1

decided_page : (payload : List ℕ) → AreBytes payload → IsDecided (codes "CPPG") payload
decided_page payload bytes =
    elim (cases_lt (length payload) 7) [
      | inl short ↦ inr (0, page_short payload short)
      | inr long ↦
          let pool = says 2 0 payload bytes (omega arith) in
          let index = says 4 2 payload bytes (omega arith) in
          let mask = get_or payload 6 0 in
          inl (
            Page pool.0 index.0 mask (masked_bytes mask (drop 7 payload)),
            spells_page payload pool.0 index.0 mask (masked_bytes mask (drop 7 payload)) pool.1 index.1
                (byte_at payload 6 bytes) long pool.2 index.2 refl refl,
          )
    ]

-- a counted payload is whole or breaks
counted : {Item : Type 0} (item_text : Item → List ℕ) (Fits : Item → Type 0) → IsTried item_text Fits → (payload : List ℕ)
    → AreBytes payload → ((items : List Item) × IsCounted item_text Fits payload items)
    ⊎ ((spelled : ℕ) × BreaksCounted item_text Fits payload spelled)
counted item_text Fits tried payload bytes =
    elim (cases_lt (length payload) 2) [
      | inl short ↦ inr (0, inl (short, refl))
      | inr long ↦
          let due = says 2 0 payload bytes (omega arith) in
          let list = drop 2 payload in
          let is = has_number 2 due.0 payload due.2 in
          elim (list_or_breaks item_text Fits tried due.0 list (AreBytes-drop 2 payload bytes)) [
            | inl (items, whole) ↦ inl (items, counted_is item_text Fits payload list due.0 items due.1 is whole)
            | inr (spelled, breaks) ↦ inr (spelled, counted_breaks item_text Fits payload list due.0 spelled due.1 is breaks)
          ]
    ]

decided_functions : (payload : List ℕ) → AreBytes payload → IsDecided (codes "FNSD") payload
decided_functions payload bytes =
    elim (counted name_text IsName name_tried payload bytes) [
      | inl (names, whole) ↦ inl (Functions names, spells_functions payload names whole)
      | inr (spelled, breaks) ↦ inr (spelled, (inr (inl (refl, breaks))))
    ]

decided_metas : (payload : List ℕ) → AreBytes payload → IsDecided (codes "MCLD") payload
decided_metas payload bytes =
    elim (counted meta_text IsMeta meta_tried payload bytes) [
      | inl (metas, whole) ↦ inl (Metas metas, spells_metas payload metas whole)
      | inr (spelled, breaks) ↦ inr (spelled, (inr (inr (inl (refl, breaks)))))
    ]

decided_symbols : (payload : List ℕ) → AreBytes payload → IsDecided (codes "SYMD") payload
decided_symbols payload bytes =
    elim (counted symbol_text IsSymbol symbol_tried payload bytes) [
      | inl (symbols, whole) ↦ inl (Symbols symbols, spells_symbols payload symbols whole)
      | inr (spelled, breaks) ↦ inr (spelled, (inr (inr (inr (inr (refl, breaks))))))
    ]

decided_objects : (payload : List ℕ) → AreBytes payload → IsDecided (codes "OBJS") payload
decided_objects payload bytes =
    elim (cases_lt (length payload) 6) [
      | inl short ↦ inr (0, (inr (inr (inr (inl (refl, inl (short, refl)))))))
      | inr long ↦
          let due = says 2 0 payload bytes (omega arith) in
          let metaclass = says 2 2 payload bytes (omega arith) in
          let flags = says 2 4 payload bytes (omega arith) in
          let head = has_head payload due.0 metaclass.0 flags.0 due.1 metaclass.1 flags.1 due.2 metaclass.2 flags.2 in
          let width = size_width flags.0 in
          elim (list_or_breaks (static_text width) (IsStatic width) (static_tried width) due.0 (drop 6 payload)
          (AreBytes-drop 6 payload bytes)) [
            | inl (objects, whole) ↦ inl
                (Objects metaclass.0 flags.0 objects, spells_objects payload due.0 metaclass.0 flags.0 objects head whole)
            | inr (spelled, breaks) ↦ inr
                (spelled, (inr (inr (inr (inl (refl, objects_breaks payload due.0 metaclass.0 flags.0 spelled head breaks))))))
          ]
    ]

decided_opaque : (name payload : List ℕ) → length name ≡ 4 → name ≢ end_name → is_among name layout_names ≡ false → IsDecided name payload
unfolding payload_of
decided_opaque name payload four other plain = inl
    (Opaque name payload, record { spellable = (four, record { not_end = other; no_layout = plain }); name_is = refl; payload_is = refl })

-- the name is that of no kind where it is none of theirs
plain_name : (name : List ℕ) → name ≢ codes "ENTP" → name ≢ codes "CPDF" → name ≢ codes "CPPG" → name ≢ codes "FNSD" → name ≢ codes "MCLD"
    → name ≢ codes "OBJS" → name ≢ codes "SYMD" → is_among name layout_names ≡ false
plain_name name entry pool page functions metas objects symbols =
    rw (
      differs (codes "ENTP") name entry,
      differs (codes "OBJS") name objects,
      differs (codes "CPDF") name pool,
      differs (codes "CPPG") name page,
      differs (codes "MCLD") name metas,
      differs (codes "FNSD") name functions,
      differs (codes "SYMD") name symbols,
    ) refl

-- under a name, or under another
at_name : (name known payload : List ℕ) → IsDecided known payload → (name ≢ known → IsDecided name payload) → IsDecided name payload
at_name name known payload here other =
    elim (same_or_not name known) [
      | inl is ↦ subst (λ n. IsDecided n payload) (sym is) here
      | inr not ↦ other not
    ]

pub decided : (name payload : List ℕ) → length name ≡ 4 → name ≢ end_name → AreBytes payload → IsDecided name payload
decided name payload four other bytes =
    at_name name (codes "ENTP") payload (decided_entry payload bytes) (λ not_entry.
    at_name name (codes "CPDF") payload (decided_pool_def payload bytes) (λ not_pool.
    at_name name (codes "CPPG") payload (decided_page payload bytes) (λ not_page.
    at_name name (codes "FNSD") payload (decided_functions payload bytes) (λ not_functions.
    at_name name (codes "MCLD") payload (decided_metas payload bytes) (λ not_metas.
    at_name name (codes "OBJS") payload (decided_objects payload bytes) (λ not_objects.
    at_name name (codes "SYMD") payload (decided_symbols payload bytes) (λ not_symbols.
    decided_opaque name payload four other
    (plain_name name not_entry not_pool not_page not_functions not_metas not_objects not_symbols))))))))
