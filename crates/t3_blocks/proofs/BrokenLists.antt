-- A list breaks at one place, and not where it is whole.
use Rattle.std.proofs.Common.{◌≡◌, ℕ, ◌^◌, ◌<◌, List, [], ◌++◌, length, refl, sym, ap, subst, ◌∙◌, inl, inr, arith}
use Rattle.std.specs.List.{flat_map, AllByRecursion}
use Rattle.std.proofs.lemmas.Bool.{cases_lt}
use Rattle.std.proofs.lemmas.List.{length-append, append-nil}
use Rattle.t3_holder.specs.NumberText.{little_endian}
use Rattle.t3_holder.proofs.Numbers.{length-little_endian}
use Rattle.t3_blocks.specs.declared.block.Block.TheVariants.{Objects}
use Rattle.t3_blocks.specs.declared.items.Static.{Static}
use Rattle.t3_blocks.specs.Spelling.{IsSpellable, size_width, static_text, IsStatic, objects_head}
use Rattle.t3_blocks.specs.Malformed.{BreaksList, BreaksAfterHead, BreaksCounted, BreaksObjects}
use Rattle.t3_blocks.proofs.Lists.{split_same, number_split}
use Rattle.t3_blocks.proofs.ItemLists.{Told, after_items}
use Rattle.t3_blocks.proofs.ItemTexts.{statics_told, three}

-- a head that is whole isn't short
short_no_head : (head payload body : List ℕ) (long : ℕ) → length head ≡ long → payload ≡ head ++ body → length payload < long → ⊥
short_no_head head payload body long whole is short = absurd (omega (arith, ap length is, length-append head body))

module _ {Item : Type 0} (item_text : Item → List ℕ) (Fits : Item → Type 0) (told : Told item_text Fits) where
  -- a list that breaks is no list of as many as are due
  breaks_no_list : (due : ℕ) (bytes : List ℕ) (spelled : ℕ) (whole : List Item) → BreaksList item_text Fits due bytes spelled
      → AllByRecursion Fits whole → length whole ≡ due → bytes ≡ flat_map item_text whole → ⊥
  breaks_no_list due bytes spelled whole broken fit long is =
      let count = broken.count in
      let e : flat_map item_text broken.items ++ broken.rest ≡ flat_map item_text whole ++ [] =
      sym broken.is ∙ is ∙ sym (append-nil (flat_map item_text whole)) in
      elim broken.breaks [
        | inl due_one ↦
            let fewer = due_one.0 in
            elim (after_items item_text Fits told broken.items whole broken.rest [] broken.fit fit (omega arith) e) [
              | inl same ↦ absurd (omega (arith, ap length same.0))
              | inr more ↦ due_one.1 more.1
            ]
        | inr left ↦
            let all = left.0 in
            elim (after_items item_text Fits told broken.items whole broken.rest [] broken.fit fit (omega arith) e) [
              | inl same ↦ left.1 same.1
              | inr more ↦ absurd (omega (arith, more.0))
            ]
      ]

  fewer_breaks : (due : ℕ) (bytes : List ℕ) (m n : ℕ) → BreaksList item_text Fits due bytes m → BreaksList item_text Fits due bytes n
      → m < n → ⊥
  fewer_breaks due bytes m n a b less =
      let count_a = a.count in
      let count_b = b.count in
      elim (after_items item_text Fits told a.items b.items a.rest b.rest a.fit b.fit (omega arith) (sym a.is ∙ b.is)) [
        | inl same ↦ absurd (omega (arith, ap length same.0))
        | inr more ↦ elim a.breaks [
          | inl due_one ↦ due_one.1 more.1
          | inr left ↦ elim b.breaks [
            | inl due_b ↦ let all = left.0 in let few = due_b.0 in absurd (omega arith)
            | inr left_b ↦ let all = left.0 in let all_b = left_b.0 in absurd (omega arith)
          ]
        ]
      ]

  one_break : (due : ℕ) (bytes : List ℕ) (m n : ℕ) → BreaksList item_text Fits due bytes m → BreaksList item_text Fits due bytes n → m ≡ n
  one_break due bytes m n a b =
      elim (cases_lt m n) [
        | inl less ↦ absurd (fewer_breaks due bytes m n a b less)
        | inr not_less ↦ elim (cases_lt n m) [
          | inl more ↦ absurd (fewer_breaks due bytes n m b a more)
          | inr not_more ↦ omega arith
        ]
      ]

  -- one head, and one place after it at which its list breaks
  pub one_after : (head payload : List ℕ) (due m n : ℕ) → BreaksAfterHead item_text Fits head due payload m
      → BreaksAfterHead item_text Fits head due payload n → m ≡ n
  one_after head payload due m n a b =
      let same = split_same head head a.body b.body refl (sym a.is ∙ b.is) in
      one_break due a.body m n a.breaks (subst (λ r. BreaksList item_text Fits due r n) (sym same.1) b.breaks)

  -- a list that is whole after its head breaks nowhere
  pub unbroken_after : (head payload : List ℕ) (items : List Item) (due spelled : ℕ) → AllByRecursion Fits items → length items ≡ due
      → head ++ flat_map item_text items ≡ payload
      → BreaksAfterHead item_text Fits head due payload spelled → ⊥
  unbroken_after head payload items due spelled fit long is breaks =
      let same = split_same head head (flat_map item_text items) breaks.body refl (is ∙ breaks.is) in
      breaks_no_list due breaks.body spelled items breaks.breaks fit long (sym same.1)

  pub one_counted : (payload : List ℕ) (m n : ℕ) → BreaksCounted item_text Fits payload m → BreaksCounted item_text Fits payload n → m ≡ n
  one_counted payload m n (inl a) (inl b) = a.1 ∙ sym b.1
  one_counted payload m n (inl a) (inr (due, fits, breaks)) =
      absurd (short_no_head (little_endian 2 due) payload breaks.body 2 (length-little_endian 2 due) breaks.is a.0)
  one_counted payload m n (inr (due, fits, breaks)) (inl b) =
      absurd (short_no_head (little_endian 2 due) payload breaks.body 2 (length-little_endian 2 due) breaks.is b.0)
  one_counted payload m n (inr (due, fits, breaks)) (inr (due_b, fits_b, breaks_b)) =
      let same = number_split 2 due due_b breaks.body breaks_b.body fits fits_b (sym breaks.is ∙ breaks_b.is) in
      one_after (little_endian 2 due) payload due m n breaks
      (subst (λ d. BreaksAfterHead item_text Fits (little_endian 2 d) d payload n) (sym same.0) breaks_b)

  pub counted_unbroken : (items : List Item) (payload : List ℕ) (spelled : ℕ) → length items < 2 ^ 16 → AllByRecursion Fits items
      → little_endian 2 (length items) ++ flat_map item_text items ≡ payload → BreaksCounted item_text Fits payload spelled → ⊥
  counted_unbroken items payload spelled fits fit is (inl short) =
      absurd (short_no_head (little_endian 2 (length items)) payload (flat_map item_text items) 2 (length-little_endian 2 (length items))
      (sym is) short.0)
  counted_unbroken items payload spelled fits fit is (inr (due, fits_due, breaks)) =
      let same = number_split 2 (length items) due (flat_map item_text items) breaks.body fits fits_due (is ∙ breaks.is) in
      unbroken_after (little_endian 2 due) payload items due spelled fit same.0
      (ap (λ n. little_endian 2 n ++ flat_map item_text items) (sym same.0) ∙ is) breaks

-- ---- objects

length-objects_head : (due metaclass flags : ℕ) → length (objects_head due metaclass flags) ≡ 6
length-objects_head due metaclass flags =
    let numbers = little_endian 2 metaclass ++ little_endian 2 flags in
    omega (
      arith,
      length-append (little_endian 2 due) numbers,
      length-append (little_endian 2 metaclass) (little_endian 2 flags),
      length-little_endian 2 due,
      length-little_endian 2 metaclass,
      length-little_endian 2 flags,
    )

-- two heads of objects that begin the same bytes are one
pub objects_head_split : (due metaclass flags due_b metaclass_b flags_b : ℕ) (x y : List ℕ) → due < 2 ^ 16 → metaclass < 2 ^ 16
    → flags < 2 ^ 16 → due_b < 2 ^ 16 → metaclass_b < 2 ^ 16 → flags_b < 2 ^ 16
    → objects_head due metaclass flags ++ x ≡ objects_head due_b metaclass_b flags_b ++ y
    → (due ≡ due_b) × (metaclass ≡ metaclass_b) × (flags ≡ flags_b) × (x ≡ y)
objects_head_split due metaclass flags due_b metaclass_b flags_b x y f1 f2 f3 g1 g2 g3 e =
    let whole = sym (three (little_endian 2 due) (little_endian 2 metaclass) (little_endian 2 flags) x) ∙ e
    ∙ three (little_endian 2 due_b) (little_endian 2 metaclass_b) (little_endian 2 flags_b) y in
    let count = number_split 2 due due_b _ _ f1 g1 whole in
    let index = number_split 2 metaclass metaclass_b _ _ f2 g2 count.1 in
    let bits = number_split 2 flags flags_b x y f3 g3 index.1 in
    (count.0, index.0, bits.0, bits.1)

-- the list after this head, where the payload begins with another that is the same
module _ (due metaclass flags : ℕ) (body payload : List ℕ) (spelled : ℕ) (f1 : due < 2 ^ 16) (f2 : metaclass < 2 ^ 16) (f3 : flags < 2 ^ 16)
    (is : objects_head due metaclass flags ++ body ≡ payload) where
  at_head : BreaksObjects payload spelled → BreaksAfterHead (static_text (size_width flags)) (IsStatic (size_width flags))
      (objects_head due metaclass flags) due payload spelled
  at_head (inl short) =
      absurd (short_no_head (objects_head due metaclass flags) payload body 6 (length-objects_head due metaclass flags) (sym is) short.0)
  at_head (inr (due_b, metaclass_b, flags_b, g1, g2, g3, breaks)) =
      let same = objects_head_split due metaclass flags due_b metaclass_b flags_b body breaks.body f1 f2 f3 g1 g2 g3 (is ∙ breaks.is) in
      let at_flags = subst (λ f. BreaksAfterHead (static_text (size_width f)) (IsStatic (size_width f))
      (objects_head due_b metaclass_b f) due_b payload spelled) (sym same.2) breaks in
      let at_index = subst (λ k. BreaksAfterHead (static_text (size_width flags)) (IsStatic (size_width flags))
      (objects_head due_b k flags) due_b payload spelled) (sym same.1) at_flags in
      subst (λ d. BreaksAfterHead (static_text (size_width flags)) (IsStatic (size_width flags))
      (objects_head d metaclass flags) d payload spelled) (sym same.0) at_index

pub one_objects : (payload : List ℕ) (m n : ℕ) → BreaksObjects payload m → BreaksObjects payload n → m ≡ n
one_objects payload m n (inl a) (inl b) = a.1 ∙ sym b.1
one_objects payload m n (inl a) (inr (due, metaclass, flags, f1, f2, f3, breaks)) =
    absurd (short_no_head (objects_head due metaclass flags) payload breaks.body 6 (length-objects_head due metaclass flags) breaks.is a.0)
one_objects payload m n (inr (due, metaclass, flags, f1, f2, f3, breaks)) b =
    let width = size_width flags in
    one_after (static_text width) (IsStatic width) (statics_told width)
    (objects_head due metaclass flags) payload due m n breaks
    (at_head due metaclass flags breaks.body payload n f1 f2 f3 (sym breaks.is) b)

pub objects_unbroken : (metaclass flags : ℕ) (objects : List Static) (payload : List ℕ) (spelled : ℕ)
    → IsSpellable (Objects metaclass flags objects)
    → objects_head (length objects) metaclass flags ++ flat_map (static_text (size_width flags)) objects ≡ payload
    → BreaksObjects payload spelled → ⊥
objects_unbroken metaclass flags objects payload spelled fits is breaks =
    let width = size_width flags in
    let body = flat_map (static_text width) objects in
    unbroken_after (static_text width) (IsStatic width) (statics_told width)
    (objects_head (length objects) metaclass flags) payload objects (length objects) spelled fits.3 refl is
    (at_head (length objects) metaclass flags body payload spelled fits.2 fits.0 fits.1 is breaks)
