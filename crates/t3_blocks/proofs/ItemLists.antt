-- A list of items, taken one after the other.
use Rattle.std.proofs.Common.{◌≡◌, ◌≢◌, ℕ, zero, suc, ◌+◌, ◌<◌, ◌≤◌, List, [], ◌∷◌, ◌++◌, length, refl, sym, ap, subst, ◌∙◌, ◌⊎◌, inl, inr, append_assoc, arith}
use Rattle.std.specs.Prelude.{true, false, ◌==◌}
use Rattle.std.specs.List.{flat_map, AllByRecursion}
use Rattle.std.proofs.lemmas.Bool.{eqb-true}
use Rattle.std.proofs.lemmas.List.{length-append, append-nil, flat_map_more}
use Rattle.t3_holder.specs.NumberText.{AreBytes}
use Rattle.t3_blocks.specs.Malformed.{BeginsWithItem, BreaksList}
use Rattle.t3_blocks.specs.Inner.Lists.{HasTaken, OneFails, IsList}
use Rattle.t3_blocks.proofs.Lists.{same_or_not, AllByRecursion-push, AreBytes-after}

-- what a test for no byte says
pub is_empty : (rest : List ℕ) → true ≡ (length rest == 0) → rest ≡ []
is_empty [] test = refl
is_empty (byte ∷ rest) test = absurd (omega (arith, eqb-true (length (byte ∷ rest)) 0 (sym test)))

pub not_empty : (rest : List ℕ) → false ≡ (length rest == 0) → rest ≢ []
not_empty [] test = absurd cc
not_empty (byte ∷ rest) test = λ e. absurd cc

-- items of which each is told from its bytes
abbrev pub Told : {Item : Type 0} → (Item → List ℕ) → (Item → Type 0) → Type 0
Told {Item} item_text Fits = (a b : Item) (x y : List ℕ) → Fits a → Fits b → item_text a ++ x ≡ item_text b ++ y → (a ≡ b) × (x ≡ y)

-- an item begins the bytes, or none
abbrev pub IsTried : {Item : Type 0} → (Item → List ℕ) → (Item → Type 0) → Type 0
IsTried item_text Fits = (bytes : List ℕ) → AreBytes bytes → BeginsWithItem item_text Fits bytes ⊎ ¬ BeginsWithItem item_text Fits bytes

module _ {Item : Type 0} (item_text : Item → List ℕ) (Fits : Item → Type 0) where
  pub takes_none : (due : ℕ) (bytes : List ℕ) → HasTaken item_text Fits due bytes [] bytes
  takes_none due bytes = record { is = refl; fit = tt; within = omega arith }

  pub takes_more : (due : ℕ) (bytes rest trailing : List ℕ) (item : Item) (items more : List Item)
      → HasTaken item_text Fits due bytes items rest
      → Fits item → rest ≡ item_text item ++ trailing → length items < due → more ≡ items ++ item ∷ []
      → HasTaken item_text Fits due bytes more trailing
  takes_more due bytes rest trailing item items more taken fits is less pushed =
      subst (λ all. HasTaken item_text Fits due bytes all trailing) (sym pushed) (record {
        is = taken.is ∙ ap (λ r. flat_map item_text items ++ r) is ∙ sym (append_assoc (flat_map item_text items) (item_text item) trailing)
            ∙ ap (λ t. t ++ trailing) (flat_map_more item_text [] items item);
        fit = AllByRecursion-push Fits items item taken.fit fits;
        within = omega (arith, length-append items (item ∷ []));
      })

  -- the next item is due and isn't there
  pub breaks_at : (due count : ℕ) (bytes : List ℕ) → OneFails item_text Fits due bytes count → BreaksList item_text Fits due bytes count
  breaks_at due count bytes fails =
      record {
        items = fails.items;
        rest = fails.rest;
        fit = fails.taken.fit;
        is = fails.taken.is;
        count = fails.long;
        breaks =
            inl (fails.less, fails.none);
      }

  -- all items are there, and trailing bytes
  pub breaks_after : (due : ℕ) (bytes rest : List ℕ) (items : List Item) → HasTaken item_text Fits due bytes items rest → length items ≡ due
      → rest ≢ []
      → BreaksList item_text Fits due bytes due
  breaks_after due bytes rest items taken long left =
      record { items = items; rest = rest; fit = taken.fit; is = taken.is; count = long; breaks = inr (refl, left) }

  -- all items are there, and nothing else
  pub takes_all : (due : ℕ) (bytes rest : List ℕ) (items : List Item) → HasTaken item_text Fits due bytes items rest → length items ≡ due
      → rest ≡ []
      → IsList item_text Fits due bytes items
  takes_all due bytes rest items taken long none = record {
    fit = taken.fit;
    long = long;
    is = sym (append-nil (flat_map item_text items)) ∙ ap (λ r. flat_map item_text items ++ r) (sym none) ∙ sym taken.is;
  }

  -- ---- lists are told from their bytes

  -- the shorter of two lists of items begins the longer
  pub after_items : Told item_text Fits → (short long : List Item) (x y : List ℕ) → AllByRecursion Fits short → AllByRecursion Fits long
      → length short ≤ length long
      → flat_map item_text short ++ x ≡ flat_map item_text long ++ y
      → ((short ≡ long) × (x ≡ y)) ⊎ ((length short < length long) × BeginsWithItem item_text Fits x)
  after_items told [] [] x y fit_a fit_b le e = inl (refl, e)
  after_items told [] (b ∷ long) x y fit_a fit_b le e =
      inr (
        omega arith,
        record {
          item = b;
          trailing = flat_map item_text long ++ y;
          fits = fit_b.0;
          is = e
              ∙ append_assoc (item_text b) (flat_map item_text long) y;
        },
      )
  after_items told (a ∷ short) [] x y fit_a fit_b le e = absurd (omega arith)
  after_items told (a ∷ short) (b ∷ long) x y fit_a fit_b le e =
      let here = told a b _ _ fit_a.0 fit_b.0
      (sym (append_assoc (item_text a) (flat_map item_text short) x) ∙ e ∙ append_assoc (item_text b) (flat_map item_text long) y) in
      elim (after_items told short long x y fit_a.1 fit_b.1 (omega arith) here.1) [
        | inl same ↦ inl ((λ i. here.0 i ∷ same.0 i), same.1)
        | inr more ↦ inr (omega (arith, more.0), more.1)
      ]

  -- as many items begin the bytes in one way
  pub same_items : Told item_text Fits → (as_ bs : List Item) (x y : List ℕ) → AllByRecursion Fits as_ → AllByRecursion Fits bs
      → length as_ ≡ length bs
      → flat_map item_text as_ ++ x ≡ flat_map item_text bs ++ y → (as_ ≡ bs) × (x ≡ y)
  same_items told as_ bs x y fit_a fit_b long e =
      elim (after_items told as_ bs x y fit_a fit_b (omega arith) e) [
        | inl same ↦ same
        | inr more ↦ absurd (omega (arith, more.0))
      ]

  -- no list of as many as are due begins the bytes where one fails before
  pub none_begin : Told item_text Fits → (due count : ℕ) (bytes trailing : List ℕ) (whole : List Item)
      → OneFails item_text Fits due bytes count
      → AllByRecursion Fits whole → length whole ≡ due → bytes ≡ flat_map item_text whole ++ trailing → ⊥
  none_begin told due count bytes trailing whole fails fit long is =
      let few = fails.less in
      let so_many = fails.long in
      elim (after_items told fails.items whole fails.rest trailing fails.taken.fit fit (omega arith) (sym fails.taken.is ∙ is)) [
        | inl same ↦ absurd (omega (arith, ap length same.0))
        | inr more ↦ fails.none more.1
      ]

  -- ---- lists of bytes are whole or break

  -- so many items begin the bytes
  pub record BeginsWithItems (due : ℕ) (bytes : List ℕ) : Type 0 where
    pub items : List Item
    pub rest : List ℕ
    pub taken : HasTaken item_text Fits due bytes items rest
    pub long : length items ≡ due

  take_left : IsTried item_text Fits → (left due : ℕ) (bytes rest : List ℕ) (items : List Item)
      → HasTaken item_text Fits due bytes items rest → length items + left ≡ due → AreBytes rest
      → BeginsWithItems due bytes ⊎ ((count : ℕ) × OneFails item_text Fits due bytes count)
  take_left tried zero due bytes rest items taken long are = inl (record { items = items; rest = rest; taken = taken; long = omega arith })
  take_left tried (suc left) due bytes rest items taken long are =
      elim (tried rest are) [
        | inr none ↦ inr (length items, record { items = items; rest = rest; taken = taken; long = refl; less = omega arith; none = none })
        | inl begins ↦
            take_left tried left due bytes begins.trailing (items ++ begins.item ∷ [])
            (takes_more due bytes rest begins.trailing begins.item items (items ++ begins.item ∷ []) taken begins.fits begins.is
            (omega arith) refl)
            (omega (arith, length-append items (begins.item ∷ [])))
            (AreBytes-after (item_text begins.item) begins.trailing (subst AreBytes begins.is are))
      ]

  pub tried_items : IsTried item_text Fits → (due : ℕ) (bytes : List ℕ) → AreBytes bytes
      → BeginsWithItems due bytes ⊎ ((count : ℕ) × OneFails item_text Fits due bytes count)
  tried_items tried due bytes are = take_left tried due due bytes bytes [] (takes_none due bytes) (omega arith) are

  pub list_or_breaks : IsTried item_text Fits → (due : ℕ) (bytes : List ℕ) → AreBytes bytes
      → ((items : List Item) × IsList item_text Fits due bytes items) ⊎ ((spelled : ℕ) × BreaksList item_text Fits due bytes spelled)
  list_or_breaks tried due bytes are =
      elim (tried_items tried due bytes are) [
        | inr (count, fails) ↦ inr (count, breaks_at due count bytes fails)
        | inl all ↦ elim (same_or_not all.rest []) [
          | inl none ↦ inl (all.items, takes_all due bytes all.rest all.items all.taken all.long none)
          | inr left ↦ inr (due, breaks_after due bytes all.rest all.items all.taken all.long left)
        ]
      ]
