-- The header of an image is told from its bytes, and breaks no rule. Other crates may use what stands here.
use Rattle.std.proofs.Common.{◌≡◌, ℕ, List, ◌++◌, length, take, drop, get_or, refl, sym, ap, ◌∙◌, append_assoc, arith}
use Rattle.std.proofs.lemmas.List.{length-append, get_or_append_left, take_at, drop_at, append_cancel_left}
use Rattle.t3_holder.specs.NumberText.{little_endian}
use Rattle.t3_holder.proofs.Numbers.{length-little_endian}
use Rattle.t3_image_read.specs.declared.image.Head.{Head}
use Rattle.t3_image_read.specs.declared.refusal.ReadWhy.{ReadWhy}
use Rattle.t3_image_read.specs.declared.refusal.ReadWhy.TheVariants.{Signature, Version, Truncated}
use Rattle.t3_image_read.specs.ImageText.{signature, version, head_text}
use Rattle.t3_image_read.specs.Validity.{IsHead}
use Rattle.t3_image_read.specs.Refusal.{HeadBreaks}
use Rattle.t3_blocks.proofs.Lists.{split_same}

pub length-signature : length signature ≡ 11
unfolding signature
length-signature = refl

pub head_text-append : (h : Head) (x : List ℕ) → head_text h ++ x ≡ signature ++ (little_endian 2 version ++ (h.reserved ++ (h.stamp ++ x)))
unfolding head_text
head_text-append h x = simp append_assoc

pub length-head_text : (h : Head) → IsHead h → length (head_text h) ≡ 69
unfolding head_text
length-head_text h is =
    simp (length-append, length-little_endian) (omega (arith, length-signature, is.reserved, is.stamp))

pub head_same : (h k : Head) (x y : List ℕ) → IsHead h → IsHead k → head_text h ++ x ≡ head_text k ++ y → (h ≡ k) × (x ≡ y)
head_same h k x y is_h is_k e =
    let whole = sym (head_text-append h x) ∙ e ∙ head_text-append k y in
    let trailing = append_cancel_left (little_endian 2 version) _ _ (append_cancel_left signature _ _ whole) in
    let reserved = split_same h.reserved k.reserved _ _ (is_h.reserved ∙ sym is_k.reserved) trailing in
    let stamp = split_same h.stamp k.stamp x y (is_h.stamp ∙ sym is_k.stamp) reserved.1 in
    ((λ i. record { reserved = reserved.0 i; stamp = stamp.0 i }), stamp.1)

pub head_unbroken : (h : Head) (x : List ℕ) → IsHead h → (why : ReadWhy) → HeadBreaks (head_text h ++ x) why → ⊥
head_unbroken h x is Signature (i, near, there, differs) =
    let trailing = little_endian 2 version ++ (h.reserved ++ (h.stamp ++ x)) in
    differs (ap (λ s. get_or s i 0) (head_text-append h x) ∙ get_or_append_left signature trailing 0 i (omega (arith, length-signature)))
head_unbroken h x is Version (there, differs) =
    let trailing = h.reserved ++ (h.stamp ++ x) in
    differs (ap (λ s. take 2 (drop 11 s)) (head_text-append h x)
    ∙ ap (take 2) (drop_at signature (little_endian 2 version ++ trailing) 11 length-signature)
    ∙ take_at (little_endian 2 version) trailing 2 (length-little_endian 2 version))
head_unbroken h x is Truncated short = let long = length-head_text h is in absurd (omega (arith, length-append (head_text h) x))
head_unbroken h x is _ broken = broken
