-- Values on one stack, from the topmost on, as those of frames.
use Rattle.std.proofs.Common.{◌≡◌, ℕ, zero, suc, ◌+◌, ◌-◌, ◌<◌, ◌≤◌, min, List, [], ◌∷◌, ◌++◌, reverse, length, take, drop, set, replicate, get_or, append_assoc, append-nil, Option, Some, None, IsSome, refl, sym, ap, ◌∙◌, arith}
use Rattle.std.specs.Option.{option_to_list}
use Rattle.std.proofs.lemmas.List.{reverse-append, length-append, length-reverse, length-take, length-drop, set_split, set-get_or, take-append-drop, take-set-le, drop-set-lt, drop-set-add, take_all, drop_all, drop_at, get_or-reverse, get_or-take, get_or-drop}
use Rattle.std.proofs.lemmas.Option.{slice_get-get_or}
use Rattle.std.specs.List.{slice_get}
use Rattle.std.proofs.Math.Seq.{take-set-lt, take-append_seam, take-append-add, drop-append-add, set-append_seam}
use borrow.Rule.Slice.PartMut.{put_mid}
use Rattle.t3_holder.specs.declared.holder.Holder.{Holder}
use Rattle.t3_holder.specs.declared.holder.Holder.TheVariants.{Nil}
use Rattle.t3_frames.specs.declared.mark.FrameMark.{FrameMark}
use Rattle.t3_frames.specs.declared.mark.OlderMark.{OlderMark}
use Rattle.t3_frames.specs.Frame.{FramesValue, values_of, all_values, values, of_newest, with_operands, turned, with_local, with_argument, Pops, HasTop}
use Rattle.t3_frames.specs.Inner.Marks.{count_of, counts, frame_of, below, older_of, frames_of}

-- ---- a stack turned over

-- a value that is pushed is the topmost
pub reverse-push : (xs : List Holder) (x : Holder) → reverse (xs ++ x ∷ []) ≡ x ∷ reverse xs
reverse-push xs x = reverse-append xs (x ∷ [])

-- the list before a place, the value there, and those behind
reverse-split : (p s : List Holder) (x : Holder) → reverse (p ++ x ∷ s) ≡ reverse s ++ x ∷ reverse p
reverse-split p s x = reverse-append p (x ∷ s) ∙ ap (λ (t : List Holder). t ++ reverse p) (reverse-append (x ∷ []) s)
    ∙ append_assoc (reverse s) (x ∷ []) (reverse p)

pub reverse-set : (xs : List Holder) (i k : ℕ) (v : Holder) → i + k + 1 ≡ length xs → reverse (set xs i v) ≡ set (reverse xs) k v
reverse-set xs i k v sum =
    let less : i < length xs = omega (arith, sum) in
    let at : length (reverse (drop (suc i) xs)) ≡ k = length-reverse (drop (suc i) xs) ∙ length-drop (suc i) xs ∙ omega (arith, sum) in
    let same : set xs i (get_or xs i v) ≡ xs = set-get_or xs i v in
    let whole : reverse xs ≡ reverse (drop (suc i) xs) ++ get_or xs i v ∷ reverse (take i xs) =
    ap reverse (sym same ∙ set_split xs i (get_or xs i v) less) ∙ reverse-split (take i xs) (drop (suc i) xs) (get_or xs i v) in
    ap reverse (set_split xs i v less) ∙ reverse-split (take i xs) (drop (suc i) xs) v
    ∙ sym (set-append_seam (reverse (drop (suc i) xs)) (get_or xs i v) (reverse (take i xs)) v)
    ∙ (λ j. set (sym whole j) (at j) v)

pub reverse-take : (xs : List Holder) (i k : ℕ) → i + k ≡ length xs → reverse (take i xs) ≡ drop k (reverse xs)
reverse-take xs i k sum =
    let at : length (reverse (drop i xs)) ≡ k = length-reverse (drop i xs) ∙ length-drop i xs ∙ omega (arith, sum) in
    let whole : reverse xs ≡ reverse (drop i xs) ++ reverse (take i xs) =
    ap reverse (sym (take-append-drop i xs)) ∙ reverse-append (take i xs) (drop i xs) in
    sym (ap (drop k) whole ∙ drop_at (reverse (drop i xs)) (reverse (take i xs)) k at)

pub reverse-drop : (xs : List Holder) (i k : ℕ) → i + k ≡ length xs → reverse (drop i xs) ≡ take k (reverse xs)
reverse-drop xs i k sum =
    let at : length (reverse (drop i xs)) ≡ k = length-reverse (drop i xs) ∙ length-drop i xs ∙ omega (arith, sum) in
    let whole : reverse xs ≡ reverse (drop i xs) ++ reverse (take i xs) =
    ap reverse (sym (take-append-drop i xs)) ∙ reverse-append (take i xs) (drop i xs) in
    sym (ap (take k) whole ∙ (λ j. take (sym at j) (reverse (drop i xs) ++ reverse (take i xs)))
    ∙ take-append_seam (reverse (drop i xs)) (reverse (take i xs)))

snoc-replicate : (n : ℕ) → replicate n Nil ++ Nil ∷ [] ≡ Nil ∷ replicate n Nil
snoc-replicate zero = refl
snoc-replicate (suc n) = ap (λ (t : List Holder). Nil ∷ t) (snoc-replicate n)

pub reverse-replicate : (n : ℕ) → reverse (replicate n Nil) ≡ replicate n Nil
reverse-replicate zero = refl
reverse-replicate (suc n) =
    ap reverse (sym (snoc-replicate n)) ∙ reverse-push (replicate n Nil) Nil ∙ ap (λ (t : List Holder). Nil ∷ t) (reverse-replicate n)

-- ---- counts

frame_counted : (tops : List Holder) (o : ℕ) (mark : FrameMark) (rest : ℕ) → length tops ≡ count_of o mark + rest
    → (values_of (frame_of tops o mark) ≡ count_of o mark) × (length (below tops o mark) ≡ rest)
frame_counted tops o mark rest is =
    let inner = drop o tops in
    let outer = drop mark.locals inner in
    let one = length-drop o tops in
    let two = length-drop mark.locals inner in
    let three = length-drop mark.arguments outer in
    let a = length-take o tops in
    let b = length-take mark.locals inner in
    let c = length-take mark.arguments outer in
    (omega (arith, is, one, two, a, b, c), omega (arith, is, one, two, three))

older_counted : (tops : List Holder) (marks : List OlderMark) → length tops ≡ counts marks → all_values (older_of tops marks) ≡ counts marks
older_counted tops [] is = refl
older_counted tops (older ∷ others) is =
    let first = frame_counted tops older.operands older.mark (counts others) is in
    omega (arith, first.0, older_counted (below tops older.operands older.mark) others first.1)

pub values-frames_of : (tops : List Holder) (o base : ℕ) (newest : FrameMark) (older : List OlderMark)
    → base ≡ newest.locals + newest.arguments + counts older → length tops ≡ o + base → values (frames_of tops o newest older) ≡ length tops
values-frames_of tops o base newest older counted all =
    let is : length tops ≡ count_of o newest + counts older = omega (arith, counted, all) in
    let first = frame_counted tops o newest (counts older) is in
    omega (arith, is, first.0, older_counted (below tops o newest) older first.1)

length-older_of : (tops : List Holder) (marks : List OlderMark) → length (older_of tops marks) ≡ length marks
length-older_of tops [] = refl
length-older_of tops (older ∷ others) = ap suc (length-older_of (below tops older.operands older.mark) others)

-- of frames as contracts see them: how many are older, and how many values they hold
pub counted_view : (items : List Holder) (o base : ℕ) (mark : FrameMark) (marks : List OlderMark) (frames : FramesValue)
    → base ≡ mark.locals + mark.arguments + counts (reverse marks) → length items ≡ o + base
    → frames_of (reverse items) o mark (reverse marks) ≡ frames
    → (length frames.older ≡ length marks) × (values frames ≡ length items)
counted_view items o base mark marks frames counted sum view =
    let tops = reverse items in
    let all : length tops ≡ o + base = length-reverse items ∙ sum in
    let held = values-frames_of tops o base mark (reverse marks) counted all in (
      ap (λ (f : FramesValue). length f.older) (sym view) ∙ length-older_of (below tops o mark) (reverse marks) ∙ length-reverse marks,
      ap values (sym view) ∙ held ∙ length-reverse items,
    )

-- ---- operands

pub pushes : (tops : List Holder) (o more : ℕ) (mark : FrameMark) (older : List OlderMark) (v : Holder) → more ≡ o + 1
    → frames_of (v ∷ tops) more mark older ≡ of_newest (with_operands (v ∷ take o tops)) (frames_of tops o mark older)
pushes tops o more mark older v is =
    let count : more ≡ suc o = omega (arith, is) in
    λ i. frames_of (v ∷ tops) (count i) mark older

pub pops : (old new : List Holder) (o less : ℕ) (found : Option Holder) (mark : FrameMark) (older : List OlderMark) (frames : FramesValue)
    → frames_of (reverse old) o mark older ≡ frames → o ≡ less + 1 → 0 < length old → old ≡ new ++ option_to_list found
    → (found ≡ None → length old ≡ 0)
    → Pops frames found (frames_of (reverse new) less mark older)
pops old new o less None mark older frames view some long is none = absurd (omega (arith, long, none refl))
pops old new o less (Some v) mark older frames view some long is none =
    let tops : reverse old ≡ v ∷ reverse new = ap reverse is ∙ reverse-push new v in
    let count : o ≡ suc less = omega (arith, some) in
    let step : frames ≡ frames_of (v ∷ reverse new) (suc less) mark older =
    sym view ∙ (λ i. frames_of (tops i) (count i) mark older) in (
      ap (λ (f : FramesValue). f.newest.operands) step,
      sym (ap (λ (f : FramesValue). of_newest (with_operands (take less (reverse new))) f) step),
    )

pub has_top : (items : List Holder) (o : ℕ) (mark : FrameMark) (older : List OlderMark) (frames : FramesValue) (place : ℕ) (v : Holder)
    → frames_of (reverse items) o mark older ≡ frames → 0 < o → place + 1 ≡ length items → get_or items place v ≡ v
    → HasTop frames (Some v)
has_top items o mark older frames place v view some at is =
    let here : get_or (reverse items) 0 v ≡ v =
    get_or-reverse items 0 v (omega (arith, at)) ∙ ap (λ n. get_or items n v) (omega (arith, at)) ∙ is in
    let long : 0 < length (reverse items) = omega (arith, at, length-reverse items) in
    first (reverse items) o here long some (ap (λ (f : FramesValue). f.newest.operands) view)
  where
    first : (tops : List Holder) (o : ℕ) → get_or tops 0 v ≡ v → 0 < length tops → 0 < o → take o tops ≡ frames.newest.operands
        → HasTop frames (Some v)
    first [] o here long some same = absurd (omega (arith, long))
    first (x ∷ tops) zero here long some same = absurd (omega (arith, some))
    first (x ∷ tops) (suc o) here long some same = (take o tops, sym same ∙ ap (λ y. y ∷ take o tops) here)

pub takes : (tops : List Holder) (count o : ℕ) → take (min count o) tops ≡ take count (take o tops)
takes tops zero o = let none : min 0 o ≡ 0 = omega arith in ap (λ n. take n tops) none
takes tops (suc count) zero = let none : min (suc count) 0 ≡ 0 = omega arith in ap (λ n. take n tops) none
takes [] (suc count) (suc o) = take_all (min (suc count) (suc o)) [] (omega arith)
takes (x ∷ tops) (suc count) (suc o) =
    let less : min (suc count) (suc o) ≡ suc (min count o) = omega arith in
    ap (λ n. take n (x ∷ tops)) less ∙ ap (λ (t : List Holder). x ∷ t) (takes tops count o)

-- a value that is taken off counts no more
pub values-pops : (old new : FramesValue) (found : Option Holder) → Pops old found new → IsSome found → values new + 1 ≡ values old
values-pops old new None is some = absurd cc
values-pops old new (Some v) is some =
    let count = ap (λ (t : List Holder). length t) is.0 in
    omega (arith, count, ap values is.1)

-- ---- variables

pub finds_argument : (items : List Holder) (o place : ℕ) (mark : FrameMark) (older : List OlderMark) (frames : FramesValue) (n : ℕ)
    (v : Holder)
    → frames_of (reverse items) o mark older ≡ frames → n < mark.arguments → place + (o + mark.locals + n) + 1 ≡ length items
    → get_or items place v ≡ v
    → Some v ≡ slice_get frames.newest.arguments n
finds_argument items o place mark older frames n v view less sum is =
    let tops = reverse items in
    let l = mark.locals in
    let inner = drop l (drop o tops) in
    let k = o + l + n in
    let seen : length items - 1 - k ≡ place = omega (arith, sum) in
    let at : get_or tops k v ≡ v = get_or-reverse items k v (omega (arith, sum)) ∙ ap (λ m. get_or items m v) seen ∙ is in
    let there : get_or (take mark.arguments inner) n v ≡ v =
    get_or-take mark.arguments inner n v less ∙ get_or-drop l (drop o tops) n v ∙ get_or-drop o tops (l + n) v
    ∙ ap (λ m. get_or tops m v) (omega arith) ∙ at in
    let one = length-drop o tops in
    let two = length-drop l (drop o tops) in
    let three = length-take mark.arguments inner in
    let long : n < length (take mark.arguments inner) = omega (arith, sum, less, one, two, three, length-reverse items) in
    sym (slice_get-get_or (take mark.arguments inner) n v long ∙ ap Some there)
    ∙ ap (λ (f : FramesValue). slice_get f.newest.arguments n) view

pub sets_local : (tops : List Holder) (o : ℕ) (mark : FrameMark) (older : List OlderMark) (n : ℕ) (v : Holder) → n < mark.locals
    → frames_of (set tops (o + n) v) o mark older ≡ of_newest (with_local n v) (frames_of tops o mark older)
sets_local tops o mark older n v less =
    let l = mark.locals in
    let inner : drop o (set tops (o + n) v) ≡ set (drop o tops) n v = drop-set-add o tops n v in
    let operands : take o (set tops (o + n) v) ≡ take o tops = take-set-le o tops (o + n) v (omega arith) in
    let locals : take l (drop o (set tops (o + n) v)) ≡ set (take l (drop o tops)) n v = ap (take l) inner
    ∙ take-set-lt l (drop o tops) n v less in
    let outer : drop l (drop o (set tops (o + n) v)) ≡ drop l (drop o tops) = ap (drop l) inner ∙ drop-set-lt l (drop o tops) n v less in
    λ i. record {
      newest =
          record (frame_of tops o mark) {
            operands = operands i;
            locals = locals i;
            arguments = take mark.arguments (outer i);
          };
      older = older_of (drop mark.arguments (outer i)) older;
    }

pub sets_argument : (tops : List Holder) (o : ℕ) (mark : FrameMark) (older : List OlderMark) (n : ℕ) (v : Holder) → n < mark.arguments
    → frames_of (set tops (o + mark.locals + n) v) o mark older ≡ of_newest (with_argument n v) (frames_of tops o mark older)
sets_argument tops o mark older n v less =
    let l = mark.locals in
    let a = mark.arguments in
    let k = o + l + n in
    let sum : k ≡ o + (l + n) = omega arith in
    let inner : drop o (set tops k v) ≡ set (drop o tops) (l + n) v =
    ap (λ m. drop o (set tops m v)) sum ∙ drop-set-add o tops (l + n) v in
    let operands : take o (set tops k v) ≡ take o tops = take-set-le o tops k v (omega arith) in
    let locals : take l (drop o (set tops k v)) ≡ take l (drop o tops) = ap (take l) inner
    ∙ take-set-le l (drop o tops) (l + n) v (omega arith) in
    let outer : drop l (drop o (set tops k v)) ≡ set (drop l (drop o tops)) n v = ap (drop l) inner ∙ drop-set-add l (drop o tops) n v in
    let arguments : take a (drop l (drop o (set tops k v))) ≡ set (take a (drop l (drop o tops))) n v =
    ap (take a) outer ∙ take-set-lt a (drop l (drop o tops)) n v less in
    let rest : drop a (drop l (drop o (set tops k v))) ≡ drop a (drop l (drop o tops)) = ap (drop a) outer
    ∙ drop-set-lt a (drop l (drop o tops)) n v less in
    λ i. record {
      newest =
          record (frame_of tops o mark) {
            operands = operands i;
            locals = locals i;
            arguments = arguments i;
          };
      older = older_of (rest i) older;
    }

-- ---- dropping operands

pub drop-drop : (m n : ℕ) (xs : List Holder) → drop m (drop n xs) ≡ drop (n + m) xs
drop-drop m zero xs = let none : m ≡ 0 + m = omega arith in ap (λ n. drop n xs) none
drop-drop m (suc n) [] = drop_all m [] (omega arith) ∙ sym (drop_all (suc n + m) [] (omega arith))
drop-drop m (suc n) (x ∷ xs) =
    let one_more : suc (n + m) ≡ suc n + m = omega arith in
    drop-drop m n xs ∙ ap (λ k. drop k (x ∷ xs)) one_more

drop-take : (n o : ℕ) (xs : List Holder) → drop n (take o xs) ≡ take (o - n) (drop n xs)
drop-take zero o xs = let all : o ≡ o - 0 = omega arith in ap (λ n. take n xs) all
drop-take (suc n) zero xs = let none : 0 ≡ 0 - suc n = omega arith in ap (λ k. take k (drop (suc n) xs)) none
drop-take (suc n) (suc o) [] = sym (take_all (suc o - suc n) [] (omega arith))
drop-take (suc n) (suc o) (x ∷ xs) =
    let same : o - n ≡ suc o - suc n = omega arith in
    drop-take n o xs ∙ ap (λ k. take k (drop n xs)) same

drop-min : (count o : ℕ) (xs : List Holder) → length xs ≤ o → drop (min count o) xs ≡ drop count xs
drop-min zero o xs le = let none : min 0 o ≡ 0 = omega arith in ap (λ n. drop n xs) none
drop-min (suc count) o [] le = drop_all (min (suc count) o) [] (omega arith)
drop-min (suc count) zero (x ∷ xs) le = absurd (omega (arith, le))
drop-min (suc count) (suc o) (x ∷ xs) le =
    let less : min (suc count) (suc o) ≡ suc (min count o) = omega arith in
    ap (λ n. drop n (x ∷ xs)) less ∙ drop-min count o xs (omega (arith, le))

pub drops : (tops : List Holder) (o left : ℕ) (mark : FrameMark) (older : List OlderMark) (count : ℕ) → left ≡ o - min count o
    → frames_of (drop (min count o) tops) left mark older ≡ of_newest (with_operands (drop count (take o tops)))
    (frames_of tops o mark older)
drops tops o left mark older count is =
    let d = min count o in
    let inner : drop left (drop d tops) ≡ drop o tops = drop-drop left d tops ∙ ap (λ n. drop n tops) (omega (arith, is)) in
    let operands : take left (drop d tops) ≡ drop count (take o tops) =
    ap (λ n. take n (drop d tops)) is ∙ sym (drop-take d o tops) ∙ drop-min count o (take o tops) (omega (arith, length-take o tops)) in
    λ i. record {
      newest =
          record (frame_of tops o mark) {
            operands = operands i;
            locals = take mark.locals (inner i);
            arguments = take mark.arguments (drop mark.locals (inner i));
          };
      older = older_of (drop mark.arguments (drop mark.locals (inner i))) older;
    }

-- ---- turning operands over

-- where the values behind a place are turned over, those that are topmost are
reverse-turned : (xs ys : List Holder) (i k m : ℕ) → i + k ≡ length xs → m ≡ k → ys ≡ reverse (take m (drop i xs))
    → reverse (put_mid i m xs ys) ≡ turned k (reverse xs)
reverse-turned xs ys i k m sum same is =
    let long = length-drop i xs in
    let all : take m (drop i xs) ≡ drop i xs = take_all m (drop i xs) (omega (arith, sum, same, long)) in
    let none : drop m (drop i xs) ≡ [] = drop_all m (drop i xs) (omega (arith, sum, same, long)) in
    let mid : ys ++ drop m (drop i xs) ≡ take k (reverse xs) =
    (λ j. (is ∙ ap reverse all) j ++ none j) ∙ append-nil (reverse (drop i xs)) ∙ reverse-drop xs i k sum in
    reverse-append (take i xs) (ys ++ drop m (drop i xs)) ∙ (λ j. reverse (mid j) ++ reverse-take xs i k sum j)

-- and there are as many
pub length-turned : (xs ys : List Holder) (i k m : ℕ) → i + k ≡ length xs → m ≡ k → ys ≡ reverse (take m (drop i xs))
    → length (put_mid i m xs ys) ≡ length xs
length-turned xs ys i k m sum same is =
    let long = length-drop i xs in
    let all = length-append (take i xs) (ys ++ drop m (drop i xs)) in
    let behind = length-append ys (drop m (drop i xs)) in
    let mine = ap length is ∙ length-reverse (take m (drop i xs)) in
    omega (arith, sum, same, long, all, behind, mine, length-take i xs, length-take m (drop i xs), length-drop m (drop i xs))

pub turns : (xs ys : List Holder) (i k m o count : ℕ) (mark : FrameMark) (older : List OlderMark) → i + k ≡ length xs → m ≡ k
    → ys ≡ reverse (take m (drop i xs)) → k ≡ min count o → o ≤ length xs
    → frames_of (reverse (put_mid i m xs ys)) o mark older
    ≡ of_newest (with_operands (turned count (take o (reverse xs)))) (frames_of (reverse xs) o mark older)
turns xs ys i k m o count mark older sum same is few le =
    let tops = reverse xs in
    let front = reverse (take k tops) in
    let long : length front ≡ k = length-reverse (take k tops) ∙ length-take k tops ∙ omega (arith, sum, length-reverse xs) in
    let split : o ≡ length front + (o - k) = omega (arith, long, few) in
    let shown : take k tops ≡ take count (take o tops) = ap (λ n. take n tops) few ∙ takes tops count o in
    let rest : take (o - k) (drop k tops) ≡ drop count (take o tops) =
    sym (drop-take k o tops) ∙ ap (λ n. drop n (take o tops)) few ∙ drop-min count o (take o tops) (omega (arith, length-take o tops)) in
    let operands : take o (turned k tops) ≡ turned count (take o tops) =
    ap (λ n. take n (turned k tops)) split ∙ take-append-add front (drop k tops) (o - k) ∙ (λ j. reverse (shown j) ++ rest j) in
    let behind : drop o (turned k tops) ≡ drop o tops =
    ap (λ n. drop n (turned k tops)) split ∙ drop-append-add front (drop k tops) (o - k) ∙ drop-drop (o - k) k tops
    ∙ ap (λ n. drop n tops) (omega (arith, few)) in
    (λ j. frames_of (reverse-turned xs ys i k m sum same is j) o mark older)
    ∙ (λ j. record {
      newest =
          record (frame_of tops o mark) {
            operands = operands j;
            locals = take mark.locals (behind j);
            arguments = take mark.arguments (drop mark.locals (behind j));
          };
      older = older_of (drop mark.arguments (drop mark.locals (behind j))) older;
    })
