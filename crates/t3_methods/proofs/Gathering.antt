-- Bytes that are gathered in one word, the first lowest.
use Rattle.std.proofs.Common.{◌≡◌, ℕ, zero, suc, ◌+◌, ◌*◌, ◌/◌, ◌%◌, ◌^◌, ◌<◌, ◌≤◌, List, [], ◌∷◌, ◌++◌, length, take, drop, ◌-◌, None, refl, sym, ap, ◌∙◌, arith}
use Rattle.std.specs.FinMap.{get}
use Rattle.std.specs.Int.{w64, to_le_bytes}
use Rattle.std.proofs.lemmas.List.{length-append, take-append-le, take-take, length-take-le}
use Rattle.std.proofs.Math.Seq.{take-append-add, drop-append-add, take-add}
use Rattle.t3_holder.specs.NumberText.{little_endian}
use Rattle.t3_holder.proofs.Numbers.{length-little_endian}
use Rattle.t3_pools.specs.Pool.{Pool}
use Rattle.t3_pools.proofs.Standing.{stands_both, stands_take}
use Rattle.t3_methods.specs.Inner.Window.{Shows, ShowsAll}
use Rattle.t3_methods.proofs.Windows.{AreBytes-append, AreBytes-take}

-- the bytes of a number as the library writes them
pub written_eight : (n : ℕ) → to_le_bytes w64 n ≡ little_endian 8 n
unfolding little_endian
written_eight n =
    let second : n / 256 ^ 1 % 256 ≡ n / 256 % 256 = omega arith in
    let third : n / 256 ^ 2 % 256 ≡ n / 256 / 256 % 256 = omega arith in
    let fourth : n / 256 ^ 3 % 256 ≡ n / 256 / 256 / 256 % 256 = omega arith in
    let fifth : n / 256 ^ 4 % 256 ≡ n / 256 / 256 / 256 / 256 % 256 = omega arith in
    let sixth : n / 256 ^ 5 % 256 ≡ n / 256 / 256 / 256 / 256 / 256 % 256 = omega arith in
    let seventh : n / 256 ^ 6 % 256 ≡ n / 256 / 256 / 256 / 256 / 256 / 256 % 256 = omega arith in
    let eighth : n / 256 ^ 7 % 256 ≡ n / 256 / 256 / 256 / 256 / 256 / 256 / 256 % 256 = omega arith in
    λ i. n % 256 ∷ second i ∷ third i ∷ fourth i ∷ fifth i ∷ sixth i ∷ seventh i ∷ eighth i ∷ []

-- the first bytes of a number are all that a smaller width has
take-little_endian : (count width n : ℕ) → count ≤ width → take count (little_endian width n) ≡ little_endian count n
unfolding little_endian
take-little_endian zero width n le = refl
take-little_endian (suc count) zero n le = absurd (omega arith)
take-little_endian (suc count) (suc width) n le = ap (λ (t : List ℕ). n % 256 ∷ t) (take-little_endian count width (n / 256) (omega arith))

-- the lowest seven bytes
seven_lowest : (n word : ℕ) → n ≡ word % 2 ^ 56 → little_endian 7 n ≡ little_endian 7 word
unfolding little_endian
seven_lowest n word is =
    let first : n % 256 ≡ word % 256 = omega (arith, is) in
    let second : n / 256 % 256 ≡ word / 256 % 256 = omega (arith, is) in
    let third : n / 256 / 256 % 256 ≡ word / 256 / 256 % 256 = omega (arith, is) in
    let fourth : n / 256 / 256 / 256 % 256 ≡ word / 256 / 256 / 256 % 256 = omega (arith, is) in
    let fifth : n / 256 / 256 / 256 / 256 % 256 ≡ word / 256 / 256 / 256 / 256 % 256 = omega (arith, is) in
    let sixth : n / 256 / 256 / 256 / 256 / 256 % 256 ≡ word / 256 / 256 / 256 / 256 / 256 % 256 = omega (arith, is) in
    let seventh : n / 256 / 256 / 256 / 256 / 256 / 256 % 256 ≡ word / 256 / 256 / 256 / 256 / 256 / 256 % 256 = omega (arith, is) in
    λ i. first i ∷ second i ∷ third i ∷ fourth i ∷ fifth i ∷ sixth i ∷ seventh i ∷ []

-- a byte that goes in front of the others drives the last one out
little_endian-shifted : (word byte : ℕ) → byte < 256 → little_endian 8 (word * 256 % 2 ^ 64 + byte) ≡ byte ∷ little_endian 7 word
unfolding little_endian
little_endian-shifted word byte is_byte =
    let first : (word * 256 % 2 ^ 64 + byte) % 256 ≡ byte = omega (arith, is_byte) in
    let left : (word * 256 % 2 ^ 64 + byte) / 256 ≡ word % 2 ^ 56 = omega (arith, is_byte) in
    let rest = seven_lowest ((word * 256 % 2 ^ 64 + byte) / 256) word left in
    λ i. first i ∷ rest i

-- the same where the word has the first bytes of a text
pub shifted_text : (word byte : ℕ) (text : List ℕ) → byte < 256 → little_endian 8 word ≡ take 8 text
    → little_endian 8 (word * 256 % 2 ^ 64 + byte) ≡ take 8 (byte ∷ text)
shifted_text word byte text is_byte is =
    let seven : little_endian 7 word ≡ take 7 text =
    sym (take-little_endian 7 8 word (omega arith)) ∙ ap (take 7) is ∙ take-take 7 8 text (omega arith) in
    little_endian-shifted word byte is_byte ∙ ap (λ (t : List ℕ). byte ∷ t) seven

-- ---- the room

-- the first bytes of a word that was stored in front
pub take-word : (count number : ℕ) (word behind : List ℕ) → word ≡ to_le_bytes w64 number → count ≤ 8
    → take count (word ++ behind) ≡ little_endian count number
take-word count number word behind is le =
    let text : word ≡ little_endian 8 number = is ∙ written_eight number in
    let long : length word ≡ 8 = ap length text ∙ length-little_endian 8 number in
    take-append-le count word behind (omega (arith, long, le)) ∙ ap (take count) text ∙ take-little_endian count 8 number le

-- a word that was stored in front, and the first bytes of a number behind it
pub take-word_more : (count number second : ℕ) (word more behind other : List ℕ) → word ≡ to_le_bytes w64 number
    → more ≡ little_endian 2 second → count ≤ 2
    → take (8 + count) (take 8 (word ++ behind) ++ (more ++ other)) ≡ little_endian 8 number ++ little_endian count second
take-word_more count number second word more behind other is is_more le =
    let front : take 8 (word ++ behind) ≡ little_endian 8 number = take-word 8 number word behind is (omega arith) in
    let long : length (little_endian 8 number) ≡ 8 = length-little_endian 8 number in
    let few : count ≤ length more = omega (arith, ap length is_more, length-little_endian 2 second, le) in
    ap (λ (f : List ℕ). take (8 + count) (f ++ (more ++ other))) front
    ∙ ap (λ (n : ℕ). take (n + count) (little_endian 8 number ++ (more ++ other))) (sym long)
    ∙ take-append-add (little_endian 8 number) (more ++ other) count
    ∙ ap (λ (t : List ℕ). little_endian 8 number ++ t)
    (take-append-le count more other few ∙ ap (take count) is_more ∙ take-little_endian count 2 second le)

-- the first eight bytes of two parts, and the two behind those
pub joined : (front back : List ℕ) (word second : ℕ) → length front ≤ 8 → little_endian 8 word ≡ take 8 (front ++ back)
    → take 2 (drop (8 - length front) back) ≡ little_endian 2 second
    → little_endian 8 word ++ little_endian 2 second ≡ take 10 (front ++ back)
joined front back word second few first last =
    let eight : length front + (8 - length front) ≡ 8 = omega (arith, few) in
    let behind : drop 8 (front ++ back) ≡ drop (8 - length front) back =
    ap (λ (n : ℕ). drop n (front ++ back)) (sym eight) ∙ drop-append-add front back (8 - length front) in
    ap (λ (t : List ℕ). t ++ little_endian 2 second) first
    ∙ ap (λ (t : List ℕ). take 8 (front ++ back) ++ t) (sym last ∙ ap (take 2) (sym behind))
    ∙ sym (take-add 8 2 (front ++ back))

-- the bytes to the end of a page, and those of the next one behind them
pub shows_joined : (code : Pool) (address : ℕ) (front back : List ℕ) → Shows code address front
    → Shows code (address + length front) back → 10 ≤ length back → length front ≤ 8
    → ((far : ℕ) → 2 ^ 31 ≤ far → get code far ≡ None) → ShowsAll code address (take 10 (front ++ back))
shows_joined code address front back of_front of_back many few beyond =
    let all : List ℕ = front ++ back in
    let long : length (take 10 all) ≡ 10 = length-take-le 10 all (omega (arith, length-append front back, many)) in
    let bounded : address + length (take 10 all) < 2 ^ 31 = omega (arith, of_back.bounded (omega (arith, many)), many, long) in
    record {
      shows = record {
        are = AreBytes-take 10 all (AreBytes-append front back of_front.are of_back.are);
        stands = stands_take code all address 10 (stands_both code front back address of_front.stands of_back.stands);
        empty = λ none. absurd (omega (arith, ap length none, long));
        bounded = λ _. bounded;
      };
      whole = λ less. absurd (omega (arith, less, long));
      beyond = beyond;
    }
