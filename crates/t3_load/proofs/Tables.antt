-- What all items of a list mean, block by block, and the first that means nothing.
use Rattle.std.proofs.Common.{◌≡◌, ℕ, suc, ◌+◌, ◌*◌, ◌^◌, ◌<◌, ◌≤◌, Bool, true, false, cond, List, [], ◌∷◌, ◌++◌, Option, Some, None, length, map, take, drop, get_or, refl, sym, ap, ◌∙◌, arith, drop-cons}
use Rattle.std.proofs.Common.{Result, Ok, Err, subst}
use Rattle.std.proofs.lemmas.List.{append-nil, map-append, length-map, length-append, take_more}
use Rattle.std.proofs.lemmas.Grind.{flat_map-append}
use Rattle.std.proofs.lemmas.List.Folds.{length-flat_map-take}
use Rattle.std.specs.List.{flat_map, position_from, AllByRecursion}
use Rattle.std.specs.Option.{option_or, is_none}
use Rattle.std.specs.Result.{IsErrAnd}
use Rattle.t3_blocks.specs.declared.block.Block.{Block}
use Rattle.t3_image_read.specs.declared.image.PlacedBlock.{PlacedBlock}
use Rattle.t3_image_read.specs.Validity.{IsGood}
use Rattle.t3_load.specs.declared.refusal.NameRefusal.{NameRefusal}
use Rattle.t3_load.specs.declared.refusal.NameRefusal.TheVariants.{Unknown, NoMemory}
use Rattle.t3_load.specs.Names.{unknown_from, IsTable}
use Rattle.t3_load.specs.Inner.Listing.{Appends}

-- the items behind an index are those of the block there and those behind it
pub flat_map-drop : {X Y : Type 0} (f : X → List Y) (xs : List X) (i : ℕ) (x : X) → i < length xs → x ≡ get_or xs i x
    → flat_map f (drop i xs) ≡ f x ++ flat_map f (drop (suc i) xs)
flat_map-drop f xs i x less is =
    ap (flat_map f) (drop-cons xs i x less) ∙ ap (λ y. f y ++ flat_map f (drop (suc i) xs)) (sym is)

position_from-or : (b : Bool) (at : ℕ) (p q : Option ℕ) → cond b (Some at) (option_or p q) ≡ option_or (cond b (Some at) p) q
position_from-or true at p q = refl
position_from-or false at p q = refl

pub position_from-append : {X : Type 0} (test : X → Bool) (xs ys : List X) (at : ℕ)
    → position_from test at (xs ++ ys) ≡ option_or (position_from test at xs) (position_from test (at + length xs) ys)
position_from-append test [] ys at =
    let same : at ≡ at + 0 = omega arith in ap (λ n. position_from test n ys) same
position_from-append test (x ∷ xs) ys at =
    let same : (at + 1) + length xs ≡ at + length (x ∷ xs) = omega arith in
    ap (cond (test x) (Some at)) (position_from-append test xs ys (at + 1))
    ∙ position_from-or (test x) at (position_from test (at + 1) xs) (position_from test ((at + 1) + length xs) ys)
    ∙ ap (λ n. option_or (position_from test at (x ∷ xs)) (position_from test n ys)) same

-- of items that all mean something, none means nothing
pub none_unknown : {Item Entry : Type 0} (meaning : Item → Option Entry) (olds : List (Option Entry)) (new : List Entry) (items : List Item)
    (at : ℕ) → map Some new ≡ olds ++ map meaning items → unknown_from meaning at items ≡ None
none_unknown meaning [] [] [] at e = refl
none_unknown meaning [] (y ∷ new) [] at e = absurd cc
none_unknown meaning [] [] (item ∷ items) at e = absurd cc
none_unknown meaning [] (y ∷ new) (item ∷ items) at e =
    let here : Some y ≡ meaning item = cc in
    let rest : map Some new ≡ map meaning items = cc in
    ap (λ m. cond (is_none m) (Some at) (unknown_from meaning (at + 1) items)) (sym here) ∙ none_unknown meaning [] new items (at + 1) rest
none_unknown meaning (o ∷ olds) [] items at e = absurd cc
none_unknown meaning (o ∷ olds) (y ∷ new) items at e =
    let rest : map Some new ≡ olds ++ map meaning items = cc in
    none_unknown meaning olds new items at rest

-- the entries so far are as many as the items so far
same_length : {Item Entry : Type 0} (meaning : Item → Option Entry) (items : List Item) (entries : List Entry)
    → map Some entries ≡ map meaning items → length entries ≡ length items
same_length meaning items entries e =
    sym (length-map entries Some) ∙ ap length e ∙ length-map items meaning

-- with those of a further block there are no more than all
pub fits_with : {X Item Entry : Type 0} (f : X → List Item) (meaning : Item
    → Option Entry) (xs : List X) (i : ℕ) (x : X) (entries : List Entry)
    (n : ℕ) → i < length xs → x ≡ get_or xs i x → map Some entries ≡ map meaning (flat_map f (take i xs)) → length (flat_map f xs) < n
    → length entries + length (f x) < n
fits_with f meaning xs i x entries n less is known few =
    let same : length (f x) ≡ length (f (get_or xs i x)) = ap (λ y. length (f y)) is in
    omega (arith, same, same_length meaning (flat_map f (take i xs)) entries known, length-flat_map-take f xs i x less)

-- ---- an image is so small

few_listed : {Item : Type 0} (f : Block → List Item) → ((placed : PlacedBlock) → IsGood placed → length (f placed.block) ≤ 65535)
    → (blocks : List PlacedBlock) → AllByRecursion IsGood blocks
    → length (flat_map (λ placed. f placed.block) blocks) ≤ 65535 * length blocks
few_listed f few [] good = omega arith
few_listed f few (placed ∷ blocks) good =
    omega (arith, few placed good.0, few_listed f few blocks good.1, length-append (f placed.block) (flat_map (λ b. f b.block) blocks))

pub few_in_image : {Item : Type 0} (f : Block → List Item) → ((placed : PlacedBlock) → IsGood placed → length (f placed.block) ≤ 65535)
    → (blocks : List PlacedBlock) → AllByRecursion IsGood blocks → length blocks < 65536
    → length (flat_map (λ placed. f placed.block) blocks) < 2 ^ 32
few_in_image f few blocks good count = omega (arith, few_listed f few blocks good)

-- ---- one block more

-- the first item of a block that means nothing is the first of all, where those before it mean something
pub unknown_after : {Item Entry Table : Type 0} (view : Table → List Entry) (meaning : Item → Option Entry) (all xs more rest : List Item)
    (old new : List Entry) (why : NameRefusal) → Appends meaning xs old new (Err why)
    → unknown_from meaning 0 all ≡ unknown_from meaning (length old) rest → rest ≡ xs ++ more → IsTable view meaning all (Err why)
unknown_after view meaning all xs more rest old new (Unknown index) is first parts =
    first ∙ ap (unknown_from meaning (length old)) parts
    ∙ position_from-append (λ item. is_none (meaning item)) xs more (length old)
    ∙ ap (λ found. option_or found (unknown_from meaning (length old + length xs) more)) is
unknown_after view meaning all xs more rest old new NoMemory is first parts = tt

-- a refusal is handed on
pub refused : {Item Entry Table : Type 0} (view : Table → List Entry) (meaning : Item → Option Entry) (all : List Item)
    (why : NameRefusal) (r : Result Table NameRefusal) → IsErrAnd r (λ found. found ≡ why) → IsTable view meaning all (Err why)
    → IsTable view meaning all r
refused view meaning all why (Ok table) is table_is = absurd is
refused view meaning all why (Err found) is table_is = subst (λ w. IsTable view meaning all (Err w)) (sym is) table_is

-- the table goes on by the entries of a block
pub table_step : {X Item Entry : Type 0} (f : X → List Item) (meaning : Item → Option Entry) (xs : List X) (i : ℕ) (x : X)
    (old new : List Entry) → i < length xs → x ≡ get_or xs i x → map Some new ≡ map Some old ++ map meaning (f x)
    → map Some old ≡ map meaning (flat_map f (take i xs)) → map Some new ≡ map meaning (flat_map f (take (i + 1) xs))
table_step f meaning xs i x old new less is added known =
    let one : take (i + 1) xs ≡ take i xs ++ get_or xs i x ∷ [] = take_more xs i x less in
    let block : flat_map f (get_or xs i x ∷ []) ≡ f x = append-nil (f (get_or xs i x)) ∙ ap f (sym is) in
    let all : flat_map f (take (i + 1) xs) ≡ flat_map f (take i xs) ++ f x =
    ap (flat_map f) one ∙ flat_map-append f (take i xs) (get_or xs i x ∷ []) ∙ ap (λ b. flat_map f (take i xs) ++ b) block in
    added ∙ ap (λ front. front ++ map meaning (f x)) known ∙ sym (map-append meaning (flat_map f (take i xs)) (f x))
    ∙ sym (ap (map meaning) all)

-- and the first that means nothing is behind them
pub unknown_step : {X Item Entry : Type 0} (f : X → List Item) (meaning : Item
    → Option Entry) (all : List Item) (xs : List X) (i : ℕ) (x : X)
    (old new : List Entry) → i < length xs → x ≡ get_or xs i x → map Some new ≡ map Some old ++ map meaning (f x)
    → unknown_from meaning 0 all ≡ unknown_from meaning (length old) (flat_map f (drop i xs))
    → unknown_from meaning 0 all ≡ unknown_from meaning (length new) (flat_map f (drop (i + 1) xs))
unknown_step f meaning all xs i x old new less is added first =
    let rest = flat_map f (drop (suc i) xs) in
    let long : length old + length (f x) ≡ length new =
    omega (
      arith,
      sym (length-map new Some) ∙ ap length added ∙ length-append (map Some old) (map meaning (f x)),
      length-map old Some,
      length-map (f x) meaning,
    ) in
    let next : suc i ≡ i + 1 = omega arith in
    first ∙ ap (unknown_from meaning (length old)) (flat_map-drop f xs i x less is)
    ∙ position_from-append (λ item. is_none (meaning item)) (f x) rest (length old)
    ∙ ap (λ found. option_or found (unknown_from meaning (length old + length (f x)) rest))
    (none_unknown meaning (map Some old) new (f x) (length old) added)
    ∙ ap (λ n. unknown_from meaning n rest) long
    ∙ ap (λ n. unknown_from meaning (length new) (flat_map f (drop n xs))) next
