-- For other crates too: what the pieces of a file give, one after the other.
use Rattle.std.proofs.Common.{◌≡◌, ℕ, ◌+◌, ◌≤◌, List, [], ◌++◌, length, take, drop, Option, Some, None, Ok, refl, sym, ap, subst, ◌∙◌, arith}
use Rattle.std.specs.FinMap.{get}
use Rattle.std.specs.Global.{Vec}
use Rattle.std.specs.Option.{option_map}
use Rattle.std.proofs.lemmas.List.{take-append-drop, take-take, take_all, drop-take}
use Rattle.t3_io.specs.Files.{Files}
use Rattle.t3_io.specs.Reading.{IsAtMost}
use Rattle.t3_io.specs.declared.depot.Got.{Got}
use Rattle.t3_io.specs.declared.depot.Got.TheVariants as got
use Rattle.t3_files.specs.Reading.{read_bytes, read_limit, IsPiece, PieceOf, GivesPiece, ReadsFile, TakesPrefix, TakesSoFar, IsEndOf, IsEnd}

-- ---- one file

take_add : {X : Type 0} (at n : ℕ) (xs : List X) → take (at + n) xs ≡ take at xs ++ take n (drop at xs)
take_add at n xs =
    let m = at + n in
    sym (take-append-drop at (take m xs)) ∙ (λ i. take-take at m xs (omega arith) i ++ drop-take at n xs i)

-- the prefix and the piece are the prefix up to the end of the piece
pub prefix_and_piece : (file taken buffer : List ℕ) (at want count : ℕ) → taken ≡ take at file → IsPiece file at want buffer count
    → taken ++ take count buffer ≡ take (at + count) file
prefix_and_piece file taken buffer at want count so_far piece = (λ i. so_far i ++ piece.is i) ∙ sym (take_add at count file)

-- a prefix of the file is one of what is read of it
pub prefix_of_read : (file : List ℕ) (at : ℕ) → at ≤ read_limit → read_bytes file ≡ take at file ++ drop at (read_bytes file)
prefix_of_read file at le =
    sym (take-append-drop at (read_bytes file)) ∙ ap (λ t. t ++ drop at (read_bytes file)) (take-take at read_limit file le)

-- a whole file, or all that is read of it
whole_file : (file : List ℕ) (at : ℕ) → at ≤ read_limit → length file ≤ at → take at file ≡ read_bytes file
whole_file file at le short = take_all at file short ∙ sym (take_all read_limit file (omega arith))

-- ---- the file of a name, if there is one

pub none_so_far : (files : Option Files) (name : List ℕ) → TakesSoFar files name [] 0
none_so_far None name = tt
none_so_far (Some files) name = prefix_none (get files name)
  where
    prefix_none : (o : Option (List ℕ)) → TakesPrefix o [] 0
    prefix_none None = refl
    prefix_none (Some file) = refl

more_of : (o : Option (List ℕ)) (taken buffer : List ℕ) (at want count : ℕ) → TakesPrefix o taken at
    → PieceOf o at want buffer (got.Count count) → TakesPrefix o (taken ++ take count buffer) (at + count)
more_of None taken buffer at want count so_far piece = absurd piece
more_of (Some file) taken buffer at want count so_far piece = prefix_and_piece file taken buffer at want count so_far piece

pub so_far_more : (files : Option Files) (name taken buffer : List ℕ) (at want count : ℕ) → TakesSoFar files name taken at
    → GivesPiece files name at want buffer (Ok (got.Count count)) → TakesSoFar files name (taken ++ take count buffer) (at + count)
so_far_more None name taken buffer at want count so_far piece = tt
so_far_more (Some files) name taken buffer at want count so_far piece = more_of (get files name) taken buffer at want count so_far piece

-- a read that gave nothing was at the end
pub ends_nothing : (files : Option Files) (name buffer : List ℕ) (at want : ℕ) → GivesPiece files name at want buffer (Ok (got.Count 0))
    → at ≤ read_limit → IsEnd files name at
ends_nothing None name buffer at want piece near = tt
ends_nothing (Some files) name buffer at want piece near = ended_of (get files name) piece
  where
    ended_of : (o : Option (List ℕ)) → PieceOf o at want buffer (got.Count 0) → IsEndOf o at
    ended_of None piece = absurd piece
    ended_of (Some file) piece = whole_file file at near (piece.ended refl)

-- and no more is read behind the limit
pub ends_limit : (files : Option Files) (name : List ℕ) (at : ℕ) → at ≡ read_limit → IsEnd files name at
ends_limit None name at limit = tt
ends_limit (Some files) name at limit = ended_of (get files name)
  where
    ended_of : (o : Option (List ℕ)) → IsEndOf o at
    ended_of None = λ none. absurd (omega (arith, limit, none))
    ended_of (Some file) = ap (λ n. take n file) limit

-- ---- what one read gave, as the steps of a loop have it

pub piece_is : (a b : Option Files) (name buffer : List ℕ) (at want : ℕ) (gave found : Got) → a ≡ b → gave ≡ found
    → GivesPiece a name at want buffer (Ok gave) → GivesPiece b name at want buffer (Ok found)
piece_is a b name buffer at want gave found same is piece =
    subst (λ f. GivesPiece f name at want buffer (Ok found)) same (subst (λ x. GivesPiece a name at want buffer (Ok x)) is piece)

pub count_within : (want count : ℕ) (gave : Got) → gave ≡ got.Count count → IsAtMost want gave → count ≤ want
count_within want count gave is within = subst (λ x. IsAtMost want x) is within

-- ---- a file whose bytes are kept

-- so much of it was taken
pub record HasTaken (files : Option Files) (name text : List ℕ) (at : ℕ) : Type 0 where
  pub so_far : TakesSoFar files name text at

pub takes_more : (files : Option Files) (name text more buffer : List ℕ) (at want count : ℕ) → HasTaken files name text at
    → GivesPiece files name at want buffer (Ok (got.Count count)) → more ≡ text ++ take count buffer → HasTaken files name more (at + count)
takes_more files name text more buffer at want count has piece is =
    record { so_far = subst (λ t. TakesSoFar files name t (at + count)) (sym is) (so_far_more files name text buffer at want count has.so_far piece) }

file_text : (files : Option Files) (name : List ℕ) (text : Vec ℕ) (at : ℕ) → TakesSoFar files name text.items at → IsEnd files name at
    → ReadsFile files name (Ok (Some text))
file_text None name text at so_far ended = tt
file_text (Some files) name text at so_far ended = whole (get files name) so_far ended
  where
    whole : (o : Option (List ℕ)) → TakesPrefix o text.items at → IsEndOf o at → Some text.items ≡ option_map read_bytes o
    whole None so_far ended = absurd (ended so_far)
    whole (Some file) so_far ended = ap Some (so_far ∙ ended)

pub file_ended : (files : Option Files) (name buffer : List ℕ) (text : Vec ℕ) (at want : ℕ) → HasTaken files name text.items at
    → GivesPiece files name at want buffer (Ok (got.Count 0)) → at ≤ read_limit → ReadsFile files name (Ok (Some text))
file_ended files name buffer text at want has piece near =
    file_text files name text at has.so_far (ends_nothing files name buffer at want piece near)

pub file_limit : (files : Option Files) (name : List ℕ) (text : Vec ℕ) (at : ℕ) → HasTaken files name text.items at → at ≡ read_limit
    → ReadsFile files name (Ok (Some text))
file_limit files name text at has limit = file_text files name text at has.so_far (ends_limit files name at limit)
