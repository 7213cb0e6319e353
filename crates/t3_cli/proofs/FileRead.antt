-- What the pieces of a file give, one after the other.
use Rattle.std.proofs.Common.{◌≡◌, ℕ, ◌+◌, ◌≤◌, List, [], ◌++◌, length, take, drop, Option, Some, None, IfSome, Result, Ok, Err, refl, sym, ap, subst, ◌∙◌, arith}
use Rattle.std.specs.FinMap.{get}
use Rattle.std.specs.Global.{Vec}
use Rattle.std.proofs.lemmas.List.{take-take, length-append, length-take-le}
use Rattle.t3_io.specs.Files.{Files}
use Rattle.t3_io.specs.declared.depot.Got.TheVariants as got
use Rattle.t3_io.specs.declared.refusal.DeviceRefusal.{DeviceRefusal}
use Rattle.t3_io.specs.declared.refusal.DeviceRefusal.TheVariants as device
use Rattle.t3_image_read.specs.declared.reader.Fed.{Fed}
use Rattle.t3_image_read.specs.declared.reader.Fed.TheVariants.{More, Done}
use Rattle.t3_image_read.specs.declared.refusal.ReadWhy.{ReadWhy}
use Rattle.t3_image_read.specs.declared.refusal.ReadRefusal.{ReadRefusal}
use Rattle.t3_image_read.specs.declared.refusal.ReadRefusal.TheVariants.{At, NoMemory}
use Rattle.t3_image_read.specs.declared.refusal.ReadWhy.TheVariants.{Truncated}
use Rattle.t3_image_read.specs.ImageText.{ImageValue, text}
use Rattle.t3_image_read.specs.Refusal.{Refused}
use Rattle.t3_image_read.specs.Reader.{Reading, Taking, Ended, Failed, RefusesBy, EndsIn, TakesPiece, AreParts, FinishesAs, FinishesParts}
use Rattle.t3_image_read.specs.declared.reader.ImageParts.{ImageParts}
use Rattle.t3_image_write.specs.Masks.{masked_image}
use Rattle.t3_image_write.specs.Rewriting.{HasRewritten}
use Rattle.t3_image_read.proofs.Lists.{take_add}
use Rattle.t3_files.specs.Reading.{read_bytes, read_limit, PieceOf, GivesPiece, ReadsFile, TakesPrefix, TakesSoFar, IsEndOf, IsEnd}
use Rattle.t3_files.proofs.Pieces.{prefix_and_piece, prefix_of_read, none_so_far, so_far_more, ends_nothing, ends_limit}
use Rattle.t3_words.specs.Input.{InputFile, ImageFile, SourceFile}
use Rattle.t3_asm.specs.Refusals.{refusal}
use Rattle.t3_cli.specs.Outcome.{assembled, BeginsWith}
use Rattle.t3_cli.specs.Cause.{HasImage}
use Rattle.std.specs.Option.{option_map}
use Rattle.std.specs.Result.{IsErr, IsErrAnd}
use Rattle.t3_cli.specs.declared.images.no_image.NoImage.{NoImage}
use Rattle.t3_cli.specs.declared.images.no_image.NoImage.TheVariants as none
use Rattle.t3_cli.specs.Inner.NoImage.{HasNoImage, no_image_of}
use Rattle.t3_cli.specs.Inner.Reading.{ReadsImage, ReadsPieces, HasRead, IsFed, IsImage, IsRewritten, IsAssembled}

-- ---- the file of a name, if there is one

abbrev BeginsIn : Option (List ℕ) → ImageValue → Type 0
BeginsIn o image = (file : List ℕ) × (o ≡ Some file) × BeginsWith (read_bytes file) image

abbrev IsRefusedIn : Option (List ℕ) → ℕ → ReadWhy → Type 0
IsRefusedIn o place why = (file : List ℕ) × (o ≡ Some file) × Refused (read_bytes file) place why

done_of : (o : Option (List ℕ)) (taken buffer : List ℕ) (at want count used : ℕ) (image : ImageValue) → TakesPrefix o taken at
    → PieceOf o at want buffer (got.Count count) → length taken ≡ at → count ≤ length buffer → at + want ≤ read_limit
    → EndsIn taken (take count buffer) used image → BeginsIn o image
done_of None taken buffer at want count used image so_far piece long there near ends = absurd piece
done_of (Some file) taken buffer at want count used image so_far piece long there near ends =
    let within : used ≤ count = omega (arith, ends.within, length-take-le count buffer there) in
    let part : take used (take count buffer) ≡ take used (drop at file) = ap (take used) piece.is ∙ take-take used count (drop at file) within in
    let is : text image ≡ take (at + used) file = ends.is ∙ (λ i. so_far i ++ part i) ∙ sym (take_add at used file) in
    let fits = piece.fits in (
      file,
      refl,
      record {
        trailing = drop (at + used) (read_bytes file);
        valid = ends.valid;
        begins = prefix_of_read file (at + used) (omega arith) ∙ ap (λ t. t ++ drop (at + used) (read_bytes file)) (sym is);
      },
    )

refused_of : (o : Option (List ℕ)) (taken buffer : List ℕ) (at want count : ℕ) (place : ℕ) (why : _) → TakesPrefix o taken at
    → PieceOf o at want buffer (got.Count count) → at + want ≤ read_limit
    → RefusesBy (taken ++ take count buffer) (At place why) → IsRefusedIn o place why
refused_of None taken buffer at want count place why so_far piece near refuses = absurd piece
refused_of (Some file) taken buffer at want count place why so_far piece near refuses =
    let fits = piece.fits in
    let whole : (taken ++ take count buffer) ++ drop (at + count) (read_bytes file) ≡ read_bytes file = ap (λ t. t ++ drop (at + count) (read_bytes file)) (prefix_and_piece file taken buffer at want count so_far piece) ∙ sym (prefix_of_read file (at + count) (omega arith)) in
    (file, refl, subst (λ s. Refused s place why) whole (refuses.1 (drop (at + count) (read_bytes file))))

-- ---- the device's files, where it tells them

pub begins_reading : (files : Option Files) (name : List ℕ) (reader : Reading) → reader ≡ Taking [] → HasRead files name reader 0
begins_reading files name reader is = subst (λ r. HasRead files name r 0) (sym is) (refl, none_so_far files name)

-- something is so of the files where the device tells them
told : (files : Option Files) (Told : Files → Type 0) → ((all : Files) → files ≡ Some all → Told all) → IfSome files Told
told None Told so = tt
told (Some files) Told so = so files refl

-- of a failing device and of want of memory nothing is known
pub nothing_known : (files : Option Files) (from : InputFile) (refusal : DeviceRefusal)
    → IfSome files (HasNoImage from (none.Failed refusal))
nothing_known None from refusal = tt
nothing_known (Some files) from refusal = tt

-- what a piece adds to what is known, where the reader was taking
taking_more : (files : Option Files) (name taken buffer : List ℕ) (after : Reading) (at want count : ℕ) (answer : Result Fed ReadRefusal)
    → length taken ≡ at → TakesSoFar files name taken at → GivesPiece files name at want buffer (Ok (got.Count count))
    → count ≤ length buffer → at + want ≤ read_limit
    → TakesPiece taken (take count buffer) answer after → HasRead files name after (at + count)
taking_more files name taken buffer after at want count (Ok More) long so_far piece there near took =
    subst (λ r. HasRead files name r (at + count)) (sym took.0) (omega (arith, long, length-append taken (take count buffer), length-take-le count buffer there), so_far_more files name taken buffer at want count so_far piece)
taking_more files name taken buffer after at want count (Ok (Done used)) long so_far piece there near (image, is, ends) =
    subst (λ r. HasRead files name r (at + count)) (sym is) (
    told files (λ all. HasImage (ImageFile name) all image) (λ all e.
    done_of (get all name) taken buffer at want count used image (subst (λ f. TakesSoFar f name taken at) e so_far) (subst (λ f. GivesPiece f name at want buffer (Ok (got.Count count))) e piece) long there near ends)
    )
taking_more files name taken buffer after at want count (Err (At place why)) long so_far piece there near took =
    subst (λ r. HasRead files name r (at + count)) (sym took.0) (
    told files (HasNoImage (ImageFile name) (none.Refused place why)) (λ all e.
    refused_of (get all name) taken buffer at want count place why (subst (λ f. TakesSoFar f name taken at) e so_far) (subst (λ f. GivesPiece f name at want buffer (Ok (got.Count count))) e piece) near took.1)
    )
taking_more files name taken buffer after at want count (Err NoMemory) long so_far piece there near took =
    subst (λ r. HasRead files name r (at + count)) (sym took.0) (nothing_known files (ImageFile name) device.NoMemory)

pub reads_more : (files : Option Files) (name buffer : List ℕ) (reader after : Reading) (at want count : ℕ) → HasRead files name reader at
    → GivesPiece files name at want buffer (Ok (got.Count count)) → count ≤ length buffer → at + want ≤ read_limit
    → IsFed reader (take count buffer) after → HasRead files name after (at + count)
reads_more files name buffer (Taking taken) after at want count has piece there near fed =
    taking_more files name taken buffer after at want count fed.0 has.0 has.1 piece there near fed.1
reads_more files name buffer (Ended image) after at want count has piece there near fed =
    subst (λ r. HasRead files name r (at + count)) (sym fed.1.1) has
reads_more files name buffer (Failed refusal) after at want count has piece there near fed =
    subst (λ r. HasRead files name r (at + count)) (sym fed.1.1) has

-- ---- the end of a file

pub reads_ended : (files : Option Files) (name buffer : List ℕ) (reader : Reading) (at want : ℕ) → HasRead files name reader at
    → GivesPiece files name at want buffer (Ok (got.Count 0)) → at ≤ read_limit → ReadsPieces files name reader (Ok tt)
reads_ended files name buffer reader at want has piece near = (at, has, ends_nothing files name buffer at want piece near)

pub reads_limit : (files : Option Files) (name : List ℕ) (reader : Reading) (at : ℕ) → HasRead files name reader at → at ≡ read_limit
    → ReadsPieces files name reader (Ok tt)
reads_limit files name reader at has limit = (at, has, ends_limit files name at limit)

absent_of : (o : Option (List ℕ)) (buffer : List ℕ) (at want : ℕ) → PieceOf o at want buffer got.Absent → o ≡ None
absent_of None buffer at want piece = refl
absent_of (Some file) buffer at want piece = absurd piece

pub reads_absent : (files : Option Files) (name buffer : List ℕ) (at want : ℕ) → GivesPiece files name at want buffer (Ok got.Absent)
    → IfSome files (HasNoImage (ImageFile name) none.Absent)
reads_absent None name buffer at want piece = tt
reads_absent (Some files) name buffer at want piece = absent_of (get files name) buffer at want piece

-- ---- what a reader gives that is done with

cut_of : (o : Option (List ℕ)) (taken : List ℕ) (at place : ℕ) → TakesPrefix o taken at → IsEndOf o at → Refused taken place Truncated
    → IsRefusedIn o place Truncated
cut_of None taken at place so_far ended refused = absurd (ended so_far)
cut_of (Some file) taken at place so_far ended refused = (file, refl, subst (λ s. Refused s place Truncated) (so_far ∙ ended) refused)

-- a reader that had taken all refuses the file for being cut
cut_at : (files : Option Files) (name taken : List ℕ) (at place : ℕ) → TakesSoFar files name taken at → IsEnd files name at
    → Refused taken place Truncated → IfSome files (HasNoImage (ImageFile name) (none.Refused place Truncated))
cut_at files name taken at place so_far ended refused =
    told files (HasNoImage (ImageFile name) (none.Refused place Truncated)) (λ all e.
    cut_of (get all name) taken at place (subst (λ f. TakesSoFar f name taken at) e so_far) (subst (λ f. IsEnd f name at) e ended) refused)

-- what is told of the image of a file
pub tells_image : {V : Type 0} (told_of : ImageValue → V) (files : Option Files) (name : List ℕ) (reader : Reading) (value : V)
    → ReadsPieces files name reader (Ok tt) → FinishesAs told_of reader (Ok value)
    → ReadsImage (λ image made. made ≡ told_of image) (ImageFile name) files (Ok value)
tells_image told_of files name (Taking taken) value reads finishes = absurd (let clash = finishes.1 in cc)
tells_image told_of files name (Ended image) value reads finishes = (image, reads.1, let is : value ≡ told_of image = cc in is)
tells_image told_of files name (Failed refusal) value reads finishes = absurd (let clash = finishes in cc)

-- and why there is none
pub tells_refusal : {V : Type 0} (told_of : ImageValue → V) (files : Option Files) (name : List ℕ) (reader : Reading)
    (refusal : ReadRefusal)
    → ReadsPieces files name reader (Ok tt) → FinishesAs told_of reader (Err refusal)
    → IfSome files (HasNoImage (ImageFile name) (no_image_of refusal))
tells_refusal told_of files name (Taking taken) refusal reads finishes =
    let same : At finishes.0 Truncated ≡ refusal = let e = finishes.1 in cc in
    subst (λ (r : ReadRefusal). IfSome files (HasNoImage (ImageFile name) (no_image_of r))) same
    (cut_at files name taken reads.0 finishes.0 reads.1.1 reads.2 finishes.2)
tells_refusal told_of files name (Ended image) refusal reads finishes = absurd (let clash = finishes in cc)
tells_refusal told_of files name (Failed other) refusal reads finishes =
    let same : other ≡ refusal = let e = finishes in cc in
    subst (λ (r : ReadRefusal). IfSome files (HasNoImage (ImageFile name) (no_image_of r))) same reads.1

-- ---- what is written of the image of a file

-- the parts that a reader gave are those of the image that it ended with
pub parts_are : (mask : Option ℕ) (reader : Reading) (parts : ImageParts (List ℕ))
    → FinishesParts (HasRewritten mask) reader (Ok parts)
    → (image : ImageValue) × (reader ≡ Ended image) × AreParts (HasRewritten mask) image parts
parts_are mask (Taking taken) parts finishes = absurd (let clash = finishes.1 in cc)
parts_are mask (Ended image) parts finishes =
    let same : finishes.0 ≡ parts = let e = finishes.1 in cc in
    (image, refl, subst (λ p. AreParts (HasRewritten mask) image p) same finishes.2)
parts_are mask (Failed refusal) parts finishes = absurd (let clash = finishes in cc)

pub writes_text : (under mask : Option ℕ) (files : Option Files) (name : List ℕ) (reader : Reading) (parts : ImageParts (List ℕ))
    (written : Vec ℕ) → under ≡ mask → ReadsPieces files name reader (Ok tt) → FinishesParts (HasRewritten mask) reader (Ok parts)
    → ((image : ImageValue) → AreParts (HasRewritten mask) image parts → written.items ≡ text (masked_image mask image))
    → ReadsImage (IsRewritten under) (ImageFile name) files (Ok written)
writes_text under mask files name reader parts written same reads finishes is =
    let are = parts_are mask reader parts finishes in
    let ended = subst (λ r. ReadsPieces files name r (Ok tt)) are.1 reads in
    (are.0, ended.1, is are.0 are.2 ∙ ap (λ m. text (masked_image m are.0)) (sym same))

-- a reader that wrote refuses as every other does
pub refuses_parts : (mask : Option ℕ) (files : Option Files) (name : List ℕ) (reader : Reading) (refusal : ReadRefusal)
    → ReadsPieces files name reader (Ok tt) → FinishesParts (HasRewritten mask) reader (Err refusal)
    → IfSome files (HasNoImage (ImageFile name) (no_image_of refusal))
refuses_parts mask files name reader refusal reads finishes =
    tells_refusal (λ (image : ImageValue). image) files name reader refusal reads (as_refusal reader finishes)
  where
    as_refusal : (reader : Reading) → FinishesParts (HasRewritten mask) reader (Err refusal)
        → FinishesAs (λ (image : ImageValue). image) reader (Err refusal)
    as_refusal (Taking taken) finishes =
        let same : refusal ≡ At finishes.0 Truncated = let e = finishes.1 in cc in
        (finishes.0, ap Err same, finishes.2)
    as_refusal (Ended image) finishes = absurd (let clash = finishes.1 in cc)
    as_refusal (Failed other) finishes = let same : refusal ≡ other = let e = finishes in cc in ap Err same

-- ---- why nothing was read, as it is handed on

pub reads_err : {T : Type 0} (IsMade : ImageValue → T → Type 0) (from : InputFile) (files : Option Files) (answer : Result T NoImage)
    (why : NoImage)
    → IsErr answer × IsErrAnd answer (λ e. e ≡ why) → IfSome files (HasNoImage from why) → ReadsImage IsMade from files answer
reads_err IsMade from files (Ok made) why gives unread = absurd gives.1
reads_err IsMade from files (Err e) why gives unread = subst (λ (w : NoImage). IfSome files (HasNoImage from w)) (sym gives.1) unread

-- ---- a source's file

file_there : (o : Option (List ℕ)) (bytes : List ℕ) → Some bytes ≡ option_map read_bytes o
    → (file : List ℕ) × (o ≡ Some file) × (bytes ≡ read_bytes file)
file_there None bytes is = absurd cc
file_there (Some file) bytes is = (file, refl, let same : bytes ≡ read_bytes file = cc in same)

pub reads_assembled : (files : Option Files) (name : List ℕ) (source : Vec ℕ) (answer : Result ImageValue NoImage)
    → ReadsFile files name (Ok (Some source)) → IsAssembled source.items answer → ReadsImage IsImage (SourceFile name) files answer
reads_assembled None name source (Ok image) reads says = (image, tt, refl)
reads_assembled (Some files) name source (Ok image) reads says =
    let there = file_there (get files name) source.items reads in
    (image, (there.0, there.1, subst (λ (bytes : List ℕ). assembled bytes ≡ Ok image) there.2 says), refl)
reads_assembled None name source (Err (none.BadLine line why)) reads says = tt
reads_assembled (Some files) name source (Err (none.BadLine line why)) reads says =
    let there = file_there (get files name) source.items reads in
    (there.0, there.1, subst (λ (bytes : List ℕ). assembled bytes ≡ Err (refusal line why)) there.2 says)
reads_assembled files name source (Err (none.Failed refusal)) reads says = nothing_known files (SourceFile name) refusal
reads_assembled files name source (Err none.Absent) reads says = absurd says
reads_assembled files name source (Err (none.Refused place why)) reads says = absurd says
