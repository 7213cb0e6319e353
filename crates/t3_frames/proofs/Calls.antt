-- Frames that call and return, as values on one stack.
use Rattle.std.proofs.Common.{◌≡◌, ℕ, ◌+◌, ◌-◌, min, List, [], ◌∷◌, ◌++◌, reverse, length, take, drop, replicate, append_assoc, append-nil, Option, Some, None, refl, sym, ap, ◌∙◌, arith}
use Rattle.std.specs.Option.{option_to_list}
use Rattle.std.proofs.lemmas.List.{reverse-append, length-append, length-reverse, length-take, length-replicate, take_at, drop_at}
use Rattle.t3_holder.specs.declared.holder.Holder.{Holder}
use Rattle.t3_holder.specs.declared.holder.Holder.TheVariants.{Nil}
use Rattle.t3_frames.specs.declared.call.Call.{Call}
use Rattle.t3_frames.specs.declared.mark.FrameMark.{FrameMark}
use Rattle.t3_frames.specs.declared.mark.OlderMark.{OlderMark}
use Rattle.t3_frames.specs.Frame.{FrameValue, FramesValue, of_newest, with_operands, arguments_of, called, enters}
use Rattle.t3_frames.specs.Inner.Marks.{frame_of, below, older_of, frames_of, called_mark}
use Rattle.t3_frames.proofs.Tops.{reverse-take, reverse-drop, reverse-replicate, takes, drops, drop-drop}

-- ---- what lies on the stack when a method is called

-- nils are put below the topmost values
reverse-below : (items under : List Holder) (at above missing : ℕ) → at + above ≡ length items
    → under ≡ take at items ++ (replicate missing Nil ++ drop at items)
    → reverse under ≡ (take above (reverse items) ++ replicate missing Nil) ++ drop above (reverse items)
reverse-below items under at above missing sum is =
    let nils : List Holder = replicate missing Nil in
    let upper : reverse (nils ++ drop at items) ≡ take above (reverse items) ++ nils =
    reverse-append nils (drop at items) ∙ (λ i. reverse-drop items at above sum i ++ reverse-replicate missing i) in
    ap reverse is ∙ reverse-append (take at items) (nils ++ drop at items)
    ∙ (λ i. upper i ++ reverse-take items at above sum i)

reverse-option : (value : Option Holder) → reverse (option_to_list value) ≡ option_to_list value
reverse-option None = refl
reverse-option (Some value) = refl

-- what is laid is put on top, and then the locals
reverse-laid : (under laid_items more : List Holder) (laid : Option Holder) (locals : ℕ) → laid_items ≡ under ++ option_to_list laid
    → more ≡ laid_items ++ replicate locals Nil
    → reverse more ≡ replicate locals Nil ++ (option_to_list laid ++ reverse under)
reverse-laid under laid_items more laid locals lays is =
    let nils : List Holder = replicate locals Nil in
    let lower : reverse laid_items ≡ option_to_list laid ++ reverse under =
    ap reverse lays ∙ reverse-append under (option_to_list laid) ∙ ap (λ (t : List Holder). t ++ reverse under) (reverse-option laid) in
    ap reverse is ∙ reverse-append laid_items nils ∙ (λ i. reverse-replicate locals i ++ lower i)

-- ---- the frame of what is called

-- its locals lie on its arguments, and the missing ones below those that are given
called_frame : (tops given rest : List Holder) (call : Call) (locals missing : ℕ)
    → tops ≡ replicate locals Nil ++ ((given ++ replicate missing Nil) ++ rest)
    → (frame_of tops 0 (called_mark call (length given) missing locals) ≡ called call locals missing given)
    × (below tops 0 (called_mark call (length given) missing locals) ≡ rest)
called_frame tops given rest call locals missing is =
    let nils : List Holder = replicate locals Nil in
    let all : List Holder = given ++ replicate missing Nil in
    let count : ℕ = length given + missing in
    let own : take locals tops ≡ nils = ap (take locals) is ∙ take_at nils (all ++ rest) locals (length-replicate locals Nil) in
    let outer : drop locals tops ≡ all ++ rest = ap (drop locals) is ∙ drop_at nils (all ++ rest) locals (length-replicate locals Nil) in
    let long : length all ≡ count =
    length-append given (replicate missing Nil) ∙ ap (λ n. length given + n) (length-replicate missing Nil) in
    let arguments : take count (drop locals tops) ≡ all = ap (take count) outer ∙ take_at all rest count long in
    let under : drop count (drop locals tops) ≡ rest = ap (drop count) outer ∙ drop_at all rest count long in
    ((λ i. record (called call locals missing given) { arguments = arguments i; locals = own i }), under)

-- all frames, the newest first
abbrev each_frame : FramesValue → List FrameValue
each_frame frames = frames.newest ∷ frames.older

-- what the newest frame calls is the newest, and its arguments have left the operands
pub calls : (items under laid_items more : List Holder) (o at above given left none : ℕ) (mark newest : FrameMark) (call : Call)
    (locals missing : ℕ) (older : List OlderMark)
    → at + above ≡ length items → above ≡ min call.count o → given ≡ length (option_to_list call.laid) + above → left ≡ o - above → none ≡ 0
    → under ≡ take at items ++ (replicate missing Nil ++ drop at items)
    → laid_items ≡ under ++ option_to_list call.laid → more ≡ laid_items ++ replicate locals Nil
    → newest ≡ called_mark call given missing locals
    → frames_of (reverse more) none newest (record { mark = mark; operands = left } ∷ older)
    ≡ enters call locals missing (frames_of (reverse items) o mark older)
calls items under laid_items more o at above given left none mark newest call locals missing older sum least counted rest empty puts lays is
    same =
    let tops = reverse items in
    let laid = option_to_list call.laid in
    let nils : List Holder = replicate missing Nil in
    let caller : OlderMark = record { mark = mark; operands = left } in
    let arguments : List Holder = laid ++ take above tops in
    let others : List Holder = drop above tops in
    let lie : reverse more ≡ replicate locals Nil ++ ((arguments ++ nils) ++ others) =
    reverse-laid under laid_items more call.laid locals lays is
    ∙ ap (λ (t : List Holder). replicate locals Nil ++ t)
    (ap (λ (t : List Holder). laid ++ t) (reverse-below items under at above missing sum puts)
    ∙ sym (append_assoc laid (take above tops ++ nils) others)
    ∙ ap (λ (t : List Holder). t ++ others) (sym (append_assoc laid (take above tops) nils))) in
    let long : given ≡ length arguments =
    omega (arith, counted, sum, length-append laid (take above tops), length-take above tops, length-reverse items) in
    let frame = called_frame (reverse more) arguments others call locals missing lie in
    let shown : arguments ≡ arguments_of call (take o tops) =
    ap (λ (t : List Holder). laid ++ t) (ap (λ n. take n tops) least ∙ takes tops call.count o) in
    let back : frames_of others left mark older ≡ of_newest (with_operands (drop call.count (take o tops))) (frames_of tops o mark older) =
    (λ i. frames_of (drop (least i) tops) left mark older)
    ∙ drops tops o left mark older call.count (rest ∙ ap (λ n. o - n) least) in
    (λ i. frames_of (reverse more) (empty i) ((same ∙ ap (λ n. called_mark call n missing locals) long) i) (caller ∷ older))
    ∙ (λ i. record { newest = frame.0 i; older = older_of (frame.1 i) (caller ∷ older) })
    ∙ (λ i. record { newest = called call locals missing (shown i); older = each_frame (back i) })

-- on a stack that was cleared
pub begins : (cleared under laid_items more : List Holder) (o given : ℕ) (mark : FrameMark) (older : List OlderMark) (call : Call)
    (locals missing : ℕ) (argument : Option Holder)
    → cleared ≡ [] → older ≡ [] → given ≡ length (option_to_list argument) → o ≡ 0
    → under ≡ cleared ++ replicate missing Nil → laid_items ≡ under ++ option_to_list argument → more ≡ laid_items ++ replicate locals Nil
    → mark ≡ called_mark call given missing locals
    → frames_of (reverse more) o mark (reverse older) ≡ record { newest = called call locals missing (option_to_list argument); older = [] }
begins cleared under laid_items more o given mark older call locals missing argument bare alone counted empty puts lays is same =
    let arguments = option_to_list argument in
    let nils : List Holder = replicate missing Nil in
    let lower : reverse under ≡ nils = ap reverse (puts ∙ ap (λ (t : List Holder). t ++ nils) bare) ∙ reverse-replicate missing in
    let lie : reverse more ≡ replicate locals Nil ++ ((arguments ++ nils) ++ []) =
    reverse-laid under laid_items more argument locals lays is
    ∙ ap (λ (t : List Holder). replicate locals Nil ++ t)
    (ap (λ (t : List Holder). arguments ++ t) lower ∙ sym (append-nil (arguments ++ nils))) in
    let frame = called_frame (reverse more) arguments [] call locals missing lie in
    (λ i. frames_of (reverse more) (empty i) ((same ∙ ap (λ n. called_mark call n missing locals) counted) i) (reverse (alone i)))
    ∙ (λ i. record { newest = frame.0 i; older = [] })

-- ---- going back to the caller

-- without the values of the newest frame its callers are all frames
pub leaves : (items less : List Holder) (o left back : ℕ) (mark : FrameMark) (caller : OlderMark) (marks others : List OlderMark)
    → less ≡ take left items → left + (o + mark.locals + mark.arguments) ≡ length items → back ≡ caller.operands → marks ≡ caller ∷ others
    → (frames_of (reverse items) o mark marks).older ≡ each_frame (frames_of (reverse less) back caller.mark others)
leaves items less o left back mark caller marks others is sum operands all =
    let tops = reverse items in
    let gone = o + mark.locals + mark.arguments in
    let under : below tops o mark ≡ reverse less =
    ap (drop mark.arguments) (drop-drop mark.locals o tops) ∙ drop-drop mark.arguments (o + mark.locals) tops
    ∙ sym (ap reverse is ∙ reverse-take items left gone sum) in
    (λ i. older_of (under i) (all i)) ∙ (λ i. each_frame (frames_of (reverse less) (sym operands i) caller.mark others))

-- ---- dropping all operands

-- without its operands a frame is the same otherwise
pub clears : (tops : List Holder) (o left : ℕ) (mark : FrameMark) (older : List OlderMark) → left ≡ 0
    → frames_of (drop o tops) left mark older ≡ of_newest (with_operands []) (frames_of tops o mark older)
clears tops o left mark older is = λ i. frames_of (drop o tops) (is i) mark older
