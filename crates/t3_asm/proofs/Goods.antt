-- The blocks of lines that break no rule are good.
use Rattle.std.proofs.Common.{◌≡◌, ℕ, ◌+◌, ◌^◌, ◌<◌, Bool, true, false, ◌&&◌, ◌||◌, not, cond, List, [], ◌∷◌, length, slice_get, Option, Some, None, refl, sym, ap, subst, ◌∙◌, lit<, eqb-true, arith}
use Rattle.std.specs.List.{AllByRecursion}
use Rattle.std.proofs.lemmas.Bool.{leb-false, ltb-false}
use Rattle.t3_blocks.specs.Spelling.{IsStatic, IsMeta, IsProp, IsName, IsSymbol, size_width, meta_text}
use Rattle.t3_blocks.proofs.Sizes.{length_meta_text}
use Rattle.t3_asm_line.specs.declared.argument.Argument.{Argument}
use Rattle.t3_asm_line.specs.declared.argument.Argument.TheVariants as arguments
use Rattle.t3_asm_line.specs.declared.keyword.Keyword.{Keyword}
use Rattle.t3_asm_line.specs.declared.keyword.Keyword.TheVariants as of
use Rattle.t3_asm.specs.declared.item.Item.{Item}
use Rattle.t3_asm.specs.declared.level.Level.TheVariants.{InEntry}
use Rattle.t3_asm.specs.declared.refusal.AsmWhy.{AsmWhy}
use Rattle.t3_asm.specs.declared.refusal.AsmWhy.TheVariants as whys
use Rattle.t3_asm.specs.declared.refusal.AsmRefusal.{AsmRefusal}
use Rattle.t3_asm.specs.declared.stage.Stage.{Stage}
use Rattle.t3_asm.specs.declared.stage.Stage.TheVariants as stages
use Rattle.t3_asm.specs.declared.values.Rule.TheVariants.{Missing, Far, Wide}
use Rattle.t3_asm.specs.Arguments.{number_in, number_at, short_at, text_at, extra_bytes}
use Rattle.t3_asm.specs.Blocks.{contents_of, ends, ends_block, is_object, is_meta, is_prop, is_function_set, is_symbol, statics_of, static_of, props_of, prop_of, metas_of, meta_of, names_of, set_of, symbols_of, symbol_of}
use Rattle.t3_asm.specs.Forms.{is_in_order, is_resized}
use Rattle.t3_asm.specs.Places.{Labels}
use Rattle.t3_asm.specs.Source.{is_many, is_crowded, flags_in, block_size, header_count, passes_limits, value_why, or_next, refused_from}
use Rattle.t3_asm.specs.Stages.{stage_behind, takes}
use Rattle.t3_asm.specs.Values.{line_breaks}
use Rattle.t3_asm.proofs.Chain.{IsSound, Follow}
use Rattle.t3_asm.proofs.Fits.{HasNames}

-- ---- numbers

number_in_fits : (argument : Option Argument) → number_in argument < 2 ^ 32
number_in_fits None = lit< tt
number_in_fits (Some (arguments.Number n)) = omega arith
number_in_fits (Some (arguments.Address label)) = lit< tt
number_in_fits (Some (arguments.Offset label)) = lit< tt
number_in_fits (Some (arguments.Text text)) = lit< tt

pub number_fits : (arguments : List Argument) (at : ℕ) → number_at arguments at < 2 ^ 32
number_fits arguments at = number_in_fits (slice_get arguments at)

pub short_fits : (arguments : List Argument) (at : ℕ) → short_at arguments at < 2 ^ 16
short_fits arguments at = omega arith

-- ---- what no refusal says of a line

pub record IsUnrefused (labels : Labels) (item : Item) (behind : List Item) (size count : ℕ) : Type 0 where
  pub roomy : is_crowded labels item behind item.keyword ≡ false
  pub within : (ends_block item.keyword && passes_limits size count) ≡ false

unrefused : (labels : Labels) (item : Item) (behind : List Item) (size count : ℕ) (missing far wide crowded long : Bool)
    → is_crowded labels item behind item.keyword ≡ crowded → (ends_block item.keyword && passes_limits size count) ≡ long
    → cond missing (Some whys.LabelMissing)
    (cond far (Some whys.Jump) (cond (wide || crowded) (Some whys.Range) (cond long (Some whys.TooLong) None))) ≡ None
    → IsUnrefused labels item behind size count
unrefused labels item behind size count true far wide crowded long c l is = absurd cc
unrefused labels item behind size count false true wide crowded long c l is = absurd cc
unrefused labels item behind size count false false true crowded long c l is = absurd cc
unrefused labels item behind size count false false false true long c l is = absurd cc
unrefused labels item behind size count false false false false true c l is = absurd cc
unrefused labels item behind size count false false false false false c l is = record { roomy = c; within = l }

value_why-None : (labels : Labels) (item : Item) (behind : List Item) (size count : ℕ)
    → value_why labels item behind size count ≡ None → IsUnrefused labels item behind size count
value_why-None labels item behind size count is =
    unrefused labels item behind size count (line_breaks Missing labels item) (line_breaks Far labels item) (line_breaks Wide labels item)
    (is_crowded labels item behind item.keyword) (ends_block item.keyword && passes_limits size count) refl refl is

-- the first of some lines isn't refused, nor the others
pub record AreUnrefused (labels : Labels) (size count : ℕ) (item : Item) (items : List Item) : Type 0 where
  pub first : IsUnrefused labels item items (size + block_size labels item items item.keyword) (count + header_count item.keyword)
  pub others : refused_from labels (size + block_size labels item items item.keyword) (count + header_count item.keyword) items ≡ None

or_next-None : (line : ℕ) (why : Option AsmWhy) (next : Option AsmRefusal) → or_next line why next ≡ None → (why ≡ None) × (next ≡ None)
or_next-None line None next is = (refl, is)
or_next-None line (Some why) next is = absurd cc

pub refused_from-None : (labels : Labels) (size count : ℕ) (item : Item) (items : List Item)
    → refused_from labels size count (item ∷ items) ≡ None → AreUnrefused labels size count item items
refused_from-None labels size count item items is =
    let now = size + block_size labels item items item.keyword in
    let headers = count + header_count item.keyword in
    let both = or_next-None item.line (value_why labels item items now headers) (refused_from labels now headers items) is in
    record { first = value_why-None labels item items now headers both.0; others = both.1 }

-- ---- lists

none : (b : Bool) → (b || false) ≡ b
none true = refl
none false = refl

pub few : (n : ℕ) → is_many n ≡ false → n < 2 ^ 16
few n is = omega (arith, ltb-false 65535 n is)

pub or_false : (a b : Bool) → (a || b) ≡ false → (a ≡ false) × (b ≡ false)
or_false true b is = absurd cc
or_false false b is = (refl, is)

pub and_true : (a b : Bool) → (a && b) ≡ true → (a ≡ true) × (b ≡ true)
and_true true b is = (refl, is)
and_true false b is = absurd cc

not_not : (b : Bool) → not b ≡ false → b ≡ true
not_not true is = refl
not_not false is = absurd cc

pub stands : (item : Item) → is_in_order item ≡ true → takes item.place.stage item.keyword ≡ true
stands item is = (and_true (takes item.place.stage item.keyword) _ is).0

-- properties of a metaclass
prop_size : (size : ℕ) (keyword : Keyword) (arguments : List Argument) → is_prop keyword ≡ true
    → is_resized (stages.Metaclass size) keyword arguments ≡ false → 2 + length (extra_bytes keyword arguments) ≡ size
prop_size size of.Prop arguments prop sized = sym (eqb-true _ _ (not_not _ sized))
prop_size size of.PropBytes arguments prop sized = sym (eqb-true _ _ (not_not _ sized))
prop_size size keyword arguments prop sized = absurd cc

-- a line that may stand among properties and isn't one ends them, or they go on
prop_stage : (size : ℕ) (keyword : Keyword) (arguments : List Argument) → takes (stages.Metaclass size) keyword ≡ true
    → ends InEntry keyword ≡ false → stage_behind (stages.Metaclass size) keyword arguments ≡ stages.Metaclass size
prop_stage size of.Prop arguments takes goes_on = refl
prop_stage size of.PropBytes arguments takes goes_on = refl
prop_stage size keyword arguments takes goes_on = absurd cc

props_by : (size : ℕ) (item : Item) (items : List Item) (ended begins : Bool)
    → ends InEntry item.keyword ≡ ended → is_prop item.keyword ≡ begins
    → item.place.stage ≡ stages.Metaclass size → IsSound item
    → (ended ≡ false → AllByRecursion (IsProp size) (props_of items))
    → AllByRecursion (IsProp size) (cond ended [] (cond begins (prop_of item items ∷ props_of items) (props_of items)))
props_by size item items true begins e b here sound others = tt
props_by size item items false true e b here sound others = (
  (
    short_fits item.arguments 0,
    prop_size size item.keyword item.arguments b
        (subst (λ s. is_resized s item.keyword item.arguments ≡ false) here sound.sized),
  ),
  others refl,
)
props_by size item items false false e b here sound others = others refl

pub props_good : (size : ℕ) (items : List Item) → Follow (stages.Metaclass size) items → AllByRecursion IsSound items
    → AllByRecursion (IsProp size) (props_of items)
props_good size [] follow sound = tt
props_good size (item ∷ items) follow sound =
    props_by size item items (ends InEntry item.keyword) (is_prop item.keyword) refl refl follow.0 sound.0 (λ goes_on.
    let here : takes (stages.Metaclass size) item.keyword
    ≡ true = subst (λ s. takes s item.keyword ≡ true) follow.0 (stands item sound.0.stands) in
    let next : stage_behind item.place.stage item.keyword item.arguments ≡ stages.Metaclass size =
    ap (λ s. stage_behind s item.keyword item.arguments) follow.0 ∙ prop_stage size item.keyword item.arguments here goes_on in
    props_good size items (subst (λ s. Follow s items) next follow.1) sound.1)

-- objects of a block with these flags
abbrev InObjects : ℕ → Stage → Type 0
InObjects flags (stages.Objects n) = n ≡ flags
InObjects flags (stages.Object n) = n ≡ flags
InObjects flags stage = ⊥

object_stage_of : (flags : ℕ) (stage : Stage) (keyword : Keyword) (arguments : List Argument) → InObjects flags stage
    → takes stage keyword ≡ true → ends_block keyword ≡ false → InObjects flags (stage_behind stage keyword arguments)
object_stage_of flags (stages.Objects n) of.Object arguments here takes goes_on = here
object_stage_of flags (stages.Objects n) keyword arguments here takes goes_on = absurd cc
object_stage_of flags (stages.Object n) of.Object arguments here takes goes_on = here
object_stage_of flags (stages.Object n) of.Bytes arguments here takes goes_on = here
object_stage_of flags (stages.Object n) of.U1 arguments here takes goes_on = here
object_stage_of flags (stages.Object n) of.U2 arguments here takes goes_on = here
object_stage_of flags (stages.Object n) of.U4 arguments here takes goes_on = here
object_stage_of flags (stages.Object n) of.Text arguments here takes goes_on = here
object_stage_of flags (stages.Object n) of.Hold arguments here takes goes_on = here
object_stage_of flags (stages.Object n) keyword arguments here takes goes_on = absurd cc
object_stage_of flags stage keyword arguments here takes goes_on = absurd here

flags_here : (flags : ℕ) (stage : Stage) → InObjects flags stage → flags_in stage ≡ flags
flags_here flags (stages.Objects n) here = here
flags_here flags (stages.Object n) here = here
flags_here flags stage here = absurd here

object_fits : (labels : Labels) (item : Item) (behind : List Item) (flags : ℕ) (keyword : Keyword)
    → is_object keyword ≡ true → is_crowded labels item behind keyword ≡ false → flags_in item.place.stage ≡ flags
    → IsStatic (size_width flags) (static_of labels item behind)
object_fits labels item behind flags of.Object object roomy here = (
  number_fits item.arguments 0,
  subst (λ n. length (contents_of InEntry labels behind) < 256 ^ size_width n) here (leb-false _ _ roomy),
)
object_fits labels item behind flags keyword object roomy here = absurd cc

statics_by : (labels : Labels) (flags : ℕ) (item : Item) (items : List Item) (ended begins : Bool)
    → is_object item.keyword ≡ begins → InObjects flags item.place.stage
    → is_crowded labels item items item.keyword ≡ false
    → (ended ≡ false → AllByRecursion (IsStatic (size_width flags)) (statics_of labels items))
    → AllByRecursion (IsStatic (size_width flags))
    (cond ended [] (cond begins (static_of labels item items ∷ statics_of labels items) (statics_of labels items)))
statics_by labels flags item items true begins b here roomy others = tt
statics_by labels flags item items false true b here roomy others =
    (object_fits labels item items flags item.keyword b roomy (flags_here flags item.place.stage here), others refl)
statics_by labels flags item items false false b here roomy others = others refl

pub statics_good : (labels : Labels) (flags size count : ℕ) (stage : Stage) (items : List Item) → InObjects flags stage
    → Follow stage items → AllByRecursion IsSound items → refused_from labels size count items ≡ None
    → AllByRecursion (IsStatic (size_width flags)) (statics_of labels items)
statics_good labels flags size count stage [] in_objects follow sound good = tt
statics_good labels flags size count stage (item ∷ items) in_objects follow sound good =
    let parts = refused_from-None labels size count item items good in
    let here : InObjects flags item.place.stage = subst (InObjects flags) (sym follow.0) in_objects in
    statics_by labels flags item items (ends_block item.keyword) (is_object item.keyword) refl here parts.first.roomy (λ goes_on.
    statics_good labels flags (size + block_size labels item items item.keyword) (count + header_count item.keyword)
    (stage_behind item.place.stage item.keyword item.arguments) items
    (object_stage_of flags item.place.stage item.keyword item.arguments here (stands item sound.0.stands) goes_on)
    follow.1 sound.1 parts.others)

-- metaclasses
meta_stage : (keyword : Keyword) (arguments : List Argument) → is_meta keyword ≡ true → (stage : Stage)
    → stage_behind stage keyword arguments ≡ stages.Metaclass (short_at arguments 1)
meta_stage of.Metaclass arguments meta stage = refl
meta_stage keyword arguments meta stage = absurd cc

meta_fits : (labels : Labels) (item : Item) (behind : List Item) (keyword : Keyword) → is_meta keyword ≡ true
    → is_crowded labels item behind keyword ≡ false → HasNames keyword item.arguments
    → AllByRecursion (IsProp (short_at item.arguments 1)) (props_of behind)
    → IsMeta (meta_of item behind)
meta_fits labels item behind of.Metaclass meta roomy names props =
    let parts = or_false (is_many (length (props_of behind))) (is_many (length (meta_text (meta_of item behind)))) roomy in (
      omega (arith, few _ parts.1, length_meta_text (meta_of item behind)),
      record {
        name = names;
        count = few _ parts.0;
        size = short_fits item.arguments 1;
        props = props;
      },
    )
meta_fits labels item behind keyword meta roomy names props = absurd cc

metas_by : (labels : Labels) (item : Item) (items : List Item) (ended begins : Bool)
    → is_meta item.keyword ≡ begins → is_crowded labels item items item.keyword ≡ false → HasNames item.keyword item.arguments
    → (begins ≡ true → AllByRecursion (IsProp (short_at item.arguments 1)) (props_of items))
    → AllByRecursion IsMeta (metas_of items)
    → AllByRecursion IsMeta (cond ended [] (cond begins (meta_of item items ∷ metas_of items) (metas_of items)))
metas_by labels item items true begins b roomy names props others = tt
metas_by labels item items false true b roomy names props others =
    (meta_fits labels item items item.keyword b roomy names (props refl), others)
metas_by labels item items false false b roomy names props others = others

pub metas_good : (labels : Labels) (size count : ℕ) (stage : Stage) (items : List Item)
    → Follow stage items → AllByRecursion IsSound items → refused_from labels size count items ≡ None
    → AllByRecursion IsMeta (metas_of items)
metas_good labels size count stage [] follow sound good = tt
metas_good labels size count stage (item ∷ items) follow sound good =
    let parts = refused_from-None labels size count item items good in
    metas_by labels item items (ends_block item.keyword) (is_meta item.keyword) refl parts.first.roomy sound.0.names (λ meta.
    props_good (short_at item.arguments 1) items
    (subst (λ s. Follow s items) (meta_stage item.keyword item.arguments meta item.place.stage) follow.1) sound.1)
    (metas_good labels (size + block_size labels item items item.keyword) (count + header_count item.keyword)
    (stage_behind item.place.stage item.keyword item.arguments) items follow.1 sound.1 parts.others)

-- names
name_fits : (keyword : Keyword) (arguments : List Argument) → is_function_set keyword ≡ true → HasNames keyword arguments
    → IsName (text_at arguments 0)
name_fits of.FunctionSet arguments is names = names
name_fits keyword arguments is names = absurd cc

names_by : (item : Item) (items : List Item) (ended begins : Bool) → is_function_set item.keyword ≡ begins
    → HasNames item.keyword item.arguments → AllByRecursion IsName (names_of items)
    → AllByRecursion IsName (cond ended [] (cond begins (set_of item items ∷ names_of items) (names_of items)))
names_by item items true begins b names others = tt
names_by item items false true b names others = (name_fits item.keyword item.arguments b names, others)
names_by item items false false b names others = others

pub names_good : (items : List Item) → AllByRecursion IsSound items → AllByRecursion IsName (names_of items)
names_good [] sound = tt
names_good (item ∷ items) sound =
    names_by item items (ends_block item.keyword) (is_function_set item.keyword) refl sound.0.names (names_good items sound.1)

-- symbols
symbol_fits : (labels : Labels) (item : Item) (behind : List Item) (keyword : Keyword) → is_symbol keyword ≡ true
    → HasNames keyword item.arguments → IsSymbol (symbol_of labels item behind)
symbol_fits labels item behind of.Symbol is names = (record { tag = omega arith; bits = omega arith }, names)
symbol_fits labels item behind keyword is names = absurd cc

symbols_by : (labels : Labels) (item : Item) (items : List Item) (ended begins : Bool) → is_symbol item.keyword ≡ begins
    → HasNames item.keyword item.arguments → AllByRecursion IsSymbol (symbols_of labels items)
    → AllByRecursion IsSymbol (cond ended []
    (cond begins (symbol_of labels item items ∷ symbols_of labels items) (symbols_of labels items)))
symbols_by labels item items true begins b names others = tt
symbols_by labels item items false true b names others = (symbol_fits labels item items item.keyword b names, others)
symbols_by labels item items false false b names others = others

pub symbols_good : (labels : Labels) (items : List Item) → AllByRecursion IsSound items → AllByRecursion IsSymbol (symbols_of labels items)
symbols_good labels [] sound = tt
symbols_good labels (item ∷ items) sound =
    symbols_by labels item items (ends_block item.keyword) (is_symbol item.keyword) refl sound.0.names (symbols_good labels items sound.1)
