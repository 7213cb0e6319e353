-- All values of a program that was loaded can be saved: no reference and no property among them has the number 0, and their numbers fit.
use Rattle.std.proofs.Common.{◌≡◌, ℕ, ℤ, pos, negsuc, ◌+◌, ◌^◌, ◌<◌, ◌≤◌, Bool, true, false, cond, List, [], ◌∷◌, length, Option, Some, None, is_some, inl, inr, refl, sym, ap, subst, ◌∙◌, arith}
use Rattle.std.specs.Prelude.{FitsSigned, IsSome, map, option_and_then}
use Rattle.std.specs.Int.{w8, w32}
use Rattle.std.specs.List.{AllByRecursion}
use Rattle.std.specs.Cmp.{nat_cmp_total, Equal-is}
use Rattle.std.specs.Ordering.{nat_cmp, eq_by_cmp}
use Rattle.std.specs.FinMap.{find, get, get-from_entries, from_entries, nat_cmp-IsAntisymmetric}
use Rattle.std.proofs.lemmas.Option.{none-some, same_Some}
use Rattle.std.proofs.lemmas.Bool.{cases_lt}
use Rattle.t3_holder.specs.declared.holder.Holder.{Holder}
use Rattle.t3_holder.specs.declared.holder.Holder.TheVariants as holders
use Rattle.t3_pools.specs.Pool.{Pool}
use Rattle.t3_pools.specs.Constants.{HasHolders, IsOfBytes}
use Rattle.t3_pools.proofs.Lists.{stands-list_in}
use Rattle.t3_methods.specs.declared.instr.Instr.TheVariants as of
use Rattle.t3_methods.specs.declared.instr.PushCode.{PushCode}
use Rattle.t3_methods.specs.declared.instr.PushCode.TheVariants as push
use Rattle.t3_methods.specs.Answers.{Stands}
use Rattle.t3_tadsobj.specs.declared.props.PropValue.{PropValue}
use Rattle.t3_store.specs.Value.{Value, Objects, new_value, supers_of}
use Rattle.t3_tadsobj.specs.Props.{pair_of}
use Rattle.t3_store.specs.Store.{StoreValue, AreBelow, either}
use Rattle.t3_store.specs.Whole.{IsWhole, AreThere, AreApart, HasGivenNumbers, supers_in, supers_among}
use Rattle.t3_store.specs.Invariant.{HoldsOfEach}
use Rattle.t3_store.specs.declared.new_object.NewObject.{NewObject}
use Rattle.t3_store.specs.declared.new_object.NewObject.TheVariants as new
use Rattle.t3_load.specs.declared.kinds.MetaKind.{MetaKind}
use Rattle.t3_load.specs.declared.kinds.MetaKind.TheVariants as kinds
use Rattle.t3_load.specs.Layout.{BeginsRow, SpellsHolder, SpellsProp, BeginsObject}
use Rattle.t3_load.specs.Loading.{ProgramValue, IsSound, AreSound, CanStart}
use Rattle.t3_frame_instructions.specs.Pushing.{pushed_value}
use Rattle.t3_snapshot.specs.Layout.{IsGoodHolder}
use Rattle.t3_snapshot.specs.State.{named_as_keys}
use Rattle.t3_snapshot.specs.Good.{IsGoodProp, HasGoodProps, HasGoodParts, AreGoodSupers}
use Rattle.t3_good_values.specs.Values.{IsClosed, HasGoodConstants}
use Rattle.t3_good_instructions.specs.Contexts.{IsGoodProgram}

good-closed : IsClosed IsGoodHolder
good-closed = record {
  nil = record { fits = tt; good = tt };
  true = record { fits = tt; good = tt };
  integer = λ z fits. record { fits = fits; good = tt };
  object = λ number some fits. record { fits = fits; good = some };
  shown = λ address has. record { fits = has.fits; good = tt };
  integers = λ z has. has.fits;
  property = λ number has. (has.good, has.fits);
}

-- ---- constants and code

good-listed : (pool : Pool) (address : ℕ) (items : List Holder) → HasHolders pool address items → AllByRecursion IsGoodHolder items
good-listed pool address [] has = tt
good-listed pool address (item ∷ items) has =
    (record { fits = has.0.means.fits; good = has.0.means.good }, good-listed pool (address + 5) items has.1)

good-constants : (pool : Pool) → IsOfBytes pool → HasGoodConstants IsGoodHolder pool
good-constants pool bytes = record {
  lists = λ address items has is. let list = stands-list_in pool address items bytes is in good-listed pool (address + 2) items list.stands;
  bytes = bytes;
}

short-fits : (z : ℤ) → FitsSigned w8 z → FitsSigned w32 z
short-fits (pos n) fits = omega (arith, fits)
short-fits (negsuc n) fits = omega (arith, fits)

good-pushed : (code : Pool) (address size : ℕ) (instr : PushCode) → Stands code address (of.Push instr) size → IsGoodHolder (pushed_value instr)
good-pushed code address size push.Push0 stands = record { fits = omega arith; good = tt }
good-pushed code address size push.Push1 stands = record { fits = omega arith; good = tt }
good-pushed code address size (push.Pushint8 z) stands = record { fits = short-fits z stands.operands.0.fits; good = tt }
good-pushed code address size (push.Pushint z) stands = record { fits = stands.operands.0.fits; good = tt }
good-pushed code address size (push.Pushstr text) stands = record { fits = stands.operands.0.fits; good = tt }
good-pushed code address size (push.Pushlst list) stands = record { fits = stands.operands.0.fits; good = tt }
good-pushed code address size (push.Pushobj n) stands = record { fits = stands.operands.0.fits.1; good = stands.operands.0.fits.0 }
good-pushed code address size push.Pushnil stands = record { fits = tt; good = tt }
good-pushed code address size push.Pushtrue stands = record { fits = tt; good = tt }
good-pushed code address size (push.Pushpropid n) stands = record { fits = stands.operands.0.fits.1; good = stands.operands.0.fits.0 }
good-pushed code address size (push.Pushfnptr method) stands = record { fits = stands.operands.0.fits; good = tt }
good-pushed code address size (push.Pushenum n) stands = record { fits = stands.operands.0.fits; good = tt }

-- ---- static objects

good-row : (items : List Holder) (bytes rest : List ℕ) → BeginsRow 5 SpellsHolder items bytes rest → AllByRecursion IsGoodHolder items
good-row [] bytes rest begins = tt
good-row (item ∷ items) bytes rest (front, behind, long, spells, is, more) =
    (record { fits = spells.means.fits; good = spells.means.good }, good-row items behind rest more)

good-found : (props : List PropValue) (bytes rest : List ℕ) → BeginsRow 7 SpellsProp props bytes rest → (number : ℕ) (value : Holder)
    → find nat_cmp number (map pair_of props) ≡ Some value → IsGoodProp IsGoodHolder number value
good-found [] bytes rest begins number value is = absurd cc
good-found (prop ∷ props) bytes rest (front, behind, long, spells, begins, more) number value is =
    by (eq_by_cmp nat_cmp number prop.number) refl is (λ there. good-found props behind rest more number value there)
  where
    by : (same : Bool) → eq_by_cmp nat_cmp number prop.number ≡ same → cond same (Some prop.value) (find nat_cmp number (map pair_of props)) ≡ Some value
        → (find nat_cmp number (map pair_of props) ≡ Some value → IsGoodProp IsGoodHolder number value) → IsGoodProp IsGoodHolder number value
    by false same there further = further there
    by true same there further =
        let number_is : number ≡ prop.number = nat_cmp-IsAntisymmetric number prop.number ((Equal-is (nat_cmp number prop.number)).0 same) in
        let value_is : prop.value ≡ value = same_Some prop.value value there in
        record {
          named = subst (λ n. 0 < n) (sym number_is) spells.named;
          fits = subst (λ n. n < 2 ^ 16) (sym number_is) spells.fits;
          value = subst IsGoodHolder value_is (record { fits = spells.holder.means.fits; good = spells.holder.means.good });
        }

good-props : (props : List PropValue) (bytes rest : List ℕ) → BeginsRow 7 SpellsProp props bytes rest
    → HasGoodProps IsGoodHolder (from_entries (map pair_of props))
good-props props bytes rest begins number value is =
    good-found props bytes rest begins number value (sym (get-from_entries nat_cmp_total (map pair_of props) number) ∙ is)

-- a superclass that is there has a number from 1 on, and it fits
abbrev AreNumbered : List ℕ → Type 0
AreNumbered numbers = AllByRecursion (λ number. (0 < number) × (number < 2 ^ 31)) numbers

good-supers : (supers : List ℕ) → length supers < 2 ^ 16 → AreNumbered supers → AreGoodSupers IsGoodHolder supers
good-supers supers few numbered = record { few = few; each = each supers numbered }
  where
    each : (supers : List ℕ) → AreNumbered supers → AllByRecursion (λ number. IsGoodHolder (holders.Obj number)) supers
    each [] numbered = tt
    each (number ∷ numbers) numbered =
        let fits = numbered.0.1 in
        (record { fits = omega (arith, fits); good = numbered.0.0 }, each numbers numbered.1)

-- of an object of which some bytes begin with it, where its superclasses are numbered
good-object : (kind : MetaKind) (object : NewObject) (bytes : List ℕ) → BeginsObject kind object bytes
    → ((supers : List ℕ) → supers_of (new_value object) ≡ Some supers → AreNumbered supers) → HasGoodParts IsGoodHolder (new_value object)
good-object kinds.Tads (new.Tads supers class props) bytes begins numbered =
    (good-supers supers begins.few_supers (numbered supers refl), good-props props begins.after_supers begins.rest begins.has_props)
good-object kinds.Text (new.Text text) bytes begins numbered = record { few = begins.few; utf8 = begins.utf8 }
good-object kinds.List (new.List items) bytes begins numbered = good-row items begins.after_count begins.rest begins.has_items
good-object kinds.Vector (new.Vector items) bytes begins numbered = good-row items begins.listed.after_count begins.listed.rest begins.listed.has_items
good-object _ _ bytes begins numbered = elim begins [ ]

-- such an object is no table
keyless : (kind : MetaKind) (object : NewObject) (bytes : List ℕ) → BeginsObject kind object bytes → named_as_keys (new_value object) ≡ []
unfolding named_as_keys
keyless kinds.Tads (new.Tads supers class props) bytes begins = refl
keyless kinds.Text (new.Text text) bytes begins = refl
keyless kinds.List (new.List items) bytes begins = refl
keyless kinds.Vector (new.Vector items) bytes begins = refl
keyless _ _ bytes begins = elim begins [ ]

-- ---- objects that have numbers

-- each object has a number from 1 on and below 2^31
abbrev pub HaveNumbers : Objects → Type 0
HaveNumbers objects = (number : ℕ) → IsSome (get objects number) → (0 < number) × (number < 2 ^ 31)

static-parts : (value : Value) → IsSound value → ((supers : List ℕ) → supers_of value ≡ Some supers → AreNumbered supers)
    → HasGoodParts IsGoodHolder value
static-parts value sound numbered =
    subst (HasGoodParts IsGoodHolder) sound.is
    (good-object sound.metaclass sound.object sound.bytes sound.begins
    (λ supers is. numbered supers (sym (ap supers_of sound.is) ∙ is)))

static-keys : (value : Value) → IsSound value → named_as_keys value ≡ []
static-keys value sound = sym (ap named_as_keys sound.is) ∙ keyless sound.metaclass sound.object sound.bytes sound.begins

is-there : (objects : Objects) (number : ℕ) (value : Value) → get objects number ≡ Some value → IsSome (get objects number)
is-there objects number value is = ap is_some is

-- superclasses that are there have numbers
numbered-there : (at : ℕ → Option (List ℕ)) → ((number : ℕ) → IsSome (at number) → (0 < number) × (number < 2 ^ 31)) → (supers : List ℕ)
    → AreThere at supers → AreNumbered supers
numbered-there at numbers [] there = tt
numbered-there at numbers (number ∷ supers) there = (numbers number there.0, numbered-there at numbers supers there.1)

some-value : (found : Option Value) → IsSome (option_and_then supers_of found) → IsSome found
some-value None is = is
some-value (Some value) is = refl

first-parts : (first : Objects) → IsWhole (supers_in first) → AreSound first → HaveNumbers first → HoldsOfEach (HasGoodParts IsGoodHolder) first
first-parts first whole sound numbers number value is =
    static-parts value (sound number value is)
    (λ supers has. numbered-there (supers_in first) (λ above there. numbers above (some-value (get first above) there)) supers
    (whole.there number supers (ap (option_and_then supers_of) is ∙ has)))

among : (first passing : Objects) → HaveNumbers first → HaveNumbers passing → (number : ℕ) → IsSome (supers_among first passing number)
    → (0 < number) × (number < 2 ^ 31)
among first passing own others number is = by (get first number) refl (some-value (either (get first number) (get passing number)) is)
  where
    by : (found : Option Value) → get first number ≡ found → IsSome (either found (get passing number)) → (0 < number) × (number < 2 ^ 31)
    by None none there = others number there
    by (Some value) some there = own number (is-there first number value some)

not-first : (first passing : Objects) (number : ℕ) (value : Value) → AreApart first passing → get passing number ≡ Some value
    → get first number ≡ None
not-first first passing number value apart is = by (get first number) refl
  where
    by : (found : Option Value) → get first number ≡ found → found ≡ None
    by None none = refl
    by (Some other) some = absurd (none-some value (sym (apart number (is-there first number other some)) ∙ is))

passing-parts : (first passing : Objects) → AreApart first passing → IsWhole (supers_among first passing) → AreSound passing → HaveNumbers first
    → HaveNumbers passing → HoldsOfEach (HasGoodParts IsGoodHolder) passing
passing-parts first passing apart whole sound own others number value is =
    static-parts value (sound number value is)
    (λ supers has. numbered-there (supers_among first passing) (among first passing own others) supers
    (whole.there number supers
    ((λ i. option_and_then supers_of (either (not-first first passing number value apart is i) (is i))) ∙ has)))

below : (next : ℕ) (objects : Objects) (number : ℕ) (value : Value) → AreBelow next objects → get objects number ≡ Some value → number < next
below next objects number value are is = elim (cases_lt number next) [
  | inl less ↦ less
  | inr more ↦ absurd (none-some value (sym (are number more) ∙ is))
]

pub good-program : (program : ProgramValue) → CanStart program.limits program.first program.passing program.next
    → ((address : ℕ) → 2 ^ 31 ≤ address + 1 → get program.pools.code address ≡ None) → IsOfBytes program.pools.constants
    → HaveNumbers program.first → HaveNumbers program.passing → IsGoodProgram IsGoodHolder program
good-program program starts within bytes own others = record {
  closed = good-closed;
  constants = good-constants program.pools.constants bytes;
  within = within;
  pushed = λ address size code stands. good-pushed program.pools.code address size code stands;
  said = λ address size text stands. record { fits = stands.operands.0.fits; good = tt };
  first = record {
    parts = first-parts program.first starts.whole starts.first_sound own;
    numbered =
        λ number value is.
        ((own number (is-there program.first number value is)).0, below program.next program.first number value starts.first_below is);
    keys = λ number value is. subst (AllByRecursion _) (sym (static-keys value (starts.first_sound number value is))) tt;
  };
  passing = record {
    parts =
        passing-parts program.first program.passing starts.apart starts.both starts.passing_sound own others;
    numbered =
        λ number value is. (
          (others number (is-there program.passing number value is)).0,
          inl (below program.next program.passing number value starts.passing_below is),
        );
  };
  next = starts.next_is;
}

-- ---- what is known of a program when its run begins

-- no byte of code stands at 2^31 - 1 or beyond, where a run of bytes from there has none
pub within-run : (code : Pool) (run : List ℕ) → (run ≡ [] → get code 2147483647 ≡ None)
    → ((run ≡ [] → ⊥) → 2147483647 + length run < 2 ^ 31) → ((far : ℕ) → 2 ^ 31 ≤ far → get code far ≡ None)
    → (address : ℕ) → 2 ^ 31 ≤ address + 1 → get code address ≡ None
within-run code (byte ∷ run) empty bounded beyond address far = absurd (omega (arith, bounded (λ same. absurd cc)))
within-run code [] empty bounded beyond address far = elim (cases_lt address (2 ^ 31)) [
  | inl near ↦ let last : 2147483647 ≡ address = omega (arith, near, far) in subst (λ n. get code n ≡ None) last (empty refl)
  | inr more ↦ beyond address more
]

-- a store's objects have numbers
pub numbers-first : (store : StoreValue) → HasGivenNumbers store → HaveNumbers store.persistent
numbers-first store given number there =
    let bounds = given.persistent number there in
    let below = bounds.1 in
    let top = given.next.1 in
    (bounds.0, omega (arith, below, top))

-- those of an image, before any transient object is made
pub numbers-passing : (store : StoreValue) → store.next_transient ≡ 2 ^ 31 → HasGivenNumbers store → HaveNumbers store.transient
numbers-passing store begun given number there =
    let bounds = given.transient number there in
    let top = given.next.1 in (
      bounds.0,
      elim bounds.1 [
        | inl below ↦ omega (arith, below, top)
        | inr made ↦ let above = made.0 in let below = made.1 in absurd (omega (arith, above, below, begun))
      ],
    )
