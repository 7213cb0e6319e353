-- Where operands end that stand at a place of a window, and that there are none.
use Rattle.std.proofs.Common.{◌≡◌, ◌≢◌, ℕ, ◌+◌, ◌*◌, ◌^◌, ◌<◌, ◌≤◌, ◌⊎◌, Bool, true, false, nat_lt, List, [], ◌∷◌, length, map, Option, Some, None, refl, sym, ap, ◌∙◌, subst, arith, inl, inr}
use Rattle.std.proofs.lemmas.Bool.{cases_lt, cases_Bool, and_parts, ltb-true, ltb-false}
use Rattle.t3_holder.proofs.Numbers.{length-little_endian}
use Rattle.t3_pools.specs.Pool.{Pool}
use Rattle.t3_methods.specs.declared.kind.Kind.{Kind}
use Rattle.t3_methods.specs.declared.kind.Kind.TheVariants as kinds
use Rattle.t3_methods.specs.declared.window.Window.{Window}
use Rattle.t3_methods.specs.Operands.{Operand, Cases, kind_of, width_of, number_of, operand_text, HasRest, HasOperand, HasOperands, size_of, sizes_of}
use Rattle.t3_methods.specs.Inner.Window.{Shows, number_at, operand_by, operands_by, widths_of, named_by, are_named, are_cased, is_cases_last}
use Rattle.t3_methods.specs.Inner.Cases.{IsNamed, HasSwitch, operand_in, EndsOperand, FindsEnd, EndsOperands, FindsEnds}
use Rattle.t3_methods.proofs.Shown.{number_less, number_stands, short}
use Rattle.t3_methods.proofs.Operating.{operand_by-number_of, kind_of-operand_by, one_number, one_operand, named, operand_there}

-- ---- an operand

-- of any kind but cases nothing more stands than its number
rest_none : (code : Pool) (kind : Kind) (at n : ℕ) → kind ≢ kinds.Cases → HasRest code at (operand_by kind at n)
rest_none code kinds.Cases at n other = absurd (other refl)
rest_none code kind at n other = tt

size_of-operand_by : (kind : Kind) (at n : ℕ) → kind ≢ kinds.Cases → size_of (operand_by kind at n) ≡ width_of kind
size_of-operand_by kinds.Cases at n other = absurd (other refl)
size_of-operand_by kind at n other = refl

width_some : (kind : Kind) → 0 < width_of kind
width_some kinds.Ubyte = omega arith
width_some kind = omega arith

pub end_fixed : (code : Pool) (w : Window) (place : ℕ) (kind : Kind) → Shows code w.address w.bytes.now → place + width_of kind ≤ length w.bytes.now
    → IsNamed kind (number_at (width_of kind) w.bytes.now place) → kind ≢ kinds.Cases → EndsOperand code w place kind (place + width_of kind)
end_fixed code w place kind shows le is other =
    let n : ℕ = number_at (width_of kind) w.bytes.now place in
    let at : ℕ = w.address + place in
    let size = size_of-operand_by kind at n other in
    let less = number_less code w.address place (width_of kind) w.bytes.now shows le in
    let some = width_some kind in
    record {
      has = operand_there code kind at n less (number_stands code w.address place (width_of kind) w.bytes.now shows le) is (rest_none code kind at n other);
      end_is = omega (arith, size);
      bounded = omega (arith, shows.bounded (omega arith));
      shown = λ _. le;
    }

pub end_short : (code : Pool) (w : Window) (place : ℕ) (kind : Kind) → place + width_of kind ≤ 10 → place ≤ length w.bytes.now
    → length w.bytes.now < place + width_of kind → FindsEnd code w place kind None
end_short code w place kind room behind less whole o same has =
    let long : length (operand_text o) ≡ width_of kind = length-little_endian (width_of (kind_of o)) (number_of o) ∙ ap width_of same in
    short code w.address place (width_of kind) w.bytes.now (operand_text o) whole room behind less long has.number

-- the number of an operand is the one that the window says
number_shown : (code : Pool) (w : Window) (place : ℕ) (kind : Kind) (o : Operand) → Shows code w.address w.bytes.now → place + width_of kind ≤ length w.bytes.now
    → kind_of o ≡ kind → HasOperand code (w.address + place) o → number_of o ≡ number_at (width_of kind) w.bytes.now place
number_shown code w place kind o shows le same has =
    let less = number_less code w.address place (width_of kind) w.bytes.now shows le in
    one_number code (w.address + place) _ o kind same less (number_stands code w.address place (width_of kind) w.bytes.now shows le) has

pub end_unnamed : (code : Pool) (w : Window) (place : ℕ) (kind : Kind) → Shows code w.address w.bytes.now → place + width_of kind ≤ length w.bytes.now
    → ¬ IsNamed kind (number_at (width_of kind) w.bytes.now place) → FindsEnd code w place kind None
end_unnamed code w place kind shows le none whole o same has =
    let number = number_shown code w place kind o shows le same has in
    none (subst (λ (n : ℕ). IsNamed kind n) number (subst (λ (k : Kind). IsNamed k (number_of o)) same (named o has.fits)))

-- ---- cases

pub end_cases : (code : Pool) (w : Window) (place count : ℕ) → count ≡ number_at 2 w.bytes.now place → Shows code w.address w.bytes.now → place + 2 ≤ length w.bytes.now
    → HasSwitch code (w.address + place + 2) count → (w.address + place + 2) + (7 * count + 2) < 2 ^ 31
    → EndsOperand code w place kinds.Cases (place + 4 + 7 * count)
end_cases code w place count same shows le has below =
    let n : ℕ = number_at 2 w.bytes.now place in
    let there : HasSwitch code (w.address + place + 2) n = subst (λ (m : ℕ). HasSwitch code (w.address + place + 2) m) same has in
    let less = number_less code w.address place 2 w.bytes.now shows le in
    record {
      has = operand_there code kinds.Cases (w.address + place) n less (number_stands code w.address place 2 w.bytes.now shows le) tt (refl, (there.cases, there.last));
      end_is = omega (arith, same);
      bounded = omega (arith, below, same);
      shown = λ e. absurd (omega (arith, e));
    }

pub end_uncased : (code : Pool) (w : Window) (place count : ℕ) → count ≡ number_at 2 w.bytes.now place → Shows code w.address w.bytes.now → place + 2 ≤ length w.bytes.now
    → ¬ HasSwitch code (w.address + place + 2) count → FindsEnd code w place kinds.Cases None
end_uncased code w place count is_count shows le none whole o same has =
    let at : ℕ = w.address + place in
    let n : ℕ = number_at 2 w.bytes.now place in
    let number = number_shown code w place kinds.Cases o shows le same has in
    let is : o ≡ Cases n (at + 2) =
    sym (operand_by-number_of code at o has.fits has.rest) ∙ (λ i. operand_by (same i) at (number i)) in
    let there : HasOperand code at (Cases n (at + 2)) = subst (λ (p : Operand). HasOperand code at p) is has in
    none (subst (λ (m : ℕ). HasSwitch code (at + 2) m) (sym is_count) (record { cases = there.rest.1.0; last = there.rest.1.1 }))

-- ---- operands

pub ends_none : (code : Pool) (w : Window) (place : ℕ) → Shows code w.address w.bytes.now → 0 < length w.bytes.now → place ≤ length w.bytes.now → EndsOperands code w place [] place
ends_none code w place shows some behind = record { have = tt; end_is = omega arith; bounded = omega (arith, shows.bounded some) }

-- the first of some operands doesn't stand there
none_first : (code : Pool) (at : ℕ) (kind : Kind) (rest : List Kind) → ((o : Operand) → kind_of o ≡ kind → ¬ HasOperand code at o)
    → (os : List Operand) → map kind_of os ≡ kind ∷ rest → ¬ HasOperands code at os
none_first code at kind rest none [] same have = absurd cc
none_first code at kind rest none (o ∷ os) same have = let first : kind_of o ≡ kind = cc in none o first have.0

pub ends_first : (code : Pool) (w : Window) (place : ℕ) (kind : Kind) (rest : List Kind) → FindsEnd code w place kind None
    → FindsEnds code w place (kind ∷ rest) None
ends_first code w place kind rest none = λ whole. none_first code (w.address + place) kind rest (none whole)

pub ends_one : (code : Pool) (w : Window) (place : ℕ) (kind : Kind) (found : Option ℕ) → FindsEnd code w place kind found
    → FindsEnds code w place (kind ∷ []) found
ends_one code w place kind None none = ends_first code w place kind [] none
ends_one code w place kind (Some end) ends = record { have = (ends.has, tt); end_is = omega (arith, ends.end_is); bounded = ends.bounded }

-- behind one that is no switch's
pub last_behind : (kind next : Kind) (rest : List Kind) → is_cases_last (kind ∷ next ∷ rest) ≡ true → is_cases_last (next ∷ rest) ≡ true
last_behind kinds.Cases next rest last = absurd cc
last_behind kind next rest last = last

-- those behind the first don't stand there
none_behind : (code : Pool) (at : ℕ) (first : Operand) (rest : List Kind) → HasOperand code at first
    → ((os : List Operand) → map kind_of os ≡ rest → ¬ HasOperands code (at + size_of first) os)
    → (os : List Operand) → map kind_of os ≡ kind_of first ∷ rest → ¬ HasOperands code at os
none_behind code at first rest has none [] same have = absurd cc
none_behind code at first rest has none (o ∷ os) same have =
    let kind_is : kind_of o ≡ kind_of first = cc in
    let rest_is : map kind_of os ≡ rest = cc in
    let one : o ≡ first = one_operand code at o first kind_is have.0 has in
    none os rest_is (subst (λ (p : Operand). HasOperands code (at + size_of p) os) one have.1)

pub ends_more : (code : Pool) (w : Window) (place mid : ℕ) (kind : Kind) (rest : List Kind) (found : Option ℕ) → kind ≢ kinds.Cases
    → EndsOperand code w place kind mid → FindsEnds code w mid rest found → FindsEnds code w place (kind ∷ rest) found
ends_more code w place mid kind rest None other first none = λ whole.
    let at : ℕ = w.address + place in
    let o : Operand = operand_in w place kind in
    let kind_is : kind_of o ≡ kind = kind_of-operand_by kind at (number_at (width_of kind) w.bytes.now place) in
    let there : w.address + mid ≡ at + size_of o = omega (arith, first.end_is) in
    let behind : (os : List Operand) → map kind_of os ≡ rest → ¬ HasOperands code (at + size_of o) os =
    subst (λ (m : ℕ). (os : List Operand) → map kind_of os ≡ rest → ¬ HasOperands code m os) there (none whole) in
    subst (λ (k : Kind). (os : List Operand) → map kind_of os ≡ k ∷ rest → ¬ HasOperands code at os) kind_is
    (none_behind code at o rest first.has behind)
ends_more code w place mid kind rest (Some end) other first ends =
    let at : ℕ = w.address + place in
    let o : Operand = operand_in w place kind in
    let size = size_of-operand_by kind at (number_at (width_of kind) w.bytes.now place) other in
    let here : mid ≡ place + width_of kind = first.end_is ∙ ap (λ m. place + m) size in
    let there : w.address + mid ≡ at + size_of o = omega (arith, first.end_is) in
    let os : List Operand = operands_by w.address w.bytes.now mid rest in
    let same : os ≡ operands_by w.address w.bytes.now (place + width_of kind) rest = ap (λ m. operands_by w.address w.bytes.now m rest) here in
    record {
      have = (
        first.has,
        subst (λ (ps : List Operand). HasOperands code (at + size_of o) ps) same
            (subst (λ (m : ℕ). HasOperands code m os) there ends.have),
      );
      end_is = omega (arith, ends.end_is, first.end_is, ap sizes_of same);
      bounded = ends.bounded;
    }

-- ---- all operands, by the row

cases_or_other : (kind : Kind) → (kind ≡ kinds.Cases) ⊎ (kind ≢ kinds.Cases)
cases_or_other kinds.Cases = inl refl
cases_or_other kind = inr (λ same. absurd cc)

-- nothing stands behind cases
cases_alone : (kind : Kind) (rest : List Kind) → kind ≡ kinds.Cases → is_cases_last (kind ∷ rest) ≡ true → rest ≡ []
cases_alone kind [] same last = refl
cases_alone kind (next ∷ rest) same last =
    let here : is_cases_last (kinds.Cases ∷ next ∷ rest) ≡ true = subst (λ (k : Kind). is_cases_last (k ∷ next ∷ rest) ≡ true) same last in
    absurd cc

last_rest : (kind : Kind) (rest : List Kind) → is_cases_last (kind ∷ rest) ≡ true → is_cases_last rest ≡ true
last_rest kind [] last = refl
last_rest kind (next ∷ rest) last = last_behind kind next rest last

cased_behind : (kind : Kind) (rest : List Kind) → kind ≢ kinds.Cases → are_cased (kind ∷ rest) ≡ are_cased rest
cased_behind kinds.Cases rest other = absurd (other refl)
cased_behind kind rest other = refl

-- cases have two bytes at least
pub cased_wide : (kinds : List Kind) → are_cased kinds ≡ true → 2 ≤ widths_of kinds
cased_wide [] cased = absurd cc
cased_wide (kind ∷ rest) cased =
    elim (cases_or_other kind) [
      | inl same ↦ let width : width_of kind ≡ 2 = ap width_of same in omega (arith, width)
      | inr other ↦ let behind = cased_wide rest (sym (cased_behind kind rest other) ∙ cased) in omega (arith, behind)
    ]

-- what the test of a number tells
named_front : (kind : Kind) (front : Bool) (n : ℕ) → named_by kind front n ≡ true → front ≡ true
named_front kinds.Property front n is = (and_parts front (nat_lt 0 n) is).0
named_front kinds.Object front n is = (and_parts front (nat_lt 0 n) is).0
named_front kind front n is = is

named_is : (kind : Kind) (n : ℕ) → named_by kind true n ≡ true → IsNamed kind n
named_is kinds.Property n is = ltb-true 0 n is
named_is kinds.Object n is = ltb-true 0 n is
named_is kind n is = tt

unnamed_is : (kind : Kind) (n : ℕ) → named_by kind true n ≡ false → ¬ IsNamed kind n
unnamed_is kinds.Property n is some = let none = ltb-false 0 n is in omega (arith, none, some)
unnamed_is kinds.Object n is some = let none = ltb-false 0 n is in omega (arith, none, some)
unnamed_is kind n is some = absurd cc

-- those in front are named where all are
all_named : (front : Bool) (bytes : List ℕ) (place : ℕ) (kinds : List Kind) → are_named front bytes place kinds ≡ true → front ≡ true
all_named front bytes place [] is = is
all_named front bytes place (kind ∷ rest) is =
    named_front kind front (number_at (width_of kind) bytes place)
    (all_named (named_by kind front (number_at (width_of kind) bytes place)) bytes (place + width_of kind) rest is)

-- where the first is named, those behind it decide
named_behind : (kind : Kind) (bytes : List ℕ) (place : ℕ) (rest : List Kind) (b : Bool)
    → named_by kind true (number_at (width_of kind) bytes place) ≡ true → are_named true bytes place (kind ∷ rest) ≡ b
    → are_named true bytes (place + width_of kind) rest ≡ b
named_behind kind bytes place rest b named is = ap (λ front. are_named front bytes (place + width_of kind) rest) (sym named) ∙ is

-- too few bytes
pub ends_missing : (code : Pool) (w : Window) (place : ℕ) (kinds : List Kind) → Shows code w.address w.bytes.now → place ≤ length w.bytes.now
    → place + widths_of kinds ≤ 10 → is_cases_last kinds ≡ true → length w.bytes.now < place + widths_of kinds → FindsEnds code w place kinds None
ends_missing code w place [] shows behind room last less = absurd (omega arith)
ends_missing code w place (kind ∷ rest) shows behind room last less =
    let n : ℕ = number_at (width_of kind) w.bytes.now place in
    elim (cases_lt (length w.bytes.now) (place + width_of kind)) [
      | inl short ↦ ends_first code w place kind rest (end_short code w place kind (omega arith) behind short)
      | inr enough ↦ elim (cases_or_other kind) [
        | inl same ↦
            let none : widths_of rest ≡ 0 = ap widths_of (cases_alone kind rest same last) in
            absurd (omega (arith, none, less, enough))
        | inr other ↦ elim (cases_Bool (named_by kind true n)) [
          | inl named ↦ ends_more code w place (place + width_of kind) kind rest None other
              (end_fixed code w place kind shows enough (named_is kind n named) other)
              (ends_missing code w (place + width_of kind) rest shows enough (omega arith) (last_rest kind rest last) (omega arith))
          | inr unnamed ↦ ends_first code w place kind rest (end_unnamed code w place kind shows enough (unnamed_is kind n unnamed))
        ]
      ]
    ]

-- a property or an object of the number 0
pub ends_unnamed : (code : Pool) (w : Window) (place : ℕ) (kinds : List Kind) → Shows code w.address w.bytes.now
    → place + widths_of kinds ≤ length w.bytes.now → is_cases_last kinds ≡ true → are_named true w.bytes.now place kinds ≡ false
    → FindsEnds code w place kinds None
ends_unnamed code w place [] shows enough last unnamed = absurd cc
ends_unnamed code w place (kind ∷ rest) shows enough last unnamed =
    let n : ℕ = number_at (width_of kind) w.bytes.now place in
    elim (cases_Bool (named_by kind true n)) [
      | inr first ↦ ends_first code w place kind rest (end_unnamed code w place kind shows (omega arith) (unnamed_is kind n first))
      | inl first ↦
          let behind = named_behind kind w.bytes.now place rest false first unnamed in
          elim (cases_or_other kind) [
            | inl same ↦
                let none : are_named true w.bytes.now (place + width_of kind) [] ≡ false =
                subst (λ (ks : List Kind). are_named true w.bytes.now (place + width_of kind) ks ≡ false) (cases_alone kind rest same last) behind in
                absurd cc
            | inr other ↦ ends_more code w place (place + width_of kind) kind rest None other
                (end_fixed code w place kind shows (omega arith) (named_is kind n first) other)
                (ends_unnamed code w (place + width_of kind) rest shows (omega arith) (last_rest kind rest last) behind)
          ]
    ]

-- what was found of the last operand: cases, or their end
abbrev pub FindsLast : Pool → Window → ℕ → List Kind → Option ℕ → Type 0
FindsLast code w end all found =
    (are_cased all ≡ false → found ≡ Some end) × (are_cased all ≡ true → (at : ℕ) → at + 2 ≡ end → FindsEnd code w at kinds.Cases found)

pub ends_named : (code : Pool) (w : Window) (place end : ℕ) (kinds : List Kind) (found : Option ℕ) → Shows code w.address w.bytes.now
    → 0 < length w.bytes.now → end ≡ place + widths_of kinds → end ≤ length w.bytes.now → is_cases_last kinds ≡ true
    → are_named true w.bytes.now place kinds ≡ true → FindsLast code w end kinds found → FindsEnds code w place kinds found
ends_named code w place end [] found shows some is enough last are_so ends =
    let here : end ≡ place = omega (arith, is) in
    subst (λ (o : Option ℕ). FindsEnds code w place [] o) (sym (ends.0 refl ∙ ap Some here)) (ends_none code w place shows some (omega arith))
ends_named code w place end (kind ∷ rest) found shows some is enough last are_so ends =
    let n : ℕ = number_at (width_of kind) w.bytes.now place in
    let first = all_named (named_by kind true n) w.bytes.now (place + width_of kind) rest are_so in
    let behind = named_behind kind w.bytes.now place rest true first are_so in
    elim (cases_or_other kind) [
      | inl same ↦
          let alone = cases_alone kind rest same last in
          let none : widths_of rest ≡ 0 = ap widths_of alone in
          let width : width_of kind ≡ 2 = ap width_of same in
          let cased : are_cased (kind ∷ rest) ≡ true = ap (λ k. are_cased (k ∷ rest)) same in
          let told : FindsEnd code w place kinds.Cases found = ends.1 cased place (omega (arith, is, none, width)) in
          let one : FindsEnds code w place (kinds.Cases ∷ []) found = ends_one code w place kinds.Cases found told in
          let all : kinds.Cases ∷ [] ≡ kind ∷ rest = (λ i. sym same i ∷ sym alone i) in
          subst (λ (ks : List Kind). FindsEnds code w place ks found) all one
      | inr other ↦
          let cased = cased_behind kind rest other in
          ends_more code w place (place + width_of kind) kind rest found other
          (end_fixed code w place kind shows (omega (arith, is)) (named_is kind n first) other)
          (ends_named code w (place + width_of kind) end rest found shows some (omega (arith, is)) enough (last_rest kind rest last) behind
          (λ none. ends.0 (cased ∙ none), λ yes. ends.1 (cased ∙ yes)))
    ]
