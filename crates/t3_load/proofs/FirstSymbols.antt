-- Symbols of which each name has its first.
use Rattle.std.proofs.Common.{◌≡◌, ℕ, Bool, true, false, cond, List, [], ◌∷◌, ◌++◌, Option, Some, None, is_some, refl, sym, ap, ◌∙◌}
use Rattle.std.proofs.lemmas.List.Folds.{find-append}
use Rattle.std.proofs.lemmas.Slice.Eq.{bytes_eq-Decides}
use Rattle.std.specs.Prelude.{option_map}
use Rattle.std.specs.List.{find}
use Rattle.std.specs.Map.{lookup}
use Rattle.indexmap.specs.IndexMap.{insert_entry}
use Rattle.std.specs.Option.{option_or}
use Rattle.std.specs.Str.{bytes_eq}
use Rattle.std.specs.Global.{Vec}
use Rattle.t3_blocks.specs.declared.items.Symbol.{Symbol}
use Rattle.t3_holder.specs.declared.holder.Raw.{Raw}
use Rattle.t3_load.specs.Inner.Listing.{listed}
use Rattle.t3_load.specs.Symbols.{raw_of, with_first, firsts, firsts_after}

-- a look-up by bytes finds the first symbol
pub lookup_listed : (entries : List (Vec ℕ × Raw)) (name : List ℕ)
    → lookup (λ key. bytes_eq name key.items) entries ≡ raw_of (listed entries) name
lookup_listed [] name = refl
lookup_listed (entry ∷ entries) name = here (bytes_eq name entry.0.items) (lookup_listed entries name)
  where
    here : (b : Bool) → lookup (λ key. bytes_eq name key.items) entries ≡ raw_of (listed entries) name
        → cond b (Some entry.1) (lookup (λ key. bytes_eq name key.items) entries)
        ≡ option_map (λ (symbol : Symbol). symbol.raw)
        (cond b (Some (record { raw = entry.1; name = entry.0.items })) (find (λ symbol. bytes_eq name symbol.name) (listed entries)))
    here true e = refl
    here false e = e

raw_or : (p q : Option Symbol) → option_map (λ (symbol : Symbol). symbol.raw) (option_or p q)
    ≡ option_or (option_map (λ (symbol : Symbol). symbol.raw) p) (option_map (λ (symbol : Symbol). symbol.raw) q)
raw_or None q = refl
raw_or (Some symbol) q = refl

pub raw_of-append : (xs ys : List Symbol) (name : List ℕ) → raw_of (xs ++ ys) name ≡ option_or (raw_of xs name) (raw_of ys name)
raw_of-append xs ys name =
    ap (option_map (λ (symbol : Symbol). symbol.raw)) (find-append (λ symbol. bytes_eq name symbol.name) xs ys)
    ∙ raw_or (find (λ symbol. bytes_eq name symbol.name) xs) (find (λ symbol. bytes_eq name symbol.name) ys)

-- a symbol whose name is there doesn't count
covered : (found : Option Raw) (raw : Raw) → is_some found ≡ true → found ≡ option_or found (Some raw)
covered (Some r) raw t = refl
covered None raw t = absurd cc

pub raw_of-with_first : (done : List Symbol) (symbol : Symbol) (name : List ℕ)
    → raw_of (with_first done symbol) name ≡ option_or (raw_of done name) (raw_of (symbol ∷ []) name)
raw_of-with_first done symbol name = by_test (is_some (raw_of done symbol.name)) refl
  where
    same_name : (b : Bool) → bytes_eq name symbol.name ≡ b → is_some (raw_of done symbol.name) ≡ true
        → raw_of done name ≡ option_or (raw_of done name) (option_map (λ (s : Symbol). s.raw) (cond b (Some symbol) None))
    same_name true eq there =
        let names : name ≡ symbol.name = (bytes_eq-Decides name symbol.name).0 eq in
        covered (raw_of done name) symbol.raw (ap (λ n. is_some (raw_of done n)) names ∙ there)
    same_name false eq there = or_none (raw_of done name)
      where
        or_none : (found : Option Raw) → found ≡ option_or found None
        or_none None = refl
        or_none (Some r) = refl

    by_test : (b : Bool) → is_some (raw_of done symbol.name) ≡ b
        → raw_of (cond b done (done ++ symbol ∷ [])) name ≡ option_or (raw_of done name) (raw_of (symbol ∷ []) name)
    by_test true there = same_name (bytes_eq name symbol.name) refl there
    by_test false there = raw_of-append done (symbol ∷ []) name

or_assoc : {X : Type 0} (p q r : Option X) → option_or (option_or p q) r ≡ option_or p (option_or q r)
or_assoc None q r = refl
or_assoc (Some x) q r = refl

pub raw_of-firsts_after : (done more : List Symbol) (name : List ℕ)
    → raw_of (firsts_after done more) name ≡ option_or (raw_of done name) (raw_of more name)
raw_of-firsts_after done [] name = or_none (raw_of done name)
  where
    or_none : (found : Option Raw) → found ≡ option_or found None
    or_none None = refl
    or_none (Some r) = refl
raw_of-firsts_after done (symbol ∷ more) name =
    raw_of-firsts_after (with_first done symbol) more name
    ∙ ap (λ found. option_or found (raw_of more name)) (raw_of-with_first done symbol name)
    ∙ or_assoc (raw_of done name) (raw_of (symbol ∷ []) name) (raw_of more name)
    ∙ ap (option_or (raw_of done name)) (sym (raw_of-append (symbol ∷ []) more name))

-- of each name the first counts
pub raw_of-firsts : (symbols : List Symbol) (name : List ℕ) → raw_of (firsts symbols) name ≡ raw_of symbols name
raw_of-firsts symbols name = raw_of-firsts_after [] symbols name

-- a new name comes last
insert_listed : (entries : List (Vec ℕ × Raw)) (key : Vec ℕ) (raw : Raw) → raw_of (listed entries) key.items ≡ None
    → listed (insert_entry
    (λ a b. bytes_eq a.items b.items) entries key raw) ≡ listed entries ++ record { raw = raw; name = key.items } ∷ []
insert_listed [] key raw none = refl
insert_listed (entry ∷ entries) key raw none =
    here (bytes_eq key.items entry.0.items) (λ absent. insert_listed entries key raw absent) none
  where
    here : (b : Bool)
        → (raw_of (listed entries) key.items ≡ None
        → listed (insert_entry
        (λ a b. bytes_eq a.items b.items) entries key raw) ≡ listed entries ++ record { raw = raw; name = key.items } ∷ [])
        → option_map (λ (symbol : Symbol). symbol.raw)
        (cond b (Some (record { raw = entry.1; name = entry.0.items }))
        (find (λ symbol. bytes_eq key.items symbol.name) (listed entries))) ≡ None
        → listed (cond b ((entry.0, raw) ∷ entries) (entry ∷ insert_entry (λ a b. bytes_eq a.items b.items) entries key raw))
        ≡ listed (entry ∷ entries) ++ record { raw = raw; name = key.items } ∷ []
    here true further absent = absurd cc
    here false further absent = ap (λ rest. record { raw = entry.1; name = entry.0.items } ∷ rest) (further absent)

pub listed-insert : (entries new : List (Vec ℕ × Raw)) (key : Vec ℕ) (raw : Raw) (name : List ℕ) (symbol : Symbol) (found : Option Raw)
    → new ≡ insert_entry (λ a b. bytes_eq a.items b.items) entries key raw → found ≡ raw_of (listed entries) name → is_some found ≡ false
    → key.items ≡ name → raw ≡ symbol.raw → name ≡ symbol.name → listed new ≡ with_first (listed entries) symbol
listed-insert entries new key raw name symbol found inserted sought absent key_is raw_is name_is =
    let none : raw_of (listed entries) key.items ≡ None = ap (raw_of (listed entries)) key_is ∙ sym sought ∙ as_none found absent in
    let last : is_some (raw_of (listed entries) symbol.name) ≡ false =
    ap (λ n. is_some (raw_of (listed entries) n)) (sym name_is) ∙ ap is_some (sym sought) ∙ absent in
    let same : (record { raw = raw; name = key.items }) ≡ symbol = λ i. record { raw = raw_is i; name = (key_is ∙ name_is) i } in
    ap listed inserted ∙ insert_listed entries key raw none ∙ ap (λ s. listed entries ++ s ∷ []) same
    ∙ sym (ap (λ b. cond b (listed entries) (listed entries ++ symbol ∷ [])) last)
  where
    as_none : (o : Option Raw) → is_some o ≡ false → o ≡ None
    as_none None is = refl
    as_none (Some r) is = absurd cc
