-- A method of a metaclass that is found among those that are left.
use Rattle.std.proofs.Common.{◌≡◌, ℕ, ◌+◌, ◌<◌, ◌==◌, drop, slice_index_or, List, ◌∷◌, length, Some, sym, ap, ◌∙◌}
use Rattle.std.specs.Prelude.{option_map}
use Rattle.std.specs.List.{position_from}
use Rattle.std.proofs.lemmas.List.{drop_more}
use Rattle.t3_load.specs.declared.kinds.MetaKind.{MetaKind}
use Rattle.t3_load.specs.declared.kinds.MetaKind.TheVariants.{Root}
use Rattle.t3_load.specs.declared.kinds.KindEntry.{KindEntry}
use Rattle.t3_object_instructions.specs.Search.{method_of, methods_of, this_or_next}

pub method_here : (entries : List KindEntry) (p : ℕ) (kinds : List MetaKind) (at index : ℕ) → at < length kinds
    → method_of entries p (drop at kinds) ≡ method_of entries p kinds
    → position_from (λ q. q == p) 0 (methods_of entries (slice_index_or kinds at Root)) ≡ Some index
    → Some (slice_index_or kinds at Root, index) ≡ method_of entries p kinds
method_here entries p kinds at index less so_far is =
    let kind = slice_index_or kinds at Root in
    let next : drop at kinds ≡ kind ∷ drop (at + 1) kinds = drop_more kinds at Root less in
    ap (λ i. this_or_next (option_map (λ j. (kind, j)) i) (method_of entries p (drop (at + 1) kinds))) (sym is)
    ∙ ap (method_of entries p) (sym next) ∙ so_far
