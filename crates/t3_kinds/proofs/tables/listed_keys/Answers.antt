use Rattle.std.proofs.Common.{◌≡◌, [], ◌∷◌, ◌++◌, List, Ok, length, sym, ap, subst, ◌∙◌, arith}
use Rattle.std.proofs.lemmas.List.{length-map, map-append}
use Rattle.t3_holder.specs.declared.holder.Holder.TheVariants.{Obj}
use Rattle.t3_store.specs.Value.{Items}
use Rattle.t3_kinds.specs.Changes.{Change, Makes}
use Rattle.t3_kinds.specs.TableMethods.{key_strings, key_values, number_after}
use Rattle.t3_kinds.specs.Inner.Deeds.{change_of, changes_of, CanAllBeDone}
use Rattle.t3_kinds.proofs.Keys.{listing}
use Rattle.t3_kinds.proofs.tables.listed_keys.Goals as goal

pub returns : goal.returns
returns c =
    let s = c.args.store.now.store in
    let pairs = c.args.pairs.now in
    let items : c.in_ok-items.items.items ≡ key_values s.next pairs =
    c.in_ok-items.ensures.0 ∙ ap (λ n. key_values n pairs) c.next.ensures.next in
    let after : c.in_ok-items.after ≡ number_after s.next pairs =
    c.in_ok-items.ensures.1 ∙ ap (λ n. number_after n pairs) c.next.ensures.next in
    let made : List Change = key_strings pairs ++ Makes (Items (key_values s.next pairs)) ∷ [] in
    let are : changes_of c.push.new.self.items ≡ made =
    ap changes_of c.in_ok-push.ensures.items ∙ map-append change_of c.in_ok-changes.changes.items _
    ∙ (λ i. c.in_ok-changes.ensures i ++ Makes (Items (items i)) ∷ []) in
    let can = listing pairs s.next s c.requires.few c.requires.fit in
    let all = length-map c.push.new.self.items change_of in
    let same = ap (λ (x : List Change). length x) are in
    let few = can.1 in (
      (λ i. Ok (record { changes = are i; answer = Obj (after i) })),
      (subst (λ (x : List Change). CanAllBeDone x s) (sym are) can.0, omega (arith, all, same, few)),
    )
