use Rattle.std.proofs.Common.{◌≡◌, ◌+◌, ◌<◌, ◌^◌, ℕ, List, [], ◌∷◌, Bor, length, take, sym, ap, subst, ◌∙◌, arith}
use Rattle.std.proofs.lemmas.List.{length-take-le, length-set, take_more_set}
use Rattle.t3_holder.specs.NumberText.{AreBytes}
use Rattle.t3_pools.specs.Pool.{HasBytes}
use Rattle.t3_pools.proofs.Standing.{stands_both}
use Rattle.t3_methods.proofs.Windows.{AreBytes-append}
use Rattle.t3_methods.proofs.window.gather_each.Goals as goal
use Rattle.t3_methods.proofs.window.gather_each.Goals.{then-is_empty, else-is_empty}

pub loop-count-preserved : goal.loop-count-preserved
loop-count-preserved c =
    let code = c.args.pools.now.code in
    let room : List ℕ = c.loop-count.room in
    let count : ℕ = c.loop-count.count in
    let here : ℕ = c.args.address + count in
    let bytes : List ℕ = c.if-is_empty.rest.now in
    let byte : ℕ = c.in-Some.byte.now in
    let trailing : List ℕ = c.in-Some.trailing.now in
    let kept = c.loop-count.invariant in
    let first : bytes ≡ byte ∷ trailing = c.in-Some.ensures.cases.0 in
    let some : 0 < length bytes = omega (arith, ap length first) in
    let are : AreBytes bytes = elim c.if-is_empty.branch [
      | then-is_empty w ↦ subst (λ (r : Bor (List ℕ)). AreBytes r.now) (sym w.rest-is) w.in_page-then-is_empty.ensures.shows.are
      | else-is_empty w ↦ subst (λ (r : Bor (List ℕ)). AreBytes r.now) (sym w.rest-is) kept.rest_are
    ] in
    let stand : HasBytes code here bytes = elim c.if-is_empty.branch [
      | then-is_empty w ↦ subst (λ (r : Bor (List ℕ)). HasBytes code here r.now) (sym w.rest-is)
          w.in_page-then-is_empty.ensures.shows.stands
      | else-is_empty w ↦ subst (λ (r : Bor (List ℕ)). HasBytes code here r.now) (sym w.rest-is) kept.rest_stands
    ] in
    let bounded : 0 < length bytes → here + length bytes < 2 ^ 31 = elim c.if-is_empty.branch [
      | then-is_empty w ↦ subst (λ (r : Bor (List ℕ)). 0 < length r.now → here + length r.now < 2 ^ 31) (sym w.rest-is)
          w.in_page-then-is_empty.ensures.shows.bounded
      | else-is_empty w ↦ subst (λ (r : Bor (List ℕ)). 0 < length r.now → here + length r.now < 2 ^ 31) (sym w.rest-is)
          kept.rest_bounded
    ] in
    let long = length-take-le count room (omega (arith, kept.long)) in
    let all_are : AreBytes (byte ∷ trailing) = subst AreBytes first are in
    let all_stand : HasBytes code here (byte ∷ trailing) = subst (λ (b : List ℕ). HasBytes code here b) first stand in
    let more = sym (take_more_set room count byte (omega (arith, kept.long))) in
    let at : here ≡ c.args.address + length (take count room) = omega (arith, long) in
    let next : here + 1 ≡ c.args.address + (count + 1) = omega arith in
    record {
      below = λ _. omega (arith, bounded some, ap length first);
      long = length-set room count byte ∙ kept.long;
      are = subst (λ (b : List ℕ). AreBytes b) more (AreBytes-append (take count room) (byte ∷ []) kept.are (all_are.0, tt));
      stands = subst (λ (b : List ℕ). HasBytes code c.args.address b) more
          (stands_both code (take count room) (byte ∷ []) c.args.address kept.stands
          (subst (λ (a : ℕ). HasBytes code a (byte ∷ [])) at (all_stand.0, tt)));
      rest_are = all_are.1;
      rest_stands = subst (λ (a : ℕ). HasBytes code a trailing) next all_stand.1;
      rest_bounded = λ _. omega (arith, bounded some, ap length first);
    }
