use Rattle.std.proofs.Common.{◌≡◌, ◌≤◌, length, drop, false}
use Rattle.std.specs.List.{list_any}
use Rattle.t3_lists.specs.Inner.Elements.{is_needed}
use Rattle.t3_lists.proofs.elements.needed_length.Given as goal

-- none of the elements from there on is needed
abbrev pub invariant-loop-left : goal.invariant-loop-left
invariant-loop-left l = record {
  within : l.left ≤ length l.elements;
  none : list_any (is_needed l.oldest) (drop l.left l.elements) ≡ false;
}

abbrev pub decreases-loop-left : goal.decreases-loop-left
decreases-loop-left l = l.left
