use Rattle.std.proofs.Common.{◌≡◌, ◌≤◌, false, take}
use Rattle.std.specs.List.{list_any}
use Rattle.t3_console.specs.Rendering.{is_separator, size_of}
use Rattle.t3_console.proofs.words.next_word.Given as goal

abbrev pub invariant-loop-length : goal.invariant-loop-length
invariant-loop-length l = record {
  few : l.size ≤ l.length;
  sized : l.size ≡ size_of (take l.length l.text);
  whole : list_any is_separator (take l.length l.text) ≡ false;
}
