use Rattle.std.proofs.Common.{ap, ◌∙◌, ◌++◌, List, ℕ}
use Rattle.std.specs.FinMap.{entries}
use Rattle.t3_snapshot.specs.State.{One, saved, with_digest, head_text, body_text, trimmed}
use Rattle.t3_snapshot.proofs.encoding.encode_objects.Goals as goal

pub returns : goal.returns
unfolding saved
returns c =
    let empty = c.new-out.ensures.items in
    c.in_ok-append_digest.ensures ∙ ap with_digest (c.in_ok-append_state.ensures
    ∙ ap (λ (x : List ℕ). x ++ (head_text One c.args.fingerprint.now
    ++ body_text One c.args.next (entries (trimmed c.args.state.now)))) empty)
