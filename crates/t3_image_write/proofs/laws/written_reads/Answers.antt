use Rattle.std.proofs.Common.{[], length, sym, ◌∙◌, arith}
use Rattle.std.proofs.lemmas.List.{append-nil, take_all}
use Rattle.t3_image_read.specs.ImageText.{text}
use Rattle.t3_image_read.proofs.Uniqueness.{one_image}
use Rattle.t3_image_write.proofs.laws.written_reads.Goals as goal

pub returns-clause-reads_back : goal.returns-clause-reads_back
returns-clause-reads_back c image valid = record {
  valid = valid;
  within = omega arith;
  is = sym (take_all (length (text image)) (text image) (omega arith));
}

pub returns-clause-alone : goal.returns-clause-alone
returns-clause-alone c a b trailing valid_a valid_b e =
    let parts = one_image a b [] trailing valid_a valid_b (append-nil (text a) ∙ e) in
    (parts.0, sym parts.1)

pub returns-clause-writes_used : goal.returns-clause-writes_used
returns-clause-writes_used c image before piece used ends = sym ends.is
