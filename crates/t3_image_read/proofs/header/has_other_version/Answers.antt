use Rattle.std.proofs.Common.{refl}
use Rattle.t3_image_read.proofs.HeadFaults.{version_test}
use Rattle.t3_image_read.proofs.header.has_other_version.Goals as goal

pub returns-then-bytes-ge-RESERVED_AT : goal.returns-then-bytes-ge-RESERVED_AT
returns-then-bytes-ge-RESERVED_AT c = let there = c.if-bytes-ge-RESERVED_AT.true in version_test c.args.bytes.now c.u16_at.result _
    (c.u16_at.type_inv) there c.u16_at.ensures refl
