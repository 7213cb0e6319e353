use Rattle.t3_load.proofs.Reading.{holder_is}
use Rattle.t3_load.proofs.rows.read_holder.Goals as goal

pub returns : goal.returns
returns c =
    holder_is c.raw_in.result c.args.bytes.now c.holder_of.result c.raw_in.ensures.fits c.raw_in.ensures.text c.holder_of.ensures.means
    c.holder_of.ensures.meant
