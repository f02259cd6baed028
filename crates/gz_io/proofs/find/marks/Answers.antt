use Rattle.gz_io.proofs.Lanes.{marked}
use Rattle.gz_io.proofs.find.marks.Goals as goal

pub returns : goal.returns
returns c = marked c.args.bytes c.fits-bytes.0
