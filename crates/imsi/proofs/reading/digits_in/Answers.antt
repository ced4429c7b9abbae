use Rattle.imsi.proofs.Round.{exactly}
use Rattle.imsi.proofs.reading.digits_in.Goals as goal

pub returns-clause-exactly : goal.returns-clause-exactly
returns-clause-exactly c = exactly c.args.octets.now c.digits_by_marker.result c.digits_by_marker.ensures
