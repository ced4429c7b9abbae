use Rattle.frames.proofs.Exactly.{exactly}
use Rattle.frames.proofs.reading.spelt_exactly.Goals as goal

pub returns : goal.returns
returns c = λ r e. exactly c.args.octets.now r (λ k. (c.type_inv.octets k).fits) e
