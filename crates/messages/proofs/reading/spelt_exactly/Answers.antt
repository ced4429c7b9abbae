use Rattle.messages.proofs.Exactly.{exactly}
use Rattle.messages.proofs.reading.spelt_exactly.Goals as goal

pub returns : goal.returns
returns c = exactly c.args.octets.now c.args.at c.args.read (λ k. (c.type_inv.octets k).fits) c.requires
