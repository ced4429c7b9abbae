use Rattle.vlr.specs.State.{state_of}
use Rattle.site.specs.Registers.{Makes}
use Rattle.site.proofs.Places.{one_changed}
use Rattle.site.proofs.registers.make_at.Goals as goal

pub returns-clause-makes : goal.returns-clause-makes
returns-clause-makes g c = one_changed state_of (Makes g.C.Carrier.takes g.C.Carrier.puts c.args.call c.make.result) c.args.vlrs.now c.args.place c.index-vlrs-place.result c.make.new.self c.args.carrier.now c.make.new.carrier c.requires c.make.ensures
