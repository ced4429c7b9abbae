use Rattle.std.proofs.Common.{refl}
use Rattle.sgsn.specs.State.{state_of}
use Rattle.law.proofs.Carried.{Carries}
use Rattle.site.specs.Sites.{states_of, view_of}
use Rattle.site.proofs.ByHand.{settles, lawfully}
use Rattle.site.proofs.site.Site.settle.Goals as goal

pub returns-clause-step : goal.returns-clause-step
returns-clause-step g c = settles g.C.Carrier.takes g.C.Carrier.puts c.args.reply c.settle.result (view_of c.args.self.now) (record { sgsn = state_of c.settle.new.self; vlrs = states_of c.args.self.now.vlrs.items; carrier = c.args.self.now.carrier }) c.settle.ensures refl refl

pub returns-clause-law : goal.returns-clause-law
returns-clause-law g c es came =
    let carries : Carries g.C.Carrier.waiting g.C.InOrder.last_given g.C.Carrier.takes g.C.Carrier.puts = record {
      adds = g.met.C.Carrier.adds;
      gives = g.met.C.Carrier.gives;
      leaves = g.met.C.Carrier.leaves;
      still = g.met.C.InOrder.still;
      moves = g.met.C.InOrder.moves;
    } in
    lawfully g.C.Carrier.takes g.C.Carrier.puts g.C.Carrier.waiting g.C.InOrder.last_given carries es (view_of c.args.self.now) (record { sgsn = state_of c.settle.new.self; vlrs = states_of c.args.self.now.vlrs.items; carrier = c.args.self.now.carrier }) came c.args.reply c.settle.result (returns-clause-step g c)
