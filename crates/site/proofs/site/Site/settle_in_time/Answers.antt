use Rattle.sgsn.specs.State.{state_of}
use Rattle.law.proofs.Carried.{Carries}
use Rattle.site.specs.Sites.{states_of}
use Rattle.site.proofs.Waits.{in_time}
use Rattle.site.proofs.site.Site.settle_in_time.Goals as goal

pub returns-clause-law : goal.returns-clause-law
returns-clause-law g c =
    let carries : Carries g.C.Carrier.waiting g.C.InOrder.last_given g.C.Carrier.takes g.C.Carrier.puts = record {
      adds = g.met.C.Carrier.adds;
      gives = g.met.C.Carrier.gives;
      leaves = g.met.C.Carrier.leaves;
      still = g.met.C.InOrder.still;
      moves = g.met.C.InOrder.moves;
    } in
    in_time g.C.Carrier.waiting g.C.InOrder.last_given g.C.Carrier.takes g.C.Carrier.puts carries c.args.reply c.settle_in_time.result (state_of c.args.self.now.sgsn) (state_of c.settle_in_time.new.self) (states_of c.args.self.now.vlrs.items) c.args.self.now.carrier c.settle_in_time.new.carrier c.settle_in_time.ensures.settled
