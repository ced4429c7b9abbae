use Rattle.law.proofs.Carried.{Carries}
use Rattle.law.proofs.Lawful.{law_step}
use Rattle.site.specs.Sites.{view_of}
use Rattle.site.proofs.site.Site.make.Goals as goal

pub returns-clause-law : goal.returns-clause-law
returns-clause-law g c es came =
    let carries : Carries g.C.Carrier.waiting g.C.InOrder.last_given g.C.Carrier.takes g.C.Carrier.puts = record {
      adds = g.met.C.Carrier.adds;
      gives = g.met.C.Carrier.gives;
      leaves = g.met.C.Carrier.leaves;
      still = g.met.C.InOrder.still;
      moves = g.met.C.InOrder.moves;
    } in
    law_step g.C.Carrier.waiting g.C.InOrder.last_given g.C.Carrier.takes g.C.Carrier.puts carries c.args.call c.step.result es (view_of c.args.self.now) (view_of c.step.new.self) came c.step.ensures
