use Rattle.std.proofs.Common.{refl}
use Rattle.station.specs.declared.receiving.Refusal.TheVariants.{Denied}
use Rattle.station.specs.Calls.{handed_on}
use Rattle.sgsn.specs.declared.call.SgsnAnswer.TheVariants as sgsn_answer
use Rattle.sgsn.specs.declared.call.SgsnCall.TheVariants.{Detach}
use Rattle.sgsn.specs.Replies.{reply_to}
use Rattle.sgsn.specs.Detaching.{detach_plan}
use Rattle.sgsn.specs.State.{state_of}
use Rattle.law.proofs.Carried.{Carries}
use Rattle.law.proofs.Lawful.{law_step}
use Rattle.site.specs.ByHand.{own_call, asked}
use Rattle.site.specs.Sites.{states_of, view_of}
use Rattle.site.proofs.ByHand.{own_step, asks}
use Rattle.site.proofs.site.Site.detach.Goals as goal

pub returns-clause-step : goal.returns-clause-step
returns-clause-step g c =
    let x = view_of c.args.self.now in
    own_step g.C.Carrier.takes g.C.Carrier.puts (Detach c.args.imsi c.args.kind) (handed_on (λ p. sgsn_answer.Done) Denied c.detach.result) x (record { sgsn = state_of c.detach.new.self; vlrs = states_of c.args.self.now.vlrs.items; carrier = c.detach.new.carrier })
    (asks g.C.Carrier.takes g.C.Carrier.puts (reply_to x.sgsn.own c.args.imsi) (detach_plan x.sgsn c.args.imsi c.args.kind) c.detach.result x.sgsn x.carrier (state_of c.detach.new.self) c.detach.new.carrier c.detach.ensures) refl

pub returns-clause-law : goal.returns-clause-law
returns-clause-law g c es came =
    let carries : Carries g.C.Carrier.waiting g.C.InOrder.last_given g.C.Carrier.takes g.C.Carrier.puts = record {
      adds = g.met.C.Carrier.adds;
      gives = g.met.C.Carrier.gives;
      leaves = g.met.C.Carrier.leaves;
      still = g.met.C.InOrder.still;
      moves = g.met.C.InOrder.moves;
    } in
    let x = view_of c.args.self.now in
    law_step g.C.Carrier.waiting g.C.InOrder.last_given g.C.Carrier.takes g.C.Carrier.puts carries (own_call x (Detach c.args.imsi c.args.kind)) (asked c.detach.result) es x (record { sgsn = state_of c.detach.new.self; vlrs = states_of c.args.self.now.vlrs.items; carrier = c.detach.new.carrier }) came (returns-clause-step g c)
