use Rattle.std.proofs.Common.{refl}
use Rattle.station.specs.declared.receiving.Refusal.TheVariants.{Denied}
use Rattle.station.specs.Calls.{handed_on}
use Rattle.sgsn.specs.declared.call.SgsnAnswer.TheVariants as sgsn_answer
use Rattle.sgsn.specs.declared.call.SgsnCall.TheVariants.{Request}
use Rattle.sgsn.specs.Replies.{reply_to}
use Rattle.sgsn.specs.Requesting.{request_plan}
use Rattle.sgsn.specs.State.{state_of}
use Rattle.law.proofs.Carried.{Carries}
use Rattle.law.proofs.Lawful.{law_step}
use Rattle.site.specs.ByHand.{own_call, asked}
use Rattle.site.specs.Sites.{states_of, view_of}
use Rattle.site.proofs.ByHand.{own_step, asks}
use Rattle.site.proofs.site.Site.request.Goals as goal

pub returns-clause-step : goal.returns-clause-step
returns-clause-step g c =
    let x = view_of c.args.self.now in
    own_step g.C.Carrier.takes g.C.Carrier.puts (Request c.args.imsi c.args.request) (handed_on (λ p. sgsn_answer.Done) Denied c.request.result) x (record { sgsn = state_of c.request.new.self; vlrs = states_of c.args.self.now.vlrs.items; carrier = c.request.new.carrier })
    (asks g.C.Carrier.takes g.C.Carrier.puts (reply_to x.sgsn.own c.args.imsi) (request_plan x.sgsn c.args.imsi c.args.request) c.request.result x.sgsn x.carrier (state_of c.request.new.self) c.request.new.carrier c.request.ensures) refl

pub returns-clause-law : goal.returns-clause-law
returns-clause-law g c es came =
    let carries : Carries g.C.Carrier.waiting g.C.InOrder.last_given g.C.Carrier.takes g.C.Carrier.puts = record {
      adds = g.met.C.Carrier.adds;
      gives = g.met.C.Carrier.gives;
      leaves = g.met.C.Carrier.leaves;
      still = g.met.C.InOrder.still;
      moves = g.met.C.InOrder.moves;
    } in
    let x = view_of c.args.self.now in
    law_step g.C.Carrier.waiting g.C.InOrder.last_given g.C.Carrier.takes g.C.Carrier.puts carries (own_call x (Request c.args.imsi c.args.request)) (asked c.request.result) es x (record { sgsn = state_of c.request.new.self; vlrs = states_of c.args.self.now.vlrs.items; carrier = c.request.new.carrier }) came (returns-clause-step g c)
