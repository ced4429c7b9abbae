use Rattle.std.proofs.Common.{◌≡◌, Ok, Err, rules}
use Rattle.station.specs.declared.receiving.Refusal.TheVariants.{Denied}
use Rattle.station.proofs.Answering.{done_as, does_as, decided_done}
use Rattle.vlr.specs.declared.call.VlrAnswer.TheVariants as answer
use Rattle.vlr.specs.Delivering.{delivery}
use Rattle.vlr.specs.Enrolling.{enrol_plan}
use Rattle.vlr.specs.Paging.{page_plan}
use Rattle.vlr.specs.Recovering.{lose_plan, tick_plan}
use Rattle.vlr.specs.State.{state_of, own_of, last_of}
use Rattle.vlr.proofs.vlr.Vlr.make.Goals as goal

pub returns-in-Enrol : goal.returns-in-Enrol
returns-in-Enrol g c =
    let s = state_of c.args.self.now in
    let plan = enrol_plan s c.in-Enrol.imsi c.in-Enrol.home_cause in
    rw (c.in-Enrol.is, c.done.ensures) (done_as own_of last_of g.C.Carrier.puts (λ u. answer.Done) Denied plan _ s _ _ c.args.carrier.now
    (decided_done own_of last_of g.C.Carrier.puts plan _ s _ _ c.enrol.ensures.decided))

pub returns-in-Page : goal.returns-in-Page
returns-in-Page g c =
    let s = state_of c.args.self.now in
    rw (c.in-Page.is, c.done-in-Page.ensures) (done_as own_of last_of g.C.Carrier.puts (λ u. answer.Done) Denied (page_plan s c.in-Page.imsi c.in-Page.tmsi c.in-Page.channel) _ s _ _ c.page.new.carrier c.page.ensures)

pub returns-in-Lose : goal.returns-in-Lose
returns-in-Lose g c =
    let s = state_of c.args.self.now in
    rw (c.in-Lose.is, c.done-in-Lose.ensures) (done_as own_of last_of g.C.Carrier.puts (λ u. answer.Done) Denied (lose_plan s) _ s _ _ c.lose.new.carrier c.lose.ensures.called)

pub returns-in-Tick : goal.returns-in-Tick
returns-in-Tick g c =
    let s = state_of c.args.self.now in
    rw (c.in-Tick.is, c.done-in-Tick.ensures) (done_as own_of last_of g.C.Carrier.puts (λ u. answer.Done) Denied (tick_plan s) _ s _ _ c.tick.new.carrier c.tick.ensures)

pub returns-in_err-deliver-in-Deliver : goal.returns-in_err-deliver-in-Deliver
returns-in_err-deliver-in-Deliver g c =
    let refused = c.in_err-deliver-in-Deliver in
    let is : c.from_residual.result ≡ Err refused.field-0.0 = search rules in
    rw (c.in-Deliver.is, is) (does_as own_of last_of g.C.Carrier.puts g.C.Carrier.takes answer.Delivered (λ e. e) (delivery (state_of c.args.self.now)) (Err refused.field-0.0) _ c.args.carrier.now _ c.deliver.new.carrier refused.ensures.delivers)

pub returns-in_ok-deliver-in-Deliver : goal.returns-in_ok-deliver-in-Deliver
returns-in_ok-deliver-in-Deliver g c =
    let given = c.in_ok-deliver-in-Deliver in
    rw (c.in-Deliver.is) (does_as own_of last_of g.C.Carrier.puts g.C.Carrier.takes answer.Delivered (λ e. e) (delivery (state_of c.args.self.now)) (Ok given.field-0) _ c.args.carrier.now _ c.deliver.new.carrier given.ensures.delivers)
