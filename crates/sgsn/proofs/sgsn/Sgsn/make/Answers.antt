use Rattle.station.specs.declared.receiving.Refusal.TheVariants.{Denied}
use Rattle.station.proofs.Answering.{done_as, decided_done}
use Rattle.sgsn.specs.declared.call.SgsnAnswer.TheVariants as answer
use Rattle.sgsn.specs.Enrolling.{enrol_plan, attach_plan}
use Rattle.sgsn.specs.Requesting.{request_plan}
use Rattle.sgsn.specs.Detaching.{detach_plan}
use Rattle.sgsn.specs.Recovering.{lose_plan, tick_plan}
use Rattle.sgsn.specs.State.{state_of, own_of, last_of}
use Rattle.sgsn.proofs.sgsn.Sgsn.make.Goals as goal

pub returns-in-Enrol : goal.returns-in-Enrol
returns-in-Enrol g c =
    let s = state_of c.args.self.now in
    rw (c.in-Enrol.is, c.done.ensures) (done_as own_of last_of g.C.Carrier.puts (λ u. answer.Done) Denied (enrol_plan s c.in-Enrol.imsi c.in-Enrol.class) _ s _ _ c.args.carrier.now (decided_done own_of last_of g.C.Carrier.puts (enrol_plan s c.in-Enrol.imsi c.in-Enrol.class) _ s _ _ c.enrol.ensures))

pub returns-in-Attach : goal.returns-in-Attach
returns-in-Attach g c =
    let s = state_of c.args.self.now in
    rw (c.in-Attach.is, c.done-in-Attach.ensures) (done_as own_of last_of g.C.Carrier.puts (λ u. answer.Done) Denied (attach_plan s c.in-Attach.imsi) _ s _ _ c.args.carrier.now (decided_done own_of last_of g.C.Carrier.puts (attach_plan s c.in-Attach.imsi) _ s _ _ c.attach.ensures))

pub returns-in-Request : goal.returns-in-Request
returns-in-Request g c =
    let s = state_of c.args.self.now in
    rw (c.in-Request.is, c.done-in-Request.ensures) (done_as own_of last_of g.C.Carrier.puts (λ u. answer.Done) Denied (request_plan s c.in-Request.imsi c.in-Request.request) _ s _ _ c.open_request.new.carrier c.open_request.ensures)

pub returns-in-Detach : goal.returns-in-Detach
returns-in-Detach g c =
    let s = state_of c.args.self.now in
    rw (c.in-Detach.is, c.done-in-Detach.ensures) (done_as own_of last_of g.C.Carrier.puts (λ u. answer.Done) Denied (detach_plan s c.in-Detach.imsi c.in-Detach.kind) _ s _ _ c.open_detach.new.carrier c.open_detach.ensures)

pub returns-in-Lose : goal.returns-in-Lose
returns-in-Lose g c =
    let s = state_of c.args.self.now in
    rw (c.in-Lose.is, c.done-in-Lose.ensures) (done_as own_of last_of g.C.Carrier.puts (λ u. answer.Done) Denied (lose_plan s) _ s _ _ c.lose.new.carrier c.lose.ensures)

pub returns-in-Tick : goal.returns-in-Tick
returns-in-Tick g c =
    let s = state_of c.args.self.now in
    rw (c.in-Tick.is, c.done-in-Tick.ensures) (done_as own_of last_of g.C.Carrier.puts (λ u. answer.Done) Denied (tick_plan s) _ s _ _ c.tick.new.carrier c.tick.ensures)
