use Rattle.std.proofs.lemmas.Result.{err_from_is_err_and}
use Rattle.station.proofs.Answering.{done_as}
use Rattle.sgsn.specs.State.{state_of, own_of, last_of}
use Rattle.sgsn.specs.Replies.{reply_to}
use Rattle.sgsn.specs.Detaching.{detach_plan}
use Rattle.sgsn.proofs.sgsn.Sgsn.detach.Goals as goal

pub returns-in_err-open_detach : goal.returns-in_err-open_detach
returns-in_err-open_detach g c =
    let s = state_of c.args.self.now in
    let p = err_from_is_err_and c.from_residual.result c.from_residual.ensures.1 in
    rw (p.1, p.2) (done_as own_of last_of g.C.Carrier.puts (λ u. reply_to s.own c.args.imsi) (λ d. d) (detach_plan s c.args.imsi c.args.kind) _ s c.args.carrier.now _ _ c.in_err-open_detach.ensures)
