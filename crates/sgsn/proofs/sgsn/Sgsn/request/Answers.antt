use Rattle.std.proofs.lemmas.Result.{err_from_is_err_and}
use Rattle.station.proofs.Answering.{done_as}
use Rattle.sgsn.specs.State.{state_of, own_of, last_of}
use Rattle.sgsn.specs.Replies.{reply_to}
use Rattle.sgsn.specs.Requesting.{request_plan}
use Rattle.sgsn.proofs.sgsn.Sgsn.request.Goals as goal

pub returns-in_err-open_request : goal.returns-in_err-open_request
returns-in_err-open_request g c =
    let s = state_of c.args.self.now in
    let p = err_from_is_err_and c.from_residual.result c.from_residual.ensures.1 in
    rw (p.1, p.2) (done_as own_of last_of g.C.Carrier.puts (λ u. reply_to s.own c.args.imsi) (λ d. d) (request_plan s c.args.imsi c.args.request) _ s c.args.carrier.now _ _ c.in_err-open_request.ensures)
