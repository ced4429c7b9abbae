use Rattle.std.proofs.Common.{◌≡◌, true, sym, ap, subst, ◌∙◌}
use Rattle.std.proofs.lemmas.Bool.{and_parts}
use Rattle.std.specs.List.{list_all}
use Rattle.station.specs.Sends.{Sent, may_go, outgoing_in}
use Rattle.context.specs.Ticking.{context_sends}
use Rattle.context.proofs.ticking.ContextTimed.tick.Goals as goal

pub returns-in-Some-clause-sent : goal.returns-in-Some-clause-sent
returns-in-Some-clause-sent g c room may =
    let own = c.args.sender.now.own in
    let all : outgoing_in c.tick_sends.result ≡ context_sends c.args.self = c.tick_sends.ensures in
    let one = ap outgoing_in (sym c.in-Some.is) ∙ all in
    let it = (and_parts (may_go own c.in-Some.outgoing) true (ap (list_all (may_go own)) one ∙ may)).0 in
    subst (λ l. Sent g.C.Carrier.puts own c.args.sender.now.last l c.args.carrier.now c.send.new.carrier) one (c.send.ensures.sent room it)
