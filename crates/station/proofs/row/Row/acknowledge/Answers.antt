use Rattle.std.proofs.Common.{sym, ◌∙◌, subst}
use Rattle.std.proofs.lemmas.Bool.{and_from, and_parts}
use Rattle.station.specs.Sends.{Sent}
use Rattle.station.specs.Ticks.{acknowledging}
use Rattle.station.proofs.row.Row.acknowledge.Goals as goal

pub returns-in-Some-clause-sent : goal.returns-in-Some-clause-sent
returns-in-Some-clause-sent g c reach =
    let own = c.args.sender.now.own in
    let last = c.args.sender.now.last in
    let out = rw c.acknowledgement.ensures at (c.send.ensures.sent reach.0) in
    subst (λ o. Sent g.C.Carrier.puts own last (acknowledging own c.args.peer o) c.args.carrier.now c.send.new.carrier) (sym c.in-Some.is ∙ c.due_now.ensures) (out (and_from _ _ reach.1 (and_parts _ _ reach.1).0))
