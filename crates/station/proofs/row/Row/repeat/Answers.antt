use Rattle.std.proofs.Common.{[], ◌∷◌, cond, subst}
use Rattle.std.proofs.lemmas.Bool.{and_from, and_parts}
use Rattle.station.specs.Sends.{Sent}
use Rattle.station.specs.Ticks.{reset_to}
use Rattle.station.proofs.row.Row.repeat.Goals as goal

pub returns-then-repeat_now-clause-sent : goal.returns-then-repeat_now-clause-sent
returns-then-repeat_now-clause-sent g c reach =
    let own = c.args.sender.now.own in
    let last = c.args.sender.now.last in
    let out = rw c.reset.ensures at (c.send-stamp.ensures.sent reach.0) in
    subst (λ b. Sent g.C.Carrier.puts own last (cond b (reset_to own c.args.peer ∷ []) []) c.args.carrier.now c.send-stamp.new.carrier) c.if-repeat_now.ensures (out (and_from _ _ reach.1 (and_parts _ _ reach.1).0))
