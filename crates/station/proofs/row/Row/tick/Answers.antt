use Rattle.std.proofs.Common.{rules}
use Rattle.station.specs.Ticks.{due_sends, repeat_sends}
use Rattle.station.proofs.Chains.{sent_more}
use Rattle.station.proofs.row.Row.tick.Goals as goal

pub returns-clause-row : goal.returns-clause-row
returns-clause-row g c reach = cc (c.repeat.ensures.row (search rules), c.acknowledge.ensures.last (search rules), c.tick_due.ensures)

pub returns-clause-sent : goal.returns-clause-sent
returns-clause-sent g c reach =
    let own = c.args.sender.now.own in
    let last = c.args.sender.now.last in
    let first = c.acknowledge.ensures.sent (search rules) in
    let then = c.repeat.ensures.sent (search rules) in
    sent_more g.C.Carrier.puts own last (due_sends own c.args.peer c.args.self.now) (repeat_sends own c.args.peer c.args.self.now) c.args.carrier.now c.acknowledge.new.carrier c.repeat.new.carrier first
    (rw (c.acknowledge.ensures.own, c.acknowledge.ensures.last (search rules), c.tick_due.ensures) at then)
