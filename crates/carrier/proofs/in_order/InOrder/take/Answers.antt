use Rattle.carrier.proofs.in_order.InOrder.take.Goals as goal

pub returns-clause-waiting : goal.returns-clause-waiting
returns-clause-waiting g c = g.met.Self.Carrier.leaves _ _ _ _ c.take.ensures
