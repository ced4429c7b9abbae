use Rattle.carrier.proofs.in_order.InOrder.put.Goals as goal

pub returns-clause-waiting : goal.returns-clause-waiting
returns-clause-waiting g c = g.met.Self.Carrier.adds _ _ _ c.put.ensures
