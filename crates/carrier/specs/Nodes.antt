-- When two nodes are one.
use Rattle.std.specs.Prelude.{◌≡◌, true, refl}
use Rattle.std.proofs.lemmas.Bool.{eqb-true, eq-eqb}
use Rattle.elements.specs.declared.node.NodeNumber.{NodeNumber}
use Rattle.elements.specs.Nodes.{same_node}

-- a node is the one of its number
pub same_node_lem : (a b : NodeNumber) → same_node a b ≡ true → a ≡ b
same_node_lem a b t = let e = eqb-true a.number b.number t in λ i. record { number = e i }

pub own_node : (a : NodeNumber) → same_node a a ≡ true
own_node a = eq-eqb a.number _ refl
