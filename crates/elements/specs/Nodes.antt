-- Node numbers: 1 to 254.
use Rattle.std.specs.Prelude.{Bool, ◌&&◌, ◌==◌, nat_le}
use Rattle.elements.specs.declared.node.NodeNumber.{NodeNumber}

abbrev pub lawful_node : NodeNumber → Bool
lawful_node n = nat_le 1 n.number && nat_le n.number 254

abbrev pub same_node : NodeNumber → NodeNumber → Bool
same_node a b = a.number == b.number
