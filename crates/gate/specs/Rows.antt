-- The rows of the gate: the latest stamp given of each pair of nodes, in the order in which pairs were first given.
use Rattle.std.specs.Prelude.{ℕ, Bool, true, false, if◌then◌else◌, ◌&&◌, List, [], ◌∷◌, length, take, Option, nat_lt}
use Rattle.std.specs.List.{position}
use Rattle.elements.specs.declared.node.NodeNumber.{NodeNumber}
use Rattle.elements.specs.Nodes.{same_node}
use Rattle.gate.specs.declared.pairs.Pair.{Pair}
use Rattle.gate.specs.declared.pairs.Pairs.{Pairs}

abbrev pub rows_of : Pairs → List Pair
rows_of t = take t.count t.rows

-- is this the row of a to b?
abbrev pub is_of : NodeNumber → NodeNumber → Pair → Bool
is_of a b p = same_node p.route.source a && same_node p.route.destination b

abbrev pub row : NodeNumber → NodeNumber → ℕ → Pair
row a b k = record { route = record { source = a; destination = b }; stamp = k }

-- where the row of a to b stands
abbrev pub spot : NodeNumber → NodeNumber → List Pair → Option ℕ
spot a b ps = position (is_of a b) ps

-- the latest stamp from a to b, 0 when new
abbrev pub last_given_in : List Pair → NodeNumber → NodeNumber → ℕ
last_given_in [] a b = 0
last_given_in (p ∷ ps) a b = if is_of a b p then p.stamp else last_given_in ps a b

abbrev pub known : List Pair → NodeNumber → NodeNumber → Bool
known [] a b = false
known (p ∷ ps) a b = if is_of a b p then true else known ps a b

-- above the latest stamp, and of a pair that has a row or can get one
abbrev pub fresh : List Pair → NodeNumber → NodeNumber → ℕ → Bool
fresh ps a b k = nat_lt (last_given_in ps a b) k && (if known ps a b then true else nat_lt (length ps) 16)

-- the rows after this stamp was given
abbrev pub noted : List Pair → NodeNumber → NodeNumber → ℕ → List Pair
noted [] a b k = row a b k ∷ []
noted (p ∷ ps) a b k = if is_of a b p then row a b k ∷ ps else p ∷ noted ps a b k
