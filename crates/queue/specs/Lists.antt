-- The frames of a queue, the oldest first.
use Rattle.std.specs.Prelude.{ℕ, Bool, if◌then◌else◌, List, [], ◌∷◌, ◌++◌, length, Some, None, Option, nat_lt}
use Rattle.std.specs.List.{position, find}
use Rattle.elements.specs.declared.node.NodeNumber.{NodeNumber}
use Rattle.elements.specs.Nodes.{same_node}
use Rattle.carrier.specs.declared.datagram.Datagram.{Datagram}
use Rattle.carrier.specs.Datagrams.{octets_in, travelling}
use Rattle.carrier.specs.Octets.{destination_of}

-- is this frame destined for this node?
abbrev pub is_for : NodeNumber → List ℕ → Bool
is_for n f = same_node (destination_of f) n

-- where the first frame for a node stands
abbrev pub place : NodeNumber → List Datagram → Option ℕ
place n ds = position (λ d. is_for n (octets_in d)) ds

abbrev pub first_for : NodeNumber → List (List ℕ) → Option (List ℕ)
first_for n fs = find (is_for n) fs

abbrev pub without_first : NodeNumber → List (List ℕ) → List (List ℕ)
without_first n [] = []
without_first n (f ∷ fs) = if is_for n f then fs else f ∷ without_first n fs

-- all of these, and one behind them if there is one
abbrev pub pushed : List (List ℕ) → Option (List ℕ) → List (List ℕ)
pushed fs None = fs
pushed fs (Some f) = fs ++ f ∷ []

-- what waits after a put of these octets
abbrev pub added : List ℕ → List (List ℕ) → List (List ℕ)
added f fs = if nat_lt (length fs) 512 then pushed fs (travelling f) else fs
