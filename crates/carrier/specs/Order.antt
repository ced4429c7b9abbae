-- The latest stamp given from each node to each: what a put and a take do to it.
use Rattle.std.specs.Prelude.{◌≡◌, ℕ, ◌<◌, List, Some, None, Option, ◌≢◌}
use Rattle.elements.specs.declared.node.NodeNumber.{NodeNumber}
use Rattle.carrier.specs.Octets.{source_of, destination_of, stamp_of}

-- from a node to a node
abbrev pub Stamps : Type 0
Stamps = NodeNumber → NodeNumber → ℕ

abbrev pub Still : Stamps → Stamps → Type 0
Still before after = (a b : NodeNumber) → after a b ≡ before a b

-- a frame given has a higher stamp than all given before from its source to its node, and is now the latest there
abbrev pub Moves : Stamps → Option (List ℕ) → Stamps → Type 0
Moves before None after = Still before after
Moves before (Some f) after =
    (before (source_of f) (destination_of f) < stamp_of f)
    × (after (source_of f) (destination_of f) ≡ stamp_of f)
    × ((a b : NodeNumber) → (a ≡ source_of f → b ≢ destination_of f) → after a b ≡ before a b)

-- nothing was given, from any node to any
abbrev pub NoneGiven : Stamps → Type 0
NoneGiven latest = (a b : NodeNumber) → latest a b ≡ 0
