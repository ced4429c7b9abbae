-- The slots of a mailbox, one for each pair of nodes, the earliest first.
use Rattle.std.specs.Prelude.{ℕ, Bool, true, false, if◌then◌else◌, ◌&&◌, List, [], ◌∷◌, ◌++◌, length, Some, None, Option, nat_lt}
use Rattle.std.specs.List.{position}
use Rattle.elements.specs.declared.node.NodeNumber.{NodeNumber}
use Rattle.elements.specs.Nodes.{same_node}
use Rattle.carrier.specs.declared.datagram.Datagram.{Datagram}
use Rattle.carrier.specs.Datagrams.{octets_in}
use Rattle.carrier.specs.Octets.{source_of, destination_of, stamp_of}
use Rattle.mailbox.specs.declared.slot.Slot.{Slot}

abbrev pub slot : Datagram → ℕ → Slot
slot d k = record { frame = d; given = k }

-- the octets of its frame
abbrev pub held_by : Slot → List ℕ
held_by e = octets_in e.frame

-- is it the slot of this pair?
abbrev pub is_of : NodeNumber → NodeNumber → Slot → Bool
is_of a b e = same_node (source_of (held_by e)) a && same_node (destination_of (held_by e)) b

-- is it the slot of the pair of these octets?
abbrev pub pair_of : List ℕ → Slot → Bool
pair_of f = is_of (source_of f) (destination_of f)

-- its frame was not given, nor one of that stamp or a higher
abbrev pub waits : Slot → Bool
waits e = nat_lt e.given (stamp_of (held_by e))

abbrev pub waits_for : NodeNumber → Slot → Bool
waits_for n e = same_node (destination_of (held_by e)) n && waits e

-- does one pass, where is the first, what does it hold, and all with that one changed
abbrev pub any : (Slot → Bool) → List Slot → Bool
any p [] = false
any p (e ∷ es) = if p e then true else any p es

abbrev pub place : (Slot → Bool) → List Slot → Option ℕ
place p es = position p es

abbrev pub first : (Slot → Bool) → List Slot → Option (List ℕ)
first p [] = None
first p (e ∷ es) = if p e then Some (held_by e) else first p es

abbrev pub change : (Slot → Bool) → (Slot → Slot) → List Slot → List Slot
change p g [] = []
change p g (e ∷ es) = if p e then g e ∷ es else e ∷ change p g es

-- no two of one pair
abbrev pub distinct : List Slot → Bool
distinct [] = true
distinct (e ∷ es) = if any (pair_of (held_by e)) es then false else distinct es

-- the frames that wait
abbrev pub held_in : List Slot → List (List ℕ)
held_in [] = []
held_in (e ∷ es) = if waits e then held_by e ∷ held_in es else held_in es

-- the stamp last given of a pair, 0 when new
abbrev pub last_given_in : List Slot → NodeNumber → NodeNumber → ℕ
last_given_in [] a b = 0
last_given_in (e ∷ es) a b = if is_of a b e then e.given else last_given_in es a b

-- with this frame if its stamp is higher: of two of the same stamp the first stays
abbrev pub renewed : Datagram → Slot → Slot
renewed d e = if nat_lt (stamp_of (held_by e)) (stamp_of (octets_in d)) then slot d e.given else e

-- with its frame given
abbrev pub emptied : Slot → Slot
emptied e = slot e.frame (stamp_of (held_by e))

-- with this frame noted: in the slot of its pair, or in a new one if there are fewer than 16
abbrev pub noted : Datagram → List Slot → List Slot
noted d es =
    if any (pair_of (octets_in d)) es then change (pair_of (octets_in d)) (renewed d) es
    else if nat_lt (length es) 16 then es ++ slot d 0 ∷ []
    else es
