-- Frames that an end sends: each takes the next stamp.
use Rattle.std.specs.Prelude.{◌≡◌, ℕ, ◌+◌, ◌<◌, Bool, true, not, ◌&&◌, List, [], ◌∷◌, map, Some, None, Option, nat_le}
use Rattle.std.specs.List.{list_all}
use Rattle.elements.specs.declared.node.NodeNumber.{NodeNumber}
use Rattle.frames.specs.declared.frame.Frame.{Frame}
use Rattle.frames.specs.Format.{lawful_nodes, lawful_frame, frame_octets}
use Rattle.carrier.specs.Chains.{PutsAll}
use Rattle.messages.specs.Lawful.{lawful_message}
use Rattle.station.specs.declared.sending.Outgoing.{Outgoing}
use Rattle.station.specs.declared.sending.Sender.{Sender}

-- an end whose last stamp is above this is worn
abbrev pub worn_above : ℕ
worn_above = 4294965000

abbrev pub is_worn : ℕ → Bool
is_worn last = not (nat_le last worn_above)

-- this end has so many stamps left
abbrev pub HasStamps : ℕ → Sender → Type 0
HasStamps n s = s.last + n < 4294967296

-- a lawful message, between two different lawful nodes
abbrev pub may_go : NodeNumber → Outgoing → Bool
may_go own s = lawful_nodes own s.to && lawful_message s.message

-- the frame that an end sends behind this last stamp
abbrev pub frame_of : NodeNumber → ℕ → Outgoing → Frame
frame_of own last s = record {
  source = own;
  destination = s.to;
  stamp = last + 1;
  answers = s.answers;
  message = s.message;
}

-- all that an end sends, one after the other
abbrev pub frames_of : NodeNumber → ℕ → List Outgoing → List Frame
frames_of own last [] = []
frames_of own last (s ∷ ss) = frame_of own last s ∷ frames_of own (last + 1) ss

-- these went out one after the other, each as a lawful frame
abbrev pub Sent : {C : Type 0} → (C → List ℕ → C → Type 0) → NodeNumber → ℕ → List Outgoing → C → C → Type 0
Sent puts own last ss c d =
    PutsAll puts c (map frame_octets (frames_of own last ss)) d
    × (list_all lawful_frame (frames_of own last ss) ≡ true)

-- one message or none
abbrev pub outgoing_in : Option Outgoing → List Outgoing
outgoing_in None = []
outgoing_in (Some s) = s ∷ []
