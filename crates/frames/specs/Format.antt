-- Frames: ten octets of nodes and stamps, then one message to the end.
use Rattle.std.specs.Prelude.{◌≡◌, ℕ, Bool, true, if◌then◌else◌, not, ◌&&◌, List, ◌∷◌, ◌++◌, length, Ok, Result, ◌==◌, nat_le, nat_lt, slice_index}
use Rattle.elements.specs.declared.fault.Fault.{Fault}
use Rattle.elements.specs.declared.fault.FaultKind.TheVariants as kind
use Rattle.elements.specs.declared.node.NodeNumber.{NodeNumber}
use Rattle.elements.specs.Faults.{wrong, and_then}
use Rattle.elements.specs.Nodes.{lawful_node, same_node}
use Rattle.elements.specs.Reading.{number_at}
use Rattle.elements.specs.Spelling.{four_octets}
use Rattle.messages.specs.declared.message.Message.{Message}
use Rattle.messages.specs.Lawful.{lawful_message}
use Rattle.messages.specs.Reading.{message_at}
use Rattle.messages.specs.Spelling.{octets_of}
use Rattle.frames.specs.declared.frame.Frame.{Frame}
use Rattle.frames.specs.declared.frame.Header.{Header}

-- two different lawful nodes
abbrev pub lawful_nodes : NodeNumber → NodeNumber → Bool
lawful_nodes a b = lawful_node a && (lawful_node b && not (same_node a b))

-- a stamp is any number of four octets but 0; 0 stands for no frame
abbrev pub lawful_stamp : ℕ → Bool
lawful_stamp n = nat_le 1 n && nat_lt n 4294967296

abbrev pub lawful_frame : Frame → Bool
lawful_frame f = lawful_nodes f.source f.destination && (lawful_stamp f.stamp && (nat_lt f.answers 4294967296 && lawful_message f.message))

abbrev pub header_octets : NodeNumber → NodeNumber → ℕ → ℕ → List ℕ
header_octets a b stamp answers = a.number ∷ b.number ∷ four_octets stamp ++ four_octets answers

abbrev pub frame_octets : Frame → List ℕ
frame_octets f = header_octets f.source f.destination f.stamp f.answers ++ octets_of f.message

-- these octets are the spelling of a lawful frame
abbrev pub Spells : Frame → List ℕ → Type 0
Spells f s = (lawful_frame f ≡ true) × (frame_octets f ≡ s)

-- the node whose number stands at a place
abbrev pub node_at : List ℕ → ℕ → NodeNumber
node_at s at = record { number = slice_index s at }

-- what stands in front of the message
abbrev pub header_in : List ℕ → Header
header_in s = record { source = node_at s 0; destination = node_at s 1; stamp = number_at s 2; answers = number_at s 6 }

-- a header, or its first fault in the order of the octets
abbrev pub lawful_header : Header → Result Header Fault
lawful_header h =
    if not (lawful_node h.source) then wrong kind.Nodes 0
    else if not (lawful_node h.destination) then wrong kind.Nodes 1
    else if same_node h.source h.destination then wrong kind.Nodes 0
    else if h.stamp == 0 then wrong kind.Stamp 2
    else Ok h

-- the first fault in front of the message, if there is one
abbrev pub header_read : List ℕ → Result Header Fault
header_read s =
    if nat_lt (length s) 11 then wrong kind.FrameSize (length s)
    else if nat_lt 64 (length s) then wrong kind.FrameSize 64
    else lawful_header (header_in s)

abbrev pub framed : Header → Message → Frame
framed h m = record { source = h.source; destination = h.destination; stamp = h.stamp; answers = h.answers; message = m }

abbrev pub frame_in : List ℕ → Result Frame Fault
frame_in s = and_then (header_read s) (λ h. and_then (message_at s 10) (λ m. Ok (framed h m)))

-- what is read is a lawful frame that these octets spell, and every lawful frame that they spell is read
pub record ReadsExactly (s : List ℕ) (r : Result Frame Fault) : Type 0 where
  pub spelt_so : (f : Frame) → r ≡ Ok f → Spells f s
  pub read_so : (f : Frame) → Spells f s → r ≡ Ok f

-- whatever is read of these octets is read exactly
abbrev pub AlwaysExactly : List ℕ → Type 0
AlwaysExactly s = (r : Result Frame Fault) → r ≡ frame_in s → ReadsExactly s r
