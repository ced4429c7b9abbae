-- One take: nothing, a frame, or octets that are none.
use Rattle.std.specs.Prelude.{◌≡◌, ℕ, Bool, true, ◌&&◌, List, Some, None, Ok, Option, Result}
use Rattle.elements.specs.declared.fault.Fault.{Fault}
use Rattle.elements.specs.declared.node.NodeNumber.{NodeNumber}
use Rattle.elements.specs.Nodes.{same_node}
use Rattle.messages.specs.declared.message.Message.{Message}
use Rattle.messages.specs.declared.message.Message.TheVariants.{Reset, ResetAcknowledge}
use Rattle.frames.specs.declared.frame.Frame.{Frame}
use Rattle.frames.specs.Format.{frame_in, lawful_frame}

-- what a take for this node gave, as it reads
abbrev pub Received : {C : Type 0} → (C → NodeNumber → Option (List ℕ) → C → Type 0)
    → NodeNumber → Option (Result Frame Fault) → C → C → Type 0
Received takes n None c d = takes c n None d
Received takes n (Some r) c d = (x : List ℕ) × takes c n (Some x) d × (frame_in x ≡ r)

-- a frame that was read is lawful
abbrev pub LawfulIn : Option (Result Frame Fault) → Type 0
LawfulIn r = (f : Frame) → r ≡ Some (Ok f) → lawful_frame f ≡ true

-- a RESET and its acknowledgement name their sender
abbrev pub names_sender : NodeNumber → Message → Bool
names_sender n (Reset e) = same_node e n
names_sender n (ResetAcknowledge e) = same_node e n
names_sender n k = true

-- this peer sent the frame, and the frame names no other
abbrev pub is_from : NodeNumber → Frame → Bool
is_from n f = same_node f.source n && names_sender n f.message
