-- What the frame writer answers, and what it leaves in the buffer.
use Rattle.std.specs.Prelude.{◌≡◌, ℕ, ◌≤◌, if◌then◌else◌, not, ◌&&◌, List, ◌++◌, length, take, drop, Ok, Result, ◌==◌, nat_le}
use Rattle.elements.specs.declared.fault.Fault.{Fault}
use Rattle.elements.specs.declared.fault.FaultKind.TheVariants as kind
use Rattle.elements.specs.Faults.{wrong}
use Rattle.messages.specs.Writing.{buffer_size, written_at}
use Rattle.frames.specs.declared.frame.Frame.{Frame}
use Rattle.frames.specs.Format.{lawful_nodes, lawful_frame, frame_octets, frame_in}

-- how many octets are written, or the first fault: the nodes, the stamp, then what the message writer refuses
abbrev pub frame_written : Frame → List ℕ → Result ℕ Fault
frame_written f b =
    if not (lawful_nodes f.source f.destination) then wrong kind.Nodes 0
    else if f.stamp == 0 then wrong kind.Stamp 0
    else written_at 10 f.message b

-- the whole buffer afterwards
abbrev pub frame_left : Frame → List ℕ → List ℕ
frame_left f b =
    if lawful_frame f && nat_le buffer_size (length b) then frame_octets f ++ drop (length (frame_octets f)) b
    else b

-- reading what was written gives back the frame
abbrev pub ReadBack : Frame → List ℕ → Result ℕ Fault → Type 0
ReadBack f after r = (n : ℕ) → r ≡ Ok n → (frame_in (take n after) ≡ Ok f) × (n ≤ 41)
