-- What is written stands at the front of the buffer.
use Rattle.std.proofs.Common.{◌≡◌, ℕ, ◌+◌, ◌<◌, ◌≤◌, true, List, ◌++◌, length, take, drop, Ok, sym, ap, ◌∙◌, arith}
use Rattle.std.proofs.lemmas.List.{take_at}
use Rattle.std.proofs.lemmas.Grind.{common_steps}
use Rattle.elements.specs.declared.node.NodeNumber.{NodeNumber}
use Rattle.frames.specs.declared.frame.Frame.{Frame}
use Rattle.frames.specs.Format.{lawful_frame, frame_octets}
use Rattle.frames.specs.Writing.{frame_written, frame_left}
use Rattle.station.specs.declared.sending.Outgoing.{Outgoing}
use Rattle.station.specs.Sends.{may_go, frame_of}

pub sendable : (own : NodeNumber) (last : ℕ) (s : Outgoing) → last + 1 < 4294967296 → s.answers < 4294967296 → may_go own s ≡ true → lawful_frame (frame_of own last s) ≡ true
sendable own last s room fits may = grind (arith, common_steps)

pub front : (f : Frame) (b after : List ℕ) (n : ℕ) → lawful_frame f ≡ true → 64 ≤ length b → Ok n ≡ frame_written f b → after ≡ frame_left f b → take n after ≡ frame_octets f
front f b after n lawful room e h =
    let written : n ≡ length (frame_octets f) = grind (arith, common_steps, e) in
    let left : after ≡ frame_octets f ++ drop (length (frame_octets f)) b = grind (arith, common_steps, h) in
    ap (take n) left ∙ take_at (frame_octets f) (drop (length (frame_octets f)) b) n (sym written)
