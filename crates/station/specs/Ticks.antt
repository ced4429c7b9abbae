-- One tick of what an end keeps of its peer: first the acknowledgement that is due, then the RESET's repeat.
use Rattle.std.specs.Prelude.{◌≡◌, ℕ, ◌+◌, true, if◌then◌else◌, List, [], ◌∷◌, ◌++◌, length, Some, None, Option}
use Rattle.elements.specs.declared.node.NodeNumber.{NodeNumber}
use Rattle.frames.specs.Format.{lawful_nodes}
use Rattle.messages.specs.declared.message.Message.TheVariants.{Reset, ResetAcknowledge}
use Rattle.station.specs.declared.row.Row.{Row}
use Rattle.station.specs.declared.sending.Outgoing.{Outgoing}
use Rattle.station.specs.declared.sending.Sender.{Sender}
use Rattle.station.specs.Sends.{HasStamps}
use Rattle.station.specs.Rows.{due_now, repeat_now, due_ticked, reset_ticked, repeated}

-- the peer is another lawful node, and this end has so many stamps left
abbrev pub CanReach : NodeNumber → ℕ → Sender → Type 0
CanReach peer n s = HasStamps n s × (lawful_nodes s.own peer ≡ true)

-- an end tells its peer that it lost its marks
abbrev pub reset_to : NodeNumber → NodeNumber → Outgoing
reset_to own peer = record { to = peer; answers = 0; message = Reset own }

abbrev pub acknowledgement_to : NodeNumber → NodeNumber → ℕ → Outgoing
acknowledgement_to own peer n = record { to = peer; answers = n; message = ResetAcknowledge own }

abbrev pub acknowledging : NodeNumber → NodeNumber → Option ℕ → List Outgoing
acknowledging own peer None = []
acknowledging own peer (Some n) = acknowledgement_to own peer n ∷ []

abbrev pub due_sends : NodeNumber → NodeNumber → Row → List Outgoing
due_sends own peer r = acknowledging own peer (due_now r)

abbrev pub repeat_sends : NodeNumber → NodeNumber → Row → List Outgoing
repeat_sends own peer r = if repeat_now r then reset_to own peer ∷ [] else []

-- all that goes to the peer on this tick
abbrev pub row_sends : NodeNumber → NodeNumber → Row → List Outgoing
row_sends own peer r = due_sends own peer r ++ repeat_sends own peer r

-- the RESET's timer, where the last stamp is this one
abbrev pub repeat_ticked : ℕ → Row → Row
repeat_ticked last r = if repeat_now r then repeated r (last + 1) else reset_ticked r

-- the row after this tick, where the last stamp before it was this one
abbrev pub row_ticked : NodeNumber → NodeNumber → ℕ → Row → Row
row_ticked own peer last r = repeat_ticked (last + length (due_sends own peer r)) (due_ticked r)
