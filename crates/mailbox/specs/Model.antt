-- What a put and a take do to the slots of a mailbox.
use Rattle.std.specs.Prelude.{◌≡◌, ℕ, List, Some, None, Option}
use Rattle.elements.specs.declared.node.NodeNumber.{NodeNumber}
use Rattle.carrier.specs.declared.datagram.Datagram.{Datagram}
use Rattle.carrier.specs.Datagrams.{carried}
use Rattle.mailbox.specs.declared.slot.Slot.{Slot}
use Rattle.mailbox.specs.declared.mailbox.Mailbox.{Mailbox}
use Rattle.mailbox.specs.Frames.{legible}
use Rattle.mailbox.specs.Slots.{waits_for, first, change, emptied, noted}

abbrev pub slots_of : Mailbox → List Slot
slots_of m = m.slots.items

abbrev pub arrived : Option Datagram → List Slot → List Slot
arrived None es = es
arrived (Some d) es = noted d es

-- a put of these octets, which are lost if they are no frame
abbrev pub Puts : List Slot → List ℕ → List Slot → Type 0
Puts es o fs = (r : Option Datagram) × (carried r ≡ legible o) × (fs ≡ arrived r es)

-- a take for a node, and what it answers
abbrev pub Takes : List Slot → NodeNumber → Option (List ℕ) → List Slot → Type 0
Takes es n r fs = (r ≡ first (waits_for n) es) × (fs ≡ change (waits_for n) emptied es)
