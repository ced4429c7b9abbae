-- What an SGSN is: its number and last stamp, its VLRs with what it keeps of each, and its records in order.
use Rattle.std.specs.Prelude.{ℕ, ◌+◌, List, [], map, length, take, Option, Result}
use Rattle.imsi.specs.declared.Imsi.{Imsi}
use Rattle.elements.specs.declared.node.NodeNumber.{NodeNumber}
use Rattle.elements.specs.declared.node.VlrNumber.{VlrNumber}
use Rattle.directory.specs.Lookup.{at, stored}
use Rattle.station.specs.declared.sending.Outgoing.{Outgoing}
use Rattle.station.specs.Calls as station
use Rattle.station.specs.Calls.{Plan, Course, plan}
use Rattle.station.specs.Sends.{outgoing_in}
use Rattle.context.specs.declared.context.Context.{Context}
use Rattle.context.specs.Contexts.{whose}
use Rattle.sgsn.specs.declared.peer.Peer.{Peer}
use Rattle.sgsn.specs.declared.sgsn.Sgsn.{Sgsn}

pub record State : Type 0 where
  pub own : NodeNumber
  pub last : ℕ
  pub peers : List Peer
  pub records : List Context

abbrev pub state_of : Sgsn → State
state_of s = record {
  own = s.sender.own;
  last = s.sender.last;
  peers = take s.count s.peers;
  records = take s.held s.places;
}

abbrev pub own_of : State → NodeNumber
own_of s = s.own

abbrev pub last_of : State → ℕ
last_of s = s.last

-- its VLRs' numbers
abbrev pub vlrs_of : State → List VlrNumber
vlrs_of s = map (λ p. p.vlr) s.peers

-- the record of a mobile, if there is one
abbrev pub record_at : State → Imsi → Option Context
record_at s i = at whose s.records i

-- with these records
abbrev pub with_records : State → List Context → State
with_records s rs = record s { records = rs }

-- with this record in its mobile's place
abbrev pub with_context : State → Context → State
with_context s r = with_records s (stored whose r s.records)

-- with this record, after this was sent
abbrev pub with_sent : State → Context → List Outgoing → State
with_sent s r os = record s { last = s.last + length os; records = stored whose r s.records }

-- with the record that a move makes, after what it sends
abbrev pub moved : State → Context × Option Outgoing → Plan Unit State
moved s m = plan (with_sent s m.0 (outgoing_in m.1)) (outgoing_in m.1)

-- with this record, and nothing is sent
abbrev pub kept : State → Context → Plan Unit State
kept s r = plan (with_context s r) []

-- an SGSN does as this call goes: its result, and the SGSN and the carrier before and after it
abbrev pub Does : {T E C : Type 0} → (C → NodeNumber → Option (List ℕ) → C → Type 0) → (C → List ℕ → C → Type 0)
    → (State → Course T State E) → Result T E → Sgsn → C → Sgsn → C → Type 0
Does takes puts call r s c t d =
    station.Does own_of last_of takes puts (call (state_of s)) r (state_of s) c (state_of t) d

-- the same of a call that has no carrier
abbrev pub Decides : {T E : Type 0} → (State → Result (Plan T State) E) → Result T E → Sgsn → Sgsn → Type 0
Decides call r s t = station.Decides own_of last_of (call (state_of s)) r (state_of s) (state_of t)

-- with this kept of its VLRs
abbrev pub with_peers : State → List Peer → State
with_peers s ps = record s { peers = ps }
