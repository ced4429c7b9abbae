-- What a VLR is: its number and last stamp, its SGSN, what it keeps of that, and its records in order.
use Rattle.std.specs.Prelude.{ℕ, List, take, Option, Result}
use Rattle.elements.specs.declared.node.NodeNumber.{NodeNumber}
use Rattle.elements.specs.declared.node.SgsnNumber.{SgsnNumber}
use Rattle.imsi.specs.declared.Imsi.{Imsi}
use Rattle.directory.specs.Lookup.{at}
use Rattle.station.specs.declared.row.Row.{Row}
use Rattle.station.specs.Calls as station
use Rattle.station.specs.Calls.{Plan, Course}
use Rattle.vlr.specs.declared.record.Record.{Record}
use Rattle.vlr.specs.declared.vlr.Vlr.{Vlr}

pub record State : Type 0 where
  pub own : NodeNumber
  pub last : ℕ
  pub sgsn : SgsnNumber
  pub row : Row
  pub records : List Record

abbrev pub state_of : Vlr → State
state_of v = record {
  own = v.sender.own;
  last = v.sender.last;
  sgsn = v.sgsn;
  row = v.row;
  records = take v.held v.places;
}

abbrev pub own_of : State → NodeNumber
own_of s = s.own

abbrev pub last_of : State → ℕ
last_of s = s.last

-- the mobile of a record
abbrev pub whose : Record → Imsi
whose r = r.imsi

-- the record of a mobile, if it is held
abbrev pub record_at : State → Imsi → Option Record
record_at s m = at whose s.records m

-- with these records
abbrev pub with_records : State → List Record → State
with_records s rs = record s { records = rs }

-- a VLR does as this call goes: its result, and the VLR and the carrier before and after it
abbrev pub Does : {T E C : Type 0} → (C → NodeNumber → Option (List ℕ) → C → Type 0) → (C → List ℕ → C → Type 0)
    → (State → Course T State E) → Result T E → Vlr → C → Vlr → C → Type 0
Does takes puts call r s c t d =
    station.Does own_of last_of takes puts (call (state_of s)) r (state_of s) c (state_of t) d

-- the same of a call that has no carrier
abbrev pub Decides : {T E : Type 0} → (State → Result (Plan T State) E) → Result T E → Vlr → Vlr → Type 0
Decides call r s t = station.Decides own_of last_of (call (state_of s)) r (state_of s) (state_of t)
