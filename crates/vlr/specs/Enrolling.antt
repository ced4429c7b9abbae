-- Enrolling: the home cause of a held mobile changes, or a mobile gets a record where a place is free.
use Rattle.std.specs.Prelude.{ℕ, [], Some, None, Option, Ok, Result}
use Rattle.imsi.specs.declared.Imsi.{Imsi}
use Rattle.imsi.specs.Spelling.{lawful_imsi}
use Rattle.directory.specs.Lookup.{fits, stored}
use Rattle.station.specs.declared.denial.Denial.{Denial}
use Rattle.station.specs.declared.denial.Denial.TheVariants as denial
use Rattle.vlr.specs.declared.record.Record.{Record}
use Rattle.vlr.specs.Records.{new_record, with_home_cause}
use Rattle.vlr.specs.State.{State, whose, record_at, with_records}
use Rattle.station.specs.Calls.{Plan, plan, ask, unless_worn}

-- this many places
abbrev pub places : ℕ
places = 1024

-- the record of a mobile whose home says this now, where the one before was this, or none
abbrev pub enrolled : Imsi → ℕ → Option Record → Record
enrolled i c None = new_record i c
enrolled i c (Some r) = with_home_cause r c

-- that record stands in its place
abbrev pub with_enrolled : State → Imsi → ℕ → State
with_enrolled s i c = with_records s (stored whose (enrolled i c (record_at s i)) s.records)

-- the questions in their order
abbrev pub enrol_plan : State → Imsi → ℕ → Result (Plan Unit State) Denial
enrol_plan s i c =
    unless_worn s.last
    (ask (lawful_imsi i.digits i.value) denial.UnlawfulImsi
    (ask (fits whose places s.records i) denial.NoPlace
    (Ok (plan (with_enrolled s i c) []))))
