-- What a frame does at a VLR.
use Rattle.std.specs.Prelude.{◌+◌, if◌then◌else◌, List, [], ◌∷◌, map, length, Some, None, Option}
use Rattle.imsi.specs.declared.Imsi.{Imsi}
use Rattle.frames.specs.declared.frame.Frame.{Frame}
use Rattle.messages.specs.declared.message.Message.{Message}
use Rattle.messages.specs.declared.message.Message.TheVariants.{Reset, ResetAcknowledge}
use Rattle.messages.specs.Mobiles.{mobile_of}
use Rattle.directory.specs.Lookup.{stored}
use Rattle.station.specs.declared.receiving.Delivery.{Delivery}
use Rattle.station.specs.declared.receiving.Delivery.TheVariants as order
use Rattle.station.specs.declared.receiving.Refusal.{Refusal}
use Rattle.station.specs.declared.sending.Outgoing.{Outgoing}
use Rattle.station.specs.Calls.{Plan, Course, quietly, delivering}
use Rattle.station.specs.Receiving.{is_from}
use Rattle.station.specs.Rows.{reset_taken, acknowledged}
use Rattle.vlr.specs.declared.record.Record.{Record}
use Rattle.vlr.specs.Moves.{message_move}
use Rattle.vlr.specs.Records.{doubtful_at}
use Rattle.vlr.specs.State.{State, last_of, whose, record_at}

-- the record of the mobile, if there is one
abbrev pub found : State → Option Imsi → Option Record
found s None = None
found s (Some i) = record_at s i

-- the record of the mobile that a message is about
abbrev pub noted : State → Message → Option Record
noted s m = found s (mobile_of m)

-- the records with this one in its mobile's place
abbrev pub records_with : Option Record → List Record → List Record
records_with None rs = rs
records_with (Some r) rs = stored whose r rs

-- the answer to a frame carries its stamp
abbrev pub answer_to : State → Frame → Option Message → List Outgoing
answer_to s f None = []
answer_to s f (Some m) = record { to = s.sgsn.node; answers = f.stamp; message = m } ∷ []

-- this record is kept, and this goes out
abbrev pub answered_by : State → Frame → Option Record × Option Message → Plan Delivery State
answered_by s f m = record {
  answer = order.Done;
  after = record s { last = s.last + length (answer_to s f m.1); records = records_with m.0 s.records };
  sends = answer_to s f m.1;
}

-- what a message about a mobile does
abbrev pub message_plan : State → Frame → Message → Plan Delivery State
message_plan s f m = answered_by s f (message_move s.sgsn m (noted s m))

-- what a frame of its SGSN's does that names no other
abbrev pub taken_by : State → Frame → Message → Plan Delivery State
taken_by s f (Reset e) = quietly (record s {
  row = reset_taken s.row f.stamp;
  records = map (doubtful_at s.sgsn) s.records;
})
taken_by s f (ResetAcknowledge e) = quietly (record s { row = acknowledged s.row f.answers })
taken_by s f m = message_plan s f m

-- any other frame has no effect
abbrev pub frame_plan : State → Frame → Plan Delivery State
frame_plan s f = if is_from s.sgsn.node f then taken_by s f f.message else quietly s

-- one take, and what the frame does that was taken
abbrev pub delivery : State → Course Delivery State Refusal
delivery s = delivering last_of frame_plan s
