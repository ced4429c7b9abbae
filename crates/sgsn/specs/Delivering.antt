-- What a frame does at an SGSN.
use Rattle.std.specs.Prelude.{◌≡◌, ℕ, Bool, true, if◌then◌else◌, List, [], map, Some, None, Option}
use Rattle.imsi.specs.declared.Imsi.{Imsi}
use Rattle.frames.specs.declared.frame.Frame.{Frame}
use Rattle.messages.specs.declared.message.Message.{Message}
use Rattle.messages.specs.declared.message.Message.TheVariants.{Paging, Reset, ResetAcknowledge}
use Rattle.messages.specs.Mobiles.{mobile_of}
use Rattle.station.specs.declared.receiving.Delivery.{Delivery}
use Rattle.station.specs.declared.receiving.Delivery.TheVariants as order
use Rattle.station.specs.declared.receiving.Refusal.{Refusal}
use Rattle.station.specs.Calls.{Plan, Course, quietly, delivering}
use Rattle.station.specs.Sends.{Sent, outgoing_in}
use Rattle.station.specs.Rows.{reset_taken, acknowledged}
use Rattle.context.specs.declared.context.Context.{Context}
use Rattle.context.specs.Contexts.{doubtful_at}
use Rattle.context.specs.Answering.{answered}
use Rattle.context.specs.Paging.{paged}
use Rattle.sgsn.specs.declared.peer.Peer.{Peer}
use Rattle.sgsn.specs.declared.sgsn.Sgsn.{Sgsn}
use Rattle.sgsn.specs.Peers.{peer_from, row_changed}
use Rattle.sgsn.specs.State.{State, state_of, last_of, record_at, with_context, with_sent}

-- a RESET makes the records doubtful that say that its VLR is sure, and is acknowledged later
abbrev pub reset_by : State → Frame → Peer → State
reset_by s f p = record s {
  peers = row_changed f (λ r. reset_taken r f.stamp) s.peers;
  records = map (doubtful_at p.vlr) s.records;
}

abbrev pub acknowledged_by : State → Frame → State
acknowledged_by s f = record s { peers = row_changed f (λ r. acknowledged r f.answers) s.peers }

-- a page of an unknown mobile changes nothing; the radio side pages a mobile that is attached or unknown here
abbrev pub paged_by : State → Frame → Peer → Option Context → Plan Bool State
paged_by s f p None = record { answer = true; after = s; sends = [] }
paged_by s f p (Some r) =
    let m = paged p.vlr f.stamp r in
    record { answer = r.attached; after = with_sent s m.0 (outgoing_in m.1); sends = outgoing_in m.1 }

-- the record of the mobile, if there is one
abbrev pub found : State → Option Imsi → Option Context
found s None = None
found s (Some i) = record_at s i

-- the record of the mobile that a message is about
abbrev pub noted : State → Message → Option Context
noted s m = found s (mobile_of m)

-- any other message may be the answer that the mobile's record waits for
abbrev pub answered_by : State → Frame → Peer → Option Context → State
answered_by s f p None = s
answered_by s f p (Some r) = with_context s (answered p.vlr f.answers p.row.reset f.message r)

-- where the radio side is to page, this is its order
abbrev pub ordering : Delivery → Plan Bool State → Plan Delivery State
ordering d p = record { answer = if p.answer then d else order.Done; after = p.after; sends = p.sends }

-- what a frame from this VLR does
abbrev pub taken_by : State → Frame → Peer → Message → Plan Delivery State
taken_by s f p (Reset e) = quietly (reset_by s f p)
taken_by s f p (ResetAcknowledge e) = quietly (acknowledged_by s f)
taken_by s f p (Paging i t c) = ordering (order.PageOrder i t c) (paged_by s f p (record_at s i))
taken_by s f p m = quietly (answered_by s f p (noted s m))

abbrev pub taken : State → Frame → Option Peer → Plan Delivery State
taken s f None = quietly s
taken s f (Some p) = taken_by s f p f.message

-- what any frame does: one that none of its VLRs sent, or that names another, has no effect
abbrev pub frame_plan : State → Frame → Plan Delivery State
frame_plan s f = taken s f (peer_from f s.peers)

-- one take, and what the frame does that was taken
abbrev pub delivery : State → Course Delivery State Refusal
delivery s = delivering last_of frame_plan s

-- what a part of a delivery answers, leaves and puts
abbrev pub Did : {T C : Type 0} → (C → List ℕ → C → Type 0) → Plan T State → T → Sgsn → C → Sgsn → C → Type 0
Did puts p r s c t d = (r ≡ p.answer) × (state_of t ≡ p.after) × Sent puts s.sender.own s.sender.last p.sends c d
