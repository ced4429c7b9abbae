-- What a message makes of a record that is held, and what answers it, each by itself; and what a frame does, by that.
use Rattle.std.proofs.Common.{◌≡◌, ℕ, ◌+◌, Bool, true, false, if◌then◌else◌, ◌==◌, cond, length, Some, None, Option, refl, ap, arith}
use Rattle.std.proofs.lemmas.Bool.{cond-true}
use Rattle.std.specs.Option.{option_map}
use Rattle.imsi.specs.declared.Imsi.{Imsi}
use Rattle.elements.specs.declared.area.LocationArea.{LocationArea}
use Rattle.elements.specs.declared.node.SgsnNumber.{SgsnNumber}
use Rattle.frames.specs.declared.frame.Frame.{Frame}
use Rattle.messages.specs.declared.message.Message.{Message}
use Rattle.messages.specs.declared.message.Message.TheVariants.{PagingFailure, MobileStatus, LuRequest, LuAccept, LuReject, Reset, ResetAcknowledge, GprsDetachIndication, GprsDetachAcknowledge, ImsiDetachIndication}
use Rattle.station.specs.declared.receiving.Delivery.TheVariants as order
use Rattle.station.specs.Receiving.{is_from}
use Rattle.vlr.specs.declared.record.Record.{Record}
use Rattle.vlr.specs.Records.{confirmed, unmarked, imsi_detached}
use Rattle.vlr.specs.Moves.{unknown_cause, detach_answer, message_move}
use Rattle.vlr.specs.Delivering as deliver
use Rattle.vlr.specs.Delivering.{noted, taken_by, frame_plan}
use Rattle.vlr.specs.State.{State}

-- the record after the message
abbrev pub moved : SgsnNumber → Message → Record → Record
moved n (LuRequest i u o a c) r = if r.home_cause == 0 then confirmed r n else unmarked r
moved n (GprsDetachIndication i t) r = unmarked r
moved n (PagingFailure i c) r = unmarked r
moved n (MobileStatus i c) r = unmarked r
moved n (ImsiDetachIndication i t) r = imsi_detached r
moved n m r = r

-- why a location update is rejected; 0 where it is not
abbrev pub cause_for : Option Record → ℕ
cause_for None = unknown_cause
cause_for (Some r) = r.home_cause

abbrev pub update_answer : Imsi → LocationArea → ℕ → Message
update_answer i a c = if c == 0 then LuAccept i a else LuReject i (record { number = c })

-- the message that answers, where the record before it was this, or none was held
abbrev pub answer_to : Option Record → Message → Option Message
answer_to o (LuRequest i u w a c) = Some (update_answer i a (cause_for o))
answer_to o (GprsDetachIndication i t) = Some (GprsDetachAcknowledge i t)
answer_to o (ImsiDetachIndication i t) = detach_answer i t
answer_to o m = None

-- both sides of a choice between pairs
abbrev Chosen : Bool → Record → Record → Message → Message → Type 0
Chosen b r q m k =
    let before : Option Record × Option Message = cond b (Some r, Some m) (Some q, Some k) in
    before ≡ (Some (cond b r q), Some (cond b m k))

chosen : (b : Bool) (r q : Record) (m k : Message) → Chosen b r q m k
chosen true r q m k = refl
chosen false r q m k = refl

-- the two are the move
pub move_held : (n : SgsnNumber) (m : Message) (r : Record) → message_move n m (Some r) ≡ (Some (moved n m r), answer_to (Some r) m)
move_held n (LuRequest i u w a c) r = chosen (r.home_cause == 0) (confirmed r n) (unmarked r) (LuAccept i a) (LuReject i (record { number = r.home_cause }))
move_held n m r = refl

pub move_none : (n : SgsnNumber) (m : Message) → message_move n m None ≡ (None, answer_to None m)
move_none n (LuRequest i u w a c) = refl
move_none n m = refl

pub move_is : (n : SgsnNumber) (m : Message) (o : Option Record) → message_move n m o ≡ (option_map (moved n m) o, answer_to o m)
move_is n m None = move_none n m
move_is n m (Some r) = move_held n m r

-- a frame of the SGSN's
pub plan_from : (s : State) (f : Frame) → is_from s.sgsn.node f ≡ true → frame_plan s f ≡ taken_by s f f.message
plan_from s f e = cond-true _ _ _ e

-- whatever the message is, this goes out
pub taken_sends : (s : State) (f : Frame) (m : Message) → (taken_by s f m).sends ≡ deliver.answer_to s f (answer_to (noted s m) m)
taken_sends s f (Reset e) = refl
taken_sends s f (ResetAcknowledge e) = refl
taken_sends s f m = ap (λ x. deliver.answer_to s f x.1) (move_is s.sgsn m (noted s m))

-- and each message that goes out takes a stamp
pub taken_last : (s : State) (f : Frame) (m : Message) → (taken_by s f m).after.last ≡ s.last + length (taken_by s f m).sends
taken_last s f (Reset e) = omega arith
taken_last s f (ResetAcknowledge e) = omega arith
taken_last s f m = refl

pub taken_own : (s : State) (f : Frame) (m : Message) → (taken_by s f m).after.own ≡ s.own
taken_own s f (Reset e) = refl
taken_own s f (ResetAcknowledge e) = refl
taken_own s f m = refl

pub taken_sgsn : (s : State) (f : Frame) (m : Message) → (taken_by s f m).after.sgsn ≡ s.sgsn
taken_sgsn s f (Reset e) = refl
taken_sgsn s f (ResetAcknowledge e) = refl
taken_sgsn s f m = refl

pub taken_answer : (s : State) (f : Frame) (m : Message) → (taken_by s f m).answer ≡ order.Done
taken_answer s f (Reset e) = refl
taken_answer s f (ResetAcknowledge e) = refl
taken_answer s f m = refl
