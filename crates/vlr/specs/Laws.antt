-- What each call does to the record of one mobile.
use Rattle.std.specs.Prelude.{◌≡◌, ℕ, Bool, true, false, if◌then◌else◌, List, Some, None, Ok, Err, Option, Result}
use Rattle.std.specs.Option.{option_map}
use Rattle.elements.specs.declared.fault.Fault.{Fault}
use Rattle.elements.specs.declared.node.NodeNumber.{NodeNumber}
use Rattle.elements.specs.declared.node.SgsnNumber.{SgsnNumber}
use Rattle.imsi.specs.declared.Imsi.{Imsi}
use Rattle.frames.specs.declared.frame.Frame.{Frame}
use Rattle.messages.specs.declared.message.Message.{Message}
use Rattle.messages.specs.declared.message.Message.TheVariants.{Reset}
use Rattle.messages.specs.Mobiles.{mobile_of}
use Rattle.directory.specs.Order.{same}
use Rattle.station.specs.declared.denial.Denial.{Denial}
use Rattle.station.specs.Calls.{Plan}
use Rattle.station.specs.Receiving.{is_from, Received}
use Rattle.station.specs.Sends.{is_worn}
use Rattle.vlr.specs.declared.record.Record.{Record}
use Rattle.vlr.specs.Records.{doubtful, doubtful_at}
use Rattle.vlr.specs.Moves.{message_move}
use Rattle.vlr.specs.Enrolling.{enrolled, enrol_plan}
use Rattle.vlr.specs.Recovering.{lose_plan}
use Rattle.vlr.specs.State.{State, record_at}

-- what becomes of each mobile's record, and of its mark with that
abbrev pub ByMobile : State → State → (Imsi → Option Record → Option Record) → Type 0
ByMobile s t f = (m : Imsi) → record_at t m ≡ f m (record_at s m)

-- a call that is denied leaves a record as it was
abbrev pub unless_denied : Result (Plan Unit State) Denial → Option Record → Option Record → Option Record
unless_denied (Err d) before after = before
unless_denied (Ok p) before after = after

-- a loss makes every record doubtful
abbrev pub by_loss : State → Imsi → Option Record → Option Record
by_loss s m r = unless_denied (lose_plan s) r (option_map doubtful r)

-- an enrolment changes its mobile's record, and no other
abbrev pub by_enrolment : State → Imsi → ℕ → Imsi → Option Record → Option Record
by_enrolment s i c m r = unless_denied (enrol_plan s i c) r (if same m i then Some (enrolled i c r) else r)

-- a message moves the record of the mobile that it is about, and no other
abbrev pub if_about : SgsnNumber → Message → Imsi → Imsi → Option Record → Option Record
if_about n a i m r = if same m i then (message_move n a r).0 else r

-- and where it is about none, it moves none
abbrev pub of_mobile : SgsnNumber → Message → Option Imsi → Imsi → Option Record → Option Record
of_mobile n k None m r = r
of_mobile n k (Some i) m r = if_about n k i m r

-- but a RESET makes every record doubtful that is sure of its sender
abbrev pub by_message : SgsnNumber → Message → Imsi → Option Record → Option Record
by_message n (Reset e) m r = option_map (doubtful_at n) r
by_message n k m r = of_mobile n k (mobile_of k) m r

-- what was taken, if it is a frame of the SGSN's
abbrev pub by_frame : State → Option (Result Frame Fault) → Imsi → Option Record → Option Record
by_frame s None m r = r
by_frame s (Some (Err e)) m r = r
by_frame s (Some (Ok f)) m r = if is_from s.sgsn.node f then by_message s.sgsn f.message m r else r

-- the carrier gave this, and each mobile's record is as that makes it
pub record GivenByMobile {C : Type 0} (takes : C → NodeNumber → Option (List ℕ) → C → Type 0)
    (s : State) (c : C) (t : State) : Type 0 where
  pub got : Option (Result Frame Fault)
  pub between : C
  pub received : Received takes s.own got c between
  pub records : ByMobile s t (by_frame s got)

-- where the end is worn, nothing is taken
abbrev pub TakenByMobile : {C : Type 0} → Bool → (C → NodeNumber → Option (List ℕ) → C → Type 0)
    → State → C → State → Type 0
TakenByMobile true takes s c t = ByMobile s t (λ m r. r)
TakenByMobile false takes s c t = GivenByMobile takes s c t

abbrev pub DeliversByMobile : {C : Type 0} → (C → NodeNumber → Option (List ℕ) → C → Type 0)
    → State → C → State → Type 0
DeliversByMobile takes s c t = TakenByMobile (is_worn s.last) takes s c t
