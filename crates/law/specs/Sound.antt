-- What stands between an SGSN, one of its VLRs and the frames between them, whatever calls were made.
use Rattle.std.specs.Prelude.{◌≡◌, ℕ, ◌<◌, ◌≤◌, ◌⊎◌, Bool, true, false, if◌then◌else◌, List, Some, None, Option}
use Rattle.std.specs.List.{find}
use Rattle.imsi.specs.declared.Imsi.{Imsi}
use Rattle.elements.specs.declared.node.NodeNumber.{NodeNumber}
use Rattle.elements.specs.Nodes.{same_node}
use Rattle.messages.specs.declared.message.Message.{Message}
use Rattle.messages.specs.declared.message.Message.TheVariants.{PagingFailure, MobileStatus, LuRequest, LuAccept, Reset, ResetAcknowledge, GprsDetachIndication, ImsiDetachIndication}
use Rattle.frames.specs.declared.frame.Frame.{Frame}
use Rattle.frames.specs.Format.{lawful_frame, frame_octets}
use Rattle.carrier.specs.Order.{Stamps}
use Rattle.carrier.specs.Waiting.{In}
use Rattle.directory.specs.Order.{same}
use Rattle.station.specs.declared.mark.Mark.TheVariants as mark
use Rattle.station.specs.declared.row.Due.{Due}
use Rattle.context.specs.declared.errand.Errand.{Errand}
use Rattle.context.specs.declared.errand.Errand.TheVariants as errand
use Rattle.context.specs.declared.errand.Open.{Open}
use Rattle.context.specs.declared.errand.Awaited.{Awaited}
use Rattle.context.specs.declared.errand.Awaited.TheVariants.{Update, GprsDetach, ImsiDetach}
use Rattle.context.specs.Answering.{is_above}
use Rattle.sgsn.specs.declared.peer.Peer.{Peer}
use Rattle.sgsn.specs.State as sgsn
use Rattle.vlr.specs.State as vlr
use Rattle.law.specs.Tables.{marked, marked_by, errand_of}

-- A lawful frame that waits from one node to another, and can still be given: its stamp is above the last one given.
pub record Live (ws : List (List ℕ)) (ls : Stamps) (a b : NodeNumber) (f : Frame) : Type 0 where
  pub lawful : lawful_frame f ≡ true
  pub waits : In (frame_octets f) ws
  pub from : f.source ≡ a
  pub to : f.destination ≡ b
  pub later : ls a b < f.stamp

-- a message that can take the mark of this mobile away at a VLR
abbrev pub harms : Imsi → Message → Bool
harms m (PagingFailure i c) = same m i
harms m (MobileStatus i c) = same m i
harms m (LuRequest i u o a c) = same m i
harms m (GprsDetachIndication i t) = same m i
harms m (ImsiDetachIndication i t) = same m i
harms m (Reset e) = true
harms m k = false

abbrev pub is_acknowledgement : Message → Bool
is_acknowledgement (ResetAcknowledge e) = true
is_acknowledgement k = false

-- a message by which a VLR accepts this mobile
abbrev pub accepts : Imsi → Message → Bool
accepts m (LuAccept i a) = same m i
accepts m k = false

-- the SGSN is sure that this VLR serves the mobile
abbrev pub Sure : sgsn.State → NodeNumber → Imsi → Type 0
Sure s n m = marked s m ≡ mark.Confirmed (record { node = n })

-- the VLR is sure that its SGSN serves the mobile
abbrev pub SureBy : vlr.State → Imsi → Type 0
SureBy v m = marked_by v m ≡ mark.Confirmed v.sgsn

abbrev pub update_stamp : Open → Awaited → Option ℕ
update_stamp o (Update a) = Some o.stamp
update_stamp o (GprsDetach t n) = None
update_stamp o (ImsiDetach b) = None

abbrev pub asked_in : NodeNumber → Errand → Option ℕ
asked_in n errand.Idle = None
asked_in n (errand.Open o) = if same_node o.vlr.node n then update_stamp o o.awaited else None
asked_in n (errand.Ended v) = None

-- the stamp of the LU Request of this mobile that this VLR is to answer, if there is one
abbrev pub asked : sgsn.State → NodeNumber → Imsi → Option ℕ
asked s n m = asked_in n (errand_of s m)

abbrev pub peer_of : NodeNumber → List Peer → Option Peer
peer_of n ps = find (λ p. same_node p.vlr.node n) ps

abbrev pub reset_in : Option Peer → Option ℕ
reset_in None = None
reset_in (Some p) = p.row.reset

-- the stamp of the last RESET that went to this VLR
abbrev pub reset_to : sgsn.State → NodeNumber → Option ℕ
reset_to s n = reset_in (peer_of n s.peers)

abbrev pub answered_by : Option Due → Option ℕ
answered_by None = None
answered_by (Some d) = Some d.answers

abbrev pub due_in : Option Peer → Option ℕ
due_in None = None
due_in (Some p) = answered_by p.row.due

-- the stamp of the RESET that is to be acknowledged to this VLR
abbrev pub due_to : sgsn.State → NodeNumber → Option ℕ
due_to s n = due_in (peer_of n s.peers)

-- What stands between the SGSN and one VLR. `quiet`, `due` and `acknowledged` say when the marks agree: out of recovery,
-- and from the moment on when the SGSN took the VLR's last RESET, so that its acknowledgement may end recovery at any time.
pub record Pair (s : sgsn.State) (v : vlr.State) (ws : List (List ℕ)) (ls : Stamps) : Type 0 where
  pub its : v.sgsn.node ≡ s.own
  pub quiet : v.row.recovery ≡ None → (m : Imsi) → Sure s v.own m → SureBy v m
  pub due : (x : ℕ) → due_to s v.own ≡ Some x → v.row.reset ≡ Some x → (m : Imsi) → Sure s v.own m → SureBy v m
  pub acknowledged : (f : Frame) → Live ws ls s.own v.own f → is_acknowledgement f.message ≡ true
      → v.row.reset ≡ Some f.answers → (m : Imsi) → Sure s v.own m → SureBy v m
  -- what was heard of the VLR's RESETs
  pub heard : v.row.recovery ≡ None → (x : ℕ) → v.row.reset ≡ Some x → x ≤ ls v.own s.own
  pub heard_due : (x : ℕ) → due_to s v.own ≡ Some x → (x ≤ ls v.own s.own) × (x ≤ v.last)
  pub heard_acknowledged : (f : Frame) → Live ws ls s.own v.own f → is_acknowledgement f.message ≡ true
      → (f.answers ≤ ls v.own s.own) × (f.answers ≤ v.last)
  -- nothing on its way takes a mark away that the SGSN is sure of
  pub clear : (m : Imsi) → Sure s v.own m → (f : Frame) → Live ws ls s.own v.own f → harms m f.message ≡ false
  -- an acceptance on its way is still true, or the VLR lost its marks since
  pub granted : (m : Imsi) (r : ℕ) → asked s v.own m ≡ Some r → is_above (reset_to s v.own) r ≡ true
      → (f : Frame) → Live ws ls v.own s.own f → accepts m f.message ≡ true → f.answers ≡ r
      → SureBy v m ⊎ ((x : ℕ) × (v.row.reset ≡ Some x) × (f.stamp < x))
  -- nothing behind an open request takes the mark away but a RESET that the SGSN remembers
  pub pending : (m : Imsi) (r : ℕ) → asked s v.own m ≡ Some r → is_above (reset_to s v.own) r ≡ true
      → (f : Frame) → Live ws ls s.own v.own f → r < f.stamp → harms m f.message ≡ false
  -- an acceptance on its way answers what came
  pub known : (m : Imsi) (f : Frame) → Live ws ls v.own s.own f → accepts m f.message ≡ true
      → (f.answers ≤ ls s.own v.own) × (f.answers ≤ s.last)
  -- stamps
  pub down : (f : Frame) → Live ws ls s.own v.own f → f.stamp ≤ s.last
  pub up : (f : Frame) → Live ws ls v.own s.own f → f.stamp ≤ v.last
  pub asked_before : (m : Imsi) (r : ℕ) → asked s v.own m ≡ Some r → r ≤ s.last
  pub reset_before : (x : ℕ) → reset_to s v.own ≡ Some x → x ≤ s.last
