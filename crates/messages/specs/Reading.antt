-- Reading a message: the first fault in the order of the octets, or the message.
use Rattle.std.specs.Prelude.{◌≡◌, ℕ, ◌+◌, ◌/◌, if◌then◌else◌, List, length, Some, None, Ok, Option, Result, nat_lt, slice_index}
use Rattle.imsi.specs.declared.Imsi.{Imsi}
use Rattle.elements.specs.declared.element.Element.{Element}
use Rattle.elements.specs.declared.element.Element.TheVariants as el
use Rattle.elements.specs.declared.fault.Fault.{Fault}
use Rattle.elements.specs.declared.fault.FaultKind.TheVariants as fault
use Rattle.elements.specs.Codes.{cause_in, update_in, class_in, gprs_detach_in, imsi_detach_in, reject_in, entity_in}
use Rattle.elements.specs.Faults.{wrong, and_then}
use Rattle.elements.specs.Reading.{coded_at, imsi_at, after_tmsi, tmsi_at, after_channel, channel_at, area_at, end_at}
use Rattle.messages.specs.declared.kind.MessageType.{MessageType}
use Rattle.messages.specs.declared.kind.MessageType.TheVariants as kind
use Rattle.messages.specs.declared.message.Message.{Message}
use Rattle.messages.specs.declared.message.Message.TheVariants.{Paging, PagingFailure, MobileStatus, LuRequest, LuAccept, LuReject, Reset, ResetAcknowledge, GprsDetachIndication, GprsDetachAcknowledge, ImsiDetachIndication, ImsiDetachAcknowledge}
use Rattle.messages.specs.Kinds.{kind_in}
use Rattle.messages.specs.Spelling.{Spells}

abbrev pub imsi_of : ℕ × ℕ → Imsi
imsi_of p = record { digits = p.0; value = p.1 }

-- the place after the IMSI element that begins at a place
abbrev pub after_imsi : ℕ → Imsi → ℕ
after_imsi at i = at + 3 + i.digits / 2

abbrev pub mobile_at : List ℕ → ℕ → Result Imsi Fault
mobile_at s at = and_then (imsi_at s at) (λ p. Ok (imsi_of p))

-- one coded element, then the end
abbrev pub last_at : {X : Type 0} → (ℕ → Option X) → Element → List ℕ → ℕ → Result X Fault
last_at of e s at = and_then (coded_at of s at e) (λ x. end_at s (at + 3) x)

-- an IMSI and one coded element, then the end
abbrev pub mobile_and_at : {X : Type 0} → (ℕ → Option X) → Element → List ℕ → ℕ → Result (Imsi × X) Fault
mobile_and_at of e s at =
    and_then (mobile_at s at) (λ i.
    and_then (last_at of e s (after_imsi at i)) (λ x.
    Ok (i, x)))

-- what is made of the two
abbrev pub imsi_and_at : {X : Type 0} → (ℕ → Option X) → Element → (Imsi → X → Message) → List ℕ → ℕ → Result Message Fault
imsi_and_at of e make s at = and_then (mobile_and_at of e s at) (λ p. Ok (make p.0 p.1))

abbrev pub paging_at : List ℕ → ℕ → Result Message Fault
paging_at s at =
    and_then (mobile_at s at) (λ i.
    and_then (tmsi_at s (after_imsi at i)) (λ t.
    and_then (channel_at s (after_tmsi (after_imsi at i) t)) (λ c.
    end_at s (after_channel (after_tmsi (after_imsi at i) t) c) (Paging i t c))))

abbrev pub lu_request_at : List ℕ → ℕ → Result Message Fault
lu_request_at s at =
    and_then (mobile_at s at) (λ i.
    and_then (coded_at update_in s (after_imsi at i) el.UpdateType) (λ u.
    and_then (area_at s (after_imsi at i + 3) el.OldArea) (λ o.
    and_then (area_at s (after_imsi at i + 10) el.NewArea) (λ n.
    and_then (coded_at class_in s (after_imsi at i + 17) el.Class) (λ c.
    end_at s (after_imsi at i + 20) (LuRequest i u o n c))))))

abbrev pub lu_accept_at : List ℕ → ℕ → Result Message Fault
lu_accept_at s at =
    and_then (mobile_at s at) (λ i.
    and_then (area_at s (after_imsi at i) el.NewArea) (λ n.
    end_at s (after_imsi at i + 7) (LuAccept i n)))

-- what follows the type octet of a message of this kind
abbrev pub body_at : List ℕ → ℕ → MessageType → Result Message Fault
body_at s at kind.Paging = paging_at s at
body_at s at kind.PagingFailure = imsi_and_at cause_in el.Cause PagingFailure s at
body_at s at kind.MobileStatus = imsi_and_at cause_in el.Cause MobileStatus s at
body_at s at kind.LuRequest = lu_request_at s at
body_at s at kind.LuAccept = lu_accept_at s at
body_at s at kind.LuReject = imsi_and_at reject_in el.RejectCause LuReject s at
body_at s at kind.Reset = and_then (last_at entity_in el.Entity s at) (λ e. Ok (Reset e))
body_at s at kind.ResetAcknowledge = and_then (last_at entity_in el.Entity s at) (λ e. Ok (ResetAcknowledge e))
body_at s at kind.GprsDetachIndication = imsi_and_at gprs_detach_in el.GprsDetachType GprsDetachIndication s at
body_at s at kind.GprsDetachAcknowledge = imsi_and_at gprs_detach_in el.GprsDetachType GprsDetachAcknowledge s at
body_at s at kind.ImsiDetachIndication = imsi_and_at imsi_detach_in el.ImsiDetachType ImsiDetachIndication s at
body_at s at kind.ImsiDetachAcknowledge = imsi_and_at imsi_detach_in el.ImsiDetachType ImsiDetachAcknowledge s at

-- the kind, if there is one, or the fault of an unknown type at a place
abbrev pub known_or : Option MessageType → ℕ → Result MessageType Fault
known_or (Some k) p = Ok k
known_or None p = wrong fault.MessageType p

-- the kind whose octet stands at a place
abbrev pub kind_at : List ℕ → ℕ → Result MessageType Fault
kind_at s at = if nat_lt at (length s) then known_or (kind_in (slice_index s at)) at else wrong fault.MessageType at

-- the message from a place to the end
abbrev pub message_at : List ℕ → ℕ → Result Message Fault
message_at s at = and_then (kind_at s at) (body_at s (at + 1))

-- what is read is a lawful message that these octets spell, and every lawful message that they spell is read
pub record ReadsExactly (s : List ℕ) (r : Result Message Fault) : Type 0 where
  pub spelt_so : (m : Message) → r ≡ Ok m → Spells m s
  pub read_so : (m : Message) → Spells m s → r ≡ Ok m
