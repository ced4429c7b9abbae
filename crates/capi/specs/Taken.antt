-- The frame that a row of numbers says, or the first fault in the order of the row.
use Rattle.std.specs.Prelude.{◌≡◌, ◌≢◌, ℕ, ◌/◌, ◌%◌, if◌then◌else◌, List, [], ◌∷◌, Some, None, Ok, Err, Option, Result, ◌==◌, nat_lt, slice_index}
use Rattle.imsi.specs.declared.Imsi.{Imsi}
use Rattle.elements.specs.declared.area.LocationArea.{LocationArea}
use Rattle.elements.specs.declared.fault.Fault.{Fault}
use Rattle.elements.specs.declared.fault.FaultKind.{FaultKind}
use Rattle.elements.specs.declared.fault.FaultKind.TheVariants as fault
use Rattle.elements.specs.declared.node.NodeNumber.{NodeNumber}
use Rattle.elements.specs.Codes.{cause_in, update_in, class_in, gprs_detach_in, imsi_detach_in, reject_in, entity_in}
use Rattle.elements.specs.Faults.{wrong, and_then, lawful_or}
use Rattle.messages.specs.declared.kind.MessageType.{MessageType}
use Rattle.messages.specs.declared.kind.MessageType.TheVariants as kind
use Rattle.messages.specs.declared.message.Message.{Message}
use Rattle.messages.specs.declared.message.Message.TheVariants.{Paging, PagingFailure, MobileStatus, LuRequest, LuAccept, LuReject, Reset, ResetAcknowledge, GprsDetachIndication, GprsDetachAcknowledge, ImsiDetachIndication, ImsiDetachAcknowledge}
use Rattle.messages.specs.Kinds.{kind_in}
use Rattle.messages.specs.Reading.{known_or}
use Rattle.frames.specs.declared.frame.Frame.{Frame}

-- a row has no octets: its faults are at place 0
abbrev pub fault_of : FaultKind → Fault
fault_of k = record { kind = k; place = 0 }

-- what a conversion gives for a number, or this fault where it gives none
abbrev pub Fitted : {X E : Type 0} → (ℕ → Result X E → Type 0) → FaultKind → ℕ → Result X Fault → Type 0
Fitted {X} {E} gives k n (Ok x) = gives n (Ok x)
Fitted {X} {E} gives k n (Err f) = (f ≡ fault_of k) × ((e : E) × gives n (Err e))

-- the same of a number that is there where the flag is 1, and absent where it is 0
abbrev pub FittedOption : {X E : Type 0} → (ℕ → Result X E → Type 0) → ℕ → ℕ → Result (Option X) Fault → Type 0
FittedOption {X} {E} gives flag n (Ok None) = flag ≡ 0
FittedOption {X} {E} gives flag n (Ok (Some x)) = (flag ≡ 1) × gives n (Ok x)
FittedOption {X} {E} gives flag n (Err f) = (f ≡ fault_of fault.Contents) × (flag ≢ 0) × (flag ≡ 1 → (e : E) × gives n (Err e))

-- a number below a limit, or this fault
abbrev pub below : ℕ → FaultKind → ℕ → Result ℕ Fault
below limit k n = if nat_lt n limit then Ok n else wrong k 0

abbrev pub node_from : ℕ → Result NodeNumber Fault
node_from n = and_then (below 256 fault.Nodes n) (λ o. Ok (record { number = o }))

-- a number that may be absent: a flag of 0 or 1, and the number that is looked at where the flag is 1
abbrev pub option_from : ℕ → ℕ → ℕ → Result (Option ℕ) Fault
option_from limit flag n =
    if flag == 0 then Ok None
    else if flag == 1 then and_then (below limit fault.Contents n) (λ o. Ok (Some o))
    else wrong fault.Contents 0

-- the value that a number stands for as an octet
abbrev pub code_from : {X : Type 0} → (ℕ → Option X) → ℕ → Result X Fault
code_from of n = and_then (below 256 fault.Contents n) (λ o. lawful_or (of o) 0)

abbrev pub five_octets : ℕ → List ℕ
five_octets n = n / 4294967296 % 256 ∷ n / 16777216 % 256 ∷ n / 65536 % 256 ∷ n / 256 % 256 ∷ n % 256 ∷ []

abbrev pub area_from : ℕ → Result LocationArea Fault
area_from n = and_then (below 1099511627776 fault.Contents n) (λ a. Ok (record { octets = five_octets a }))

abbrev pub imsi_from : List ℕ → Result Imsi Fault
imsi_from s = and_then (below 256 fault.Contents (slice_index s 5)) (λ k. Ok (record { digits = k; value = slice_index s 6 }))

-- what is made of an IMSI and the value that the code stands for
abbrev pub imsi_and_from : {X : Type 0} → (ℕ → Option X) → (Imsi → X → Message) → List ℕ → Result Message Fault
imsi_and_from of make s =
    and_then (imsi_from s) (λ i.
    and_then (code_from of (slice_index s 11)) (λ x.
    Ok (make i x)))

abbrev pub paging_from : List ℕ → Result Message Fault
paging_from s =
    and_then (imsi_from s) (λ i.
    and_then (option_from 4294967296 (slice_index s 7) (slice_index s 8)) (λ t.
    and_then (option_from 256 (slice_index s 9) (slice_index s 10)) (λ c.
    Ok (Paging i t c))))

abbrev pub lu_request_from : List ℕ → Result Message Fault
lu_request_from s =
    and_then (imsi_from s) (λ i.
    and_then (code_from update_in (slice_index s 11)) (λ u.
    and_then (area_from (slice_index s 12)) (λ o.
    and_then (area_from (slice_index s 13)) (λ n.
    and_then (code_from class_in (slice_index s 14)) (λ c.
    Ok (LuRequest i u o n c))))))

abbrev pub lu_accept_from : List ℕ → Result Message Fault
lu_accept_from s = and_then (imsi_from s) (λ i. and_then (area_from (slice_index s 13)) (λ n. Ok (LuAccept i n)))

-- a message of this kind
abbrev pub body_from : List ℕ → MessageType → Result Message Fault
body_from s kind.Paging = paging_from s
body_from s kind.PagingFailure = imsi_and_from cause_in PagingFailure s
body_from s kind.MobileStatus = imsi_and_from cause_in MobileStatus s
body_from s kind.LuRequest = lu_request_from s
body_from s kind.LuAccept = lu_accept_from s
body_from s kind.LuReject = imsi_and_from reject_in LuReject s
body_from s kind.Reset = and_then (code_from entity_in (slice_index s 11)) (λ e. Ok (Reset e))
body_from s kind.ResetAcknowledge = and_then (code_from entity_in (slice_index s 11)) (λ e. Ok (ResetAcknowledge e))
body_from s kind.GprsDetachIndication = imsi_and_from gprs_detach_in GprsDetachIndication s
body_from s kind.GprsDetachAcknowledge = imsi_and_from gprs_detach_in GprsDetachAcknowledge s
body_from s kind.ImsiDetachIndication = imsi_and_from imsi_detach_in ImsiDetachIndication s
body_from s kind.ImsiDetachAcknowledge = imsi_and_from imsi_detach_in ImsiDetachAcknowledge s

-- the kind that has this number as its octet
abbrev pub kind_from : ℕ → Result MessageType Fault
kind_from n = and_then (below 256 fault.MessageType n) (λ t. known_or (kind_in t) 0)

abbrev pub message_from : List ℕ → Result Message Fault
message_from s = and_then (kind_from (slice_index s 4)) (body_from s)

abbrev pub frame_from : List ℕ → Result Frame Fault
frame_from s =
    and_then (node_from (slice_index s 0)) (λ a.
    and_then (node_from (slice_index s 1)) (λ b.
    and_then (below 4294967296 fault.Stamp (slice_index s 2)) (λ n.
    and_then (below 4294967296 fault.Stamp (slice_index s 3)) (λ w.
    and_then (message_from s) (λ m.
    Ok (record { source = a; destination = b; stamp = n; answers = w; message = m }))))))
