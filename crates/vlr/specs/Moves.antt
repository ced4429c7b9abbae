-- What a frame from the SGSN does to the record of the mobile that it is about, and what is answered.
use Rattle.std.specs.Prelude.{ℕ, if◌then◌else◌, Some, None, Option, ◌==◌}
use Rattle.std.specs.Option.{option_map}
use Rattle.imsi.specs.declared.Imsi.{Imsi}
use Rattle.elements.specs.declared.area.LocationArea.{LocationArea}
use Rattle.elements.specs.declared.code.ImsiDetachType.{ImsiDetachType}
use Rattle.elements.specs.declared.code.ImsiDetachType.TheVariants.{Unacknowledged, Acknowledged}
use Rattle.elements.specs.declared.node.SgsnNumber.{SgsnNumber}
use Rattle.messages.specs.declared.message.Message.{Message}
use Rattle.messages.specs.declared.message.Message.TheVariants.{PagingFailure, MobileStatus, LuRequest, LuAccept, LuReject, GprsDetachIndication, GprsDetachAcknowledge, ImsiDetachIndication, ImsiDetachAcknowledge}
use Rattle.vlr.specs.declared.record.Record.{Record}
use Rattle.vlr.specs.Records.{confirmed, unmarked, imsi_detached}

-- a mobile that is not enrolled is rejected so
abbrev pub unknown_cause : ℕ
unknown_cause = 2

abbrev pub reject : Imsi → ℕ → Option Message
reject i c = Some (LuReject i (record { number = c }))

-- a location update: the mobile's home lets it in, or gives the cause why not
abbrev pub update_move : SgsnNumber → Imsi → LocationArea → Option Record → Option Record × Option Message
update_move n i a None = (None, reject i unknown_cause)
update_move n i a (Some r) =
    if r.home_cause == 0 then (Some (confirmed r n), Some (LuAccept i a))
    else (Some (unmarked r), reject i r.home_cause)

-- an IMSI detach is acknowledged where its sender wants that
abbrev pub detach_answer : Imsi → ImsiDetachType → Option Message
detach_answer i Acknowledged = Some (ImsiDetachAcknowledge i Acknowledged)
detach_answer i Unacknowledged = None

-- what a message from this SGSN makes of the mobile's record, if one is held, and the message that answers it
abbrev pub message_move : SgsnNumber → Message → Option Record → Option Record × Option Message
message_move n (LuRequest i u o a c) r = update_move n i a r
message_move n (GprsDetachIndication i t) r = (option_map unmarked r, Some (GprsDetachAcknowledge i t))
message_move n (ImsiDetachIndication i t) r = (option_map imsi_detached r, detach_answer i t)
message_move n (PagingFailure i c) r = (option_map unmarked r, None)
message_move n (MobileStatus i c) r = (option_map unmarked r, None)
message_move n m r = (r, None)
