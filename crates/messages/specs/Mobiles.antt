-- The mobile that a message is about: RESET and its acknowledgement are about none.
use Rattle.std.specs.Prelude.{Some, None, Option}
use Rattle.imsi.specs.declared.Imsi.{Imsi}
use Rattle.messages.specs.declared.message.Message.{Message}
use Rattle.messages.specs.declared.message.Message.TheVariants.{Paging, PagingFailure, MobileStatus, LuRequest, LuAccept, LuReject, Reset, ResetAcknowledge, GprsDetachIndication, GprsDetachAcknowledge, ImsiDetachIndication, ImsiDetachAcknowledge}

abbrev pub mobile_of : Message → Option Imsi
mobile_of (Paging i t c) = Some i
mobile_of (PagingFailure i c) = Some i
mobile_of (MobileStatus i c) = Some i
mobile_of (LuRequest i u o n c) = Some i
mobile_of (LuAccept i n) = Some i
mobile_of (LuReject i c) = Some i
mobile_of (Reset e) = None
mobile_of (ResetAcknowledge e) = None
mobile_of (GprsDetachIndication i t) = Some i
mobile_of (GprsDetachAcknowledge i t) = Some i
mobile_of (ImsiDetachIndication i t) = Some i
mobile_of (ImsiDetachAcknowledge i t) = Some i
