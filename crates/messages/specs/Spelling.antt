-- The octets that spell a message: its type, then its elements in order.
use Rattle.std.specs.Prelude.{◌≡◌, ℕ, true, List, ◌∷◌, ◌++◌}
use Rattle.elements.specs.declared.element.Element.TheVariants as el
use Rattle.elements.specs.Codes.{cause_octet, update_octet, class_octet, gprs_detach_octet, imsi_detach_octet}
use Rattle.elements.specs.Spelling.{imsi_element, octet_element, area_element, tmsi_element, channel_element}
use Rattle.messages.specs.declared.message.Message.{Message}
use Rattle.messages.specs.declared.message.Message.TheVariants.{Paging, PagingFailure, MobileStatus, LuRequest, LuAccept, LuReject, Reset, ResetAcknowledge, GprsDetachIndication, GprsDetachAcknowledge, ImsiDetachIndication, ImsiDetachAcknowledge}
use Rattle.messages.specs.Kinds.{octet_of, kind_of}
use Rattle.messages.specs.Lawful.{lawful_message}

-- the type octet of a message
abbrev pub type_of : Message → ℕ
type_of m = octet_of (kind_of m)

-- what follows the type octet
abbrev pub elements_of : Message → List ℕ
elements_of (Paging i t c) = imsi_element i ++ (tmsi_element t ++ channel_element c)
elements_of (PagingFailure i c) = imsi_element i ++ octet_element el.Cause (cause_octet c)
elements_of (MobileStatus i c) = imsi_element i ++ octet_element el.Cause (cause_octet c)
elements_of (LuRequest i u o n c) =
    imsi_element i ++ (octet_element el.UpdateType (update_octet u) ++ (area_element el.OldArea o ++ (area_element el.NewArea n ++ octet_element el.Class (class_octet c))))
elements_of (LuAccept i n) = imsi_element i ++ area_element el.NewArea n
elements_of (LuReject i c) = imsi_element i ++ octet_element el.RejectCause c.number
elements_of (Reset e) = octet_element el.Entity e.number
elements_of (ResetAcknowledge e) = octet_element el.Entity e.number
elements_of (GprsDetachIndication i t) = imsi_element i ++ octet_element el.GprsDetachType (gprs_detach_octet t)
elements_of (GprsDetachAcknowledge i t) = imsi_element i ++ octet_element el.GprsDetachType (gprs_detach_octet t)
elements_of (ImsiDetachIndication i t) = imsi_element i ++ octet_element el.ImsiDetachType (imsi_detach_octet t)
elements_of (ImsiDetachAcknowledge i t) = imsi_element i ++ octet_element el.ImsiDetachType (imsi_detach_octet t)

abbrev pub octets_of : Message → List ℕ
octets_of m = type_of m ∷ elements_of m

-- these octets are the spelling of a lawful message
abbrev pub Spells : Message → List ℕ → Type 0
Spells m s = (lawful_message m ≡ true) × (octets_of m ≡ s)
