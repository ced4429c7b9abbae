-- Which messages can be written.
use Rattle.std.specs.Prelude.{ℕ, Bool, true, ◌&&◌, length, Some, None, Option, ◌==◌, nat_le, nat_lt}
use Rattle.imsi.specs.declared.Imsi.{Imsi}
use Rattle.imsi.specs.Spelling.{lawful_imsi}
use Rattle.elements.specs.declared.area.LocationArea.{LocationArea}
use Rattle.elements.specs.declared.code.RejectCause.{RejectCause}
use Rattle.elements.specs.Nodes.{lawful_node}
use Rattle.messages.specs.declared.message.Message.{Message}
use Rattle.messages.specs.declared.message.Message.TheVariants.{Paging, LuRequest, LuAccept, LuReject, Reset, ResetAcknowledge}
use Rattle.messages.specs.Mobiles.{mobile_of}

abbrev pub lawful_mobile : Imsi → Bool
lawful_mobile i = lawful_imsi i.digits i.value

-- a TMSI is any number of four octets
abbrev pub lawful_tmsi : Option ℕ → Bool
lawful_tmsi None = true
lawful_tmsi (Some n) = nat_lt n 4294967296

abbrev pub lawful_channel : Option ℕ → Bool
lawful_channel None = true
lawful_channel (Some n) = nat_le n 3

-- a location area is any five octets
abbrev pub lawful_area : LocationArea → Bool
lawful_area a = length a.octets == 5

abbrev pub lawful_reject : RejectCause → Bool
lawful_reject c = nat_le 1 c.number

-- the mobile that a message is about, if there is one
abbrev pub lawful_if_any : Option Imsi → Bool
lawful_if_any None = true
lawful_if_any (Some i) = lawful_mobile i

-- most messages ask only that of their mobile
abbrev pub lawful_message : Message → Bool
lawful_message (Paging i t c) = lawful_mobile i && (lawful_tmsi t && lawful_channel c)
lawful_message (LuRequest i u o n c) = lawful_mobile i && (lawful_area o && lawful_area n)
lawful_message (LuAccept i n) = lawful_mobile i && lawful_area n
lawful_message (LuReject i c) = lawful_mobile i && lawful_reject c
lawful_message (Reset e) = lawful_node e
lawful_message (ResetAcknowledge e) = lawful_node e
lawful_message m = lawful_if_any (mobile_of m)
