-- The octets of the codes. A code is read as the case that is written so.
use Rattle.std.specs.Prelude.{ℕ, if◌then◌else◌, Some, None, Option, ◌==◌}
use Rattle.elements.specs.declared.code.Cause.{Cause}
use Rattle.elements.specs.declared.code.Cause.TheVariants as cause
use Rattle.elements.specs.declared.code.UpdateType.{UpdateType}
use Rattle.elements.specs.declared.code.UpdateType.TheVariants as update
use Rattle.elements.specs.declared.code.Class.{Class}
use Rattle.elements.specs.declared.code.Class.TheVariants as class
use Rattle.elements.specs.declared.code.GprsDetachType.{GprsDetachType}
use Rattle.elements.specs.declared.code.GprsDetachType.TheVariants as gprs
use Rattle.elements.specs.declared.code.ImsiDetachType.{ImsiDetachType}
use Rattle.elements.specs.declared.code.ImsiDetachType.TheVariants as imsi
use Rattle.elements.specs.declared.code.RejectCause.{RejectCause}
use Rattle.elements.specs.declared.node.NodeNumber.{NodeNumber}
use Rattle.elements.specs.Nodes.{lawful_node}

-- the one of two cases that is written as this octet
abbrev pub either_in : {X : Type 0} → (X → ℕ) → X → X → ℕ → Option X
either_in octet a b n = if n == octet a then Some a else if n == octet b then Some b else None

abbrev pub cause_octet : Cause → ℕ
cause_octet cause.NotAttached = 1
cause_octet cause.MovedToAnotherVlr = 2

abbrev pub cause_in : ℕ → Option Cause
cause_in = either_in cause_octet cause.NotAttached cause.MovedToAnotherVlr

abbrev pub update_octet : UpdateType → ℕ
update_octet update.ImsiAttach = 1
update_octet update.Normal = 2

abbrev pub update_in : ℕ → Option UpdateType
update_in = either_in update_octet update.ImsiAttach update.Normal

abbrev pub class_octet : Class → ℕ
class_octet class.A = 1
class_octet class.B = 2

abbrev pub class_in : ℕ → Option Class
class_in = either_in class_octet class.A class.B

abbrev pub gprs_detach_octet : GprsDetachType → ℕ
gprs_detach_octet gprs.ByNetwork = 1
gprs_detach_octet gprs.ByMobile = 2

abbrev pub gprs_detach_in : ℕ → Option GprsDetachType
gprs_detach_in = either_in gprs_detach_octet gprs.ByNetwork gprs.ByMobile

abbrev pub imsi_detach_octet : ImsiDetachType → ℕ
imsi_detach_octet imsi.Unacknowledged = 1
imsi_detach_octet imsi.Acknowledged = 2

abbrev pub imsi_detach_in : ℕ → Option ImsiDetachType
imsi_detach_in = either_in imsi_detach_octet imsi.Unacknowledged imsi.Acknowledged

-- any octet but 0
abbrev pub reject_in : ℕ → Option RejectCause
reject_in n = if n == 0 then None else Some (record { number = n })

-- the octet of a lawful node
abbrev pub entity_in : ℕ → Option NodeNumber
entity_in n = if lawful_node (record { number = n }) then Some (record { number = n }) else None
