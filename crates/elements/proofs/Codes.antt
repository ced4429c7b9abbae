-- Each code is read as the case that is written so; specs/Backs has that it is read only as that.
use Rattle.std.proofs.Common.{◌≡◌, ◌≤◌, true, Some, refl, arith}
use Rattle.std.proofs.lemmas.Bool.{cond-true, cond-false, ne_eqb}
use Rattle.elements.specs.declared.code.Cause.{Cause}
use Rattle.elements.specs.declared.code.Cause.TheVariants as cause
use Rattle.elements.specs.declared.code.UpdateType.{UpdateType}
use Rattle.elements.specs.declared.code.UpdateType.TheVariants as update
use Rattle.elements.specs.declared.code.Class.{Class}
use Rattle.elements.specs.declared.code.Class.TheVariants as class
use Rattle.elements.specs.declared.code.GprsDetachType.{GprsDetachType}
use Rattle.elements.specs.declared.code.GprsDetachType.TheVariants as gprs
use Rattle.elements.specs.declared.code.ImsiDetachType.{ImsiDetachType}
use Rattle.elements.specs.declared.code.ImsiDetachType.TheVariants as imsi
use Rattle.elements.specs.declared.code.RejectCause.{RejectCause}
use Rattle.elements.specs.declared.node.NodeNumber.{NodeNumber}
use Rattle.elements.specs.Codes.{cause_octet, cause_in, update_octet, update_in, class_octet, class_in, gprs_detach_octet, gprs_detach_in, imsi_detach_octet, imsi_detach_in, reject_in, entity_in}
use Rattle.elements.specs.Nodes.{lawful_node}

pub cause_there : (x : Cause) → cause_in (cause_octet x) ≡ Some x
cause_there cause.NotAttached = refl
cause_there cause.MovedToAnotherVlr = refl

pub update_there : (x : UpdateType) → update_in (update_octet x) ≡ Some x
update_there update.ImsiAttach = refl
update_there update.Normal = refl

pub class_there : (x : Class) → class_in (class_octet x) ≡ Some x
class_there class.A = refl
class_there class.B = refl

pub gprs_there : (x : GprsDetachType) → gprs_detach_in (gprs_detach_octet x) ≡ Some x
gprs_there gprs.ByNetwork = refl
gprs_there gprs.ByMobile = refl

pub imsi_there : (x : ImsiDetachType) → imsi_detach_in (imsi_detach_octet x) ≡ Some x
imsi_there imsi.Unacknowledged = refl
imsi_there imsi.Acknowledged = refl

pub reject_there : (c : RejectCause) → 1 ≤ c.number → reject_in c.number ≡ Some c
reject_there c h = cond-false _ _ _ (ne_eqb c.number 0 (λ z. omega arith))

pub entity_there : (n : NodeNumber) → lawful_node n ≡ true → entity_in n.number ≡ Some n
entity_there n h = cond-true _ _ _ h
