-- No octet is read as a value that is written otherwise, nor as an unlawful one: what each kind of code owes.
use Rattle.std.specs.Prelude.{◌≡◌, ℕ, ◌≤◌, true, Some, ◌==◌}
use Rattle.std.proofs.Common.{sym, ap, ◌∙◌, ⊎_elim}
use Rattle.std.proofs.Math.Nat.{pos_of_ne-zero}
use Rattle.std.proofs.lemmas.Bool.{cond-true, cond-false, eqb-true, eqb-false, cases_Bool}
use Rattle.std.proofs.lemmas.Option.{none-some, same_Some}
use Rattle.elements.specs.declared.code.Cause.{Cause}
use Rattle.elements.specs.declared.code.Cause.TheVariants as cause
use Rattle.elements.specs.declared.code.UpdateType.{UpdateType}
use Rattle.elements.specs.declared.code.UpdateType.TheVariants as update
use Rattle.elements.specs.declared.code.Class.{Class}
use Rattle.elements.specs.declared.code.Class.TheVariants as class
use Rattle.elements.specs.declared.code.GprsDetachType.{GprsDetachType}
use Rattle.elements.specs.declared.code.GprsDetachType.TheVariants as gprs
use Rattle.elements.specs.declared.code.ImsiDetachType.{ImsiDetachType}
use Rattle.elements.specs.declared.code.ImsiDetachType.TheVariants as imsi
use Rattle.elements.specs.declared.code.RejectCause.{RejectCause}
use Rattle.elements.specs.declared.node.NodeNumber.{NodeNumber}
use Rattle.elements.specs.Codes.{either_in, cause_octet, cause_in, update_octet, update_in, class_octet, class_in, gprs_detach_octet, gprs_detach_in, imsi_detach_octet, imsi_detach_in, reject_in, entity_in}
use Rattle.elements.specs.Nodes.{lawful_node}

-- of two cases, whichever octets they have
either_back : {X : Type 0} (octet : X → ℕ) (a b : X) (n : ℕ) (x : X) → either_in octet a b n ≡ Some x → octet x ≡ n
either_back octet a b n x e =
    ⊎_elim
    (λ t. ap octet (sym (same_Some a x (sym (cond-true _ _ _ t) ∙ e))) ∙ sym (eqb-true n (octet a) t))
    (λ f. let e1 = sym (cond-false _ _ _ f) ∙ e in
    ⊎_elim
    (λ t. ap octet (sym (same_Some b x (sym (cond-true _ _ _ t) ∙ e1))) ∙ sym (eqb-true n (octet b) t))
    (λ g. absurd (none-some x (sym (cond-false _ _ _ g) ∙ e1)))
    (cases_Bool (n == octet b)))
    (cases_Bool (n == octet a))

pub cause_back : (n : ℕ) (x : Cause) → cause_in n ≡ Some x → cause_octet x ≡ n
cause_back = either_back cause_octet cause.NotAttached cause.MovedToAnotherVlr

pub update_back : (n : ℕ) (x : UpdateType) → update_in n ≡ Some x → update_octet x ≡ n
update_back = either_back update_octet update.ImsiAttach update.Normal

pub class_back : (n : ℕ) (x : Class) → class_in n ≡ Some x → class_octet x ≡ n
class_back = either_back class_octet class.A class.B

pub gprs_back : (n : ℕ) (x : GprsDetachType) → gprs_detach_in n ≡ Some x → gprs_detach_octet x ≡ n
gprs_back = either_back gprs_detach_octet gprs.ByNetwork gprs.ByMobile

pub imsi_back : (n : ℕ) (x : ImsiDetachType) → imsi_detach_in n ≡ Some x → imsi_detach_octet x ≡ n
imsi_back = either_back imsi_detach_octet imsi.Unacknowledged imsi.Acknowledged

pub reject_back : (n : ℕ) (c : RejectCause) → reject_in n ≡ Some c → (c.number ≡ n) × (1 ≤ n)
reject_back n c e =
    ⊎_elim
    (λ t. absurd (none-some c (sym (cond-true _ _ _ t) ∙ e)))
    (λ f.
    let s = same_Some _ c (sym (cond-false _ _ _ f) ∙ e) in
    (sym (ap (λ (x : RejectCause). x.number) s), pos_of_ne-zero (eqb-false n 0 f)))
    (cases_Bool (n == 0))

pub entity_back : (n : ℕ) (x : NodeNumber) → entity_in n ≡ Some x → (x.number ≡ n) × (lawful_node x ≡ true)
entity_back n x e =
    ⊎_elim
    (λ t.
    let s = same_Some _ x (sym (cond-true _ _ _ t) ∙ e) in
    (sym (ap (λ (y : NodeNumber). y.number) s), ap lawful_node (sym s) ∙ t))
    (λ f. absurd (none-some x (sym (cond-false _ _ _ f) ∙ e)))
    (cases_Bool (lawful_node (record { number = n })))
