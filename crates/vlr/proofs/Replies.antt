-- What answers a lawful message is lawful.
use Rattle.std.proofs.Common.{◌≡◌, ℕ, Bool, true, false, cond, nat_le, eqb, Some, Option, sym, refl, ap, ◌∙◌, arith}
use Rattle.std.proofs.lemmas.Bool.{and_parts, and_from}
use Rattle.std.proofs.lemmas.Bool.Decides.{nat_tests}
use Rattle.std.proofs.lemmas.Option.{none-some, same_Some}
use Rattle.imsi.specs.declared.Imsi.{Imsi}
use Rattle.elements.specs.declared.area.LocationArea.{LocationArea}
use Rattle.elements.specs.declared.code.ImsiDetachType.{ImsiDetachType}
use Rattle.elements.specs.declared.code.ImsiDetachType.TheVariants.{Unacknowledged, Acknowledged}
use Rattle.messages.specs.declared.message.Message.{Message}
use Rattle.messages.specs.declared.message.Message.TheVariants.{LuRequest, LuAccept, LuReject, GprsDetachIndication, ImsiDetachIndication}
use Rattle.messages.specs.Lawful.{lawful_message, lawful_mobile, lawful_area}
use Rattle.vlr.specs.declared.record.Record.{Record}
use Rattle.vlr.specs.Moves.{detach_answer}
use Rattle.vlr.proofs.Moved.{answer_to, cause_for}

update_lawful : (b : Bool) (i : Imsi) (w : LocationArea) (c : ℕ) → eqb c 0 ≡ b → lawful_mobile i ≡ true → lawful_area w ≡ true → lawful_message (cond b (LuAccept i w) (LuReject i (record { number = c }))) ≡ true
update_lawful true i w c e m a = and_from _ _ m a
update_lawful false i w c e m a = let some : nat_le 1 c ≡ true = grind (arith, nat_tests) in and_from _ _ m some

detach_lawful : (i : Imsi) (t : ImsiDetachType) (a : Message) → lawful_mobile i ≡ true → detach_answer i t ≡ Some a → lawful_message a ≡ true
detach_lawful i Acknowledged a m e = ap lawful_message (sym (same_Some _ _ e)) ∙ m
detach_lawful i Unacknowledged a m e = absurd (none-some a e)

pub lawful_answer : (r : Option Record) (m a : Message) → lawful_message m ≡ true → answer_to r m ≡ Some a → lawful_message a ≡ true
lawful_answer r (LuRequest i u o w c) a l e = ap lawful_message (sym (same_Some _ _ e)) ∙ update_lawful (eqb (cause_for r) 0) i w (cause_for r) refl (and_parts _ _ l).0 (and_parts _ _ (and_parts _ _ l).1).1
lawful_answer r (GprsDetachIndication i t) a l e = ap lawful_message (sym (same_Some _ _ e)) ∙ l
lawful_answer r (ImsiDetachIndication i t) a l e = detach_lawful i t a l e
lawful_answer r m a l e = absurd (none-some a e)
