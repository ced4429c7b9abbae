-- What each call does to the record of one mobile.
use Rattle.std.proofs.Common.{◌≡◌, ℕ, Bool, true, false, ◌==◌, cond, Some, None, Ok, Err, Option, Result, sym, refl, ap, ◌∙◌, subst}
use Rattle.std.proofs.lemmas.Bool.{cond_both}
use Rattle.std.specs.Option.{option_map}
use Rattle.elements.specs.declared.node.SgsnNumber.{SgsnNumber}
use Rattle.imsi.specs.declared.Imsi.{Imsi}
use Rattle.frames.specs.declared.frame.Frame.{Frame}
use Rattle.messages.specs.declared.message.Message.{Message}
use Rattle.messages.specs.declared.message.Message.TheVariants.{LuRequest, Reset, ResetAcknowledge}
use Rattle.directory.specs.Lookup.{at}
use Rattle.directory.specs.Order.{same}
use Rattle.directory.proofs.Lookups.{at-map, at-stored, at-whose, same_true}
use Rattle.station.specs.declared.denial.Denial.{Denial}
use Rattle.station.specs.Calls.{Plan, Decides}
use Rattle.messages.specs.Mobiles.{mobile_of}
use Rattle.vlr.specs.declared.record.Record.{Record}
use Rattle.vlr.specs.Records.{doubtful, doubtful_at, confirmed, unmarked, sure_at}
use Rattle.vlr.specs.Moves.{message_move}
use Rattle.vlr.specs.State.{State, own_of, last_of, whose, record_at}
use Rattle.vlr.specs.Delivering.{found, records_with, taken_by}
use Rattle.vlr.specs.Enrolling.{enrolled, with_enrolled, enrol_plan}
use Rattle.vlr.specs.Laws.{by_message, by_enrolment, of_mobile, unless_denied, ByMobile}
use Rattle.vlr.proofs.Granted.{enrol_granted}
use Rattle.vlr.proofs.Enrolls.{its_own}
use Rattle.vlr.proofs.Moved.{moved, move_is}

-- no message changes whose a record is
pub moved-whose : (n : SgsnNumber) (a : Message) (r : Record) → whose (moved n a r) ≡ whose r
moved-whose n (LuRequest i u o w c) r = cond_both (r.home_cause == 0) (confirmed r n) (unmarked r) (λ t. whose t ≡ whose r) (λ e. refl) (λ e. refl)
moved-whose n a r = refl

pub doubtful-whose : (n : SgsnNumber) (r : Record) → whose (doubtful_at n r) ≡ whose r
doubtful-whose n r = cond_both (sure_at n r.mark) (doubtful r) r (λ t. whose t ≡ whose r) (λ e. refl) (λ e. refl)

-- where the mobile is the same, it is that mobile's record
its_record : {X : Type 0} (s : State) (i m : Imsi) (o : Option Record) (f : Option Record → X) (y : X) (b : Bool) → same m i ≡ b → at whose s.records i ≡ o → cond b (f o) y ≡ cond b (f (at whose s.records m)) y
its_record s i m o f y true e is = ap f (sym is ∙ ap (at whose s.records) (sym (same_true m i e)))
its_record s i m o f y false e is = refl

-- where no record is held there is nothing to change
unheld : (s : State) (i m : Imsi) (g : Record → Record) (b : Bool) → same m i ≡ b → at whose s.records i ≡ None → at whose s.records m ≡ cond b (option_map g (at whose s.records m)) (at whose s.records m)
unheld s i m g true e none =
    let p : at whose s.records m ≡ None = ap (at whose s.records) (same_true m i e) ∙ none in
    p ∙ sym (ap (option_map g) p)
unheld s i m g false e none = refl

changed_at : (s : State) (a : Message) (i m : Imsi) (o : Option Record) → at whose s.records i ≡ o → at whose (records_with (option_map (moved s.sgsn a) o) s.records) m ≡ cond (same m i) (option_map (moved s.sgsn a) (record_at s m)) (record_at s m)
changed_at s a i m None e = unheld s i m (moved s.sgsn a) (same m i) refl e
changed_at s a i m (Some r) e =
    let own = moved-whose s.sgsn a r ∙ at-whose whose s.records i r e in
    at-stored whose (moved s.sgsn a r) s.records m
    ∙ (λ t. cond (same m (own t)) (Some (moved s.sgsn a r)) (at whose s.records m))
    ∙ its_record s i m (Some r) (option_map (moved s.sgsn a)) (at whose s.records m) (same m i) refl e

-- a message that is about this mobile, or about none
about_at : (s : State) (a : Message) (o : Option Imsi) (m : Imsi) → at whose (records_with (message_move s.sgsn a (found s o)).0 s.records) m ≡ of_mobile s.sgsn a o m (record_at s m)
about_at s a None m = ap (λ x. at whose (records_with x.0 s.records) m) (move_is s.sgsn a None)
about_at s a (Some i) m =
    ap (λ x. at whose (records_with x.0 s.records) m) (move_is s.sgsn a (record_at s i))
    ∙ changed_at s a i m (record_at s i) refl
    ∙ ap (λ x. cond (same m i) x.0 (record_at s m)) (sym (move_is s.sgsn a (record_at s m)))

-- a frame of the SGSN's was taken
pub taken-at : (s : State) (f : Frame) (a : Message) (m : Imsi) → record_at (taken_by s f a).after m ≡ by_message s.sgsn a m (record_at s m)
taken-at s f (Reset e) m = at-map whose (doubtful_at s.sgsn) (doubtful-whose s.sgsn) s.records m
taken-at s f (ResetAcknowledge e) m = refl
taken-at s f a m = about_at s a (mobile_of a) m

-- a mobile was enrolled
pub enrolled-at : (s : State) (i : Imsi) (c : ℕ) (m : Imsi) → record_at (with_enrolled s i c) m ≡ cond (same m i) (Some (enrolled i c (record_at s m))) (record_at s m)
enrolled-at s i c m =
    at-stored whose (enrolled i c (at whose s.records i)) s.records m
    ∙ (λ t. cond (same m (its_own s.records i c t)) (Some (enrolled i c (at whose s.records i))) (at whose s.records m))
    ∙ its_record s i m (at whose s.records i) (λ o. Some (enrolled i c o)) (at whose s.records m) (same m i) refl refl

-- what a call that is not denied does is so after any call, unless it is denied
decided_at : (s t : State) (f : Imsi → Option Record → Option Record) (plan : Result (Plan Unit State) Denial) (r : Result Unit Denial) → ((p : Plan Unit State) → plan ≡ Ok p → ByMobile s p.after f) → Decides own_of last_of plan r s t → ByMobile s t (λ m o. unless_denied plan o (f m o))
decided_at s t f (Err d) r law is = λ m. ap (λ x. record_at x m) is.1
decided_at s t f (Ok p) r law is = λ m. ap (λ x. record_at x m) is.1 ∙ law p refl m

pub enrolment : (s t : State) (i : Imsi) (c : ℕ) (r : Result Unit Denial) → Decides own_of last_of (enrol_plan s i c) r s t → ByMobile s t (by_enrolment s i c)
enrolment s t i c r is = decided_at s t (λ m o. cond (same m i) (Some (enrolled i c o)) o) (enrol_plan s i c) r
    (λ p e. subst (λ u. ByMobile s u.after (λ m o. cond (same m i) (Some (enrolled i c o)) o)) (enrol_granted s i c p e) (enrolled-at s i c)) is
