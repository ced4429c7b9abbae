-- A call by hand is the same step as the call that keeps no reply, and stands under the same law.
use Rattle.std.proofs.Common.{◌≡◌, ℕ, Bool, true, false, List, Ok, Err, Option, Result, sym, refl, ap, subst}
use Rattle.elements.specs.declared.node.NodeNumber.{NodeNumber}
use Rattle.carrier.specs.Nodes.{own_node}
use Rattle.carrier.specs.Order.{Stamps}
use Rattle.station.specs.declared.denial.Denial.{Denial}
use Rattle.station.specs.declared.denial.Denial.TheVariants as denial
use Rattle.station.specs.declared.receiving.Refusal.{Refusal}
use Rattle.station.specs.declared.receiving.Refusal.TheVariants.{Denied}
use Rattle.station.specs.Calls.{Plan, ask, plan_with, handed_on, Done, Decides, Does}
use Rattle.station.proofs.Answering.{decided_done}
use Rattle.context.specs.declared.errand.Verdict.{Verdict}
use Rattle.sgsn.specs.declared.call.SgsnAnswer.{SgsnAnswer}
use Rattle.sgsn.specs.declared.call.SgsnAnswer.TheVariants as sgsn_answer
use Rattle.sgsn.specs.declared.call.SgsnCall.{SgsnCall}
use Rattle.sgsn.specs.declared.call.SgsnCall.TheVariants.{Settle}
use Rattle.sgsn.specs.declared.reply.Reply.{Reply}
use Rattle.sgsn.specs.Calls.{call_course}
use Rattle.sgsn.specs.Replies.{owed_to}
use Rattle.sgsn.specs.Settling.{settle_plan, reply_plan, handing_back}
use Rattle.sgsn.specs.State as sgsn
use Rattle.law.specs.declared.call.Answer.TheVariants as answer
use Rattle.law.specs.Laws.{Law}
use Rattle.law.specs.Steps.{Events, Came, AtSgsn, Step}
use Rattle.law.specs.Tables.{View}
use Rattle.law.proofs.Carried.{Carries}
use Rattle.law.proofs.Lawful.{law_after, law_step}
use Rattle.site.specs.ByHand.{own_call, is_its, SettlesAs, Settles, with_settling}

module _ {C : Type 0} (takes : C → NodeNumber → Option (List ℕ) → C → Type 0) (puts : C → List ℕ → C → Type 0) where
  -- a call of the site's SGSN
  pub own_step : (k : SgsnCall) (r : Result SgsnAnswer Refusal) (x y : View C) → Does sgsn.own_of sgsn.last_of takes puts (call_course k x.sgsn) r x.sgsn x.carrier y.sgsn y.carrier → y.vlrs ≡ x.vlrs → Step takes puts (own_call x k) (answer.Sgsn r) x y
  own_step k r x y made vlrs = subst (λ b. AtSgsn takes puts b k (answer.Sgsn r) x y) (sym (own_node x.sgsn.own)) (record { result = r; answered = refl; made = made; vlrs = vlrs })

  -- what hands out another answer, and another reason, does what the call does that it stands for
  handed : {T U W E F G : Type 0} (f : T → U) (g : E → F) (h : U → W) (k : F → G) (plan : Result (Plan T sgsn.State) E) (r : Result U F) (s : sgsn.State) (c : C) (t : sgsn.State) (d : C)
      → Done sgsn.own_of sgsn.last_of puts (plan_with f g plan) r s c t d → Done sgsn.own_of sgsn.last_of puts (plan_with (λ x. h (f x)) (λ e. k (g e)) plan) (handed_on h k r) s c t d
  handed f g h k (Err e) r s c t d D = (ap (handed_on h k) D.0, D.1, D.2)
  handed f g h k (Ok p) r s c t d D = (ap (handed_on h k) D.0, D.1, D.2)

  -- a request or detach that hands out its reply
  pub asks : (p : Reply) (plan : Result (Plan Unit sgsn.State) Denial) (r : Result Reply Denial) (s : sgsn.State) (c : C) (t : sgsn.State) (d : C) → Done sgsn.own_of sgsn.last_of puts (plan_with (λ u. p) (λ e. e) plan) r s c t d
      → Done sgsn.own_of sgsn.last_of puts (plan_with (λ u. sgsn_answer.Done) Denied plan) (handed_on (λ q. sgsn_answer.Done) Denied r) s c t d
  asks p plan r s c t d D = handed (λ u. p) (λ e. e) (λ q. sgsn_answer.Done) Denied plan r s c t d D

  settles_as : (b : Bool) (p : Reply) (r : Result Verdict (Denial × Reply)) (x y : View C) → Done sgsn.own_of sgsn.last_of puts (handing_back p (ask b denial.NoSuchReply (settle_plan x.sgsn (owed_to p)))) r x.sgsn x.carrier y.sgsn y.carrier → y.vlrs ≡ x.vlrs → SettlesAs takes puts b p r x y
  settles_as true p r x y D vlrs = own_step (Settle (owed_to p)) _ x y (handed (λ v. v) (λ d. (d, p)) sgsn_answer.Verdict (λ (e : Denial × Reply). Denied e.0) (settle_plan x.sgsn (owed_to p)) r x.sgsn x.carrier y.sgsn y.carrier D) vlrs
  settles_as false p r x y D vlrs = (D.0, λ i. record { sgsn = D.1 i; vlrs = vlrs i; carrier = D.2 i })

  pub settles : (p : Reply) (r : Result Verdict (Denial × Reply)) (x y : View C) → Decides sgsn.own_of sgsn.last_of (handing_back p (reply_plan x.sgsn p)) r x.sgsn y.sgsn → y.vlrs ≡ x.vlrs → y.carrier ≡ x.carrier → Settles takes puts p r x y
  settles p r x y D vlrs carrier =
      settles_as (is_its p x) p r x y (subst (λ d. Done sgsn.own_of sgsn.last_of puts (handing_back p (reply_plan x.sgsn p)) r x.sgsn x.carrier y.sgsn d) (sym carrier) (decided_done sgsn.own_of sgsn.last_of puts _ r x.sgsn y.sgsn x.carrier D)) vlrs

  module _ (waiting : C → List (List ℕ)) (latest : C → Stamps) (K : Carries waiting latest takes puts) (es : Events) (x y : View C) (came : Came waiting takes puts es x) where
    settled_lawfully : (b : Bool) (p : Reply) (r : Result Verdict (Denial × Reply)) → SettlesAs takes puts b p r x y → Law (with_settling x b p r es) y
    settled_lawfully true p r s = law_step waiting latest takes puts K _ _ es x y came s
    settled_lawfully false p r s = subst (Law es) (sym s.1) (law_after waiting latest takes puts K es x came)

    pub lawfully : (p : Reply) (r : Result Verdict (Denial × Reply)) → Settles takes puts p r x y → Law (with_settling x (is_its p x) p r es) y
    lawfully p r s = settled_lawfully (is_its p x) p r s
