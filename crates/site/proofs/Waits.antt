-- Ticks until a verdict is there, and its settling, are calls that can be made.
use Rattle.std.proofs.Common.{◌≡◌, ℕ, zero, suc, Bool, true, false, not, List, Ok, Option, Result, sym, refl, subst}
use Rattle.std.proofs.lemmas.Bool.{and_parts}
use Rattle.elements.specs.declared.node.NodeNumber.{NodeNumber}
use Rattle.elements.specs.Nodes.{same_node}
use Rattle.carrier.specs.Order.{Stamps}
use Rattle.station.specs.declared.denial.Denial.{Denial}
use Rattle.station.specs.declared.denial.Denial.TheVariants as denial
use Rattle.station.specs.declared.receiving.Refusal.TheVariants.{Denied}
use Rattle.station.specs.Calls.{plan, ask, plan_with, Done}
use Rattle.station.specs.Sends.{is_worn, Sent}
use Rattle.context.specs.declared.errand.Verdict.{Verdict}
use Rattle.sgsn.specs.declared.call.SgsnAnswer.TheVariants as sgsn_answer
use Rattle.sgsn.specs.declared.call.SgsnCall.TheVariants.{Settle, Tick}
use Rattle.sgsn.specs.declared.reply.Reply.{Reply}
use Rattle.sgsn.specs.Awaiting.{is_open_in, Ticked, SettledInTime}
use Rattle.sgsn.specs.Recovering.{ticked, tick_sends}
use Rattle.sgsn.specs.Replies.{owed_by, owed_to}
use Rattle.sgsn.specs.State as sgsn
use Rattle.vlr.specs.State as vlr
use Rattle.law.specs.declared.call.Answer.TheVariants as answer
use Rattle.law.specs.Laws.{Law}
use Rattle.law.specs.Steps.{Events, Came, Step}
use Rattle.law.specs.Steps.Came.{next}
use Rattle.law.specs.Tables.{View}
use Rattle.law.proofs.Carried.{Carries}
use Rattle.law.proofs.Lawful.{law_after}
use Rattle.site.specs.ByHand.{own_call, is_its, SettlesAs, settled_by}
use Rattle.site.proofs.ByHand.{own_step, settles}

module _ {C : Type 0} (waiting : C → List (List ℕ)) (latest : C → Stamps) (takes : C → NodeNumber → Option (List ℕ) → C → Type 0) (puts : C → List ℕ → C → Type 0) where
  -- some calls led here
  abbrev Reached : View C → Type 0
  Reached x = (es : Events) × Came waiting takes puts es x

  -- a tick that is not denied
  tick_step : (s : sgsn.State) (vs : List vlr.State) (c d : C) → not (is_worn s.last) ≡ true → Sent puts s.own s.last (tick_sends s) c d
      → let x : View C = record { sgsn = s; vlrs = vs; carrier = c } in
      Step takes puts (own_call x Tick) (answer.Sgsn (Ok sgsn_answer.Done)) x (record { sgsn = ticked s; vlrs = vs; carrier = d })
  tick_step s vs c d fresh sent =
      own_step takes puts Tick (Ok sgsn_answer.Done) (record { sgsn = s; vlrs = vs; carrier = c }) (record { sgsn = ticked s; vlrs = vs; carrier = d })
      (subst (λ b. Done sgsn.own_of sgsn.last_of puts (plan_with (λ u. sgsn_answer.Done) Denied (ask b denial.Worn (Ok (plan (ticked s) (tick_sends s))))) (Ok sgsn_answer.Done) s c (ticked s) d) (sym fresh) (refl, refl, sent))
      refl

  -- so many ticks
  ticks_reach : (p : Reply) (n : ℕ) (s t : sgsn.State) (vs : List vlr.State) (c e : C) → Ticked puts p n s c t e → Reached (record { sgsn = s; vlrs = vs; carrier = c }) → Reached (record { sgsn = t; vlrs = vs; carrier = e })
  ticks_reach p zero s t vs c e w r = subst (λ x. Reached x) (λ i. record { sgsn = sym w.0 i; vlrs = vs; carrier = sym w.1 i }) r
  ticks_reach p (suc n) s t vs c e w r =
      let x : View C = record { sgsn = s; vlrs = vs; carrier = c } in
      let owed = and_parts (same_node (owed_by p).node s.own) _ w.0 in
      let fresh = and_parts (not (is_worn s.last)) (is_open_in (sgsn.record_at s (owed_to p))) owed.1 in
      ticks_reach p n (ticked s) t vs w.1.0 e w.1.2 (_, next {c = own_call x Tick} {a = answer.Sgsn (Ok sgsn_answer.Done)} r.1 (tick_step s vs c w.1.0 fresh.0 w.1.1))

  -- a settling by hand
  settling_reaches : (b : Bool) (p : Reply) (r : Result Verdict (Denial × Reply)) (x y : View C) → SettlesAs takes puts b p r x y → Reached x → Reached y
  settling_reaches true p r x y s h = (_, next {c = own_call x (Settle (owed_to p))} {a = settled_by r} h.1 s)
  settling_reaches false p r x y s h = subst Reached (sym s.1) h

  pub in_time : Carries waiting latest takes puts → (p : Reply) (r : Result Verdict (Denial × Reply)) (s t : sgsn.State) (vs : List vlr.State) (c e : C) → SettledInTime puts p r s c t e → (es : Events) → Came waiting takes puts es (record { sgsn = s; vlrs = vs; carrier = c })
      → (fs : Events) × Came waiting takes puts fs (record { sgsn = t; vlrs = vs; carrier = e }) × Law fs (record { sgsn = t; vlrs = vs; carrier = e })
  in_time K p r s t vs c e w es came =
      let x : View C = record { sgsn = w.between; vlrs = vs; carrier = e } in
      let y : View C = record { sgsn = t; vlrs = vs; carrier = e } in
      let here = ticks_reach p w.waited.ticks s w.between vs c e w.waited.waited (es, came) in
      let end = settling_reaches (is_its p x) p r x y (settles takes puts p r x y w.settled refl refl) here in
      (end.0, end.1, law_after waiting latest takes puts K end.0 y end.1)
