-- Each call of an SGSN that is not denied keeps what the SGSN is to keep, and shows each VLR what it must.
use Rattle.std.proofs.Common.{◌≡◌, ℕ, ◌+◌, true, List, [], Ok, refl, subst, arith}
use Rattle.std.proofs.lemmas.Option.{none-some}
use Rattle.imsi.specs.declared.Imsi.{Imsi}
use Rattle.carrier.specs.Order.{Stamps}
use Rattle.station.specs.declared.sending.Outgoing.{Outgoing}
use Rattle.station.specs.Calls.{Plan, plan}
use Rattle.station.specs.Marks.{node_in}
use Rattle.station.proofs.Questions.{planned, unworn}
use Rattle.context.specs.declared.context.Context.{Context}
use Rattle.context.specs.declared.errand.Errand.{Errand}
use Rattle.context.specs.declared.errand.Errand.TheVariants as errand
use Rattle.context.specs.declared.errand.Verdict.{Verdict}
use Rattle.context.specs.declared.kind.Request.{Request}
use Rattle.context.specs.Contexts.{new_context, attached_now}
use Rattle.context.specs.Requesting as request
use Rattle.sgsn.specs.Enrolling.{enrol_plan, attach_plan}
use Rattle.sgsn.specs.Requesting.{request_plan}
use Rattle.sgsn.specs.Detaching.{detach_plan}
use Rattle.sgsn.specs.Settling.{settle_plan}
use Rattle.sgsn.specs.Recovering.{lost, resets, ticked, tick_sends, lose_plan, tick_plan}
use Rattle.sgsn.specs.Making.{all_different}
use Rattle.sgsn.specs.State.{State, vlrs_of}
use Rattle.sgsn.proofs.Fits.{fits_new, fits_attached, fits_requested, fits_detached, fits_settled}
use Rattle.sgsn.proofs.Granted.{enrol_granted, attach_granted, request_granted, detach_granted, settle_granted}
use Rattle.sgsn.proofs.Moves.{settled_errand, settled}
use Rattle.vlr.specs.State as vlr
use Rattle.law.specs.Sound.{Pair}
use Rattle.law.proofs.Premises.{Fit, Sends, SgsnMove}
use Rattle.law.proofs.Keeping.{Keeps, stores, held, keeps_lost, keeps_ticked}
use Rattle.law.proofs.Quieter.{Quieter, none_unsure}
use Rattle.law.proofs.OneRecord.{none_sent, quiet, stored_quieter}
use Rattle.law.proofs.Asks.{requests, detaches}
use Rattle.law.proofs.SgsnMoves.{lost_moves, ticked_moves}

-- nothing is asked any more
quieter_settled : (r : Context) (e : Errand) → Quieter r (settled_errand e r)
quieter_settled r (errand.Open o) = record { mobile = refl; sure = λ n h. h; asking = λ a n h. absurd (none-some n h) }
quieter_settled r e = record { mobile = refl; sure = λ n h. h; asking = λ a n h. absurd (none-some n h) }

module _ (s : State) (F : Fit s) where
  -- what a move to t that sends these keeps and shows
  pub record Shown (t : State) (os : List Outgoing) : Type 0 where
    pub keeps : Keeps s t
    pub moves : (v : vlr.State) (ws : List (List ℕ)) (ls : Stamps) → Pair s v ws ls → SgsnMove s t v ws ls (Sends s.own s.last os v.own)

  abbrev ShownBy : Plan Unit State → Type 0
  ShownBy p = Shown p.after p.sends

  pub enrolled : (i : Imsi) (code : ℕ) (p : Plan Unit State) → enrol_plan s i code ≡ Ok p → Shown p.after p.sends
  enrolled i code p e =
      let G = enrol_granted s i code p e in
      let r = new_context i G.class in
      subst ShownBy G.plan (record {
        keeps = stores s F s.last r (fits_new (vlrs_of s) i G.class G.lawful);
        moves = λ v ws ls P. stored_quieter s v ws ls P.reset_before s.last r [] (omega arith) (record { sure = λ n h. absurd (none_unsure n h); asking = λ a n h. absurd (none-some n h) }) none_sent;
      })

  pub attached : (i : Imsi) (p : Plan Unit State) → attach_plan s i ≡ Ok p → Shown p.after p.sends
  attached i p e =
      let G = attach_granted s i p e in
      let r = G.context in
      subst ShownBy G.plan (record {
        keeps = stores s F s.last (attached_now r) (fits_attached (vlrs_of s) r (held s F i r G.stands));
        moves = λ v ws ls P. quiet s v ws ls P.reset_before s.last i r (attached_now r) [] (omega arith) G.stands (record { mobile = refl; sure = λ n h. h; asking = λ a n h. h }) none_sent;
      })

  pub requested : (i : Imsi) (q : Request) (p : Plan Unit State) → request_plan s i q ≡ Ok p → Shown p.after p.sends
  requested i q p e =
      let G = request_granted s i q p e in
      subst ShownBy G.plan (record {
        keeps = stores s F _ _ (fits_requested (vlrs_of s) G.kind G.class q (s.last + 1) G.context (held s F i G.context G.stands) G.voice G.its_vlr G.attached);
        moves = λ v ws ls P. requests s v ws ls P.reset_before i G.context q G.kind (request.needs_no_frame G.kind q G.context) G.class G.stands;
      })

  pub detached : (i : Imsi) (code : ℕ) (p : Plan Unit State) → detach_plan s i code ≡ Ok p → Shown p.after p.sends
  detached i code p e =
      let G = detach_granted s i code p e in
      subst ShownBy G.plan (record {
        keeps = stores s F _ _ (fits_detached (vlrs_of s) G.kind (s.last + 1) G.context (held s F i G.context G.stands));
        moves = λ v ws ls P. detaches s v ws ls P.reset_before i G.context G.stands G.kind (node_in G.context.mark);
      })

  pub settles : (i : Imsi) (p : Plan Verdict State) → settle_plan s i ≡ Ok p → Shown p.after p.sends
  settles i p e =
      let G = settle_granted s i p e in
      let r = G.context in
      subst (λ (x : State × List Outgoing). Shown x.0 x.1) (λ k. (G.after k, G.sends k)) (record {
        keeps = stores s F s.last (settled r) (fits_settled (vlrs_of s) r (held s F i r G.stands));
        moves = λ v ws ls P. quiet s v ws ls P.reset_before s.last i r (settled r) [] (omega arith) G.stands (quieter_settled r r.errand) none_sent;
      })

  pub lost_marks : (p : Plan Unit State) → lose_plan s ≡ Ok p → Shown p.after p.sends
  lost_marks p e =
      subst ShownBy (planned (plan (lost s) (resets s)) p (unworn s.last _ p e)) (record { keeps = keeps_lost s F; moves = λ v ws ls P. lost_moves s v ws ls F P })

  pub passed_tick : all_different (vlrs_of s) ≡ true → (p : Plan Unit State) → tick_plan s ≡ Ok p → Shown p.after p.sends
  passed_tick differ p e =
      subst ShownBy (planned (plan (ticked s) (tick_sends s)) p (unworn s.last _ p e)) (record { keeps = keeps_ticked s F; moves = λ v ws ls P. ticked_moves s v ws ls F P differ })
