-- Each call keeps what stands at a whole site, so that it stands after any calls.
use Rattle.std.proofs.Common.{◌≡◌, ℕ, inl, inr, Bool, true, false, if◌then◌else◌, List, ◌∷◌, ◌++◌, Ok, Err, Some, None, Option, Result, sym, refl, subst}
use Rattle.elements.specs.declared.fault.Fault.{Fault}
use Rattle.elements.specs.declared.node.NodeNumber.{NodeNumber}
use Rattle.elements.specs.declared.node.VlrNumber.{VlrNumber}
use Rattle.frames.specs.declared.frame.Frame.{Frame}
use Rattle.carrier.specs.Order.{Stamps}
use Rattle.station.specs.declared.denial.Denial.{Denial}
use Rattle.station.specs.declared.denial.Denial.TheVariants as denial
use Rattle.station.specs.declared.receiving.Delivery.{Delivery}
use Rattle.station.specs.declared.receiving.Refusal.{Refusal}
use Rattle.station.specs.declared.receiving.Refusal.TheVariants.{Denied}
use Rattle.station.specs.declared.sending.Outgoing.{Outgoing}
use Rattle.station.specs.Calls.{Plan, plan, AtOnce, Taking, course_with, plan_with, unless_worn, by_taken, Done, Does}
use Rattle.station.specs.Receiving.{Received}
use Rattle.station.specs.Sends.{is_worn, Sent}
use Rattle.station.proofs.Questions.{planned, unworn}
use Rattle.sgsn.specs.declared.call.SgsnCall.{SgsnCall}
use Rattle.sgsn.specs.declared.call.SgsnCall.TheVariants as sgsn_call
use Rattle.sgsn.specs.declared.call.SgsnAnswer.{SgsnAnswer}
use Rattle.sgsn.specs.Calls.{call_course as sgsn_course}
use Rattle.sgsn.specs.Delivering as sgsn_deliver
use Rattle.sgsn.specs.State as sgsn
use Rattle.vlr.specs.declared.call.VlrCall.{VlrCall}
use Rattle.vlr.specs.declared.call.VlrCall.TheVariants as vlr_call
use Rattle.vlr.specs.declared.call.VlrAnswer.{VlrAnswer}
use Rattle.vlr.specs.declared.call.VlrAnswer.TheVariants as vlr_answer
use Rattle.vlr.specs.Calls.{call_course as vlr_course}
use Rattle.vlr.specs.Delivering as vlr_deliver
use Rattle.vlr.specs.Recovering as vlr_recover
use Rattle.vlr.specs.State as vlr
use Rattle.vlr.proofs.Granted.{enrol_granted, page_granted}
use Rattle.law.specs.declared.call.Call.{Call}
use Rattle.law.specs.declared.call.Call.TheVariants as call
use Rattle.law.specs.declared.call.Answer.{Answer}
use Rattle.law.specs.Tables.{View}
use Rattle.law.specs.Steps.{is_vlr, is_sgsn, AtSgsn, AtVlr, Step, New, Events, Came}
use Rattle.law.specs.Sound.{Pair}
use Rattle.law.proofs.Premises.{Given, Sends, SgsnMove}
use Rattle.law.proofs.Carried.{After, Carries, sent, readable, took}
use Rattle.law.proofs.Keeping.{Keeps, keeps_frame}
use Rattle.law.proofs.Numbers.{lawful_apart, apart_reordered}
use Rattle.law.proofs.SgsnMoves as sgsn_moves
use Rattle.law.proofs.SgsnPlans.{Shown, enrolled, attached, requested, detached, settles, lost_marks, passed_tick}
use Rattle.law.proofs.VlrMoves as vlr_moves
use Rattle.law.proofs.Whole.{Each, each_map, each_at, Sound, vlrs_differ, given, none_given, sgsn_goes, Goes, vlr_goes}
use Rattle.law.proofs.Started.{started}

module _ {C : Type 0} (waiting : C → List (List ℕ)) (latest : C → Stamps) (takes : C → NodeNumber → Option (List ℕ) → C → Type 0) (puts : C → List ℕ → C → Type 0) (K : Carries waiting latest takes puts) where
  -- what should stand, over this carrier
  abbrev pub Stands : sgsn.State → List vlr.State → C → Type 0
  Stands s vs c = Sound s vs (waiting c) (latest c)

  -- and at this site
  abbrev pub StandsAt : View C → Type 0
  StandsAt x = Stands x.sgsn x.vlrs x.carrier

  -- of the same tables and carrier
  same_site : (s t : sgsn.State) (us vs : List vlr.State) (c d : C) → t ≡ s → vs ≡ us → d ≡ c → Stands s us c → Stands t vs d
  same_site s t us vs c d e f g S = subst (λ (p : sgsn.State × List vlr.State × C). Stands p.0 p.1 p.2) (λ i. (sym e i, sym f i, sym g i)) S

  -- One end, by whose state the site's tables are these, and whose move that sends these frames shows so much.
  module _ {V : Type 0} (own : V → NodeNumber) (last : V → ℕ) (sgsn_at : V → sgsn.State) (vlrs_at : V → List vlr.State)
      (Shows : V → V → List Outgoing → List (List ℕ) → Stamps → Type 0)
      (goes : (s t : V) (os : List Outgoing) (ws : List (List ℕ)) (ls : Stamps) (ws2 : List (List ℕ)) (ls2 : Stamps) → Sound (sgsn_at s) (vlrs_at s) ws ls
      → After (own s) (Sends (own s) (last s) os) ws ls ws2 ls2 → Shows s t os ws ls → Sound (sgsn_at t) (vlrs_at t) ws2 ls2) where
    -- what stands over a carrier
    abbrev Holds : V → C → Type 0
    Holds s c = Stands (sgsn_at s) (vlrs_at s) c

    same_end : (s t : V) (c d : C) → t ≡ s → d ≡ c → Holds s c → Holds t d
    same_end s t c d e g H = subst (λ (p : V × C). Holds p.0 p.1) (λ i. (sym e i, sym g i)) H

    -- after what is planned
    moved : {T : Type 0} (p : Plan T V) (s : V) (c : C) (t : V) (d : C) → Holds s c → Shows s p.after p.sends (waiting c) (latest c) → t ≡ p.after → Sent puts (own s) (last s) p.sends c d → Holds t d
    moved p s c t d H shows e out = same_end p.after t d d e refl
        (goes s p.after p.sends (waiting c) (latest c) (waiting d) (latest d) H (sent waiting latest takes puts K (own s) (last s) p.sends c d out) shows)

    -- after a call that takes nothing
    pub made : {T U E F : Type 0} (f : T → U) (g : E → F) (o : Result (Plan T V) E) (r : Result U F) (s : V) (c : C) (t : V) (d : C) → Holds s c
        → ((p : Plan T V) → o ≡ Ok p → Shows s p.after p.sends (waiting c) (latest c)) → Done own last puts (plan_with f g o) r s c t d → Holds t d
    made f g (Err e) r s c t d H shows D = same_end s t c d D.1 D.2 H
    made f g (Ok p) r s c t d H shows D = moved p s c t d H (shows p refl) D.1 D.2

    module _ {U F : Type 0} (f : Delivery → U) (g : Refusal → F) (by_frame : V → Frame → Plan Delivery V) (r : Result U F) (s : V) (c : C) (t : V) (d : C) (H : Holds s c)
        (shows : (k : Frame) (ws : List (List ℕ)) (ls : Stamps) → Given (own s) k (waiting c) (latest c) ws ls → Shows s (by_frame s k).after (by_frame s k).sends ws ls) where
      -- after a take that gave this
      taken : (m : C) (got : Option (Result Frame Fault)) → Received takes (own s) got c m → Done own last puts (plan_with f g (by_taken by_frame s got)) r s m t d → Holds t d
      taken m None q D = same_end s t m d D.1 (sym D.2.0) (none_given (sgsn_at s) (vlrs_at s) (waiting c) (latest c) H (waiting m) (latest m) (K.leaves c (own s) None m q) (K.moves c (own s) None m q))
      taken m (Some (Err e)) q D = absurd (readable waiting latest takes puts K c (own s) q.0 m e H.spelt q.1 q.2)
      taken m (Some (Ok k)) q D =
          let G = took waiting latest takes puts K c (own s) q.0 m k H.spelt q.1 q.2 in
          moved (by_frame s k) s m t d (given (sgsn_at s) (vlrs_at s) (waiting c) (latest c) H (own s) k (waiting m) (latest m) G) (shows k (waiting m) (latest m) G) D.1 D.2

      -- a worn end takes nothing
      pub delivered : (worn : Bool) → Does own last takes puts (course_with f g (if worn then AtOnce (Err (Denied denial.Worn)) else Taking (by_taken by_frame s))) r s c t d → Holds t d
      delivered true D = same_end s t c d D.1 D.2 H
      delivered false D = taken D.between D.got D.received D.done

  -- the SGSN
  module _ (vs : List vlr.State) where
    abbrev SgsnShows : sgsn.State → sgsn.State → List Outgoing → List (List ℕ) → Stamps → Type 0
    SgsnShows s t os ws ls = Keeps s t × Each (λ v. SgsnMove s t v ws ls (Sends s.own s.last os v.own)) vs

    sgsn_went : (s t : sgsn.State) (os : List Outgoing) (ws : List (List ℕ)) (ls : Stamps) (ws2 : List (List ℕ)) (ls2 : Stamps) → Sound s vs ws ls → After s.own (Sends s.own s.last os) ws ls ws2 ls2 → SgsnShows s t os ws ls → Sound t vs ws2 ls2
    sgsn_went s t os ws ls ws2 ls2 S A D = sgsn_goes s vs ws ls S t (Sends s.own s.last os) ws2 ls2 A D.0 D.1

    module _ (s : sgsn.State) (c : C) (r : Result SgsnAnswer Refusal) (t : sgsn.State) (d : C) (S : Stands s vs c) where
      sgsn_made : {T : Type 0} (f : T → SgsnAnswer) (o : Result (Plan T sgsn.State) Denial) → ((p : Plan T sgsn.State) → o ≡ Ok p → Shown s S.fit p.after p.sends)
          → Done sgsn.own_of sgsn.last_of puts (plan_with f Denied o) r s c t d → Stands t vs d
      sgsn_made f o shown D = made sgsn.own_of sgsn.last_of (λ s. s) (λ s. vs) SgsnShows sgsn_went f Denied o r s c t d S
          (λ p e. let X = shown p e in (X.keeps, each_map vs (λ v P. X.moves v (waiting c) (latest c) P) S.each)) D

      by_sgsn : (k : SgsnCall) → Does sgsn.own_of sgsn.last_of takes puts (sgsn_course k s) r s c t d → Stands t vs d
      by_sgsn (sgsn_call.Enrol i code) D = sgsn_made _ _ (enrolled s S.fit i code) D
      by_sgsn (sgsn_call.Attach i) D = sgsn_made _ _ (attached s S.fit i) D
      by_sgsn (sgsn_call.Request i q) D = sgsn_made _ _ (requested s S.fit i q) D
      by_sgsn (sgsn_call.Detach i code) D = sgsn_made _ _ (detached s S.fit i code) D
      by_sgsn (sgsn_call.Settle i) D = sgsn_made _ _ (settles s S.fit i) D
      by_sgsn sgsn_call.Lose D = sgsn_made _ _ (lost_marks s S.fit) D
      by_sgsn sgsn_call.Tick D = sgsn_made _ _ (passed_tick s S.fit (vlrs_differ s vs _ _ S)) D
      by_sgsn sgsn_call.Deliver D = delivered sgsn.own_of sgsn.last_of (λ s. s) (λ s. vs) SgsnShows sgsn_went _ _ sgsn_deliver.frame_plan r s c t d S
          (λ k ws ls G. (keeps_frame s S.fit k, each_map vs (λ v P. sgsn_moves.taken_moves s v (waiting c) (latest c) S.fit P k ws ls G) S.each)) (is_worn s.last) D

  -- one of the VLRs
  module _ (s : sgsn.State) (earlier later : List vlr.State) where
    abbrev VlrShows : vlr.State → vlr.State → List Outgoing → List (List ℕ) → Stamps → Type 0
    VlrShows v w os ws ls = Goes s v w ws ls (Sends v.own v.last os s.own)

    abbrev Beside : vlr.State → List vlr.State
    Beside v = earlier ++ v ∷ later

    vlr_went : (v w : vlr.State) (os : List Outgoing) (ws : List (List ℕ)) (ls : Stamps) (ws2 : List (List ℕ)) (ls2 : Stamps) → Sound s (Beside v) ws ls → After v.own (Sends v.own v.last os) ws ls ws2 ls2 → VlrShows v w os ws ls → Sound s (Beside w) ws2 ls2
    vlr_went v w os ws ls ws2 ls2 S A G = vlr_goes s earlier v later ws ls S w (Sends v.own v.last os) ws2 ls2 A G

    module _ (v : vlr.State) (c : C) (r : Result VlrAnswer Refusal) (w : vlr.State) (d : C) (S : Stands s (Beside v) c) where
      abbrev ShownBy : Plan Unit vlr.State → Type 0
      ShownBy p = VlrShows v p.after p.sends (waiting c) (latest c)

      vlr_made : (o : Result (Plan Unit vlr.State) Denial) → ((p : Plan Unit vlr.State) → o ≡ Ok p → ShownBy p) → Done vlr.own_of vlr.last_of puts (plan_with (λ u. vlr_answer.Done) Denied o) r v c w d → Stands s (Beside w) d
      vlr_made o shows D = made vlr.own_of vlr.last_of (λ v. s) Beside VlrShows vlr_went (λ u. vlr_answer.Done) Denied o r v c w d S shows D

      -- where only wear denies
      vlr_always : (q : Plan Unit vlr.State) → ShownBy q → (p : Plan Unit vlr.State) → unless_worn v.last (Ok q) ≡ Ok p → ShownBy p
      vlr_always q shown p e = subst ShownBy (planned q p (unworn v.last _ p e)) shown

      by_vlr : (k : VlrCall) → Does vlr.own_of vlr.last_of takes puts (vlr_course k v) r v c w d → Stands s (Beside w) d
      by_vlr (vlr_call.Enrol i cause) D = vlr_made _ (λ p e. subst ShownBy (enrol_granted v i cause p e) (inl (vlr_moves.enrolled_moves s v _ _ i cause))) D
      by_vlr (vlr_call.Page i t ch) D = vlr_made _ (λ p e. subst ShownBy (page_granted v i t ch p e) (inl (vlr_moves.paged_moves s v _ _ i t ch))) D
      by_vlr vlr_call.Lose D = vlr_made _ (vlr_always (plan (vlr_recover.lost v) (vlr_recover.resets v)) (inr (vlr_moves.lost_restarts s v _ _))) D
      by_vlr vlr_call.Tick D = vlr_made _ (vlr_always (plan (vlr_recover.ticked v) (vlr_recover.tick_sends v)) (vlr_moves.ticked_goes s v _ _)) D
      by_vlr vlr_call.Deliver D = delivered vlr.own_of vlr.last_of (λ v. s) Beside VlrShows vlr_went _ _ vlr_deliver.frame_plan r v c w d S
          (λ k ws ls G. inl (vlr_moves.taken_moves s v (waiting c) (latest c) (each_at (λ u. Pair s u (waiting c) (latest c)) earlier v later S.each) k ws ls G)) (is_worn v.last) D

  at_sgsn : (here : Bool) (k : SgsnCall) (a : Answer) (x y : View C) → StandsAt x → AtSgsn takes puts here k a x y → StandsAt y
  at_sgsn true k a x y S D = same_site y.sgsn y.sgsn x.vlrs y.vlrs y.carrier y.carrier refl D.vlrs refl (by_sgsn x.vlrs x.sgsn x.carrier D.result y.sgsn y.carrier S k D.made)
  at_sgsn false k a x y S D = subst StandsAt (sym D.1) S

  at_vlr : (here : Bool) (n : VlrNumber) (k : VlrCall) (a : Answer) (x y : View C) → StandsAt x → AtVlr takes puts here n k a x y → StandsAt y
  at_vlr true n k a x y S D =
      same_site x.sgsn y.sgsn (D.earlier ++ D.after ∷ D.later) y.vlrs y.carrier y.carrier D.sgsn D.stands refl
      (by_vlr x.sgsn D.earlier D.later D.before x.carrier D.result D.after y.carrier (same_site x.sgsn x.sgsn x.vlrs (D.earlier ++ D.before ∷ D.later) x.carrier x.carrier refl (sym D.stood) refl S) k D.made)
  at_vlr false n k a x y S D = subst StandsAt (sym D.1) S

  -- each call
  step : (c : Call) (a : Answer) (x y : View C) → StandsAt x → Step takes puts c a x y → StandsAt y
  step (call.Sgsn n k) a x y S D = at_sgsn (is_sgsn n x) k a x y S D
  step (call.Vlr n k) a x y S D = at_vlr (is_vlr n x.vlrs) n k a x y S D

  -- a new site
  new_site : (x : View C) → New waiting x → StandsAt x
  new_site x N = same_site _ x.sgsn _ x.vlrs x.carrier x.carrier N.sgsn N.vlrs refl (started N.number N.numbers (waiting x.carrier) (latest x.carrier) N.empty (apart_reordered N.number.node N.given N.numbers N.risen.0 (lawful_apart N.number N.given N.lawful)))

  -- what should stand stands after any calls
  pub sound : {es : Events} {x : View C} → Came waiting takes puts es x → StandsAt x
  sound (Came.new {x = x} N) = new_site x N
  sound (Came.next {c = c} {a = a} {x = x} {y = y} h D) = step c a x y (sound h) D
