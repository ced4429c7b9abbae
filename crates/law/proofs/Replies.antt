-- What is owed to the mobiles after any calls, and how long it can still take.
use Rattle.std.proofs.Common.{◌≡◌, ℕ, ◌+◌, ◌≤◌, Bool, true, false, cond, if◌then◌else◌, not, ◌&&◌, List, [], ◌∷◌, is_some, Some, None, Ok, Err, Option, Result, refl, sym, ap, ◌∙◌, subst, arith}
use Rattle.std.specs.List.{count_by}
use Rattle.std.proofs.lemmas.Bool.{true≢false, and_right, not-true, cond-true, cond-false}
use Rattle.std.proofs.lemmas.Bool.Decides.{nat_tests}
use Rattle.imsi.specs.declared.Imsi.{Imsi}
use Rattle.elements.specs.declared.fault.Fault.{Fault}
use Rattle.elements.specs.declared.node.NodeNumber.{NodeNumber}
use Rattle.elements.specs.declared.node.SgsnNumber.{SgsnNumber}
use Rattle.elements.specs.declared.node.VlrNumber.{VlrNumber}
use Rattle.elements.specs.Nodes.{same_node}
use Rattle.messages.specs.declared.message.Message.{Message}
use Rattle.messages.specs.declared.message.Message.TheVariants.{Paging, Reset, ResetAcknowledge}
use Rattle.frames.specs.declared.frame.Frame.{Frame}
use Rattle.directory.specs.Lookup.{at, stored}
use Rattle.directory.specs.Order.{same}
use Rattle.directory.proofs.Lookups.{at-whose}
use Rattle.station.specs.declared.denial.Denial.{Denial}
use Rattle.station.specs.declared.receiving.Delivery.{Delivery}
use Rattle.station.specs.declared.receiving.Refusal.{Refusal}
use Rattle.station.specs.declared.denial.Denial.TheVariants as denial
use Rattle.station.specs.declared.receiving.Refusal.TheVariants.{Denied}
use Rattle.station.specs.Calls.{Plan, plan, AtOnce, Taking, plan_with, course_with, by_taken, Done, Does}
use Rattle.station.proofs.Questions.{planned, unworn}
use Rattle.messages.specs.Mobiles.{mobile_of}
use Rattle.station.specs.Sends.{is_worn}
use Rattle.context.specs.declared.class.ServiceClass.{ServiceClass}
use Rattle.context.specs.declared.context.Context.{Context}
use Rattle.context.specs.declared.errand.Errand.{Errand}
use Rattle.context.specs.declared.errand.Errand.TheVariants as errand
use Rattle.context.specs.declared.errand.Open.{Open}
use Rattle.context.specs.declared.errand.Verdict.{Verdict}
use Rattle.context.specs.declared.kind.Request.{Request}
use Rattle.context.specs.Answering.{answered}
use Rattle.context.specs.Contexts.{whose, doubtful, doubtful_at, new_context, attached_now}
use Rattle.context.specs.Detaching as detach
use Rattle.context.specs.Errands.{is_open, owes}
use Rattle.context.specs.Paging as page
use Rattle.context.specs.Requesting as request
use Rattle.sgsn.specs.declared.peer.Peer.{Peer}
use Rattle.sgsn.specs.Delivering as deliver
use Rattle.sgsn.specs.Detaching.{detach_plan}
use Rattle.sgsn.specs.Enrolling.{enrol_plan, attach_plan}
use Rattle.sgsn.specs.Peers.{peer_from}
use Rattle.sgsn.specs.Recovering as recovering
use Rattle.sgsn.specs.Requesting.{request_plan}
use Rattle.sgsn.specs.Settling.{settle_plan}
use Rattle.sgsn.specs.Calls.{call_course}
use Rattle.sgsn.specs.declared.call.SgsnCall.{SgsnCall}
use Rattle.sgsn.specs.declared.call.SgsnCall.TheVariants as sgsn_call
use Rattle.sgsn.specs.declared.call.SgsnAnswer.{SgsnAnswer}
use Rattle.sgsn.specs.State as sgsn
use Rattle.sgsn.proofs.Granted.{enrol_granted, attach_granted, request_granted, detach_granted, settle_granted}
use Rattle.sgsn.proofs.Keeps.{answered_whose, paged_whose, doubtful_whose}
use Rattle.sgsn.proofs.Moves.{requested_whose, detached_whose, settled, settled_whose}
use Rattle.vlr.specs.declared.call.VlrCall.{VlrCall}
use Rattle.law.specs.declared.call.Call.{Call}
use Rattle.law.specs.declared.call.Call.TheVariants as call
use Rattle.law.specs.declared.call.Answer.{Answer}
use Rattle.law.specs.declared.call.Answer.TheVariants as answer
use Rattle.law.specs.Counts.{accepted, accepted_calls, asks, asks_at, settles, settles_at, is_of, ticks, ticks_at, owes_reply, ticks_since}
use Rattle.law.specs.Laws.{Balanced, Owed, Timely, owing}
use Rattle.law.specs.Steps.Came.{new, next}
use Rattle.law.specs.Steps.{Events, Step, Came, Nowhere, AtSgsn, AtVlr, is_vlr, is_sgsn}
use Rattle.law.specs.Tables.{View, errand_in, errand_of}
use Rattle.law.proofs.Owing.{InTime, Stays, stays_same, one, errand_after, owing_after, Kept, kept_same, kept_map, kept_stored, answered_stays, paged_errand, doubtful_errand, requested_owes, requested_left, detached_owes, detached_left, settled_owes, ticked_owed, ticked_time}
use Rattle.law.proofs.OneRecord.{noted_at}

-- after these calls, replies are owed as they say, and each has its verdict in time
pub record Replies (es : Events) (s : sgsn.State) : Type 0 where
  pub balanced : Balanced es s
  pub owed : Owed es s
  pub left : (m : Imsi) (o : Open) → errand_of s m ≡ errand.Open o → InTime (ticks_since s.own m es) o

timely_for : (t : ℕ) (e : Errand) → ((o : Open) → e ≡ errand.Open o → InTime t o) → 32 ≤ t → is_open e ≡ false
timely_for t errand.Idle left late = refl
timely_for t (errand.Open o) left late = let l = left o refl in absurd (omega arith)
timely_for t (errand.Ended v) left late = refl

pub timely : (es : Events) (s : sgsn.State) → Replies es s → Timely es s
timely es s R m owed late = timely_for (ticks_since s.own m es) (errand_of s m) (R.left m) late

pub replies_new : (s : sgsn.State) → s.records ≡ [] → Replies [] s
replies_new s e =
    let nothing : owing s ≡ 0 = ap (λ rs. count_by (λ r. owes r.errand) rs) e in
    record {
      balanced = omega arith;
      owed = λ m. ap (λ rs. owes (errand_in (at whose rs m))) e;
      left = λ m o q.
          let clash : errand.Idle ≡ errand.Open o = ap (λ rs. errand_in (at whose rs m)) (sym e) ∙ q in
          absurd (cc);
    }

between : (x y z : Bool) → (x && z) ≡ false → (x && (y && z)) ≡ false
between x y z e = grind (arith, nat_tests)

and_true : (b : Bool) → (b && true) ≡ b
and_true true = refl
and_true false = refl

module _ (c : Call) (a : Answer) (es : Events) where
  -- a call that counts for nothing
  quiet : (s t : sgsn.State) → (asks c && accepted a) ≡ false → (settles c && accepted a) ≡ false → (ticks s.own c && accepted a) ≡ false → Kept s t → Replies es s → Replies ((c, a) ∷ es) t
  quiet s t ask settle tick K R =
      let none : (m : Imsi) → (asks c && (is_of m c && accepted a)) ≡ false = λ m. between (asks c) (is_of m c) (accepted a) ask in
      record {
        balanced = omega (arith, cond-false (asks c && accepted a) (1 + accepted_calls asks es) (accepted_calls asks es) ask, cond-false (settles c && accepted a) (1 + accepted_calls settles es) (accepted_calls settles es) settle, K.count, R.balanced);
        owed = λ m. (K.stays m).0 ∙ R.owed m ∙ sym (cond-false _ _ _ (none m) ∙ cond-false _ _ _ (between (settles c) (is_of m c) (accepted a) settle));
        left = λ m o e.
            let since : ticks_since t.own m ((c, a) ∷ es) ≡ ticks_since s.own m es = ap (λ n. ticks_since n m ((c, a) ∷ es)) K.own ∙ cond-false _ _ _ (none m) ∙ cond-false _ _ _ tick in
            subst (λ n. InTime n o) (sym since) (R.left m o ((K.stays m).1 o e));
      }

  -- a call that was denied
  denied : (s t : sgsn.State) → accepted a ≡ false → t ≡ s → Replies es s → Replies ((c, a) ∷ es) t
  denied s t refused still R =
      subst (λ u. Replies ((c, a) ∷ es) u) (sym still) (quiet s s (and_right (asks c) (accepted a) refused) (and_right (settles c) (accepted a) refused) (and_right (ticks s.own c) (accepted a) refused) (kept_same s s refl refl) R)

  -- a request or a detach that was accepted
  asked : (s t : sgsn.State) (i : Imsi) (r : Context) → asks c ≡ true → settles c ≡ false → ((n : NodeNumber) → ticks n c ≡ false) → ((m : Imsi) → is_of m c ≡ same m i) → accepted a ≡ true
      → whose r ≡ i → owes (errand_of s i) ≡ false → owes r.errand ≡ true → ((o : Open) → r.errand ≡ errand.Open o → InTime 0 o)
      → t.own ≡ s.own → t.records ≡ stored whose r s.records → Replies es s → Replies ((c, a) ∷ es) t
  asked s t i r ask settle tick of made its free now left own e R =
      let here : (m : Imsi) → (asks c && (is_of m c && accepted a)) ≡ same m i = λ m. (λ x. ask x && (of m x && made x)) ∙ and_true (same m i) in
      record {
        balanced = omega (
          arith,
          cond-true (asks c && accepted a) (1 + accepted_calls asks es) (accepted_calls asks es) (λ x. ask x && made x),
          cond-false (settles c && accepted a) (1 + accepted_calls settles es) (accepted_calls settles es) (λ x. settle x && made x),
          owing_after s t i r its e,
          ap one free,
          ap one now,
          R.balanced,
        );
        owed = λ m. ap owes (errand_after s t i r its e m) ∙ owed_by m (same m i)
            ∙ sym (λ x. cond (here m x) true (cond (settle x && (is_of m c && accepted a)) false (owes_reply m es)));
        left = λ m o q.
            let since : ticks_since t.own m ((c, a) ∷ es) ≡ cond (same m i) 0 (ticks_since s.own m es) =
            ap (λ n. ticks_since n m ((c, a) ∷ es)) own ∙ (λ x. cond (here m x) 0 (cond (tick s.own x && accepted a) (1 + ticks_since s.own m es) (ticks_since s.own m es))) in
            subst (λ n. InTime n o) (sym since) (left_by m (same m i) o (sym (errand_after s t i r its e m) ∙ q));
      }
    where
      owed_by : (m : Imsi) (b : Bool) → owes (cond b r.errand (errand_of s m)) ≡ cond b true (owes_reply m es)
      owed_by m true = now
      owed_by m false = R.owed m

      left_by : (m : Imsi) (b : Bool) (o : Open) → cond b r.errand (errand_of s m) ≡ errand.Open o → InTime (cond b 0 (ticks_since s.own m es)) o
      left_by m true o q = left o q
      left_by m false o q = R.left m o q

-- a call of the SGSN that is no tick counts for none
no_tick : (s : sgsn.State) (n : SgsnNumber) (k : SgsnCall) (a : Answer) → ticks_at k ≡ false → (ticks s.own (call.Sgsn n k) && accepted a) ≡ false
no_tick s n k a e = ap (λ b. b && accepted a) (and_right (same_node s.own n.node) (ticks_at k) e)

-- a reply that was settled
settled_one : (n : SgsnNumber) (i : Imsi) (a : Answer) (es : Events) (s t : sgsn.State) (r : Context) → accepted a ≡ true → whose r ≡ i → owes (errand_of s i) ≡ true → owes r.errand ≡ false → t.own ≡ s.own → t.records ≡ stored whose r s.records → Replies es s → Replies ((call.Sgsn n (sgsn_call.Settle i), a) ∷ es) t
settled_one n i a es s t r made its owed now own e R = record {
  balanced = omega (arith, cond-true (accepted a) (1 + accepted_calls settles es) (accepted_calls settles es) made, owing_after s t i r its e, ap one owed, ap one now, R.balanced);
  owed = λ m. ap owes (errand_after s t i r its e m) ∙ owed_by m (same m i) ∙ sym (ap (λ b. cond b false (owes_reply m es)) ((λ x. same m i && made x) ∙ and_true (same m i)));
  left = λ m o q.
      let since : ticks_since t.own m ((call.Sgsn n (sgsn_call.Settle i), a) ∷ es) ≡ ticks_since s.own m es =
      ap (λ k. ticks_since k m ((call.Sgsn n (sgsn_call.Settle i), a) ∷ es)) own ∙ cond-false _ _ _ (no_tick s n (sgsn_call.Settle i) a refl) in
      subst (λ n. InTime n o) (sym since) (left_by m (same m i) o (sym (errand_after s t i r its e m) ∙ q));
}
  where
    owed_by : (m : Imsi) (b : Bool) → owes (cond b r.errand (errand_of s m)) ≡ cond b false (owes_reply m es)
    owed_by m true = now
    owed_by m false = R.owed m

    left_by : (m : Imsi) (b : Bool) (o : Open) → cond b r.errand (errand_of s m) ≡ errand.Open o → InTime (ticks_since s.own m es) o
    left_by m true o q = absurd (true≢false (sym (ap owes q) ∙ now))
    left_by m false o q = R.left m o q

-- a tick of the SGSN
ticked_one : (n : SgsnNumber) (a : Answer) (es : Events) (s : sgsn.State) → same_node s.own n.node ≡ true → accepted a ≡ true → Replies es s → Replies ((call.Sgsn n sgsn_call.Tick, a) ∷ es) (recovering.ticked s)
ticked_one n a es s own made R = record {
  balanced = omega (arith, ticked_owed s, R.balanced);
  owed = λ m. (ticked_time s m 0).0 ∙ R.owed m;
  left = λ m o q.
      let since : ticks_since s.own m ((call.Sgsn n sgsn_call.Tick, a) ∷ es) ≡ 1 + ticks_since s.own m es = cond-true _ _ _ (λ x. (own x && true) && made x) in
      subst (λ k. InTime k o) (sym since) ((ticked_time s m (ticks_since s.own m es)).1 (R.left m) o q);
}

-- What each call of the SGSN makes.
enrolled_kept : (s : sgsn.State) (i : Imsi) (c : ServiceClass) (x : Option Context) → at whose s.records i ≡ x → not (is_some x) ≡ true → Kept s (sgsn.with_context s (new_context i c))
enrolled_kept s i c None e f = kept_stored s _ i (new_context i c) refl (stays_same (errand_of s i) errand.Idle (sym (ap errand_in e))) refl refl
enrolled_kept s i c (Some r) e f = absurd (true≢false (sym f))

attached_kept : (s : sgsn.State) (i : Imsi) (r : Context) → at whose s.records i ≡ Some r → Kept s (sgsn.with_context s (attached_now r))
attached_kept s i r e = kept_stored s _ i (attached_now r) (at-whose whose s.records i r e) (stays_same (errand_of s i) r.errand (sym (ap errand_in e))) refl refl

lost_kept : (s : sgsn.State) → Kept s (recovering.lost s)
lost_kept s = kept_map s (recovering.lost s) doubtful (λ r. refl) (λ r. refl) refl refl

module _ (s : sgsn.State) (n : SgsnNumber) (i : Imsi) (a : Answer) (es : Events) (made : accepted a ≡ true) (R : Replies es s) where
  requested_replies : (q : Request) (p : Plan Unit sgsn.State) → request_plan s i q ≡ Ok p → Replies ((call.Sgsn n (sgsn_call.Request i q), a) ∷ es) p.after
  requested_replies q p e =
      let G = request_granted s i q p e in
      let k = s.last + 1 in
      subst (λ u. Replies ((call.Sgsn n (sgsn_call.Request i q), a) ∷ es) u.after) G.plan
      (asked (call.Sgsn n (sgsn_call.Request i q)) a es s _ i (request.requested G.kind G.class q k G.context).0 refl refl (λ m. and_right (same_node m n.node) false refl) (λ m. refl) made (requested_whose G.kind G.class q k G.context ∙ at-whose whose s.records i G.context G.stands)
      (ap (λ x. owes (errand_in x)) G.stands ∙ not-true _ G.free) (requested_owes G.kind G.class q k G.context) (requested_left G.kind G.class q k G.context) refl refl R)

  detached_replies : (code : ℕ) (p : Plan Unit sgsn.State) → detach_plan s i code ≡ Ok p → Replies ((call.Sgsn n (sgsn_call.Detach i code), a) ∷ es) p.after
  detached_replies code p e =
      let G = detach_granted s i code p e in
      let k = s.last + 1 in
      subst (λ u. Replies ((call.Sgsn n (sgsn_call.Detach i code), a) ∷ es) u.after) G.plan
      (asked (call.Sgsn n (sgsn_call.Detach i code)) a es s _ i (detach.detached G.kind k G.context).0 refl refl (λ m. and_right (same_node m n.node) false refl) (λ m. refl) made (detached_whose G.kind k G.context ∙ at-whose whose s.records i G.context G.stands)
      (ap (λ x. owes (errand_in x)) G.stands ∙ not-true _ G.free) (detached_owes G.kind k G.context) (detached_left G.kind k G.context) refl refl R)

  settled_replies : (p : Plan Verdict sgsn.State) → settle_plan s i ≡ Ok p → Replies ((call.Sgsn n (sgsn_call.Settle i), a) ∷ es) p.after
  settled_replies p e =
      let G = settle_granted s i p e in
      subst (Replies ((call.Sgsn n (sgsn_call.Settle i), a) ∷ es)) G.after
      (settled_one n i a es s _ (settled G.context) made (settled_whose G.context ∙ at-whose whose s.records i G.context G.stands) (ap (λ x. owes (errand_in x)) G.stands ∙ G.owed) (settled_owes G.context) refl refl R)

-- what a frame makes
paged_kept : (s : sgsn.State) (f : Frame) (p : Peer) (i : Imsi) (x : Option Context) → at whose s.records i ≡ x → Kept s (deliver.paged_by s f p x).after
paged_kept s f p i None e = kept_same s s refl refl
paged_kept s f p i (Some r) e = kept_stored s _ i (page.paged p.vlr f.stamp r).0 (paged_whose p.vlr f.stamp r ∙ at-whose whose s.records i r e) (stays_same (errand_of s i) _ (paged_errand p.vlr f.stamp r ∙ sym (ap errand_in e))) refl refl

answered_kept : (s : sgsn.State) (f : Frame) (p : Peer) (k : Message) (x : Option Context) → deliver.noted s k ≡ x → Kept s (deliver.answered_by s f p x)
answered_kept s f p k None e = kept_same s s refl refl
answered_kept s f p k (Some r) e =
    let found = noted_at s (mobile_of k) r e in
    let i = found.0 in
    let after = answered p.vlr f.answers p.row.reset f.message r in
    kept_stored s _ i after (answered_whose p.vlr f.answers p.row.reset f.message r ∙ at-whose whose s.records i r found.1)
    (subst (λ x. Stays x after.errand) (sym (ap errand_in found.1)) (answered_stays p.vlr f.answers p.row.reset f.message r)) refl refl

taken_kept : (s : sgsn.State) (f : Frame) (p : Peer) (k : Message) → Kept s (deliver.taken_by s f p k).after
taken_kept s f p (Reset e) = kept_map s _ (doubtful_at p.vlr) (doubtful_whose p.vlr) (doubtful_errand p.vlr) refl refl
taken_kept s f p (ResetAcknowledge e) = kept_same s _ refl refl
taken_kept s f p (Paging i t c) = paged_kept s f p i _ refl
taken_kept s f p k = answered_kept s f p k _ refl

moved_kept : (s : sgsn.State) (f : Frame) (p : Option Peer) → Kept s (deliver.taken s f p).after
moved_kept s f None = kept_same s s refl refl
moved_kept s f (Some p) = taken_kept s f p f.message

kept_still : (s t : sgsn.State) → t ≡ s → Kept s t
kept_still s t e = kept_same s t (ap (λ u. u.own) e) (ap (λ u. u.records) e)

-- What each call makes, at the SGSN s over a carrier.
module _ {C : Type 0} (takes : C → NodeNumber → Option (List ℕ) → C → Type 0) (puts : C → List ℕ → C → Type 0) where
  module _ (es : Events) (s : sgsn.State) (c : C) (r : Result SgsnAnswer Refusal) (t : sgsn.State) (d : C) (R : Replies es s) where
    -- a call that takes nothing
    made : {T : Type 0} (k : Call) (f : T → SgsnAnswer) (o : Result (Plan T sgsn.State) Denial) → ((p : Plan T sgsn.State) → o ≡ Ok p → accepted (answer.Sgsn r) ≡ true → Replies ((k, answer.Sgsn r) ∷ es) p.after)
        → Done sgsn.own_of sgsn.last_of puts (plan_with f Denied o) r s c t d → Replies ((k, answer.Sgsn r) ∷ es) t
    made k f (Err e) replies D = denied k (answer.Sgsn r) es s t (ap (λ x. accepted (answer.Sgsn x)) D.0) D.1 R
    made k f (Ok p) replies D = subst (λ u. Replies ((k, answer.Sgsn r) ∷ es) u) (sym D.1) (replies p refl (ap (λ x. accepted (answer.Sgsn x)) D.0))

    -- what was taken
    got_kept : {U F : Type 0} (f : Delivery → U) (g : Refusal → F) (q : Result U F) (m : C) (got : Option (Result Frame Fault)) → Done sgsn.own_of sgsn.last_of puts (plan_with f g (by_taken deliver.frame_plan s got)) q s m t d → Kept s t
    got_kept f g q m None D = kept_still s t D.1
    got_kept f g q m (Some (Err e)) D = kept_still s t D.1
    got_kept f g q m (Some (Ok k)) D = subst (λ u. Kept s u) (sym D.1) (moved_kept s k (peer_from k s.peers))

    delivered_kept : {U F : Type 0} (f : Delivery → U) (g : Refusal → F) (q : Result U F) (worn : Bool) → Does sgsn.own_of sgsn.last_of takes puts (course_with f g (if worn then AtOnce (Err (Denied denial.Worn)) else Taking (by_taken deliver.frame_plan s))) q s c t d → Kept s t
    delivered_kept f g q true D = kept_still s t D.1
    delivered_kept f g q false D = got_kept f g q D.between D.got D.done

    -- a call that asks for nothing and settles nothing, and is no tick
    unasked : (n : SgsnNumber) (k : SgsnCall) (a : Answer) → asks_at k ≡ false → settles_at k ≡ false → ticks_at k ≡ false → (u : sgsn.State) → Kept s u → Replies ((call.Sgsn n k, a) ∷ es) u
    unasked n k a ask settle tick u K = quiet (call.Sgsn n k) a es s u (ap (λ b. b && accepted a) ask) (ap (λ b. b && accepted a) settle) (no_tick s n k a tick) K R

    by_sgsn : (n : SgsnNumber) (k : SgsnCall) → same_node s.own n.node ≡ true → Does sgsn.own_of sgsn.last_of takes puts (call_course k s) r s c t d → Replies ((call.Sgsn n k, answer.Sgsn r) ∷ es) t
    by_sgsn n (sgsn_call.Enrol i code) here D = made _ _ (enrol_plan s i code) (λ p e ok.
        let G = enrol_granted s i code p e in
        unasked n (sgsn_call.Enrol i code) _ refl refl refl p.after (subst (λ u. Kept s u.after) G.plan (enrolled_kept s i G.class (sgsn.record_at s i) refl G.unknown))) D
    by_sgsn n (sgsn_call.Attach i) here D = made _ _ (attach_plan s i) (λ p e ok.
        let G = attach_granted s i p e in
        unasked n (sgsn_call.Attach i) _ refl refl refl p.after (subst (λ u. Kept s u.after) G.plan (attached_kept s i G.context G.stands))) D
    by_sgsn n (sgsn_call.Request i q) here D = made _ _ _ (λ p e ok. requested_replies s n i _ es ok R q p e) D
    by_sgsn n (sgsn_call.Detach i code) here D = made _ _ _ (λ p e ok. detached_replies s n i _ es ok R code p e) D
    by_sgsn n (sgsn_call.Settle i) here D = made _ _ _ (λ p e ok. settled_replies s n i _ es ok R p e) D
    by_sgsn n sgsn_call.Lose here D = made _ _ (recovering.lose_plan s) (λ p e ok.
        unasked n sgsn_call.Lose _ refl refl refl p.after (subst (λ u. Kept s u.after) (planned (plan (recovering.lost s) (recovering.resets s)) p (unworn s.last _ p e)) (lost_kept s))) D
    by_sgsn n sgsn_call.Tick here D = made _ _ (recovering.tick_plan s) (λ p e ok.
        subst (λ u. Replies ((call.Sgsn n sgsn_call.Tick, answer.Sgsn r) ∷ es) u.after) (planned (plan (recovering.ticked s) (recovering.tick_sends s)) p (unworn s.last _ p e)) (ticked_one n _ es s here ok R)) D
    by_sgsn n sgsn_call.Deliver here D = unasked n sgsn_call.Deliver _ refl refl refl t (delivered_kept _ _ r (is_worn s.last) D)

  -- no such node is here
  nowhere : (k : Call) (a : Answer) (es : Events) (x y : View C) → Nowhere a x y → Replies es x.sgsn → Replies ((k, a) ∷ es) y.sgsn
  nowhere k a es x y D R = denied k a es x.sgsn y.sgsn (ap accepted D.0) (ap (λ z. z.sgsn) D.1) R

  at_sgsn : (n : SgsnNumber) (here : Bool) (k : SgsnCall) (a : Answer) (es : Events) (x y : View C) → is_sgsn n x ≡ here → AtSgsn takes puts here k a x y → Replies es x.sgsn → Replies ((call.Sgsn n k, a) ∷ es) y.sgsn
  at_sgsn n true k a es x y e D R = subst (λ b. Replies ((call.Sgsn n k, b) ∷ es) y.sgsn) (sym D.answered) (by_sgsn es x.sgsn x.carrier D.result y.sgsn y.carrier R n k e D.made)
  at_sgsn n false k a es x y e D R = nowhere (call.Sgsn n k) a es x y D R

  -- a call of a VLR leaves the SGSN
  at_vlr : (n : VlrNumber) (here : Bool) (k : VlrCall) (a : Answer) (es : Events) (x y : View C) → AtVlr takes puts here n k a x y → Replies es x.sgsn → Replies ((call.Vlr n k, a) ∷ es) y.sgsn
  at_vlr n true k a es x y D R = quiet (call.Vlr n k) a es x.sgsn y.sgsn refl refl refl (kept_still x.sgsn y.sgsn D.sgsn) R
  at_vlr n false k a es x y D R = nowhere (call.Vlr n k) a es x y D R

  pub replies_step : (k : Call) (a : Answer) (es : Events) (x y : View C) → Step takes puts k a x y → Replies es x.sgsn → Replies ((k, a) ∷ es) y.sgsn
  replies_step (call.Sgsn n k) a es x y S R = at_sgsn n (is_sgsn n x) k a es x y refl S R
  replies_step (call.Vlr n k) a es x y S R = at_vlr n (is_vlr n x.vlrs) k a es x y S R

  pub replies : (waiting : C → List (List ℕ)) (es : Events) (x : View C) → Came waiting takes puts es x → Replies es x.sgsn
  replies waiting [] x (new N) = replies_new x.sgsn (ap (λ u. u.records) N.sgsn)
  replies waiting ((k, a) ∷ es) x (next {x = before} came S) = replies_step k a es before x S (replies waiting es before came)
