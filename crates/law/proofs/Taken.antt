-- A frame that an SGSN took.
use Rattle.std.proofs.Common.{◌≡◌, ℕ, ◌+◌, ◌<◌, ◌≤◌, ◌⊎◌, inl, inr, Bool, true, false, not, cond, ◌&&◌, ◌==◌, nat_lt, is_some, List, [], map, Some, None, Option, refl, sym, ap, ◌∙◌, subst, ⊎_elim, arith}
use Rattle.std.proofs.lemmas.Bool.{true≢false, not-true, cases_Bool, cond-true, cond_both, and_parts, ltb-true, eqb-true}
use Rattle.std.proofs.lemmas.Bool.Decides.{nat_tests}
use Rattle.std.proofs.lemmas.Option.{none-some, same_Some}
use Rattle.imsi.specs.declared.Imsi.{Imsi}
use Rattle.elements.specs.declared.area.LocationArea.{LocationArea}
use Rattle.elements.specs.declared.code.Cause.TheVariants as cause
use Rattle.elements.specs.declared.code.RejectCause.{RejectCause}
use Rattle.elements.specs.declared.node.VlrNumber.{VlrNumber}
use Rattle.elements.specs.Nodes.{same_node}
use Rattle.messages.specs.declared.message.Message.{Message}
use Rattle.messages.specs.declared.message.Message.TheVariants.{Paging, MobileStatus, LuAccept, LuReject, Reset, ResetAcknowledge, GprsDetachAcknowledge, ImsiDetachAcknowledge}
use Rattle.frames.specs.declared.frame.Frame.{Frame}
use Rattle.carrier.specs.Nodes.{same_node_lem, own_node}
use Rattle.carrier.specs.Order.{Stamps}
use Rattle.directory.proofs.Lookups.{at-whose, same_eq}
use Rattle.station.specs.declared.mark.Mark.TheVariants as mark
use Rattle.station.specs.declared.sending.Outgoing.{Outgoing}
use Rattle.station.specs.Marks.{node_in}
use Rattle.messages.specs.Mobiles.{mobile_of}
use Rattle.station.specs.declared.row.Row.{Row}
use Rattle.station.specs.Rows.{reset_taken, acknowledged, is_last}
use Rattle.context.specs.declared.context.Context.{Context}
use Rattle.context.specs.declared.errand.Errand.{Errand}
use Rattle.context.specs.declared.errand.Errand.TheVariants as errand
use Rattle.context.specs.declared.errand.Open.{Open}
use Rattle.context.specs.declared.errand.Awaited.{Awaited}
use Rattle.context.specs.declared.errand.Awaited.TheVariants.{Update, GprsDetach, ImsiDetach}
use Rattle.context.specs.Answering.{is_above, is_answer, accepted, on_accept, on_reject, on_gprs_acknowledge, on_imsi_acknowledge, matched, answered, answered_errand}
use Rattle.context.specs.Contexts.{whose, doubtful_at}
use Rattle.context.specs.Paging.{moves_to, now_at, status_to, failure_to}
use Rattle.sgsn.specs.declared.peer.Peer.{Peer}
use Rattle.sgsn.specs.Fitting.{fits_in}
use Rattle.sgsn.proofs.Fits.{fits_at}
use Rattle.sgsn.specs.Peers.{peer_from}
use Rattle.sgsn.specs.State as sgsn
use Rattle.sgsn.specs.Delivering.{noted, acknowledged_by, answered_by, reset_by, paged_by, taken, taken_by}
use Rattle.vlr.specs.State as vlr
use Rattle.law.specs.Tables.{errand_in}
use Rattle.law.specs.Sound.{Live, Pair, SureBy, accepts, asked, asked_in, update_stamp, answered_by as due_answers, peer_of, reset_in, reset_to, due_in}
use Rattle.law.proofs.Premises.{Fit, Given, Granted, Heard, Sends}
use Rattle.law.proofs.Quieter.{Quieter, FoundQuieter, quieter_go, unsure_unsure, same_record, quieter_doubtful_at, quieter_map, found_quieter, unsure_map, found_unsure, doubtful_there}
use Rattle.law.proofs.Sendings.{given_live}
use Rattle.law.proofs.Served.{sure_served, asks_open, asking_served, moving_served}
use Rattle.law.proofs.Rows.{its_source, sent_by, its_peer, row_kept, reset_due}
use Rattle.law.proofs.OneRecord.{own_record, noted_at, rows_stay, none_sent, Moves, still, silent, quiet, told}

quieter_reject : (c : RejectCause) (a : Awaited) (r : Context) → Quieter r (on_reject c a r)
quieter_reject c (Update l) r = quieter_go _ _ r
quieter_reject c (GprsDetach t n) r = same_record r
quieter_reject c (ImsiDetach b) r = same_record r

quieter_gprs : (a : Awaited) (r : Context) → Quieter r (on_gprs_acknowledge a r)
quieter_gprs (Update l) r = same_record r
quieter_gprs (GprsDetach t n) r = quieter_go _ _ r
quieter_gprs (ImsiDetach b) r = same_record r

quieter_imsi : (a : Awaited) (r : Context) → Quieter r (on_imsi_acknowledge a r)
quieter_imsi (Update l) r = same_record r
quieter_imsi (GprsDetach t n) r = same_record r
quieter_imsi (ImsiDetach b) r = quieter_go _ _ r

-- an acceptance from w that answers k, behind this RESET, made r to r2
record Accepting (w : VlrNumber) (k : ℕ) (reset : Option ℕ) (m : Message) (r r2 : Context) : Type 0 where
  mobile : Imsi
  given : LocationArea
  message : m ≡ LuAccept mobile given
  request : Open
  waits : r.errand ≡ errand.Open request
  answers : is_answer request w k ≡ true
  area : LocationArea
  update : request.awaited ≡ Update area
  after : r2 ≡ accepted request area reset r

-- a message leaves the record quieter, or is an acceptance
abbrev Either : VlrNumber → ℕ → Option ℕ → Message → Context → Context → Type 0
Either w k reset m r r2 = Quieter r r2 ⊎ Accepting w k reset m r r2

accept_matched : (w : VlrNumber) (k : ℕ) (reset : Option ℕ) (i : Imsi) (l : LocationArea) (r : Context) (o : Open) (a : Awaited) → r.errand ≡ errand.Open o → o.awaited ≡ a → is_answer o w k ≡ true → Either w k reset (LuAccept i l) r (on_accept o a reset r)
accept_matched w k reset i l r o (Update x) e q t = inr (record { mobile = i; given = l; message = refl; request = o; waits = e; answers = t; area = x; update = q; after = refl })
accept_matched w k reset i l r o (GprsDetach x n) e q t = inl (same_record r)
accept_matched w k reset i l r o (ImsiDetach b) e q t = inl (same_record r)

message_matched : (w : VlrNumber) (k : ℕ) (reset : Option ℕ) (m : Message) (r : Context) (o : Open) → r.errand ≡ errand.Open o → is_answer o w k ≡ true → Either w k reset m r (matched o reset m r)
message_matched w k reset (LuAccept i l) r o e t = accept_matched w k reset i l r o o.awaited e refl t
message_matched w k reset (LuReject i c) r o e t = inl (quieter_reject c o.awaited r)
message_matched w k reset (GprsDetachAcknowledge i u) r o e t = inl (quieter_gprs o.awaited r)
message_matched w k reset (ImsiDetachAcknowledge i u) r o e t = inl (quieter_imsi o.awaited r)
message_matched w k reset m r o e t = inl (same_record r)

message_answered : (w : VlrNumber) (k : ℕ) (reset : Option ℕ) (m : Message) (r : Context) (e : Errand) → r.errand ≡ e → Either w k reset m r (answered_errand e w k reset m r)
message_answered w k reset m r (errand.Open o) q =
    cond_both (is_answer o w k) (matched o reset m r) r (Either w k reset m r) (λ t. message_matched w k reset m r o q t) (λ t. inl (same_record r))
message_answered w k reset m r e q = inl (same_record r)

accepted_sure : (b : Bool) (w n : VlrNumber) → cond b (mark.Confirmed w) (mark.Unsure w) ≡ mark.Confirmed n → (b ≡ true) × (w ≡ n)
accepted_sure true w n e = (refl, cc)
accepted_sure false w n e = absurd (unsure_unsure w n e)

module _ (s : sgsn.State) (v : vlr.State) (ws : List (List ℕ)) (ls : Stamps) (F : Fit s) (P : Pair s v ws ls) (f : Frame) (ws1 : List (List ℕ)) (ls1 : Stamps) (G : Given s.own f ws ls ws1 ls1) where
  abbrev Goes : sgsn.State → List Outgoing → Type 0
  Goes = Moves s v ws1 ls1 P.reset_before

  abbrev Quiet : Frame → Type 0
  Quiet = Sends s.own s.last [] v.own

  stays : Goes s []
  stays = still s v ws1 ls1 P.reset_before

  module _ (p : Peer) (its : peer_from f s.peers ≡ Some p) where
    source : f.source ≡ p.vlr.node
    source = its_source f p (sent_by f s.peers p its)

    -- an acceptance that is still true, and is taken
    grants : (t : sgsn.State) (r r2 : Context) → noted s f.message ≡ Some r → (A : Accepting p.vlr f.answers p.row.reset f.message r r2)
        → is_above p.row.reset A.request.stamp ≡ true → A.request.vlr.node ≡ v.own → Granted s t v ws1 ls1 Quiet (whose r)
    grants t r r2 noted_so A above there =
        let e : sgsn.record_at s A.mobile ≡ Some r = subst (λ k. noted s k ≡ Some r) A.message noted_so in
        let o : Open = A.request in
        let parts = and_parts (same_node o.vlr.node p.vlr.node) (o.stamp == f.answers) A.answers in
        let stamp : o.stamp ≡ f.answers = eqb-true o.stamp f.answers parts.1 in
        let from : f.source ≡ v.own = source ∙ sym (same_node_lem o.vlr.node p.vlr.node parts.0) ∙ there in
        let L : Live ws ls v.own s.own f = subst (λ a. Live ws ls a s.own f) from G.live in
        let reset : reset_to s v.own ≡ p.row.reset = ap reset_in (subst (λ n. peer_of n s.peers ≡ Some p) from (its_peer f s.peers p its)) in
        let known : is_above (reset_to s v.own) o.stamp ≡ true = ap (λ x. is_above x o.stamp) reset ∙ above in
        let asks : asked s v.own (whose r) ≡ Some o.stamp =
        ap (λ x. asked_in v.own (errand_in x)) (own_record s A.mobile r e) ∙ ap (asked_in v.own) A.waits
        ∙ cond-true (same_node o.vlr.node v.own) (update_stamp o o.awaited) None (ap (λ n. same_node n v.own) there ∙ own_node v.own) ∙ ap (update_stamp o) A.update in
        let accepted_it : accepts (whose r) f.message ≡ true = ap (accepts (whose r)) A.message ∙ same_eq (whose r) A.mobile (at-whose whose s.records A.mobile r e) in
        let sure : SureBy v (whose r) ⊎ ((x : ℕ) × (v.row.reset ≡ Some x) × (f.stamp < x)) = P.granted (whose r) o.stamp asks known f L accepted_it (sym stamp) in
        let before : (x : ℕ) → v.row.reset ≡ Some x → x ≤ ls v.own s.own → SureBy v (whose r) = λ x q h. ⊎_elim (λ y. y) (λ z. absurd (omega (arith, same_Some x z.0 (sym q ∙ z.1), z.2, h, L.later))) sure in
        record {
          quiet = λ q. ⊎_elim (λ y. y) (λ z. before z.0 z.1 (P.heard q z.0 z.1)) sure;
          due = λ x d q. before x q (P.heard_due x d).0;
          acknowledged = λ g k a q. before g.answers q (P.heard_acknowledged g (given_live s.own f ws ls ws1 ls1 G s.own v.own g k) a).0;
          clear = λ g k. ⊎_elim
              (λ t. P.pending (whose r) o.stamp asks known g (given_live s.own f ws ls ws1 ls1 G s.own v.own g k) (ltb-true o.stamp g.stamp t))
              (λ t. let h : g.stamp ≤ o.stamp = grind (arith, nat_tests) in absurd (omega (arith, (P.known (whose r) f L accepted_it).0, stamp, h, (given_live s.own f ws ls ws1 ls1 G s.own v.own g k).later)))
              (cases_Bool (nat_lt o.stamp g.stamp));
        }

    -- any message but a RESET, its acknowledgement and a page
    answer_moves : (o : Option Context) → noted s f.message ≡ o → Goes (answered_by s f p o) []
    answer_moves None e = stays
    answer_moves (Some r) e = ⊎_elim
        (λ q. let found = noted_at s (mobile_of f.message) r e in quiet s v ws1 ls1 P.reset_before s.last found.0 r new [] (omega arith) found.1 q none_sent)
        (λ A. subst (λ x. Goes (sgsn.with_context s x) []) (sym A.after) (accept_moves r A e))
        (message_answered p.vlr f.answers p.row.reset f.message r r.errand refl)
      where
        new : Context
        new = answered p.vlr f.answers p.row.reset f.message r

        accept_moves : (r : Context) (A : Accepting p.vlr f.answers p.row.reset f.message r (answered p.vlr f.answers p.row.reset f.message r)) → noted s f.message ≡ Some r → Goes (sgsn.with_context s (accepted A.request A.area p.row.reset r)) []
        accept_moves r A e =
            let after : Context = accepted A.request A.area p.row.reset r in
            silent s v ws1 ls1 P.reset_before after
            (λ h. let k = accepted_sure (is_above p.row.reset A.request.stamp) A.request.vlr (record { node = v.own }) h in inr (grants (sgsn.with_context s after) r _ e A k.0 (ap (λ w. w.node) k.1)))
            (λ n a. none-some n a)

    -- the VLR lost its marks
    reset_moves : Goes (reset_by s f p) []
    reset_moves = record {
      own = refl;
      last = omega arith;
      stamps = λ g n. absurd n.0;
      sure = λ m h. inl ((seen m).sure _ h);
      harmless = λ m h g n. absurd n.0;
      asking = λ m r a. inl ((seen m).asking v.own r a);
      behind = λ m r a b g n. absurd n.0;
      reset = λ r l a. subst (λ o. is_above o r ≡ true) same_reset a;
      reset_before = λ x e. P.reset_before x (sym same_reset ∙ e);
      due = λ x d. ⊎_elim (λ y. inl y) (λ q. inr (heard x q.0 q.1)) (reset_due f f.stamp v.own s.peers x d);
      acknowledged = λ g n. absurd n.0;
    }
      where
        seen : (m : Imsi) → FoundQuieter (sgsn.record_at s m) (sgsn.record_at (reset_by s f p) m)
        seen m = found_quieter s.records (map (doubtful_at p.vlr) s.records) m (quieter_map (doubtful_at p.vlr) (quieter_doubtful_at p.vlr) s.records)

        same_reset : reset_to (reset_by s f p) v.own ≡ reset_to s v.own
        same_reset = row_kept f (λ r. reset_taken r f.stamp) reset_in (λ q. refl) v.own s.peers

        heard : (x : ℕ) → x ≡ f.stamp → v.own ≡ f.source → Heard s (reset_by s f p) v ws1 ls1 Quiet x
        heard x e from = record {
          given = omega (arith, ap (λ a. ls1 a s.own) from ∙ G.now, e);
          sent = omega (arith, P.up f (subst (λ a. Live ws ls a s.own f) (sym from) G.live), e);
          doubted = λ m h. found_unsure v.own (map (doubtful_at p.vlr) s.records) m
              (unsure_map v.own (doubtful_at p.vlr) (λ r. subst (λ a. (doubtful_at p.vlr r).mark ≡ mark.Confirmed (record { node = a }) → ⊥) (sym source ∙ sym from) (doubtful_there p.vlr r)) s.records) h;
        }

    acknowledged_moves : Goes (acknowledged_by s f) []
    acknowledged_moves = rows_stay s (acknowledged_by s f) v ws1 ls1 Quiet P.reset_before (record {
      own = refl;
      reset = row_kept f (λ r. acknowledged r f.answers) reset_in (λ q. kept q.row (λ r. r.reset) refl) v.own s.peers;
      due = row_kept f (λ r. acknowledged r f.answers) due_in (λ q. kept q.row (λ r. due_answers r.due) refl) v.own s.peers;
      last = omega arith;
      stamps = λ g n. absurd n.0;
      sure = λ m h. inl h;
      harmless = λ m h g n. absurd n.0;
      asking = λ m r a. inl a;
      behind = λ m r a g n. absurd n.0;
      other = λ g n. absurd n.0;
    })
      where
        kept : {X : Type 0} (r : Row) (h : Row → X) → h (record { recovery = None; reset = r.reset; due = r.due }) ≡ h r → h (acknowledged r f.answers) ≡ h r
        kept r h e = cond_both (is_some r.recovery && is_last r.reset f.answers) (record { recovery = None; reset = r.reset; due = r.due }) r (λ x. h x ≡ h r) (λ t. e) (λ t. refl)

    page_moves : (i : Imsi) (o : Option Context) → sgsn.record_at s i ≡ o → Goes (paged_by s f p o).after (paged_by s f p o).sends
    page_moves i None e = stays
    page_moves i (Some r) e = pages (not r.attached) (moves_to p.vlr r) (node_in r.mark) refl refl
      where
        fit : fits_in (sgsn.vlrs_of s) r ≡ true
        fit = fits_at (sgsn.vlrs_of s) s.records i r F.fits e

        pages : (a b : Bool) (o : Option VlrNumber) → not r.attached ≡ a → moves_to p.vlr r ≡ b
            → let m : Context × Option Outgoing = cond a (r, Some (failure_to p.vlr f.stamp r)) (cond b (now_at p.vlr r, status_to o r) (r, None)) in
            Goes (sgsn.moved s m).after (sgsn.moved s m).sends
        pages false true None h k =
            quiet s v ws1 ls1 P.reset_before (s.last + 0) i r (now_at p.vlr r) [] refl e
            (record { mobile = refl; sure = λ n x. absurd (unsure_unsure p.vlr n x); asking = λ a n x. x }) none_sent
        pages false true (Some w) h k =
            told s v ws1 ls1 P.reset_before (now_at p.vlr r) (record { to = w.node; answers = 0; message = MobileStatus r.imsi cause.MovedToAnotherVlr }) refl (λ m d. d)
            (λ x. unsure_unsure p.vlr _ x) (λ n x. absurd (true≢false (sym (asks_open v.own r.errand n x) ∙ (moving_served p.vlr r k).1)))
        pages false false o h k = quiet s v ws1 ls1 P.reset_before (s.last + 0) i r r [] refl e (same_record r) none_sent
        pages true b o h k =
            told s v ws1 ls1 P.reset_before r (failure_to p.vlr f.stamp r) refl (λ m d. d)
            (λ x. true≢false (sym (sure_served (sgsn.vlrs_of s) r _ fit x).0 ∙ not-true _ h)) (λ n x. absurd (true≢false (sym (asking_served (sgsn.vlrs_of s) r v.own n fit x) ∙ not-true _ h)))

    its_moves : (m : Message) → f.message ≡ m → Goes (taken_by s f p m).after (taken_by s f p m).sends
    its_moves (Reset e) q = reset_moves
    its_moves (ResetAcknowledge e) q = acknowledged_moves
    its_moves (Paging i t c) q = page_moves i (sgsn.record_at s i) refl
    its_moves m q = subst (λ k. Goes (answered_by s f p (noted s k)) []) q (answer_moves (noted s f.message) refl)

  pub taken_by_frame : (o : Option Peer) → peer_from f s.peers ≡ o → Goes (taken s f o).after (taken s f o).sends
  taken_by_frame None e = stays
  taken_by_frame (Some p) e = its_moves p e f.message refl
