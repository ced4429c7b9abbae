-- Each move of a VLR shows what it must.
use Rattle.std.proofs.Common.{◌≡◌, ℕ, ◌+◌, ◌<◌, ◌≤◌, ◌⊎◌, inl, inr, ⊎_elim, Bool, true, false, not, cond, ◌&&◌, List, [], ◌∷◌, ◌++◌, length, is_some, Some, None, Option, refl, sym, ap, ◌∙◌, subst, arith}
use Rattle.std.specs.List.{list_all}
use Rattle.std.proofs.lemmas.Bool.{true≢false, false≢true, not-true, and_parts, cases_Bool, cond-true, cond-false, eqb-true}
use Rattle.std.proofs.lemmas.Bool.Decides.{nat_tests}
use Rattle.std.proofs.lemmas.Option.{none-some, same_Some}
use Rattle.imsi.specs.declared.Imsi.{Imsi}
use Rattle.elements.specs.declared.area.LocationArea.{LocationArea}
use Rattle.elements.specs.declared.code.ImsiDetachType.{ImsiDetachType}
use Rattle.elements.specs.declared.node.NodeNumber.{NodeNumber}
use Rattle.elements.specs.declared.node.SgsnNumber.{SgsnNumber}
use Rattle.elements.specs.Nodes.{same_node}
use Rattle.messages.specs.declared.message.Message.{Message}
use Rattle.messages.specs.declared.message.Message.TheVariants.{LuRequest, ResetAcknowledge, GprsDetachIndication, ImsiDetachIndication}
use Rattle.frames.specs.declared.frame.Frame.{Frame}
use Rattle.carrier.specs.Nodes.{same_node_lem}
use Rattle.carrier.specs.Order.{Stamps}
use Rattle.station.specs.declared.mark.Mark.TheVariants as mark
use Rattle.station.specs.declared.row.Recovery.{Recovery}
use Rattle.station.specs.declared.row.Row.{Row}
use Rattle.station.specs.declared.receiving.Delivery.{Delivery}
use Rattle.station.specs.declared.sending.Outgoing.{Outgoing}
use Rattle.station.specs.Calls.{Plan, quietly}
use Rattle.station.specs.Receiving.{is_from, names_sender}
use Rattle.station.specs.Rows.{repeat_now, due_now, due_ticked, reset_ticked, repeated, runs_out, nearer, anew, is_last}
use Rattle.station.specs.Sends.{frames_of}
use Rattle.station.specs.Ticks as tick
use Rattle.sgsn.specs.State as sgsn
use Rattle.vlr.specs.State as vlr
use Rattle.vlr.specs.declared.record.Record.{Record}
use Rattle.vlr.specs.Moves.{update_move, detach_answer}
use Rattle.vlr.specs.Delivering as deliver
use Rattle.vlr.specs.Delivering.{noted, taken_by, frame_plan}
use Rattle.vlr.specs.Enrolling.{enrolled, with_enrolled}
use Rattle.vlr.specs.Paging.{paged, pages}
use Rattle.vlr.specs.Recovering.{lost, resets, ticked, tick_sends}
use Rattle.vlr.specs.Laws.{by_message}
use Rattle.vlr.specs.State.{record_at}
use Rattle.vlr.proofs.Moved.{cause_for, update_answer, answer_to, taken_sends, taken_last, taken_own, taken_sgsn}
use Rattle.vlr.proofs.ByMobile.{enrolled-at, taken-at}
use Rattle.directory.specs.Lookup.{at}
use Rattle.directory.specs.Order.{same}
use Rattle.directory.proofs.Lookups.{same_true}
use Rattle.law.specs.Tables.{mark_of, marked_by}
use Rattle.law.specs.Sound.{Live, harms, is_acknowledgement, accepts, Pair}
use Rattle.law.proofs.Premises.{Among, Given, Sends, Ended, Harmed, VlrMove, VlrRestart}
use Rattle.law.proofs.Sendings.{among_stamps, among_all, given_later, given_live}

enrolled_mark : (i : Imsi) (c : ℕ) (b : Bool) (o : Option Record) → mark_of (cond b (Some (enrolled i c o)) o) ≡ mark_of o
enrolled_mark i c b o = grind (arith, nat_tests)

-- a message that does not harm a mobile leaves its mark
unharmed : (n : SgsnNumber) (k : Message) (m : Imsi) (o : Option Record) → harms m k ≡ false → mark_of (by_message n k m o) ≡ mark_of o
unharmed n k m o h = grind (arith, nat_tests)

-- what goes out answers the frame
answer_frame : (v : vlr.State) (f : Frame) (o : Option Message) (g : Frame) → Among g (frames_of v.own v.last (deliver.answer_to v f o)) → (o ≡ Some g.message) × (g.answers ≡ f.stamp)
answer_frame v f None g x = absurd x
answer_frame v f (Some k) g (inl e) = (ap (λ x. Some x.message) (sym e), ap (λ x. x.answers) e)
answer_frame v f (Some k) g (inr x) = absurd x

answers : (v : vlr.State) (f : Frame) (k : Message) (g : Frame) → Among g (frames_of v.own v.last (taken_by v f k).sends) → (answer_to (noted v k) k ≡ Some g.message) × (g.answers ≡ f.stamp)
answers v f k g x = answer_frame v f (answer_to (noted v k) k) g (subst (λ os. Among g (frames_of v.own v.last os)) (taken_sends v f k) x)

-- a mobile that is accepted is marked
update_sure : (n : SgsnNumber) (i m : Imsi) (w : LocationArea) (o : Option Record) → accepts m (update_answer i w (cause_for o)) ≡ true → (same m i ≡ true) × (mark_of (update_move n i w o).0 ≡ mark.Confirmed n)
update_sure n i m w o h = grind (arith, nat_tests)

unaccepting : (i : Imsi) (t : ImsiDetachType) (m : Imsi) (a : Message) → detach_answer i t ≡ Some a → accepts m a ≡ false
unaccepting i t m a e = grind (arith, nat_tests)

accepted_sure : (v : vlr.State) (k : Message) (m : Imsi) (a : Message) → answer_to (noted v k) k ≡ Some a → accepts m a ≡ true → mark_of (by_message v.sgsn k m (record_at v m)) ≡ mark.Confirmed v.sgsn
accepted_sure v (LuRequest i u o w c) m a e h =
    let sure = update_sure v.sgsn i m w (record_at v i) (ap (accepts m) (same_Some _ _ e) ∙ h) in
    ap mark_of (cond-true (same m i) (update_move v.sgsn i w (record_at v m)).0 (record_at v m) sure.0)
    ∙ ap (λ n. mark_of (update_move v.sgsn i w (record_at v n)).0) (same_true m i sure.0) ∙ sure.1
accepted_sure v (GprsDetachIndication i t) m a e h = absurd (true≢false (sym h ∙ ap (accepts m) (sym (same_Some _ _ e))))
accepted_sure v (ImsiDetachIndication i t) m a e h = absurd (true≢false (sym h ∙ unaccepting i t m a e))
accepted_sure v k m a e h = absurd (none-some a e)

last_is : (o : Option ℕ) (n : ℕ) → is_last o n ≡ true → o ≡ Some n
last_is None n h = absurd (false≢true h)
last_is (Some m) n h = ap Some (sym (eqb-true n m h))

-- a message leaves the stamp of the last RESET, and only its acknowledgement ends recovery
row_kept : (v : vlr.State) (f : Frame) (k : Message) → let r : Row = (taken_by v f k).after.row in
    (r.reset ≡ v.row.reset) × (r.recovery ≡ None → (v.row.recovery ≡ None) ⊎ ((is_acknowledgement k ≡ true) × (v.row.reset ≡ Some f.answers)))
row_kept v f (ResetAcknowledge e) = by_reset (is_some v.row.recovery && is_last v.row.reset f.answers) refl
  where
    by_reset : (b : Bool) → (is_some v.row.recovery && is_last v.row.reset f.answers) ≡ b
        → let r : Row = cond b (record { recovery = None; reset = v.row.reset; due = v.row.due }) v.row in (r.reset ≡ v.row.reset) × (r.recovery ≡ None → (v.row.recovery ≡ None) ⊎ ((true ≡ true) × (v.row.reset ≡ Some f.answers)))
    by_reset true q = (refl, λ e. inr (refl, last_is v.row.reset f.answers (and_parts (is_some v.row.recovery) (is_last v.row.reset f.answers) q).1))
    by_reset false q = (refl, λ e. inl e)
row_kept v f k = (refl, λ e. inl e)

-- a tick accepts no mobile
tick_accepts : (own peer : NodeNumber) (m : Imsi) (o : Option ℕ) (b : Bool) → list_all (λ x. not (accepts m x.message)) (tick.acknowledging own peer o ++ cond b (tick.reset_to own peer ∷ []) []) ≡ true
tick_accepts own peer m None true = refl
tick_accepts own peer m None false = refl
tick_accepts own peer m (Some n) true = refl
tick_accepts own peer m (Some n) false = refl

still_over : (o : Option Recovery) → nearer o ≡ None → o ≡ None
still_over None e = refl
still_over (Some r) e = absurd (none-some _ (sym e))

not_over : (o : Option Recovery) → runs_out o ≡ true → anew o ≡ None → ⊥
not_over None h e = false≢true h
not_over (Some r) h e = none-some _ (sym e)

-- these frames accept no mobile
abbrev AcceptsNobody : List Outgoing → Type 0
AcceptsNobody os = (m : Imsi) → list_all (λ o. not (accepts m o.message)) os ≡ true

module _ (s : sgsn.State) (v : vlr.State) (ws : List (List ℕ)) (ls : Stamps) where
  -- the VLR goes to w, and sends these
  abbrev Moves : vlr.State → List Outgoing → Type 0
  Moves w os = VlrMove s v w ws ls (Sends v.own v.last os s.own)

  abbrev Restarts : vlr.State → List Outgoing → Type 0
  Restarts w os = VlrRestart s v w ws ls (Sends v.own v.last os s.own)

  spared : (os : List Outgoing) → AcceptsNobody os → (m : Imsi) (g : Frame) → Among g (frames_of v.own v.last os) → accepts m g.message ≡ false
  spared os none m g n = not-true _ (among_all (λ x. not (accepts m x)) v.own v.last os g (none m) n)

  sent_after : (n : ℕ) (os : List Outgoing) → n ≡ v.last + length os → (g : Frame) → Sends v.own v.last os s.own g → (v.last < g.stamp) × (g.stamp ≤ n)
  sent_after n os now g x = let h = among_stamps v.own v.last os g x.0 in (h.0, omega (arith, h.1, now))

  -- a move that leaves all marks and accepts nobody
  pub steady : (n : ℕ) (row : Row) (rs : List Record) (os : List Outgoing) → n ≡ v.last + length os → row.reset ≡ v.row.reset → (row.recovery ≡ None → v.row.recovery ≡ None)
      → ((m : Imsi) → mark_of (at vlr.whose rs m) ≡ marked_by v m) → AcceptsNobody os → Moves (record v { last = n; row = row; records = rs }) os
  steady n row rs os now reset recovery marks none = record {
    own = refl;
    sgsn = refl;
    last = omega (arith, now);
    stamps = sent_after n os now;
    reset = reset;
    recovery = λ e. inl (recovery e);
    sure = λ m h. inl (marks m ∙ h);
    accepting = λ m g x k. absurd (true≢false (sym k ∙ spared os none m g x.0));
  }

  -- nothing changes, and nothing is sent
  pub still : Moves v []
  still = steady v.last v.row v.records [] (omega arith) refl (λ e. e) (λ m. refl) (λ m. refl)

  pub enrolled_moves : (i : Imsi) (cause : ℕ) → Moves (with_enrolled v i cause) []
  enrolled_moves i cause = steady v.last v.row _ [] (omega arith) refl (λ e. e) (λ m. ap mark_of (enrolled-at v i cause m) ∙ enrolled_mark i cause (same m i) (record_at v m)) (λ m. refl)

  pub paged_moves : (i : Imsi) (t ch : Option ℕ) → Moves (paged v) (pages v i t ch)
  paged_moves i t ch = steady (v.last + 1) v.row v.records (pages v i t ch) refl refl (λ e. e) (λ m. refl) (λ m. refl)

  -- a RESET with this stamp goes out, and nobody is accepted
  restarted : (n : ℕ) (row : Row) (rs : List Record) (os : List Outgoing) (stamp : ℕ) → n ≡ v.last + length os → row.reset ≡ Some stamp → v.last < stamp → (row.recovery ≡ None → ⊥) → AcceptsNobody os → Restarts (record v { last = n; row = row; records = rs }) os
  restarted n row rs os stamp now reset later recovery none = record {
    own = refl;
    sgsn = refl;
    last = omega (arith, now);
    stamps = sent_after n os now;
    stamp = stamp;
    reset = reset;
    later = later;
    recovery = recovery;
    accepting = λ m g x. spared os none m g x.0;
  }

  pub lost_restarts : Restarts (lost v) (resets v)
  lost_restarts = restarted (v.last + 1) _ _ (resets v) (v.last + 1) refl refl (omega arith) (λ e. none-some _ (sym e)) (λ m. refl)

  -- a tick repeats the RESET, or not
  pub ticked_goes : Moves (ticked v) (tick_sends v) ⊎ Restarts (ticked v) (tick_sends v)
  ticked_goes = by_repeat (repeat_now v.row) refl
    where
      none : AcceptsNobody (tick_sends v)
      none m = tick_accepts v.own v.sgsn.node m (due_now v.row) (repeat_now v.row)

      by_repeat : (b : Bool) → repeat_now v.row ≡ b → Moves (ticked v) (tick_sends v) ⊎ Restarts (ticked v) (tick_sends v)
      by_repeat true e =
          let stamp = v.last + length (tick.due_sends v.own v.sgsn.node v.row) + 1 in
          let row : (ticked v).row ≡ repeated (due_ticked v.row) stamp = cond-true (repeat_now v.row) _ _ e in
          inr (restarted _ (ticked v).row v.records (tick_sends v) stamp refl (ap (λ x. x.reset) row) (omega arith) (λ h. not_over v.row.recovery e (ap (λ x. x.recovery) (sym row) ∙ h)) none)
      by_repeat false e =
          let row : (ticked v).row ≡ reset_ticked (due_ticked v.row) = cond-false (repeat_now v.row) _ _ e in
          inl (steady _ (ticked v).row v.records (tick_sends v) refl (ap (λ x. x.reset) row) (λ h. still_over v.row.recovery (ap (λ x. x.recovery) (sym row) ∙ h)) (λ m. refl) none)

module _ (s : sgsn.State) (v : vlr.State) (ws : List (List ℕ)) (ls : Stamps) (P : Pair s v ws ls) (f : Frame) (ws1 : List (List ℕ)) (ls1 : Stamps) (G : Given v.own f ws ls ws1 ls1) where
  module _ (from : f.source ≡ s.own) where
    from_live : Live ws ls s.own v.own f
    from_live = subst (λ a. Live ws ls a v.own f) from G.live

    -- the mobile that the frame harms was not sure, and no acceptance of it that is on its way counts
    harmed : (w : vlr.State) (New : Frame → Type 0) (m : Imsi) → harms m f.message ≡ true → Harmed s v w ws1 ls1 New m
    harmed w New m h = record {
      unsure = λ c. true≢false (sym h ∙ P.clear m c f from_live);
      unasked = λ r a up g l k q.
          let came = P.known m g (given_live v.own f ws ls ws1 ls1 G v.own s.own g l) k in
          true≢false (sym h ∙ P.pending m r a up f from_live (omega (arith, came.0, from_live.later)));
    }

    ended : (w : vlr.State) (New : Frame → Type 0) → is_acknowledgement f.message ≡ true → v.row.reset ≡ Some f.answers → Ended s v w ws1 ls1 New
    ended w New k e = record {
      stamp = f.answers;
      reset = e;
      given = omega (arith, (P.heard_acknowledged f from_live k).0, given_later v.own f ws ls ws1 ls1 G v.own s.own);
      agreed = P.acknowledged f from_live k e;
    }

    from_sgsn : Moves s v ws1 ls1 (taken_by v f f.message).after (taken_by v f f.message).sends
    from_sgsn =
        let k = f.message in
        let p = taken_by v f k in
        let sgsn : p.after.sgsn ≡ v.sgsn = taken_sgsn v f k in
        let last : p.after.last ≡ v.last + length p.sends = taken_last v f k in
        record {
          own = taken_own v f k;
          sgsn = sgsn;
          last = omega (arith, last);
          stamps = sent_after s v ws1 ls1 p.after.last p.sends last;
          reset = (row_kept v f k).0;
          recovery = λ e. ⊎_elim (λ o. inl o) (λ x. inr (ended _ _ x.0 x.1)) ((row_kept v f k).1 e);
          sure = λ m h. ⊎_elim
              (λ t. inr (harmed _ _ m t))
              (λ t. inl (ap mark_of (taken-at v f k m) ∙ unharmed v.sgsn k m (record_at v m) t ∙ h ∙ ap mark.Confirmed (sym sgsn)))
              (cases_Bool (harms m k));
          accepting = λ m g n a.
              let sent = answers v f k g n.0 in
              let now : ls1 s.own v.own ≡ f.stamp = ap (λ x. ls1 x v.own) (sym from) ∙ G.now in
              (ap mark_of (taken-at v f k m) ∙ accepted_sure v k m g.message sent.0 a ∙ ap mark.Confirmed (sym sgsn), omega (arith, sent.1), omega (arith, sent.1, P.down f from_live));
        }

  -- after a take for the VLR
  pub taken_moves : Moves s v ws1 ls1 (frame_plan v f).after (frame_plan v f).sends
  taken_moves = by_sender (is_from v.sgsn.node f) refl
    where
      by_sender : (b : Bool) → is_from v.sgsn.node f ≡ b → let p : Plan Delivery vlr.State = cond b (taken_by v f f.message) (quietly v) in Moves s v ws1 ls1 p.after p.sends
      by_sender true e = from_sgsn (same_node_lem f.source v.sgsn.node (and_parts (same_node f.source v.sgsn.node) (names_sender v.sgsn.node f.message) e).0 ∙ P.its)
      by_sender false e = still s v ws1 ls1
