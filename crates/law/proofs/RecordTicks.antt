-- What one tick of an SGSN's records changes and sends.
use Rattle.std.proofs.Common.{◌≡◌, ℕ, ◌+◌, Bool, true, false, cond, ◌==◌, not, ltb, nat_le, List, [], ◌∷◌, map, length, inl, inr, Some, None, Option, refl, sym, ap, ◌∙◌, subst, ⊎_elim}
use Rattle.std.specs.List.{list_all}
use Rattle.std.proofs.lemmas.Bool.{true≢false, cond-true, cond-false, cond_both, and_parts, not-true}
use Rattle.std.proofs.lemmas.Option.{none-some}
use Rattle.imsi.specs.declared.Imsi.{Imsi}
use Rattle.elements.specs.declared.code.GprsDetachType.{GprsDetachType}
use Rattle.elements.specs.declared.node.NodeNumber.{NodeNumber}
use Rattle.elements.specs.declared.node.VlrNumber.{VlrNumber}
use Rattle.elements.specs.Nodes.{same_node}
use Rattle.messages.specs.declared.message.Message.TheVariants.{GprsDetachIndication}
use Rattle.frames.specs.declared.frame.Frame.{Frame}
use Rattle.directory.specs.Order.{rank_of, same}
use Rattle.directory.specs.Lookup.{at}
use Rattle.directory.proofs.Lookups.{same_true, same_eq}
use Rattle.station.specs.declared.mark.Mark.TheVariants as mark
use Rattle.station.specs.Sends.{frames_of}
use Rattle.context.specs.declared.context.Context.{Context}
use Rattle.context.specs.declared.errand.Awaited.{Awaited}
use Rattle.context.specs.declared.errand.Awaited.TheVariants.{Update, GprsDetach, ImsiDetach}
use Rattle.context.specs.declared.errand.Errand.{Errand}
use Rattle.context.specs.declared.errand.Errand.TheVariants as errand
use Rattle.context.specs.declared.errand.Open.{Open}
use Rattle.context.specs.Contexts.{whose}
use Rattle.context.specs.Errands.{is_open}
use Rattle.context.specs.Ticking.{with_errand, told_again, one_less, expired, run_out, ticked_errand, detach_again, errand_sends, context_sends}
use Rattle.sgsn.specs.Fitting.{fits_in}
use Rattle.sgsn.specs.Peers.{doubted_by_all}
use Rattle.sgsn.specs.Recovering.{records_ticked, records_sends, ticked}
use Rattle.sgsn.specs.State.{State}
use Rattle.law.specs.Tables.{mark_in, errand_in}
use Rattle.law.specs.Sound.{harms, is_acknowledgement, asked_in, update_stamp}
use Rattle.law.proofs.Premises.{Among, passes, rising}
use Rattle.law.proofs.Quieter.{Quieter, AllQuieter, same_record, quieter_twice}
use Rattle.law.proofs.Sendings.{among_either}
use Rattle.law.proofs.Served.{sure_served, asks_not}
use Rattle.law.proofs.Ticks.{quieter_doubted}

-- the mark of a record stays, and a tick asks nothing more
quieter_errand : (r : Context) (e : Errand) → ((a : NodeNumber) (n : ℕ) → asked_in a e ≡ Some n → asked_in a r.errand ≡ Some n) → Quieter r (with_errand e r)
quieter_errand r e q = record { mobile = refl; sure = λ n h. h; asking = q }

quieter_expired : (o : Open) (r : Context) → Quieter r (expired o r)
quieter_expired o r = record { mobile = refl; sure = λ n h. h; asking = λ a n h. absurd (none-some n h) }

quieter_run_out : (o : Open) (w : Awaited) (k : ℕ) (r : Context) → Quieter r (run_out o w k r)
quieter_run_out o (Update l) k r = quieter_expired o r
quieter_run_out o (GprsDetach t n) k r =
    cond_both (n == 0) (expired o r) (with_errand (errand.Open (told_again o t n k)) r) (Quieter r)
    (λ e. quieter_expired o r)
    (λ e. quieter_errand r (errand.Open (told_again o t n k)) (λ a x h. asks_not (same_node o.vlr.node a) x h))
quieter_run_out o (ImsiDetach b) k r = quieter_expired o r

-- one tick less leaves what an open request asks
same_asked : (o : Open) (w : Awaited) → update_stamp (one_less o) w ≡ update_stamp o w
same_asked o (Update l) = refl
same_asked o (GprsDetach t n) = refl
same_asked o (ImsiDetach b) = refl

quieter_errand_ticked : (e : Errand) (k : ℕ) (r : Context) → r.errand ≡ e → Quieter r (ticked_errand e k r)
quieter_errand_ticked errand.Idle k r q = same_record r
quieter_errand_ticked (errand.Open o) k r q =
    cond_both (nat_le o.ticks 1) (run_out o o.awaited (k + 1) r) (with_errand (errand.Open (one_less o)) r) (Quieter r)
    (λ e. quieter_run_out o o.awaited (k + 1) r)
    (λ e. quieter_errand r (errand.Open (one_less o)) (λ a n h. ap (asked_in a) q ∙ ap (λ x. cond (same_node o.vlr.node a) x None) (sym (same_asked o o.awaited)) ∙ h))
quieter_errand_ticked (errand.Ended v) k r q = same_record r

quieter_ticked : (last : ℕ) (rs : List Context) → AllQuieter rs (records_ticked last rs)
quieter_ticked last [] = tt
quieter_ticked last (r ∷ rs) = (quieter_errand_ticked r.errand last r refl, quieter_ticked (last + length (context_sends r)) rs)

pub quieter_all_ticked : (s : State) → AllQuieter s.records (ticked s).records
quieter_all_ticked s =
    let rs = records_ticked s.last s.records in
    quieter_twice s.records rs (doubted_by_all s.peers rs) (quieter_ticked s.last s.records) (quieter_doubted s.peers rs)

-- a frame that a record sends tells its open detach again
record Again (r : Context) (g : Frame) : Type 0 where
  type : GprsDetachType
  message : g.message ≡ GprsDetachIndication r.imsi type
  detach : Open
  waits : r.errand ≡ errand.Open detach
  asks : (a : NodeNumber) (n : ℕ) → asked_in a (errand.Open detach) ≡ Some n → ⊥

module _ (own : NodeNumber) (r : Context) (g : Frame) where
  by_repeats : (o : Open) (t : GprsDetachType) (last : ℕ) (b : Bool) → r.errand ≡ errand.Open o → ((a : NodeNumber) (n : ℕ) → asked_in a (errand.Open o) ≡ Some n → ⊥)
      → Among g (frames_of own last (cond b [] (record { to = o.vlr.node; answers = 0; message = GprsDetachIndication r.imsi t } ∷ []))) → Again r g
  by_repeats o t last true e none z = absurd z
  by_repeats o t last false e none (inl q) = record { type = t; message = ap (λ f. f.message) q; detach = o; waits = e; asks = none }
  by_repeats o t last false e none (inr z) = absurd z

  by_awaited : (o : Open) (w : Awaited) (last : ℕ) → o.awaited ≡ w → r.errand ≡ errand.Open o → Among g (frames_of own last (detach_again o w r)) → Again r g
  by_awaited o (Update l) last q e z = absurd z
  by_awaited o (GprsDetach t n) last q e z =
      by_repeats o t last (n == 0) e (λ a x h. asks_not (same_node o.vlr.node a) x (ap (λ y. cond (same_node o.vlr.node a) (update_stamp o y) None) (sym q) ∙ h)) z
  by_awaited o (ImsiDetach b) last q e z = absurd z

  by_ticks : (o : Open) (last : ℕ) (b : Bool) → r.errand ≡ errand.Open o → Among g (frames_of own last (cond b (detach_again o o.awaited r) [])) → Again r g
  by_ticks o last true e z = by_awaited o o.awaited last refl e z
  by_ticks o last false e z = absurd z

  by_errand : (e : Errand) (last : ℕ) → r.errand ≡ e → Among g (frames_of own last (errand_sends e r)) → Again r g
  by_errand errand.Idle last q z = absurd z
  by_errand (errand.Open o) last q z = by_ticks o last (nat_le o.ticks 1) q z
  by_errand (errand.Ended v) last q z = absurd z

  told_so : (last : ℕ) → Among g (frames_of own last (context_sends r)) → Again r g
  told_so last z = by_errand r.errand last refl z

-- no acknowledgement is among them
pub records_other : (own : NodeNumber) (last : ℕ) (rs : List Context) (g : Frame) → Among g (frames_of own last (records_sends rs)) → is_acknowledgement g.message ≡ false
records_other own last [] g z = absurd z
records_other own last (r ∷ rs) g z = ⊎_elim
    (λ h. ap is_acknowledgement (told_so own r g last h).message)
    (λ h. records_other own (last + length (context_sends r)) rs g h)
    (among_either own last (context_sends r) (records_sends rs) g z)

-- The SGSN is not sure of this mobile at this node, and asks nothing there.
abbrev pub Free : NodeNumber → Option Context → Type 0
Free a o = (mark_in o ≡ mark.Confirmed (record { node = a }) → ⊥) × ((n : ℕ) → asked_in a (errand_in o) ≡ Some n → ⊥)

again_free : (vs : List VlrNumber) (a : NodeNumber) (r : Context) (g : Frame) → fits_in vs r ≡ true → Again r g → Free a (Some r)
again_free vs a r g f A = (
  λ h. true≢false (sym (ap is_open A.waits) ∙ (sure_served vs r (record { node = a }) f h).1),
  λ n h. A.asks a n (ap (asked_in a) (sym A.waits) ∙ h),
)

harmed_mobile : (m : Imsi) (r : Context) (g : Frame) → Again r g → harms m g.message ≡ true → m ≡ whose r
harmed_mobile m r g A h = same_true m (whose r) (sym (ap (harms m) A.message) ∙ h)

-- a frame of records is about a mobile that passes what each of them passes
passes_told : (own : NodeNumber) (n : Imsi) (last : ℕ) (rs : List Context) (m : Imsi) (g : Frame) → list_all (λ i. passes i n) (map whose rs) ≡ true
    → Among g (frames_of own last (records_sends rs)) → harms m g.message ≡ true → passes m n ≡ true
passes_told own n last [] m g up z h = absurd z
passes_told own n last (r ∷ rs) m g up z h =
    let parts = and_parts (passes (whose r) n) (list_all (λ i. passes i n) (map whose rs)) up in
    ⊎_elim
    (λ y. ap (λ i. passes i n) (harmed_mobile m r g (told_so own r g last y) h) ∙ parts.0)
    (λ y. passes_told own n (last + length (context_sends r)) rs m g parts.1 y h)
    (among_either own last (context_sends r) (records_sends rs) g z)

-- who is harmed by such a frame is free
pub records_free : (own : NodeNumber) (vs : List VlrNumber) (a : NodeNumber) (last : ℕ) (rs : List Context) (m : Imsi) (g : Frame)
    → rising (map whose rs) ≡ true → list_all (fits_in vs) rs ≡ true → Among g (frames_of own last (records_sends rs)) → harms m g.message ≡ true → Free a (at whose rs m)
records_free own vs a last [] m g up f z h = absurd z
records_free own vs a last (r ∷ rs) m g up f z h =
    let ups = and_parts (list_all (λ i. passes i (whose r)) (map whose rs)) (rising (map whose rs)) up in
    let fits = and_parts (fits_in vs r) (list_all (fits_in vs) rs) f in
    ⊎_elim
    (λ y. let A = told_so own r g last y in subst (Free a) (sym (first m r (at whose rs m) (harmed_mobile m r g A h))) (again_free vs a r g fits.0 A))
    (λ y. subst (Free a) (sym (passed_by m r (at whose rs m) (passes_told own (whose r) (last + length (context_sends r)) rs m g ups.0 y h)))
    (records_free own vs a (last + length (context_sends r)) rs m g ups.1 fits.1 y h))
    (among_either own last (context_sends r) (records_sends rs) g z)
  where
    first : (i : Imsi) (x : Context) (o : Option Context) → i ≡ whose x → cond (same i (whose x)) (Some x) (cond (ltb (rank_of i) (rank_of (whose x))) None o) ≡ Some x
    first i x o e = cond-true (same i (whose x)) (Some x) (cond (ltb (rank_of i) (rank_of (whose x))) None o) (same_eq i (whose x) e)

    passed_by : (i : Imsi) (x : Context) (o : Option Context) → passes i (whose x) ≡ true → cond (same i (whose x)) (Some x) (cond (ltb (rank_of i) (rank_of (whose x))) None o) ≡ o
    passed_by i x o p =
        let parts = and_parts (not (same i (whose x))) (not (ltb (rank_of i) (rank_of (whose x)))) p in
        cond-false (same i (whose x)) (Some x) (cond (ltb (rank_of i) (rank_of (whose x))) None o) (not-true (same i (whose x)) parts.0)
        ∙ cond-false (ltb (rank_of i) (rank_of (whose x))) None o (not-true (ltb (rank_of i) (rank_of (whose x))) parts.1)
