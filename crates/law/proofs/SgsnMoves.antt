-- A loss, a tick and a take of an SGSN show each VLR what they must.
use Rattle.std.proofs.Common.{◌≡◌, ℕ, ◌≤◌, ◌⊎◌, true, false, List, map, inl, Some, refl, sym, ap, ◌∙◌, ⊎_elim, arith}
use Rattle.std.proofs.lemmas.Bool.{true≢false, cases_Bool}
use Rattle.std.proofs.lemmas.List.{length-map, length-append}
use Rattle.imsi.specs.declared.Imsi.{Imsi}
use Rattle.station.specs.Sends.{frames_of}
use Rattle.station.specs.Ticks.{reset_to}
use Rattle.context.specs.Answering.{is_above}
use Rattle.context.specs.Contexts.{doubtful}
use Rattle.frames.specs.declared.frame.Frame.{Frame}
use Rattle.carrier.specs.Order.{Stamps}
use Rattle.sgsn.specs.State as sgsn
use Rattle.sgsn.specs.declared.peer.Peer.{Peer}
use Rattle.sgsn.specs.Making.{all_different}
use Rattle.sgsn.specs.Peers.{peer_from, peers_sends}
use Rattle.sgsn.specs.Delivering.{frame_plan}
use Rattle.sgsn.specs.Recovering.{lost, resets, records_ticked, records_sends, last_between, ticked, tick_sends}
use Rattle.vlr.specs.State as vlr
use Rattle.law.specs.Sound.{Pair, Sure, harms, is_acknowledgement, asked, peer_of, reset_in, due_in}
use Rattle.law.proofs.Premises.{Among, Fit, Given, Sends, SgsnMove}
use Rattle.law.proofs.Losses.{lost_above, lost_before, lost_due, lost_none, lost_other}
use Rattle.law.proofs.Quieter.{quieter_doubtful, quieter_map, FoundQuieter, found_quieter, unsure_map, found_unsure, doubtful_nowhere}
use Rattle.law.proofs.Sendings.{among_stamps, among_either}
use Rattle.law.proofs.RecordTicks.{quieter_all_ticked, records_other, Free, records_free}
use Rattle.law.proofs.Taken.{taken_by_frame}
use Rattle.law.proofs.Ticks.{ticked_above, ticked_repeat, ticked_before, ticked_due, doubted_there, Says, rows_say}

module _ (s : sgsn.State) (v : vlr.State) (ws : List (List ℕ)) (ls : Stamps) (F : Fit s) (P : Pair s v ws ls) where
  pub lost_moves : SgsnMove s (lost s) v ws ls (Sends s.own s.last (resets s) v.own)
  lost_moves = record {
    own = refl;
    last = omega arith;
    stamps = λ g n. let h = among_stamps s.own s.last (resets s) g n.0 in (h.0, omega (arith, h.1, length-map s.peers (λ p. reset_to s.own p.vlr.node)));
    sure = λ m h. absurd (unsure m h);
    harmless = λ m h. absurd (unsure m h);
    asking = λ m r a. inl (asked_so m r a);
    behind = λ m r a b g n. absurd (lost_none v.own s.own s.last s.peers g n.0 n.1 (lost_above v.own s.last r s.peers (P.asked_before m r (asked_so m r a)) b));
    reset = λ r l a. ap (λ o. is_above (reset_in o) r) (lost_above v.own s.last r s.peers l a);
    reset_before = λ x e. lost_before v.own s.last x s.peers e;
    due = λ x d. inl (sym (lost_due v.own s.last s.peers) ∙ d);
    acknowledged = λ g n a. absurd (true≢false (sym a ∙ lost_other s.own s.last s.peers g n.0));
  }
    where
      unsure : (m : Imsi) → Sure (lost s) v.own m → ⊥
      unsure m h = found_unsure v.own (map doubtful s.records) m (unsure_map v.own doubtful (doubtful_nowhere _) s.records) h

      asked_so : (m : Imsi) (r : ℕ) → asked (lost s) v.own m ≡ Some r → asked s v.own m ≡ Some r
      asked_so m r a = (found_quieter s.records (map doubtful s.records) m (quieter_map doubtful quieter_doubtful s.records)).asking v.own r a

  -- no two of its VLRs have one number
  pub ticked_moves : all_different (sgsn.vlrs_of s) ≡ true → SgsnMove s (ticked s) v ws ls (Sends s.own s.last (tick_sends s) v.own)
  ticked_moves differ = record {
    own = refl;
    last = omega arith;
    stamps = λ g n. among_stamps s.own s.last (tick_sends s) g n.0;
    sure = λ m h. inl ((seen m).sure _ h);
    harmless = λ m h g n. ⊎_elim
        (λ y. spared m g (λ t. (free m g y t).0 ((seen m).sure _ h)))
        (λ y. let x = said g y n.1 in ⊎_elim
        (λ k. ap (harms m) k.0)
        (λ k. absurd (found_unsure v.own (ticked s).records m (doubted_there v.own s.peers x.0 (records_ticked s.last s.records) x.1 k.1) h))
        x.2)
        (either g n.0);
    asking = λ m r a. inl ((seen m).asking v.own r a);
    behind = λ m r a b g n l. ⊎_elim
        (λ y. spared m g (λ t. (free m g y t).1 r ((seen m).asking v.own r a)))
        (λ y. let x = said g y n.1 in ⊎_elim
        (λ k. ap (harms m) k.0)
        (λ k. absurd (ticked_repeat s.own v.own (last_between s) r s.peers x.0 (old r (P.asked_before m r ((seen m).asking v.own r a))) x.1 k.1 b))
        x.2)
        (either g n.0);
    reset = λ r l a. ticked_above s.own v.own (last_between s) r s.peers (old r l) a;
    reset_before = λ x e. ⊎_elim
        (λ y. omega (arith, P.reset_before x y))
        (λ y. omega (arith, y, length-append (records_sends s.records) (peers_sends s.own s.peers)))
        (ticked_before s.own v.own (last_between s) x s.peers e);
    due = λ x d. inl (ticked_due s.own v.own (last_between s) x s.peers d);
    acknowledged = λ g n a. ⊎_elim
        (λ y. absurd (true≢false (sym a ∙ records_other s.own s.last s.records g y)))
        (λ y. let x = said g y n.1 in ⊎_elim
        (λ k. ap due_in x.1 ∙ k.1)
        (λ k. absurd (true≢false (sym a ∙ ap is_acknowledgement k.0)))
        x.2)
        (either g n.0);
  }
    where
      seen : (m : Imsi) → FoundQuieter (sgsn.record_at s m) (sgsn.record_at (ticked s) m)
      seen m = found_quieter s.records (ticked s).records m (quieter_all_ticked s)

      old : (r : ℕ) → r ≤ s.last → r ≤ last_between s
      old r l = omega (arith, l)

      either : (g : Frame) → Among g (frames_of s.own s.last (tick_sends s)) → Among g (frames_of s.own s.last (records_sends s.records)) ⊎ Among g (frames_of s.own (last_between s) (peers_sends s.own s.peers))
      either g n = among_either s.own s.last (records_sends s.records) (peers_sends s.own s.peers) g n

      free : (m : Imsi) (g : Frame) → Among g (frames_of s.own s.last (records_sends s.records)) → harms m g.message ≡ true → Free v.own (sgsn.record_at s m)
      free m g n h = records_free s.own (sgsn.vlrs_of s) v.own s.last s.records m g F.rise F.fits n h

      said : (g : Frame) → Among g (frames_of s.own (last_between s) (peers_sends s.own s.peers)) → g.destination ≡ v.own → (p : Peer) × (peer_of v.own s.peers ≡ Some p) × Says s.own p.row g
      said g n to = rows_say s.own v.own (last_between s) s.peers g differ n to

      spared : (m : Imsi) (g : Frame) → (harms m g.message ≡ true → ⊥) → harms m g.message ≡ false
      spared m g never = ⊎_elim (λ t. absurd (never t)) (λ f. f) (cases_Bool (harms m g.message))

  -- after a take for the SGSN
  pub taken_moves : (f : Frame) (ws1 : List (List ℕ)) (ls1 : Stamps) → Given s.own f ws ls ws1 ls1 → SgsnMove s (frame_plan s f).after v ws1 ls1 (Sends s.own s.last (frame_plan s f).sends v.own)
  taken_moves f ws1 ls1 G = taken_by_frame s v ws ls F P f ws1 ls1 G (peer_from f s.peers) refl
