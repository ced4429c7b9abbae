-- What each move of an SGSN keeps: its number, its VLRs, and that its records are such as it may keep.
use Rattle.std.proofs.Common.{◌≡◌, ℕ, true, List, [], ◌∷◌, map, Some, None, Option, sym, refl, ap, ◌∙◌, subst, ⊎_elim}
use Rattle.std.specs.List.{list_all}
use Rattle.std.proofs.lemmas.Bool.{cases_Bool, cond-true, cond-false, or_left, or_right}
use Rattle.std.proofs.lemmas.Option.{none-some, same_Some}
use Rattle.imsi.specs.declared.Imsi.{Imsi}
use Rattle.elements.specs.Nodes.{same_node}
use Rattle.messages.specs.declared.message.Message.{Message}
use Rattle.messages.specs.declared.message.Message.TheVariants.{Paging, Reset, ResetAcknowledge}
use Rattle.frames.specs.declared.frame.Frame.{Frame}
use Rattle.carrier.specs.Nodes.{own_node}
use Rattle.directory.specs.Lookup.{stored}
use Rattle.messages.specs.Mobiles.{mobile_of}
use Rattle.station.specs.Rows.{reset_taken, acknowledged}
use Rattle.context.specs.declared.context.Context.{Context}
use Rattle.context.specs.Contexts.{whose, doubtful, doubtful_at}
use Rattle.sgsn.specs.declared.peer.Peer.{Peer}
use Rattle.sgsn.specs.Fitting.{is_one_of, fits_in}
use Rattle.sgsn.specs.Peers.{sent_it, peer_from}
use Rattle.sgsn.specs.State.{State, vlrs_of, record_at}
use Rattle.sgsn.specs.Delivering.{noted, paged_by, answered_by, taken_by, taken, frame_plan}
use Rattle.sgsn.specs.Recovering.{lost, records_ticked, ticked, last_between}
use Rattle.sgsn.proofs.Fits.{fits_at, fits_stored, fits_map, fits_doubtful, fits_doubtful_at, fits_answered, fits_paged, fits_all_ticked, fits_doubted, vlrs_changed, vlrs_lost, vlrs_ticked}
use Rattle.law.proofs.Premises.{Fit, rising}
use Rattle.law.proofs.Quieter.{quieter_map, quieter_doubtful, quieter_doubtful_at}
use Rattle.law.proofs.RecordTicks.{quieter_all_ticked}
use Rattle.law.proofs.Rising.{rising_stored, rising_quieter}
use Rattle.law.proofs.OneRecord.{noted_at}

pub record Keeps (s t : State) : Type 0 where
  pub own : t.own ≡ s.own
  pub vlrs : vlrs_of t ≡ vlrs_of s
  pub fits : list_all (fits_in (vlrs_of s)) t.records ≡ true
  pub rise : rising (map whose t.records) ≡ true

-- so its records are still such as it may keep
pub still_fit : (s t : State) → Keeps s t → Fit t
still_fit s t K = record { fits = subst (λ vs. list_all (fits_in vs) t.records ≡ true) (sym K.vlrs) K.fits; rise = K.rise }

-- who sent a frame is one of them
one_of_them : (f : Frame) (ps : List Peer) (p : Peer) → peer_from f ps ≡ Some p → is_one_of (map (λ x. x.vlr) ps) p.vlr ≡ true
one_of_them f [] p e = absurd (none-some p e)
one_of_them f (q ∷ ps) p e = ⊎_elim
    (λ t. or_left _ _ (ap (λ v. same_node v.vlr.node p.vlr.node) (same_Some q p (sym (cond-true (sent_it f q) _ _ t) ∙ e)) ∙ own_node p.vlr.node))
    (λ n. or_right _ _ (one_of_them f ps p (sym (cond-false (sent_it f q) _ _ n) ∙ e)))
    (cases_Bool (sent_it f q))

module _ (s : State) (F : Fit s) where
  pub unchanged : Keeps s s
  unchanged = record { own = refl; vlrs = refl; fits = F.fits; rise = F.rise }

  -- a record is stored, with or without something sent
  pub stores : (n : ℕ) (r : Context) → fits_in (vlrs_of s) r ≡ true → Keeps s (record s { last = n; records = stored whose r s.records })
  stores n r e = record { own = refl; vlrs = refl; fits = fits_stored (vlrs_of s) r s.records F.fits e; rise = rising_stored r s.records F.rise }

  pub held : (i : Imsi) (r : Context) → record_at s i ≡ Some r → fits_in (vlrs_of s) r ≡ true
  held i r e = fits_at (vlrs_of s) s.records i r F.fits e

  pub keeps_lost : Keeps s (lost s)
  keeps_lost =
      record {
        own = refl;
        vlrs = vlrs_lost s.last s.peers;
        fits = fits_map (vlrs_of s) doubtful s.records (fits_doubtful (vlrs_of s)) F.fits;
        rise = rising_quieter s.records (map doubtful s.records) (quieter_map doubtful quieter_doubtful s.records) F.rise;
      }

  pub keeps_ticked : Keeps s (ticked s)
  keeps_ticked =
      record {
        own = refl;
        vlrs = vlrs_ticked s.own (last_between s) s.peers;
        fits = fits_doubted (vlrs_of s) s.peers (records_ticked s.last s.records) (fits_all_ticked (vlrs_of s) s.last s.records F.fits);
        rise = rising_quieter s.records (ticked s).records (quieter_all_ticked s) F.rise;
      }

  module _ (f : Frame) (p : Peer) where
    keeps_paged : (i : Imsi) (o : Option Context) → is_one_of (vlrs_of s) p.vlr ≡ true → record_at s i ≡ o → Keeps s (paged_by s f p o).after
    keeps_paged i None its e = unchanged
    keeps_paged i (Some r) its e = stores _ _ (fits_paged (vlrs_of s) p.vlr f.stamp r (held i r e) its)

    keeps_answered : (m : Message) (o : Option Context) → noted s m ≡ o → Keeps s (answered_by s f p o)
    keeps_answered m None e = unchanged
    keeps_answered m (Some r) e =
        let found = noted_at s (mobile_of m) r e in
        stores _ _ (fits_answered (vlrs_of s) p.vlr f.answers p.row.reset f.message r (held found.0 r found.1))

    keeps_taken_by : (m : Message) → is_one_of (vlrs_of s) p.vlr ≡ true → Keeps s (taken_by s f p m).after
    keeps_taken_by (Reset e) its =
        record {
          own = refl;
          vlrs = vlrs_changed f (λ r. reset_taken r f.stamp) s.peers;
          fits = fits_map (vlrs_of s) (doubtful_at p.vlr) s.records (fits_doubtful_at (vlrs_of s) p.vlr) F.fits;
          rise = rising_quieter s.records (map (doubtful_at p.vlr) s.records) (quieter_map (doubtful_at p.vlr) (quieter_doubtful_at p.vlr) s.records) F.rise;
        }
    keeps_taken_by (ResetAcknowledge e) its = record { own = refl; vlrs = vlrs_changed f (λ r. acknowledged r f.answers) s.peers; fits = F.fits; rise = F.rise }
    keeps_taken_by (Paging i t c) its = keeps_paged i (record_at s i) its refl
    keeps_taken_by m its = keeps_answered m (noted s m) refl

  keeps_taken : (f : Frame) (o : Option Peer) → peer_from f s.peers ≡ o → Keeps s (taken s f o).after
  keeps_taken f None e = unchanged
  keeps_taken f (Some p) e = keeps_taken_by f p f.message (one_of_them f s.peers p e)

  pub keeps_frame : (f : Frame) → Keeps s (frame_plan s f).after
  keeps_frame f = keeps_taken f (peer_from f s.peers) refl
