-- What stands between the ends still stands after a take, a move of the SGSN, and a move of the VLR.
use Rattle.std.proofs.Common.{◌≡◌, ℕ, ◌≤◌, ◌⊎◌, inl, inr, true, List, Some, sym, ap, ◌∙◌, subst, ⊎_elim, arith}
use Rattle.std.proofs.lemmas.Bool.{true≢false}
use Rattle.std.proofs.lemmas.Option.{same_Some}
use Rattle.imsi.specs.declared.Imsi.{Imsi}
use Rattle.frames.specs.declared.frame.Frame.{Frame}
use Rattle.carrier.specs.Order.{Stamps}
use Rattle.context.specs.Answering.{is_above}
use Rattle.sgsn.specs.State as sgsn
use Rattle.vlr.specs.State as vlr
use Rattle.law.specs.Sound.{Live, Sure, SureBy, Pair, due_to, asked, reset_to, accepts}
use Rattle.law.proofs.Premises.{SgsnMove, VlrMove, VlrRestart}

module _ (s : sgsn.State) (v : vlr.State) (ws ws2 : List (List ℕ)) (ls ls2 : Stamps) (P : Pair s v ws ls) where
  -- fewer frames can be given, and more were
  pub shrunk : ((g : Frame) → Live ws2 ls2 s.own v.own g → Live ws ls s.own v.own g)
      → ((g : Frame) → Live ws2 ls2 v.own s.own g → Live ws ls v.own s.own g)
      → ls s.own v.own ≤ ls2 s.own v.own → ls v.own s.own ≤ ls2 v.own s.own
      → Pair s v ws2 ls2
  shrunk D U down up =
      record {
        its = P.its;
        quiet = P.quiet;
        due = P.due;
        acknowledged = λ f l. P.acknowledged f (D f l);
        heard = λ e x r. omega (arith, P.heard e x r);
        heard_due = λ x d. (omega (arith, P.heard_due x d), (P.heard_due x d).1);
        heard_acknowledged = λ f l a. (omega (arith, P.heard_acknowledged f (D f l) a), (P.heard_acknowledged f (D f l) a).1);
        clear = λ m h f l. P.clear m h f (D f l);
        granted = λ m r a b f l. P.granted m r a b f (U f l);
        pending = λ m r a b f l. P.pending m r a b f (D f l);
        known = λ m f l a. (omega (arith, P.known m f (U f l) a), (P.known m f (U f l) a).1);
        down = λ f l. P.down f (D f l);
        up = λ f l. P.up f (U f l);
        asked_before = P.asked_before;
        reset_before = P.reset_before;
      }

  -- the SGSN moved
  pub sgsn_moved : (t : sgsn.State) (New : Frame → Type 0) → SgsnMove s t v ws ls New
      → ((g : Frame) → Live ws2 ls2 s.own v.own g → Live ws ls s.own v.own g ⊎ New g)
      → ((g : Frame) → Live ws2 ls2 v.own s.own g → Live ws ls v.own s.own g)
      → ls2 s.own v.own ≡ ls s.own v.own → ls2 v.own s.own ≡ ls v.own s.own
      → Pair t v ws2 ls2
  sgsn_moved t New M D U down up =
      let to : (g : Frame) → Live ws2 ls2 t.own v.own g → Live ws ls s.own v.own g ⊎ New g = λ g l. D g (subst (λ n. Live ws2 ls2 n v.own g) M.own l) in
      let from : (g : Frame) → Live ws2 ls2 v.own t.own g → Live ws ls v.own s.own g = λ g l. U g (subst (λ n. Live ws2 ls2 v.own n g) M.own l) in
      let given : ls2 v.own t.own ≡ ls v.own s.own = ap (ls2 v.own) M.own ∙ up in
      let taken : ls2 t.own v.own ≡ ls s.own v.own = ap (λ n. ls2 n v.own) M.own ∙ down in
      let when_due : (x : ℕ) → due_to s v.own ≡ Some x → v.row.reset ≡ Some x → (m : Imsi) → Sure t v.own m → SureBy v m = λ x d r m h. ⊎_elim (λ q. P.due x d r m q) (λ G. G.due x d r) (M.sure m h) in
      record {
        its = P.its ∙ sym M.own;
        quiet = λ e m h. ⊎_elim (λ q. P.quiet e m q) (λ G. G.quiet e) (M.sure m h);
        due = λ x d r m h. ⊎_elim (λ q. when_due x q r m h) (λ H. absurd (H.doubted m h)) (M.due x d);
        acknowledged = λ f l a r m h. ⊎_elim
            (λ k. ⊎_elim (λ q. P.acknowledged f k a r m q) (λ G. G.acknowledged f k a r) (M.sure m h))
            (λ n. when_due f.answers (M.acknowledged f n a) r m h)
            (to f l);
        heard = λ e x r. omega (arith, P.heard e x r, given);
        heard_due = λ x d. ⊎_elim
            (λ q. let p = P.heard_due x q in (omega (arith, p.0, given), p.1))
            (λ H. (omega (arith, H.given, given), H.sent))
            (M.due x d);
        heard_acknowledged = λ f l a.
            let p = ⊎_elim (λ k. P.heard_acknowledged f k a) (λ n. P.heard_due f.answers (M.acknowledged f n a)) (to f l) in
            (omega (arith, p.0, given), p.1);
        clear = λ m h f l. ⊎_elim
            (λ k. ⊎_elim (λ q. P.clear m q f k) (λ G. G.clear f k) (M.sure m h))
            (λ n. M.harmless m h f n)
            (to f l);
        granted = λ m r a b f l c e. ⊎_elim
            (λ q. P.granted m r q (M.reset r (P.asked_before m r q) b) f (from f l) c e)
            (λ q. absurd (omega (arith, P.known m f (from f l) c, q.0, e)))
            (M.asking m r a);
        pending = λ m r a b f l c. ⊎_elim
            (λ k. ⊎_elim
            (λ q. P.pending m r q (M.reset r (P.asked_before m r q) b) f k c)
            (λ q. absurd (omega (arith, P.down f k, q.0, c)))
            (M.asking m r a))
            (λ n. M.behind m r a b f n c)
            (to f l);
        known = λ m f l a. let p = P.known m f (from f l) a in (omega (arith, p.0, taken), omega (arith, p.1, M.last));
        down = λ f l. ⊎_elim (λ k. omega (arith, P.down f k, M.last)) (λ n. (M.stamps f n).1) (to f l);
        up = λ f l. P.up f (from f l);
        asked_before = λ m r a. ⊎_elim (λ q. omega (arith, P.asked_before m r q, M.last)) (λ q. q.1) (M.asking m r a);
        reset_before = M.reset_before;
      }

  -- the VLR moved
  pub vlr_moved : (w : vlr.State) (New : Frame → Type 0) → VlrMove s v w ws ls New
      → ((g : Frame) → Live ws2 ls2 s.own v.own g → Live ws ls s.own v.own g)
      → ((g : Frame) → Live ws2 ls2 v.own s.own g → Live ws ls v.own s.own g ⊎ New g)
      → ls2 s.own v.own ≡ ls s.own v.own → ls2 v.own s.own ≡ ls v.own s.own
      → Pair s w ws2 ls2
  vlr_moved w New M D U down up =
      let to : (g : Frame) → Live ws2 ls2 s.own w.own g → Live ws ls s.own v.own g = λ g l. D g (subst (λ n. Live ws2 ls2 s.own n g) M.own l) in
      let from : (g : Frame) → Live ws2 ls2 w.own s.own g → Live ws ls v.own s.own g ⊎ New g = λ g l. U g (subst (λ n. Live ws2 ls2 n s.own g) M.own l) in
      let given : ls2 w.own s.own ≡ ls v.own s.own = ap (λ n. ls2 n s.own) M.own ∙ up in
      let taken : ls2 s.own w.own ≡ ls s.own v.own = ap (ls2 s.own) M.own ∙ down in
      let its_sure : (m : Imsi) → Sure s w.own m → Sure s v.own m = λ m h. subst (λ n. Sure s n m) M.own h in
      let its_asked : (m : Imsi) (r : ℕ) → asked s w.own m ≡ Some r → asked s v.own m ≡ Some r = λ m r a. subst (λ n. asked s n m ≡ Some r) M.own a in
      let its_due : (x : ℕ) → due_to s w.own ≡ Some x → due_to s v.own ≡ Some x = λ x d. subst (λ n. due_to s n ≡ Some x) M.own d in
      let its_reset : (x : ℕ) → w.row.reset ≡ Some x → v.row.reset ≡ Some x = λ x r. sym M.reset ∙ r in
      let its_above : (r : ℕ) → is_above (reset_to s w.own) r ≡ true → is_above (reset_to s v.own) r ≡ true = λ r b. subst (λ n. is_above (reset_to s n) r ≡ true) M.own b in
      let kept : (m : Imsi) → Sure s v.own m → SureBy v m → SureBy w m = λ m h b. ⊎_elim (λ q. q) (λ H. absurd (H.unsure h)) (M.sure m b) in
      record {
        its = ap (λ n. n.node) M.sgsn ∙ P.its;
        quiet = λ e m h. let i = its_sure m h in ⊎_elim (λ q. kept m i (P.quiet q m i)) (λ E. kept m i (E.agreed m i)) (M.recovery e);
        due = λ x d r m h. let i = its_sure m h in kept m i (P.due x (its_due x d) (its_reset x r) m i);
        acknowledged = λ f l a r m h. let i = its_sure m h in kept m i (P.acknowledged f (to f l) a (its_reset f.answers r) m i);
        heard = λ e x r. ⊎_elim
            (λ q. omega (arith, P.heard q x (its_reset x r), given))
            (λ E. omega (arith, E.given, same_Some E.stamp x (sym E.reset ∙ its_reset x r), given))
            (M.recovery e);
        heard_due = λ x d. let p = P.heard_due x (its_due x d) in (omega (arith, p.0, given), omega (arith, p.1, M.last));
        heard_acknowledged = λ f l a. let p = P.heard_acknowledged f (to f l) a in (omega (arith, p.0, given), omega (arith, p.1, M.last));
        clear = λ m h f l. P.clear m (its_sure m h) f (to f l);
        granted = λ m r a b f l c e. ⊎_elim
            (λ k. ⊎_elim
            (λ q. ⊎_elim (λ z. inl z) (λ H. absurd (H.unasked r (its_asked m r a) (its_above r b) f k c e)) (M.sure m q))
            (λ q. inr (q.0, M.reset ∙ q.1, q.2))
            (P.granted m r (its_asked m r a) (its_above r b) f k c e))
            (λ n. inl ((M.accepting m f n c).0))
            (from f l);
        pending = λ m r a b f l c. P.pending m r (its_asked m r a) (its_above r b) f (to f l) c;
        known = λ m f l a. ⊎_elim
            (λ k. let p = P.known m f k a in (omega (arith, p.0, taken), p.1))
            (λ n. let p = M.accepting m f n a in (omega (arith, p.1, taken), p.2))
            (from f l);
        down = λ f l. P.down f (to f l);
        up = λ f l. ⊎_elim (λ k. omega (arith, P.up f k, M.last)) (λ n. (M.stamps f n).1) (from f l);
        asked_before = λ m r a. P.asked_before m r (its_asked m r a);
        reset_before = λ x e. P.reset_before x (subst (λ n. reset_to s n ≡ Some x) M.own e);
      }

  -- the VLR lost its marks, or repeated its RESET
  pub vlr_restarted : (w : vlr.State) (New : Frame → Type 0) → VlrRestart s v w ws ls New
      → ((g : Frame) → Live ws2 ls2 s.own v.own g → Live ws ls s.own v.own g)
      → ((g : Frame) → Live ws2 ls2 v.own s.own g → Live ws ls v.own s.own g ⊎ New g)
      → ls2 s.own v.own ≡ ls s.own v.own → ls2 v.own s.own ≡ ls v.own s.own
      → Pair s w ws2 ls2
  vlr_restarted w New M D U down up =
      let to : (g : Frame) → Live ws2 ls2 s.own w.own g → Live ws ls s.own v.own g = λ g l. D g (subst (λ n. Live ws2 ls2 s.own n g) M.own l) in
      let from : (g : Frame) → Live ws2 ls2 w.own s.own g → Live ws ls v.own s.own g ⊎ New g = λ g l. U g (subst (λ n. Live ws2 ls2 n s.own g) M.own l) in
      let given : ls2 w.own s.own ≡ ls v.own s.own = ap (λ n. ls2 n s.own) M.own ∙ up in
      let taken : ls2 s.own w.own ≡ ls s.own v.own = ap (ls2 s.own) M.own ∙ down in
      let its_sure : (m : Imsi) → Sure s w.own m → Sure s v.own m = λ m h. subst (λ n. Sure s n m) M.own h in
      let its_asked : (m : Imsi) (r : ℕ) → asked s w.own m ≡ Some r → asked s v.own m ≡ Some r = λ m r a. subst (λ n. asked s n m ≡ Some r) M.own a in
      let its_due : (x : ℕ) → due_to s w.own ≡ Some x → due_to s v.own ≡ Some x = λ x d. subst (λ n. due_to s n ≡ Some x) M.own d in
      let its_above : (r : ℕ) → is_above (reset_to s w.own) r ≡ true → is_above (reset_to s v.own) r ≡ true = λ r b. subst (λ n. is_above (reset_to s n) r ≡ true) M.own b in
      let new_reset : (x : ℕ) → x ≤ v.last → w.row.reset ≡ Some x → ⊥ = λ x b r. omega (arith, b, M.later, same_Some M.stamp x (sym M.reset ∙ r)) in
      let no_accept : (m : Imsi) (f : Frame) → New f → accepts m f.message ≡ true → ⊥ = λ m f n a. true≢false (sym a ∙ M.accepting m f n) in
      record {
        its = ap (λ n. n.node) M.sgsn ∙ P.its;
        quiet = λ e. absurd (M.recovery e);
        due = λ x d r. absurd (new_reset x ((P.heard_due x (its_due x d)).1) r);
        acknowledged = λ f l a r. absurd (new_reset f.answers ((P.heard_acknowledged f (to f l) a).1) r);
        heard = λ e. absurd (M.recovery e);
        heard_due = λ x d. let p = P.heard_due x (its_due x d) in (omega (arith, p.0, given), omega (arith, p.1, M.last));
        heard_acknowledged = λ f l a. let p = P.heard_acknowledged f (to f l) a in (omega (arith, p.0, given), omega (arith, p.1, M.last));
        clear = λ m h f l. P.clear m (its_sure m h) f (to f l);
        granted = λ m r a b f l c e. ⊎_elim
            (λ k. inr (M.stamp, M.reset, omega (arith, P.up f k, M.later)))
            (λ n. absurd (no_accept m f n c))
            (from f l);
        pending = λ m r a b f l c. P.pending m r (its_asked m r a) (its_above r b) f (to f l) c;
        known = λ m f l a. ⊎_elim
            (λ k. let p = P.known m f k a in (omega (arith, p.0, taken), p.1))
            (λ n. absurd (no_accept m f n a))
            (from f l);
        down = λ f l. P.down f (to f l);
        up = λ f l. ⊎_elim (λ k. omega (arith, P.up f k, M.last)) (λ n. (M.stamps f n).1) (from f l);
        asked_before = λ m r a. P.asked_before m r (its_asked m r a);
        reset_before = λ x e. P.reset_before x (subst (λ n. reset_to s n ≡ Some x) M.own e);
      }
