-- What an SGSN keeps of a VLR, after a frame from it.
use Rattle.std.proofs.Common.{◌≡◌, ℕ, ◌⊎◌, inl, inr, Bool, true, false, cond, ◌&&◌, List, [], ◌∷◌, Some, Option, refl, sym, ap, ◌∙◌, subst, ⊎_elim}
use Rattle.std.proofs.lemmas.Bool.{true≢false, cases_Bool, cond-true, cond-false, cond_both, and_parts}
use Rattle.std.proofs.lemmas.Option.{none-some, same_Some}
use Rattle.elements.specs.declared.node.NodeNumber.{NodeNumber}
use Rattle.elements.specs.Nodes.{same_node}
use Rattle.frames.specs.declared.frame.Frame.{Frame}
use Rattle.carrier.specs.Nodes.{same_node_lem, own_node}
use Rattle.station.specs.declared.row.Row.{Row}
use Rattle.station.specs.Receiving.{names_sender}
use Rattle.station.specs.Rows.{reset_taken}
use Rattle.sgsn.specs.declared.peer.Peer.{Peer}
use Rattle.sgsn.specs.Peers.{with_row, sent_it, peer_from, row_changed}
use Rattle.law.specs.Sound.{peer_of, due_in}

module _ (f : Frame) where
  -- the VLR that sent the frame is its source, and the frame names no other
  pub its_source : (p : Peer) → sent_it f p ≡ true → f.source ≡ p.vlr.node
  its_source p e = same_node_lem f.source p.vlr.node (and_parts (same_node f.source p.vlr.node) (names_sender p.vlr.node f.message) e).0

  pub sent_by : (ps : List Peer) (p : Peer) → peer_from f ps ≡ Some p → sent_it f p ≡ true
  sent_by [] p e = absurd (none-some p e)
  sent_by (q ∷ ps) p e = ⊎_elim
      (λ t. subst (λ x. sent_it f x ≡ true) (same_Some q p (sym (cond-true (sent_it f q) (Some q) (peer_from f ps) t) ∙ e)) t)
      (λ d. sent_by ps p (sym (cond-false (sent_it f q) (Some q) (peer_from f ps) d) ∙ e))
      (cases_Bool (sent_it f q))

  -- it is the VLR with the number of the frame's source
  pub its_peer : (ps : List Peer) (p : Peer) → peer_from f ps ≡ Some p → peer_of f.source ps ≡ Some p
  its_peer [] p e = absurd (none-some p e)
  its_peer (q ∷ ps) p e = ⊎_elim
      (λ t. cond-true (same_node q.vlr.node f.source) (Some q) (peer_of f.source ps) (ap (λ n. same_node q.vlr.node n) (its_source q t) ∙ own_node q.vlr.node)
      ∙ sym (cond-true (sent_it f q) (Some q) (peer_from f ps) t) ∙ e)
      (λ d. let rest : peer_from f ps ≡ Some p = sym (cond-false (sent_it f q) (Some q) (peer_from f ps) d) ∙ e in
      cond-false (same_node q.vlr.node f.source) (Some q) (peer_of f.source ps) (other q p d (sent_by ps p rest)) ∙ its_peer ps p rest)
      (cases_Bool (sent_it f q))
    where
      other : (q p : Peer) → sent_it f q ≡ false → sent_it f p ≡ true → same_node q.vlr.node f.source ≡ false
      other q p d t = ⊎_elim
          (λ h. let same : q.vlr.node ≡ p.vlr.node = same_node_lem q.vlr.node f.source h ∙ its_source p t in absurd (true≢false (sym t ∙ ap (λ n. same_node f.source n && names_sender n f.message) (sym same) ∙ d)))
          (λ h. h)
          (cases_Bool (same_node q.vlr.node f.source))

  -- what a change of its row does not touch stays
  pub row_kept : {X : Type 0} (g : Row → Row) (h : Option Peer → X) → ((p : Peer) → h (Some (with_row p (g p.row))) ≡ h (Some p)) → (n : NodeNumber) (ps : List Peer) → h (peer_of n (row_changed f g ps)) ≡ h (peer_of n ps)
  row_kept g h keeps n [] = refl
  row_kept g h keeps n (p ∷ ps) =
      cond_both (sent_it f p) (with_row p (g p.row) ∷ ps) (p ∷ row_changed f g ps) (λ l. h (peer_of n l) ≡ h (peer_of n (p ∷ ps)))
      (λ e. first (same_node p.vlr.node n)) (λ e. rest (same_node p.vlr.node n) (row_kept g h keeps n ps))
    where
      first : (b : Bool) → h (cond b (Some (with_row p (g p.row))) (peer_of n ps)) ≡ h (cond b (Some p) (peer_of n ps))
      first true = keeps p
      first false = refl

      rest : (b : Bool) → h (peer_of n (row_changed f g ps)) ≡ h (peer_of n ps) → h (cond b (Some p) (peer_of n (row_changed f g ps))) ≡ h (cond b (Some p) (peer_of n ps))
      rest true below = refl
      rest false below = below

  -- a RESET is to be acknowledged to the VLR that sent it
  pub reset_due : (k : ℕ) (n : NodeNumber) (ps : List Peer) (x : ℕ) → due_in (peer_of n (row_changed f (λ r. reset_taken r k) ps)) ≡ Some x → (due_in (peer_of n ps) ≡ Some x) ⊎ ((x ≡ k) × (n ≡ f.source))
  reset_due k n [] x d = inl d
  reset_due k n (p ∷ ps) x d =
      cond_both (sent_it f p) (with_row p (reset_taken p.row k) ∷ ps) (p ∷ row_changed f (λ r. reset_taken r k) ps) (λ l. due_in (peer_of n l) ≡ Some x → (due_in (peer_of n (p ∷ ps)) ≡ Some x) ⊎ ((x ≡ k) × (n ≡ f.source)))
      (λ e. first (same_node p.vlr.node n) refl e) (λ e. rest (same_node p.vlr.node n) (reset_due k n ps x)) d
    where
      first : (b : Bool) → same_node p.vlr.node n ≡ b → sent_it f p ≡ true → due_in (cond b (Some (with_row p (reset_taken p.row k))) (peer_of n ps)) ≡ Some x → (due_in (cond b (Some p) (peer_of n ps)) ≡ Some x) ⊎ ((x ≡ k) × (n ≡ f.source))
      first true q e d = inr (sym (same_Some k x d), sym (same_node_lem p.vlr.node n q) ∙ sym (its_source p e))
      first false q e d = inl d

      rest : (b : Bool) → (due_in (peer_of n (row_changed f (λ r. reset_taken r k) ps)) ≡ Some x → (due_in (peer_of n ps) ≡ Some x) ⊎ ((x ≡ k) × (n ≡ f.source)))
          → due_in (cond b (Some p) (peer_of n (row_changed f (λ r. reset_taken r k) ps))) ≡ Some x → (due_in (cond b (Some p) (peer_of n ps)) ≡ Some x) ⊎ ((x ≡ k) × (n ≡ f.source))
      rest true below d = inl d
      rest false below d = below d
