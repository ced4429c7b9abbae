-- The RESETs that an SGSN sends to all its VLRs when it lost its marks.
use Rattle.std.proofs.Common.{◌≡◌, ℕ, ◌+◌, ◌≤◌, Bool, true, false, cond, List, [], ◌∷◌, length, inl, inr, Some, None, Option, refl, sym, ap, ◌∙◌, arith}
use Rattle.std.proofs.lemmas.Bool.{true≢false, ltb-true}
use Rattle.std.proofs.lemmas.Option.{none-some, same_Some}
use Rattle.elements.specs.declared.node.NodeNumber.{NodeNumber}
use Rattle.elements.specs.Nodes.{same_node}
use Rattle.frames.specs.declared.frame.Frame.{Frame}
use Rattle.carrier.specs.Nodes.{own_node}
use Rattle.station.specs.Rows.{lost_row}
use Rattle.station.specs.Sends.{frames_of}
use Rattle.context.specs.Answering.{is_above}
use Rattle.sgsn.specs.declared.peer.Peer.{Peer}
use Rattle.sgsn.specs.Peers.{with_row, peers_lost, peers_resets}
use Rattle.law.specs.Sound.{peer_of, reset_in, due_in, is_acknowledgement}
use Rattle.law.proofs.Premises.{Among}

module _ (n : NodeNumber) where
  -- no stamp so far is above the RESET that went to a VLR
  above_step : (b : Bool) (last r : ℕ) (p : Peer) (o o2 : Option Peer) → r ≤ last → (is_above (reset_in o2) r ≡ true → o ≡ None) → is_above (reset_in (cond b (Some (with_row p (lost_row p.row (last + 1)))) o2)) r ≡ true → cond b (Some p) o ≡ None
  above_step true last r p o o2 l below a = absurd (omega (arith, ltb-true (last + 1) r a, l))
  above_step false last r p o o2 l below a = below a

  pub lost_above : (last r : ℕ) (ps : List Peer) → r ≤ last → is_above (reset_in (peer_of n (peers_lost last ps))) r ≡ true → peer_of n ps ≡ None
  lost_above last r [] l a = refl
  lost_above last r (p ∷ ps) l a = above_step (same_node p.vlr.node n) last r p (peer_of n ps) (peer_of n (peers_lost (last + 1) ps)) l (lost_above (last + 1) r ps (omega (arith, l))) a

  -- its stamp is one of those that were sent
  before_step : (b : Bool) (last x m : ℕ) (p : Peer) (o2 : Option Peer) → (reset_in o2 ≡ Some x → x ≤ (last + 1) + m) → reset_in (cond b (Some (with_row p (lost_row p.row (last + 1)))) o2) ≡ Some x → x ≤ last + (1 + m)
  before_step true last x m p o2 below e = omega (arith, same_Some (last + 1) x e)
  before_step false last x m p o2 below e = omega (arith, below e)

  pub lost_before : (last x : ℕ) (ps : List Peer) → reset_in (peer_of n (peers_lost last ps)) ≡ Some x → x ≤ last + length ps
  lost_before last x [] e = absurd (none-some x e)
  lost_before last x (p ∷ ps) e = let h = before_step (same_node p.vlr.node n) last x (length ps) p (peer_of n (peers_lost (last + 1) ps)) (lost_before (last + 1) x ps) e in omega (arith, h)

  -- what is to be acknowledged stays
  due_step : (b : Bool) (last : ℕ) (p : Peer) (o o2 : Option Peer) → due_in o2 ≡ due_in o → due_in (cond b (Some (with_row p (lost_row p.row (last + 1)))) o2) ≡ due_in (cond b (Some p) o)
  due_step true last p o o2 below = refl
  due_step false last p o o2 below = below

  pub lost_due : (last : ℕ) (ps : List Peer) → due_in (peer_of n (peers_lost last ps)) ≡ due_in (peer_of n ps)
  lost_due last [] = refl
  lost_due last (p ∷ ps) = due_step (same_node p.vlr.node n) last p (peer_of n ps) (peer_of n (peers_lost (last + 1) ps)) (lost_due (last + 1) ps)

  -- where no VLR is, no frame goes
  rest_none : (b : Bool) (p : Peer) (o : Option Peer) → cond b (Some p) o ≡ None → (b ≡ false) × (o ≡ None)
  rest_none true p o e = absurd (none-some p (sym e))
  rest_none false p o e = (refl, e)

  pub lost_none : (own : NodeNumber) (last : ℕ) (ps : List Peer) (g : Frame) → Among g (frames_of own last (peers_resets own ps)) → g.destination ≡ n → peer_of n ps ≡ None → ⊥
  lost_none own last [] g a to e = a
  lost_none own last (p ∷ ps) g (inl q) to e =
      let there : p.vlr.node ≡ n = sym (ap (λ f. f.destination) q) ∙ to in
      true≢false (sym (own_node n) ∙ ap (λ k. same_node k n) (sym there) ∙ (rest_none (same_node p.vlr.node n) p (peer_of n ps) e).0)
  lost_none own last (p ∷ ps) g (inr a) to e = lost_none own (last + 1) ps g a to (rest_none (same_node p.vlr.node n) p (peer_of n ps) e).1

-- each frame is a RESET
pub lost_other : (own : NodeNumber) (last : ℕ) (ps : List Peer) (g : Frame) → Among g (frames_of own last (peers_resets own ps)) → is_acknowledgement g.message ≡ false
lost_other own last [] g a = absurd a
lost_other own last (p ∷ ps) g (inl q) = ap (λ f. is_acknowledgement f.message) q
lost_other own last (p ∷ ps) g (inr a) = lost_other own (last + 1) ps g a
