-- What is known of the frames that an end sends, and of those that wait after a take.
use Rattle.std.proofs.Common.{◌≡◌, ℕ, ◌+◌, ◌<◌, ◌≤◌, ◌⊎◌, Bool, true, false, List, [], ◌∷◌, ◌++◌, length, inl, inr, refl, sym, ap, ◌∙◌, subst, ⊎_elim, arith}
use Rattle.std.specs.List.{list_all}
use Rattle.std.proofs.lemmas.Bool.{and_parts, true≢false}
use Rattle.elements.specs.declared.node.NodeNumber.{NodeNumber}
use Rattle.elements.specs.Nodes.{same_node}
use Rattle.messages.specs.declared.message.Message.{Message}
use Rattle.frames.specs.declared.frame.Frame.{Frame}
use Rattle.carrier.specs.Nodes.{same_node_lem, own_node}
use Rattle.carrier.specs.Order.{Stamps}
use Rattle.station.specs.declared.sending.Outgoing.{Outgoing}
use Rattle.station.specs.Sends.{frames_of}
use Rattle.law.specs.Sound.{Live}
use Rattle.law.proofs.Premises.{Among, Given}

-- each has a stamp of its own behind the last one
pub among_stamps : (own : NodeNumber) (last : ℕ) (os : List Outgoing) (g : Frame) → Among g (frames_of own last os) → (last < g.stamp) × (g.stamp ≤ last + length os)
among_stamps own last [] g n = absurd n
among_stamps own last (o ∷ os) g (inl e) = let s = ap (λ x. x.stamp) e in (omega arith, omega arith)
among_stamps own last (o ∷ os) g (inr n) = let r = among_stamps own (last + 1) os g n in (omega (arith, r.0), omega (arith, r.1))

-- what holds of all messages holds of its
pub among_all : (p : Message → Bool) (own : NodeNumber) (last : ℕ) (os : List Outgoing) (g : Frame) → list_all (λ o. p o.message) os ≡ true → Among g (frames_of own last os) → p g.message ≡ true
among_all p own last [] g all n = absurd n
among_all p own last (o ∷ os) g all (inl e) = ap (λ x. p x.message) e ∙ (and_parts (p o.message) (list_all (λ o. p o.message) os) all).0
among_all p own last (o ∷ os) g all (inr n) = among_all p own (last + 1) os g (and_parts (p o.message) (list_all (λ o. p o.message) os) all).1 n

-- what is sent after other things was sent among those, or behind them
pub among_either : (own : NodeNumber) (last : ℕ) (os ps : List Outgoing) (g : Frame) → Among g (frames_of own last (os ++ ps)) → Among g (frames_of own last os) ⊎ Among g (frames_of own (last + length os) ps)
among_either own last [] ps g n = let e : last ≡ last + 0 = omega arith in inr (subst (λ l. Among g (frames_of own l ps)) e n)
among_either own last (o ∷ os) ps g (inl e) = inl (inl e)
among_either own last (o ∷ os) ps g (inr n) =
    let e : (last + 1) + length os ≡ last + length (o ∷ os) = omega arith in
    ⊎_elim (λ a. inl (inr a)) (λ b. inr (subst (λ l. Among g (frames_of own l ps)) e b)) (among_either own (last + 1) os ps g n)

module _ (b : NodeNumber) (f : Frame) (ws : List (List ℕ)) (ls : Stamps) (ws1 : List (List ℕ)) (ls1 : Stamps) (G : Given b f ws ls ws1 ls1) where
  -- a take takes no stamp back
  pub given_later : (a c : NodeNumber) → ls a c ≤ ls1 a c
  given_later a c = by_pair (same_node a f.source) (same_node c b) refl refl
    where
      by_pair : (x y : Bool) → same_node a f.source ≡ x → same_node c b ≡ y → ls a c ≤ ls1 a c
      by_pair true true p q =
          let from = same_node_lem a f.source p in
          let to = same_node_lem c b q in
          let before : ls a c ≡ ls f.source b = λ t. ls (from t) (to t) in
          let after : ls1 a c ≡ ls1 f.source b = λ t. ls1 (from t) (to t) in
          omega (arith, G.live.later, G.now)
      by_pair true false p q =
          let still : ls1 a c ≡ ls a c = G.other a c (λ e to. true≢false (sym (own_node b) ∙ ap (λ n. same_node n b) (sym to) ∙ q)) in
          omega arith
      by_pair false y p q =
          let still : ls1 a c ≡ ls a c = G.other a c (λ e. absurd (true≢false (sym (own_node f.source) ∙ ap (λ n. same_node n f.source) (sym e) ∙ p))) in
          omega arith

  -- what can be given after it could be given before
  pub given_live : (a c : NodeNumber) (g : Frame) → Live ws1 ls1 a c g → Live ws ls a c g
  given_live a c g l =
      record { lawful = l.lawful; waits = G.rest _ l.waits; from = l.from; to = l.to; later = omega (arith, given_later a c, l.later) }
