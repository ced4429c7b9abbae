-- What stands at a whole site, and that a take and each move of an end keep it.
use Rattle.std.proofs.Common.{◌≡◌, ℕ, ◌<◌, ◌≤◌, ◌⊎◌, inl, inr, true, false, not, List, [], ◌∷◌, ◌++◌, map, sym, ap, ◌∙◌, subst, ⊎_elim, arith}
use Rattle.std.specs.List.{list_any}
use Rattle.std.proofs.lemmas.Bool.{true≢false, not-true, and_parts, or_parts}
use Rattle.elements.specs.declared.node.NodeNumber.{NodeNumber}
use Rattle.elements.specs.declared.node.VlrNumber.{VlrNumber}
use Rattle.elements.specs.Nodes.{same_node}
use Rattle.frames.specs.declared.frame.Frame.{Frame}
use Rattle.carrier.specs.Nodes.{own_node}
use Rattle.carrier.specs.Order.{Stamps, Still}
use Rattle.carrier.specs.Waiting.{Leaves}
use Rattle.sgsn.specs.Making.{all_different}
use Rattle.sgsn.specs.State as sgsn
use Rattle.vlr.specs.State as vlr
use Rattle.law.specs.Sound.{Live, Pair}
use Rattle.law.proofs.Premises.{Fit, Given, SgsnMove, VlrMove, VlrRestart}
use Rattle.law.proofs.Pairs.{shrunk, sgsn_moved, vlr_moved, vlr_restarted}
use Rattle.law.proofs.Sendings.{given_later, given_live}
use Rattle.law.proofs.Carried.{Spelt, After}
use Rattle.law.proofs.Keeping.{Keeps, still_fit}
use Rattle.law.proofs.Numbers.{apart}

-- for each of these VLRs
abbrev pub Each : (vlr.State → Type 0) → List vlr.State → Type 0
Each Q [] = Unit {0}
Each Q (v ∷ vs) = Q v × Each Q vs

abbrev pub numbers_of : List vlr.State → List VlrNumber
numbers_of vs = map (λ v. record { node = v.own }) vs

-- The SGSN's VLRs are these, no two nodes have one number, and what should stands between the SGSN and each.
pub record Sound (s : sgsn.State) (vs : List vlr.State) (ws : List (List ℕ)) (ls : Stamps) : Type 0 where
  pub fit : Fit s
  pub spelt : Spelt ws
  pub numbers : sgsn.vlrs_of s ≡ numbers_of vs
  pub differ : apart s.own (numbers_of vs) ≡ true
  pub each : Each (λ v. Pair s v ws ls) vs

-- what follows for one follows for each
pub each_map : {Q R : vlr.State → Type 0} (vs : List vlr.State) → ((v : vlr.State) → Q v → R v) → Each Q vs → Each R vs
each_map [] f e = tt
each_map (v ∷ vs) f e = (f v e.0, each_map vs f e.1)

each_both : (Q R : vlr.State → Type 0) (vs : List vlr.State) → Each Q vs → Each R vs → Each (λ v. Q v × R v) vs
each_both Q R [] p q = tt
each_both Q R (v ∷ vs) p q = ((p.0, q.0), each_both Q R vs p.1 q.1)

pub each_at : (Q : vlr.State → Type 0) (earlier : List vlr.State) (v : vlr.State) (later : List vlr.State) → Each Q (earlier ++ v ∷ later) → Q v
each_at Q [] v later e = e.0
each_at Q (u ∷ us) v later e = each_at Q us v later e.1

-- its number is not this one
abbrev pub Other : NodeNumber → vlr.State → Type 0
Other n v = v.own ≡ n → ⊥

-- nodes that are not the same have different numbers
not_same : (a b : NodeNumber) → same_node a b ≡ false → a ≡ b → ⊥
not_same a b n e = true≢false (sym (own_node b) ∙ ap (λ c. same_node c b) (sym e) ∙ n)

-- none of them has this number
none_has : (n : NodeNumber) (vs : List vlr.State) → apart n (numbers_of vs) ≡ true → Each (Other n) vs
none_has n vs a = others vs (not-true _ (and_parts (not (list_any (λ w. same_node w.node n) (numbers_of vs))) _ a).0)
  where
    others : (us : List vlr.State) → list_any (λ w. same_node w.node n) (numbers_of us) ≡ false → Each (Other n) us
    others [] e = tt
    others (u ∷ us) e = let p = or_parts (same_node u.own n) _ e in (not_same u.own n p.0, others us p.1)

-- one of them changes, and what holds of each changes otherwise for it than for the others
one_changed : (Q R : vlr.State → Type 0) (earlier : List vlr.State) (v w : vlr.State) (later : List vlr.State)
    → all_different (numbers_of (earlier ++ v ∷ later)) ≡ true → (Q v → R w) → ((u : vlr.State) → Other v.own u → Q u → R u)
    → Each Q (earlier ++ v ∷ later) → Each R (earlier ++ w ∷ later)
one_changed Q R [] v w later a f g e = (f e.0, each_map later (λ u b. g u b.0 b.1) (each_both (Other v.own) Q later (none_has v.own later a) e.1))
one_changed Q R (u ∷ us) v w later a f g e =
    let rest = and_parts (not (list_any (λ k. same_node k.node u.own) (numbers_of (us ++ v ∷ later)))) _ a in
    let other = each_at (Other u.own) us v later (none_has u.own (us ++ v ∷ later) a) in
    (g u (λ t. other (sym t)) e.0, one_changed Q R us v w later rest.1 f g e.1)

-- a change of one that keeps its number keeps all numbers
same_numbers : (earlier : List vlr.State) (v w : vlr.State) (later : List vlr.State) → w.own ≡ v.own → numbers_of (earlier ++ w ∷ later) ≡ numbers_of (earlier ++ v ∷ later)
same_numbers [] v w later e = (λ i. record { node = e i } ∷ numbers_of later)
same_numbers (u ∷ us) v w later e = ap (λ ns. record { node = u.own } ∷ ns) (same_numbers us v w later e)

module _ (s : sgsn.State) (vs : List vlr.State) (ws : List (List ℕ)) (ls : Stamps) (S : Sound s vs ws ls) where
  -- no two of the SGSN's VLRs have one number
  pub vlrs_differ : all_different (sgsn.vlrs_of s) ≡ true
  vlrs_differ = ap all_different S.numbers ∙ (and_parts _ (all_different (numbers_of vs)) S.differ).1

  -- fewer frames can be given
  fewer : (ws1 : List (List ℕ)) (ls1 : Stamps) → Leaves ws ws1 → ((a b : NodeNumber) (g : Frame) → Live ws1 ls1 a b g → Live ws ls a b g) → ((a b : NodeNumber) → ls a b ≤ ls1 a b) → Sound s vs ws1 ls1
  fewer ws1 ls1 leaves live later =
      record {
        fit = S.fit;
        spelt = λ x i. S.spelt x (leaves x i);
        numbers = S.numbers;
        differ = S.differ;
        each = each_map vs (λ v P. shrunk s v ws ws1 ls ls1 P (live s.own v.own) (live v.own s.own) (later s.own v.own) (later v.own s.own)) S.each;
      }

  -- a take gave a frame
  pub given : (b : NodeNumber) (f : Frame) (ws1 : List (List ℕ)) (ls1 : Stamps) → Given b f ws ls ws1 ls1 → Sound s vs ws1 ls1
  given b f ws1 ls1 G = fewer ws1 ls1 G.rest (given_live b f ws ls ws1 ls1 G) (given_later b f ws ls ws1 ls1 G)

  -- a take gave none
  pub none_given : (ws1 : List (List ℕ)) (ls1 : Stamps) → Leaves ws ws1 → Still ls ls1 → Sound s vs ws1 ls1
  none_given ws1 ls1 leaves still = fewer ws1 ls1 leaves
      (λ a b g l. record { lawful = l.lawful; waits = leaves _ l.waits; from = l.from; to = l.to; later = subst (λ n. n < g.stamp) (still a b) l.later })
      (λ a b. omega (arith, still a b))

  -- the SGSN moved
  pub sgsn_goes : (t : sgsn.State) (New : NodeNumber → Frame → Type 0) (ws2 : List (List ℕ)) (ls2 : Stamps)
      → After s.own New ws ls ws2 ls2 → Keeps s t → Each (λ v. SgsnMove s t v ws ls (New v.own)) vs → Sound t vs ws2 ls2
  sgsn_goes t New ws2 ls2 A K moves =
      record {
        fit = still_fit s t K;
        spelt = A.spelt S.spelt;
        numbers = K.vlrs ∙ S.numbers;
        differ = subst (λ n. apart n (numbers_of vs) ≡ true) (sym K.own) S.differ;
        each = each_map vs
            (λ v e. sgsn_moved s v ws ws2 ls ls2 e.0.0 t (New v.own) e.0.1
            (λ g l. ⊎_elim (λ k. inl k) (λ q. inr q.1) (A.live s.own v.own g l))
            (λ g l. ⊎_elim (λ k. k) (λ q. absurd (e.1 q.0)) (A.live v.own s.own g l))
            (A.still s.own v.own) (A.still v.own s.own))
            (each_both (λ v. Pair s v ws ls × SgsnMove s t v ws ls (New v.own)) (Other s.own) vs (each_both (λ v. Pair s v ws ls) (λ v. SgsnMove s t v ws ls (New v.own)) vs S.each moves) (none_has s.own vs S.differ));
      }

-- a move of a VLR, or its loss
abbrev pub Goes : sgsn.State → vlr.State → vlr.State → List (List ℕ) → Stamps → (Frame → Type 0) → Type 0
Goes s v w ws ls New = VlrMove s v w ws ls New ⊎ VlrRestart s v w ws ls New

module _ (s : sgsn.State) (earlier : List vlr.State) (v : vlr.State) (later : List vlr.State) (ws : List (List ℕ)) (ls : Stamps) (S : Sound s (earlier ++ v ∷ later) ws ls) where
  -- one of the VLRs moved
  pub vlr_goes : (w : vlr.State) (New : NodeNumber → Frame → Type 0) (ws2 : List (List ℕ)) (ls2 : Stamps)
      → After v.own New ws ls ws2 ls2 → Goes s v w ws ls (New s.own) → Sound s (earlier ++ w ∷ later) ws2 ls2
  vlr_goes w New ws2 ls2 A G =
      let own : w.own ≡ v.own = ⊎_elim (λ M. M.own) (λ M. M.own) G in
      let numbers = same_numbers earlier v w later own in
      let not_sgsn : v.own ≡ s.own → ⊥ = each_at (Other s.own) earlier v later (none_has s.own (earlier ++ v ∷ later) S.differ) in
      let down : (g : Frame) → Live ws2 ls2 s.own v.own g → Live ws ls s.own v.own g = λ g l. ⊎_elim (λ k. k) (λ q. absurd (not_sgsn (sym q.0))) (A.live s.own v.own g l) in
      let up : (g : Frame) → Live ws2 ls2 v.own s.own g → Live ws ls v.own s.own g ⊎ New s.own g = λ g l. ⊎_elim (λ k. inl k) (λ q. inr q.1) (A.live v.own s.own g l) in
      record {
        fit = S.fit;
        spelt = A.spelt S.spelt;
        numbers = S.numbers ∙ sym numbers;
        differ = ap (apart s.own) numbers ∙ S.differ;
        each = one_changed (λ u. Pair s u ws ls) (λ u. Pair s u ws2 ls2) earlier v w later (ap all_different (sym S.numbers) ∙ vlrs_differ s (earlier ++ v ∷ later) ws ls S)
            (λ P. ⊎_elim
            (λ M. vlr_moved s v ws ws2 ls ls2 P w (New s.own) M down up (A.still s.own v.own) (A.still v.own s.own))
            (λ M. vlr_restarted s v ws ws2 ls ls2 P w (New s.own) M down up (A.still s.own v.own) (A.still v.own s.own))
            G)
            (λ u ne P. shrunk s u ws ws2 ls ls2 P
            (λ g l. ⊎_elim (λ k. k) (λ q. absurd (not_sgsn (sym q.0))) (A.live s.own u.own g l))
            (λ g l. ⊎_elim (λ k. k) (λ q. absurd (ne q.0)) (A.live u.own s.own g l))
            (omega (arith, A.still s.own u.own)) (omega (arith, A.still u.own s.own)))
            S.each;
      }
