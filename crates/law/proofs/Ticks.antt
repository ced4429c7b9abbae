-- What one tick of what an SGSN keeps of its VLRs changes and sends.
use Rattle.std.proofs.Common.{◌≡◌, ℕ, ◌+◌, ◌-◌, ◌<◌, ◌≤◌, ◌⊎◌, inl, inr, Bool, true, false, cond, not, nat_le, List, [], ◌∷◌, map, length, Some, None, Option, refl, sym, ap, ◌∙◌, subst, ⊎_elim, arith}
use Rattle.std.specs.List.{list_any}
use Rattle.std.proofs.lemmas.Bool.{true≢false, cases_Bool, cond-true, cond-false, cond_both, and_parts, or_parts, not-true, ltb-true}
use Rattle.std.proofs.lemmas.List.{length-append}
use Rattle.std.proofs.lemmas.Option.{none-some, same_Some}
use Rattle.elements.specs.declared.node.NodeNumber.{NodeNumber}
use Rattle.elements.specs.Nodes.{same_node}
use Rattle.messages.specs.declared.message.Message.TheVariants.{Reset, ResetAcknowledge}
use Rattle.frames.specs.declared.frame.Frame.{Frame}
use Rattle.carrier.specs.Nodes.{same_node_lem, own_node}
use Rattle.station.specs.declared.row.Due.{Due}
use Rattle.station.specs.declared.row.Row.{Row}
use Rattle.station.specs.Rows.{due_ticked, expired, later, repeat_now, repeated, reset_ticked}
use Rattle.station.specs.Sends.{frames_of}
use Rattle.station.specs.Ticks.{acknowledging, due_sends, repeat_sends, row_sends, row_ticked, reset_to}
use Rattle.context.specs.declared.context.Context.{Context}
use Rattle.context.specs.Answering.{is_above}
use Rattle.context.specs.Contexts.{doubtful_at}
use Rattle.sgsn.specs.declared.peer.Peer.{Peer}
use Rattle.sgsn.specs.Making.{all_different}
use Rattle.sgsn.specs.Peers.{with_row, peer_sends, peers_sends, peers_ticked, doubted_by, doubted_by_all}
use Rattle.law.specs.Sound.{peer_of, reset_in, due_in, answered_by}
use Rattle.law.proofs.Premises.{Among}
use Rattle.law.proofs.Quieter.{AllQuieter, NoneSure, same_records, quieter_map, quieter_doubtful_at, quieter_twice, unsure_map, unsure_quieter, doubtful_there}
use Rattle.law.proofs.Sendings.{among_either}

-- One row, of the VLR with this number, behind this last stamp: its RESET is repeated, or stays.
abbrev pub Ticked : Row → Row → ℕ → ℕ → Type 0
Ticked r r2 last next = ((repeat_now r ≡ true) × ((x : ℕ) × (r2.reset ≡ Some x) × (last < x) × (x ≤ next))) ⊎ ((repeat_now r ≡ false) × (r2.reset ≡ r.reset))

row_reset : (own peer : NodeNumber) (last : ℕ) (r : Row) → Ticked r (row_ticked own peer last r) last (last + length (row_sends own peer r))
row_reset own peer last r = by_repeat (repeat_now r) refl
  where
    by_repeat : (b : Bool) → repeat_now r ≡ b → Ticked r (row_ticked own peer last r) last (last + length (row_sends own peer r))
    by_repeat true e =
        let one : repeat_sends own peer r ≡ reset_to own peer ∷ [] = cond-true (repeat_now r) (reset_to own peer ∷ []) [] e in
        let all : length (row_sends own peer r) ≡ length (due_sends own peer r) + 1 = length-append (due_sends own peer r) (repeat_sends own peer r) ∙ ap (λ l. length (due_sends own peer r) + length l) one in
        inl (e, (last + length (due_sends own peer r) + 1, ap (λ y. y.reset) (cond-true (repeat_now r) (repeated (due_ticked r) (last + length (due_sends own peer r) + 1)) (reset_ticked (due_ticked r)) e), omega arith, omega (arith, all)))
    by_repeat false e = inr (e, ap (λ y. y.reset) (cond-false (repeat_now r) (repeated (due_ticked r) (last + length (due_sends own peer r) + 1)) (reset_ticked (due_ticked r)) e))

row_due : (own peer : NodeNumber) (last x : ℕ) (r : Row) → answered_by (row_ticked own peer last r).due ≡ Some x → answered_by r.due ≡ Some x
row_due own peer last x r e = by_due r.due (sym (ap (λ d. answered_by d) stays) ∙ e)
  where
    stays : (row_ticked own peer last r).due ≡ later r.due
    stays = cond_both (repeat_now r) (repeated (due_ticked r) (last + length (due_sends own peer r) + 1)) (reset_ticked (due_ticked r)) (λ y. y.due ≡ later r.due) (λ t. refl) (λ t. refl)

    by_ticks : (b : Bool) (d t : ℕ) → answered_by (cond b None (Some (record { answers = d; ticks = t }))) ≡ Some x → ◌≡◌ {A = Option ℕ} (Some d) (Some x)
    by_ticks true d t q = absurd (none-some x q)
    by_ticks false d t q = q

    by_due : (d : Option Due) → answered_by (later d) ≡ Some x → answered_by d ≡ Some x
    by_due None q = q
    by_due (Some d) q = by_ticks (nat_le d.ticks 1) d.answers (d.ticks - 1) q

module _ (own n : NodeNumber) where
  -- a stamp above the last RESET that went there was so before the tick
  above_step : (b : Bool) (last next r : ℕ) (p : Peer) (x : Row) (o o2 : Option Peer) → Ticked p.row x last next → r ≤ last
      → (is_above (reset_in o2) r ≡ true → is_above (reset_in o) r ≡ true)
      → is_above (reset_in (cond b (Some (with_row p x)) o2)) r ≡ true → is_above (reset_in (cond b (Some p) o)) r ≡ true
  above_step true last next r p x o o2 T l below a = ⊎_elim
      (λ t. absurd (omega (arith, ltb-true t.1.0 r (ap (λ y. is_above y r) (sym t.1.1) ∙ a), t.1.2, l)))
      (λ t. ap (λ y. is_above y r) (sym t.1) ∙ a)
      T
  above_step false last next r p x o o2 T l below a = below a

  pub ticked_above : (last r : ℕ) (ps : List Peer) → r ≤ last → is_above (reset_in (peer_of n (peers_ticked own last ps))) r ≡ true → is_above (reset_in (peer_of n ps)) r ≡ true
  ticked_above last r [] l a = a
  ticked_above last r (p ∷ ps) l a =
      let next = last + length (peer_sends own p) in
      above_step (same_node p.vlr.node n) last next r p (row_ticked own p.vlr.node last p.row) (peer_of n ps) (peer_of n (peers_ticked own next ps))
      (row_reset own p.vlr.node last p.row) l (ticked_above next r ps (omega (arith, l))) a

  -- none is, if it is repeated
  repeat_step : (b : Bool) (last next r : ℕ) (p q : Peer) (x : Row) (o o2 : Option Peer) → Ticked p.row x last next → r ≤ last → repeat_now q.row ≡ true
      → (o ≡ Some q → is_above (reset_in o2) r ≡ true → ⊥)
      → cond b (Some p) o ≡ Some q → is_above (reset_in (cond b (Some (with_row p x)) o2)) r ≡ true → ⊥
  repeat_step true last next r p q x o o2 T l again below e a = ⊎_elim
      (λ t. omega (arith, ltb-true t.1.0 r (ap (λ y. is_above y r) (sym t.1.1) ∙ a), t.1.2, l))
      (λ t. true≢false (sym again ∙ ap (λ y. repeat_now y.row) (sym (same_Some p q e)) ∙ t.0))
      T
  repeat_step false last next r p q x o o2 T l again below e a = below e a

  pub ticked_repeat : (last r : ℕ) (ps : List Peer) (q : Peer) → r ≤ last → peer_of n ps ≡ Some q → repeat_now q.row ≡ true → is_above (reset_in (peer_of n (peers_ticked own last ps))) r ≡ true → ⊥
  ticked_repeat last r [] q l e again a = none-some q e
  ticked_repeat last r (p ∷ ps) q l e again a =
      let next = last + length (peer_sends own p) in
      repeat_step (same_node p.vlr.node n) last next r p q (row_ticked own p.vlr.node last p.row) (peer_of n ps) (peer_of n (peers_ticked own next ps))
      (row_reset own p.vlr.node last p.row) l again (λ y. ticked_repeat next r ps q (omega (arith, l)) y again) e a

  -- the last RESET is an old one or was just sent
  before_step : (b : Bool) (last next end x : ℕ) (p : Peer) (y : Row) (o o2 : Option Peer) → Ticked p.row y last next → next ≤ end
      → (reset_in o2 ≡ Some x → (reset_in o ≡ Some x) ⊎ (x ≤ end))
      → reset_in (cond b (Some (with_row p y)) o2) ≡ Some x → (reset_in (cond b (Some p) o) ≡ Some x) ⊎ (x ≤ end)
  before_step true last next end x p y o o2 T l below e = ⊎_elim
      (λ t. inr (omega (arith, same_Some t.1.0 x (sym t.1.1 ∙ e), t.1.3, l)))
      (λ t. inl (sym t.1 ∙ e))
      T
  before_step false last next end x p y o o2 T l below e = below e

  pub ticked_before : (last x : ℕ) (ps : List Peer) → reset_in (peer_of n (peers_ticked own last ps)) ≡ Some x → (reset_in (peer_of n ps) ≡ Some x) ⊎ (x ≤ last + length (peers_sends own ps))
  ticked_before last x [] e = inl e
  ticked_before last x (p ∷ ps) e =
      let next = last + length (peer_sends own p) in
      let end : next + length (peers_sends own ps) ≡ last + length (peers_sends own (p ∷ ps)) = omega (arith, length-append (peer_sends own p) (peers_sends own ps)) in
      before_step (same_node p.vlr.node n) last next (last + length (peers_sends own (p ∷ ps))) x p (row_ticked own p.vlr.node last p.row) (peer_of n ps) (peer_of n (peers_ticked own next ps))
      (row_reset own p.vlr.node last p.row) (omega (arith, end)) (λ q. ⊎_elim (λ y. inl y) (λ y. inr (omega (arith, y, end))) (ticked_before next x ps q)) e

  -- nothing more is to be acknowledged
  due_step : (b : Bool) (x : ℕ) (p : Peer) (y : Row) (o o2 : Option Peer) → (answered_by y.due ≡ Some x → answered_by p.row.due ≡ Some x) → (due_in o2 ≡ Some x → due_in o ≡ Some x)
      → due_in (cond b (Some (with_row p y)) o2) ≡ Some x → due_in (cond b (Some p) o) ≡ Some x
  due_step true x p y o o2 its below e = its e
  due_step false x p y o o2 its below e = below e

  pub ticked_due : (last x : ℕ) (ps : List Peer) → due_in (peer_of n (peers_ticked own last ps)) ≡ Some x → due_in (peer_of n ps) ≡ Some x
  ticked_due last x [] e = e
  ticked_due last x (p ∷ ps) e =
      let next = last + length (peer_sends own p) in
      due_step (same_node p.vlr.node n) x p (row_ticked own p.vlr.node last p.row) (peer_of n ps) (peer_of n (peers_ticked own next ps))
      (row_due own p.vlr.node last x p.row) (ticked_due next x ps) e

-- the records after the RESETs that are repeated
quieter_doubted_by : (p : Peer) (rs : List Context) → AllQuieter rs (doubted_by p rs)
quieter_doubted_by p rs = cond_both (repeat_now p.row) (map (doubtful_at p.vlr) rs) rs (AllQuieter rs) (λ e. quieter_map (doubtful_at p.vlr) (quieter_doubtful_at p.vlr) rs) (λ e. same_records rs)

pub quieter_doubted : (ps : List Peer) (rs : List Context) → AllQuieter rs (doubted_by_all ps rs)
quieter_doubted [] rs = same_records rs
quieter_doubted (p ∷ ps) rs = quieter_twice rs (doubted_by p rs) (doubted_by_all ps (doubted_by p rs)) (quieter_doubted_by p rs) (quieter_doubted ps (doubted_by p rs))

-- none says that a VLR is sure to which one is
pub doubted_there : (n : NodeNumber) (ps : List Peer) (q : Peer) (rs : List Context) → peer_of n ps ≡ Some q → repeat_now q.row ≡ true → NoneSure n (doubted_by_all ps rs)
doubted_there n [] q rs e again = absurd (none-some q e)
doubted_there n (p ∷ ps) q rs e again = by_number (same_node p.vlr.node n) refl e (λ y. doubted_there n ps q (doubted_by p rs) y again)
  where
    here : p.vlr.node ≡ n → repeat_now p.row ≡ true → NoneSure n (doubted_by p rs)
    here there now =
        subst (NoneSure n) (sym (cond-true (repeat_now p.row) (map (doubtful_at p.vlr) rs) rs now))
        (subst (λ k. NoneSure k (map (doubtful_at p.vlr) rs)) there (unsure_map p.vlr.node (doubtful_at p.vlr) (doubtful_there p.vlr) rs))

    by_number : (b : Bool) → same_node p.vlr.node n ≡ b → cond b (Some p) (peer_of n ps) ≡ Some q → (peer_of n ps ≡ Some q → NoneSure n (doubted_by_all ps (doubted_by p rs))) → NoneSure n (doubted_by_all ps (doubted_by p rs))
    by_number true t y below =
        unsure_quieter n (doubted_by p rs) (doubted_by_all ps (doubted_by p rs)) (quieter_doubted ps (doubted_by p rs))
        (here (same_node_lem p.vlr.node n t) (ap (λ z. repeat_now z.row) (same_Some p q y) ∙ again))
    by_number false t y below = below y

-- A frame that one of these rows sends: the acknowledgement that is due, or its RESET once more.
abbrev pub Says : NodeNumber → Row → Frame → Type 0
Says own r g = ((g.message ≡ ResetAcknowledge own) × (answered_by r.due ≡ Some g.answers)) ⊎ ((g.message ≡ Reset own) × (repeat_now r ≡ true))

row_says : (own peer : NodeNumber) (last : ℕ) (r : Row) (g : Frame) → Among g (frames_of own last (row_sends own peer r)) → (g.destination ≡ peer) × Says own r g
row_says own peer last r g a = ⊎_elim
    (λ d. by_due r.due refl d)
    (λ d. by_repeat (repeat_now r) refl d)
    (among_either own last (due_sends own peer r) (repeat_sends own peer r) g a)
  where
    by_ticks : (b : Bool) (k : ℕ) → Among g (frames_of own last (acknowledging own peer (cond b (Some k) None))) → (g.destination ≡ peer) × (g.message ≡ ResetAcknowledge own) × (g.answers ≡ k)
    by_ticks true k (inl q) = (ap (λ f. f.destination) q, ap (λ f. f.message) q, ap (λ f. f.answers) q)
    by_ticks true k (inr z) = absurd z
    by_ticks false k z = absurd z

    by_due : (d : Option Due) → r.due ≡ d → Among g (frames_of own last (acknowledging own peer (expired d))) → (g.destination ≡ peer) × Says own r g
    by_due None e z = absurd z
    by_due (Some d) e z = let h = by_ticks (nat_le d.ticks 1) d.answers z in (h.0, inl (h.1, ap answered_by e ∙ ap (λ k. Some k) (sym h.2)))

    by_repeat : (b : Bool) → repeat_now r ≡ b → Among g (frames_of own (last + length (due_sends own peer r)) (cond b (reset_to own peer ∷ []) [])) → (g.destination ≡ peer) × Says own r g
    by_repeat true e (inl q) = (ap (λ f. f.destination) q, inr (ap (λ f. f.message) q, e))
    by_repeat true e (inr z) = absurd z
    by_repeat false e z = absurd z

-- where none has this number, no VLR is found
unnamed : (n : NodeNumber) (ps : List Peer) → list_any (λ v. same_node v.node n) (map (λ p. p.vlr) ps) ≡ false → peer_of n ps ≡ None
unnamed n [] a = refl
unnamed n (p ∷ ps) a =
    let q = or_parts (same_node p.vlr.node n) _ a in
    cond-false (same_node p.vlr.node n) (Some p) (peer_of n ps) q.0 ∙ unnamed n ps q.1

-- what goes to a VLR says what the row of that VLR has it say
pub rows_say : (own n : NodeNumber) (last : ℕ) (ps : List Peer) (g : Frame) → all_different (map (λ p. p.vlr) ps) ≡ true → Among g (frames_of own last (peers_sends own ps)) → g.destination ≡ n
    → (p : Peer) × (peer_of n ps ≡ Some p) × Says own p.row g
rows_say own n last [] g a z to = absurd z
rows_say own n last (p ∷ ps) g a z to =
    let parts = and_parts (not (list_any (λ v. same_node v.node p.vlr.node) (map (λ q. q.vlr) ps))) (all_different (map (λ q. q.vlr) ps)) a in
    ⊎_elim
    (λ h. let s = row_says own p.vlr.node last p.row g h in
    (p, cond-true (same_node p.vlr.node n) (Some p) (peer_of n ps) (ap (λ y. same_node y n) (sym s.0 ∙ to) ∙ own_node n), s.1))
    (λ h. let s = rows_say own n (last + length (peer_sends own p)) ps g parts.1 h to in
    (s.0, cond-false (same_node p.vlr.node n) (Some p) (peer_of n ps) (other s.0 (not-true _ parts.0) s.1) ∙ s.1, s.2))
    (among_either own last (peer_sends own p) (peers_sends own ps) g z)
  where
    other : (q : Peer) → list_any (λ v. same_node v.node p.vlr.node) (map (λ y. y.vlr) ps) ≡ false → peer_of n ps ≡ Some q → same_node p.vlr.node n ≡ false
    other q b e = ⊎_elim
        (λ t. absurd (none-some q (sym (unnamed p.vlr.node ps b) ∙ ap (λ y. peer_of y ps) (same_node_lem p.vlr.node n t) ∙ e)))
        (λ f. f)
        (cases_Bool (same_node p.vlr.node n))
