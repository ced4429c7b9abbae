-- The VLR that sent a frame stands where a search by place finds it, and is changed there.
use Rattle.std.proofs.Common.{◌≡◌, ℕ, zero, suc, ◌-◌, ◌<◌, Bool, true, List, [], ◌∷◌, map, length, get_or, take, slice_get, Some, Option, sym, refl, ap, ◌∙◌, arith}
use native.Mathlib.Nat.{sub-zero}
use Rattle.std.specs.List.{position, list_all}
use Rattle.std.proofs.lemmas.Bool.{or_left, or_right}
use Rattle.std.proofs.lemmas.List.{length-take, get_or-take}
use Rattle.std.proofs.lemmas.List.Quantifiers.{position-Some}
use Rattle.std.proofs.lemmas.Option.{none-some, same_Some, slice_get-get_or}
use Rattle.carrier.specs.Nodes.{own_node}
use Rattle.elements.specs.Nodes.{same_node}
use Rattle.elements.specs.declared.node.NodeNumber.{NodeNumber}
use Rattle.frames.specs.declared.frame.Frame.{Frame}
use Rattle.frames.specs.Format.{lawful_nodes}
use Rattle.station.specs.declared.row.Row.{Row}
use Rattle.sgsn.specs.declared.peer.Peer.{Peer}
use Rattle.sgsn.specs.Fitting.{is_one_of}
use Rattle.sgsn.specs.Peers.{with_row, row_changed_at, SentBy, sent_it, peer_from, row_changed}
use Rattle.sgsn.proofs.Places.{take_changed, found_at, changed_at, map_changed, all_changed}

-- the one at a place is one of them
pub its_own : (ps : List Peer) (i : ℕ) (p : Peer) → slice_get ps i ≡ Some p → is_one_of (map (λ q. q.vlr) ps) p.vlr ≡ true
its_own [] i p e = absurd (none-some p e)
its_own (q ∷ ps) zero p e =
    let same : same_node q.vlr.node p.vlr.node ≡ true = ap (λ r. same_node q.vlr.node r.vlr.node) (sym (same_Some q p e)) ∙ own_node q.vlr.node in
    or_left (same_node q.vlr.node p.vlr.node) (is_one_of (map (λ o. o.vlr) ps) p.vlr) same
its_own (q ∷ ps) (suc i) p e = or_right (same_node q.vlr.node p.vlr.node) (is_one_of (map (λ o. o.vlr) ps) p.vlr) (its_own ps i p e)

-- what a search among the first places finds
pub placed : (f : Frame) (n : ℕ) (ps : List Peer) (r o : Option ℕ) → r ≡ position (sent_it f) (take (n - 0) ps) → r ≡ o → position (sent_it f) (take n ps) ≡ o
placed f n ps r o at is = ap (λ m. position (sent_it f) (take m ps)) (sym (sub-zero n)) ∙ sym at ∙ is

pub sent_by : (f : Frame) (n i : ℕ) (ps : List Peer) (d : Peer) → position (sent_it f) (take n ps) ≡ Some i → SentBy f i (get_or ps i d) (take n ps)
sent_by f n i ps d e =
    let within : i < length (take n ps) = (position-Some (sent_it f) (take n ps) i d e).0 in
    let front : i < n = omega (arith, length-take {A = Peer}) in
    record {
      place = e;
      stands = slice_get-get_or (take n ps) i d within ∙ ap Some (get_or-take n ps i d front);
    }

pub sender : (f : Frame) (i : ℕ) (p : Peer) (ps : List Peer) → SentBy f i p ps → peer_from f ps ≡ Some p
sender f i p ps s = found_at (sent_it f) ps i s.place ∙ s.stands

pub sender_row : (f : Frame) (i : ℕ) (p : Peer) (ps : List Peer) (g : Row → Row) → SentBy f i p ps → row_changed_at i g ps ≡ row_changed f g ps
sender_row f i p ps g s = changed_at (sent_it f) (λ q. with_row q (g q.row)) (λ q. with_row q (g q.row)) ps i p s.place refl

-- a row among the first places
pub row_front : (n i : ℕ) (g : Row → Row) (ps qs : List Peer) → qs ≡ row_changed_at i g ps → take n qs ≡ row_changed_at i g (take n ps)
row_front n i g ps qs e = ap (take n) e ∙ take_changed n (λ p. with_row p (g p.row)) ps i

-- what is kept of a VLR can change, its number stays
pub nodes_front : (own : NodeNumber) (n i : ℕ) (g : Row → Row) (ps qs : List Peer) → qs ≡ row_changed_at i g ps → list_all (λ p. lawful_nodes own p.vlr.node) (take n ps) ≡ true → list_all (λ p. lawful_nodes own p.vlr.node) (take n qs) ≡ true
nodes_front own n i g ps qs e all =
    let t : Peer → Bool = λ p. lawful_nodes own p.vlr.node in
    ap (list_all t) (row_front n i g ps qs e) ∙ all_changed t (λ p. with_row p (g p.row)) (λ p. refl) (take n ps) i ∙ all

pub vlrs_front : (n i : ℕ) (g : Row → Row) (ps qs : List Peer) → qs ≡ row_changed_at i g ps → map (λ p. p.vlr) (take n qs) ≡ map (λ p. p.vlr) (take n ps)
vlrs_front n i g ps qs e = ap (map (λ p. p.vlr)) (row_front n i g ps qs e) ∙ map_changed (λ p. p.vlr) (λ p. with_row p (g p.row)) (λ p. refl) (take n ps) i
