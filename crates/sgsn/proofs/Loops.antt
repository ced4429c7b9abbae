-- The loop that tells each VLR of a loss.
use Rattle.std.proofs.Common.{◌≡◌, ℕ, ◌+◌, List, [], ◌∷◌, refl, ap}
use Rattle.elements.specs.declared.node.NodeNumber.{NodeNumber}
use Rattle.station.specs.Rows.{new_row, lost_row}
use Rattle.station.specs.Ticks.{reset_to}
use Rattle.station.specs.Times.{Clock, peer_clock, each_ticked, each_sends}
use Rattle.sgsn.specs.declared.peer.Peer.{Peer}
use Rattle.sgsn.specs.Peers.{with_row, peers_lost, peers_resets}

-- what stands at a place that is none
abbrev pub nobody : Peer
nobody = record { vlr = record { node = record { number = 0 } }; row = new_row }

-- a loss is told to each VLR in its turn, as a tick is
abbrev pub loss : Clock Peer
loss = peer_clock (λ p. p.vlr.node) (λ own last p. with_row p (lost_row p.row (last + 1))) (λ own p. reset_to own p.vlr.node ∷ [])

pub lost_each : (own : NodeNumber) (last : ℕ) (ps : List Peer) → each_ticked (loss.ticked own) (loss.sends own) last ps ≡ peers_lost last ps
lost_each own last [] = refl
lost_each own last (p ∷ ps) = ap (λ l. with_row p (lost_row p.row (last + 1)) ∷ l) (lost_each own (last + 1) ps)

pub resets_each : (own : NodeNumber) (ps : List Peer) → each_sends (loss.sends own) ps ≡ peers_resets own ps
resets_each own [] = refl
resets_each own (p ∷ ps) = ap (λ l. reset_to own p.vlr.node ∷ l) (resets_each own ps)
