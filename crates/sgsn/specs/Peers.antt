-- What an SGSN keeps of its VLRs: of the one that sent a frame, and of each in order.
use Rattle.std.specs.Prelude.{◌≡◌, ℕ, zero, suc, ◌+◌, Bool, if◌then◌else◌, List, [], ◌∷◌, map, slice_get, Some, Option}
use Rattle.std.specs.List.{find, position}
use Rattle.elements.specs.declared.node.NodeNumber.{NodeNumber}
use Rattle.frames.specs.declared.frame.Frame.{Frame}
use Rattle.station.specs.declared.row.Row.{Row}
use Rattle.station.specs.declared.sending.Outgoing.{Outgoing}
use Rattle.station.specs.Receiving.{is_from}
use Rattle.station.specs.Rows.{lost_row, repeat_now}
use Rattle.station.specs.Ticks.{reset_to, row_sends, row_ticked}
use Rattle.station.specs.Times.{each_ticked, each_sends, each_doubts}
use Rattle.context.specs.declared.context.Context.{Context}
use Rattle.context.specs.Contexts.{doubtful_at}
use Rattle.sgsn.specs.declared.peer.Peer.{Peer}

-- the first that passes is changed so
abbrev pub change_first : {X : Type 0} → (X → Bool) → (X → X) → List X → List X
change_first p f [] = []
change_first p f (x ∷ xs) = if p x then f x ∷ xs else x ∷ change_first p f xs

-- the one at a place is changed so
abbrev pub change_at : {X : Type 0} → ℕ → (X → X) → List X → List X
change_at i f [] = []
change_at zero f (x ∷ xs) = f x ∷ xs
change_at (suc i) f (x ∷ xs) = x ∷ change_at i f xs

abbrev pub with_row : Peer → Row → Peer
with_row p r = record p { row = r }

-- what is kept of the one that stands at a place is changed so
abbrev pub row_changed_at : ℕ → (Row → Row) → List Peer → List Peer
row_changed_at i g ps = change_at i (λ p. with_row p (g p.row)) ps

-- this VLR sent the frame, which names no other
abbrev pub sent_it : Frame → Peer → Bool
sent_it f p = is_from p.vlr.node f

-- the VLR that sent the frame, if it is one of these
abbrev pub peer_from : Frame → List Peer → Option Peer
peer_from f ps = find (sent_it f) ps

-- the frame came from this VLR, which stands at this place
pub record SentBy (f : Frame) (i : ℕ) (p : Peer) (ps : List Peer) : Type 0 where
  pub place : position (sent_it f) ps ≡ Some i
  pub stands : slice_get ps i ≡ Some p

-- what is kept of the VLR that sent the frame is changed so
abbrev pub row_changed : Frame → (Row → Row) → List Peer → List Peer
row_changed f g ps = change_first (sent_it f) (λ p. with_row p (g p.row)) ps

-- after a loss, each is told by a RESET of its own, where the last stamp before was this one
abbrev pub peers_lost : ℕ → List Peer → List Peer
peers_lost last [] = []
peers_lost last (p ∷ ps) = with_row p (lost_row p.row (last + 1)) ∷ peers_lost (last + 1) ps

abbrev pub peers_resets : NodeNumber → List Peer → List Outgoing
peers_resets own ps = map (λ p. reset_to own p.vlr.node) ps

-- what one tick sends to one of them
abbrev pub peer_sends : NodeNumber → Peer → List Outgoing
peer_sends own p = row_sends own p.vlr.node p.row

-- one tick of one of them, where the last stamp before was this one
abbrev pub peer_ticked : NodeNumber → ℕ → Peer → Peer
peer_ticked own last p = with_row p (row_ticked own p.vlr.node last p.row)

-- one tick of all, in order
abbrev pub peers_ticked : NodeNumber → ℕ → List Peer → List Peer
peers_ticked own last ps = each_ticked (peer_ticked own) (peer_sends own) last ps

abbrev pub peers_sends : NodeNumber → List Peer → List Outgoing
peers_sends own ps = each_sends (peer_sends own) ps

-- a RESET that is repeated to a VLR makes the records doubtful that say that it is sure
abbrev pub doubted_by : Peer → List Context → List Context
doubted_by p rs = if repeat_now p.row then map (doubtful_at p.vlr) rs else rs

abbrev pub doubted_by_all : List Peer → List Context → List Context
doubted_by_all ps rs = each_doubts doubted_by ps rs
