-- One tick of an end: of each record in order, and then toward each peer.
use Rattle.std.specs.Prelude.{◌≡◌, ℕ, ◌+◌, ◌*◌, Bool, true, List, [], ◌∷◌, ◌++◌, length}
use Rattle.std.specs.List.{list_all}
use Rattle.elements.specs.declared.node.NodeNumber.{NodeNumber}
use Rattle.frames.specs.Format.{lawful_nodes}
use Rattle.station.specs.declared.sending.Outgoing.{Outgoing}
use Rattle.station.specs.declared.sending.Sender.{Sender}
use Rattle.station.specs.Sends.{HasStamps, Sent, may_go}

-- each of these after its tick, where the last stamp before was this one
abbrev pub each_ticked : {X : Type 0} → (ℕ → X → X) → (X → List Outgoing) → ℕ → List X → List X
each_ticked ticked sends last [] = []
each_ticked ticked sends last (x ∷ xs) = ticked last x ∷ each_ticked ticked sends (last + length (sends x)) xs

-- what all of these send, one after the other
abbrev pub each_sends : {X : Type 0} → (X → List Outgoing) → List X → List Outgoing
each_sends sends [] = []
each_sends sends (x ∷ xs) = sends x ++ each_sends sends xs

-- the records, where each of these peers in turn makes this of them
abbrev pub each_doubts : {P R : Type 0} → (P → List R → List R) → List P → List R → List R
each_doubts doubts [] rs = rs
each_doubts doubts (p ∷ ps) rs = each_doubts doubts ps (doubts p rs)

-- What a tick does to such a value at the end with this number: what it is then, what it sends, and whether that may go.
pub record Clock (X : Type 0) : Type 0 where
  pub ticked : NodeNumber → ℕ → X → X
  pub sends : NodeNumber → X → List Outgoing
  pub may : NodeNumber → X → Bool

-- of records that tick so and send this
abbrev pub record_clock : {R : Type 0} → (ℕ → R → R) → (R → List Outgoing) → Clock R
record_clock ticked sends = record {
  ticked = λ own. ticked;
  sends = λ own. sends;
  may = λ own r. list_all (may_go own) (sends r);
}

-- of peers that have this number
abbrev pub peer_clock : {P : Type 0} → (P → NodeNumber) → (NodeNumber → ℕ → P → P)
    → (NodeNumber → P → List Outgoing) → Clock P
peer_clock node ticked sends = record {
  ticked = ticked;
  sends = sends;
  may = λ own p. lawful_nodes own (node p);
}

module _ {R P : Type 0} (a : Clock R) (b : Clock P) where
  -- all that goes out
  abbrev pub all_sends : NodeNumber → List R → List P → List Outgoing
  all_sends own rs ps = each_sends (a.sends own) rs ++ each_sends (b.sends own) ps

  -- the last stamp between the records and the peers
  abbrev pub last_between : NodeNumber → ℕ → List R → ℕ
  last_between own last rs = last + length (each_sends (a.sends own) rs)

  -- stamps last for one frame of each record and two to each peer, and all may go
  pub record CanTick (s : Sender) (rs : List R) (ps : List P) : Type 0 where
    pub stamps : HasStamps (length rs + 2 * length ps) s
    pub records : list_all (a.may s.own) rs ≡ true
    pub peers : list_all (b.may s.own) ps ≡ true

  -- what the tick leaves of records and peers, and that all went out in order
  pub record AllTicked (doubts : P → List R → List R) {C : Type 0} (puts : C → List ℕ → C → Type 0)
      (s : Sender) (rs : List R) (ps : List P) (c : C) (t : Sender) (qs : List R) (os : List P) (d : C) : Type 0 where
    pub records : qs ≡ each_doubts doubts ps (each_ticked (a.ticked s.own) (a.sends s.own) s.last rs)
    pub peers : os ≡ each_ticked (b.ticked s.own) (b.sends s.own) (last_between s.own s.last rs) ps
    pub last : t.last ≡ s.last + length (all_sends s.own rs ps)
    pub sent : Sent puts s.own s.last (all_sends s.own rs ps) c d
