-- What a loss and a tick leave in an SGSN's places, from which what holds of every SGSN follows.
use Rattle.std.proofs.Common.{◌≡◌, ℕ, ◌-◌, ◌≤◌, true, List, ◌++◌, map, length, take, drop, sym, ap, subst, ◌∙◌, arith}
use native.Mathlib.Nat.{sub-zero}
use Rattle.std.proofs.lemmas.List.{take_at, length-map, length-take-le}
use Rattle.std.proofs.lemmas.List.Folds.{list_all-map}
use Rattle.std.specs.List.{list_all}
use Rattle.elements.specs.declared.node.NodeNumber.{NodeNumber}
use Rattle.frames.specs.Format.{lawful_nodes}
use Rattle.station.specs.declared.sending.Sender.{Sender}
use Rattle.station.specs.Times.{Clock, record_clock, peer_clock, CanTick, AllTicked}
use Rattle.context.specs.declared.context.Context.{Context}
use Rattle.context.specs.Contexts.{whose}
use Rattle.context.specs.Ticking.{context_ticked, context_sends}
use Rattle.sgsn.specs.declared.peer.Peer.{Peer}
use Rattle.sgsn.specs.declared.sgsn.Sgsn.{Sgsn}
use Rattle.sgsn.specs.Peers.{peer_ticked, peer_sends, peers_ticked, doubted_by}
use Rattle.sgsn.specs.Recovering.{ticked}
use Rattle.sgsn.specs.State.{state_of}
use Rattle.sgsn.proofs.Fits.{vlrs_ticked, may_each_tick, reach_peers}
use Rattle.sgsn.proofs.Ticks.{mobiles_ticked, mobiles_doubted}

-- the first n places, after all of them were changed
pub front : {X : Type 0} (n : ℕ) (xs new : List X) (f : List X → List X) → length new ≡ n → new ≡ f (take (n - 0) xs) → take n (new ++ drop (n - 0) xs) ≡ f (take n xs)
front n xs new f long is = take_at new (drop (n - 0) xs) n long ∙ is ∙ ap (λ k. f (take k xs)) (sub-zero n)

-- and after each of them was mapped
pub front_mapped : {X : Type 0} (n : ℕ) (xs new : List X) (f : X → X) → n ≤ length xs → new ≡ map f (take n xs) ++ drop n xs → take n new ≡ map f (take n xs)
front_mapped n xs new f le is = ap (take n) is ∙ take_at (map f (take n xs)) (drop n xs) n (length-map (take n xs) f ∙ length-take-le n xs le)

-- the VLRs are reached as before where their numbers are the same
pub reached : (own mine : NodeNumber) (ps qs : List Peer) → mine ≡ own → map (λ p. p.vlr) qs ≡ map (λ p. p.vlr) ps → list_all (λ p. lawful_nodes own p.vlr.node) ps ≡ true → list_all (λ p. lawful_nodes mine p.vlr.node) qs ≡ true
reached own mine ps qs same e nodes =
    ap (λ n. list_all (λ p. lawful_nodes n p.vlr.node) qs) same
    ∙ sym (list_all-map (λ v. lawful_nodes own v.node) (λ p. p.vlr) qs)
    ∙ ap (list_all (λ v. lawful_nodes own v.node)) e
    ∙ list_all-map (λ v. lawful_nodes own v.node) (λ p. p.vlr) ps
    ∙ nodes

-- a tick leaves as many VLRs and as many records
pub peers_long : (s : Sgsn) (own : NodeNumber) (last : ℕ) (new : List Peer) → new ≡ peers_ticked own last (take s.count s.peers) → length new ≡ s.count
peers_long s own last new is =
    let ps = take s.count s.peers in
    sym (length-map new (λ p. p.vlr)) ∙ ap (λ l. length (map (λ p. p.vlr) l)) is ∙ ap length (vlrs_ticked own last ps) ∙ length-map ps (λ p. p.vlr)
    ∙ length-take-le s.count s.peers (omega (arith, s.served, s.four))

pub mobiles_left : (s : Sgsn) (new : List Context) → new ≡ (ticked (state_of s)).records → map whose new ≡ map whose (take s.held s.places)
mobiles_left s new is = ap (map whose) is ∙ mobiles_doubted (take s.count s.peers) _ ∙ mobiles_ticked s.sender.last (take s.held s.places)

pub records_long : (s : Sgsn) (new : List Context) → new ≡ (ticked (state_of s)).records → length new ≡ s.held
records_long s new is =
    sym (length-map new whose) ∙ ap length (mobiles_left s new is) ∙ length-map (take s.held s.places) whose
    ∙ length-take-le s.held s.places (omega (arith, s.few, s.all))

-- how records and VLRs tick
abbrev pub records_clock : Clock Context
records_clock = record_clock context_ticked context_sends

abbrev pub peers_clock : Clock Peer
peers_clock = peer_clock (λ p. p.vlr.node) peer_ticked peer_sends

-- an SGSN that is not worn can tick
pub can_tick : (s : Sgsn) → s.sender.last ≤ 4294965000 → CanTick records_clock peers_clock s.sender (take s.held s.places) (take s.count s.peers)
can_tick s fresh =
    let ps = take s.count s.peers in
    let rs = take s.held s.places in
    let few = length-take-le s.held s.places (omega (arith, s.few, s.all)) in
    let four = length-take-le s.count s.peers (omega (arith, s.served, s.four)) in
    record {
      stamps = omega (arith, few, four, s.few, s.served);
      records = may_each_tick s.sender.own (map (λ p. p.vlr) ps) rs (reach_peers s.sender.own ps s.nodes) s.fit;
      peers = s.nodes;
    }

-- what its tick does, said of its places
pub all_ticked : {C : Type 0} (puts : C → List ℕ → C → Type 0) (s : Sgsn) (c : C) (t : Sender) (qs : List Context) (os : List Peer) (d : C)
    → let Ticks : List Context → List Peer → Type 0 = λ rs ps. CanTick records_clock peers_clock s.sender rs ps → AllTicked records_clock peers_clock doubted_by puts s.sender rs ps c t qs os d in
    s.sender.last ≤ 4294965000 → Ticks (take (s.held - 0) s.places) (take (s.count - 0) s.peers) → AllTicked records_clock peers_clock doubted_by puts s.sender (take s.held s.places) (take s.count s.peers) c t qs os d
all_ticked puts s c t qs os d fresh did =
    let Ticks : List Context → List Peer → Type 0 = λ rs ps. CanTick records_clock peers_clock s.sender rs ps → AllTicked records_clock peers_clock doubted_by puts s.sender rs ps c t qs os d in
    subst (λ k. Ticks (take k s.places) (take s.count s.peers)) (sub-zero s.held) (subst (λ k. Ticks (take (s.held - 0) s.places) (take k s.peers)) (sub-zero s.count) did) (can_tick s fresh)
