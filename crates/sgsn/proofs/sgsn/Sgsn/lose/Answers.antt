use Rattle.std.proofs.Common.{◌≤◌, ◌-◌, ◌++◌, map, length, take, drop, refl, ap, ◌∙◌, arith}
use Rattle.std.specs.List.{list_all}
use Rattle.context.specs.Contexts.{doubtful}
use Rattle.sgsn.specs.Fitting.{fits_in}
use Rattle.sgsn.specs.Peers.{peers_lost}
use Rattle.sgsn.proofs.Fits.{vlrs_lost, fits_map, fits_doubtful}
use Rattle.sgsn.proofs.Kept.{front, front_mapped, reached}
use Rattle.sgsn.proofs.sgsn.Sgsn.lose.Goals as goal

pub invariant_of-self-2-clause-nodes : goal.invariant_of-self-2-clause-nodes
invariant_of-self-2-clause-nodes g c =
    let s = c.args.self.now in
    let ps = front s.count s.peers c.reset_all.new.peers (peers_lost s.sender.last) (omega arith) c.reset_all.ensures.peers in
    reached s.sender.own c.reset_all.new.sender.own (take s.count s.peers) (take s.count (c.reset_all.new.peers ++ drop (s.count - 0) s.peers)) c.reset_all.ensures.own
    (ap (map (λ p. p.vlr)) ps ∙ vlrs_lost s.sender.last (take s.count s.peers))
    s.nodes

pub invariant_of-self-2-clause-rising : goal.invariant_of-self-2-clause-rising
invariant_of-self-2-clause-rising g c =
    let s = c.args.self.now in
    (c.change_each.ensures.lookups (omega (arith, s.few, s.all)) (λ x. refl)).1 s.rising

pub invariant_of-self-2-clause-fit : goal.invariant_of-self-2-clause-fit
invariant_of-self-2-clause-fit g c =
    let s = c.args.self.now in
    let vs = map (λ p. p.vlr) (take s.count s.peers) in
    let ps = front s.count s.peers c.reset_all.new.peers (peers_lost s.sender.last) (omega arith) c.reset_all.ensures.peers in
    let same = ap (map (λ p. p.vlr)) ps ∙ vlrs_lost s.sender.last (take s.count s.peers) in
    let held : s.held ≤ length s.places = omega (arith, s.few, s.all) in
    let records = front_mapped s.held s.places c.change_each.new.places doubtful held (c.change_each.ensures.places held) in
    (λ k. list_all (fits_in (same k)) (records k)) ∙ fits_map vs doubtful (take s.held s.places) (fits_doubtful vs) s.fit
