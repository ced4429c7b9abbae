use Rattle.std.proofs.Common.{map, take, ap, ◌∙◌}
use Rattle.std.specs.List.{list_all}
use Rattle.station.specs.declared.row.Row.{Row}
use Rattle.station.specs.Rows.{reset_taken}
use Rattle.context.specs.Contexts.{doubtful_at}
use Rattle.sgsn.specs.Fitting.{fits_in}
use Rattle.sgsn.specs.Peers.{row_changed_at}
use Rattle.sgsn.specs.State.{state_of, with_peers, with_records}
use Rattle.sgsn.proofs.Senders.{sender_row, row_front, nodes_front, vlrs_front}
use Rattle.sgsn.proofs.sgsn.Sgsn.take_reset.Goals as goal

pub invariant_of-self-clause-nodes : goal.invariant_of-self-clause-nodes
invariant_of-self-clause-nodes c =
    let s = c.doubt_at.new.self in
    nodes_front s.sender.own s.count c.args.i (λ r. reset_taken r c.args.frame.stamp) s.peers _ c.take_reset_at.ensures s.nodes

pub invariant_of-self-clause-fit : goal.invariant_of-self-clause-fit
invariant_of-self-clause-fit c =
    let s = c.doubt_at.new.self in
    let same = vlrs_front s.count c.args.i (λ r. reset_taken r c.args.frame.stamp) s.peers _ c.take_reset_at.ensures in
    ap (λ vs. list_all (fits_in vs) (take s.held s.places)) same ∙ s.fit

pub returns : goal.returns
returns c =
    let f = c.args.frame in
    let s = state_of c.args.self.now in
    let t = c.doubt_at.new.self in
    let g : Row → Row = λ r. reset_taken r f.stamp in
    ap (with_peers (state_of t)) (row_front t.count c.args.i g t.peers _ c.take_reset_at.ensures)
    ∙ ap (λ x. with_peers x (row_changed_at c.args.i g x.peers)) c.doubt_at.ensures
    ∙ ap (with_peers (with_records s (map (doubtful_at c.args.peer.vlr) s.records))) (sender_row f c.args.i c.args.peer s.peers g c.requires)
