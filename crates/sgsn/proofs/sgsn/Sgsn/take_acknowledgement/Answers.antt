use Rattle.std.proofs.Common.{take, ap, ◌∙◌}
use Rattle.std.specs.List.{list_all}
use Rattle.station.specs.declared.row.Row.{Row}
use Rattle.station.specs.Rows.{acknowledged}
use Rattle.sgsn.specs.Fitting.{fits_in}
use Rattle.sgsn.specs.State.{state_of, with_peers}
use Rattle.sgsn.proofs.Senders.{sender_row, row_front, nodes_front, vlrs_front}
use Rattle.sgsn.proofs.sgsn.Sgsn.take_acknowledgement.Goals as goal

pub invariant_of-self-clause-nodes : goal.invariant_of-self-clause-nodes
invariant_of-self-clause-nodes c =
    let s = c.args.self.now in
    nodes_front s.sender.own s.count c.args.i (λ r. acknowledged r c.args.frame.answers) s.peers _ c.take_acknowledgement_at.ensures s.nodes

pub invariant_of-self-clause-fit : goal.invariant_of-self-clause-fit
invariant_of-self-clause-fit c =
    let s = c.args.self.now in
    let same = vlrs_front s.count c.args.i (λ r. acknowledged r c.args.frame.answers) s.peers _ c.take_acknowledgement_at.ensures in
    ap (λ vs. list_all (fits_in vs) (take s.held s.places)) same ∙ s.fit

pub returns : goal.returns
returns c =
    let f = c.args.frame in
    let s = c.args.self.now in
    let g : Row → Row = λ r. acknowledged r f.answers in
    ap (with_peers (state_of s)) (row_front s.count c.args.i g s.peers _ c.take_acknowledgement_at.ensures ∙ sender_row f c.args.i c.args.peer (take s.count s.peers) g c.requires)
