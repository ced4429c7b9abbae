use Rattle.std.proofs.Common.{◌≡◌, true, List, [], length, sym, ap, subst}
use Rattle.std.proofs.lemmas.Bool.{and_parts}
use Rattle.sgsn.specs.declared.peer.Peer.{Peer}
use Rattle.sgsn.specs.State.{State}
use Rattle.sgsn.specs.Making.{lawful_numbers, Risen}
use Rattle.sgsn.proofs.Makes.{its_vlrs, all_new, reachable}
use Rattle.sgsn.proofs.sgsn.Sgsn.new.Goals as goal

pub invariant_of-result-clause-nodes : goal.invariant_of-result-clause-nodes
invariant_of-result-clause-nodes c =
    let vs = c.args.vlrs.now in
    let lawful : lawful_numbers c.args.number vs ≡ true = sym c.if-not-are_lawful.ensures in
    let all = (and_parts _ _ (and_parts _ _ (and_parts _ _ lawful).1).1).0 in
    reachable (length vs) c.risen.result c.new_peers.result c.new_peers.ensures c.args.number.node vs c.risen.ensures.0 all

pub returns : goal.returns
returns c =
    let vs = c.args.vlrs.now in
    let own = c.args.number.node in
    let n = length vs in
    let its = its_vlrs n c.risen.result c.new_peers.result c.new_peers.ensures in
    let with : List Peer → State = λ ps. record { own = own; last = 0; peers = ps; records = [] } in
    (sym c.if-not-are_lawful.ensures, subst (Risen vs) (sym its) c.risen.ensures, ap with (all_new n c.risen.result c.new_peers.result c.new_peers.ensures))
