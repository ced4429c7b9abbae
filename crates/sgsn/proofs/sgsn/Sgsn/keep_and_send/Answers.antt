use Rattle.std.proofs.Common.{◌≡◌, ◌+◌, ◌<◌, true, ◌∷◌, [], take, sym, ap, ◌∙◌, subst}
use Rattle.std.proofs.lemmas.Bool.{and_parts}
use Rattle.std.specs.List.{list_all}
use Rattle.frames.specs.Format.{lawful_nodes}
use Rattle.station.specs.Sends.{Sent, may_go, outgoing_in}
use Rattle.sgsn.specs.State.{own_of, last_of}
use Rattle.sgsn.proofs.sgsn.Sgsn.keep_and_send.Goals as goal

pub invariant_of-self-clause-nodes : goal.invariant_of-self-clause-nodes
invariant_of-self-clause-nodes g c =
    let s = c.keep.new.self in
    subst (λ o. list_all (λ p. lawful_nodes o p.vlr.node) (take s.count s.peers) ≡ true) (sym c.send.ensures.own) s.nodes

pub returns-in-Some-clause-sent : goal.returns-in-Some-clause-sent
returns-in-Some-clause-sent g c =
    let s = c.keep.new.self.sender in
    let own = c.args.self.now.sender.own in
    let last = c.args.self.now.sender.last in
    let m = c.in-Some.message in
    let own_is : s.own ≡ own = ap own_of c.keep.ensures in
    let last_is : s.last ≡ last = ap last_of c.keep.ensures in
    let may = (and_parts (may_go own m) true (ap (λ o. list_all (may_go own) (outgoing_in o)) (sym c.in-Some.is) ∙ c.requires.may)).0 in
    let sent = c.send.ensures.sent (subst (λ n. n + 1 < 4294967296) (sym last_is) c.requires.stamps) (ap (λ o. may_go o m) own_is ∙ may) in
    subst (λ o. Sent g.C.Carrier.puts own last (outgoing_in o) c.args.carrier.now c.send.new.carrier) (sym c.in-Some.is)
    (subst (λ n. Sent g.C.Carrier.puts own n (m ∷ []) c.args.carrier.now c.send.new.carrier) last_is
    (subst (λ o. Sent g.C.Carrier.puts o s.last (m ∷ []) c.args.carrier.now c.send.new.carrier) own_is sent))
