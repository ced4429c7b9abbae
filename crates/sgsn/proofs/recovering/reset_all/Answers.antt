use Rattle.std.proofs.Common.{get_or, length, refl, ap, ◌∙◌, subst, arith}
use Rattle.std.proofs.lemmas.List.{length-map}
use Rattle.station.specs.Sends.{Sent}
use Rattle.station.specs.Ticks.{reset_to}
use Rattle.station.proofs.Times.{one_turn}
use Rattle.station.proofs.Turns.{turns_all}
use Rattle.sgsn.specs.Peers.{with_row}
use Rattle.sgsn.proofs.Loops.{nobody, loss, lost_each, resets_each}
use Rattle.sgsn.proofs.recovering.reset_all.Goals as goal

pub loop-i-preserved : goal.loop-i-preserved
loop-i-preserved g c =
    let l = c.loop-i.invariant in
    record {
      same = c.lose.ensures.own ∙ l.same;
      going = one_turn loss 1 (λ n p. omega arith) _ (λ n. omega arith) c.lose.new.sender c.lose.new.carrier _ _ _ l.going l.same (omega arith) refl
          (λ r. ap (with_row (get_or c.loop-i.peers c.loop-i.i nobody)) (c.lose.ensures.row r.0)) (λ r. c.lose.ensures.last r.0) c.lose.ensures.sent;
    }

pub returns-clause-peers : goal.returns-clause-peers
returns-clause-peers g c =
    let s = c.args.sender.now in
    (turns_all c.loop-i.invariant.going.turns (omega arith) refl refl).0 ∙ lost_each s.own s.last c.args.peers.now

pub returns-clause-last : goal.returns-clause-last
returns-clause-last g c =
    let own = c.args.sender.now.own in
    let all = (turns_all c.loop-i.invariant.going.turns (omega arith) refl refl).1 in
    omega (arith, all, ap length (resets_each own c.args.peers.now), length-map c.args.peers.now (λ p. reset_to own p.vlr.node))

pub returns-clause-sent : goal.returns-clause-sent
returns-clause-sent g c =
    let s = c.args.sender.now in
    subst (λ os. Sent g.C.Carrier.puts s.own s.last os c.args.carrier.now c.loop-i.carrier) (resets_each s.own c.args.peers.now)
    (turns_all c.loop-i.invariant.going.turns (omega arith) refl refl).2
