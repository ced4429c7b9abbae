use Rattle.std.proofs.Common.{◌≡◌, [], drop, refl, sym, ap, ◌∙◌, subst, arith}
use Rattle.std.proofs.lemmas.List.{drop_all, length-append}
use Rattle.station.specs.Sends.{Sent}
use Rattle.station.specs.Times.{record_clock, peer_clock, each_ticked, each_sends, each_doubts}
use Rattle.station.proofs.Chains.{sent_more}
use Rattle.station.proofs.Times.{one_turn, doubt_turn}
use Rattle.station.proofs.Turns.{turns_all}
use Rattle.station.proofs.time.tick.Goals as goal

pub loop-i-preserved : goal.loop-i-preserved
loop-i-preserved g c =
    let l = c.loop-i.invariant in
    let a = record_clock g.R.Timed.ticked g.R.Timed.sends in
    record {
      same = c.tick.ensures.own ∙ l.same;
      going = λ can. one_turn a 1 (λ n r. g.met.R.Timed.few r) _ (λ n. omega arith) c.tick.new.sender c.tick.new.carrier _ _ _ (l.going can) l.same (omega arith) c.index-records-i.is
          (λ r. c.tick.ensures.value r.0) (λ r. c.tick.ensures.last r.0) (λ r. c.tick.ensures.sent r.0 r.1);
    }

pub loop-i-2-preserved : goal.loop-i-2-preserved
loop-i-2-preserved g c =
    let l = c.loop-i-2.invariant in
    let b = peer_clock g.P.TimedPeer.node g.P.TimedPeer.ticked g.P.TimedPeer.sends in
    let it = c.tick-in-loop-i-2 in
    record {
      same = it.ensures.own ∙ l.same;
      going = λ can. one_turn b 2 g.met.P.TimedPeer.few _ (λ n. omega arith) it.new.sender it.new.carrier _ _ _ (l.going can) l.same (omega arith) refl
          it.ensures.peer it.ensures.last it.ensures.sent;
      doubts = doubt_turn g.P.TimedPeer.doubts c.loop-i-2.peers c.loop-i-2.i c.index-peers-i.result it.new.self c.loop-i-2.records it.new.records (omega arith) it.ensures.records ∙ l.doubts;
    }

pub returns-clause-ticked : goal.returns-clause-ticked
returns-clause-ticked g c can =
    let a = record_clock g.R.Timed.ticked g.R.Timed.sends in
    let b = peer_clock g.P.TimedPeer.node g.P.TimedPeer.ticked g.P.TimedPeer.sends in
    let own = c.args.sender.now.own in
    let last = c.args.sender.now.last in
    let rs = each_sends (a.sends own) c.args.records.now in
    let ps = each_sends (b.sends own) c.args.peers.now in
    let first = turns_all (c.loop-i.invariant.going can).turns (omega arith) refl refl in
    let then = turns_all (c.loop-i-2.invariant.going can).turns (omega arith) refl refl in
    let none : drop c.loop-i-2.i c.loop-i-2.peers ≡ [] = drop_all c.loop-i-2.i c.loop-i-2.peers (omega arith) in
    record {
      records = ap (λ l. each_doubts g.P.TimedPeer.doubts l c.loop-i-2.records) (sym none) ∙ c.loop-i-2.invariant.doubts ∙ ap (each_doubts g.P.TimedPeer.doubts c.args.peers.now) first.0;
      peers = then.0 ∙ ap (λ n. each_ticked (b.ticked own) (b.sends own) n c.args.peers.now) first.1;
      last = omega (arith, then.1, first.1, length-append rs ps);
      sent = sent_more g.C.Carrier.puts own last rs ps c.args.carrier.now c.loop-i.carrier c.loop-i-2.carrier first.2
          (subst (λ n. Sent g.C.Carrier.puts own n ps c.loop-i.carrier c.loop-i-2.carrier) first.1 then.2);
    }
