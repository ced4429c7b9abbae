use Rattle.std.proofs.Common.{◌≡◌, ◌+◌, ◌*◌, length, drop}
use Rattle.station.specs.Times.{record_clock, peer_clock, CanTick, each_doubts}
use Rattle.station.proofs.Times.{Going}
use Rattle.station.proofs.time.tick.Given as goal

-- the records up to i had their ticks
abbrev pub invariant-loop-i : goal.invariant-loop-i
invariant-loop-i g l =
    let a = record_clock g.R.Timed.ticked g.R.Timed.sends in
    let b = peer_clock g.P.TimedPeer.node g.P.TimedPeer.ticked g.P.TimedPeer.sends in
    let s = l.fn.sender in
    record {
      same : l.sender.own ≡ s.own;
      going : CanTick a b s l.fn.records l.fn.peers → Going a (λ n. n + 2 * length l.fn.peers) g.C.Carrier.puts s.own s.last l.fn.records l.fn.carrier l.i l.sender l.records l.carrier;
    }

-- and then the peers up to i
abbrev pub invariant-loop-i-2 : goal.invariant-loop-i-2
invariant-loop-i-2 g l =
    let a = record_clock g.R.Timed.ticked g.R.Timed.sends in
    let b = peer_clock g.P.TimedPeer.node g.P.TimedPeer.ticked g.P.TimedPeer.sends in
    let s = l.fn.sender in
    record {
      same : l.sender.own ≡ s.own;
      going : CanTick a b s l.fn.records l.fn.peers → Going b (λ n. 2 * n) g.C.Carrier.puts s.own l.initial.sender.last l.fn.peers l.initial.carrier l.i l.sender l.peers l.carrier;
      doubts : each_doubts g.P.TimedPeer.doubts (drop l.i l.peers) l.records ≡ each_doubts g.P.TimedPeer.doubts l.fn.peers l.initial.records;
    }
