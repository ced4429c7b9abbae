use Rattle.std.proofs.Common.{◌≡◌}
use Rattle.station.proofs.Times.{Going}
use Rattle.sgsn.proofs.Loops.{loss}
use Rattle.sgsn.proofs.recovering.reset_all.Given as goal

abbrev pub invariant-loop-i : goal.invariant-loop-i
invariant-loop-i g l =
    let s = l.initial.sender in
    record {
      same : l.sender.own ≡ s.own;
      going : Going loss (λ n. n) g.C.Carrier.puts s.own s.last l.initial.peers l.initial.carrier l.i l.sender l.peers l.carrier;
    }
