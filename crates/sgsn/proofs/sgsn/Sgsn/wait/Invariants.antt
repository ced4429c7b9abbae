use Rattle.std.proofs.Common.{ℕ, ◌+◌, ◌≤◌}
use Rattle.sgsn.specs.State.{state_of}
use Rattle.sgsn.specs.Awaiting.{Ticked}
use Rattle.sgsn.proofs.Awaits.{left}
use Rattle.sgsn.proofs.sgsn.Sgsn.wait.Given as goal

abbrev pub invariant-loop-self : goal.invariant-loop-self
invariant-loop-self g l = (n : ℕ) × Ticked g.C.Carrier.puts l.reply n (state_of l.initial.self) l.initial.carrier (state_of l.self) l.carrier × (n + left (state_of l.self) l.reply ≤ 32)

abbrev pub decreases-loop-self : goal.decreases-loop-self
decreases-loop-self g l = left (state_of l.self) l.reply
