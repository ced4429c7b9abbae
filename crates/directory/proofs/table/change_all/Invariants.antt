use Rattle.std.proofs.Common.{◌≡◌, ◌++◌, map, take, drop}
use Rattle.directory.proofs.table.change_all.Given as goal

abbrev pub invariant-loop-record : goal.invariant-loop-record
invariant-loop-record g l = l.list ≡ map (g.F.Change.to l.change) (take l.record-index l.initial.list) ++ drop l.record-index l.initial.list
