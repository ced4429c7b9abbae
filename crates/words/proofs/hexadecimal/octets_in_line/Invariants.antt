use Rattle.std.proofs.Common.{◌≡◌, ◌-◌, ◌≤◌, length}
use Rattle.words.specs.Hexadecimal.{octets_in, octets_of}
use Rattle.words.proofs.Lines.{behind}
use Rattle.words.proofs.hexadecimal.octets_in_line.Given as goal

abbrev pub invariant-loop-rest : goal.invariant-loop-rest
invariant-loop-rest l = record {
  read : octets_in 128 l.line ≡ behind (octets_of l.octets) (octets_in (128 - length (octets_of l.octets)) l.rest);
  room : length (octets_of l.octets) ≤ 128;
}

abbrev pub decreases-loop-rest : goal.decreases-loop-rest
decreases-loop-rest l = length l.rest
