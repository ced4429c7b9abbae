use Rattle.std.proofs.Common.{◌≡◌, ◌+◌, ◌*◌, ◌^◌, ◌<◌, take, drop}
use Rattle.imsi.specs.Halves.{halves}
use Rattle.imsi.specs.Spelling.{valued}
use Rattle.imsi.proofs.halves.value_in.Given as goal

abbrev pub invariant-loop-octet : goal.invariant-loop-octet
invariant-loop-octet l = record {
  below : l.value < 10 ^ (2 * l.octet-index + 1);
  rest : valued l.value (drop (2 * l.octet-index + 1) (take l.count (drop 1 (halves l.octets)))) ≡ valued 0 (take l.count (drop 1 (halves l.octets)));
}
