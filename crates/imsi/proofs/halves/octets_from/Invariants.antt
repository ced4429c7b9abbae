use Rattle.std.proofs.Common.{◌≡◌, ◌+◌, ◌-◌, ◌*◌, ◌%◌, ◌≤◌, ◌∷◌, ◌++◌, length, drop}
use Rattle.imsi.specs.Halves.{paired}
use Rattle.imsi.specs.Spelling.{digits, filled}
use Rattle.imsi.proofs.halves.octets_from.Given as goal

abbrev pub invariant-loop-i : goal.invariant-loop-i
invariant-loop-i l =
    (length l.octets ≡ 8)
    × (1 ≤ l.i)
    × (paired ((1 + 8 * (l.digits % 2)) ∷ digits (2 * l.i - 1) l.left) ++ drop l.i l.octets ≡ paired (filled l.digits l.value))
