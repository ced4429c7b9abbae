use Rattle.std.proofs.Common.{◌≡◌, ◌-◌, ◌*◌, length, Some, sym, refl, ap, ◌∙◌, arith}
use Rattle.std.proofs.lemmas.Bool.Decides.{nat_tests}
use Rattle.imsi.specs.Halves.{halves}
use Rattle.imsi.specs.Spelling.{counted, after}
use Rattle.imsi.proofs.Nibbles.{half_low, half_high}
use Rattle.imsi.proofs.reading.digits_by_marker.Goals as goal
use Rattle.imsi.proofs.reading.digits_by_marker.Goals.{in-9, in-1}

pub returns-in_default : goal.returns-in_default
returns-in_default c =
    let os = c.args.octets.now in
    let n = length os in
    let first = half_low os 0 0 refl in
    let last = half_high os (2 * n - 1) (n - 1) (omega arith) in
    grind (arith, nat_tests)

pub returns : goal.returns
returns c =
    let os = c.args.octets.now in
    let n = length os in
    let count = c.match-octets-rem16.count in
    let first = half_low os 0 0 refl in
    let read : after count (halves os) ≡ Some (count, c.in_ok-value_in.field-0) = ap (counted count) (sym c.value_in.ensures ∙ c.in_ok-value_in.was) in
    elim c.match-octets-rem16.branch [
      | in-9 w ↦ grind (arith, nat_tests)
      | in-1 w ↦ (let last = half_high os (2 * n - 1) (n - 1) (omega arith) in grind (arith, nat_tests))
    ]
