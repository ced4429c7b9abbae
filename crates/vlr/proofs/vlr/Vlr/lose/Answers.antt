use Rattle.std.proofs.Common.{◌≤◌, length, refl, arith}
use Rattle.vlr.specs.Records.{doubtful}
use Rattle.vlr.proofs.Names.{doubtful_names, changed_names}
use Rattle.vlr.proofs.vlr.Vlr.lose.Goals as goal

pub invariant_of-self-2-clause-rising : goal.invariant_of-self-2-clause-rising
invariant_of-self-2-clause-rising g c =
    let v = c.args.self.now in
    (c.change_each.ensures.lookups (omega (arith, v.few, v.all)) (λ r. refl)).1 v.rising

pub invariant_of-self-2-clause-marks : goal.invariant_of-self-2-clause-marks
invariant_of-self-2-clause-marks g c =
    let v = c.args.self.now in
    let few : v.held ≤ length v.places = omega (arith, v.few, v.all) in
    changed_names v.sgsn doubtful v.held v.places _ (doubtful_names v.sgsn) few (c.change_each.ensures.places few) v.marks
