use Rattle.std.proofs.Common.{◌≤◌, length, arith}
use Rattle.vlr.specs.Records.{doubtful_at}
use Rattle.vlr.proofs.ByMobile.{doubtful-whose}
use Rattle.vlr.proofs.Names.{doubtful_at_names, changed_names}
use Rattle.vlr.proofs.vlr.Vlr.take.Goals as goal

pub invariant_of-self-clause-rising : goal.invariant_of-self-clause-rising
invariant_of-self-clause-rising g c =
    let v = c.args.self.now in
    (c.change_each.ensures.lookups (omega (arith, v.few, v.all)) (doubtful-whose v.sgsn)).1 v.rising

pub invariant_of-self-clause-marks : goal.invariant_of-self-clause-marks
invariant_of-self-clause-marks g c =
    let v = c.args.self.now in
    let few : v.held ≤ length v.places = omega (arith, v.few, v.all) in
    changed_names v.sgsn (doubtful_at v.sgsn) v.held v.places _ (doubtful_at_names v.sgsn) few (c.change_each.ensures.places few) v.marks
