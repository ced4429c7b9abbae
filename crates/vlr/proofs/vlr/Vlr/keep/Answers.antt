use Rattle.std.proofs.Common.{take, ap, ◌∙◌, arith}
use Rattle.std.specs.List.{list_all}
use Rattle.directory.specs.Lookup.{Held}
use Rattle.directory.proofs.Everyone.{all_stored}
use Rattle.vlr.specs.Records.{names_its}
use Rattle.vlr.specs.State.{whose}
use Rattle.vlr.proofs.vlr.Vlr.keep.Goals as goal

pub invariant_of-self-clause-rising : goal.invariant_of-self-clause-rising
invariant_of-self-clause-rising c =
    let v = c.args.self.now in
    let held : Held whose v.held v.places = (omega (arith, v.few, v.all), v.rising) in
    (c.in-Some.ensures held).3

pub invariant_of-self-clause-marks : goal.invariant_of-self-clause-marks
invariant_of-self-clause-marks c =
    let v = c.args.self.now in
    let held : Held whose v.held v.places = (omega (arith, v.few, v.all), v.rising) in
    ap (list_all (names_its v.sgsn)) (c.in-Some.ensures held).2
    ∙ all_stored whose (names_its v.sgsn) c.args.changed (take v.held v.places) v.marks c.requires.names
