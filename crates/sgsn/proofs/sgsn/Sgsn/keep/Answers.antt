use Rattle.std.proofs.Common.{map, take, ap, ◌∙◌, arith}
use Rattle.std.specs.List.{list_all}
use Rattle.directory.specs.Lookup.{Held}
use Rattle.context.specs.Contexts.{whose}
use Rattle.sgsn.specs.Fitting.{fits_in}
use Rattle.sgsn.proofs.Fits.{fits_stored}
use Rattle.sgsn.proofs.sgsn.Sgsn.keep.Goals as goal

pub invariant_of-self-clause-rising : goal.invariant_of-self-clause-rising
invariant_of-self-clause-rising c =
    let s = c.args.self.now in
    let held : Held whose s.held s.places = (omega (arith, s.few, s.all), s.rising) in
    (c.in-Some.ensures held).3

pub invariant_of-self-clause-fit : goal.invariant_of-self-clause-fit
invariant_of-self-clause-fit c =
    let s = c.args.self.now in
    let vs = map (λ p. p.vlr) (take s.count s.peers) in
    let held : Held whose s.held s.places = (omega (arith, s.few, s.all), s.rising) in
    ap (list_all (fits_in vs)) (c.in-Some.ensures held).2 ∙ fits_stored vs c.args.context (take s.held s.places) s.fit c.requires.fits
