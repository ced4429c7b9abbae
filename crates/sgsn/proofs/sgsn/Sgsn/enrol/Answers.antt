use Rattle.std.proofs.Common.{map, take, sym, ap, ◌∙◌, arith}
use Rattle.std.specs.List.{list_all}
use Rattle.directory.specs.Lookup.{Held}
use Rattle.context.specs.Contexts.{whose}
use Rattle.sgsn.specs.Fitting.{fits_in}
use Rattle.sgsn.proofs.Fits.{fits_stored, fits_new}
use Rattle.sgsn.proofs.sgsn.Sgsn.enrol.Goals as goal

pub invariant_of-self-2-clause-rising : goal.invariant_of-self-2-clause-rising
invariant_of-self-2-clause-rising c =
    let s = c.args.self.now in
    let held : Held whose s.held s.places = (omega (arith, s.few, s.all), s.rising) in
    (c.in-Some-store.ensures held).3

pub invariant_of-self-2-clause-fit : goal.invariant_of-self-2-clause-fit
invariant_of-self-2-clause-fit c =
    let s = c.args.self.now in
    let vs = map (λ p. p.vlr) (take s.count s.peers) in
    let held : Held whose s.held s.places = (omega (arith, s.few, s.all), s.rising) in
    let put = c.in-Some-store.ensures held in
    let fits = ap (fits_in vs) c.new.ensures ∙ fits_new vs c.args.imsi c.in-Some.class (sym c.if-not-is_lawful.ensures) in
    ap (list_all (fits_in vs)) put.2 ∙ fits_stored vs c.new.result (take s.held s.places) s.fit fits
