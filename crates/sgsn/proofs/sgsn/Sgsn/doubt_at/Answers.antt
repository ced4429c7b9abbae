use Rattle.std.proofs.Common.{◌≡◌, ◌≤◌, map, length, take, drop, ap, ◌∙◌, arith}
use Rattle.std.proofs.lemmas.List.{take_at, length-map, length-take-le}
use Rattle.std.specs.List.{list_all}
use Rattle.context.specs.Contexts.{doubtful_at}
use Rattle.sgsn.specs.Fitting.{fits_in}
use Rattle.sgsn.proofs.Fits.{fits_map, fits_doubtful_at}
use Rattle.sgsn.proofs.Keeps.{doubtful_whose}
use Rattle.sgsn.proofs.sgsn.Sgsn.doubt_at.Goals as goal

pub invariant_of-self-clause-fit : goal.invariant_of-self-clause-fit
invariant_of-self-clause-fit c =
    let s = c.args.self.now in
    let vs = map (λ p. p.vlr) (take s.count s.peers) in
    let f = doubtful_at c.args.vlr in
    let few : s.held ≤ length s.places = omega (arith, s.few, s.all) in
    let front : take s.held c.change_each.new.places ≡ map f (take s.held s.places) =
    ap (take s.held) (c.change_each.ensures.places few) ∙ take_at (map f (take s.held s.places)) (drop s.held s.places) s.held (length-map (take s.held s.places) f ∙ length-take-le s.held s.places few) in
    ap (list_all (fits_in vs)) front ∙ fits_map vs f (take s.held s.places) (fits_doubtful_at vs c.args.vlr) s.fit

pub invariant_of-self-clause-rising : goal.invariant_of-self-clause-rising
invariant_of-self-clause-rising c =
    let s = c.args.self.now in
    (c.change_each.ensures.lookups (omega (arith, s.few, s.all)) (doubtful_whose c.args.vlr)).1 s.rising
