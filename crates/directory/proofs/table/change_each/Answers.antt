use Rattle.std.proofs.Common.{map, take, drop, sym, ap, ◌∙◌, subst}
use Rattle.std.proofs.lemmas.List.{take_at, length-map, length-take-le}
use Rattle.directory.specs.Lookup.{at}
use Rattle.directory.specs.Order.{Climbs}
use Rattle.directory.proofs.Climb.{Climbs-map}
use Rattle.directory.proofs.Lookups.{at-map}
use Rattle.directory.proofs.Takes.{changed_places}
use Rattle.directory.proofs.table.change_each.Goals as goal

pub returns-then-held-places : goal.returns-then-held-places
returns-then-held-places g c =
    let w = g.R.OfMobile.whose in
    let f = g.F.Change.to c.args.change.now in
    let ps = c.args.places.now in
    let n = c.args.held in
    let all = changed_places f n ps c.change_all.new.list c.change_all.ensures in
    record {
      places = λ h. all;
      lookups = λ h keeps.
          let front = ap (take n) all ∙ take_at (map f (take n ps)) (drop n ps) n (length-map (take n ps) f ∙ length-take-le n ps h) in
          ((λ m. ap (λ l. at w l m) front ∙ at-map w f keeps (take n ps) m), λ up. subst (Climbs w) (sym front) (Climbs-map w f keeps (take n ps) up));
    }
