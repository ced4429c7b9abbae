use native.Mathlib.Nat.{sub-zero}
use Rattle.std.proofs.Common.{get_or, take, Some, sym, ap, ◌∙◌, subst}
use Rattle.directory.specs.Order.{Climbs}
use Rattle.directory.specs.Search.{Place}
use Rattle.directory.proofs.Find.{looked_up}
use Rattle.directory.proofs.table.look.Goals as goal

pub returns-in_err-i : goal.returns-in_err-i
returns-in_err-i g c h =
    let w = g.R.OfMobile.whose in
    let ps = c.args.places.now in
    let n = c.args.held in
    let m = c.args.imsi in
    let p = subst (λ k. Climbs w (take k ps) → Place w m (take k ps) c.find.result) (sub-zero n) c.find.ensures.place h.1 in
    let none = rw (sym c.ok.ensures.value ∙ c.in_err-i.was) at (looked_up w m (take n ps) c.find.result h.1 p) in
    c.from_residual.ensures ∙ sym none

pub returns : goal.returns
returns g c h =
    let w = g.R.OfMobile.whose in
    let ps = c.args.places.now in
    let n = c.args.held in
    let m = c.args.imsi in
    let x = c.index-list-i.result in
    let p = subst (λ k. Climbs w (take k ps) → Place w m (take k ps) c.find.result) (sub-zero n) c.find.ensures.place h.1 in
    let some = rw (sym c.ok.ensures.value ∙ c.in_ok-i.was) at (looked_up w m (take n ps) c.find.result h.1 p) in
    ap Some (c.index-list-i.is ∙ ap (λ k. get_or (take k ps) c.in_ok-i.i x) (sub-zero n)) ∙ sym (some x)
