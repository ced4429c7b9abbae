use native.Mathlib.Nat.{sub-zero}
use Rattle.std.proofs.Common.{◌||◌, ltb, length, take, is_some, Ok, Err, sym, refl, ap, ◌∙◌, subst, arith}
use Rattle.std.proofs.lemmas.List.{length-take-le}
use Rattle.std.proofs.lemmas.Bool.{lt-ltb, le-ltb}
use Rattle.directory.specs.Lookup.{at}
use Rattle.directory.specs.Order.{Climbs}
use Rattle.directory.specs.Search.{Place}
use Rattle.directory.proofs.Takes.{inserted_records, take_of_set}
use Rattle.directory.proofs.Lookups.{at_found, at_missing, at-stored, stored_set, stored_inserted}
use Rattle.directory.proofs.Climb.{found, missing, Climbs-set, Climbs-inserted}
use Rattle.directory.proofs.table.store.Goals as goal

pub returns-then-held-places-2 : goal.returns-then-held-places-2
returns-then-held-places-2 g c h =
    let w = g.R.OfMobile.whose in
    let ps = c.args.places.now in
    let n = c.args.held in
    let e = c.args.record in
    let i = c.in-Err.i in
    let xs = take n ps in
    let q = subst (λ k. Climbs w (take k ps) → Place w c.imsi.result (take k ps) (Err i)) (sub-zero n) c.in-Err.ensures.place h.1 in
    let p = subst (λ m. Place w m xs (Err i)) c.imsi.ensures q in
    let len = length-take-le n ps h.0 in
    (ap (λ o. is_some o || ltb (length xs) (length ps)) (at_missing w xs (w e) i (missing w xs (w e) i p)) ∙ le-ltb (length xs) (length ps) (omega arith), refl)

pub returns-in-Ok : goal.returns-in-Ok
returns-in-Ok g c h =
    let w = g.R.OfMobile.whose in
    let ps = c.args.places.now in
    let n = c.args.held in
    let e = c.args.record in
    let i = c.in-Ok.i in
    let xs = take n ps in
    let q = subst (λ k. Climbs w (take k ps) → Place w c.imsi.result (take k ps) (Ok i)) (sub-zero n) c.in-Ok.ensures.place h.1 in
    let p = subst (λ m. Place w m xs (Ok i)) c.imsi.ensures q in
    let s = found w xs h.1 (w e) i p in (
      h.0,
      ap (λ o. is_some o || ltb (length xs) (length ps)) (at_found w xs (w e) i s e),
      take_of_set n ps i e ∙ stored_set w xs e i s,
      subst (Climbs w) (sym (take_of_set n ps i e)) (Climbs-set w xs i e h.1 p),
      λ m. ap (λ l. at w l m) (take_of_set n ps i e ∙ stored_set w xs e i s) ∙ at-stored w e xs m,
    )

pub returns-else-held-places-2 : goal.returns-else-held-places-2
returns-else-held-places-2 g c h =
    let w = g.R.OfMobile.whose in
    let ps = c.args.places.now in
    let n = c.args.held in
    let e = c.args.record in
    let i = c.in-Err.i in
    let xs = take n ps in
    let q = subst (λ k. Climbs w (take k ps) → Place w c.imsi.result (take k ps) (Err i)) (sub-zero n) c.in-Err.ensures.place h.1 in
    let p = subst (λ m. Place w m xs (Err i)) c.imsi.ensures q in
    let s = missing w xs (w e) i p in
    let len = length-take-le n ps h.0 in
    let both = inserted_records n ps c.insert_at.new.list _ i e (omega (arith, h.0, c.if-held-places-2.false)) (omega (arith, p.0)) c.insert_at.ensures in (
      omega (arith, h.0, c.if-held-places-2.false),
      ap (λ o. is_some o || ltb (length xs) (length ps)) (at_missing w xs (w e) i s) ∙ lt-ltb (length xs) (length ps) (omega (arith, h.0, c.if-held-places-2.false)),
      both.1 ∙ stored_inserted w xs e i s,
      subst (Climbs w) (sym both.1) (Climbs-inserted w xs i e h.1 p),
      λ m. ap (λ l. at w l m) (both.1 ∙ stored_inserted w xs e i s) ∙ at-stored w e xs m,
    )
