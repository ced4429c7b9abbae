use Rattle.std.proofs.Common.{rules}
use Rattle.std.proofs.lemmas.Fn.{always_returns_same}
use Rattle.directory.proofs.Find.{by_rank, by_same, both, searched}
use Rattle.directory.proofs.search.find.Goals as goal

pub returns-clause-place : goal.returns-clause-place
returns-clause-place g c up =
    let w = g.R.OfMobile.whose in
    let m = c.args.imsi in
    let facts = c.binary_search_by.ensures in
    let same = facts.position (by_same w m) (always_returns_same _ _ _ (λ x r f k. search (rules, both w m))) in
    let rank = facts.position (by_rank w m) (always_returns_same _ _ _ (λ x r f k. search rules)) in
    searched w m c.args.list.now _ facts.bound same rank up
