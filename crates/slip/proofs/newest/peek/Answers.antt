use Rattle.std.proofs.Common.{◌≡◌, Some, None, vec_items, rules}
use Rattle.queue.specs.Lists.{place}
use Rattle.queue.proofs.Places.{taken, untaken}
use Rattle.slip.proofs.newest.peek.Goals as goal

pub returns-in_err-i : goal.returns-in_err-i
returns-in_err-i c =
    let none : place c.args.node (vec_items c.args.queue.now.frames) ≡ None = search rules in
    let r = untaken c.args.node _ none in
    search (rules, r)

pub returns : goal.returns
returns c =
    let at : place c.args.node (vec_items c.args.queue.now.frames) ≡ Some c.in_ok-i.i = search rules in
    let r = taken c.args.node _ _ _ at c.index.ensures in
    search (rules, r)
