use Rattle.std.proofs.Common.{◌≡◌, ◌≤◌, ltb, length, Some, None, rules}
use Rattle.std.proofs.lemmas.Bool.{lt-ltb}
use Rattle.gate.specs.Rows.{spot, rows_of}
use Rattle.gate.proofs.Notes.{row_in_front, new_row}
use Rattle.gate.proofs.pairs.Pairs.note.Goals as goal

pub returns-then-newer : goal.returns-then-newer
returns-then-newer c =
    let s = c.args.self.now in
    let few : s.count ≤ length s.rows = search rules in
    let at : spot c.args.route.source c.args.route.destination (rows_of s) ≡ Some c.in-Some.i = search rules in
    let r = row_in_front c.args.route.source c.args.route.destination c.args.stamp s.rows s.count c.in-Some.i few at in
    record { answer = r.0; rows = rw (lt-ltb _ _ c.if-newer.true) r.1 }

pub returns-else-newer-clause-answer : goal.returns-else-newer-clause-answer
returns-else-newer-clause-answer c =
    let s = c.args.self.now in
    let few : s.count ≤ length s.rows = search rules in
    let at : spot c.args.route.source c.args.route.destination (rows_of s) ≡ Some c.in-Some.i = search rules in
    (row_in_front c.args.route.source c.args.route.destination c.args.stamp s.rows s.count c.in-Some.i few at).0

pub returns-then-stamp-gt0 : goal.returns-then-stamp-gt0
returns-then-stamp-gt0 c =
    let ps = rows_of c.args.self.now in
    let at : spot c.args.route.source c.args.route.destination ps ≡ None = search rules in
    let room : ltb (length ps) 16 ≡ c.push.result = search rules in
    let r = new_row c.args.route.source c.args.route.destination c.args.stamp c.push.result ps (rows_of c.push.new.self) at (search rules) room (search rules) (search rules) in
    record { answer = r.0; rows = r.1 }
