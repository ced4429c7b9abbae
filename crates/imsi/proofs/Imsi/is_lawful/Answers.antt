use Rattle.std.proofs.Common.{◌≤◌, arith}
use Rattle.std.proofs.lemmas.Bool.Decides.{nat_tests}
use Rattle.imsi.proofs.Tens.{tens_at}
use Rattle.imsi.proofs.Imsi.is_lawful.Goals as goal

pub returns-then-matches : goal.returns-then-matches
returns-then-matches c =
    let k = c.args.self.digits in
    let few : k ≤ 15 = grind (arith, nat_tests) in
    let table = tens_at k few in
    grind (arith, nat_tests)
