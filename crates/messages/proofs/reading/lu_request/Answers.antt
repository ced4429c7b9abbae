use Rattle.std.proofs.Common.{◌≡◌, ◌+◌, arith, rules}
use Rattle.messages.specs.Reading.{after_imsi}
use Rattle.messages.proofs.reading.lu_request.Goals as goal

pub returns-in_err-new_area : goal.returns-in_err-new_area
returns-in_err-new_area c =
    let p = after_imsi c.args.from.at c.in_ok-imsi.imsi in
    let ten : p + 3 + 7 ≡ p + 10 = omega arith in
    search rules

pub returns-in_err-class : goal.returns-in_err-class
returns-in_err-class c =
    let p = after_imsi c.args.from.at c.in_ok-imsi.imsi in
    let ten : p + 3 + 7 ≡ p + 10 = omega arith in
    let seventeen : p + 10 + 7 ≡ p + 17 = omega arith in
    grind (arith, ten, seventeen)

pub returns-in_err-end : goal.returns-in_err-end
returns-in_err-end c =
    let p = after_imsi c.args.from.at c.in_ok-imsi.imsi in
    let ten : p + 3 + 7 ≡ p + 10 = omega arith in
    let seventeen : p + 10 + 7 ≡ p + 17 = omega arith in
    let twenty : p + 17 + 3 ≡ p + 20 = omega arith in
    grind (arith, ten, seventeen, twenty)

pub returns : goal.returns
returns c =
    let p = after_imsi c.args.from.at c.in_ok-imsi.imsi in
    let ten : p + 3 + 7 ≡ p + 10 = omega arith in
    let seventeen : p + 10 + 7 ≡ p + 17 = omega arith in
    let twenty : p + 17 + 3 ≡ p + 20 = omega arith in
    grind (arith, ten, seventeen, twenty)
