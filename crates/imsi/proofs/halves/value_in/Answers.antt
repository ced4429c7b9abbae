use Rattle.std.proofs.Common.{◌+◌, ◌-◌, ◌*◌, ◌/◌, sym, refl, ◌∙◌, arith}
use Rattle.std.proofs.lemmas.List.{at_drop_all, length-take}
use Rattle.imsi.specs.Spelling.{valued}
use Rattle.imsi.proofs.Nibbles.{half_low}
use Rattle.imsi.proofs.Octets.{ahead, digit_on, digit_off, low_at, high_at, pair_on, pair_grown, pair_room}
use Rattle.imsi.proofs.halves.value_in.Goals as goal

pub returns-in_err-low : goal.returns-in_err-low
returns-in_err-low c =
    let os = c.args.octets.now in
    let n = c.args.count in
    let j = c.loop-octet.octet-index in
    c.from_residual-in_err-low.ensures
    ∙ sym (digit_off os n (2 * j + 1) c.loop-octet.value _ (omega arith) (omega arith) (low_at os ((n + 1) / 2 - 1) j _ (omega arith) refl) c.in_err-low.ensures)
    ∙ c.loop-octet.invariant.rest

pub returns-in_err-high : goal.returns-in_err-high
returns-in_err-high c =
    let os = c.args.octets.now in
    let n = c.args.count in
    let j = c.loop-octet.octet-index in
    let v = c.loop-octet.value in
    let low = c.in_ok-low.ensures in
    c.from_residual-in_err-high.ensures
    ∙ sym (
    digit_on os n (2 * j + 1) v c.in_ok-low.low (omega arith) (omega arith) (low_at os ((n + 1) / 2 - 1) j _ (omega arith) low.0) low.1
    ∙ digit_off os n (2 * j + 1 + 1) (v * 10 + c.in_ok-low.low) _ (omega arith) (omega arith) (high_at os ((n + 1) / 2 - 1) j _ (omega arith) refl) c.in_err-high.ensures
    )
    ∙ c.loop-octet.invariant.rest

pub overflow_mul-value : goal.overflow_mul-value
overflow_mul-value c = let r = pair_room c.loop-octet.value (2 * c.loop-octet.octet-index + 1) c.loop-octet.invariant.below (omega arith) in omega arith

pub overflow_add-value-in-loop-octet : goal.overflow_add-value-in-loop-octet
overflow_add-value-in-loop-octet c = let r = pair_room c.loop-octet.value (2 * c.loop-octet.octet-index + 1) c.loop-octet.invariant.below (omega arith) in omega (arith, c.in_ok-low.ensures.1, c.in_ok-high.ensures.1)

pub loop-octet-preserved : goal.loop-octet-preserved
loop-octet-preserved c =
    let os = c.args.octets.now in
    let n = c.args.count in
    let j = c.loop-octet.octet-index in
    let v = c.loop-octet.value in
    let low = c.in_ok-low.ensures in
    let high = c.in_ok-high.ensures in
    record {
      below = pair_grown v j c.in_ok-low.low c.in_ok-high.high c.loop-octet.invariant.below low.1 high.1;
      rest =
          sym (pair_on os n j v c.in_ok-low.low c.in_ok-high.high (omega arith) (omega arith) (low_at os ((n + 1) / 2 - 1) j _ (omega arith) low.0) low.1 (high_at os ((n + 1) / 2 - 1) j _ (omega arith) high.0) high.1)
          ∙ c.loop-octet.invariant.rest;
    }

pub returns-in_err-last : goal.returns-in_err-last
returns-in_err-last c =
    let os = c.args.octets.now in
    let n = c.args.count in
    let j = c.loop-octet.octet-index in
    c.from_residual-in_err-last.ensures
    ∙ sym (digit_off os n (2 * j + 1) c.loop-octet.value _ (omega arith) (omega arith) (half_low os (2 * j + 1 + 1) (n / 2) (omega arith)) c.in_err-last.ensures)
    ∙ c.loop-octet.invariant.rest

pub overflow_mul-result : goal.overflow_mul-result
overflow_mul-result c = let r = pair_room c.loop-octet.value (2 * c.loop-octet.octet-index + 1) c.loop-octet.invariant.below (omega arith) in omega arith

pub overflow_add-result : goal.overflow_add-result
overflow_add-result c = let r = pair_room c.loop-octet.value (2 * c.loop-octet.octet-index + 1) c.loop-octet.invariant.below (omega arith) in omega (arith, c.in_ok-last.ensures.1)

pub returns : goal.returns
returns c =
    let os = c.args.octets.now in
    let n = c.args.count in
    let j = c.loop-octet.octet-index in
    let v = c.loop-octet.value in
    let last = c.in_ok-last.last in
    sym (at_drop_all (valued (v * 10 + last)) (ahead os n) (2 * j + 1 + 1) (simp length-take (omega arith)))
    ∙ sym (digit_on os n (2 * j + 1) v last (omega arith) (omega arith) (half_low os (2 * j + 1 + 1) (n / 2) (omega arith) ∙ sym c.in_ok-last.ensures.0) c.in_ok-last.ensures.1)
    ∙ c.loop-octet.invariant.rest
