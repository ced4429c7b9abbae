use Rattle.std.proofs.Common.{◌+◌, ◌-◌, ◌*◌, ◌/◌, ◌%◌, ◌∷◌, ◌++◌, length, drop, refl, ap, ◌∙◌, arith}
use Rattle.std.proofs.lemmas.List.{length-set}
use Rattle.imsi.specs.Halves.{paired}
use Rattle.imsi.specs.Spelling.{digits}
use Rattle.imsi.proofs.Pairs.{odd_start, even_start, pair_turn, pair_end}
use Rattle.imsi.proofs.halves.octets_from.Goals as goal
use Rattle.imsi.proofs.halves.octets_from.Goals.{then-digits-eq0, else-digits-eq0}

pub loop-i-init : goal.loop-i-init
loop-i-init c =
    let k = c.args.digits in
    let v = c.args.value in
    let i = (k + 1) / 2 in
    elim c.if-digits-eq0.branch [
      | then-digits-eq0 w ↦ (
        ap length w.octets-is ∙ simp length-set,
        omega arith,
        (λ t. paired ((1 + 8 * (k % 2)) ∷ digits (2 * i - 1) (w.left-is t)) ++ drop i (w.octets-is t)) ∙ even_start k v i (omega arith) (omega arith) (omega arith) refl,
      )
      | else-digits-eq0 w ↦ (
        ap length w.octets-is,
        omega arith,
        (λ t. paired ((1 + 8 * (k % 2)) ∷ digits (2 * i - 1) (w.left-is t)) ++ drop i (w.octets-is t)) ∙ odd_start k v i (omega arith) (omega arith) refl,
      )
    ]

pub loop-i-preserved : goal.loop-i-preserved
loop-i-preserved c =
    let i = c.loop-i.i in (
      simp length-set c.loop-i.invariant.0,
      omega arith,
      pair_turn c.loop-i.octets (1 + 8 * (c.args.digits % 2)) i (i - 1) c.loop-i.left _ (omega arith) (omega arith) (omega (arith, c.loop-i.invariant.0)) c.loop-i.invariant.2,
    )

pub returns : goal.returns
returns c = pair_end c.loop-i.octets (1 + 8 * (c.args.digits % 2)) c.loop-i.i c.loop-i.left _ (omega arith) (omega (arith, c.loop-i.invariant.0)) c.loop-i.invariant.2
