use Rattle.std.proofs.Common.{◌≡◌, ◌+◌, ◌-◌, drop, replicate, sym, ap, ◌∙◌, arith, rules, drop-drop}
use Rattle.std.proofs.lemmas.List.{take_more_set, drop-set-lt, drop-replicate}
use Rattle.words.proofs.line.LineOctets.push.Goals as goal

pub invariant_of-self : goal.invariant_of-self
invariant_of-self c =
    let s = c.args.self.now in
    let k = s.count in
    let less : 128 - k - 1 ≡ 128 - (k + 1) = omega arith in
    record {
      inside = omega (arith, s.inside, c.if-self-eq-LONGEST.false);
      behind = drop-set-lt (k + 1) s.octets k c.args.octet (omega arith) ∙ sym (drop-drop 1 k s.octets) ∙ ap (drop 1) s.behind ∙ drop-replicate 1 (128 - k) 0 ∙ ap (λ n. replicate n 0) less;
    }

pub returns-clause-more : goal.returns-clause-more
returns-clause-more c = take_more_set c.args.self.now.octets c.args.self.now.count c.args.octet (search rules)
