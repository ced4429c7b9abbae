use Rattle.std.proofs.Common.{◌≡◌, ◌+◌, ◌/◌, Some, sym, ap, ◌∙◌}
use Rattle.std.proofs.lemmas.Bool.{cond-true}
use Rattle.imsi.proofs.Round.{lawful_parts, read_back}
use Rattle.imsi.proofs.Spelt.{octets_filled}
use Rattle.imsi.proofs.writing.octets_of.Goals as goal

pub returns : goal.returns
returns c =
    let i = c.args.imsi in
    let law = sym c.if-not-is_lawful.ensures in
    let few = (lawful_parts i.digits i.value law).few in
    let spelt : c.octets_from.result ≡ _ = c.octets_from.ensures ∙ octets_filled i.digits i.value few in
    let written = ap (λ o. Some (record { octets = o; count = i.digits / 2 + 1 })) spelt ∙ sym (cond-true _ _ _ law) in
    record { value = written; back = read_back i _ written }
