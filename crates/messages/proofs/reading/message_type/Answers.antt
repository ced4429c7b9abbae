use Rattle.std.proofs.Common.{sym, ◌∙◌, rules}
use Rattle.messages.proofs.Types.{known_type, begun}
use Rattle.messages.proofs.reading.message_type.Goals as goal

pub returns-clause-value : goal.returns-clause-value
returns-clause-value c =
    let from = c.args.from.now in
    known_type c.in_ok-octet.octet from.at c.try_from.result c.map_err.result c.try_from.ensures (search rules)
    ∙ sym (begun from.octets.now from.at c.in_ok-octet.octet (sym c.octet.ensures.value ∙ c.in_ok-octet.ensures.ok_part))
