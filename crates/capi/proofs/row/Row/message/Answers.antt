use Rattle.std.proofs.Common.{rules}
use Rattle.messages.proofs.Types.{untyped}
use Rattle.capi.proofs.row.Row.message.Goals as goal

pub returns-in_default : goal.returns-in_default
returns-in_default c =
    let none = untyped c.in_ok-octet.octet c.in_default.ensures.1 in
    search rules
