use Rattle.std.proofs.Common.{rules}
use Rattle.messages.proofs.Exactly.{read_back}
use Rattle.messages.proofs.writing.write_at.Goals as goal

pub returns-clause-back : goal.returns-clause-back
returns-clause-back c =
    read_back c.args.at c.args.message c.args.buffer.now _ _ c.requires (search rules) (search rules)
