use Rattle.std.proofs.Common.{subst}
use Rattle.messages.specs.Writing.{ReadBack}
use Rattle.messages.proofs.writing.write_message.Goals as goal

pub returns-clause-back : goal.returns-clause-back
returns-clause-back c =
    subst (λ at. ReadBack at c.args.message c.write_at.new.buffer c.write_at.result) c.start.ensures.value c.write_at.ensures.back
