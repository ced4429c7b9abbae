use Rattle.std.proofs.Common.{◌∷◌, subst}
use Rattle.messages.specs.Spelling.{elements_of}
use Rattle.messages.specs.Writing.{Puts}
use Rattle.messages.proofs.Buffers.{puts_more}
use Rattle.messages.proofs.writing.put_message.Goals as goal

pub returns : goal.returns
returns c =
    subst (λ t. Puts 31 (t ∷ elements_of c.args.message) c.args.to.now c.put_elements.new.to) c.type_octet.ensures
    (puts_more c.put.ensures c.put_elements.ensures)
