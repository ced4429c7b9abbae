-- Where a message is written.
use Rattle.std.specs.Prelude.{ℕ}
use Rattle.messages.specs.declared.writing.Place.{Place}
use Rattle.messages.specs.declared.writing.Place.TheVariants.{Alone, InFrame}

-- the place of the message's first octet
abbrev pub start_of : Place → ℕ
start_of Alone = 0
start_of InFrame = 10
