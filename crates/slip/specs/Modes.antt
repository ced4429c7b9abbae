-- What each octet of a script says, modulo 4.
use Rattle.std.specs.Prelude.{ℕ, ◌%◌, if◌then◌else◌, ◌==◌}
use Rattle.slip.specs.declared.script.Mode.{Mode}
use Rattle.slip.specs.declared.script.Mode.TheVariants.{GiveOldest, GiveNewest, GiveAndKeepOldest, LoseOldest}

abbrev pub mode_of : ℕ → Mode
mode_of n =
    if n % 4 == 0 then GiveOldest
    else if n % 4 == 1 then GiveNewest
    else if n % 4 == 2 then GiveAndKeepOldest
    else LoseOldest
