-- What became of a mobile's last request or detach.
use Rattle.std.specs.Prelude.{ℕ, Bool, true, false}
use Rattle.context.specs.declared.errand.Verdict.{Verdict}
use Rattle.context.specs.declared.errand.Verdict.TheVariants as verdict
use Rattle.context.specs.declared.errand.Errand.{Errand}
use Rattle.context.specs.declared.errand.Errand.TheVariants as errand

-- the numbers of the verdicts
abbrev pub verdict_number : Verdict → ℕ
verdict_number verdict.Done = 1
verdict_number (verdict.Rejected c) = 2
verdict_number verdict.NotResponding = 3

-- a verdict is still to come
abbrev pub is_open : Errand → Bool
is_open (errand.Open o) = true
is_open e = false

-- a reply is owed
abbrev pub owes : Errand → Bool
owes errand.Idle = false
owes e = true
