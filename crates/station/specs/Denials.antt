-- The numbers of the denials.
use Rattle.std.specs.Prelude.{ℕ}
use Rattle.station.specs.declared.denial.Denial.{Denial}
use Rattle.station.specs.declared.denial.Denial.TheVariants as denial

abbrev pub denial_number : Denial → ℕ
denial_number denial.Worn = 1
denial_number denial.UnlistedCode = 2
denial_number denial.UnlawfulImsi = 3
denial_number denial.NotNew = 4
denial_number denial.NoPlace = 5
denial_number denial.NotEnrolled = 6
denial_number denial.WrongClass = 7
denial_number denial.NotItsVlr = 8
denial_number denial.ReplyOwed = 9
denial_number denial.NotAttached = 10
denial_number denial.WrongMark = 11
denial_number denial.NoSuchReply = 12
denial_number denial.NoVerdict = 13
denial_number denial.WrongNumbers = 14
