-- The numbers of reasons.
use Prim.Native.Nat.{◌<◌}
use lib.Dec.{lit<}
use Rattle.reading.specs.declared.Reason.{Reason}
use Rattle.reading.specs.declared.Reason.TheVariants.{Ended, TooLong, BadInteger, BadType, BadNumber, BadChar, BadTime, TooDeep, BadIdentity, BadReference, LeftOver, FewRows, ShortOutput, BadRow, OtherType, Missing, BadLine}
use Rattle.reading.specs.Reading.{number_of}

pub number-small : (x : Reason) → number_of x < 256
number-small Ended = lit< tt
number-small TooLong = lit< tt
number-small BadInteger = lit< tt
number-small BadType = lit< tt
number-small BadNumber = lit< tt
number-small BadChar = lit< tt
number-small BadTime = lit< tt
number-small TooDeep = lit< tt
number-small BadIdentity = lit< tt
number-small BadReference = lit< tt
number-small LeftOver = lit< tt
number-small FewRows = lit< tt
number-small ShortOutput = lit< tt
number-small BadRow = lit< tt
number-small OtherType = lit< tt
number-small Missing = lit< tt
number-small BadLine = lit< tt
