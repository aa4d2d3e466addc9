-- Document 01's table of replies: the number of each refusal.
use Rattle.std.specs.Prelude.{ℕ}
use Rattle.law.specs.declared.refusals.Refusal.{Refusal}
use Rattle.law.specs.declared.refusals.Refusal.TheVariants.{TooLarge, FewRows, ForbiddenByte, BrokenQuoting, Misplaced, FieldCount, NoNumber, TooFine, WrongWord, BeyondLimit, LoopRule, NameAgain, TooEarly, ShortText, NoList, NoEntry, WrongKind}

abbrev pub number_of : Refusal → ℕ
number_of TooLarge = 1
number_of FewRows = 2
number_of ForbiddenByte = 3
number_of BrokenQuoting = 4
number_of Misplaced = 5
number_of FieldCount = 6
number_of NoNumber = 7
number_of TooFine = 8
number_of WrongWord = 9
number_of BeyondLimit = 10
number_of LoopRule = 11
number_of NameAgain = 12
number_of TooEarly = 13
number_of ShortText = 14
number_of NoList = 15
number_of NoEntry = 16
number_of WrongKind = 17
