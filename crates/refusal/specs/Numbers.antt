-- The number of each refusal. Every promise about a refusal rests on this one list.
use Rattle.std.specs.Prelude.{ℕ, List, [], ◌∷◌, ◌++◌, codes}
use Rattle.decimal.specs.Columns.{columns}
use Rattle.refusal.specs.declared.cases.Refusal.{Refusal}
use Rattle.refusal.specs.declared.cases.Refusal.TheVariants.{
  ShortPage,
  UnequalBuffers,
  UnfitSheet,
  NoSuchBag,
  NoSuchKind,
  NoSuchAmount,
  NamedTwice,
  ForeignCarry,
  TooManyCarries,
  NotABag,
  AlreadyABag,
  NotEnough,
  NoRoom,
  PinLow,
  WriteDisabled,
  Fenced,
  NoSuchFence,
}

-- the number by which scripts know a refusal
abbrev pub number : Refusal → ℕ
number ShortPage = 1
number UnequalBuffers = 2
number UnfitSheet = 3
number NoSuchBag = 4
number NoSuchKind = 5
number NoSuchAmount = 6
number NamedTwice = 7
number ForeignCarry = 8
number TooManyCarries = 9
number NotABag = 10
number AlreadyABag = 11
number NotEnough = 12
number NoRoom = 13
number PinLow = 14
number WriteDisabled = 15
number Fenced = 16
number NoSuchFence = 17

-- how a refusal prints: the word, its number in three columns, and a line feed (10)
abbrev pub refused_line : ℕ → List ℕ
refused_line n = codes "refused" ++ (columns 3 n ++ (10 ∷ []))
