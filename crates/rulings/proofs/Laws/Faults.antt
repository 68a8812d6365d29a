-- Faults have numbers.
use mathlib.Core.Path.{◌≡◌}
use native.Mathlib.Omega.{arith}
use Rattle.rulings.specs.declared.Fault.{Fault}
use Rattle.rulings.specs.declared.Fault.TheVariants.{WrongLength, CutOff, UnknownCommand, NodeBehindFlow, OutsideLimits, OutOfPlace, TooManyNodes, TooDeep, BytesBehindEnd, Crowded, AboveCapacity, AboveDeadline, NoSite, NumberLive, NumberNotLive, NoRoom, TooLate, TooManyPackets, StrayArrivals, LinkOutOfOrder, SlotsOutside}
use Rattle.rulings.specs.Outcome.{number_of}

-- None is 0, which stands for no fault.
pub number_some : (f : Fault) → number_of f ≡ 0 → ⊥
number_some WrongLength e = omega arith
number_some CutOff e = omega arith
number_some UnknownCommand e = omega arith
number_some NodeBehindFlow e = omega arith
number_some OutsideLimits e = omega arith
number_some OutOfPlace e = omega arith
number_some TooManyNodes e = omega arith
number_some TooDeep e = omega arith
number_some BytesBehindEnd e = omega arith
number_some Crowded e = omega arith
number_some AboveCapacity e = omega arith
number_some AboveDeadline e = omega arith
number_some NoSite e = omega arith
number_some NumberLive e = omega arith
number_some NumberNotLive e = omega arith
number_some NoRoom e = omega arith
number_some TooLate e = omega arith
number_some TooManyPackets e = omega arith
number_some StrayArrivals e = omega arith
number_some LinkOutOfOrder e = omega arith
number_some SlotsOutside e = omega arith
