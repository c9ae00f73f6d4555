-- The worked rows hold.
use Rattle.std.proofs.Common.{refl}
use Rattle.std.specs.List.{AllByRecursion}
use Rattle.fix_machine.specs.Worked.{IsAnswered}
use Rattle.fix_machine.specs.RowsOfLogon.{FIRST_MESSAGES}
use Rattle.fix_machine.specs.Rows.{NUMBERS, CHECKS, TYPES, MOVES, CLOCKS, OTHERS}

pub first_messages : AllByRecursion IsAnswered FIRST_MESSAGES
first_messages = (refl, (refl, (refl, (refl, (refl, (refl, (refl, (refl, (refl, (refl, (refl, (refl, (refl, (refl, (refl, (refl, (refl, (refl, (refl, (refl, (refl, (refl, (refl, (refl, (refl, (refl, (refl, (refl, (refl, (refl, (refl, (refl, (refl, (refl, (refl, (refl, (refl, tt)))))))))))))))))))))))))))))))))))))

pub numbers : AllByRecursion IsAnswered NUMBERS
numbers = (refl, (refl, (refl, (refl, (refl, (refl, (refl, (refl, (refl, (refl, (refl, (refl, (refl, (refl, (refl, (refl, (refl, (refl, (refl, (refl, (refl, (refl, (refl, (refl, (refl, (refl, tt))))))))))))))))))))))))))

pub checks : AllByRecursion IsAnswered CHECKS
checks = (refl, (refl, (refl, (refl, (refl, (refl, (refl, (refl, (refl, (refl, (refl, (refl, (refl, (refl, (refl, (refl, (refl, tt)))))))))))))))))

pub types : AllByRecursion IsAnswered TYPES
types = (refl, (refl, (refl, (refl, (refl, (refl, (refl, (refl, (refl, (refl, (refl, (refl, (refl, (refl, tt))))))))))))))

pub moves : AllByRecursion IsAnswered MOVES
moves = (refl, (refl, (refl, (refl, (refl, (refl, (refl, tt)))))))

pub clocks : AllByRecursion IsAnswered CLOCKS
clocks = (refl, (refl, (refl, (refl, (refl, (refl, (refl, (refl, (refl, (refl, (refl, (refl, (refl, (refl, (refl, tt)))))))))))))))

pub others : AllByRecursion IsAnswered OTHERS
others = (refl, (refl, (refl, (refl, tt))))
