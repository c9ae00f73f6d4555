-- Values that are lent, as contracts see them.
use Rattle.std.specs.Prelude.{ℕ, List, Option, option_map, Result, Ok, Err}
use Rattle.std.specs.Borrow.{Bor}
use Rattle.fix_admin.specs.Values.{Fault}

abbrev pub text_seen : Result (Bor (List ℕ)) Fault → Result (List ℕ) Fault
text_seen (Ok v) = Ok v.now
text_seen (Err fault) = Err fault

abbrev pub option_seen : Result (Option (Bor (List ℕ))) Fault → Result (Option (List ℕ)) Fault
option_seen (Ok v) = Ok (option_map (λ v. v.now) v)
option_seen (Err fault) = Err fault
