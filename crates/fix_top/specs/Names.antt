-- The names of the statuses that a program may end with.
use Rattle.std.specs.Prelude.{ℕ, ◌==◌, if◌then◌else◌, List, codes}

abbrev pub name_of : ℕ → List ℕ
name_of status =
    if status == 0 then codes "Done"
    else (if status == 1 then codes "Closed"
    else (if status == 2 then codes "Words"
    else (if status == 3 then codes "Settings"
    else (if status == 4 then codes "Dictionary"
    else (if status == 5 then codes "Store"
    else (if status == 6 then codes "Link"
    else (if status == 7 then codes "Application"
    else (if status == 8 then codes "Turns"
    else (if status == 9 then codes "Memory"
    else (if status == 10 then codes "NotBuilt"
    else (if status == 11 then codes "Numbers"
    else (if status == 12 then codes "Drafts"
    else (if status == 13 then codes "Threads"
    else codes "Other")))))))))))))
