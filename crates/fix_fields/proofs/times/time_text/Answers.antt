use Rattle.std.proofs.Common.{◌≡◌, ◌/◌, ◌%◌, pos, arith, ◌∙◌, refl}
use Rattle.std.proofs.lemmas.Int.{ints}
use Rattle.jiff_core.specs.Date.{epoch_day}
use Rattle.fix_fields.proofs.WritingLemmas.{year_from_1970, split_of, seconds_text, millis_text, micros_text}
use Rattle.fix_fields.proofs.times.time_text.Goals as goal

pub overflow_cast-date : goal.overflow_cast-date
overflow_cast-date c =
    let is = rw c.unwrap-date.ensures at c.from_unix_epoch_day.ensures.value in
    let day : epoch_day c.unwrap-date.result ≡ pos (c.args.time / 86400000000) = is ∙ omega (arith, ints, c.requires) in
    let year = year_from_1970 c.unwrap-date.result _ day in
    omega (arith, ints, year, c.unwrap-date.result.year_in)

pub returns-in-Seconds : goal.returns-in-Seconds
returns-in-Seconds c =
    let is = rw c.unwrap-date.ensures at c.from_unix_epoch_day.ensures.value in
    let day : epoch_day c.unwrap-date.result ≡ pos (c.args.time / 86400000000) = is ∙ omega (arith, ints, c.requires) in
    let year = year_from_1970 c.unwrap-date.result _ day in
    rw (c.in-Seconds.is, c.spelled-bytes.ensures) (seconds_text c.args.time _ _ _ _ (c.args.time % 86400000000 % 1000000) (split_of c.unwrap-date.result c.args.time _ _ _ _ _ day (omega (arith, ints, year, c.unwrap-date.result.year_in)) c.from.ensures c.from-2.ensures refl refl))

pub returns-in-Millis : goal.returns-in-Millis
returns-in-Millis c =
    let is = rw c.unwrap-date.ensures at c.from_unix_epoch_day.ensures.value in
    let day : epoch_day c.unwrap-date.result ≡ pos (c.args.time / 86400000000) = is ∙ omega (arith, ints, c.requires) in
    let year = year_from_1970 c.unwrap-date.result _ day in
    rw (c.in-Millis.is, c.spelled-bytes.ensures) (millis_text c.args.time _ _ _ _ (c.args.time % 86400000000 % 1000000) (split_of c.unwrap-date.result c.args.time _ _ _ _ _ day (omega (arith, ints, year, c.unwrap-date.result.year_in)) c.from.ensures c.from-2.ensures refl refl))

pub returns-in-Micros : goal.returns-in-Micros
returns-in-Micros c =
    let is = rw c.unwrap-date.ensures at c.from_unix_epoch_day.ensures.value in
    let day : epoch_day c.unwrap-date.result ≡ pos (c.args.time / 86400000000) = is ∙ omega (arith, ints, c.requires) in
    let year = year_from_1970 c.unwrap-date.result _ day in
    rw (c.in-Micros.is, c.spelled-bytes.ensures) (micros_text c.args.time _ _ _ _ (c.args.time % 86400000000 % 1000000) (split_of c.unwrap-date.result c.args.time _ _ _ _ _ day (omega (arith, ints, year, c.unwrap-date.result.year_in)) c.from.ensures c.from-2.ensures refl refl))
