use Rattle.std.proofs.Common.{◌≡◌, ◌*◌, arith, to_z-of_z}
use Rattle.jiff_core.specs.Date.{epoch_day}
use Rattle.jiff_core.specs.Time.{time_nanos}
use Rattle.fix_schedule.proofs.ZoneLemmas.{has_instant, is_instant}
use Rattle.fix_schedule.proofs.instant.instant_of.Goals as goal

pub unwrap-instant-requires : goal.unwrap-instant-requires
unwrap-instant-requires c =
    let on : epoch_day c.unwrap-date.result ≡ c.args.day = rw (c.unwrap-date.ensures, to_z-of_z c.ranges.day) at c.from_unix_epoch_day.ensures.value in
    has_instant (record { date = c.unwrap-date.result; time = c.from_second.result }) c.args.day c.disambiguate.result c.disambiguate.ensures on c.requires.day_in

pub returns : goal.returns
returns c =
    let on : epoch_day c.unwrap-date.result ≡ c.args.day = rw (c.unwrap-date.ensures, to_z-of_z c.ranges.day) at c.from_unix_epoch_day.ensures.value in
    let time : time_nanos c.from_second.result ≡ c.args.second * 1_000_000_000 = omega (arith, c.from_second.ensures.seconds, c.from_second.ensures.subsec) in
    let is = rw (c.unwrap-instant.ensures, c.offsets_of-offset.ensures) at c.disambiguate.ensures.value in
    is_instant c.args.rule.now (record { date = c.unwrap-date.result; time = c.from_second.result }) c.args.day c.args.second c.unwrap-instant.result.nanosecond c.floor_second.result on c.requires.day_in time is c.floor_second.ensures
