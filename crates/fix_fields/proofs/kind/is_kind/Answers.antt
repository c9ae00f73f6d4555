use Rattle.std.proofs.Common.{inl, inr}
use Rattle.fix_base.specs.Times.{IsUtcTimestamp}
use Rattle.fix_fields.specs.Value.{IsInt}
use Rattle.fix_fields.proofs.ValueLemmas.{some_known}
use Rattle.fix_fields.proofs.kind.is_kind.Goals as goal

pub returns-in-Int : goal.returns-in-Int
returns-in-Int c = rw (c.in-Int.is, c.is_some.ensures) (some_known (IsInt c.args.value.now) c.int.result c.int.ensures.known c.int.ensures.each)

pub returns-in-Price : goal.returns-in-Price
returns-in-Price c =
    let h = c.price_text.ensures in
    elim c.in-Price.is [
      | inl price ↦ rw price h
      | inr more ↦ elim more [
        | inl qty ↦ rw qty h
        | inr more ↦ elim more [
          | inl amt ↦ rw amt h
          | inr more ↦ elim more [ inl offset ↦ rw offset h | inr more ↦ elim more [ inl percentage ↦ rw percentage h | inr float ↦ rw float h ] ]
        ]
      ]
    ]

pub returns-in-UtcTimestamp : goal.returns-in-UtcTimestamp
returns-in-UtcTimestamp c = rw (c.in-UtcTimestamp.is, c.is_some-in-UtcTimestamp.ensures) (some_known (IsUtcTimestamp c.args.value.now) c.utc_time.result c.utc_time.ensures.known c.utc_time.ensures.each)

pub returns-in-MonthYear : goal.returns-in-MonthYear
returns-in-MonthYear c = rw c.in-MonthYear.is c.month_year.ensures
