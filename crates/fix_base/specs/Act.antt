-- The acts of an end, by the names of their variants.
pub use Rattle.fix_base.specs.declared.act.Act.{Act}
pub use Rattle.fix_base.specs.declared.act.Act.TheVariants.{Opened, Now, Read, Idle, Ended, Wrote, Kept, KeepLost}
pub use Rattle.fix_base.specs.declared.act.Act.TheVariants.{Handed, HandLost, Withheld, Allowed, Cut, Stop}
