-- What the calls of a slot do to its state.
use Rattle.std.specs.Prelude.{◌≡◌, Result, Ok, Err, Option, Some, None, ⊤}
use Rattle.fix_host.specs.declared.slot.SlotState.{SlotState}
use Rattle.fix_host.specs.declared.slot.SlotState.TheVariants as slot

-- a free slot takes the link; any other gives it back, and stays
abbrev pub Offers : {L : Type 0} → L → Result ⊤ L → SlotState L → SlotState L → Type 0
Offers link result slot.Free new = (result ≡ Ok tt) × (new ≡ slot.Offered link)
Offers link result (slot.Offered other) new = (result ≡ Err link) × (new ≡ slot.Offered other)
Offers link result slot.Busy new = (result ≡ Err link) × (new ≡ slot.Busy)

-- an offered link is taken, and the slot is busy; any other stays
abbrev pub Takes : {L : Type 0} → Option L → SlotState L → SlotState L → Type 0
Takes result slot.Free new = (result ≡ None) × (new ≡ slot.Free)
Takes result (slot.Offered link) new = (result ≡ Some link) × (new ≡ slot.Busy)
Takes result slot.Busy new = (result ≡ None) × (new ≡ slot.Busy)

-- a busy slot is free again; any other stays
abbrev pub freed : {L : Type 0} → SlotState L → SlotState L
freed slot.Free = slot.Free
freed (slot.Offered link) = slot.Offered link
freed slot.Busy = slot.Free
