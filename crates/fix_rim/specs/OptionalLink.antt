-- What is seen of a connection that may be missing.
use Rattle.std.specs.Prelude.{ℕ, ◌+◌, [], Option, Some, None}
use Rattle.fix_parts.specs.Link.{LinkSeen}
use Rattle.fix_rim.specs.declared.optional_link.OptionalLink.{OptionalLink}

-- nothing comes and nothing goes out
abbrev pub no_link : LinkSeen
no_link = record { to_come = Some []; written = Some []; room = None; faults = 0 }

abbrev pub link_seen : {L : Type 0} → (L → LinkSeen) → Option L → LinkSeen
link_seen link None = no_link
link_seen link (Some l) = link l

-- the same with a greater count of faults
abbrev pub with_faults : ℕ → LinkSeen → LinkSeen
with_faults more seen = record {
  to_come = seen.to_come;
  written = seen.written;
  room = seen.room;
  faults = seen.faults + more;
}

-- writes without a connection count as faults
abbrev pub plug_of : {L : Type 0} → (L → LinkSeen) → OptionalLink L → LinkSeen
plug_of link p = with_faults p.unlinked (link_seen link p.link)
