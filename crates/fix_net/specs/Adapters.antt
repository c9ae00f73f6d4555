-- What is seen of the adapters: how often they failed, and nothing else.
use Rattle.std.specs.Prelude.{ℕ, None}
use Rattle.fix_net.specs.declared.tcp_ear.TcpEar.{TcpEar}
use Rattle.fix_net.specs.declared.tcp_link.TcpLink.{TcpLink}
use Rattle.fix_parts.specs.Link.{LinkSeen}

abbrev pub tcp_link_of : {S : Type 0} → TcpLink S → LinkSeen
tcp_link_of l = record { to_come = None; written = None; room = None; faults = l.faults }

abbrev pub tcp_ear_faults : TcpEar → ℕ
tcp_ear_faults e = e.faults
