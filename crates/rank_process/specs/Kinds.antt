-- Which errors of the system say no more than that nothing can be done now.
use Rattle.std.specs.Prelude.{Bool, true, false, ◌||◌}
use Rattle.std.specs.declared.io.ErrorKind.{ErrorKind}
use Rattle.std.specs.declared.io.ErrorKind.TheVariants as kinds

-- a call that would wait, or that a signal interrupted
abbrev pub is_transient : ErrorKind → Bool
is_transient kinds.WouldBlock = true
is_transient kinds.Interrupted = true
is_transient kind = false

-- no way to the host or the network, a link that is down, an address that is gone, nobody at the port, or a firewall
abbrev pub is_of_network : ErrorKind → Bool
is_of_network kinds.HostUnreachable = true
is_of_network kinds.NetworkUnreachable = true
is_of_network kinds.NetworkDown = true
is_of_network kinds.AddrNotAvailable = true
is_of_network kinds.ConnectionRefused = true
is_of_network kinds.PermissionDenied = true
is_of_network kind = false

-- what has no kind of its own
abbrev pub has_no_kind : ErrorKind → Bool
has_no_kind kinds.Uncategorized = true
has_no_kind kind = false

-- a datagram that the system didn't take is lost, and no more
abbrev pub is_loss : ErrorKind → Bool
is_loss kind = is_transient kind || is_of_network kind || has_no_kind kind
