-- What is told of a line that is at fault.
use Rattle.std.specs.Prelude.{ℕ, List, codes}
use Rattle.host_files.specs.declared.fault.HostFault.{HostFault}
use Rattle.host_files.specs.declared.fault.HostFault.TheVariants as faults

abbrev pub fault_text : HostFault → List ℕ
fault_text faults.Name = codes "a host begins the line: an IPv4 address or a name"
fault_text faults.Option =
    codes "behind the host stand slots=N, max_slots=N, with N from 1 to 1024, and local, each once at most"
