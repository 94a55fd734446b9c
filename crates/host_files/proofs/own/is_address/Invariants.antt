use Rattle.std.proofs.Common.{◌≡◌, drop}
use Rattle.std.specs.List.{list_all}
use Rattle.host_files.specs.Own.{is_address, is_address_byte}
use Rattle.host_files.proofs.own.is_address.Given as goal

abbrev pub invariant-loop-byte : goal.invariant-loop-byte
invariant-loop-byte l = list_all is_address_byte (drop l.byte-index l.name) ≡ is_address l.name
