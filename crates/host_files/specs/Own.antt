-- Which hosts are the launcher's own machine.
use Rattle.std.specs.Prelude.{ℕ, ◌==◌, Bool, true, not, ◌||◌, if◌then◌else◌}
use Rattle.std.specs.List.{list_all}
use Rattle.std.specs.Str.{bytes_eq}
use Rattle.host_files.specs.Lines.{Word, is_between}

-- digits and `.`
abbrev pub is_address_byte : ℕ → Bool
is_address_byte byte = is_between 48 57 byte || byte == 46

abbrev pub is_address : Word → Bool
is_address name = list_all is_address_byte name

-- by the machine's own name; by an address that it has; by one of loopback only where the host isn't named by it
abbrev pub is_own_machine : (name own_name : Word) → (is_loopback has_address : Bool) → Bool
is_own_machine name own_name is_loopback has_address =
    if bytes_eq name own_name then true else (if is_loopback then not (is_address name) else has_address)
