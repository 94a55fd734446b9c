-- The milliseconds of a rank's clock.
use Rattle.std.specs.Prelude.{ℕ, ◌/◌, min}
use Rattle.std.specs.Duration.{as_nanos}
use Rattle.std.specs.declared.time.Duration.{Duration}

-- whole milliseconds, as far as 64 bits hold them
abbrev pub millis_of : Duration → ℕ
millis_of passed = min (as_nanos passed / 1_000_000) 18446744073709551615
