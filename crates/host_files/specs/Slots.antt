-- Which rank is on which host.
use Rattle.std.specs.Prelude.{ℕ, ◌+◌, ◌%◌, ◌==◌, ◌||◌, Bool, List, [], ◌∷◌, ◌++◌, length, map, min, replicate}
use Rattle.std.specs.Prelude.{is_some, slice_index, unwrap_or, Option, Some, None}
use Rattle.std.specs.List.{list_any, range_with_len}
use Rattle.host_files.specs.declared.host.Host.{Host}

-- as many ranks as a host's slots, or as it takes at most, or one
abbrev pub said_slots : (slots most : Option ℕ) → ℕ
said_slots (Some slots) most = min slots (unwrap_or most slots)
said_slots None most = unwrap_or most 1

-- how many ranks a host takes, where each takes so many, or by what is said of it
abbrev pub slots_of : Option ℕ → Host → ℕ
slots_of (Some count) host = count
slots_of None host = said_slots host.slots host.most

-- the host of each slot, by its place, where the first of these hosts has this place
abbrev pub all_slots : Option ℕ → ℕ → List Host → List ℕ
all_slots per_host place [] = []
all_slots per_host place (host ∷ hosts) = replicate (slots_of per_host host) place ++ all_slots per_host (place + 1) hosts

-- it is said of a host how many ranks it takes at most
abbrev pub is_bounded : Host → Bool
is_bounded host = is_some host.most

abbrev pub are_bounded : List Host → Bool
are_bounded hosts = list_any is_bounded hosts

-- there is no slot, or a host takes no more than is said
abbrev pub takes_no_more : Option ℕ → List Host → Bool
takes_no_more per_host hosts = length (all_slots per_host 0 hosts) == 0 || are_bounded hosts

-- the host of each of so many ranks, each of which has the slot of its number modulo that of slots
abbrev pub slots_again : List ℕ → ℕ → List ℕ
slots_again slots size = map (λ rank. slice_index slots (rank % length slots)) (range_with_len 0 size)
