-- One more place has its rank.
use Rattle.std.proofs.Common.{◌≡◌, ◌<◌, ℕ, ◌+◌, List, [], ◌∷◌, ◌++◌, length, take, get_or, sym, ap, ◌∙◌, append_assoc}
use Rattle.std.proofs.Common.{append-nil, slice_get}
use Rattle.std.proofs.lemmas.List.{take_more}
use Rattle.std.specs.Option.{option_to_list}
use Rattle.collective_messages.specs.Roles.{ranks_at}

ranks_push : (ranks is : List ℕ) (i : ℕ) → ranks_at ranks (is ++ i ∷ []) ≡ ranks_at ranks is ++
    option_to_list (slice_get ranks i)
ranks_push ranks [] i = append-nil (option_to_list (slice_get ranks i))
ranks_push ranks (j ∷ is) i = ap (λ (xs : List ℕ). option_to_list (slice_get ranks j) ++ xs) (ranks_push ranks is i) ∙
    sym (append_assoc (option_to_list (slice_get ranks j)) (ranks_at ranks is) (option_to_list (slice_get ranks i)))

pub ranks_more : (ranks is : List ℕ) (i d : ℕ) → i < length is → ranks_at ranks (take (i + 1) is) ≡
    ranks_at ranks (take i is) ++ option_to_list (slice_get ranks (get_or is i d))
ranks_more ranks is i d lt = ap (ranks_at ranks) (take_more is i d lt) ∙ ranks_push ranks (take i is) (get_or is i d)
