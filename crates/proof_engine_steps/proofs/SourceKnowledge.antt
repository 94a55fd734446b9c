-- Who spoke is known at the incarnation at which it spoke, once its word was met.
use Rattle.std.proofs.Common.{◌≡◌, ℕ, ◌<◌, ◌≤◌, Bool, true, false, List, length, max, nat_lt, slice_index, sym, ap, ◌∙◌}
use Rattle.std.proofs.Common.{subst, arith}
use Rattle.std.proofs.lemmas.Bool.{ltb-true, ltb-false}
use Rattle.std.proofs.lemmas.List.{get_or-set_same}
use Rattle.vocabulary.specs.declared.endpoint.Endpoint.{Endpoint}
use Rattle.point_to_point.specs.CoreState.{CoreState}
use Rattle.point_to_point_calls.specs.FrameNews.{NewsText}
use Rattle.proof_engine_view.specs.Frames.{endpoint_of, known_after}
use Rattle.proof_engine_steps.specs.Steps.{IsFromOther}

-- its incarnation
incarnation_known : (lesson : Bool) (known : List ℕ) (s : Endpoint) → s.rank < length known →
    slice_index known s.rank ≤ s.incarnation → nat_lt (slice_index known s.rank) s.incarnation ≡ lesson
    → slice_index (known_after lesson known s) s.rank ≡ s.incarnation
incarnation_known true known s there fresh later =
    let at : slice_index known s.rank < s.incarnation = ltb-true (slice_index known s.rank) s.incarnation later in
    get_or-set_same known s.rank (max (slice_index known s.rank) s.incarnation) 0 there ∙ omega arith
incarnation_known false known s there fresh later =
    let at : s.incarnation ≤ slice_index known s.rank = ltb-false (slice_index known s.rank) s.incarnation later in
    omega arith

pub source_incarnation : (old : CoreState) (known : List ℕ) (news : NewsText) → length known ≡ old.place.size →
    IsFromOther old known news
    → slice_index (known_after news.lesson known news.source) news.source.rank ≡ news.source.incarnation
source_incarnation old known news width other =
    incarnation_known news.lesson known news.source (subst (λ (n : ℕ). news.source.rank < n) (sym width) other.there)
    other.fresh other.lesson

-- so its rank is known as that endpoint
pub source_known : (old : CoreState) (known : List ℕ) (news : NewsText) → length known ≡ old.place.size →
    IsFromOther old known news
    → endpoint_of (known_after news.lesson known news.source) news.source.rank ≡ news.source
source_known old known news width other =
    ap (λ (i : ℕ). record { rank = news.source.rank; incarnation = i }) (source_incarnation old known news width other)
