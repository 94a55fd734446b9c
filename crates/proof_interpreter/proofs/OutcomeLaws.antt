-- What an outcome does to names.
use Rattle.std.proofs.Common.{◌≡◌, ℕ, List, Option, Some, None, refl, ap, ◌∙◌}
use Rattle.datatypes.specs.Contents.{Contents}
use Rattle.perfect_queues.specs.Outcomes as queues
use Rattle.observation.specs.CoreCalls.{outcome_seen}
use Rattle.requests.specs.declared.outcome.Outcome.{Outcome}
use Rattle.requests.specs.declared.outcome.Outcome.TheVariants as outcomes
use Rattle.script_calls.specs.NamedThings.{null}
use Rattle.script_calls.specs.Tables.{value_at}
use Rattle.script_calls.specs.OutcomeTexts.{error_of, status_after}
use Rattle.vocabulary.specs.declared.envelope.Status.{Status}
use Rattle.interpreter.specs.Answers.{error_told, returned}
use Rattle.interpreter.specs.NamesState.{NamesState, given_back, with_request}
use Rattle.proof_interpreter.specs.Answers.{told_of}
use Rattle.proof_interpreter.specs.Names.{HasCome, HoldsBack, OthersStay, error_in, handed_back, last_status}
use Rattle.proof_interpreter.proofs.Frames.{buffer_set, last_set}
use Rattle.proof_interpreter.proofs.Tables.{value_set}

nothing_back : (s : NamesState) (b : Option (List ℕ)) → HoldsBack s b None
nothing_back s None = tt
nothing_back s (Some name) = tt

something_back : (s : NamesState) (b : Option (List ℕ)) (v : Contents) → HoldsBack (given_back s b v) b (Some v)
something_back s None v = tt
something_back s (Some name) v = value_set s.buffers name (Some v)

others_back : (old new : NamesState) (r b m : Option (List ℕ)) (v : Contents) → OthersStay old new r None m None →
    OthersStay old (given_back new b v) r b m None
others_back old new r None m v f = f
others_back old new r (Some name) m v f = buffer_set old new r m None name (Some v) f

-- what is handed back is in its buffer
pub come : (old new : NamesState) (r b m : Option (List ℕ)) (o : Outcome) → OthersStay old new r None m None →
    HasCome old (returned b o new) r b m (outcome_seen o)
come old new r b m outcomes.Sent f = record { back = nothing_back new b; others = f }
come old new r b m (outcomes.Received status v) f =
    record { back = something_back new b v; others = others_back old new r b m v f }
come old new r b m (outcomes.Ended failure status v) f =
    record { back = something_back new b v; others = others_back old new r b m v f }
come old new r b m (outcomes.Replaced None) f = record { back = nothing_back new b; others = f }
come old new r b m (outcomes.Replaced (Some v)) f =
    record { back = something_back new b v; others = others_back old new r b m v f }
come old new r b m (outcomes.Cancelled v) f =
    record { back = something_back new b v; others = others_back old new r b m v f }
come old new r b m outcomes.Empty f = record { back = nothing_back new b; others = f }

holds_last : (s : NamesState) (l : Status) (b : Option (List ℕ)) (back : Option Contents) → HoldsBack s b back →
    HoldsBack (record s { last = l }) b back
holds_last s l None back h = tt
holds_last s l (Some name) None h = tt
holds_last s l (Some name) (Some v) h = h

pub come_last : (old new : NamesState) (r b m : Option (List ℕ)) (o : queues.Outcome) (l : Status) →
    HasCome old new r b m o → HasCome old (record new { last = l }) r b m o
come_last old new r b m o l h =
    record { back = holds_last new l b (handed_back o) h.back; others = last_set old new r _ m None l h.others }

-- ---- an outcome leaves requests and messages alone, and the last status

given_requests : (b : Option (List ℕ)) (v : Contents) (s : NamesState) → (given_back s b v).requests ≡ s.requests
given_requests None v s = refl
given_requests (Some name) v s = refl

pub keeps_requests : (b : Option (List ℕ)) (o : Outcome) (s : NamesState) → (returned b o s).requests ≡ s.requests
keeps_requests b outcomes.Sent s = refl
keeps_requests b (outcomes.Received status v) s = given_requests b v s
keeps_requests b (outcomes.Ended failure status v) s = given_requests b v s
keeps_requests b (outcomes.Replaced None) s = refl
keeps_requests b (outcomes.Replaced (Some v)) s = given_requests b v s
keeps_requests b (outcomes.Cancelled v) s = given_requests b v s
keeps_requests b outcomes.Empty s = refl

given_messages : (b : Option (List ℕ)) (v : Contents) (s : NamesState) → (given_back s b v).messages ≡ s.messages
given_messages None v s = refl
given_messages (Some name) v s = refl

pub keeps_messages : (b : Option (List ℕ)) (o : Outcome) (s : NamesState) → (returned b o s).messages ≡ s.messages
keeps_messages b outcomes.Sent s = refl
keeps_messages b (outcomes.Received status v) s = given_messages b v s
keeps_messages b (outcomes.Ended failure status v) s = given_messages b v s
keeps_messages b (outcomes.Replaced None) s = refl
keeps_messages b (outcomes.Replaced (Some v)) s = given_messages b v s
keeps_messages b (outcomes.Cancelled v) s = given_messages b v s
keeps_messages b outcomes.Empty s = refl

given_last : (b : Option (List ℕ)) (v : Contents) (s : NamesState) → (given_back s b v).last ≡ s.last
given_last None v s = refl
given_last (Some name) v s = refl

pub keeps_last : (b : Option (List ℕ)) (o : Outcome) (s : NamesState) → (returned b o s).last ≡ s.last
keeps_last b outcomes.Sent s = refl
keeps_last b (outcomes.Received status v) s = given_last b v s
keeps_last b (outcomes.Ended failure status v) s = given_last b v s
keeps_last b (outcomes.Replaced None) s = refl
keeps_last b (outcomes.Replaced (Some v)) s = given_last b v s
keeps_last b (outcomes.Cancelled v) s = given_last b v s
keeps_last b outcomes.Empty s = refl

-- ---- what is told, and the last status

pub told_so : (o : Outcome) → error_told (error_of o) ≡ told_of (error_in (outcome_seen o))
told_so outcomes.Sent = refl
told_so (outcomes.Received status v) = refl
told_so (outcomes.Ended failure status v) = refl
told_so (outcomes.Replaced b) = refl
told_so (outcomes.Cancelled v) = refl
told_so outcomes.Empty = refl

pub last_so : (l : Status) (o : Outcome) → status_after l o ≡ last_status l (outcome_seen o)
last_so l outcomes.Sent = refl
last_so l (outcomes.Received status v) = refl
last_so l (outcomes.Ended failure status v) = refl
last_so l (outcomes.Replaced b) = refl
last_so l (outcomes.Cancelled v) = refl
last_so l outcomes.Empty = refl

-- a request's name is null behind its outcome
pub is_null : (s : NamesState) (name : List ℕ) (b : Option (List ℕ)) (o : Outcome) →
    value_at (returned b o (with_request s name null)).requests name ≡ Some null
is_null s name b o =
    ap (λ t. value_at t name) (keeps_requests b o (with_request s name null)) ∙ value_set s.requests name null
