-- All of several requests end, each with its own outcome.
use Rattle.std.proofs.Common.{◌≡◌, ℕ, List, [], ◌∷◌, length, map, Option, Some, None, option_and_then, refl, sym}
use Rattle.std.proofs.Common.{ap, ◌∙◌}
use Rattle.std.proofs.Common.{subst}
use Rattle.datatypes.specs.Contents.{Contents}
use Rattle.observation.specs.CoreCalls.{outcome_seen}
use Rattle.requests.specs.declared.outcome.Outcome.{Outcome}
use Rattle.requests.specs.declared.outcome.Outcome.TheVariants as outcomes
use Rattle.script_calls.specs.NamedThings.{null}
use Rattle.script_calls.specs.Tables.{value_at}
use Rattle.script_calls.specs.OutcomeTexts.{error_of}
use Rattle.script_calls.specs.declared.pending.NamedRequest.{NamedRequest}
use Rattle.statements.specs.declared.action.RequestName.{RequestName}
use Rattle.statements.specs.declared.action.RequestName.TheVariants as requested
use Rattle.interpreter.specs.Answers.{ended_each, ended_named, errors_told, returned, with_error}
use Rattle.interpreter.specs.NamesState.{NamesState, with_request}
use Rattle.proof_interpreter.specs.Answers.{AllHaveEnded, AreApart, EachHasEnded, HoldsNone, IsApartFrom, IsNoneOf}
use Rattle.proof_interpreter.specs.Answers.{all_told_of, errors_in, with_error_in}
use Rattle.proof_interpreter.specs.Names.{HasCome, HoldsBack, IsOther, error_in, handed_back, set_by, started_with}
use Rattle.proof_interpreter.proofs.Frames.{request_set}
use Rattle.proof_interpreter.proofs.OutcomeLaws.{come, is_null, keeps_last}

-- ---- errors

one_error : (o : Outcome) (numbers : List ℕ) → with_error (error_of o) numbers ≡
    with_error_in (error_in (outcome_seen o)) numbers
one_error outcomes.Sent numbers = refl
one_error (outcomes.Received status v) numbers = refl
one_error (outcomes.Ended failure status v) numbers = refl
one_error (outcomes.Replaced b) numbers = refl
one_error (outcomes.Cancelled v) numbers = refl
one_error outcomes.Empty numbers = refl

errors : (rs : List RequestName) (os : List Outcome) (s : NamesState) → length os ≡ length rs →
    (ended_each rs os s).0 ≡ errors_in (map outcome_seen os)
errors [] [] s e = refl
errors [] (o ∷ os) s e = absurd cc
errors (r ∷ rs) [] s e = absurd cc
errors (r ∷ rs) (o ∷ os) s e =
    let rest : length os ≡ length rs = cc in
    ap (λ (numbers : List ℕ). with_error (error_of o) numbers) (errors rs os (ended_named r o s) rest) ∙
    one_error o (errors_in (map outcome_seen os))

all_told : (numbers : List ℕ) → errors_told numbers ≡ all_told_of numbers
all_told [] = refl
all_told (number ∷ numbers) = refl

pub told_each : (rs : List RequestName) (os : List Outcome) (s : NamesState) → length os ≡ length rs →
    errors_told (ended_each rs os s).0 ≡ all_told_of (errors_in (map outcome_seen os))
told_each rs os s e = ap errors_told (errors rs os s e) ∙ all_told (errors_in (map outcome_seen os))

-- ---- names that are started alike in two states, but for one

module _ (s s' : NamesState) (name : List ℕ)
    (same : (other : List ℕ) → (other ≡ name → ⊥) → started_with s' other ≡ started_with s other) where
  apart_still :
      (m : List ℕ) (rs : List RequestName) → (m ≡ name → ⊥) → IsApartFrom s m rs → IsApartFrom s name rs →
      IsApartFrom s' m rs
  apart_still m [] differs a b = tt
  apart_still m (requested.Null ∷ rs) differs a b = apart_still m rs differs a b
  apart_still m (requested.Named other ∷ rs) differs a b = (
    (
      a.0.0,
      λ (buffer : List ℕ) (e : started_with s' m ≡ Some buffer) (f : started_with s' other ≡ Some buffer).
          a.0.1 buffer (sym (same m differs) ∙ e) (sym (same other b.0.0) ∙ f),
    ),
    apart_still m rs differs a.1 b.1,
  )

  all_apart : (rs : List RequestName) → IsApartFrom s name rs → AreApart s rs → AreApart s' rs
  all_apart [] b a = tt
  all_apart (requested.Null ∷ rs) b a = all_apart rs b a
  all_apart (requested.Named m ∷ rs) b a = (apart_still m rs b.0.0 a.0 b.1, all_apart rs b.1 a.1)

  each_so : (rs : List RequestName) (os : List Outcome) (new : NamesState) → IsApartFrom s name rs →
      EachHasEnded s' rs os new → EachHasEnded s rs os new
  each_so [] os new b e = tt
  each_so (r ∷ rs) [] new b e = tt
  each_so (requested.Null ∷ rs) (o ∷ os) new b e = each_so rs os new b e
  each_so (requested.Named m ∷ rs) (o ∷ os) new b e = (
    (
      e.0.0,
      subst (λ (buffer : Option (List ℕ)). HoldsBack new buffer (handed_back (outcome_seen o))) (same m b.0.0) e.0.1,
    ),
    each_so rs os new b.1 e.1,
  )

  holds_none : (rs : List RequestName) (buffer : List ℕ) → IsApartFrom s name rs → HoldsNone s rs buffer →
      HoldsNone s' rs buffer
  holds_none [] buffer b h = tt
  holds_none (requested.Null ∷ rs) buffer b h = holds_none rs buffer b h
  holds_none (requested.Named m ∷ rs) buffer b h = (
    λ (e : started_with s' m ≡ Some buffer). h.0 (sym (same m b.0.0) ∙ e),
    holds_none rs buffer b.1 h.1,
  )

-- the buffer of the one is none of the others'
apart_holds : (s : NamesState) (name buffer : List ℕ) (rs : List RequestName) → started_with s name ≡ Some buffer →
    IsApartFrom s name rs → HoldsNone s rs buffer
apart_holds s name buffer [] e b = tt
apart_holds s name buffer (requested.Null ∷ rs) e b = apart_holds s name buffer rs e b
apart_holds s name buffer (requested.Named m ∷ rs) e b = (b.0.1 buffer e, apart_holds s name buffer rs e b.1)

apart_none : (s : NamesState) (name : List ℕ) (rs : List RequestName) → IsApartFrom s name rs → IsNoneOf rs name
apart_none s name [] b = tt
apart_none s name (requested.Null ∷ rs) b = apart_none s name rs b
apart_none s name (requested.Named m ∷ rs) b = (λ (e : name ≡ m). b.0.0 (sym e), apart_none s name rs b.1)

other_set : (buffer : Option (List ℕ)) (back : Option Contents) (name : List ℕ) → (buffer ≡ Some name → ⊥) →
    IsOther (set_by buffer back) name
other_set buffer None name differs = tt
other_set None (Some v) name differs = tt
other_set (Some b) (Some v) name differs = λ (e : name ≡ b). differs (ap (λ (n : List ℕ). Some n) (sym e))

-- what came for the one stays, where the others don't touch its buffer
stays_back :
    (old new : NamesState) (buffer : Option (List ℕ)) (back : Option Contents) →
    ((name : List ℕ) → buffer ≡ Some name → value_at new.buffers name ≡ value_at old.buffers name) →
    HoldsBack old buffer back → HoldsBack new buffer back
stays_back old new None back f h = tt
stays_back old new (Some name) None f h = tt
stays_back old new (Some name) (Some v) f h = f name refl ∙ h

-- ---- all of them

one_more :
    (s : NamesState) (name : List ℕ) (rs : List RequestName) (o : Outcome) (os : List Outcome) (new : NamesState) →
    IsApartFrom s name rs →
    AllHaveEnded (returned (started_with s name) o (with_request s name null)) rs os new →
    AllHaveEnded s (requested.Named name ∷ rs) (o ∷ os) new
one_more s name rs o os new apart ih =
    let s' : NamesState = returned (started_with s name) o (with_request s name null) in
    let c : HasCome s s' (Some name) (started_with s name) None (outcome_seen o) =
    come s (with_request s name null) (Some name) (started_with s name) None o (request_set s name null) in
    let same : (other : List ℕ) → (other ≡ name → ⊥) → started_with s' other ≡ started_with s other =
    λ (other : List ℕ) (differs : other ≡ name → ⊥).
    ap (option_and_then (λ (h : NamedRequest). h.buffer)) (c.others.requests other differs) in
    record {
      each = (
        (
          ih.requests name (apart_none s name rs apart) ∙ is_null s name (started_with s name) o,
          stays_back s' new (started_with s name) (handed_back (outcome_seen o))
              (λ (buffer : List ℕ) (e : started_with s name ≡ Some buffer).
              ih.buffers buffer
              (holds_none s s' name same rs buffer apart (apart_holds s name buffer rs e apart)))
              c.back,
        ),
        each_so s s' name same rs os new apart ih.each,
      );
      requests =
          λ (n : List ℕ) (none : IsNoneOf (requested.Named name ∷ rs) n).
          ih.requests n none.1 ∙ c.others.requests n none.0;
      buffers =
          λ (n : List ℕ) (none : HoldsNone s (requested.Named name ∷ rs) n).
          ih.buffers n (holds_none s s' name same rs n apart none.1) ∙
          c.others.buffers n (other_set (started_with s name) (handed_back (outcome_seen o)) n none.0);
      rank = ih.rank ∙ c.others.rank;
      layouts = λ (n : List ℕ). ih.layouts n ∙ c.others.layouts n;
      messages = λ (n : List ℕ). ih.messages n ∙ c.others.messages n tt;
      communicators = λ (n : List ℕ). ih.communicators n ∙ c.others.communicators n tt;
      last = ih.last ∙ keeps_last (started_with s name) o (with_request s name null);
    }

next_apart : (s : NamesState) (name : List ℕ) (rs : List RequestName) (o : Outcome) → IsApartFrom s name rs →
    AreApart s rs → AreApart (returned (started_with s name) o (with_request s name null)) rs
next_apart s name rs o apart rest =
    let s' : NamesState = returned (started_with s name) o (with_request s name null) in
    let c : HasCome s s' (Some name) (started_with s name) None (outcome_seen o) =
    come s (with_request s name null) (Some name) (started_with s name) None o (request_set s name null) in
    all_apart s s' name
    (λ (other : List ℕ) (differs : other ≡ name → ⊥).
    ap (option_and_then (λ (h : NamedRequest). h.buffer)) (c.others.requests other differs))
    rs apart rest

untouched_all : (s : NamesState) (rs : List RequestName) (os : List Outcome) → EachHasEnded s rs os s →
    AllHaveEnded s rs os s
untouched_all s rs os each = record {
  each = each;
  requests = λ (n : List ℕ) (none : IsNoneOf rs n). refl;
  buffers = λ (n : List ℕ) (none : HoldsNone s rs n). refl;
  rank = refl;
  layouts = λ (n : List ℕ). refl;
  messages = λ (n : List ℕ). refl;
  communicators = λ (n : List ℕ). refl;
  last = refl;
}

null_more : (s : NamesState) (rs : List RequestName) (o : Outcome) (os : List Outcome) (new : NamesState) →
    AllHaveEnded s rs os new → AllHaveEnded s (requested.Null ∷ rs) (o ∷ os) new
null_more s rs o os new ih = record {
  each = ih.each;
  requests = ih.requests;
  buffers = ih.buffers;
  rank = ih.rank;
  layouts = ih.layouts;
  messages = ih.messages;
  communicators = ih.communicators;
  last = ih.last;
}

pub all_end : (rs : List RequestName) (os : List Outcome) (s : NamesState) → AreApart s rs →
    AllHaveEnded s rs os (ended_each rs os s).1
all_end [] os s apart = untouched_all s [] os tt
all_end (r ∷ rs) [] s apart = untouched_all s (r ∷ rs) [] tt
all_end (requested.Null ∷ rs) (o ∷ os) s apart = null_more s rs o os (ended_each rs os s).1 (all_end rs os s apart)
all_end (requested.Named name ∷ rs) (o ∷ os) s apart =
    let s' : NamesState = returned (started_with s name) o (with_request s name null) in
    one_more s name rs o os (ended_each rs os s').1 apart.0
    (all_end rs os s' (next_apart s name rs o apart.0 apart.1))
