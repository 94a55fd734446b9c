-- Which names stay what they were.
use Rattle.std.proofs.Common.{◌≡◌, ℕ, Bool, true, false, List, Option, Some, None, is_some, option_and_then, refl}
use Rattle.std.proofs.Common.{sym, ap}
use Rattle.std.proofs.Common.{◌∙◌, true≢false}
use Rattle.std.specs.Str.{bytes_eq}
use Rattle.std.proofs.lemmas.Slice.Eq.{bytes_eq-Decides}
use Rattle.datatypes.specs.Contents.{Contents}
use Rattle.script_calls.specs.Tables.{Entry, value_at, with_value}
use Rattle.script_calls.specs.declared.pending.NamedCommunicator.{NamedCommunicator}
use Rattle.script_calls.specs.declared.pending.NamedMessage.{NamedMessage}
use Rattle.script_calls.specs.declared.pending.NamedRequest.{NamedRequest}
use Rattle.vocabulary.specs.declared.envelope.Status.{Status}
use Rattle.interpreter.specs.NamesState.{NamesState, given_back, here, with_buffer, with_communicator, with_message}
use Rattle.interpreter.specs.NamesState.{with_request}
use Rattle.proof_interpreter.specs.Names.{AllStays, IsOther, OthersStay}
use Rattle.proof_interpreter.proofs.Tables.{value_other, value_set}

-- ---- nothing has changed

pub untouched : (s : NamesState) (r b m c : Option (List ℕ)) → OthersStay s s r b m c
untouched s r b m c = record {
  rank = refl;
  layouts = λ (n : List ℕ). refl;
  requests = λ (n : List ℕ) (o : IsOther r n). refl;
  buffers = λ (n : List ℕ) (o : IsOther b n). refl;
  messages = λ (n : List ℕ) (o : IsOther m n). refl;
  communicators = λ (n : List ℕ) (o : IsOther c n). refl;
}

pub all_stays : (s : NamesState) → AllStays s s
all_stays s = record { others = untouched s None None None None; last = refl }

-- ---- one name has

pub request_set : (s : NamesState) (name : List ℕ) (h : NamedRequest) →
    OthersStay s (with_request s name h) (Some name) None None None
request_set s name h = record {
  rank = refl;
  layouts = λ (n : List ℕ). refl;
  requests = λ (n : List ℕ) (o : IsOther (Some name) n). value_other s.requests name h n o;
  buffers = λ (n : List ℕ) (o : IsOther None n). refl;
  messages = λ (n : List ℕ) (o : IsOther None n). refl;
  communicators = λ (n : List ℕ) (o : IsOther None n). refl;
}

pub message_set : (s : NamesState) (name : List ℕ) (m : NamedMessage) →
    OthersStay s (with_message s name m) None None (Some name) None
message_set s name m = record {
  rank = refl;
  layouts = λ (n : List ℕ). refl;
  requests = λ (n : List ℕ) (o : IsOther None n). refl;
  buffers = λ (n : List ℕ) (o : IsOther None n). refl;
  messages = λ (n : List ℕ) (o : IsOther (Some name) n). value_other s.messages name m n o;
  communicators = λ (n : List ℕ) (o : IsOther None n). refl;
}

pub communicator_set : (s : NamesState) (name : List ℕ) (c : Option NamedCommunicator) →
    OthersStay s (with_communicator s name c) None None None (Some name)
communicator_set s name c = record {
  rank = refl;
  layouts = λ (n : List ℕ). refl;
  requests = λ (n : List ℕ) (o : IsOther None n). refl;
  buffers = λ (n : List ℕ) (o : IsOther None n). refl;
  messages = λ (n : List ℕ) (o : IsOther None n). refl;
  communicators = λ (n : List ℕ) (o : IsOther (Some name) n). value_other s.communicators name c n o;
}

-- one more name of a buffer
pub buffer_set : (old new : NamesState) (r m c : Option (List ℕ)) (name : List ℕ) (slot : Option Contents) →
    OthersStay old new r None m c → OthersStay old (with_buffer new name slot) r (Some name) m c
buffer_set old new r m c name slot f = record {
  rank = f.rank;
  layouts = f.layouts;
  requests = f.requests;
  buffers = λ (n : List ℕ) (o : IsOther (Some name) n). value_other new.buffers name slot n o ∙ f.buffers n tt;
  messages = f.messages;
  communicators = f.communicators;
}

-- the last status is no name
pub last_set : (old new : NamesState) (r b m c : Option (List ℕ)) (l : Status) → OthersStay old new r b m c →
    OthersStay old (record new { last = l }) r b m c
last_set old new r b m c l f = record {
  rank = f.rank;
  layouts = f.layouts;
  requests = f.requests;
  buffers = f.buffers;
  messages = f.messages;
  communicators = f.communicators;
}

-- ---- a buffer that was lent is back

none_is_some : {X : Type 0} {x : X} → None ≡ Some x → ⊥
none_is_some e = true≢false (sym (ap is_some e))

there : (slot : Option (Option Contents)) (v : Contents) → option_and_then (λ (x : Option Contents). x) slot ≡ Some v →
    slot ≡ Some (Some v)
there None v e = absurd (none_is_some e)
there (Some None) v e = absurd (none_is_some e)
there (Some (Some w)) v e = ap Some e

pub holds_here : (s : NamesState) (name : List ℕ) (v : Contents) → here s name ≡ Some v →
    value_at s.buffers name ≡ Some (Some v)
holds_here s name v e = there (value_at s.buffers name) v e

back_by : (t : Bool) (xs : List (Entry (Option Contents))) (name m : List ℕ) (v : Contents) →
    value_at xs name ≡ Some (Some v) → bytes_eq m name ≡ t →
    value_at (with_value (with_value xs name None) name (Some v)) m ≡ value_at xs m
back_by true xs name m v holds e =
    let same : m ≡ name = (bytes_eq-Decides m name).0 e in
    ap (λ (n : List ℕ). value_at (with_value (with_value xs name None) name (Some v)) n) same ∙
    value_set (with_value xs name None) name (Some v) ∙ sym holds ∙ sym (ap (λ (n : List ℕ). value_at xs n) same)
back_by false xs name m v holds e =
    let apart : m ≡ name → ⊥ = λ (same : m ≡ name). true≢false (sym ((bytes_eq-Decides m name).1 same) ∙ e) in
    value_other (with_value xs name None) name (Some v) m apart ∙ value_other xs name None m apart

pub lent_and_back : (s : NamesState) (name : List ℕ) (v : Contents) → here s name ≡ Some v →
    AllStays s (given_back (with_buffer s name None) (Some name) v)
lent_and_back s name v e = record {
  others =
      record {
        rank = refl;
        layouts = λ (n : List ℕ). refl;
        requests = λ (n : List ℕ) (o : IsOther None n). refl;
        buffers =
            λ (n : List ℕ) (o : IsOther None n).
            back_by (bytes_eq n name) s.buffers name n v (holds_here s name v e) refl;
        messages = λ (n : List ℕ) (o : IsOther None n). refl;
        communicators = λ (n : List ℕ) (o : IsOther None n). refl;
      };
  last = refl;
}
