-- What ranks do: reading and the grammar agree.
use Rattle.std.proofs.Common.{◌≡◌, ℕ, List, [], ◌∷◌, Option, Some, refl, sym, ap, subst, ◌∙◌}
use Rattle.std.specs.Prelude.{codes}
use Rattle.vocabulary.specs.declared.envelope.Source.{Source}
use Rattle.datatypes.specs.Contents.{Contents}
use Rattle.statements.specs.declared.verb.Verb.{Verb}
use Rattle.statements.specs.declared.verb.Verb.TheVariants as verbs
use Rattle.statements.specs.declared.action.CommunicatorName.{CommunicatorName}
use Rattle.statements.specs.declared.action.RequestName.{RequestName}
use Rattle.statements.specs.declared.action.BufferLine.{BufferLine}
use Rattle.statements.specs.declared.action.LayoutClause.{LayoutClause}
use Rattle.statements.specs.declared.action.Sending.{Sending}
use Rattle.statements.specs.declared.action.Receiving.{Receiving}
use Rattle.statements.specs.declared.action.Action.{Action}
use Rattle.statements.specs.declared.action.Action.TheVariants as actions
use Rattle.statements.specs.Grammar.{IsBuffer, IsSending, IsReceiving, Spells, IsRequested}
use Rattle.tokens.specs.Grammar.{Word, NamesIt, type_word}
use Rattle.statements.specs.Words.{verb_of}
use Rattle.tokens.specs.Words.{basic_type_of}
use Rattle.tokens.specs.Results.{◌>>=◌}
use Rattle.statements.specs.LineWords.{communicator_of, target_of, source_of, tag_of, requested_of, through_of}
use Rattle.statements.specs.LineWords.{one_request, elements_of, buffer_with, buffer_of, sending_of, receiving_of}
use Rattle.statements.specs.LineWords.{isend_of, irecv_of, probing_of, improbe_of, mrecv_of, one_of, layout_of}
use Rattle.statements.specs.LineWords.{
  communicator_alone,
  two_communicators,
  bcast_of,
  gather_of,
  scatter_of,
  reduce_of,
}
use Rattle.statements.specs.LineWords.{allreduce_of, dup_of, split_of, action_by, action_of}
use Rattle.tokens.specs.Fields.{first, end_of_line, name_of, each}
use Rattle.statements.proofs.VerbLaws.{verb_word, verb_takes, verb_again}
use Rattle.tokens.proofs.WordLaws.{bind_ok, made, type_takes, type_again}
use Rattle.statements.proofs.FieldLaws.{communicator_takes, communicator_again, target_takes, target_again}
use Rattle.statements.proofs.FieldLaws.{source_takes, source_again, tag_takes, tag_again, requested_takes}
use Rattle.statements.proofs.FieldLaws.{requested_again, requests_take, requests_again, through_takes, through_again}
use Rattle.tokens.proofs.FieldLaws.{named_takes, named_again}
use Rattle.statements.proofs.LayoutLaws.{layout_takes, layout_again}
use Rattle.statements.proofs.CommunicatorLaws.{asks_takes, asks_again, compare_takes, compare_again, dup_takes}
use Rattle.statements.proofs.CommunicatorLaws.{dup_again, split_takes, split_again}
use Rattle.statements.proofs.CollectiveLaws.{bcast_takes, bcast_again, gather_takes, gather_again, scatter_takes}
use Rattle.statements.proofs.CollectiveLaws.{scatter_again, reduce_takes, reduce_again, allreduce_takes}
use Rattle.statements.proofs.CollectiveLaws.{allreduce_again}
use Rattle.statements.proofs.ProbeLaws.{probing_takes, probing_again, improbe_takes, improbe_from, landing_again}
use Rattle.statements.proofs.ProbeLaws.{mrecv_takes, mrecv_from}
use Rattle.statements.proofs.FieldSteps.{five}
use Rattle.statements.proofs.ElementLaws.{elements_take, elements_again}

-- ---- arguments

send_made : CommunicatorName → Source → Option ℕ → Word → Option LayoutClause → Sending
send_made c r t b u = record { communicator = c; target = r; tag = t; buffer = b; through = u }

pub sending_takes : (words : List Word) (send : Sending) → sending_of words ≡ Some send → IsSending words send
unfolding sending_of first send_made
sending_takes [] send e = absurd cc
sending_takes (a ∷ []) send e = absurd cc
sending_takes (a ∷ b ∷ []) send e = absurd cc
sending_takes (a ∷ b ∷ c ∷ []) send e = absurd cc
sending_takes (a ∷ b ∷ c ∷ d ∷ rest) send e =
    let p = five (communicator_of a) (target_of b) (tag_of c) (name_of d) (through_of rest) send_made send e in
    subst (IsSending (a ∷ b ∷ c ∷ d ∷ rest)) p.10 (
      a,
      b,
      c,
      d,
      rest,
      refl,
      communicator_takes a p.0 p.5,
      target_takes b p.1 p.6,
      tag_takes c p.2 p.7,
      named_takes d p.3 p.8,
      through_takes rest p.4 p.9,
    )

send_from : (a b c d : Word) (rest : List Word) (send : Sending) → communicator_of a ≡ Some send.communicator →
    target_of b ≡ Some send.target → tag_of c ≡ Some send.tag → name_of d ≡ Some send.buffer →
    through_of rest ≡ Some send.through
    → sending_of (a ∷ b ∷ c ∷ d ∷ rest) ≡ Some send
unfolding sending_of first
send_from a b c d rest send qa qb qc qd qe = rw (qa, qb, qc, qd, qe) refl

pub sending_again : (words : List Word) (send : Sending) → IsSending words send → sending_of words ≡ Some send
sending_again words send h =
    ap sending_of h.5
    ∙ send_from h.0 h.1 h.2 h.3 h.4 send (communicator_again h.0 send.communicator h.6)
    (target_again h.1 send.target h.7) (tag_again h.2 send.tag h.8) (named_again h.3 send.buffer h.9)
    (through_again h.4 send.through h.10)

receive_made : CommunicatorName → Source → Option ℕ → Word → Option LayoutClause → Receiving
receive_made c r t b u = record { communicator = c; source = r; tag = t; buffer = b; through = u }

pub receiving_takes : (words : List Word) (receive : Receiving) → receiving_of words ≡ Some receive →
    IsReceiving words receive
unfolding receiving_of first receive_made
receiving_takes [] receive e = absurd cc
receiving_takes (a ∷ []) receive e = absurd cc
receiving_takes (a ∷ b ∷ []) receive e = absurd cc
receiving_takes (a ∷ b ∷ c ∷ []) receive e = absurd cc
receiving_takes (a ∷ b ∷ c ∷ d ∷ rest) receive e =
    let p = five (communicator_of a) (source_of b) (tag_of c) (name_of d) (through_of rest) receive_made receive e in
    subst (IsReceiving (a ∷ b ∷ c ∷ d ∷ rest)) p.10 (
      a,
      b,
      c,
      d,
      rest,
      refl,
      communicator_takes a p.0 p.5,
      source_takes b p.1 p.6,
      tag_takes c p.2 p.7,
      named_takes d p.3 p.8,
      through_takes rest p.4 p.9,
    )

receive_from : (a b c d : Word) (rest : List Word) (receive : Receiving) →
    communicator_of a ≡ Some receive.communicator → source_of b ≡ Some receive.source → tag_of c ≡ Some receive.tag →
    name_of d ≡ Some receive.buffer → through_of rest ≡ Some receive.through
    → receiving_of (a ∷ b ∷ c ∷ d ∷ rest) ≡ Some receive
unfolding receiving_of first
receive_from a b c d rest receive qa qb qc qd qe = rw (qa, qb, qc, qd, qe) refl

pub receiving_again : (words : List Word) (receive : Receiving) → IsReceiving words receive →
    receiving_of words ≡ Some receive
receiving_again words receive h =
    ap receiving_of h.5
    ∙ receive_from h.0 h.1 h.2 h.3 h.4 receive (communicator_again h.0 receive.communicator h.6)
    (source_again h.1 receive.source h.7) (tag_again h.2 receive.tag h.8) (named_again h.3 receive.buffer h.9)
    (through_again h.4 receive.through h.10)

-- ---- requests

-- a request's name, and a send
IsNamedSending : List Word → Word × Sending → Type 0
IsNamedSending words m = (name : Word) × (rest : List Word) × (words ≡ name ∷ rest) × NamesIt name m.0 ×
    IsSending rest m.1

isend_takes : (words : List Word) (made : Word × Sending) → isend_of words ≡ Some made → IsNamedSending words made
unfolding isend_of first IsNamedSending
isend_takes [] made e = absurd cc
isend_takes (w ∷ ws) m e =
    let a = bind_ok (name_of w) (λ q. sending_of ws >>= λ send. Some (q, send)) m e in
    let b = bind_ok (sending_of ws) (λ send. Some (a.0, send)) m a.2 in
    made (IsNamedSending (w ∷ ws)) (a.0, b.0) m (w, ws, refl, named_takes w a.0 a.1, sending_takes ws b.0 b.1) b.2

send_spelled : (words : List Word) (m : Word × Sending) → IsNamedSending words m →
    Spells (codes "isend" ∷ words) (actions.Isend m.0 m.1)
unfolding IsNamedSending
send_spelled words m h = (h.0, h.1, ap (λ (ws : List Word). codes "isend" ∷ ws) h.2, h.3, h.4)

synchronous_spelled : (words : List Word) (m : Word × Sending) → IsNamedSending words m →
    Spells (codes "issend" ∷ words) (actions.Issend m.0 m.1)
unfolding IsNamedSending
synchronous_spelled words m h = (h.0, h.1, ap (λ (ws : List Word). codes "issend" ∷ ws) h.2, h.3, h.4)

isend_from : (name : Word) (rest : List Word) (request : Word) (send : Sending) → name_of name ≡ Some request →
    sending_of rest ≡ Some send → isend_of (name ∷ rest) ≡ Some (request, send)
unfolding isend_of first
isend_from name rest request send q s = rw (q, s) refl

irecv_takes : (words : List Word) (made : Word × Receiving) → irecv_of words ≡ Some made →
    Spells (codes "irecv" ∷ words) (actions.Irecv made.0 made.1)
unfolding irecv_of first
irecv_takes [] made e = absurd cc
irecv_takes (w ∷ ws) m e =
    let a = bind_ok (name_of w) (λ q. receiving_of ws >>= λ receive. Some (q, receive)) m e in
    let b = bind_ok (receiving_of ws) (λ receive. Some (a.0, receive)) m a.2 in
    made (λ (m : Word × Receiving). Spells (codes "irecv" ∷ w ∷ ws) (actions.Irecv m.0 m.1)) (a.0, b.0) m
    (w, ws, refl, named_takes w a.0 a.1, receiving_takes ws b.0 b.1) b.2

irecv_from : (name : Word) (rest : List Word) (request : Word) (receive : Receiving) → name_of name ≡ Some request →
    receiving_of rest ≡ Some receive → irecv_of (name ∷ rest) ≡ Some (request, receive)
unfolding irecv_of first
irecv_from name rest request receive q r = rw (q, r) refl

one_takes : (words : List Word) (r : RequestName) → one_of words ≡ Some r →
    (word : Word) × (words ≡ word ∷ []) × IsRequested word r
unfolding one_of first end_of_line
one_takes [] r e = absurd cc
one_takes (a ∷ []) r e = (a, refl, requested_takes a r e)
one_takes (a ∷ b ∷ ws) r e = absurd cc

-- a line of one request
request_takes : (P : List Word → Type 0) (words : List Word) (r : RequestName) →
    ((word : Word) → IsRequested word r → P (word ∷ [])) → one_of words ≡ Some r → P words
request_takes P words r makes e = let p = one_takes words r e in subst P (sym p.1) (makes p.0 p.2)

one_from : (a : Word) (r : RequestName) → requested_of a ≡ Some r → one_of (a ∷ []) ≡ Some r
unfolding one_of first end_of_line
one_from a r e = e

-- ---- buffers

pub buffer_takes : (words : List Word) (line : BufferLine) → buffer_of words ≡ Some line → IsBuffer words line
unfolding buffer_of first buffer_with
buffer_takes [] line e = absurd cc
buffer_takes (a ∷ []) line e = absurd cc
buffer_takes (a ∷ b ∷ rest) line e =
    let p = bind_ok (name_of a) (λ buffer. basic_type_of b >>= λ kind. buffer_with kind rest >>= λ contents. Some (record { name = buffer; value = contents })) line e in
    let q = bind_ok (basic_type_of b) (λ kind. buffer_with kind rest >>= λ contents. Some (record { name = p.0; value = contents })) line p.2 in
    let r = bind_ok (buffer_with q.0 rest) (λ contents. Some (record { name = p.0; value = contents })) line q.2 in
    let s = bind_ok (each (elements_of q.0) rest) (λ elements. Some (record { basic = q.0; values = elements })) r.0 r.1 in
    made (IsBuffer (a ∷ b ∷ rest)) (record { name = p.0; value = r.0 }) line
    (made (λ (contents : Contents). IsBuffer (a ∷ b ∷ rest) (record { name = p.0; value = contents }))
    (record { basic = q.0; values = s.0 }) r.0 (
      a,
      rest,
      ap (λ (w : Word). a ∷ w ∷ rest) (type_takes b q.0 q.1),
      named_takes a p.0 p.1,
      elements_take q.0 rest s.0 s.1,
    ) s.2) r.2

with_from : (buffer : Contents) (rest : List Word) → each (elements_of buffer.basic) rest ≡ Some buffer.values →
    buffer_with buffer.basic rest ≡ Some buffer
unfolding buffer_with
with_from buffer rest v = rw v refl

buffer_from : (a : Word) (rest : List Word) (line : BufferLine) → name_of a ≡ Some line.name →
    basic_type_of (type_word line.value.basic) ≡ Some line.value.basic → buffer_with line.value.basic rest ≡
    Some line.value
    → buffer_of (a ∷ type_word line.value.basic ∷ rest) ≡ Some line
unfolding buffer_of first
buffer_from a rest line n t v = rw (n, t, v) refl

pub buffer_again : (words : List Word) (line : BufferLine) → IsBuffer words line → buffer_of words ≡ Some line
buffer_again words line h =
    ap buffer_of h.2 ∙ buffer_from h.0 h.1 line (named_again h.0 line.name h.3) (type_again line.value.basic)
    (with_from line.value h.1 (elements_again line.value.basic h.1 line.value.values h.4))

-- ---- what ranks do

by_takes : (verb : Verb) (words : List Word) (s : Action) → action_by verb words ≡ Some s →
    Spells (verb_word verb ∷ words) s
by_takes verbs.Buffer words s e =
    let b = bind_ok (buffer_of words) (λ x. Some (actions.Buffer x)) s e in made (Spells (codes "buf" ∷ words))
    (actions.Buffer b.0) s (words, refl, buffer_takes words b.0 b.1) b.2
by_takes verbs.Layout words s e =
    let b = bind_ok (layout_of words) (λ x. Some (actions.Layout x)) s e in made (Spells (codes "type" ∷ words))
    (actions.Layout b.0) s (words, refl, layout_takes words b.0 b.1) b.2
by_takes verbs.Isend words s e =
    let b = bind_ok (isend_of words) (λ x. Some (actions.Isend x.0 x.1)) s e in made (Spells (codes "isend" ∷ words))
    (actions.Isend b.0.0 b.0.1) s (send_spelled words b.0 (isend_takes words b.0 b.1)) b.2
by_takes verbs.Issend words s e =
    let b = bind_ok (isend_of words) (λ x. Some (actions.Issend x.0 x.1)) s e in
    made (Spells (codes "issend" ∷ words)) (actions.Issend b.0.0 b.0.1) s
    (synchronous_spelled words b.0 (isend_takes words b.0 b.1)) b.2
by_takes verbs.Irecv words s e =
    let b = bind_ok (irecv_of words) (λ x. Some (actions.Irecv x.0 x.1)) s e in made (Spells (codes "irecv" ∷ words))
    (actions.Irecv b.0.0 b.0.1) s (irecv_takes words b.0 b.1) b.2
by_takes verbs.Iprobe words s e =
    let b = bind_ok (probing_of words) (λ x. Some (actions.Iprobe x)) s e in made (Spells (codes "iprobe" ∷ words))
    (actions.Iprobe b.0) s (words, refl, probing_takes words b.0 b.1) b.2
by_takes verbs.Improbe words s e =
    let b = bind_ok (improbe_of words) (λ x. Some (actions.Improbe x.0 x.1)) s e in made
    (Spells (codes "improbe" ∷ words)) (actions.Improbe b.0.0 b.0.1) s (improbe_takes words b.0 b.1) b.2
by_takes verbs.Mrecv words s e =
    let b = bind_ok (mrecv_of words) (λ x. Some (actions.Mrecv x.0 x.1)) s e in made (Spells (codes "mrecv" ∷ words))
    (actions.Mrecv b.0.0 b.0.1) s (mrecv_takes words b.0 b.1) b.2
by_takes verbs.Wait words s e =
    let b = bind_ok (one_of words) (λ x. Some (actions.Wait x)) s e in
    made (Spells (codes "wait" ∷ words)) (actions.Wait b.0) s
    (request_takes (λ (ws : List Word). Spells (codes "wait" ∷ ws) (actions.Wait b.0)) words b.0
    (λ a h. (a, refl, h)) b.1) b.2
by_takes verbs.Test words s e =
    let b = bind_ok (one_of words) (λ x. Some (actions.Test x)) s e in
    made (Spells (codes "test" ∷ words)) (actions.Test b.0) s
    (request_takes (λ (ws : List Word). Spells (codes "test" ∷ ws) (actions.Test b.0)) words b.0
    (λ a h. (a, refl, h)) b.1) b.2
by_takes verbs.Cancel words s e =
    let b = bind_ok (one_of words) (λ x. Some (actions.Cancel x)) s e in
    made (Spells (codes "cancel" ∷ words)) (actions.Cancel b.0) s
    (request_takes (λ (ws : List Word). Spells (codes "cancel" ∷ ws) (actions.Cancel b.0)) words b.0
    (λ a h. (a, refl, h)) b.1) b.2
by_takes verbs.Waitany words s e =
    let b = bind_ok (each one_request words) (λ x. Some (actions.Waitany x)) s e in made
    (Spells (codes "waitany" ∷ words)) (actions.Waitany b.0) s (words, refl, requests_take words b.0 b.1) b.2
by_takes verbs.Waitall words s e =
    let b = bind_ok (each one_request words) (λ x. Some (actions.Waitall x)) s e in made
    (Spells (codes "waitall" ∷ words)) (actions.Waitall b.0) s (words, refl, requests_take words b.0 b.1) b.2
by_takes verbs.Barrier words s e =
    let b = bind_ok (communicator_alone words) (λ x. Some (actions.Barrier x)) s e in
    made (Spells (codes "barrier" ∷ words)) (actions.Barrier b.0) s
    (asks_takes (λ (ws : List Word). Spells (codes "barrier" ∷ ws) (actions.Barrier b.0)) words b.0
    (λ a h. (a, refl, h)) b.1) b.2
by_takes verbs.Bcast words s e =
    let b = bind_ok (bcast_of words) (λ x. Some (actions.Bcast x)) s e in made (Spells (codes "bcast" ∷ words))
    (actions.Bcast b.0) s (words, refl, bcast_takes words b.0 b.1) b.2
by_takes verbs.Gather words s e =
    let b = bind_ok (gather_of words) (λ x. Some (actions.Gather x)) s e in made (Spells (codes "gather" ∷ words))
    (actions.Gather b.0) s (words, refl, gather_takes words b.0 b.1) b.2
by_takes verbs.Scatter words s e =
    let b = bind_ok (scatter_of words) (λ x. Some (actions.Scatter x)) s e in made (Spells (codes "scatter" ∷ words))
    (actions.Scatter b.0) s (words, refl, scatter_takes words b.0 b.1) b.2
by_takes verbs.Reduce words s e =
    let b = bind_ok (reduce_of words) (λ x. Some (actions.Reduce x)) s e in made (Spells (codes "reduce" ∷ words))
    (actions.Reduce b.0) s (words, refl, reduce_takes words b.0 b.1) b.2
by_takes verbs.Allreduce words s e =
    let b = bind_ok (allreduce_of words) (λ x. Some (actions.Allreduce x)) s e in made
    (Spells (codes "allreduce" ∷ words)) (actions.Allreduce b.0) s (words, refl, allreduce_takes words b.0 b.1) b.2
by_takes verbs.Dup words s e =
    let b = bind_ok (dup_of words) (λ x. Some (actions.Dup x.0 x.1)) s e in made (Spells (codes "dup" ∷ words))
    (actions.Dup b.0.0 b.0.1) s (dup_takes words b.0 b.1) b.2
by_takes verbs.Split words s e =
    let b = bind_ok (split_of words) (λ x. Some (actions.Split x.0 x.1)) s e in made (Spells (codes "split" ∷ words))
    (actions.Split b.0.0 b.0.1) s (split_takes words b.0 b.1) b.2
by_takes verbs.Who words s e =
    let b = bind_ok (communicator_alone words) (λ x. Some (actions.Who x)) s e in
    made (Spells (codes "who" ∷ words)) (actions.Who b.0) s
    (asks_takes (λ (ws : List Word). Spells (codes "who" ∷ ws) (actions.Who b.0)) words b.0
    (λ a h. (a, refl, h)) b.1) b.2
by_takes verbs.Members words s e =
    let b = bind_ok (communicator_alone words) (λ x. Some (actions.Members x)) s e in
    made (Spells (codes "members" ∷ words)) (actions.Members b.0) s
    (asks_takes (λ (ws : List Word). Spells (codes "members" ∷ ws) (actions.Members b.0)) words b.0
    (λ a h. (a, refl, h)) b.1) b.2
by_takes verbs.Compare words s e =
    let b = bind_ok (two_communicators words) (λ x. Some (actions.Compare x.0 x.1)) s e in made
    (Spells (codes "compare" ∷ words)) (actions.Compare b.0.0 b.0.1) s (compare_takes words b.0 b.1) b.2

pub action_takes : (words : List Word) (s : Action) → action_of words ≡ Some s → Spells words s
unfolding action_of first
action_takes [] s e = absurd cc
action_takes (w ∷ ws) s e =
    let b = bind_ok (verb_of w) (λ v. action_by v ws) s e in
    subst (λ (x : Word). Spells (x ∷ ws) s) (sym (verb_takes w b.0 b.1)) (by_takes b.0 ws s b.2)

from_verb : (verb : Verb) (words : List Word) (s : Action) → action_by verb words ≡ Some s →
    action_of (verb_word verb ∷ words) ≡ Some s
unfolding action_of first
from_verb verb words s e = rw (verb_again verb) e

then_some : {A : Type 0} (read : Option A) (make : A → Action) (x : A) → read ≡ Some x →
    (read >>= λ y. Some (make y)) ≡ Some (make x)
then_some read make x e = rw e refl

pub action_again : (words : List Word) (s : Action) → Spells words s → action_of words ≡ Some s
action_again words (actions.Buffer x) h =
    ap action_of h.1 ∙
    from_verb verbs.Buffer h.0 (actions.Buffer x)
    (then_some (buffer_of h.0) (λ y. actions.Buffer y) x (buffer_again h.0 x h.2))
action_again words (actions.Layout x) h =
    ap action_of h.1 ∙
    from_verb verbs.Layout h.0 (actions.Layout x)
    (then_some (layout_of h.0) (λ y. actions.Layout y) x (layout_again h.0 x h.2))
action_again words (actions.Isend q x) h =
    ap action_of h.2 ∙
    from_verb verbs.Isend (h.0 ∷ h.1) (actions.Isend q x)
    (then_some (isend_of (h.0 ∷ h.1)) (λ y. actions.Isend y.0 y.1) (q, x)
    (isend_from h.0 h.1 q x (named_again h.0 q h.3) (sending_again h.1 x h.4)))
action_again words (actions.Issend q x) h =
    ap action_of h.2 ∙
    from_verb verbs.Issend (h.0 ∷ h.1) (actions.Issend q x)
    (then_some (isend_of (h.0 ∷ h.1)) (λ y. actions.Issend y.0 y.1) (q, x)
    (isend_from h.0 h.1 q x (named_again h.0 q h.3) (sending_again h.1 x h.4)))
action_again words (actions.Irecv q x) h =
    ap action_of h.2 ∙
    from_verb verbs.Irecv (h.0 ∷ h.1) (actions.Irecv q x)
    (then_some (irecv_of (h.0 ∷ h.1)) (λ y. actions.Irecv y.0 y.1) (q, x)
    (irecv_from h.0 h.1 q x (named_again h.0 q h.3) (receiving_again h.1 x h.4)))
action_again words (actions.Iprobe x) h =
    ap action_of h.1 ∙
    from_verb verbs.Iprobe h.0 (actions.Iprobe x)
    (then_some (probing_of h.0) (λ y. actions.Iprobe y) x (probing_again h.0 x h.2))
action_again words (actions.Improbe m x) h =
    ap action_of h.2 ∙
    from_verb verbs.Improbe (h.0 ∷ h.1) (actions.Improbe m x)
    (then_some (improbe_of (h.0 ∷ h.1)) (λ y. actions.Improbe y.0 y.1) (m, x)
    (improbe_from h.0 h.1 m x (named_again h.0 m h.3) (probing_again h.1 x h.4)))
action_again words (actions.Mrecv m x) h =
    ap action_of h.2 ∙
    from_verb verbs.Mrecv (h.0 ∷ h.1) (actions.Mrecv m x)
    (then_some (mrecv_of (h.0 ∷ h.1)) (λ y. actions.Mrecv y.0 y.1) (m, x)
    (mrecv_from h.0 h.1 m x (named_again h.0 m h.3) (landing_again h.1 x h.4)))
action_again words (actions.Wait x) h =
    ap action_of h.1 ∙
    from_verb verbs.Wait (h.0 ∷ []) (actions.Wait x)
    (then_some (one_of (h.0 ∷ [])) (λ y. actions.Wait y) x (one_from h.0 x (requested_again h.0 x h.2)))
action_again words (actions.Test x) h =
    ap action_of h.1 ∙
    from_verb verbs.Test (h.0 ∷ []) (actions.Test x)
    (then_some (one_of (h.0 ∷ [])) (λ y. actions.Test y) x (one_from h.0 x (requested_again h.0 x h.2)))
action_again words (actions.Cancel x) h =
    ap action_of h.1 ∙
    from_verb verbs.Cancel (h.0 ∷ []) (actions.Cancel x)
    (then_some (one_of (h.0 ∷ [])) (λ y. actions.Cancel y) x (one_from h.0 x (requested_again h.0 x h.2)))
action_again words (actions.Waitany x) h =
    ap action_of h.1 ∙
    from_verb verbs.Waitany h.0 (actions.Waitany x)
    (then_some (each one_request h.0) (λ y. actions.Waitany y) x (requests_again h.0 x h.2))
action_again words (actions.Waitall x) h =
    ap action_of h.1 ∙
    from_verb verbs.Waitall h.0 (actions.Waitall x)
    (then_some (each one_request h.0) (λ y. actions.Waitall y) x (requests_again h.0 x h.2))
action_again words (actions.Barrier c) h =
    ap action_of h.1 ∙
    from_verb verbs.Barrier (h.0 ∷ []) (actions.Barrier c)
    (then_some (communicator_alone (h.0 ∷ [])) (λ y. actions.Barrier y) c (asks_again h.0 c h.2))
action_again words (actions.Bcast x) h =
    ap action_of h.1 ∙
    from_verb verbs.Bcast h.0 (actions.Bcast x)
    (then_some (bcast_of h.0) (λ y. actions.Bcast y) x (bcast_again h.0 x h.2))
action_again words (actions.Gather x) h =
    ap action_of h.1 ∙
    from_verb verbs.Gather h.0 (actions.Gather x)
    (then_some (gather_of h.0) (λ y. actions.Gather y) x (gather_again h.0 x h.2))
action_again words (actions.Scatter x) h =
    ap action_of h.1 ∙
    from_verb verbs.Scatter h.0 (actions.Scatter x)
    (then_some (scatter_of h.0) (λ y. actions.Scatter y) x (scatter_again h.0 x h.2))
action_again words (actions.Reduce x) h =
    ap action_of h.1 ∙
    from_verb verbs.Reduce h.0 (actions.Reduce x)
    (then_some (reduce_of h.0) (λ y. actions.Reduce y) x (reduce_again h.0 x h.2))
action_again words (actions.Allreduce x) h =
    ap action_of h.1 ∙
    from_verb verbs.Allreduce h.0 (actions.Allreduce x)
    (then_some (allreduce_of h.0) (λ y. actions.Allreduce y) x (allreduce_again h.0 x h.2))
action_again words (actions.Dup new c) h =
    ap action_of h.2 ∙
    from_verb verbs.Dup (h.0 ∷ h.1 ∷ []) (actions.Dup new c)
    (then_some (dup_of (h.0 ∷ h.1 ∷ [])) (λ y. actions.Dup y.0 y.1) (new, c) (dup_again h.0 h.1 new c h.3 h.4))
action_again words (actions.Split new x) h =
    ap action_of h.2 ∙
    from_verb verbs.Split (h.0 ∷ h.1) (actions.Split new x)
    (then_some (split_of (h.0 ∷ h.1)) (λ y. actions.Split y.0 y.1) (new, x) (split_again h.0 h.1 new x h.3 h.4))
action_again words (actions.Who c) h =
    ap action_of h.1 ∙
    from_verb verbs.Who (h.0 ∷ []) (actions.Who c)
    (then_some (communicator_alone (h.0 ∷ [])) (λ y. actions.Who y) c (asks_again h.0 c h.2))
action_again words (actions.Members c) h =
    ap action_of h.1 ∙
    from_verb verbs.Members (h.0 ∷ []) (actions.Members c)
    (then_some (communicator_alone (h.0 ∷ [])) (λ y. actions.Members y) c (asks_again h.0 c h.2))
action_again words (actions.Compare one other) h =
    ap action_of h.2 ∙ from_verb verbs.Compare (h.0 ∷ h.1 ∷ []) (actions.Compare one other)
    (then_some (two_communicators (h.0 ∷ h.1 ∷ [])) (λ y. actions.Compare y.0 y.1) (one, other)
    (compare_again h.0 h.1 one other h.3 h.4))

-- what spells something begins with one of these words
pub begins : (words : List Word) (s : Action) → Spells words s → (P : Word → Type 0)
    → P (codes "buf") → P (codes "type") → P (codes "isend") → P (codes "irecv") → P (codes "wait")
    → P (codes "test") → P (codes "cancel") → P (codes "waitany") → P (codes "waitall") → P (codes "barrier")
    → P (codes "bcast") → P (codes "gather") → P (codes "scatter") → P (codes "reduce") → P (codes "allreduce")
    → P (codes "dup") → P (codes "split") → P (codes "who") → P (codes "members") → P (codes "compare")
    → P (codes "issend") → P (codes "iprobe") → P (codes "improbe") → P (codes "mrecv")
    → (word : Word) × (rest : List Word) × (words ≡ word ∷ rest) × P word
begins words (actions.Buffer x) h P of0 of1 of2 of3 of4 of5 of6 of7 of8 of9 of10 of11 of12 of13 of14 of15 of16 of17 of18
    of19 of20 of21 of22 of23 = (codes "buf", h.0, h.1, of0)
begins words (actions.Layout x) h P of0 of1 of2 of3 of4 of5 of6 of7 of8 of9 of10 of11 of12 of13 of14 of15 of16 of17 of18
    of19 of20 of21 of22 of23 = (codes "type", h.0, h.1, of1)
begins words (actions.Isend q x) h P of0 of1 of2 of3 of4 of5 of6 of7 of8 of9 of10 of11 of12 of13 of14 of15 of16 of17
    of18 of19 of20 of21 of22 of23 = (codes "isend", h.0 ∷ h.1, h.2, of2)
begins words (actions.Irecv q x) h P of0 of1 of2 of3 of4 of5 of6 of7 of8 of9 of10 of11 of12 of13 of14 of15 of16 of17
    of18 of19 of20 of21 of22 of23 = (codes "irecv", h.0 ∷ h.1, h.2, of3)
begins words (actions.Wait x) h P of0 of1 of2 of3 of4 of5 of6 of7 of8 of9 of10 of11 of12 of13 of14 of15 of16 of17 of18
    of19 of20 of21 of22 of23 = (codes "wait", h.0 ∷ [], h.1, of4)
begins words (actions.Test x) h P of0 of1 of2 of3 of4 of5 of6 of7 of8 of9 of10 of11 of12 of13 of14 of15 of16 of17 of18
    of19 of20 of21 of22 of23 = (codes "test", h.0 ∷ [], h.1, of5)
begins words (actions.Cancel x) h P of0 of1 of2 of3 of4 of5 of6 of7 of8 of9 of10 of11 of12 of13 of14 of15 of16 of17 of18
    of19 of20 of21 of22 of23 = (codes "cancel", h.0 ∷ [], h.1, of6)
begins words (actions.Waitany x) h P of0 of1 of2 of3 of4 of5 of6 of7 of8 of9 of10 of11 of12 of13 of14 of15 of16 of17
    of18 of19 of20 of21 of22 of23 = (codes "waitany", h.0, h.1, of7)
begins words (actions.Waitall x) h P of0 of1 of2 of3 of4 of5 of6 of7 of8 of9 of10 of11 of12 of13 of14 of15 of16 of17
    of18 of19 of20 of21 of22 of23 = (codes "waitall", h.0, h.1, of8)
begins words (actions.Barrier x) h P of0 of1 of2 of3 of4 of5 of6 of7 of8 of9 of10 of11 of12 of13 of14 of15 of16 of17
    of18 of19 of20 of21 of22 of23 = (codes "barrier", h.0 ∷ [], h.1, of9)
begins words (actions.Bcast x) h P of0 of1 of2 of3 of4 of5 of6 of7 of8 of9 of10 of11 of12 of13 of14 of15 of16 of17 of18
    of19 of20 of21 of22 of23 = (codes "bcast", h.0, h.1, of10)
begins words (actions.Gather x) h P of0 of1 of2 of3 of4 of5 of6 of7 of8 of9 of10 of11 of12 of13 of14 of15 of16 of17 of18
    of19 of20 of21 of22 of23 = (codes "gather", h.0, h.1, of11)
begins words (actions.Scatter x) h P of0 of1 of2 of3 of4 of5 of6 of7 of8 of9 of10 of11 of12 of13 of14 of15 of16 of17
    of18 of19 of20 of21 of22 of23 = (codes "scatter", h.0, h.1, of12)
begins words (actions.Reduce x) h P of0 of1 of2 of3 of4 of5 of6 of7 of8 of9 of10 of11 of12 of13 of14 of15 of16 of17 of18
    of19 of20 of21 of22 of23 = (codes "reduce", h.0, h.1, of13)
begins words (actions.Allreduce x) h P of0 of1 of2 of3 of4 of5 of6 of7 of8 of9 of10 of11 of12 of13 of14 of15 of16 of17
    of18 of19 of20 of21 of22 of23 = (codes "allreduce", h.0, h.1, of14)
begins words (actions.Dup q x) h P of0 of1 of2 of3 of4 of5 of6 of7 of8 of9 of10 of11 of12 of13 of14 of15 of16 of17 of18
    of19 of20 of21 of22 of23 = (codes "dup", h.0 ∷ h.1 ∷ [], h.2, of15)
begins words (actions.Split q x) h P of0 of1 of2 of3 of4 of5 of6 of7 of8 of9 of10 of11 of12 of13 of14 of15 of16 of17
    of18 of19 of20 of21 of22 of23 = (codes "split", h.0 ∷ h.1, h.2, of16)
begins words (actions.Who x) h P of0 of1 of2 of3 of4 of5 of6 of7 of8 of9 of10 of11 of12 of13 of14 of15 of16 of17 of18
    of19 of20 of21 of22 of23 = (codes "who", h.0 ∷ [], h.1, of17)
begins words (actions.Members x) h P of0 of1 of2 of3 of4 of5 of6 of7 of8 of9 of10 of11 of12 of13 of14 of15 of16 of17
    of18 of19 of20 of21 of22 of23 = (codes "members", h.0 ∷ [], h.1, of18)
begins words (actions.Compare x y) h P of0 of1 of2 of3 of4 of5 of6 of7 of8 of9 of10 of11 of12 of13 of14 of15 of16 of17
    of18 of19 of20 of21 of22 of23 = (codes "compare", h.0 ∷ h.1 ∷ [], h.2, of19)
begins words (actions.Issend q x) h P of0 of1 of2 of3 of4 of5 of6 of7 of8 of9 of10 of11 of12 of13 of14 of15 of16 of17
    of18 of19 of20 of21 of22 of23 = (codes "issend", h.0 ∷ h.1, h.2, of20)
begins words (actions.Iprobe x) h P of0 of1 of2 of3 of4 of5 of6 of7 of8 of9 of10 of11 of12 of13 of14 of15 of16 of17 of18
    of19 of20 of21 of22 of23 = (codes "iprobe", h.0, h.1, of21)
begins words (actions.Improbe m x) h P of0 of1 of2 of3 of4 of5 of6 of7 of8 of9 of10 of11 of12 of13 of14 of15 of16 of17
    of18 of19 of20 of21 of22 of23 = (codes "improbe", h.0 ∷ h.1, h.2, of22)
begins words (actions.Mrecv m x) h P of0 of1 of2 of3 of4 of5 of6 of7 of8 of9 of10 of11 of12 of13 of14 of15 of16 of17
    of18 of19 of20 of21 of22 of23 = (codes "mrecv", h.0 ∷ h.1, h.2, of23)
