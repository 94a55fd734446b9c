-- What statements ask of the machine.
use Rattle.std.proofs.Common.{◌≡◌, ℕ, Bool, true, false, List, [], ◌∷◌, Option, Some, None}
use Rattle.std.proofs.Common.{if◌then◌else◌, option_and_then}
use Rattle.std.proofs.Common.{option_map, refl, sym, ap, ◌∙◌, subst, true≢false}
use Rattle.datatypes.specs.Contents.{Contents}
use Rattle.perfect_queues.specs.Buffers.{Handed}
use Rattle.perfect_queues.specs.Completions.{AllOf, AnyOf, One}
use Rattle.perfect_groups.specs.Calls as machine
use Rattle.perfect_groups.specs.Collectives as collectives
use Rattle.observation.specs.CoreCalls.{own_serial, request_by, requests_by}
use Rattle.collective_messages.specs.declared.entry.Entry.{Entry}
use Rattle.collective_messages.specs.declared.entry.Entry.TheVariants as entries
use Rattle.communicators.specs.Members.{call_of}
use Rattle.engine_calls.specs.declared.call.Call.TheVariants as calls
use Rattle.requests.specs.Regions.{handed_by}
use Rattle.requests.specs.declared.region.Places.{Places}
use Rattle.requests.specs.declared.region.Places.TheVariants as places
use Rattle.requests.specs.declared.table.Request.{Request}
use Rattle.script_calls.specs.Entries.{elements_like, split_by}
use Rattle.script_calls.specs.declared.pending.NamedCommunicator.{NamedCommunicator}
use Rattle.script_calls.specs.declared.pending.NamedMessage.{NamedMessage}
use Rattle.script_calls.specs.declared.pending.NamedMessage.TheVariants as messages
use Rattle.script_calls.specs.declared.pending.NamedRequest.{NamedRequest}
use Rattle.script_calls.specs.declared.pending.Pending.{Pending}
use Rattle.script_calls.specs.declared.pending.Pending.TheVariants as pendings
use Rattle.statements.specs.declared.action.BufferLine.{BufferLine}
use Rattle.statements.specs.declared.action.CommunicatorName.{CommunicatorName}
use Rattle.statements.specs.declared.action.CommunicatorName.TheVariants as communicators
use Rattle.statements.specs.declared.action.Landing.{Landing}
use Rattle.statements.specs.declared.action.LayoutClause.{LayoutClause}
use Rattle.statements.specs.declared.action.Receiving.{Receiving}
use Rattle.statements.specs.declared.action.RequestName.{RequestName}
use Rattle.statements.specs.declared.action.RequestName.TheVariants as requested
use Rattle.statements.specs.declared.action.Sending.{Sending}
use Rattle.statements.specs.declared.collective_line.Scattering.{Scattering}
use Rattle.vocabulary.specs.declared.mode.Mode.{Mode}
use Rattle.vocabulary.specs.declared.mode.Mode.TheVariants as modes
use Rattle.interpreter.specs.StatementCalls as acting
use Rattle.interpreter.specs.NamesState.{NamesState, here, is_lent, is_root, message_at, place_named, with_buffer}
use Rattle.proof_interpreter.specs.StatementCalls.{BuffersAreSet, IsSet}
use Rattle.proof_interpreter.specs.StatementCalls.{AreRequests, AsksAlone, AsksWith, CollectivesAsk}
use Rattle.proof_interpreter.specs.StatementCalls.{CommunicatorsAsk, IsCountable}
use Rattle.proof_interpreter.specs.StatementCalls.{IsHanded, IsPlaceOf, IsRequest, LandingsAsk, LongWaitsAsk, ProbesAsk}
use Rattle.proof_interpreter.specs.StatementCalls.{ReceivesAsk, SendsAsk, StatementsAsk, WaitsAsk}
use Rattle.proof_interpreter.specs.Names.{Holds}
use Rattle.proof_interpreter.proofs.Frames.{all_stays, buffer_set, untouched}
use Rattle.proof_interpreter.proofs.Tables.{value_set}

-- ---- what names stand for

place_is : (s : NamesState) (c : CommunicatorName) (comm : Option ℕ) → IsPlaceOf s c comm → place_named s c ≡ Some comm
place_is s communicators.World comm h = ap (λ (c : Option ℕ). Some c) (sym h)
place_is s communicators.Own comm h = ap (λ (c : Option ℕ). Some c) (sym h)
place_is s (communicators.Named name) comm (held, e, h) =
    ap (option_map (λ (one : Option NamedCommunicator). option_map (λ (c : NamedCommunicator). c.place) one)) e ∙
    ap (λ (c : Option ℕ). Some c) (sym h)

here_is : (s : NamesState) (name : List ℕ) (v : Contents) → Holds s name v → here s name ≡ Some v
here_is s name v h = ap (option_and_then (λ (slot : Option Contents). slot)) h

-- the places that are handed in
pub record Handing (s : NamesState) (through : Option LayoutClause) (v : Contents) (handed : Handed) : Type 0 where
  pub named : Places
  pub named_is : acting.places_named s through ≡ Some named
  pub same : handed_by v named ≡ handed

handing : (s : NamesState) (through : Option LayoutClause) (v : Contents) (handed : Handed) →
    IsHanded s through v handed → Handing s through v handed
handing s None v handed h = record { named = places.All; named_is = refl; same = sym h }
handing s (Some through) v handed (layout, e, h) = record {
  named = places.Copies layout through.copies;
  named_is = ap (option_map (λ l. places.Copies l through.copies)) e;
  same = sym h;
}

-- ---- buffers

set_by : (s : NamesState) (line : BufferLine) (t : Bool) → t ≡ false →
    IsSet s line (if t then acting.faulty s else acting.changes (with_buffer s line.name (Some line.value)))
set_by s line true e = absurd (true≢false e)
set_by s line false e = record {
  asks = refl;
  holds = value_set s.buffers line.name (Some line.value);
  others = buffer_set s s None None None line.name (Some line.value) (untouched s None None None None);
  last = refl;
}

buffers : BuffersAreSet
buffers s line free = set_by s line (is_lent s line.name) free

-- ---- sends and receives

send_by : (s : NamesState) (mode : Mode) (pending : Pending) (x : Sending) (comm : Option ℕ) (named : Places)
    (v : Contents) (c : Option (Option ℕ)) (p : Option Places) (b : Option Contents) → c ≡ Some comm → p ≡ Some named →
    b ≡ Some v →
    AsksAlone s (acting.sends_from mode pending x c p b s) (machine.Isend mode comm x.target x.tag (handed_by v named))
send_by s mode pending x comm named v c p b ec ep eb =
    subst
    (λ (c : Option (Option ℕ)).
    AsksAlone s (acting.sends_from mode pending x c p b s) (machine.Isend mode comm x.target x.tag (handed_by v named)))
    (sym ec)
    (subst
    (λ (p : Option Places).
    AsksAlone s (acting.sends_from mode pending x (Some comm) p b s)
    (machine.Isend mode comm x.target x.tag (handed_by v named)))
    (sym ep)
    (subst
    (λ (b : Option Contents).
    AsksAlone s (acting.sends_from mode pending x (Some comm) (Some named) b s)
    (machine.Isend mode comm x.target x.tag (handed_by v named)))
    (sym eb)
    (refl, all_stays s)))

send_asks : (s : NamesState) (mode : Mode) (pending : Pending) (x : Sending) (comm : Option ℕ) (v : Contents)
    (handed : Handed) → IsPlaceOf s x.communicator comm → Holds s x.buffer v → IsHanded s x.through v handed →
    AsksAlone s (acting.sends mode pending x s) (machine.Isend mode comm x.target x.tag handed)
send_asks s mode pending x comm v handed at holds h =
    let g : Handing s x.through v handed = handing s x.through v handed h in
    subst
    (λ (given : Handed).
    AsksAlone s (acting.sends mode pending x s) (machine.Isend mode comm x.target x.tag given))
    g.same
    (send_by s mode pending x comm g.named v (place_named s x.communicator) (acting.places_named s x.through)
    (here s x.buffer) (place_is s x.communicator comm at) g.named_is (here_is s x.buffer v holds))

sends : SendsAsk
sends s name x comm v handed at holds h = (
  send_asks s modes.Standard (pendings.Starting name None) x comm v handed at holds h,
  send_asks s modes.Synchronous (pendings.Starting name None) x comm v handed at holds h,
  send_asks s modes.Standard (pendings.StartingToWait None) x comm v handed at holds h,
)

receive_by : (s : NamesState) (pending : Pending) (x : Receiving) (comm : Option ℕ) (named : Places)
    (v : Contents) (c : Option (Option ℕ)) (p : Option Places) (b : Option Contents) → c ≡ Some comm → p ≡ Some named →
    b ≡ Some v →
    AsksWith s x.buffer (acting.receives_into pending x c p b s)
    (machine.Irecv comm x.source x.tag (handed_by v named))
receive_by s pending x comm named v c p b ec ep eb =
    subst
    (λ (c : Option (Option ℕ)).
    AsksWith s x.buffer (acting.receives_into pending x c p b s)
    (machine.Irecv comm x.source x.tag (handed_by v named)))
    (sym ec)
    (subst
    (λ (p : Option Places).
    AsksWith s x.buffer (acting.receives_into pending x (Some comm) p b s)
    (machine.Irecv comm x.source x.tag (handed_by v named)))
    (sym ep)
    (subst
    (λ (b : Option Contents).
    AsksWith s x.buffer (acting.receives_into pending x (Some comm) (Some named) b s)
    (machine.Irecv comm x.source x.tag (handed_by v named)))
    (sym eb)
    (record {
      asks = refl;
      lent = value_set s.buffers x.buffer None;
      others = buffer_set s s None None None x.buffer None (untouched s None None None None);
      last = refl;
    })))

receive_asks : (s : NamesState) (pending : Pending) (x : Receiving) (comm : Option ℕ) (v : Contents)
    (handed : Handed) → IsPlaceOf s x.communicator comm → Holds s x.buffer v → IsHanded s x.through v handed →
    AsksWith s x.buffer (acting.receives pending x s) (machine.Irecv comm x.source x.tag handed)
receive_asks s pending x comm v handed at holds h =
    let g : Handing s x.through v handed = handing s x.through v handed h in
    subst
    (λ (given : Handed).
    AsksWith s x.buffer (acting.receives pending x s) (machine.Irecv comm x.source x.tag given))
    g.same
    (receive_by s pending x comm g.named v (place_named s x.communicator) (acting.places_named s x.through)
    (here s x.buffer) (place_is s x.communicator comm at) g.named_is (here_is s x.buffer v holds))

receives : ReceivesAsk
receives s name x comm v handed at holds h = (
  receive_asks s (pendings.Starting name (Some x.buffer)) x comm v handed at holds h,
  receive_asks s (pendings.StartingToWait (Some x.buffer)) x comm v handed at holds h,
)

-- ---- probes and messages

probes : ProbesAsk
probes s name x comm at = (
  subst
      (λ (c : Option (Option ℕ)). AsksAlone s (acting.looks x c s) (machine.Iprobe comm x.source x.tag))
      (sym (place_is s x.communicator comm at))
      (refl, all_stays s),
  subst
      (λ (c : Option (Option ℕ)). AsksAlone s (acting.searches name x c s) (machine.Improbe comm x.source x.tag))
      (sym (place_is s x.communicator comm at))
      (refl, all_stays s),
)

land_by : (s : NamesState) (name : List ℕ) (x : Landing) (q : Option Request) (named : Places) (v : Contents)
    (m : Option NamedMessage) (p : Option Places) → m ≡ Some (messages.TakenOut q) → p ≡ Some named →
    here s x.buffer ≡ Some v →
    AsksWith s x.buffer (acting.receives_by name x m p s) (machine.Mrecv (request_by own_serial q) (handed_by v named))
land_by s name x q named v m p em ep eb =
    subst
    (λ (m : Option NamedMessage).
    AsksWith s x.buffer (acting.receives_by name x m p s)
    (machine.Mrecv (request_by own_serial q) (handed_by v named)))
    (sym em)
    (subst
    (λ (p : Option Places).
    AsksWith s x.buffer (acting.receives_by name x (Some (messages.TakenOut q)) p s)
    (machine.Mrecv (request_by own_serial q) (handed_by v named)))
    (sym ep)
    (subst
    (λ (b : Option Contents).
    AsksWith s x.buffer (acting.receives_taken q named name x.buffer b s)
    (machine.Mrecv (request_by own_serial q) (handed_by v named)))
    (sym eb)
    (record {
      asks = refl;
      lent = value_set s.buffers x.buffer None;
      others = buffer_set s s None None None x.buffer None (untouched s None None None None);
      last = refl;
    })))

landings : LandingsAsk
landings s name x message v handed (q, e, k) holds h =
    let g : Handing s x.through v handed = handing s x.through v handed h in
    subst
    (λ (serial : Option ℕ). AsksWith s x.buffer (acting.receives_message name x s) (machine.Mrecv serial handed))
    (sym k)
    (subst
    (λ (given : Handed).
    AsksWith s x.buffer (acting.receives_message name x s) (machine.Mrecv (request_by own_serial q) given))
    g.same
    (land_by s name x q g.named v (message_at s name) (acting.places_named s x.through) e g.named_is
    (here_is s x.buffer v holds)))

-- ---- requests

pub record Naming (s : NamesState) (r : RequestName) (serial : Option ℕ) : Type 0 where
  pub request : Option Request
  pub named_is : acting.request_named s r ≡ Some request
  pub same : request_by own_serial request ≡ serial

naming : (s : NamesState) (r : RequestName) (serial : Option ℕ) → IsRequest s r serial → Naming s r serial
naming s requested.Null serial h = record { request = None; named_is = refl; same = sym h }
naming s (requested.Named name) serial (held, e, h) = record {
  request = held.request;
  named_is = ap (option_map (λ (n : NamedRequest). n.request)) e;
  same = sym h;
}

waits : WaitsAsk
waits s r serial h =
    let n : Naming s r serial = naming s r serial h in (
      subst
          (λ (k : Option ℕ). AsksAlone s (acting.waits_for r (acting.request_named s r) s) (machine.Wait (One k)))
          n.same
          (subst
          (λ (q : Option (Option Request)).
          AsksAlone s (acting.waits_for r q s) (machine.Wait (One (request_by own_serial n.request))))
          (sym n.named_is)
          (refl, all_stays s)),
      subst (λ (k : Option ℕ). AsksAlone s (acting.tests_for r (acting.request_named s r) s) (machine.Test k)) n.same
          (subst
          (λ (q : Option (Option Request)).
          AsksAlone s (acting.tests_for r q s) (machine.Test (request_by own_serial n.request)))
          (sym n.named_is)
          (refl, all_stays s)),
      subst (λ (k : Option ℕ). AsksAlone s (acting.cancels_for (acting.request_named s r) s) (machine.Cancel k)) n.same
          (subst
          (λ (q : Option (Option Request)).
          AsksAlone s (acting.cancels_for q s) (machine.Cancel (request_by own_serial n.request)))
          (sym n.named_is)
          (refl, all_stays s)),
    )

pub record Listing (s : NamesState) (rs : List RequestName) (serials : List (Option ℕ)) : Type 0 where
  pub requests : List (Option Request)
  pub named_are : acting.requests_named s rs ≡ Some requests
  pub same : requests_by own_serial requests ≡ serials

listed : (s : NamesState) (rs : List RequestName) (serials : List (Option ℕ)) → AreRequests s rs serials →
    Listing s rs serials
listed s [] [] h = record { requests = []; named_are = refl; same = refl }
listed s [] (k ∷ ks) h = elim h [ ]
listed s (r ∷ rs) [] h = elim h [ ]
listed s (r ∷ rs) (k ∷ ks) (h, hs) =
    let n : Naming s r k = naming s r k h in
    let l : Listing s rs ks = listed s rs ks hs in
    record {
      requests = n.request ∷ l.requests;
      named_are =
          λ i.
          option_and_then
          (λ (q : Option Request). option_map (λ (rest : List (Option Request)). q ∷ rest) (l.named_are i))
          (n.named_is i);
      same = λ i. n.same i ∷ l.same i;
    }

long_waits : LongWaitsAsk
long_waits s rs serials h =
    let l : Listing s rs serials = listed s rs serials h in (
      subst
          (λ (ks : List (Option ℕ)).
          AsksAlone s (acting.waits_for_several calls.Waitany rs (acting.requests_named s rs) s)
          (machine.Wait (AnyOf ks)))
          l.same
          (subst
          (λ (qs : Option (List (Option Request))).
          AsksAlone s (acting.waits_for_several calls.Waitany rs qs s)
          (machine.Wait (AnyOf (requests_by own_serial l.requests))))
          (sym l.named_are)
          (refl, all_stays s)),
      subst
          (λ (ks : List (Option ℕ)).
          AsksAlone s (acting.waits_for_several calls.Waitall rs (acting.requests_named s rs) s)
          (machine.Wait (AllOf ks)))
          l.same
          (subst
          (λ (qs : Option (List (Option Request))).
          AsksAlone s (acting.waits_for_several calls.Waitall rs qs s)
          (machine.Wait (AllOf (requests_by own_serial l.requests))))
          (sym l.named_are)
          (refl, all_stays s)),
    )

-- ---- collectives

block_by : (s : NamesState) (comm : Option ℕ) (name : Option (List ℕ)) (v : Contents) (entry : Contents → Entry)
    (c : Option (Option ℕ)) (lent : Bool) (b : Option Contents) → c ≡ Some comm → lent ≡ false → b ≡ Some v →
    IsCountable v →
    AsksAlone s (acting.hands_in c lent name b entry s) (machine.Enter comm (call_of (entry v)))
block_by s comm name v entry c lent b ec el eb few =
    subst
    (λ (c : Option (Option ℕ)).
    AsksAlone s (acting.hands_in c lent name b entry s) (machine.Enter comm (call_of (entry v))))
    (sym ec)
    (subst
    (λ (t : Bool).
    AsksAlone s (acting.hands_in (Some comm) t name b entry s) (machine.Enter comm (call_of (entry v))))
    (sym el)
    (subst
    (λ (b : Option Contents).
    AsksAlone s (acting.hands_in (Some comm) false name b entry s) (machine.Enter comm (call_of (entry v))))
    (sym eb)
    (subst
    (λ (t : Bool).
    AsksAlone s (acting.hands_in_to comm name (if t then Some (entry v) else None) s)
    (machine.Enter comm (call_of (entry v))))
    (sym few)
    (refl, all_stays s))))

not_lent : (s : NamesState) (root : Bool) (name : List ℕ) → is_lent s name ≡ false →
    acting.is_lent_at_root s root name ≡ false
not_lent s true name e = e
not_lent s false name e = refl

scatter_by : (s : NamesState) (x : Scattering) (comm : Option ℕ) (into : Contents) (all : Option Contents)
    (c : Option (Option ℕ)) (b : Option Contents) (blocks : Option (Option Contents)) → c ≡ Some comm → b ≡ Some into →
    blocks ≡ Some all →
    AsksAlone s (acting.scatters_from x c b blocks s)
    (machine.Enter comm (collectives.Scatter x.root all into.basic (elements_like into).count))
scatter_by s x comm into all c b blocks ec eb es =
    subst
    (λ (c : Option (Option ℕ)).
    AsksAlone s (acting.scatters_from x c b blocks s)
    (machine.Enter comm (collectives.Scatter x.root all into.basic (elements_like into).count)))
    (sym ec)
    (subst
    (λ (b : Option Contents).
    AsksAlone s (acting.scatters_from x (Some comm) b blocks s)
    (machine.Enter comm (collectives.Scatter x.root all into.basic (elements_like into).count)))
    (sym eb)
    (subst
    (λ (blocks : Option (Option Contents)).
    AsksAlone s (acting.scatters_from x (Some comm) (Some into) blocks s)
    (machine.Enter comm (collectives.Scatter x.root all into.basic (elements_like into).count)))
    (sym es)
    (refl, all_stays s)))

in_collectives : CollectivesAsk
in_collectives = record {
  barrier =
      λ s c comm at.
      subst (λ (p : Option (Option ℕ)). AsksAlone s (acting.waits_for_all p s) (machine.Enter comm collectives.Barrier))
      (sym (place_is s c comm at))
      (refl, all_stays s);
  bcast =
      λ s x comm block at holds few.
      block_by s comm (Some x.buffer) block (λ (b : Contents). entries.Bcast x.root b) (place_named s x.communicator)
      false (here s x.buffer) (place_is s x.communicator comm at) refl (here_is s x.buffer block holds) few;
  gather =
      λ s x comm block at holds few free.
      block_by s comm (Some x.into) block (λ (b : Contents). entries.Gather x.root b) (place_named s x.communicator)
      (acting.is_lent_at_root s (is_root s x.communicator x.root) x.into) (here s x.buffer)
      (place_is s x.communicator comm at) (not_lent s (is_root s x.communicator x.root) x.into free)
      (here_is s x.buffer block holds) few;
  reduce =
      λ s x comm block at holds few free.
      block_by s comm (Some x.into) block (λ (b : Contents). entries.Reduce x.operation x.root b)
      (place_named s x.communicator) (acting.is_lent_at_root s (is_root s x.communicator x.root) x.into)
      (here s x.buffer) (place_is s x.communicator comm at)
      (not_lent s (is_root s x.communicator x.root) x.into free)
      (here_is s x.buffer block holds) few;
  allreduce =
      λ s x comm block at holds few free.
      block_by s comm (Some x.into) block (λ (b : Contents). entries.Allreduce x.operation b)
      (place_named s x.communicator) (is_lent s x.into) (here s x.buffer) (place_is s x.communicator comm at) free
      (here_is s x.buffer block holds) few;
  scatter_at_root =
      λ s x comm name all into at holds root named all_is.
      scatter_by s x comm into (Some all) (place_named s x.communicator) (here s x.into)
      (acting.blocks_named s (is_root s x.communicator x.root) x.buffer) (place_is s x.communicator comm at)
      (here_is s x.into into holds)
      ((λ i. acting.blocks_named s (root i) (named i)) ∙
      ap (option_map (λ (blocks : Contents). Some blocks)) (here_is s name all all_is));
  scatter_elsewhere =
      λ s x comm into at holds root.
      scatter_by s x comm into None (place_named s x.communicator) (here s x.into)
      (acting.blocks_named s (is_root s x.communicator x.root) x.buffer) (place_is s x.communicator comm at)
      (here_is s x.into into holds)
      (ap (λ (t : Bool). acting.blocks_named s t x.buffer) root);
}

of_communicators : CommunicatorsAsk
of_communicators = record {
  dup =
      λ s name c comm at.
      subst
      (λ (p : Option (Option ℕ)).
      AsksAlone s (acting.makes name p entries.Dup s) (machine.Enter comm collectives.CommDup))
      (sym (place_is s c comm at))
      (refl, all_stays s);
  split =
      λ s name x comm at.
      subst
      (λ (p : Option (Option ℕ)).
      AsksAlone s (acting.makes name p (split_by x) s) (machine.Enter comm (collectives.CommSplit x.colour x.key)))
      (sym (place_is s x.communicator comm at))
      (refl, all_stays s);
  who =
      λ s c comm at.
      subst (λ (p : Option (Option ℕ)). AsksAlone s (acting.asks_rank p s) (machine.Inquire comm machine.RankIn))
      (sym (place_is s c comm at))
      (refl, all_stays s);
  members =
      λ s c comm at.
      subst (λ (p : Option (Option ℕ)). AsksAlone s (acting.asks_group p s) (machine.Inquire comm machine.GroupIs))
      (sym (place_is s c comm at))
      (refl, all_stays s);
  compare =
      λ s c d comm other at there.
      subst
      (λ (p : Option (Option ℕ)).
      AsksAlone s (acting.compares p (place_named s d) s) (machine.Inquire comm (machine.ComparedWith other)))
      (sym (place_is s c comm at))
      (subst
      (λ (p : Option (Option ℕ)).
      AsksAlone s (acting.compares (Some comm) p s) (machine.Inquire comm (machine.ComparedWith other)))
      (sym (place_is s d other there))
      (refl, all_stays s));
}

pub statements_ask : StatementsAsk
statements_ask = record {
  buffers = buffers;
  sends = sends;
  receives = receives;
  probes = probes;
  landings = landings;
  waits = waits;
  long_waits = long_waits;
  collectives = in_collectives;
  communicators = of_communicators;
}
