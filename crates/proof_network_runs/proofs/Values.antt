-- What a network stands for is the same by all values that say what was sent.
use Rattle.std.proofs.Common.{◌≡◌, ℕ, zero, suc, ◌<◌, Bool, true, false, List, [], ◌∷◌, ◌++◌, length, map, drop, Option}
use Rattle.std.proofs.Common.{Some, None, if◌then◌else◌, ◌==◌, nat_lt, slice_get, get_or, refl, sym, ap, ap₂, ◌∙◌}
use Rattle.std.proofs.Common.{arith}
use Rattle.std.specs.Prelude.{filter, filter_map}
use Rattle.std.specs.List.{AllByRecursion, cons_option}
use Rattle.std.proofs.lemmas.Bool.{lt-ltb, ltb-true}
use mathlib.Core.Path.{fun_ext}
use Rattle.perfect_groups.specs.Machine.{Machine}
use Rattle.perfect_queues.specs.Messages.{Message}
use Rattle.perfect_queues.specs.Requests.{Matched, Request, TakenOut}
use Rattle.perfect_queues.specs.State.{Local}
use Rattle.proof_group_network.specs.Network.{GroupNetwork, groups_in}
use Rattle.proof_pure_network.proofs.HonestValues.{IsHonest, IsHonestHeld, IsHonestJob}
use Rattle.proof_pure_network.proofs.Invariants.{Extends, Sane}
use Rattle.proof_pure_network.specs.Core.{is_of}
use Rattle.proof_pure_network.specs.Frames.{Cts, Data, Eager, Frame, Rts, Values, message}
use Rattle.proof_pure_network.specs.WaitingMessages.{
  Body,
  Held,
  Own,
  Part,
  Whole,
  body_request,
  body_values,
  count_of,
  fill,
}
use Rattle.proof_pure_network.specs.Jobs.{Closed, Collecting, Job, Offering, Over, Probed, Unmatched, Waiting}
use Rattle.proof_pure_network.specs.Jobs.{request_of}
use Rattle.proof_pure_network.specs.Links.{in_flight}
use Rattle.proof_pure_network.specs.Network.{Network}
use Rattle.vocabulary.specs.declared.basic_type.BasicType.{BasicType}
use Rattle.vocabulary.specs.declared.endpoint.Endpoint.{Endpoint}
use Rattle.proof_network_runs.specs.Runs.{local_by, machine_by, under_way}

-- ---- WHAT WAS SENT

-- the values that were sent, and these where nothing was
abbrev filled : Network → List ℕ → Values
filled w xs s k = if nat_lt k (length (w.log s)) then get_or (w.log s) k [] else xs

filled_extends : (w : Network) (xs : List ℕ) → Extends (filled w xs) w
filled_extends w xs s k lt = ap (λ (t : Bool). if t then get_or (w.log s) k [] else xs) (lt-ltb k (length (w.log s)) lt)

-- whatever has a count that is right by all values that say what was sent was sent
known_value : (w : Network) (s : Endpoint) (k count : ℕ) (V V' : Values) → Extends V w → Extends V' w →
    ((U : Values) → Extends U w → count ≡ length (U s k)) → V s k ≡ V' s k
known_value w s k count V V' x x' counted = go (nat_lt k (length (w.log s))) refl
  where
    missing : (xs : List ℕ) → nat_lt k (length (w.log s)) ≡ false → count ≡ length xs
    missing xs h = counted (filled w xs) (filled_extends w xs) ∙
        ap (λ (t : Bool). length (if t then get_or (w.log s) k [] else xs)) h

    go : (t : Bool) → nat_lt k (length (w.log s)) ≡ t → V s k ≡ V' s k
    go true h = let lt : k < length (w.log s) = ltb-true k (length (w.log s)) h in x s k lt ∙ sym (x' s k lt)
    go false h =
        let none : count ≡ 0 = missing [] h in
        let one : count ≡ 1 = missing (0 ∷ []) h in
        absurd (omega (arith, none, one))

-- ---- MESSAGES THAT CAME

same_body : (w : Network) (s : Endpoint) (b : Body) (V V' : Values) → Extends V w → Extends V' w →
    ((U : Values) → Extends U w → count_of b ≡ length (body_values U s b)) → body_values V s b ≡ body_values V' s b
same_body w s (Whole values) V V' x x' counted = refl
same_body w s (Part k count) V V' x x' counted = known_value w s k count V V' x x' counted
same_body w s (Own k values) V V' x x' counted = refl

-- the message of a held one that has these values
abbrev with_values : Held → List ℕ → Message
with_values h values =
    record {
      sender = h.sender;
      context = h.context;
      tag = h.tag;
      basic = h.basic;
      values = values;
      request =
          body_request h.body;
    }

same_fill : (w : Network) (h : Held) (V V' : Values) → Extends V w → Extends V' w →
    ((U : Values) → Extends U w → IsHonestHeld U h) → fill V h ≡ fill V' h
same_fill w h V V' x x' honest = ap (with_values h) (same_body w h.sender h.body V V' x x' honest)

same_held : (w : Network) (hs : List Held) (V V' : Values) → Extends V w → Extends V' w →
    ((U : Values) → Extends U w → AllByRecursion (IsHonestHeld U) hs) → map (fill V) hs ≡ map (fill V') hs
same_held w [] V V' x x' honest = refl
same_held w (h ∷ hs) V V' x x' honest =
    ap₂ (λ (m : Message) (ms : List Message). m ∷ ms) (same_fill w h V V' x x' (λ U y. (honest U y).0))
    (same_held w hs V V' x x' (λ U y. (honest U y).1))

-- ---- REQUESTS

-- the message that a request has, if it has one, has a right count
abbrev IsCountedIn : Values → Job → Type 0
IsCountedIn U (Waiting p) = Unit {0}
IsCountedIn U (Collecting p h got) = IsHonestHeld U h
IsCountedIn U (Offering d basic values) = Unit {0}
IsCountedIn U (Over o) = Unit {0}
IsCountedIn U Closed = Unit {0}
IsCountedIn U (Unmatched d) = Unit {0}
IsCountedIn U (Probed g None) = Unit {0}
IsCountedIn U (Probed g (Some h)) = IsHonestHeld U h

counted_in : (U : Values) (e : Endpoint) (k : ℕ) (j : Job) → IsHonestJob U e k j → IsCountedIn U j
counted_in U e k (Waiting p) honest = tt
counted_in U e k (Collecting p h got) honest = honest.0
counted_in U e k (Offering d basic values) honest = tt
counted_in U e k (Over o) honest = tt
counted_in U e k Closed honest = tt
counted_in U e k (Unmatched d) honest = tt
counted_in U e k (Probed g None) honest = tt
counted_in U e k (Probed g (Some h)) honest = honest

same_job : (w : Network) (j : Job) (V V' : Values) → Extends V w → Extends V' w →
    ((U : Values) → Extends U w → IsCountedIn U j) → request_of V j ≡ request_of V' j
same_job w (Waiting p) V V' x x' counted = refl
same_job w (Collecting p h got) V V' x x' counted = ap (λ (m : Message). Matched p m) (same_fill w h V V' x x' counted)
same_job w (Offering d basic values) V V' x x' counted = refl
same_job w (Over o) V V' x x' counted = refl
same_job w Closed V V' x x' counted = refl
same_job w (Unmatched d) V V' x x' counted = refl
same_job w (Probed g None) V V' x x' counted = refl
same_job w (Probed g (Some h)) V V' x x' counted =
    ap (λ (m : Message). TakenOut g (Some m)) (same_fill w h V V' x x' counted)

same_jobs : (w : Network) (js : List Job) (V V' : Values) → Extends V w → Extends V' w →
    ((U : Values) → Extends U w → (k : ℕ) (j : Job) → slice_get js k ≡ Some j → IsCountedIn U j) →
    map (request_of V) js ≡ map (request_of V') js
same_jobs w [] V V' x x' counted = refl
same_jobs w (j ∷ js) V V' x x' counted =
    ap₂ (λ (r : Request) (rs : List Request). r ∷ rs) (same_job w j V V' x x' (λ U y. counted U y 0 j refl))
    (same_jobs w js V V' x x' (λ U y k i is. counted U y (suc k) i is))

-- ---- MESSAGES UNDER WAY

-- the message of a frame that is the envelope of a large one, if it holds these values
abbrev announced : Endpoint → (context tag : ℕ) → BasicType → (request : ℕ) → List ℕ → Message
announced s c tag basic k values =
    record { sender = s; context = c; tag = tag; basic = basic; values = values; request = Some k }

same_message : (w : Network) (s : Endpoint) (f : Frame) (V V' : Values) → Extends V w → Extends V' w →
    ((U : Values) → Extends U w → IsHonest U s f) → message V s f ≡ message V' s f
same_message w s (Eager c tag basic values) V V' x x' honest = refl
same_message w s (Rts c tag basic k count) V V' x x' honest =
    ap (λ (values : List ℕ). Some (announced s c tag basic k values)) (known_value w s k count V V' x x' honest)
same_message w s (Cts k wanted) V V' x x' honest = refl
same_message w s (Data k offset values) V V' x x' honest = refl

same_messages : (w : Network) (s : Endpoint) (fs : List Frame) (V V' : Values) → Extends V w → Extends V' w →
    ((U : Values) → Extends U w → AllByRecursion (IsHonest U s) fs) →
    filter_map (message V s) fs ≡ filter_map (message V' s) fs
same_messages w s [] V V' x x' honest = refl
same_messages w s (f ∷ fs) V V' x x' honest =
    ap₂ (λ (o : Option Message) (ms : List Message). cons_option o ms)
    (same_message w s f V V' x x' (λ U y. (honest U y).0)) (same_messages w s fs V V' x x' (λ U y. (honest U y).1))

all_dropped : {A : Type 0} (P : A → Type 0) (n : ℕ) (xs : List A) → AllByRecursion P xs → AllByRecursion P (drop n xs)
all_dropped P zero xs all = all
all_dropped P (suc n) [] all = tt
all_dropped P (suc n) (x ∷ xs) all = all_dropped P n xs all.1

-- ---- THE WHOLE

-- a network that is sane by all values that say what was sent
abbrev pub IsSaneByAll : Network → Type 0
IsSaneByAll w = (U : Values) → Extends U w → Sane U w

same_under_way : (w : Network) (V V' : Values) → Extends V w → Extends V' w → IsSaneByAll w → (y s : Endpoint) (c : ℕ) →
    under_way V w y s c ≡ under_way V' w y s c
same_under_way w V V' x x' sane y s c =
    ap (λ (ms : List Message). if nat_lt s.incarnation ((w.core y).known s.rank) then
    [] else filter (λ m. c == m.context) ms)
    (same_messages w s (in_flight (w.link s y)) V V' x x'
    (λ U u. all_dropped (IsHonest U s) (w.link s y).handed (w.link s y).accepted ((sane U u).frames s y)))

same_queue : (w : Network) (V V' : Values) → Extends V w → Extends V' w → IsSaneByAll w → (y s : Endpoint) (c : ℕ) →
    (local_by V w y).queue s c ≡ (local_by V' w y).queue s c
same_queue w V V' x x' sane y s c =
    ap₂ (λ (ms ns : List Message). filter (is_of s c) ms ++ ns)
    (same_held w (w.core y).held V V' x x' (λ U u. ((sane U u).cores y).held))
    (same_under_way w V V' x x' sane y s c)

same_requests : (w : Network) (V V' : Values) → Extends V w → Extends V' w → IsSaneByAll w → (y : Endpoint) →
    (local_by V w y).requests ≡ (local_by V' w y).requests
same_requests w V V' x x' sane y =
    same_jobs w (w.core y).jobs V V' x x' (λ U u k j is. counted_in U y k j (((sane U u).cores y).jobs k j is))

same_local : (w : Network) (V V' : Values) → Extends V w → Extends V' w → IsSaneByAll w →
    (y : Endpoint) → local_by V w y ≡ local_by V' w y
same_local w V V' x x' sane y =
    let queues : (local_by V w y).queue ≡ (local_by V' w y).queue = fun_ext (λ s. fun_ext (λ c. same_queue w V V' x x' sane y s c)) in
    λ t. record {
      requests = same_requests w V V' x x' sane y t;
      blocked = (w.core y).blocked;
      known =
          (w.core y).known;
      message_limit = (w.core y).message_limit;
      queue = queues t;
    }

-- a network stands for one state of the machine by all such values
pub same_machine : (w : GroupNetwork) (V V' : Values) → Extends V w.net → Extends V' w.net → IsSaneByAll w.net →
    machine_by V w ≡ machine_by V' w
same_machine w V V' x x' sane =
    let locals : local_by V w.net ≡ local_by V' w.net = fun_ext (λ y. same_local w.net V V' x x' sane y) in
    ap (λ (at : Endpoint → Local). machine_with w at) locals
  where
    machine_with : (w : GroupNetwork) → (Endpoint → Local) → Machine
    machine_with w at = record { queues = record { at = at; current = w.net.current }; groups = groups_in w }
