-- Tables of names whose values are changed one by one.
use Rattle.std.proofs.Common.{◌≡◌, ℕ, zero, suc, ◌+◌, cond, not, List, [], ◌∷◌, ◌++◌, length, map, nat_lt, Option, Some}
use Rattle.std.proofs.Common.{None, slice_get, slice_set, option_and_then, option_map, refl, sym, ap, ap₂, ◌∙◌}
use Rattle.std.specs.List.{position_or_len}
use Rattle.std.specs.Str.{bytes_eq}
use Rattle.std.proofs.lemmas.Option.{slice_get-map}
use Rattle.interpreter.specs.Answers.{held_buffer}
use Rattle.interpreter.specs.NamesState.{NamesState, message_at, request_at, with_message, with_request}
use Rattle.script_calls.specs.Tables.{Entry, place_of, value_at, value_there, with_value, with_value_there}
use Rattle.requests.specs.declared.table.Request.{Request}
use Rattle.script_calls.specs.declared.pending.NamedRequest.{NamedRequest}
use Rattle.script_calls.specs.declared.pending.NamedMessage.{NamedMessage}
use Rattle.proof_script_processes.specs.RequestChanges.{changed_entry, changed_held, changed_message, changed_names}

length_same : {V : Type 0} → (f : V → V) → (t : List (Entry V)) → length (map (changed_entry f) t) ≡ length t
length_same f [] = refl
length_same f (e ∷ t) = ap suc (length_same f t)

len_same :
    {V : Type 0} → (f : V → V) → (name : List ℕ) → (t : List (Entry V)) →
    position_or_len (λ (e : Entry V). bytes_eq name e.name) (map (changed_entry f) t) ≡
    position_or_len (λ (e : Entry V). bytes_eq name e.name) t
len_same f name [] = refl
len_same f name (e ∷ t) = ap (λ (i : ℕ). cond (not (bytes_eq name e.name)) (1 + i) 0) (len_same f name t)

place_same : {V : Type 0} → (f : V → V) → (t : List (Entry V)) →
    (name : List ℕ) → place_of (map (changed_entry f) t) name ≡ place_of t name
place_same f t name = ap₂ (λ (i n : ℕ). cond (nat_lt i n) (Some i) None) (len_same f name t) (length_same f t)

value_of_same :
    {V : Type 0} → (f : V → V) → (o : Option (Entry V)) →
    option_map (λ (e : Entry V). e.value) (option_map (changed_entry f) o) ≡
    option_map f (option_map (λ (e : Entry V). e.value) o)
value_of_same f None = refl
value_of_same f (Some e) = refl

there_same : {V : Type 0} → (f : V → V) → (t : List (Entry V)) →
    (o : Option ℕ) → value_there (map (changed_entry f) t) o ≡ option_map f (value_there t o)
there_same f t None = refl
there_same {V = V} f t (Some k) = ap (option_map (λ (e : Entry V). e.value)) (slice_get-map (changed_entry f) t k) ∙
    value_of_same f (slice_get t k)

pub value_same : {V : Type 0} → (f : V → V) → (t : List (Entry V)) →
    (name : List ℕ) → value_at (map (changed_entry f) t) name ≡ option_map f (value_at t name)
value_same f t name = ap (value_there (map (changed_entry f) t)) (place_same f t name) ∙
    there_same f t (place_of t name)

map_append : {V : Type 0} → (f : V → V) → (t u : List (Entry V)) → map (changed_entry f) (t ++ u) ≡
    map (changed_entry f) t ++ map (changed_entry f) u
map_append f [] u = refl
map_append {V = V} f (e ∷ t) u = ap (λ (es : List (Entry V)). changed_entry f e ∷ es) (map_append f t u)

map_set :
    {V : Type 0} → (f : V → V) → (t : List (Entry V)) → (k : ℕ) → (e : Entry V) →
    map (changed_entry f) (slice_set t k e) ≡ slice_set (map (changed_entry f) t) k (changed_entry f e)
map_set f [] k e = refl
map_set f (x ∷ t) zero e = refl
map_set {V = V} f (x ∷ t) (suc k) e = ap (λ (es : List (Entry V)). changed_entry f x ∷ es) (map_set f t k e)

with_there_same :
    {V : Type 0} → (f : V → V) → (t : List (Entry V)) → (name : List ℕ) → (v : V) → (o : Option ℕ) →
    with_value_there (map (changed_entry f) t) name (f v) o ≡ map (changed_entry f) (with_value_there t name v o)
with_there_same f t name v None = sym (map_append f t (record { name = name; value = v } ∷ []))
with_there_same f t name v (Some k) = sym (map_set f t k (record { name = name; value = v }))

with_same :
    {V : Type 0} → (f : V → V) → (t : List (Entry V)) → (name : List ℕ) → (v : V) →
    with_value (map (changed_entry f) t) name (f v) ≡ map (changed_entry f) (with_value t name v)
with_same f t name v = ap (with_value_there (map (changed_entry f) t) name (f v)) (place_same f t name) ∙
    with_there_same f t name v (place_of t name)

-- NAMES

pub request_same : (change : Request → Request) (s : NamesState) (name : List ℕ) →
    request_at (changed_names change s) name ≡ option_map (option_map change) (request_at s name)
request_same change s name =
    ap (option_map (λ (h : NamedRequest). h.request)) (value_same (changed_held change) s.requests name) ∙
    twice (value_at s.requests name)
  where
    twice : (o : Option NamedRequest) →
        option_map (λ (h : NamedRequest). h.request) (option_map (changed_held change) o) ≡
        option_map (option_map change) (option_map (λ (h : NamedRequest). h.request) o)
    twice None = refl
    twice (Some h) = refl

pub message_same : (change : Request → Request) (s : NamesState) (name : List ℕ) →
    message_at (changed_names change s) name ≡ option_map (changed_message change) (message_at s name)
message_same change s name = value_same (changed_message change) s.messages name

pub with_request_same : (change : Request → Request) (s : NamesState) (name : List ℕ) (h : NamedRequest) →
    with_request (changed_names change s) name (changed_held change h) ≡ changed_names change (with_request s name h)
with_request_same change s name h =
    ap (λ (rs : List (Entry NamedRequest)). record (changed_names change s) { requests = rs })
    (with_same (changed_held change) s.requests name h)

pub with_message_same : (change : Request → Request) (s : NamesState) (name : List ℕ) (m : NamedMessage) →
    with_message (changed_names change s) name (changed_message change m) ≡ changed_names change (with_message s name m)
with_message_same change s name m =
    ap (λ (ms : List (Entry NamedMessage)). record (changed_names change s) { messages = ms })
    (with_same (changed_message change) s.messages name m)

pub buffer_same : (change : Request → Request) (s : NamesState) (name : List ℕ) →
    held_buffer (changed_names change s) name ≡ held_buffer s name
buffer_same change s name =
    ap (option_and_then (λ (h : NamedRequest). h.buffer)) (value_same (changed_held change) s.requests name) ∙
    twice (value_at s.requests name)
  where
    twice : (o : Option NamedRequest) →
        option_and_then (λ (h : NamedRequest). h.buffer) (option_map (changed_held change) o) ≡
        option_and_then (λ (h : NamedRequest). h.buffer) o
    twice None = refl
    twice (Some h) = refl
