-- Requests that are named by unanswered rows, and what leaves them so.
use Rattle.std.proofs.Common.{◌≡◌, ◌≢◌, ℕ, List, [], ◌∷◌, map, Option, Some, None, slice_get, slice_set, option_map}
use Rattle.std.proofs.Common.{sym, ap, ◌∙◌, ◌⊎◌, inl, inr}
use Rattle.std.specs.List.{AllByRecursion}
use Rattle.std.proofs.lemmas.Bool.{cases_eq}
use Rattle.std.proofs.lemmas.List.Elements.{All-from_recursion, recursion_from_All}
use Rattle.std.proofs.lemmas.Option.{same_Some, slice_get-map}
use Rattle.perfect_queues.proofs.ListLemmas.{get_set_other}
use Rattle.perfect_queues.specs.Completions as machine
use Rattle.proof_pure_network.proofs.JobLemmas.{get_set_same}
use Rattle.proof_pure_network.specs.Jobs.{Job, Closed}
use Rattle.requests.specs.Completions.{awaited_requests}
use Rattle.requests.specs.declared.awaited_requests.Awaited.{Awaited}
use Rattle.requests.specs.declared.table.Request.{Request}
use Rattle.proof_engine_view.specs.Rows.{Row}
use Rattle.proof_engine_view.specs.CoreViews.{IsBlocked, IsNamed}

-- what holds of each element follows from what held of it
pub all_follow : {A : Type 0} (P Q : A → Type 0) → ((x : A) → P x → Q x) → (xs : List A) → AllByRecursion P xs →
    AllByRecursion Q xs
all_follow P Q f [] h = tt
all_follow P Q f (x ∷ xs) h = (f x h.0, all_follow P Q f xs h.1)

-- a request that was named by an unanswered row still is
abbrev pub NamedStay : List Row → List Row → Type 0
NamedStay rows left = (q : Request) → IsNamed rows q → IsNamed left q

-- so it is where nothing changes
pub named_same : (rows : List Row) → NamedStay rows rows
named_same rows q h = h

-- so it is where one row's job changes, and isn't closed
pub named_set : (rows : List Row) (k key : ℕ) (job job' : Job) →
    slice_get rows k ≡ Some (record { key = key; job = job }) → (job' ≡ Closed → ⊥) →
    NamedStay rows (slice_set rows k (record { key = key; job = job' }))
named_set rows k key job job' here live q h = go (cases_eq q.serial k)
  where
    old : Row
    old = record { key = key; job = job }

    new : Row
    new = record { key = key; job = job' }

    go : (q.serial ≡ k) ⊎ (q.serial ≢ k) → IsNamed (slice_set rows k new) q
    go (inl e) =
        let same : old ≡ h.row = same_Some old h.row (sym here ∙ (ap (slice_get rows) (sym e) ∙ h.there)) in
        record {
          row = new;
          there = ap (slice_get (slice_set rows k new)) e ∙ get_set_same rows k old new here;
          key_is = ap (λ (r : Row). r.key) same ∙ h.key_is;
          unanswered = live;
        }
    go (inr n) =
        record {
          row = h.row;
          there = get_set_other rows k q.serial new (λ e. n (sym e)) ∙ h.there;
          key_is = h.key_is;
          unanswered = h.unanswered;
        }

-- so it is where every row keeps its key, and none is closed that wasn't
pub named_map : (f : Row → Row) → ((r : Row) → (f r).key ≡ r.key) → ((r : Row) → (f r).job ≡ Closed → r.job ≡ Closed) →
    (rows : List Row) → NamedStay rows (map f rows)
named_map f keys live rows q h =
    record {
      row = f h.row;
      there = slice_get-map f rows q.serial ∙ ap (λ (o : Option Row). option_map f o) h.there;
      key_is = keys h.row ∙ h.key_is;
      unanswered = λ e. h.unanswered (live h.row e);
    }

-- what the blocked call waits for is still named
pub blocked_stays : (rows left : List Row) (b : Option Awaited) (x y : Option machine.Unanswered) → IsBlocked rows b x →
    y ≡ x → NamedStay rows left → IsBlocked left b y
blocked_stays rows left None x y h e stay = e ∙ h
blocked_stays rows left (Some a) x y h e stay = (
  e ∙ h.0,
  All-from_recursion (IsNamed left) (awaited_requests a)
      (all_follow (IsNamed rows) (IsNamed left) stay (awaited_requests a)
      (recursion_from_All (IsNamed rows) (awaited_requests a) h.1)),
)
