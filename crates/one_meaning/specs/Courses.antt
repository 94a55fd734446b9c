-- Ranks that run by themselves: each goes on as far as its answers let it.
use Rattle.std.specs.Prelude.{◌≡◌, ℕ, Bool, true, false, List, [], ◌∷◌, ◌++◌, Option, Some, None, if◌then◌else◌, ◌==◌}
use Rattle.std.specs.Prelude.{nat_le, option_map}
use Rattle.perfect_groups.specs.Calls.{Call, Reply}
use Rattle.perfect_groups.specs.Collectives.{Part, agree}
use Rattle.perfect_groups.specs.Events.{as_reply}
use Rattle.vocabulary.specs.declared.endpoint.Endpoint.{Endpoint}
use Rattle.one_meaning.specs.Accounts.{Account, Accounts, Answered, Waiting, after_call, answer_to, at_once, judged}
use Rattle.one_meaning.specs.Accounts.{opened, part_by}

-- What a process is told of its last call: what was answered, at once or later; or the number by which it was refused
pub data Told : Type 0 where
  Replied : Reply → Told
  Refused : (number : ℕ) → Told

-- What it does: it calls its rank, prints a line, or ends
pub data Step : Type 0 where
  Calls : Call → Step
  Prints : (line : List ℕ) → Step
  Ends : (status : ℕ) → Step

-- A process: what it does next, told what became of its last call or nothing
abbrev pub Process : Type 0 → Type 0
Process P = P → Option Told → Step × P

-- A rank on its way: its process, what that is to be told, the rank's account, the lines so far, and whether it has
-- ended
pub record Course (P : Type 0) : Type 0 where
  pub process : P
  pub told : Option Told
  pub account : Account
  pub lines : List (List ℕ)
  pub ended : Bool

-- all ranks on their ways
abbrev pub Courses : Type 0 → Type 0
Courses P = (rank : ℕ) → Course P

-- their accounts
abbrev pub accounts : {P : Type 0} → Courses P → Accounts
accounts all r = (all r).account

-- one of them has gone on
abbrev pub with_course : {P : Type 0} → Courses P → (rank : ℕ) → Course P → Courses P
with_course all r c x = if x == r then c else all x

-- a call is refused by its first fault, or taken
abbrev pub called : {P : Type 0} → (rank : ℕ) → Course P → P → Call → Option ℕ → Course P
called r c p call (Some number) =
    record { process = p; told = Some (Refused number); account = c.account; lines = c.lines; ended = false }
called r c p call None =
    record {
      process = p;
      told = option_map Replied (at_once r c.account call);
      account =
          after_call r c.account call;
      lines = c.lines;
      ended = false;
    }

-- a rank whose process does this next
abbrev pub does : {P : Type 0} → (rank : ℕ) → Course P → P → Step → Course P
does r c p (Calls call) = called r c p call (judged r c.account call)
does r c p (Prints line) = record {
  process = p;
  told = None;
  account = c.account;
  lines = c.lines ++ line ∷ [];
  ended =
      false;
}
does r c p (Ends status) = record { process = p; told = None; account = c.account; lines = c.lines; ended = true }

-- a rank that was answered
abbrev pub hears : {P : Type 0} → Course P → Answered → Course P
hears c t = record {
  process = c.process;
  told = Some (Replied (as_reply t.0));
  account = t.1;
  lines = c.lines;
  ended =
      false;
}

-- a rank that goes on, by what it waits for
abbrev pub goes_by : {P : Type 0} → Process P → Accounts → (rank : ℕ) → Course P → Option Waiting → Option (Course P)
goes_by next all r c None = Some (does r c (next c.process c.told).1 (next c.process c.told).0)
goes_by next all r c (Some w) = option_map (hears c) (answer_to all r c.account w)

abbrev pub goes_unless : {P : Type 0} → Process P → Accounts → (rank : ℕ) → Course P →
    (ended : Bool) → Option (Course P)
goes_unless next all r c true = None
goes_unless next all r c false = goes_by next all r c c.account.waiting

-- a rank goes on, if it may: it hasn't ended, and what it waits for is ready
abbrev pub goes_on : {P : Type 0} → Process P → Courses P → (rank : ℕ) → Option (Course P)
goes_on next all r = goes_unless next (accounts all) r (all r) (all r).ended

-- ranks go on, one after the other
abbrev pub Lead : {P : Type 0} → Process P → Courses P → (ranks : List ℕ) → Courses P → Type 0
Lead next all [] end = all ≡ end
Lead {P = P} next all (r ∷ rs) end =
    (c : Course P) × (goes_on next all r ≡ Some c) × Lead next (with_course all r c) rs end

-- none may go on
abbrev pub AreDone : {P : Type 0} → Process P → Courses P → Type 0
AreDone next all = (r : ℕ) → goes_on next all r ≡ None

-- n ranks at their start
abbrev pub at_start : {P : Type 0} → (n : ℕ) → (processes : ℕ → P) → Courses P
at_start n processes r = record {
  process = processes r;
  told = None;
  account = opened n r;
  lines =
      [];
  ended = nat_le n r;
}

-- The one meaning: where ranks come to that go on until none may any more, in whatever order
pub record AreMeant {P : Type 0} (next : Process P) (n : ℕ) (processes : ℕ → P) (end : Courses P) : Type 0 where
  pub ranks : List ℕ
  pub lead : Lead next (at_start n processes) ranks end
  pub done : AreDone next end

-- no two records of a collective differ
abbrev pub RecordsAgree : Accounts → Type 0
RecordsAgree all =
    (c k : ℕ) (x y : Endpoint) (p q : Part) → part_by all c k x ≡ Some p → part_by all c k y ≡ Some q →
    agree p.record_is q.record_is ≡ true
