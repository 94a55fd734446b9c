-- A whole explored run is one run in which receives are posted where they were begun, happening after happening.
use Rattle.std.proofs.Common.{◌≡◌, ℕ, List, [], ◌∷◌, ◌++◌, Some, None}
use Rattle.std.proofs.Common.{refl, sym, ap, ap₂, ◌∙◌, subst}
use Rattle.std.proofs.lemmas.List.{append_assoc}
use Rattle.std.proofs.lemmas.Option.{none-some}
use Rattle.perfect_queues.specs.Events.{Entry, Event, after_event}
use Rattle.perfect_queues.specs.Events.{entries}
use Rattle.perfect_queues.specs.Requests.{Posted}
use Rattle.perfect_queues.specs.Runs.{IsRun, after_run, seen}
use Rattle.perfect_queues.specs.State.{State, opening}
use Rattle.proof_late_posting.specs.Explored.{AreAlike}
use Rattle.proof_late_posting.specs.Explored.{AllCount, Goes, Happening, IsExplored}
use Rattle.proof_late_posting.specs.Explored.{Keeps}
use Rattle.proof_late_posting.specs.Explored.{Ends, Peeks, Sees, Takes, Tries}
use Rattle.proof_late_posting.specs.Explored.{Names, PostingLateChangesNothing, Rows, Tells, events, events_of}
use Rattle.proof_late_posting.specs.Explored.{heard, no_rows, rows_after}
use Rattle.proof_late_posting.specs.Explored.{rows_at_end}
use Rattle.proof_late_posting.specs.Places.{Places, StandApart}
use Rattle.vocabulary.specs.declared.message_limit.MessageLimit.{MessageLimit}
use Rattle.proof_late_posting.proofs.Playing.{happenings_are_followed}

one_more : (s : State) (h : Happening) (es : List Event) →
    after_run s (events_of s h ++ es) ≡ after_run (after_run s (events_of s h)) es
one_more s (Goes e call steps) es = refl
one_more s (Keeps e p) es = refl
one_more s (Names e i p earlier m later steps) es = refl
one_more s (Tells e i p steps) es = refl
one_more s (Sees e q earlier m later steps) es = refl
one_more s (Takes e q earlier m later steps) es = refl
one_more s (Peeks e q steps) es = refl
one_more s (Ends e k o steps) es = refl
one_more s (Tries e k steps) es = refl

-- two runs, one after the other
both_run : (n : ℕ) (vs ws : List Event) (s : State) → IsRun n s vs → IsRun n (after_run s vs) ws →
    IsRun n s (vs ++ ws)
both_run n [] ws s a b = b
both_run n (v ∷ vs) ws s a b = (a.0, both_run n vs ws (after_event s v) a.1 b)

both_end : (vs ws : List Event) (s : State) → after_run s (vs ++ ws) ≡ after_run (after_run s vs) ws
both_end [] ws s = refl
both_end (v ∷ vs) ws s = both_end vs ws (after_event s v)

both_seen : (vs ws : List Event) (s : State) → seen s (vs ++ ws) ≡ seen s vs ++ seen (after_run s vs) ws
both_seen [] ws s = refl
both_seen (v ∷ vs) ws s =
    ap (λ es. entries s v ++ es) (both_seen vs ws (after_event s v))
    ∙ sym (append_assoc (entries s v) (seen (after_event s v) vs) (seen (after_run (after_event s v) vs) ws))

plays : (n : ℕ) (places : Places) → StandApart places → (hs : List Happening) (rows : Rows) (own known : State) →
    AreAlike places rows own known → IsExplored n known rows hs → AllCount places known rows hs →
    (vs : List Event) × IsRun n own vs × (seen own vs ≡ heard places known rows hs)
    × AreAlike places (rows_at_end rows hs) (after_run own vs) (after_run known (events known hs))
plays n places apart [] rows own known a x count = ([], tt, refl, a)
plays n places apart (h ∷ hs) rows own known a x count =
    let one = happenings_are_followed n places rows own known h apart a x.0 count.0 in
    let rest =
    plays n places apart hs (rows_after rows h) (after_run own one.0) (after_run known (events_of known h)) one.3
    x.1 count.1 in (
      one.0 ++ rest.0,
      both_run n one.0 rest.0 own one.1 rest.1,
      both_seen one.0 rest.0 own ∙ ap₂ (λ (b c : List Entry). b ++ c) one.2 rest.2,
      subst
          (λ s. AreAlike places (rows_at_end (rows_after rows h) hs) s (after_run known (events known (h ∷ hs))))
          (sym (both_end one.0 rest.0 own))
          (subst
          (λ s. AreAlike places (rows_at_end (rows_after rows h) hs) (after_run (after_run own one.0) rest.0) s)
          (sym (one_more known h (events (after_run known (events_of known h)) hs)))
          rest.3),
    )

alike_at_first : (limit : MessageLimit) (places : Places) → AreAlike places no_rows (opening limit) (opening limit)
alike_at_first limit places =
    record {
      current = refl;
      never_anew = λ r. refl;
      tied = λ x.
          record {
            requests =
                record {
                  same_length = refl;
                  stands = λ k r h. absurd (none-some r h);
                  is_known = λ k r h. absurd (none-some r h);
                  kept = λ i p h. absurd (none-some (Some p) h);
                  of_ranks = λ i p h. absurd (none-some (Some p) h);
                  others = λ i h. absurd (none-some None h);
                  order = λ k p h. absurd (none-some (Posted p) h);
                };
            blocked = refl;
            learnt = refl;
            queue = λ s c. refl;
            limit = refl;
            filed = λ s c. tt;
          };
    }

pub posting_late : PostingLateChangesNothing
posting_late n limit places hs x numbers =
    let all = plays n places numbers.apart hs no_rows (opening limit) (opening limit) (alike_at_first limit places) x
    numbers.count in
    record { own = all.0; is_run = all.1; is_heard = all.2; ends = λ e. all.3.tied e }
