-- A play over whatever has the machine's histories is on the way to the one meaning.
use Rattle.std.proofs.Common.{◌≡◌, ℕ, zero, suc, ◌<◌, ◌≤◌, Bool, true, false, List, [], ◌∷◌, ◌++◌, Option}
use Rattle.std.proofs.Common.{Some, None, if◌then◌else◌, ◌==◌, option_map, refl, sym, ap, ap₂, ◌∙◌, subst}
use Rattle.std.proofs.Common.{append-nil, arith}
use Rattle.std.proofs.lemmas.Bool.{eq-eqb}
use Rattle.vocabulary.specs.MessageLimits.{least}
use Rattle.perfect_groups.specs.Calls.{Answer, ByCollective, ByRequests, Call}
use Rattle.perfect_groups.specs.Calls.{Reply}
use Rattle.perfect_groups.specs.Communicators.{first_endpoint}
use Rattle.perfect_groups.specs.Events.{Called, Completed, Entry, as_reply}
use Rattle.perfect_groups.specs.Runs.{IsHistory}
use Rattle.one_meaning.specs.Accounts.{Accounts, Answered, Waiting, answer_to}
use Rattle.one_meaning.specs.Accounts.{judged, opened}
use Rattle.one_meaning.specs.CourseLaws.{IsOnTheWay, by_telling}
use Rattle.one_meaning.specs.Courses.{AreMeant, Calls, Course, Courses, Ends, Lead, Prints, Process, RecordsAgree}
use Rattle.one_meaning.specs.Courses.{Refused, Replied, Step, Told, accounts, at_start, called, does, goes_on}
use Rattle.one_meaning.specs.Courses.{hears, with_course}
use Rattle.proof_one_meaning.specs.AccountViews.{IsCovered, with_account}
use Rattle.proof_one_meaning.specs.Histories.{AgreeAlong, AreCovered, AreJustified, AtOnce, Blocks, IsFit}
use Rattle.proof_one_meaning.specs.Histories.{IsReady, IsRepliedSo, Justifies, after_all, after_seen}
use Rattle.proof_one_meaning.specs.Histories.{answer_by, given, given_so, has_called, has_heard, once_called}
use Rattle.proof_one_meaning.specs.Plays.{EveryPlayIsTheMeaning, HasEnded, IsAt, Player, Players, PlaysOn}
use Rattle.proof_one_meaning.specs.Plays.{PlaysTheMeaning, PlaysThrough, Spoke, WasAnswered, WasRefused, WasTaken}
use Rattle.proof_one_meaning.specs.Plays.{gone_on, is_blocking, players_at_start, told_by, with_player}
use Rattle.one_meaning.proofs.Courses.{Leads, always_leads, answer_leaves, on_the_way}
use Rattle.proof_one_meaning.proofs.EventAnswers.{done_at_once, idle_call, runs_are_justified}
use Rattle.proof_one_meaning.proofs.PlayersAndRanks.{lead_more, after_more, covered_more, justified_more}
use Rattle.proof_one_meaning.proofs.PlayersAndRanks.{justified_last, agree_more, agree_before, accounts_with}
use Rattle.proof_one_meaning.proofs.PlayersAndRanks.{goes_step, goes_answer, is_waiting, waits_not, IsSame, same_at}
use Rattle.proof_one_meaning.proofs.PlayersAndRanks.{Matches, StaysGood, at_once_is, IsTold, answer_told, none_some}
use Rattle.proof_one_meaning.proofs.PlayersAndRanks.{waits_then}

-- WHERE A TAKEN CALL LEADS

-- the ranks go on to where these accounts are, and rank r's player is as his rank
record TakesTo {P : Type 0} (next : Process P) (ranks : Courses P) (all : Players P) (r : ℕ) (c : Player P)
    (new : Accounts) : Type 0 where
  pub ranks' : Courses P
  pub ways : List ℕ
  pub lead : Lead next ranks ways ranks'
  pub accounts_are : accounts ranks' ≡ new
  pub same : (x : ℕ) → IsSame (with_player all r c x) (ranks' x)

course_of : {P : Type 0} (ranks : Courses P) (r : ℕ) (c : Course P) → with_course ranks r c r ≡ c
course_of ranks r c = ap (λ (b : Bool). if b then c else ranks r) (eq-eqb r r refl)

course_twice : {P : Type 0} (ranks : Courses P) (r : ℕ) (c d : Course P) → with_course (with_course ranks r c) r d ≡
    with_course ranks r d
course_twice ranks r c d = λ i x. at_rank x i
  where
    at_rank : (x : ℕ) → with_course (with_course ranks r c) r d x ≡ with_course ranks r d x
    at_rank x = go (x == r)
      where
        go : (b : Bool) → (if b then d else (if b then c else ranks x)) ≡ (if b then d else ranks x)
        go true = refl
        go false = refl

-- a rank whose call has no fault has called
once_in : {P : Type 0} (next : Process P) (ranks : Courses P) (r : ℕ) (call : Call) → Course P
once_in next ranks r call = called r (ranks r) (next (ranks r).process (ranks r).told).1 call None

calls_so : {P : Type 0} (next : Process P) (ranks : Courses P) (r : ℕ) (call : Call) → (ranks r).ended ≡ false →
    (next (ranks r).process (ranks r).told).0 ≡ Calls call → judged r (ranks r).account call ≡ None →
    goes_on next ranks r ≡ Some (called r (ranks r) (next (ranks r).process (ranks r).told).1 call None)
calls_so next ranks r call runs is fit =
    goes_step next ranks r (Calls call) runs (idle_call r (ranks r).account call fit) is
    ∙ ap (λ (o : Option ℕ). Some (called r (ranks r) (next (ranks r).process (ranks r).told).1 call o)) fit

taken_to : {P : Type 0} (next : Process P) (ranks : Courses P) (all : Players P) (r : ℕ) (call : Call) (reply : Reply) →
    ((x : ℕ) → IsSame (all x) (ranks x)) → IsCovered call → IsAt next (all r) (Calls call) →
    (next (ranks r).process (ranks r).told).0 ≡ Calls call →
    Justifies (accounts ranks) (Called (first_endpoint r) call reply) →
    TakesTo next ranks all r (gone_on next (all r) (told_by reply) (is_blocking reply) [] false)
    (after_seen (accounts ranks) (Called (first_endpoint r) call reply))
taken_to {P = P} next ranks all r call reply same cover at is j = go j.replied
  where
    old : Course P
    old = ranks r

    process' : P
    process' = (next old.process old.told).1

    c1 : Course P
    c1 = called r old process' call None

    runs : old.ended ≡ false
    runs = sym (same r).ended ∙ at.running

    first_step : goes_on next ranks r ≡ Some c1
    first_step = calls_so next ranks r call runs is j.fit

    same_process : (next (all r).process (all r).told).1 ≡ process'
    same_process = ap₂ (λ (p : P) (t : Option Told). (next p t).1) (same r).process (same r).told

    same_lines : (all r).lines ++ [] ≡ old.lines
    same_lines = append-nil (all r).lines ∙ (same r).lines

    called_accounts : accounts (with_course ranks r c1) ≡ has_called (accounts ranks) r call
    called_accounts = accounts_with ranks r c1

    player : Player P
    player = gone_on next (all r) (told_by reply) (is_blocking reply) [] false

    false_true : {A : Type 0} → false ≡ true → A
    false_true e = absurd (grind arith)

    go : IsRepliedSo (accounts ranks) r call reply →
        TakesTo next ranks all r player (has_heard (has_called (accounts ranks) r call) r reply)
    go (AtOnce u heard) =
        let told = at_once_is IsTold (λ k. record { told = refl; free = refl }) (λ f. record { told = refl; free = refl }) r old.account call reply cover u in
        let done = done_at_once (accounts ranks) r call reply cover j.idle u in
        record {
          ranks' = with_course ranks r c1;
          ways = r ∷ [];
          lead = (c1, first_step, refl);
          accounts_are = called_accounts ∙ sym heard;
          same = same_at all ranks r player c1
              (record {
                process = same_process;
                told = told.told ∙ sym (ap (option_map Replied) u);
                blocked = told.free ∙ sym (ap is_waiting done.waits);
                lines = same_lines;
                ended = refl;
                quiet = λ e. false_true e;
              }) same;
        }
    go (Blocks u e) =
        record {
          ranks' = with_course ranks r c1;
          ways = r ∷ [];
          lead = (c1, first_step, refl);
          accounts_are = called_accounts ∙ sym (ap (has_heard (has_called (accounts ranks) r call) r) e);
          same = same_at all ranks r player c1
              (record {
                process = same_process;
                told = ap told_by e ∙ sym (ap (option_map Replied) u);
                blocked = ap is_blocking e ∙ sym (waits_then r old.account call cover j.fit u);
                lines = same_lines;
                ended = refl;
                quiet = λ e. false_true e;
              }) same;
        }
    go (IsReady u t a e) =
        by_waiting c1.account.waiting refl
        (sym (ap (λ (x : Option Waiting). answer_by (has_called (accounts ranks) r call) r x) own_waiting) ∙ a)
      where
        own_waiting : (has_called (accounts ranks) r call r).waiting ≡ c1.account.waiting
        own_waiting = ap (λ (x : Accounts). (x r).waiting) (sym called_accounts) ∙
            ap (λ (x : Course P). x.account.waiting) (course_of ranks r c1)

        mid : Courses P
        mid = with_course ranks r c1

        by_waiting : (w : Option Waiting) → c1.account.waiting ≡ w →
            answer_by (has_called (accounts ranks) r call) r w ≡ Some t →
            TakesTo next ranks all r player (has_heard (has_called (accounts ranks) r call) r reply)
        by_waiting None v f = absurd (none_some t (sym f))
        by_waiting (Some w) v f =
            record {
              ranks' = with_course mid r (hears (mid r) t);
              ways = r ∷ r ∷ [];
              lead = (c1, first_step, (hears (mid r) t, second_step, refl));
              accounts_are =
                  accounts_with mid r (hears (mid r) t)
                  ∙ (ap (λ (x : Accounts). with_account x r t.1) called_accounts
                  ∙ sym (ap (has_heard (has_called (accounts ranks) r call) r) e ∙
                  (as_reply_gives t.0 ∙ ap (given_so (has_called (accounts ranks) r call) r) a)));
              same = λ x. subst (λ (y : Courses P). IsSame (with_player all r player x) (y x)) (sym two)
                  (same_at all ranks r player (hears c1 t) is_same same x);
            }
          where
            at_mid : mid r ≡ c1
            at_mid = course_of ranks r c1

            own_answer : answer_to (accounts mid) r (mid r).account w ≡ Some t
            own_answer = ap (λ (x : Accounts). answer_to x r (x r) w) called_accounts ∙ f

            second_step : goes_on next mid r ≡ Some (hears (mid r) t)
            second_step =
                goes_answer next mid r w t (ap (λ (x : Course P). x.ended) at_mid)
                (ap (λ (x : Course P). x.account.waiting) at_mid ∙ v) own_answer

            two : with_course mid r (hears (mid r) t) ≡ with_course ranks r (hears c1 t)
            two = ap (λ (x : Course P). with_course mid r (hears x t)) at_mid ∙ course_twice ranks r c1 (hears c1 t)

            as_reply_gives : (a : Answer) → has_heard (has_called (accounts ranks) r call) r (as_reply a) ≡
                given (has_called (accounts ranks) r call) r
            as_reply_gives (ByRequests a) = refl
            as_reply_gives (ByCollective o) = refl

            is_same : IsSame player (hears c1 t)
            is_same =
                record {
                  process = same_process;
                  told = ap told_by e ∙ (answer_told t.0).told;
                  blocked = ap is_blocking e ∙
                      ((answer_told t.0).free ∙
                      sym (ap is_waiting (answer_leaves (accounts mid) r (mid r).account w t own_answer).free));
                  lines = same_lines;
                  ended = refl;
                  quiet = λ e. false_true e;
                }

-- WHERE AN ANSWER LEADS

answered_to : {P : Type 0} (next : Process P) (ranks : Courses P) (all : Players P) (r : ℕ) (a : Answer) →
    ((x : ℕ) → IsSame (all x) (ranks x)) → Justifies (accounts ranks) (Completed (first_endpoint r) a) →
    TakesTo next ranks all r
    (record {
      process = (all r).process;
      told = Some (Replied (as_reply a));
      blocked = false;
      lines =
          (all r).lines;
      ended = (all r).ended;
    }) (after_seen (accounts ranks) (Completed (first_endpoint r) a))
answered_to {P = P} next ranks all r a same j = by_waiting (ranks r).account.waiting refl (ranks r).ended refl j.answer
  where
    t : Answered
    t = j.answered

    player : Player P
    player = record {
      process = (all r).process;
      told = Some (Replied (as_reply a));
      blocked = false;
      lines =
          (all r).lines;
      ended = (all r).ended;
    }

    by_waiting : (w : Option Waiting) → (ranks r).account.waiting ≡ w → (b : Bool) →
        (ranks r).ended ≡ b → answer_by (accounts ranks) r w ≡ Some t →
        TakesTo next ranks all r player (given (accounts ranks) r)
    by_waiting None v b u f = absurd (none_some t (sym f))
    by_waiting (Some w) v true u f = absurd (none_some w (sym v ∙ (same r).quiet u))
    by_waiting (Some w) v false u f =
        record {
          ranks' = with_course ranks r (hears (ranks r) t);
          ways = r ∷ [];
          lead = (hears (ranks r) t, goes_answer next ranks r w t u v f, refl);
          accounts_are = accounts_with ranks r (hears (ranks r) t) ∙ sym (ap (given_so (accounts ranks) r) j.answer);
          same = same_at all ranks r player (hears (ranks r) t)
              (record {
                process = (same r).process;
                told = ap (λ (x : Answer). Some (Replied (as_reply x))) j.told;
                blocked = sym (ap is_waiting (answer_leaves (accounts ranks) r (ranks r).account w t f).free);
                lines = (same r).lines;
                ended = (same r).ended ∙ u;
                quiet = λ e. clash e;
              }) same;
        }
      where
        clash : {A : Type 0} → false ≡ true → A
        clash e = absurd (grind arith)

-- A MOVE OF A PLAY

lead_both : {P : Type 0} (next : Process P) (xs ys : List ℕ) (a b c : Courses P) → Lead next a xs b → Lead next b ys c →
    Lead next a (xs ++ ys) c
lead_both next [] ys a b c l m = subst (λ (x : Courses _). Lead next x ys c) (sym l) m
lead_both next (x ∷ xs) ys a b c l m = (l.0, l.1, lead_both next xs ys (with_course a x l.0) b c l.2 m)

-- the end that all ranks are on the way to
pub record IsTheEnd {P : Type 0} (next : Process P) (n : ℕ) (processes : ℕ → P) (end : Courses P) : Type 0 where
  pub meant : AreMeant next n processes end
  pub agrees : RecordsAgree (accounts end)

ahead_agrees : {P : Type 0} (next : Process P) (n : ℕ) (processes : ℕ → P) (end ranks : Courses P) →
    IsTheEnd next n processes end → (ways : List ℕ) → Lead next (at_start n processes) ways ranks →
    RecordsAgree (accounts ranks)
ahead_agrees next n processes end ranks e ways l =
    agree_before next ranks end
    (always_leads next ways (at_start n processes) ranks end (e.meant.ranks, e.meant.lead) e.meant.done l) e.agrees

-- an entry of the history is one that accounts give, where it is covered and records agree on the way
justified_so : {P : Type 0} (next : Process P) (Good : P → Type 0) (n : ℕ) (processes : ℕ → P) (all : Players P)
    (h : List Entry) (ranks end : Courses P) → n ≤ 65536 → 0 < n → IsTheEnd next n processes end →
    Matches next Good n processes all h ranks →
    (v : Entry) → Rattle.proof_one_meaning.specs.Histories.IsCoveredEntry v → IsHistory n least (h ++ v ∷ []) →
    (IsFit (accounts ranks) v → RecordsAgree (once_called (accounts ranks) v)) →
    (Justifies (accounts ranks) v → RecordsAgree (after_seen (accounts ranks) v)) → Justifies (accounts ranks) v
justified_so next Good n processes all h ranks end le some e m v c history f g =
    subst (λ (x : Accounts). Justifies x v) (sym m.accounts_are) (justified_last (opened n) h v along_all)
  where
    along : AgreeAlong (opened n) (h ++ v ∷ [])
    along =
        agree_more (opened n) h v m.along m.justified
        (subst (λ (x : Accounts). IsFit x v → RecordsAgree (once_called x v)) m.accounts_are f)
        (subst (λ (x : Accounts). Justifies x v → RecordsAgree (after_seen x v)) m.accounts_are g)

    along_all : AreJustified (opened n) (h ++ v ∷ [])
    along_all =
        subst (AreJustified (opened n)) history.2
        (runs_are_justified n history.0 le some history.1
        (subst AreCovered (sym history.2) (covered_more h v m.covered c))
        (ahead_agrees next n processes end (at_start n processes) e [] refl)
        (subst (AgreeAlong (opened n)) (sym history.2) along)).0

-- what was taken or answered goes on with the play
goes_with : {P : Type 0} (next : Process P) (Good : P → Type 0) (n : ℕ) (processes : ℕ → P) (all : Players P)
    (h : List Entry) (ranks end : Courses P) → IsTheEnd next n processes end →
    Matches next Good n processes all h ranks →
    (v : Entry) → Rattle.proof_one_meaning.specs.Histories.IsCoveredEntry v → Justifies (accounts ranks) v →
    (IsFit (accounts ranks) v → RecordsAgree (once_called (accounts ranks) v)) →
    (r : ℕ) (c : Player P) → Good c.process → (t : TakesTo next ranks all r c (after_seen (accounts ranks) v)) →
    Matches next Good n processes (with_player all r c) (h ++ v ∷ []) t.ranks'
goes_with {P = P} next Good n processes all h ranks end e m v cover j f r c good t =
    record {
      ways = m.ways ++ t.ways;
      lead = lead;
      accounts_are = t.accounts_are ∙
          (ap (λ (x : Accounts). after_seen x v) m.accounts_are ∙ sym (after_more (opened n) h v));
      same = t.same;
      along = agree_more (opened n) h v m.along m.justified
          (subst (λ (x : Accounts). IsFit x v → RecordsAgree (once_called x v)) m.accounts_are f)
          (λ k. subst (λ (x : Accounts). RecordsAgree (after_seen x v)) m.accounts_are
          (subst RecordsAgree t.accounts_are
          (ahead_agrees next n processes end t.ranks' e (m.ways ++ t.ways) lead)));
      justified = justified_more (opened n) h v m.justified (subst (λ (x : Accounts). Justifies x v) m.accounts_are j);
      covered = covered_more h v m.covered cover;
      good = λ x. own x;
    }
  where
    lead : Lead next (at_start n processes) (m.ways ++ t.ways) t.ranks'
    lead = lead_both next m.ways t.ways (at_start n processes) ranks t.ranks' m.lead t.lead

    own : (x : ℕ) → Good (with_player all r c x).process
    own x = go (x == r)
      where
        go : (b : Bool) → Good (if b then c else all x).process
        go true = good
        go false = m.good x

-- a rank goes on of itself, and the history is as it was
goes_alone : {P : Type 0} (next : Process P) (Good : P → Type 0) (n : ℕ) (processes : ℕ → P) (all : Players P)
    (h : List Entry) (ranks : Courses P) → Matches next Good n processes all h ranks →
    (r : ℕ) (c : Player P) (d : Course P) →
    goes_on next ranks r ≡ Some d → d.account ≡ (ranks r).account → IsSame c d → Good c.process →
    Matches next Good n processes (with_player all r c) h (with_course ranks r d)
goes_alone next Good n processes all h ranks m r c d step account same good =
    record {
      ways = m.ways ++ r ∷ [];
      lead = lead_more next m.ways (at_start n processes) ranks r d m.lead step;
      accounts_are = accounts_with ranks r d ∙
          (ap (with_account (accounts ranks) r) account ∙
          (Rattle.proof_one_meaning.proofs.Events.unchanged (accounts ranks) r ∙ m.accounts_are));
      same = same_at all ranks r c d same m.same;
      along = m.along;
      justified = m.justified;
      covered = m.covered;
      good = λ x. own x;
    }
  where
    own : (x : ℕ) → Good (with_player all r c x).process
    own x = go (x == r)
      where
        go : (b : Bool) → Good (if b then c else all x).process
        go true = good
        go false = m.good x

pub plays_on : {P : Type 0} (next : Process P) (Good : P → Type 0) → StaysGood next Good →
    (n : ℕ) (processes : ℕ → P) (end : Courses P) → n ≤ 65536 → 0 < n → IsTheEnd next n processes end →
    (all : Players P) (h : List Entry) (ranks : Courses P) → Matches next Good n processes all h ranks →
    (all' : Players P) (h' : List Entry) → PlaysOn next n all h all' h' →
    (ranks' : Courses P) × Matches next Good n processes all' h' ranks'
plays_on {P = P} next Good stays n processes end le some e all h ranks m all' h' move = go move
  where
    -- what a player's process does is what his rank's does
    alike : (r : ℕ) (step : Step) → IsAt next (all r) step → (next (ranks r).process (ranks r).told).0 ≡ step
    alike r step at = ap₂ (λ (p : P) (t : Option Told). (next p t).0) (sym (m.same r).process) (sym (m.same r).told) ∙
        at.is_next

    process_alike : (r : ℕ) → (next (all r).process (all r).told).1 ≡ (next (ranks r).process (ranks r).told).1
    process_alike r = ap₂ (λ (p : P) (t : Option Told). (next p t).1) (m.same r).process (m.same r).told

    good_next : (r : ℕ) → Good (next (all r).process (all r).told).1
    good_next r = stays.stays (all r).process (all r).told (m.good r)

    runs : (r : ℕ) (step : Step) → IsAt next (all r) step → (ranks r).ended ≡ false
    runs r step at = sym (m.same r).ended ∙ at.running

    idle : (r : ℕ) (step : Step) → IsAt next (all r) step → (ranks r).account.waiting ≡ None
    idle r step at = waits_not (ranks r).account.waiting (sym (m.same r).blocked ∙ at.free)

    back : (x : Players P) (y : List Entry) → all' ≡ x → h' ≡ y →
        (z : Courses P) → Matches next Good n processes x y z →
        (ranks' : Courses P) × Matches next Good n processes all' h' ranks'
    back x y u v z k = (
      z,
      subst (λ (p : Players P). Matches next Good n processes p h' z) (sym u)
          (subst (λ (q : List Entry). Matches next Good n processes x q z) (sym v) k),
    )

    clash : {A : Type 0} → false ≡ true → A
    clash e = absurd (grind arith)

    go : PlaysOn next n all h all' h' → (ranks' : Courses P) × Matches next Good n processes all' h' ranks'
    go (Spoke r line at u v) =
        back (with_player all r (gone_on next (all r) None false (line ∷ []) false)) h u v _
        (goes_alone next Good n processes all h ranks m r (gone_on next (all r) None false (line ∷ []) false)
        (does r (ranks r) (next (ranks r).process (ranks r).told).1 (Prints line))
        (goes_step next ranks r (Prints line) (runs r (Prints line) at) (idle r (Prints line) at)
        (alike r (Prints line) at)) refl
        (record {
          process = process_alike r;
          told = refl;
          blocked = sym (ap is_waiting (idle r (Prints line) at));
          lines = ap (λ (ls : List (List ℕ)). ls ++ line ∷ []) (m.same r).lines;
          ended = refl;
          quiet = λ x. clash x;
        }) (good_next r))
    go (HasEnded r status at u v) =
        back (with_player all r (gone_on next (all r) None false [] true)) h u v _
        (goes_alone next Good n processes all h ranks m r (gone_on next (all r) None false [] true)
        (does r (ranks r) (next (ranks r).process (ranks r).told).1 (Ends status))
        (goes_step next ranks r (Ends status) (runs r (Ends status) at) (idle r (Ends status) at)
        (alike r (Ends status) at)) refl
        (record {
          process = process_alike r;
          told = refl;
          blocked = sym (ap is_waiting (idle r (Ends status) at));
          lines = append-nil (all r).lines ∙ (m.same r).lines;
          ended = refl;
          quiet = λ x. idle r (Ends status) at;
        }) (good_next r))
    go (WasRefused r call number at fault u v) =
        back (with_player all r (gone_on next (all r) (Some (Refused number)) false [] false)) h u v _
        (goes_alone next Good n processes all h ranks m r (gone_on next (all r) (Some (Refused number)) false [] false)
        (called r (ranks r) (next (ranks r).process (ranks r).told).1 call (Some number))
        (goes_step next ranks r (Calls call) (runs r (Calls call) at) (idle r (Calls call) at) (alike r (Calls call) at)
        ∙ ap (λ (o : Option ℕ). Some (called r (ranks r) (next (ranks r).process (ranks r).told).1 call o)) judged_is)
        refl
        (record {
          process = process_alike r;
          told = refl;
          blocked = sym (ap is_waiting (idle r (Calls call) at));
          lines = append-nil (all r).lines ∙ (m.same r).lines;
          ended = refl;
          quiet = λ x. clash x;
        }) (good_next r))
      where
        judged_is : judged r (ranks r).account call ≡ Some number
        judged_is =
            ap (λ (x : Accounts). judged r (x r) call) m.accounts_are
            ∙ (ap (λ (x : List Entry). judged r (after_all (opened n) x r) call) (sym fault.tells)
            ∙ (sym ((runs_are_justified n fault.events le some fault.run (subst AreCovered (sym fault.tells) m.covered)
            (ahead_agrees next n processes end (at_start n processes) e [] refl)
            (subst (AgreeAlong (opened n)) (sym fault.tells) m.along)).1 r call)
            ∙ fault.fault_is))
    go (WasTaken r call reply at history u v) =
        back (with_player all r (gone_on next (all r) (told_by reply) (is_blocking reply) [] false)) (h ++ entry ∷
        []) u v _
        (goes_with next Good n processes all h ranks end e m entry cover j fit r
        (gone_on next (all r) (told_by reply) (is_blocking reply) [] false) (good_next r) (to j))
      where
        entry : Entry
        entry = Called (first_endpoint r) call reply

        cover : IsCovered call
        cover = stays.calls (all r).process (all r).told call (m.good r) at.is_next

        to : Justifies (accounts ranks) entry →
            TakesTo next ranks all r (gone_on next (all r) (told_by reply) (is_blocking reply) [] false)
            (after_seen (accounts ranks) entry)
        to k = taken_to next ranks all r call reply m.same cover at (alike r (Calls call) at) k

        fit : IsFit (accounts ranks) entry → RecordsAgree (once_called (accounts ranks) entry)
        fit k =
            subst RecordsAgree
            (accounts_with ranks r (called r (ranks r) (next (ranks r).process (ranks r).told).1 call None))
            (ahead_agrees next n processes end
            (with_course ranks r (called r (ranks r) (next (ranks r).process (ranks r).told).1 call None)) e
            (m.ways ++ r ∷ [])
            (lead_more next m.ways (at_start n processes) ranks r
            (called r (ranks r) (next (ranks r).process (ranks r).told).1 call None) m.lead
            (calls_so next ranks r call (runs r (Calls call) at) (alike r (Calls call) at) k)))

        j : Justifies (accounts ranks) entry
        j =
            justified_so next Good n processes all h ranks end le some e m entry cover
            (subst (IsHistory n least) v history)
            fit
            (λ k. let t = to k in subst RecordsAgree t.accounts_are
            (ahead_agrees next n processes end t.ranks' e (m.ways ++ t.ways)
            (lead_both next m.ways t.ways (at_start n processes) ranks t.ranks' m.lead t.lead)))
    go (WasAnswered r a history u v) =
        back (with_player all r player) (h ++ entry ∷ []) u v _
        (goes_with next Good n processes all h ranks end e m entry tt j (λ k. now) r player (m.good r) (to j))
      where
        entry : Entry
        entry = Completed (first_endpoint r) a

        player : Player P
        player = record {
          process = (all r).process;
          told = Some (Replied (as_reply a));
          blocked = false;
          lines =
              (all r).lines;
          ended = (all r).ended;
        }

        to : Justifies (accounts ranks) entry → TakesTo next ranks all r player (after_seen (accounts ranks) entry)
        to k = answered_to next ranks all r a m.same k

        now : RecordsAgree (accounts ranks)
        now = ahead_agrees next n processes end ranks e m.ways m.lead

        j : Justifies (accounts ranks) entry
        j =
            justified_so next Good n processes all h ranks end le some e m entry tt
            (subst (IsHistory n least) v history)
            (λ k. now)
            (λ k. let t = to k in subst RecordsAgree t.accounts_are
            (ahead_agrees next n processes end t.ranks' e (m.ways ++ t.ways)
            (lead_both next m.ways t.ways (at_start n processes) ranks t.ranks' m.lead t.lead)))

-- whoever is answered was blocked, and hadn't ended
pub answered_blocked : {P : Type 0} (next : Process P) (Good : P → Type 0) →
    (n : ℕ) (processes : ℕ → P) (end : Courses P) → n ≤ 65536 → 0 < n → IsTheEnd next n processes end →
    (all : Players P) (h : List Entry) (ranks : Courses P) → Matches next Good n processes all h ranks →
    (r : ℕ) (a : Answer) → IsHistory n least (h ++ Completed (first_endpoint r) a ∷ []) →
    ((all r).blocked ≡ true) × ((all r).ended ≡ false)
answered_blocked {P = P} next Good n processes end le some e all h ranks m r a history =
    go (ranks r).account.waiting refl (ranks r).ended refl j.answer
  where
    entry : Entry
    entry = Completed (first_endpoint r) a

    now : RecordsAgree (accounts ranks)
    now = ahead_agrees next n processes end ranks e m.ways m.lead

    player : Player P
    player = record {
      process = (all r).process;
      told = Some (Replied (as_reply a));
      blocked = false;
      lines =
          (all r).lines;
      ended = (all r).ended;
    }

    to : Justifies (accounts ranks) entry → TakesTo next ranks all r player (after_seen (accounts ranks) entry)
    to k = answered_to next ranks all r a m.same k

    j : Justifies (accounts ranks) entry
    j =
        justified_so next Good n processes all h ranks end le some e m entry tt history (λ k. now)
        (λ k. let t = to k in subst RecordsAgree t.accounts_are
        (ahead_agrees next n processes end t.ranks' e (m.ways ++ t.ways)
        (lead_both next m.ways t.ways (at_start n processes) ranks t.ranks' m.lead t.lead)))

    go : (w : Option Waiting) → (ranks r).account.waiting ≡ w → (b : Bool) →
        (ranks r).ended ≡ b → answer_by (accounts ranks) r w ≡ Some j.answered →
        ((all r).blocked ≡ true) × ((all r).ended ≡ false)
    go None v b u f = absurd (none_some j.answered (sym f))
    go (Some w) v true u f = absurd (none_some w (sym v ∙ (m.same r).quiet u))
    go (Some w) v false u f = ((m.same r).blocked ∙ ap is_waiting v, (m.same r).ended ∙ u)

-- PLAYS

plays_through : {P : Type 0} (next : Process P) (Good : P → Type 0) → StaysGood next Good →
    (n : ℕ) (processes : ℕ → P) (end : Courses P) → n ≤ 65536 → 0 < n → IsTheEnd next n processes end →
    (moves : ℕ) (all : Players P) (h : List Entry) (ranks : Courses P) → Matches next Good n processes all h ranks →
    (all' : Players P) (h' : List Entry) → PlaysThrough next n moves all h all' h' →
    (ranks' : Courses P) × Matches next Good n processes all' h' ranks'
plays_through next Good stays n processes end le some e zero all h ranks m all' h' p = (
  ranks,
  subst (λ (x : Players _). Matches next Good n processes x h' ranks) p.0
      (subst (λ (y : List Entry). Matches next Good n processes all y ranks) p.1 m),
)
plays_through next Good stays n processes end le some e (suc k) all h ranks m all' h' p =
    let t = plays_on next Good stays n processes end le some e all h ranks m p.0 p.1 p.2 in
    plays_through next Good stays n processes end le some e k p.0 p.1 t.0 t.1 all' h' p.3

begun_play : {P : Type 0} (next : Process P) (Good : P → Type 0) (n : ℕ) (processes : ℕ → P) →
    ((r : ℕ) → Good (processes r)) →
    Matches next Good n processes (players_at_start n processes) [] (at_start n processes)
begun_play next Good n processes good =
    record {
      ways = [];
      lead = refl;
      accounts_are = refl;
      same = λ x. record { process = refl; told = refl; blocked = refl; lines = refl; ended = refl; quiet = λ u. refl };
      along = tt;
      justified = tt;
      covered = tt;
      good = good;
    }

-- in a play, what is answered is blocked
pub blocked_in_play : {P : Type 0} (next : Process P) (Good : P → Type 0) → StaysGood next Good →
    (n : ℕ) (processes : ℕ → P) (end : Courses P) → n ≤ 65536 → 0 < n → ((r : ℕ) → Good (processes r)) →
    AreMeant next n processes end → RecordsAgree (accounts end) →
    (moves : ℕ) (now : Players P) (h : List Entry) → PlaysThrough next n moves (players_at_start n processes) [] now h →
    (r : ℕ) (a : Answer) → IsHistory n least (h ++ Completed (first_endpoint r) a ∷ []) →
    ((now r).blocked ≡ true) × ((now r).ended ≡ false)
blocked_in_play next Good stays n processes end le some good meant agrees moves now h p r a history =
    let e : IsTheEnd next n processes end = record { meant = meant; agrees = agrees } in
    let t = plays_through next Good stays n processes end le some e moves (players_at_start n processes) [] (at_start n processes) (begun_play next Good n processes good) now h p in
    answered_blocked next Good n processes end le some e now h t.0 t.1 r a history

pub every_play : {P : Type 0} (next : Process P) (Good : P → Type 0) → StaysGood next Good →
    (n : ℕ) (processes : ℕ → P) (end : Courses P) → n ≤ 65536 → 0 < n → ((r : ℕ) → Good (processes r)) →
    AreMeant next n processes end → RecordsAgree (accounts end) →
    (moves : ℕ) (now : Players P) (h : List Entry) → PlaysThrough next n moves (players_at_start n processes) [] now h →
    (r : ℕ) → PlaysTheMeaning (now r) (end r)
every_play next Good stays n processes end le some good meant agrees moves now h p r =
    record {
      lines = (way.lines.0, way.lines.1 ∙ ap (λ (ls : List (List ℕ)). ls ++ way.lines.0) (sym same.lines));
      whole = λ x. way.whole (sym same.ended ∙ x) ∙ sym same.lines;
    }
  where
    the_end : IsTheEnd next n processes end
    the_end = record { meant = meant; agrees = agrees }

    t : (ranks : Courses _) × Matches next Good n processes now h ranks
    t = plays_through next Good stays n processes end le some the_end moves (players_at_start n processes) []
        (at_start n processes) (begun_play next Good n processes good) now h p

    same : IsSame (now r) (t.0 r)
    same = t.1.same r

    rest : Leads next t.0 end
    rest = always_leads next t.1.ways (at_start n processes) t.0 end (meant.ranks, meant.lead) meant.done t.1.lead

    way : IsOnTheWay (t.0 r) (end r)
    way = on_the_way next rest.0 t.0 end rest.1 r

pub every_play_is_the_meaning : EveryPlayIsTheMeaning
every_play_is_the_meaning f covered n moves now h end le some p meant agrees r =
    every_play (by_telling f) (λ x. Unit {0})
    (record { stays = λ x t g. tt; calls = λ x t call g is. covered x.0 (x.1 ++ t ∷ []) call is }) n
    (λ r. (r, [])) end le some (λ r. tt) meant agrees moves now h p r
