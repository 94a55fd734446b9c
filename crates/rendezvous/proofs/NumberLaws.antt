-- Both sides of a session count its transfers alike.
use Rattle.std.proofs.Common.{◌≡◌, ◌≢◌, ℕ, ◌+◌, ◌<◌, Bool, true, false, not, cond, List, [], ◌∷◌, length, set, get_or}
use Rattle.std.proofs.Common.{replicate, refl, sym, ap, ◌∙◌, subst}
use Rattle.std.specs.Prelude.{◌==◌, ◌&&◌}
use Rattle.std.proofs.lemmas.Bool.{eqb-true, eqb-false, eq-eqb, and_parts}
use Rattle.std.proofs.lemmas.List.{get_or-set_same, get_or-set_other, get_or-replicate, length-replicate, length-set}
use Rattle.std.proofs.lemmas.Option.{slice_get-get_or}
use Rattle.vocabulary.specs.declared.basic_type.BasicType.TheVariants.{Byte}
use Rattle.datatypes.specs.Contents.{Contents}
use Rattle.rendezvous.specs.declared.transfers.Numbers.{Numbers}
use Rattle.rendezvous.specs.State.{State, fresh, most_transfers, has_none_to, has_none_from, is_due_number, is_full_to}
use Rattle.rendezvous.specs.State.{is_full_from, is_due, after_begin, after_payload, after_rts, after_data}
use Rattle.rendezvous.specs.Events.{Event, Begins, BeginsPayload, Announces, Collects, Answers, Brings, Drops, after, opening}
use Rattle.rendezvous.specs.OfferLaws.{after_all, is_drop_of}
use Rattle.rendezvous.specs.TransferCounts.{is_begin_to, is_announcement_by, count_after, begun_with, announced_with}
use Rattle.rendezvous.specs.TransferCounts.{transfers_to, announcements_by, IsCounted, AreAlike}

-- THE NUMBERS OF ONE SESSION

-- those of a rank
abbrev session : State → (rank : ℕ) → Numbers
session s rank = get_or s.numbers rank fresh

this_session : (ns : List Numbers) (rank : ℕ) (n : Numbers) → rank < length ns → get_or (set ns rank n) rank fresh ≡ n
this_session ns rank n lt = get_or-set_same ns rank n fresh lt

other_session : (ns : List Numbers) (r rank : ℕ) (n : Numbers) → (r == rank) ≡ false → get_or (set ns r n) rank fresh ≡
    get_or ns rank fresh
other_session ns r rank n e =
    let ne : rank ≢ r = λ (same : rank ≡ r). eqb-false r rank e (sym same) in
    get_or-set_other ns r rank n fresh ne

-- what an event counts in the session with a rank
abbrev counting : (rank : ℕ) → Event → Numbers → Numbers
counting rank e n = record {
  begun = count_after (is_drop_of rank e) (is_begin_to rank e) n.begun;
  announced = count_after (is_drop_of rank e) (is_announcement_by rank e) n.announced;
}

pub full_to : (ns : List Numbers) (rank : ℕ) → rank < length ns → is_full_to ns rank ≡
    ((get_or ns rank fresh).begun == most_transfers)
full_to ns rank lt = ap has_none_to (slice_get-get_or ns rank fresh lt)

full_from : (ns : List Numbers) (rank : ℕ) → rank < length ns → is_full_from ns rank ≡
    ((get_or ns rank fresh).announced == most_transfers)
full_from ns rank lt = ap has_none_from (slice_get-get_or ns rank fresh lt)

-- WHAT EACH EVENT COUNTS

begins_here : (full : Bool) (s : State) (rank request : ℕ) (elements : Contents) → rank < length s.numbers →
    ((session s rank).begun == most_transfers) ≡ full →
    session (cond full s (after_begin s rank request elements)) rank ≡
    record (session s rank) { begun = count_after false true (session s rank).begun }
begins_here full s rank request elements lt e =
    by full ∙ ap (λ b. record (session s rank) { begun = cond b (session s rank).begun ((session s rank).begun + 1) })
    (sym e)
  where
    by : (b : Bool) → session (cond b s (after_begin s rank request elements)) rank ≡
        record (session s rank) { begun = cond b (session s rank).begun ((session s rank).begun + 1) }
    by true = refl
    by false = this_session s.numbers rank (record (session s rank) { begun = (session s rank).begun + 1 }) lt

begins_elsewhere : (full : Bool) (s : State) (r rank request : ℕ) (elements : Contents) →
    (r == rank) ≡ false → session (cond full s (after_begin s r request elements)) rank ≡ session s rank
begins_elsewhere true s r rank request elements e = refl
begins_elsewhere false s r rank request elements e =
    other_session s.numbers r rank (record (session s r) { begun = (session s r).begun + 1 }) e

begins : (here : Bool) (s : State) (r rank request : ℕ) (elements : Contents) → rank < length s.numbers →
    (r == rank) ≡ here → session (after s (Begins r request elements)) rank ≡
    record (session s rank) { begun = count_after false here (session s rank).begun }
begins false s r rank request elements lt e = begins_elsewhere (is_full_to s.numbers r) s r rank request elements e
begins true s r rank request elements lt e =
    let same : r ≡ rank = eqb-true r rank e in
    subst (λ (x : ℕ). session (after s (Begins x request elements)) rank ≡
    record (session s rank) { begun = count_after false true (session s rank).begun }) (sym same)
    (begins_here (is_full_to s.numbers rank) s rank request elements lt (sym (full_to s.numbers rank lt)))

payload_begins : (full : Bool) (s : State) (rank r request : ℕ) (elements : Contents) →
    session (cond full s (after_payload s r)) rank ≡ session (cond full s (after_begin s r request elements)) rank
payload_begins true s rank r request elements = refl
payload_begins false s rank r request elements = refl

announces_here : (full : Bool) (s : State) (rank : ℕ) → rank < length s.numbers →
    ((session s rank).announced == most_transfers) ≡ full → session (cond full s (after_rts s rank)) rank ≡
    record (session s rank) { announced = count_after false true (session s rank).announced }
announces_here full s rank lt e =
    by full ∙
    ap (λ b. record (session s rank) {
      announced =
          cond b (session s rank).announced ((session s rank).announced + 1);
    }) (sym e)
  where
    by : (b : Bool) → session (cond b s (after_rts s rank)) rank ≡
        record (session s rank) { announced = cond b (session s rank).announced ((session s rank).announced + 1) }
    by true = refl
    by false = this_session s.numbers rank (record (session s rank) { announced = (session s rank).announced + 1 }) lt

announces_elsewhere : (full : Bool) (s : State) (r rank : ℕ) →
    (r == rank) ≡ false → session (cond full s (after_rts s r)) rank ≡ session s rank
announces_elsewhere true s r rank e = refl
announces_elsewhere false s r rank e =
    other_session s.numbers r rank (record (session s r) { announced = (session s r).announced + 1 }) e

announces : (here : Bool) (s : State) (r rank : ℕ) → rank < length s.numbers →
    (r == rank) ≡ here → session (after s (Announces r)) rank ≡
    record (session s rank) { announced = count_after false here (session s rank).announced }
announces false s r rank lt e = announces_elsewhere (is_full_from s.numbers r) s r rank e
announces true s r rank lt e =
    let same : r ≡ rank = eqb-true r rank e in
    subst (λ (x : ℕ). session (after s (Announces x)) rank ≡
    record (session s rank) { announced = count_after false true (session s rank).announced }) (sym same)
    (announces_here (is_full_from s.numbers rank) s rank lt (sym (full_from s.numbers rank lt)))

brings : (taken : Bool) (s : State) (source transfer rank : ℕ) (piece : List ℕ) →
    session (cond taken (after_data s source transfer piece) s) rank ≡ session s rank
brings true s source transfer rank piece = refl
brings false s source transfer rank piece = refl

drops : (here : Bool) (s : State) (r rank : ℕ) → rank < length s.numbers →
    (r == rank) ≡ here → get_or (set s.numbers r fresh) rank fresh ≡
    record {
      begun = count_after here false (session s rank).begun;
      announced =
          count_after here false (session s rank).announced;
    }
drops false s r rank lt e = other_session s.numbers r rank fresh e
drops true s r rank lt e =
    let same : r ≡ rank = eqb-true r rank e in
    subst (λ (x : ℕ). get_or (set s.numbers x fresh) rank fresh ≡ fresh) (sym same)
    (this_session s.numbers rank fresh lt)

counts : (s : State) (e : Event) (rank : ℕ) → rank < length s.numbers →
    session (after s e) rank ≡ counting rank e (session s rank)
counts s (Begins r request elements) rank lt = begins (r == rank) s r rank request elements lt refl
counts s (BeginsPayload r) rank lt =
    let none : Contents = record { basic = Byte; values = [] } in
    payload_begins (is_full_to s.numbers r) s rank r 0 none ∙ begins (r == rank) s r rank 0 none lt refl
counts s (Announces r) rank lt = announces (r == rank) s r rank lt refl
counts s (Collects limit source transfer request basic count) rank lt = refl
counts s (Answers r transfer) rank lt = refl
counts s (Brings source transfer offset piece) rank lt =
    brings (is_due s.collections source transfer offset piece) s source transfer rank piece
counts s (Drops r) rank lt = drops (r == rank) s r rank lt refl

-- AND NO RANK GOES

either : (b : Bool) (n : ℕ) (s t : State) → length s.numbers ≡ n → length t.numbers ≡ n →
    length (cond b s t).numbers ≡ n
either true n s t h k = h
either false n s t h k = k

sizes : (s : State) (e : Event) → length (after s e).numbers ≡ length s.numbers
sizes s (Begins r request elements) =
    either (is_full_to s.numbers r) (length s.numbers) s (after_begin s r request elements) refl
    (length-set s.numbers r (record (session s r) { begun = (session s r).begun + 1 }))
sizes s (BeginsPayload r) =
    either (is_full_to s.numbers r) (length s.numbers) s (after_payload s r) refl
    (length-set s.numbers r (record (session s r) { begun = (session s r).begun + 1 }))
sizes s (Announces r) =
    either (is_full_from s.numbers r) (length s.numbers) s (after_rts s r) refl
    (length-set s.numbers r (record (session s r) { announced = (session s r).announced + 1 }))
sizes s (Collects limit source transfer request basic count) = refl
sizes s (Answers r transfer) = refl
sizes s (Brings source transfer offset piece) =
    either (is_due s.collections source transfer offset piece) (length s.numbers) (after_data s source transfer piece) s
    refl refl
sizes s (Drops r) = length-set s.numbers r fresh

-- OVER ALL EVENTS

there_after : (s : State) (events : List Event) (rank : ℕ) → rank < length s.numbers →
    rank < length (after_all s events).numbers
there_after s [] rank lt = lt
there_after s (e ∷ es) rank lt = there_after (after s e) es rank (subst (λ (n : ℕ). rank < n) (sym (sizes s e)) lt)

-- the numbers of a session after events, where it had these before
abbrev counting_all : (rank : ℕ) → Numbers → List Event → Numbers
counting_all rank n events =
    record { begun = begun_with rank n.begun events; announced = announced_with rank n.announced events }

counts_all : (s : State) (events : List Event) (rank : ℕ) → rank < length s.numbers →
    session (after_all s events) rank ≡ counting_all rank (session s rank) events
counts_all s [] rank lt = refl
counts_all s (e ∷ es) rank lt =
    counts_all (after s e) es rank (subst (λ (n : ℕ). rank < n) (sym (sizes s e)) lt)
    ∙ ap (λ (n : Numbers). counting_all rank n es) (counts s e rank lt)

counts_from_opening : (ranks rank : ℕ) (events : List Event) → rank < ranks →
    session (after_all (opening ranks) events) rank ≡ counting_all rank fresh events
counts_from_opening ranks rank events lt =
    let there : rank < length (replicate ranks fresh) = subst (λ (n : ℕ). rank < n) (sym (length-replicate ranks fresh)) lt in
    counts_all (opening ranks) events rank there
    ∙ ap (λ (n : Numbers). counting_all rank n events) (get_or-replicate ranks rank fresh fresh lt)

pub counted : (ranks rank : ℕ) (events : List Event) → rank < ranks →
    IsCounted rank events (after_all (opening ranks) events)
counted ranks rank events lt =
    let s = after_all (opening ranks) events in
    let begin : rank < length (replicate ranks fresh) = subst (λ (n : ℕ). rank < n) (sym (length-replicate ranks fresh)) lt in
    let there : rank < length s.numbers = there_after (opening ranks) events rank begin in
    let is : session s rank ≡ counting_all rank fresh events = counts_from_opening ranks rank events lt in
    record {
      next = ap (λ (n : Numbers). n.begun) is;
      full = full_to s.numbers rank there ∙ ap (λ (n : Numbers). n.begun == most_transfers) is;
      due = λ transfer. ap (λ o. is_due_number o transfer) (slice_get-get_or s.numbers rank fresh there)
          ∙ ap (λ (n : Numbers). not (n.announced == most_transfers) && (n.announced == transfer)) is;
      worn = full_from s.numbers rank there ∙ ap (λ (n : Numbers). n.announced == most_transfers) is;
    }

-- BOTH SIDES

due_at : (worn : Bool) (n m : ℕ) → worn ≡ false → n ≡ m → (not worn && (n == m)) ≡ true
due_at false n m e same = subst (λ (x : ℕ). (n == x) ≡ true) same (eq-eqb n n refl)
due_at true n m e same = sym e

pub alike : (ranks source target : ℕ) (sent received : List Event) → source < ranks → target < ranks →
    announcements_by source received ≡ transfers_to target sent →
    AreAlike source target (after_all (opening ranks) sent) (after_all (opening ranks) received)
alike ranks source target sent received source_is target_is same =
    let of_sender = counted ranks target sent target_is in
    let of_receiver = counted ranks source received source_is in
    let full = of_receiver.worn ∙ ap (λ n. n == most_transfers) same ∙ sym of_sender.full in
    record {
      full = full;
      next = λ is_left. of_receiver.due _ ∙
          due_at _ _ _ (sym of_receiver.worn ∙ full ∙ is_left) (same ∙ sym of_sender.next);
      only = λ transfer is_due.
          let is = and_parts _ _ (sym (of_receiver.due transfer) ∙ is_due) in
          sym (eqb-true _ _ is.1) ∙ same ∙ sym of_sender.next;
    }
