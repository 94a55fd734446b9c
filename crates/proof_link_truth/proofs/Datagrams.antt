-- What a rank hears in a datagram of the world is true, and is heeded.
use Rattle.std.proofs.Common.{◌≡◌, ℕ, ◌+◌, ◌-◌, ◌^◌, ◌<◌, ◌≤◌, Bool, true, false, List, Option, Some, None, Result, Ok}
use Rattle.std.proofs.Common.{Err, if◌then◌else◌, nat_le, nat_lt, ◌==◌, slice_get, slice_index, refl, sym, ap, ◌∙◌}
use Rattle.std.proofs.Common.{subst, inl, inr, ◌⊎◌, arith}
use Rattle.std.proofs.lemmas.Bool.{cases_lt, eqb-false, eqb-true, leb-false, ltb-false}
use Rattle.vocabulary.specs.declared.endpoint.Endpoint.{Endpoint}
use Rattle.datagram.specs.declared.datagram.Header.{Header}
use Rattle.datagram.specs.declared.refusal.DatagramRefusal as lower
use Rattle.datagram.specs.ByteMeanings.{datagram_of, guard}
use Rattle.datagram.proofs.InJob.{InJob, in_job}
use Rattle.datagram.specs.Spellings.{body_is_within}
use Rattle.datagram.specs.Spellings.{AckBody, BodyText, DatagramText, FrameBody, FrameText, ResetBody}
use Rattle.incarnation.specs.declared.judgement.Judgement.{Judgement}
use Rattle.incarnation.specs.declared.judgement.Judgement.TheVariants.{Current, Learn}
use Rattle.incarnation.specs.declared.place.Place.{Place}
use Rattle.incarnation.specs.declared.refusal.IncarnationRefusal as judging
use Rattle.incarnation.specs.declared.refusal.IncarnationRefusal.TheVariants as judgings
use Rattle.incarnation.specs.Judgements.{judgement}
use Rattle.reliable_link.specs.ReceiverState.{held_at}
use Rattle.reliable_link.specs.SenderState.{out_end}
use Rattle.sessions.specs.declared.heard.Unheard.{Unheard}
use Rattle.sessions.specs.declared.peers.Peer.{Peer}
use Rattle.sessions.specs.declared.refusal.SessionRefusal.{SessionRefusal}
use Rattle.sessions.specs.declared.refusal.SessionRefusal.TheVariants as refusals
use Rattle.sessions.specs.Events.{after_heard, answer_in, linked, taught}
use Rattle.sessions.specs.HeardBytes.{
  Acknowledges,
  EarlyText,
  Follows,
  Hands,
  HeardText,
  Holds,
  Nothing,
  Repeats,
  WordText,
}
use Rattle.sessions.specs.HeardBytes.{heard_by, heard_in, heard_of, said, session_met, unmeant, word_behind, word_of}
use Rattle.sessions.specs.Peers.{peer_at}
use Rattle.sessions.specs.SessionsState.{SessionsState, knowledge}
use Rattle.sessions.specs.Spellings.{header_to}
use Rattle.proof_link_truth.specs.Events.{HearingIsTrue, HearsTruth, IsAt, IsFromDatagram, IsHeard, IsLesson}
use Rattle.proof_link_truth.specs.Events.{IsTrueWord, LeavesTrue, links_heard, links_heeded}
use Rattle.link_truth.specs.Links.{Links}
use Rattle.link_truth.specs.Sessions.{PeerTells, SessionsTell}
use Rattle.link_truth.specs.DatagramTruth.{IsTold}
use Rattle.link_truth.specs.Truth.{AreTrue}
use Rattle.link_truth.specs.Wire.{at, place_of, wire}
use Rattle.link_truth.specs.Witness.{IsAmong}
use Rattle.proof_link_truth.proofs.WordLaws.{Bears, Hears, heeded, hears, peer_of}
use Rattle.proof_link_truth.proofs.HeaderLaws.{IsCurrent, IsLater, is_current, is_later, same_endpoint}
use Rattle.proof_link_truth.proofs.RestartLaws.{taught_peer}
use Rattle.proof_link_truth.proofs.Lists.{All_get}
use Rattle.proof_link_truth.proofs.ByteLaws.{HaveWidths}
use Rattle.proof_link_truth.proofs.Senders.{AreBegun}
use Rattle.proof_link_truth.proofs.Words.{IsWord, Says, SaysFrame, told_is_word, word}

-- ---- a datagram of the world, as it is read

-- it came to a rank
pub record IsComing (n r : ℕ) (datagrams : List (ℕ × List ℕ)) (links : Links) (current : ℕ →
    ℕ) (bytes : List ℕ) : Type 0 where
  pub source : Endpoint
  pub target : Endpoint
  pub to : target.rank ≡ r
  pub begun : AreBegun n source target current
  pub says : IsWord n datagrams source target links bytes

-- each is
pub is_coming : (n r number : ℕ) (bytes : List ℕ) (sessions : List SessionsState) (datagrams : List (ℕ × List ℕ))
    (links : Links) (current : ℕ → ℕ)
    → AreTrue n sessions datagrams links current → slice_get datagrams number ≡ Some (r, bytes) →
    IsComing n r datagrams links current bytes
is_coming n r number bytes sessions datagrams links current true_now there =
    let told : IsTold n links current (r, bytes) = All_get (IsTold n links current) datagrams number (r, bytes) true_now.told there in
    let widths : HaveWidths n told.source told.target = record {
      few = true_now.few;
      source_is = told.source_is;
      target_is = told.target_is;
      source_last = omega (arith, told.source_begun, true_now.last told.source.rank);
      target_last = omega (arith, told.target_begun, true_now.last told.target.rank);
    } in
    record {
      source = told.source;
      target = told.target;
      to = told.to;
      begun = record {
        source = told.source_is;
        target = told.target_is;
        apart = told.apart;
        source_begun = told.source_begun;
        target_begun = told.target_begun;
      };
      says = told_is_word n datagrams told.source told.target links bytes widths true_now.sound told.tells
          (record { place = number; there = there ∙ ap (λ (x : ℕ). Some (x, bytes)) (sym told.to) });
    }

-- a datagram that was read, where it is within the limit, and else this refusal
abbrev pub within_or_not : Bool → lower.DatagramRefusal → DatagramText → Result DatagramText lower.DatagramRefusal
within_or_not test why d = guard test why (Ok d)

-- what is heard in bytes that are read so: it depends on whether they are within the job's limit
pub record IsHeardIn (old : SessionsState) (bytes : List ℕ) (d : DatagramText) : Type 0 where
  pub why : lower.DatagramRefusal
  pub is : heard_of old bytes ≡ heard_in old (within_or_not (body_is_within old.place.message_limit d.body) why d) bytes

pub heard_read : (old : SessionsState) (bytes : List ℕ) (d : DatagramText) → datagram_of bytes ≡ Ok d →
    IsHeardIn old bytes d
unfolding heard_of
heard_read old bytes d is =
    let j : InJob old.place.message_limit bytes d = in_job old.place.message_limit bytes d is in
    record { why = j.0; is = ap (λ (r : Result DatagramText lower.DatagramRefusal). heard_in old r bytes) j.1 }

-- where anything is heard, it is by what they say
pub heard_within : (old : SessionsState) (bytes : List ℕ) (d : DatagramText) (h : HeardText)
    (why : lower.DatagramRefusal) (test : Bool) → heard_in old (within_or_not test why d) bytes ≡ Ok h →
    heard_by (judgement (knowledge old) d.header) old d bytes ≡ Ok h
heard_within old bytes d h why true is = is
heard_within old bytes d h why false is = absurd cc

-- ---- what the link makes of it

-- what was answered, or else this
abbrev word_or : WordText → Result WordText SessionRefusal → WordText
word_or w (Ok x) = x
word_or w (Err e) = w

-- a word that was answered
abbrev answered : WordText → Result WordText SessionRefusal
answered x = Ok x

-- words that are answered alike are the same
same_word : (x w : WordText) → answered x ≡ Ok w → x ≡ w
same_word x w is = ap (word_or w) is

module _ (n : ℕ) (datagrams : List (ℕ × List ℕ)) (s d : Endpoint) (links : Links) (p : Peer) (w : WordText) where
  -- a frame behind the next one, by what is held at its place
  behind_bears : (q : ℕ) (t : FrameText) (bytes : List ℕ) → SaysFrame n datagrams s d links q t bytes →
      (links s d).handed < q → q < (links s d).handed + 64
      → (o : Option (List ℕ)) → word_behind o (record { number = q; frame = t; bytes = bytes }) ≡ Ok w →
      Bears n datagrams links s d w
  behind_bears q t bytes says above near None h =
      let early : EarlyText = record { number = q; frame = t; bytes = bytes } in
      subst (Bears n datagrams links s d) (same_word (Holds early) w h) (record {
        behind = record {
          above = above;
          near = near;
          held =
              record { frame = t; accepted = says.there; spelled = says.spelled };
        };
        sent = says.sent;
      })
  behind_bears q t bytes says above near (Some other) h = subst (Bears n datagrams links s d) (same_word Repeats w h) tt

  -- the next frame
  next_bears : (q : ℕ) (t : FrameText) (bytes : List ℕ) → SaysFrame n datagrams s d links q t bytes →
      q ≡ (links s d).handed → answered (Hands t) ≡ Ok w
      → Bears n datagrams links s d w
  next_bears q t bytes says handed h =
      subst (Bears n datagrams links s d) (same_word (Hands t) w h) (record {
        next = record {
          next = subst (λ (k : ℕ). slice_get (links s d).accepted k ≡ Some t) handed says.there;
          carried =
              says.carried;
        };
        sent = subst (λ (k : ℕ). IsAmong datagrams (d.rank, wire n s d k t)) handed
            (subst (λ (x : List ℕ). IsAmong datagrams (d.rank, x)) says.spelled says.sent);
      })

  -- a frame, by its number
  frame_bears : (q : ℕ) (t : FrameText) (bytes : List ℕ) → SaysFrame n datagrams s d links q t bytes → p.receiver.next ≡
      (links s d).handed → (x y z : Bool)
      → nat_lt q p.receiver.next ≡ x → nat_le (p.receiver.next + 64) q ≡ y → (q == p.receiver.next) ≡ z
      → (if x then Ok Repeats else
      (if y then Err refusals.OutOfWindow else
      (if z then Ok (Hands t) else
      word_behind (held_at p.receiver.held (q - p.receiver.next))
      (record { number = q; frame = t; bytes = bytes })))) ≡ Ok w
      → Bears n datagrams links s d w
  frame_bears q t bytes says receiver true y z below far same h =
      subst (Bears n datagrams links s d) (same_word Repeats w h) tt
  frame_bears q t bytes says receiver false true z below far same h = absurd cc
  frame_bears q t bytes says receiver false false true below far same h =
      next_bears q t bytes says (eqb-true q p.receiver.next same ∙ receiver) h
  frame_bears q t bytes says receiver false false false below far same h =
      behind_bears q t bytes says (above (cases_lt p.receiver.next q))
      (omega (arith, receiver, leb-false (p.receiver.next + 64) q far))
      (held_at p.receiver.held (q - p.receiver.next)) h
    where
      above : (p.receiver.next < q) ⊎ (q ≤ p.receiver.next) → (links s d).handed < q
      above (inl lt) = omega (arith, lt, receiver)
      above (inr le) = absurd (eqb-false q p.receiver.next same (omega (arith, le, ltb-false q p.receiver.next below)))

  -- an acknowledgement
  ack_bears : (q held : ℕ) → q ≤ (links d s).handed → (x y : Bool)
      → (if x then (if y then Ok (Acknowledges q held) else Err refusals.OutOfWindow) else Err refusals.OutOfWindow) ≡
      Ok w → Bears n datagrams links s d w
  ack_bears q held le true true h = subst (Bears n datagrams links s d) (same_word (Acknowledges q held) w h) le
  ack_bears q held le true false h = absurd cc
  ack_bears q held le false y h = absurd cc

  -- what a true body says in a session that tells of its link
  word_bears : (q : ℕ) (b : BodyText) (bytes : List ℕ) → Says n datagrams s d links q b bytes → p.receiver.next ≡
      (links s d).handed → word_of p q b bytes ≡ Ok w
      → Bears n datagrams links s d w
  word_bears q (FrameBody t) bytes says receiver h =
      frame_bears q t bytes says receiver (nat_lt q p.receiver.next) (nat_le (p.receiver.next + 64) q)
      (q == p.receiver.next) refl refl refl h
  word_bears q (AckBody held) bytes says receiver h =
      ack_bears q held says (nat_le q (out_end p.sender)) (nat_lt held (2 ^ (out_end p.sender - q))) h
  word_bears q ResetBody bytes says receiver h = subst (Bears n datagrams links s d) (same_word Nothing w h) tt

-- what a word bears is true
bears_truth : (n : ℕ) (datagrams : List (ℕ × List ℕ)) (links : Links) (s d : Endpoint) (w : WordText) →
    Bears n datagrams links s d w → IsTrueWord n links s d w
bears_truth n datagrams links s d (Acknowledges number held) bears = bears
bears_truth n datagrams links s d Repeats bears = tt
bears_truth n datagrams links s d (Hands frame) bears = bears.next
bears_truth n datagrams links s d (Holds t) bears = bears.behind
bears_truth n datagrams links s d (Follows frame) bears = absurd bears
bears_truth n datagrams links s d Nothing bears = tt

-- ---- what its endpoints make of it

-- what is heard in a datagram of s for d
record IsSaid (old : SessionsState) (s d : Endpoint) (q : ℕ) (b : BodyText) (bytes : List ℕ)
    (h : HeardText) : Type 0 where
  target_incarnation : d.incarnation ≡ old.place.endpoint.incarnation
  lesson : Bool
  incarnation : IsLesson lesson (slice_index old.known s.rank) s.incarnation
  word : WordText
  says : word_of (session_met lesson (peer_at old.peers s.rank)) q b bytes ≡ Ok word
  heard : h ≡ record { source = s; lesson = lesson; word = word }

-- a word that was found
record IsFound (s : Endpoint) (lesson : Bool) (o : Result WordText SessionRefusal) (h : HeardText) : Type 0 where
  word : WordText
  says : o ≡ Ok word
  heard : h ≡ record { source = s; lesson = lesson; word = word }

-- what was heard, or else this
abbrev heard_or : HeardText → Result HeardText Unheard → HeardText
heard_or h (Ok x) = x
heard_or h (Err u) = h

-- whatever is heard has a word
is_found : (s : Endpoint) (lesson : Bool) (o : Result WordText SessionRefusal) (h : HeardText) →
    said s lesson o ≡ Ok h → IsFound s lesson o h
is_found s lesson (Ok w) h is = record { word = w; says = refl; heard = sym (ap (heard_or h) is) }
is_found s lesson (Err e) h is = absurd cc

-- what isn't meant for the rank is not heard
none_unmeant : (e : judging.IncarnationRefusal) (s : Endpoint) (b : BodyText) (h : HeardText) →
    unmeant {A = HeardText} e s b ≡ Ok h → ⊥
none_unmeant judgings.StaleTarget s (FrameBody t) h is = absurd cc
none_unmeant judgings.StaleTarget s (AckBody held) h is = absurd cc
none_unmeant judgings.StaleTarget s ResetBody h is = absurd cc
none_unmeant judgings.StaleSource s b h is = absurd cc
none_unmeant judgings.ForeignJob s b h is = absurd cc
none_unmeant judgings.NotForMe s b h is = absurd cc
none_unmeant judgings.Limit s b h is = absurd cc
none_unmeant judgings.OutOfMemory s b h is = absurd cc

-- by how it is judged
judged_says : (n : ℕ) (old : SessionsState) (s d : Endpoint) (q : ℕ) (b : BodyText) (bytes : List ℕ) (h : HeardText)
    (j : Result Judgement judging.IncarnationRefusal)
    → judgement (knowledge old) (header_to (place_of n s) d q) ≡ j → heard_by j old (word n s d q b) bytes ≡ Ok h →
    IsSaid old s d q b bytes h
judged_says n old s d q b bytes h (Ok Current) judged is =
    let c : IsCurrent (knowledge old) (header_to (place_of n s) d q) = is_current (knowledge old) (header_to (place_of n s) d q) judged in
    let f : IsFound s false (word_of (session_met false (peer_at old.peers s.rank)) q b bytes) h = is_found s false (word_of (session_met false (peer_at old.peers s.rank)) q b bytes) h is in
    record {
      target_incarnation = c.target_incarnation;
      lesson = false;
      incarnation = sym c.known;
      word = f.word;
      says =
          f.says;
      heard = f.heard;
    }
judged_says n old s d q b bytes h (Ok (Learn i)) judged is =
    let c : IsLater (knowledge old) (header_to (place_of n s) d q) = is_later (knowledge old) (header_to (place_of n s) d q) i judged in
    let f : IsFound s true (word_of (session_met true (peer_at old.peers s.rank)) q b bytes) h = is_found s true (word_of (session_met true (peer_at old.peers s.rank)) q b bytes) h is in
    record {
      target_incarnation = c.target_incarnation;
      lesson = true;
      incarnation = c.above;
      word = f.word;
      says =
          f.says;
      heard = f.heard;
    }
judged_says n old s d q b bytes h (Err e) judged is = absurd (none_unmeant e s b h is)

-- ---- what is heard in a datagram that went to the rank

-- all of it
record IsClear (n r : ℕ) (sessions : List SessionsState) (datagrams : List (ℕ × List ℕ)) (links : Links) (current : ℕ →
    ℕ) (old : SessionsState) (h : HeardText) : Type 0 where
  source : Endpoint
  lesson : Bool
  word : WordText
  heard : h ≡ record { source = source; lesson = lesson; word = word }
  from : IsHeard n r current old.known source lesson
  knows : Hears n r source sessions datagrams links current (taught lesson old source)
  bears : Bears n datagrams links source (at r (current r)) word

is_clear : (n r : ℕ) (sessions : List SessionsState) (datagrams : List (ℕ × List ℕ)) (links : Links) (current : ℕ →
    ℕ) (old : SessionsState) (h : HeardText)
    → AreTrue n sessions datagrams links current → IsAt sessions r old → IsFromDatagram datagrams r old h →
    IsClear n r sessions datagrams links current old h
is_clear n r sessions datagrams links current old h true_now stands f =
    record { source = s; lesson = i.lesson; word = i.word; heard = i.heard; from = from; knows = knows; bears = bears }
  where
    c : IsComing n r datagrams links current f.bytes
    c = is_coming n r f.number f.bytes sessions datagrams links current true_now f.there

    s : Endpoint
    s = c.source

    own : Endpoint
    own = at r (current r)

    header : Header
    header = header_to (place_of n s) c.target c.says.number

    read : IsHeardIn old f.bytes (word n s c.target c.says.number c.says.body)
    read = heard_read old f.bytes (word n s c.target c.says.number c.says.body) c.says.read

    i : IsSaid old s c.target c.says.number c.says.body f.bytes h
    i = judged_says n old s c.target c.says.number c.says.body f.bytes h (judgement (knowledge old) header) refl
        (heard_within old f.bytes (word n s c.target c.says.number c.says.body) h read.why
        (body_is_within old.place.message_limit c.says.body) (sym read.is ∙ f.hears))

    tells : SessionsTell n current r old links
    tells = true_now.tells r old stands.there

    meant : c.target ≡ own
    meant = same_endpoint c.target own c.to
        (i.target_incarnation ∙ ap (λ (p : Place). p.endpoint.incarnation) tells.place)

    begun : AreBegun n s own current
    begun = subst (λ (x : Endpoint). AreBegun n s x current) meant c.begun

    from : IsHeard n r current old.known s i.lesson
    from = record { there = begun.source; apart = begun.apart; begun = begun.source_begun; incarnation = i.incarnation }

    knows : Hears n r s sessions datagrams links current (taught i.lesson old s)
    knows = hears n r s i.lesson sessions datagrams links current old true_now tells (true_now.held r old stands.there)
        stands.out begun from

    met_is : peer_at (taught i.lesson old s).peers s.rank ≡ session_met i.lesson (peer_at old.peers s.rank)
    met_is = taught_peer old.peers s.rank i.lesson (omega (arith, begun.source, tells.each))

    peer : PeerTells n current own s.rank s.incarnation (peer_at (taught i.lesson old s).peers s.rank) links
    peer = peer_of n r s sessions datagrams links current (taught i.lesson old s) knows

    bears : Bears n datagrams links s own i.word
    bears = word_bears n datagrams s own links (session_met i.lesson (peer_at old.peers s.rank)) i.word c.says.number
        c.says.body f.bytes
        (subst (λ (x : Endpoint). Says n datagrams s x links c.says.number c.says.body f.bytes) meant c.says.says)
        (sym (ap (λ (p : Peer). p.receiver.next) met_is) ∙ peer.receiver.next) i.says

-- what is heard is true
pub hearing_is_true : HearingIsTrue
hearing_is_true n r sessions datagrams links current old h true_now stands f =
    let c : IsClear n r sessions datagrams links current old h = is_clear n r sessions datagrams links current old h true_now stands f in
    subst (HearsTruth n r current old links) (sym c.heard)
    (record { heard = c.from; word = bears_truth n datagrams links c.source (at r (current r)) c.word c.bears })

-- and leaves the links true once it is heeded
pub heard_leaves : (n r : ℕ) (sessions : List SessionsState) (datagrams : List (ℕ × List ℕ)) (links : Links)
    (current : ℕ → ℕ) (old : SessionsState) (h : HeardText)
    → AreTrue n sessions datagrams links current → IsAt sessions r old → IsFromDatagram datagrams r old h
    → LeavesTrue n sessions datagrams r (after_heard old (Some h)) (links_heard links (at r (current r)) (Some h))
    current
heard_leaves n r sessions datagrams links current old h true_now stands f =
    subst (λ (x : HeardText). LeavesTrue n sessions datagrams r (after_heard old (Some x))
    (links_heard links own (Some x)) current) (sym c.heard)
    (subst (λ (p : Peer). LeavesTrue n sessions datagrams r
    (linked e c.source c.word (answer_in c.word e.place p c.source)) (links_heeded links c.source own c.word)
    current) met_is
    (heeded n r c.source sessions datagrams links current e c.word c.knows c.bears))
  where
    own : Endpoint
    own = at r (current r)

    c : IsClear n r sessions datagrams links current old h
    c = is_clear n r sessions datagrams links current old h true_now stands f

    e : SessionsState
    e = taught c.lesson old c.source

    met_is : peer_at e.peers c.source.rank ≡ session_met c.lesson (peer_at old.peers c.source.rank)
    met_is = taught_peer old.peers c.source.rank c.lesson
        (omega (arith, c.from.there, (true_now.tells r old stands.there).each))
