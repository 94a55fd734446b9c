-- Whom lines are for: reading and the grammar agree.
use Rattle.std.proofs.Common.{◌≡◌, ◌≢◌, ℕ, Bool, true, false, cond, eqb, List, [], ◌∷◌, ◌++◌, length, take, drop}
use Rattle.std.proofs.Common.{Option, Some, None, refl, sym, ap, ◌∙◌}
use Rattle.std.specs.Prelude.{codes, ◌&&◌}
use Rattle.std.specs.List.{position}
use Rattle.std.specs.Str.{bytes_eq}
use Rattle.std.proofs.lemmas.Bool.{eqb-true, false≢true}
use Rattle.std.proofs.lemmas.List.{nil_from_length}
use Rattle.tokens.specs.Grammar.{Word, StandFor}
use Rattle.tokens.specs.Numbers.{number_or}
use Rattle.tokens.specs.Results.{◌>>=◌}
use Rattle.tokens.specs.Fields.{rank_of, each}
use Rattle.tokens.proofs.WordLaws.{bind_ok, made, same_word, other_word, capped_takes, capped_again, no_letters}
use Rattle.tokens.proofs.FieldLaws.{rank_takes, rank_again}
use Rattle.tokens.proofs.EachLaws.{all_take, all_again}
use Rattle.tokens.proofs.MarkLaws.{mark_here, digits_plain, no_place, a_place, take_front, drop_front}
use Rattle.script_files.specs.declared.audience.AudienceMember.{AudienceMember}
use Rattle.script_files.specs.declared.audience.Audience.{Audience}
use Rattle.script_files.specs.declared.audience.Audience.TheVariants as audiences
use Rattle.script_files.specs.Grammar.{IsNamed, IsMember, IsAudience}
use Rattle.script_files.specs.LineWords.{is_point, member_at, member_of, one_member, audience_of}

both : (a b : Bool) → (a && b) ≡ true → (a ≡ true) × (b ≡ true)
both true b e = (refl, e)
both false b e = absurd cc

-- ---- one rank

member_made : ℕ → Option ℕ → AudienceMember
member_made r one = record { rank = r; incarnation = one }

at_takes : (word : Word) (o : Option ℕ) (m : AudienceMember) → position is_point word ≡ o → member_at o word ≡ Some m →
    IsMember word m
unfolding member_made
at_takes word None m is e =
    let r = bind_ok (rank_of word) (λ r. Some (member_made r None)) m e in
    made (IsMember word) (member_made r.0 None) m (rank_takes word r.0 r.1) r.2
at_takes word (Some i) m is e =
    let r = bind_ok (rank_of (take i word)) (λ r. number_or 65536 (drop 1 (drop i word)) >>= λ one. Some (member_made r (Some one))) m e in
    let n = bind_ok (number_or 65536 (drop 1 (drop i word))) (λ one. Some (member_made r.0 (Some one))) m r.2 in
    made (IsMember word) (member_made r.0 (Some n.0)) m (
      take i word,
      drop 1 (drop i word),
      mark_here 46 word i is,
      rank_takes (take i word) r.0 r.1,
      capped_takes 65536 (drop 1 (drop i word)) n.0 n.1,
    ) n.2

pub member_takes : (word : Word) (m : AudienceMember) → member_of word ≡ Some m → IsMember word m
unfolding member_of
member_takes word m e = at_takes word (position is_point word) m refl e

plain_member : (word : Word) (rank : ℕ) → position is_point word ≡ None → rank_of word ≡ Some rank →
    member_of word ≡ Some (member_made rank None)
unfolding member_of member_made
plain_member word rank p e = rw (p, e) refl

pointed_member : (word front rest : Word) (i rank one : ℕ) → position is_point word ≡ Some i → take i word ≡ front →
    drop 1 (drop i word) ≡ rest → rank_of front ≡ Some rank → number_or 65536 rest ≡ Some one →
    member_of word ≡ Some (member_made rank (Some one))
unfolding member_of member_made
pointed_member word front rest i rank one p t d r n =
    let r0 : rank_of (take i word) ≡ Some rank = ap rank_of t ∙ r in
    let n0 : number_or 65536 (drop 1 (drop i word)) ≡ Some one = ap (number_or 65536) d ∙ n in
    rw (p, r0, n0) refl

named_again : (word : Word) (rank : ℕ) (one : Option ℕ) → IsNamed word rank one →
    member_of word ≡ Some (member_made rank one)
named_again word rank None h =
    plain_member word rank (no_place 46 word (digits_plain 46 word refl h.1.digits)) (rank_again word rank h)
named_again word rank (Some one) h =
    let spelled : Word = h.0 ++ 46 ∷ h.1 in
    let plain = digits_plain 46 h.0 refl h.3.1.digits in
    ap member_of h.2
    ∙ pointed_member spelled h.0 h.1 (length h.0) rank one (a_place 46 h.0 h.1 plain) (take_front h.0 (46 ∷ h.1))
    (ap (drop 1) (drop_front h.0 (46 ∷ h.1))) (rank_again h.0 rank h.3) (capped_again 65536 h.1 one h.4)

pub member_again : (word : Word) (m : AudienceMember) → IsMember word m → member_of word ≡ Some m
unfolding member_made
member_again word m h = named_again word m.rank m.incarnation h

-- ---- audiences

all_or_ranks : (t : Bool) (words : List Word) (read : Option (List AudienceMember)) (a : Audience) →
    (t ≡ true → words ≡ codes "all" ∷ []) →
    ((ms : List AudienceMember) → read ≡ Some ms → (words ≢ []) × StandFor IsMember words ms)
    → cond t (Some audiences.All) (read >>= λ members. Some (audiences.Ranks members)) ≡ Some a → IsAudience words a
all_or_ranks true words read a all ranks e = made (IsAudience words) audiences.All a (all refl) e
all_or_ranks false words read a all ranks e =
    let b = bind_ok read (λ members. Some (audiences.Ranks members)) a e in
    made (IsAudience words) (audiences.Ranks b.0) a (ranks b.0 b.1) b.2

not_empty : (word : Word) (words : List Word) → (word ∷ words) ≢ []
not_empty word words e = let q : ⊥ = absurd cc in q

all_alone : (word : Word) (words : List Word) → (bytes_eq word (codes "all") && eqb (length words) 0) ≡ true →
    word ∷ words ≡ codes "all" ∷ []
all_alone word words e =
    let p = both (bytes_eq word (codes "all")) (eqb (length words) 0) e in
    ap (λ (w : Word). w ∷ words) (same_word word (codes "all") p.0) ∙
    ap (λ (ws : List Word). codes "all" ∷ ws) (nil_from_length words (eqb-true (length words) 0 p.1))

pub audience_takes : (words : List Word) (a : Audience) → audience_of words ≡ Some a → IsAudience words a
unfolding audience_of
audience_takes [] a e = absurd cc
audience_takes (w ∷ ws) a e =
    all_or_ranks (bytes_eq w (codes "all") && eqb (length ws) 0) (w ∷ ws) (each one_member (w ∷ ws)) a (all_alone w ws)
    (λ ms h. (not_empty w ws, all_take IsMember member_of member_takes (w ∷ ws) ms h)) e

-- a word that names a rank isn't `all`
not_all : (word : Word) (rank : ℕ) (one : Option ℕ) → IsNamed word rank one → bytes_eq word (codes "all") ≡ false
not_all word rank None h = no_letters word (codes "all") h.0 refl h.1
not_all word rank (Some one) h = other_word word (codes "all") (λ e. pointless (sym h.2 ∙ e)) where
  pointless : h.0 ++ 46 ∷ h.1 ≡ codes "all" → ⊥
  pointless e =
      absurd (let q : position is_point (h.0 ++ 46 ∷ h.1) ≡ None = ap (position is_point) e in
      (let r : Some (length h.0) ≡ None = sym (a_place 46 h.0 h.1 (digits_plain 46 h.0 refl h.3.1.digits)) ∙ q in
      (let z : ⊥ = absurd cc in z)))

no_and : (a b : Bool) → a ≡ false → (a && b) ≡ false
no_and false b e = refl
no_and true b e = absurd (false≢true (sym e))

all_read : audience_of (codes "all" ∷ []) ≡ Some audiences.All
unfolding audience_of
all_read = refl

ranks_read : (word : Word) (words : List Word) (ms : List AudienceMember) →
    (bytes_eq word (codes "all") && eqb (length words) 0) ≡ false → each one_member (word ∷ words) ≡ Some ms →
    audience_of (word ∷ words) ≡ Some (audiences.Ranks ms)
unfolding audience_of
ranks_read word words ms t e = rw (t, e) refl

pub audience_again : (words : List Word) (a : Audience) → IsAudience words a → audience_of words ≡ Some a
audience_again words audiences.All h = ap audience_of h ∙ all_read
audience_again [] (audiences.Ranks ms) h = absurd (h.0 refl)
audience_again (w ∷ ws) (audiences.Ranks []) h = absurd h.1
audience_again (w ∷ ws) (audiences.Ranks (m ∷ ms)) h =
    ranks_read w ws (m ∷ ms)
    (no_and (bytes_eq w (codes "all")) (eqb (length ws) 0) (not_all w m.rank m.incarnation h.1.0))
    (all_again IsMember member_of member_again (w ∷ ws) (m ∷ ms) h.1)
