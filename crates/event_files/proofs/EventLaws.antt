-- What lines ask for: reading and the grammar agree.
use Rattle.std.proofs.Common.{◌≡◌, ℕ, Bool, true, false, cond, leb, List, [], ◌∷◌, Option, Some, None, refl, sym, ap}
use Rattle.std.proofs.Common.{subst, ◌∙◌}
use Rattle.std.specs.Prelude.{codes}
use Rattle.std.specs.Str.{bytes_eq}
use Rattle.std.proofs.lemmas.Bool.{leb-true, le-leb}
use Rattle.statements.specs.declared.action.Action.{Action}
use Rattle.tokens.specs.Grammar.{Word}
use Rattle.tokens.specs.Numbers.{number_or, number_up_to}
use Rattle.tokens.specs.Results.{◌>>=◌}
use Rattle.statements.specs.LineWords.{action_of}
use Rattle.tokens.specs.Fields.{first, end_of_line, rank_of}
use Rattle.tokens.proofs.WordLaws.{bind_ok, made, same_word, if_some, capped_takes, capped_again, bounded_takes}
use Rattle.tokens.proofs.WordLaws.{bounded_again}
use Rattle.tokens.proofs.FieldLaws.{rank_takes, rank_again}
use Rattle.statements.proofs.ActionLaws.{action_takes, action_again}
use Rattle.event_files.specs.declared.verb.EventVerb.{EventVerb}
use Rattle.event_files.specs.declared.verb.EventVerb.TheVariants as verbs
use Rattle.event_files.specs.declared.file.EventStatement.{EventStatement}
use Rattle.event_files.specs.declared.file.EventStatement.TheVariants as statements
use Rattle.event_files.specs.Grammar.{SpellsStatement, IsWorld}
use Rattle.event_files.specs.LineWords.{verb_of, bytes_of, delivery_of, tick_of, stray_of, restart_of, act_of}
use Rattle.event_files.specs.LineWords.{statement_by, statement_of, positive, size_of}
use Rattle.event_files.proofs.VerbLaws.{verb_word, verb_takes, verb_again, no_verb}
use Rattle.event_files.proofs.HexLaws.{bytes_take, bytes_again}

-- ---- from reading to the grammar

delivery_takes : (words : List Word) (s : EventStatement) → delivery_of words ≡ Some s →
    SpellsStatement (codes "deliver" ∷ words) s
unfolding delivery_of first end_of_line
delivery_takes [] s e = absurd cc
delivery_takes (a ∷ b ∷ words) s e = absurd cc
delivery_takes (a ∷ []) s e =
    let p = bind_ok (number_or 18446744073709551615 a) (λ d. Some (statements.Deliver d)) s e in
    made (SpellsStatement (codes "deliver" ∷ a ∷ [])) (statements.Deliver p.0) s
    (a, refl, capped_takes 18446744073709551615 a p.0 p.1) p.2

tick_takes : (words : List Word) (s : EventStatement) → tick_of words ≡ Some s →
    SpellsStatement (codes "tick" ∷ words) s
unfolding tick_of first end_of_line
tick_takes [] s e = absurd cc
tick_takes (a ∷ []) s e = absurd cc
tick_takes (a ∷ b ∷ c ∷ words) s e = absurd cc
tick_takes (a ∷ b ∷ []) s e =
    let p = bind_ok (rank_of a) (λ r. number_up_to 18446744073709551615 b >>= λ n. Some (statements.Tick r n)) s e in
    let q = bind_ok (number_up_to 18446744073709551615 b) (λ n. Some (statements.Tick p.0 n)) s p.2 in
    let n = bounded_takes 18446744073709551615 b q.0 q.1 in
    made (SpellsStatement (codes "tick" ∷ a ∷ b ∷ [])) (statements.Tick p.0 q.0) s (
      a,
      b,
      refl,
      rank_takes a p.0 p.1,
      n.0,
      n.1,
    ) q.2

stray_takes : (words : List Word) (s : EventStatement) → stray_of words ≡ Some s →
    SpellsStatement (codes "stray" ∷ words) s
unfolding stray_of first end_of_line
stray_takes [] s e = absurd cc
stray_takes (a ∷ []) s e = absurd cc
stray_takes (a ∷ b ∷ c ∷ words) s e = absurd cc
stray_takes (a ∷ b ∷ []) s e =
    let p = bind_ok (rank_of a) (λ r. bytes_of b >>= λ bytes. Some (statements.Stray r bytes)) s e in
    let q = bind_ok (bytes_of b) (λ bytes. Some (statements.Stray p.0 bytes)) s p.2 in
    made (SpellsStatement (codes "stray" ∷ a ∷ b ∷ [])) (statements.Stray p.0 q.0) s (
      a,
      b,
      refl,
      rank_takes a p.0 p.1,
      bytes_take b q.0 q.1,
    ) q.2

restart_takes : (words : List Word) (s : EventStatement) → restart_of words ≡ Some s →
    SpellsStatement (codes "restart" ∷ words) s
unfolding restart_of first end_of_line
restart_takes [] s e = absurd cc
restart_takes (a ∷ b ∷ words) s e = absurd cc
restart_takes (a ∷ []) s e =
    let p = bind_ok (rank_of a) (λ r. Some (statements.Restart r)) s e in
    made (SpellsStatement (codes "restart" ∷ a ∷ [])) (statements.Restart p.0) s (a, refl, rank_takes a p.0 p.1) p.2

act_takes : (word : Word) (words : List Word) (s : EventStatement) → act_of word words ≡ Some s →
    SpellsStatement (word ∷ words) s
unfolding act_of
act_takes word words s e =
    let p = bind_ok (rank_of word) (λ r. action_of words >>= λ action. Some (statements.Rank r action)) s e in
    let q = bind_ok (action_of words) (λ action. Some (statements.Rank p.0 action)) s p.2 in
    made (SpellsStatement (word ∷ words)) (statements.Rank p.0 q.0) s (
      word,
      words,
      refl,
      rank_takes word p.0 p.1,
      action_takes words q.0 q.1,
    ) q.2

verb_by : (verb : EventVerb) (words : List Word) (s : EventStatement) →
    statement_by (Some verb) (verb_word verb) words ≡ Some s → SpellsStatement (verb_word verb ∷ words) s
verb_by verbs.Deliver words s e = delivery_takes words s e
verb_by verbs.Tick words s e = tick_takes words s e
verb_by verbs.Stray words s e = stray_takes words s e
verb_by verbs.Restart words s e = restart_takes words s e

by_takes : (o : Option EventVerb) (word : Word) (words : List Word) (s : EventStatement) → verb_of word ≡ o →
    statement_by o word words ≡ Some s → SpellsStatement (word ∷ words) s
by_takes None word words s is e = act_takes word words s e
by_takes (Some verb) word words s is e =
    let same : word ≡ verb_word verb = verb_takes word verb is in
    subst (λ (w : Word). SpellsStatement (w ∷ words) s) (sym same)
    (verb_by verb words s (subst (λ (w : Word). statement_by (Some verb) w words ≡ Some s) same e))

pub statement_takes : (words : List Word) (s : EventStatement) → statement_of words ≡ Some s → SpellsStatement words s
unfolding statement_of first
statement_takes [] s e = absurd cc
statement_takes (w ∷ ws) s e = by_takes (verb_of w) w ws s refl e

-- ---- and back

from_verb : (verb : EventVerb) (words : List Word) (s : EventStatement) →
    statement_by (Some verb) (verb_word verb) words ≡ Some s → statement_of (verb_word verb ∷ words) ≡ Some s
unfolding statement_of first
from_verb verb words s e = rw (verb_again verb) e

from_rank : (word : Word) (words : List Word) (s : EventStatement) → verb_of word ≡ None → act_of word words ≡ Some s →
    statement_of (word ∷ words) ≡ Some s
unfolding statement_of first
from_rank word words s is e = rw is e

act_from : (word : Word) (words : List Word) (rank : ℕ) (action : Action) → rank_of word ≡ Some rank →
    action_of words ≡ Some action → act_of word words ≡ Some (statements.Rank rank action)
unfolding act_of
act_from word words rank action r a = rw (r, a) refl

delivery_from : (a : Word) (d : ℕ) → number_or 18446744073709551615 a ≡ Some d →
    delivery_of (a ∷ []) ≡ Some (statements.Deliver d)
unfolding delivery_of first end_of_line
delivery_from a d e = rw e refl

tick_from : (a b : Word) (rank now : ℕ) → rank_of a ≡ Some rank → number_up_to 18446744073709551615 b ≡ Some now →
    tick_of (a ∷ b ∷ []) ≡ Some (statements.Tick rank now)
unfolding tick_of first end_of_line
tick_from a b rank now r n = rw (r, n) refl

stray_from : (a b : Word) (rank : ℕ) (bytes : List ℕ) → rank_of a ≡ Some rank → bytes_of b ≡ Some bytes →
    stray_of (a ∷ b ∷ []) ≡ Some (statements.Stray rank bytes)
unfolding stray_of first end_of_line
stray_from a b rank bytes r n = rw (r, n) refl

restart_from : (a : Word) (rank : ℕ) → rank_of a ≡ Some rank → restart_of (a ∷ []) ≡ Some (statements.Restart rank)
unfolding restart_of first end_of_line
restart_from a rank e = rw e refl

pub statement_again : (words : List Word) (s : EventStatement) → SpellsStatement words s → statement_of words ≡ Some s
statement_again words (statements.Rank rank action) h =
    ap statement_of h.2 ∙ from_rank h.0 h.1 (statements.Rank rank action) (no_verb h.0 h.3.0 h.3.1)
    (act_from h.0 h.1 rank action (rank_again h.0 rank h.3) (action_again h.1 action h.4))
statement_again words (statements.Deliver d) h =
    ap statement_of h.1 ∙
    from_verb verbs.Deliver (h.0 ∷ []) (statements.Deliver d)
    (delivery_from h.0 d (capped_again 18446744073709551615 h.0 d h.2))
statement_again words (statements.Tick rank now) h =
    ap statement_of h.2 ∙
    from_verb verbs.Tick (h.0 ∷ h.1 ∷ []) (statements.Tick rank now)
    (tick_from h.0 h.1 rank now (rank_again h.0 rank h.3) (bounded_again 18446744073709551615 h.1 now h.4 h.5))
statement_again words (statements.Stray rank bytes) h =
    ap statement_of h.2 ∙ from_verb verbs.Stray (h.0 ∷ h.1 ∷ []) (statements.Stray rank bytes)
    (stray_from h.0 h.1 rank bytes (rank_again h.0 rank h.3) (bytes_again h.1 bytes h.4))
statement_again words (statements.Restart rank) h =
    ap statement_of h.1 ∙
    from_verb verbs.Restart (h.0 ∷ []) (statements.Restart rank) (restart_from h.0 rank (rank_again h.0 rank h.2))

-- ---- `world N`

behind : {A : Type 0} (t : Bool) (read : Option A) (x : A) → cond t read None ≡ Some x → (t ≡ true) × (read ≡ Some x)
behind true read x e = (refl, e)
behind false read x e = absurd cc

pub size_takes : (words : List Word) (size : ℕ) → size_of words ≡ Some size → IsWorld words size
unfolding size_of first end_of_line
size_takes [] size e = absurd cc
size_takes (a ∷ []) size e = absurd cc
size_takes (a ∷ b ∷ c ∷ words) size e = absurd cc
size_takes (a ∷ b ∷ []) size e =
    let p = behind (bytes_eq a (codes "world")) (number_up_to 1024 b >>= λ n. positive n) size e in
    let q = bind_ok (number_up_to 1024 b) (λ n. positive n) size p.1 in
    let r = if_some (leb 1 q.0) q.0 size q.2 in
    let n = bounded_takes 1024 b q.0 q.1 in
    subst (IsWorld (a ∷ b ∷ [])) r.1 (
      b,
      ap (λ (w : Word). w ∷ b ∷ []) (same_word a (codes "world") p.0),
      n.0,
      leb-true _ _ r.0,
      n.1,
    )

size_from : (b : Word) (size : ℕ) → number_up_to 1024 b ≡ Some size → leb 1 size ≡ true →
    size_of (codes "world" ∷ b ∷ []) ≡ Some size
unfolding size_of first end_of_line
size_from b size n p = rw (n, p) refl

pub size_again : (words : List Word) (size : ℕ) → IsWorld words size → size_of words ≡ Some size
size_again words size h = ap size_of h.1 ∙ size_from h.0 size (bounded_again 1024 h.0 size h.2 h.4) (le-leb _ _ h.3)
