-- What lines of scripts say: reading and the grammar agree.
use Rattle.std.proofs.Common.{◌≡◌, ◌≢◌, List, [], ◌∷◌, Option, Some, None, refl, sym, ap, subst, ◌∙◌}
use Rattle.std.specs.Prelude.{codes}
use Rattle.statements.specs.declared.action.Action.{Action}
use Rattle.statements.specs.Grammar.{Spells}
use Rattle.tokens.specs.Grammar.{Word}
use Rattle.tokens.specs.Results.{◌>>=◌}
use Rattle.statements.specs.LineWords.{action_of, sending_of, receiving_of}
use Rattle.tokens.specs.Fields.{first, end_of_line, name_of}
use Rattle.tokens.proofs.WordLaws.{bind_ok, made}
use Rattle.tokens.proofs.FieldLaws.{named_takes, named_again}
use Rattle.statements.proofs.ActionLaws.{sending_takes, sending_again, receiving_takes, receiving_again, action_takes}
use Rattle.statements.proofs.ActionLaws.{action_again}
use Rattle.script_files.specs.declared.verb.ScriptVerb.{ScriptVerb}
use Rattle.script_files.specs.declared.verb.ScriptVerb.TheVariants as verbs
use Rattle.script_files.specs.declared.script.ScriptStatement.{ScriptStatement}
use Rattle.script_files.specs.declared.script.ScriptStatement.TheVariants as statements
use Rattle.script_files.specs.declared.script.Item.{Item}
use Rattle.script_files.specs.declared.script.Item.TheVariants as items
use Rattle.script_files.specs.Grammar.{SpellsStatement, SpellsItem}
use Rattle.script_files.specs.LineWords.{verb_of, audience_of, name_alone, said_words, item_by, item_of}
use Rattle.script_files.proofs.VerbLaws.{verb_word, verb_takes, verb_again, no_verb}
use Rattle.script_files.proofs.MemberLaws.{audience_takes, audience_again}

-- ---- from reading to the grammar

on_takes : (words : List Word) (i : Item) → (audience_of words >>= λ audience. Some (items.On audience)) ≡ Some i →
    SpellsItem (codes "on" ∷ words) i
on_takes words i e =
    let b = bind_ok (audience_of words) (λ audience. Some (items.On audience)) i e in
    made (SpellsItem (codes "on" ∷ words)) (items.On b.0) i (words, refl, audience_takes words b.0 b.1) b.2

send_takes : (words : List Word) (i : Item) → (sending_of words >>= λ send. Some (items.Does (statements.Send send))) ≡
    Some i → SpellsItem (codes "send" ∷ words) i
send_takes words i e =
    let b = bind_ok (sending_of words) (λ send. Some (items.Does (statements.Send send))) i e in
    made (SpellsItem (codes "send" ∷ words)) (items.Does (statements.Send b.0)) i
    (words, refl, sending_takes words b.0 b.1) b.2

recv_takes : (words : List Word) (i : Item) →
    (receiving_of words >>= λ receive. Some (items.Does (statements.Recv receive))) ≡ Some i →
    SpellsItem (codes "recv" ∷ words) i
recv_takes words i e =
    let b = bind_ok (receiving_of words) (λ receive. Some (items.Does (statements.Recv receive))) i e in
    made (SpellsItem (codes "recv" ∷ words)) (items.Does (statements.Recv b.0)) i
    (words, refl, receiving_takes words b.0 b.1) b.2

print_takes : (words : List Word) (i : Item) →
    (name_alone words >>= λ buffer. Some (items.Does (statements.Print buffer))) ≡ Some i →
    SpellsItem (codes "print" ∷ words) i
unfolding name_alone first end_of_line
print_takes [] i e = absurd cc
print_takes (a ∷ b ∷ words) i e = absurd cc
print_takes (a ∷ []) i e =
    let b = bind_ok (name_of a) (λ buffer. Some (items.Does (statements.Print buffer))) i e in
    made (SpellsItem (codes "print" ∷ a ∷ [])) (items.Does (statements.Print b.0)) i (a, refl, named_takes a b.0 b.1)
    b.2

count_takes : (words : List Word) (i : Item) →
    (name_alone words >>= λ layout. Some (items.Does (statements.Count layout))) ≡ Some i →
    SpellsItem (codes "count" ∷ words) i
unfolding name_alone first end_of_line
count_takes [] i e = absurd cc
count_takes (a ∷ b ∷ words) i e = absurd cc
count_takes (a ∷ []) i e =
    let b = bind_ok (name_of a) (λ layout. Some (items.Does (statements.Count layout))) i e in
    made (SpellsItem (codes "count" ∷ a ∷ [])) (items.Does (statements.Count b.0)) i (a, refl, named_takes a b.0 b.1)
    b.2

status_takes : (words : List Word) (i : Item) → (end_of_line words >>= λ end. Some (items.Does statements.Status)) ≡
    Some i → SpellsItem (codes "status" ∷ words) i
unfolding end_of_line
status_takes [] i e = made (SpellsItem (codes "status" ∷ [])) (items.Does statements.Status) i refl e
status_takes (a ∷ words) i e = absurd cc

fail_takes : (words : List Word) (i : Item) → (end_of_line words >>= λ end. Some (items.Does statements.Fail)) ≡
    Some i → SpellsItem (codes "fail" ∷ words) i
unfolding end_of_line
fail_takes [] i e = made (SpellsItem (codes "fail" ∷ [])) (items.Does statements.Fail) i refl e
fail_takes (a ∷ words) i e = absurd cc

some_words : (word : Word) (words : List Word) → (word ∷ words) ≢ []
some_words word words e = let q : ⊥ = absurd cc in q

say_takes : (words : List Word) (i : Item) → (said_words words >>= λ said. Some (items.Does (statements.Say said))) ≡
    Some i → SpellsItem (codes "say" ∷ words) i
unfolding said_words first
say_takes [] i e = absurd cc
say_takes (a ∷ words) i e =
    made (SpellsItem (codes "say" ∷ a ∷ words)) (items.Does (statements.Say (a ∷ words))) i (refl, some_words a words) e

verb_by : (verb : ScriptVerb) (all words : List Word) (i : Item) → item_by (Some verb) all words ≡ Some i →
    SpellsItem (verb_word verb ∷ words) i
verb_by verbs.On all words i e = on_takes words i e
verb_by verbs.Send all words i e = send_takes words i e
verb_by verbs.Recv all words i e = recv_takes words i e
verb_by verbs.Print all words i e = print_takes words i e
verb_by verbs.Status all words i e = status_takes words i e
verb_by verbs.Count all words i e = count_takes words i e
verb_by verbs.Say all words i e = say_takes words i e
verb_by verbs.Fail all words i e = fail_takes words i e

by_takes : (o : Option ScriptVerb) (word : Word) (words : List Word) (i : Item) → verb_of word ≡ o →
    item_by o (word ∷ words) words ≡ Some i → SpellsItem (word ∷ words) i
by_takes None word words i is e =
    let b = bind_ok (action_of (word ∷ words)) (λ action. Some (items.Does (statements.Action action))) i e in
    made (SpellsItem (word ∷ words)) (items.Does (statements.Action b.0)) i (action_takes (word ∷ words) b.0 b.1) b.2
by_takes (Some verb) word words i is e =
    subst (λ (w : Word). SpellsItem (w ∷ words) i) (sym (verb_takes word verb is))
    (verb_by verb (word ∷ words) words i e)

pub item_takes : (words : List Word) (i : Item) → item_of words ≡ Some i → SpellsItem words i
unfolding item_of first
item_takes [] i e = absurd cc
item_takes (w ∷ ws) i e = by_takes (verb_of w) w ws i refl e

-- ---- and back

from_verb : (verb : ScriptVerb) (words : List Word) (i : Item) → item_by (Some verb) (verb_word verb ∷ words) words ≡
    Some i → item_of (verb_word verb ∷ words) ≡ Some i
unfolding item_of first
from_verb verb words i e = rw (verb_again verb) e

from_action : (word : Word) (words : List Word) (action : Action) → verb_of word ≡ None →
    action_of (word ∷ words) ≡ Some action → item_of (word ∷ words) ≡ Some (items.Does (statements.Action action))
unfolding item_of first
from_action word words action is e = rw (is, e) refl

then_some : {A : Type 0} (read : Option A) (make : A → Item) (x : A) → read ≡ Some x →
    (read >>= λ y. Some (make y)) ≡ Some (make x)
then_some read make x e = rw e refl

alone_from : (a name : Word) → name_of a ≡ Some name → name_alone (a ∷ []) ≡ Some name
unfolding name_alone first end_of_line
alone_from a name e = e

said_from : (words : List Word) → words ≢ [] → said_words words ≡ Some words
unfolding said_words first
said_from [] h = absurd (h refl)
said_from (w ∷ ws) h = refl

ended_here : (i : Item) → (end_of_line [] >>= λ end. Some i) ≡ Some i
unfolding end_of_line
ended_here i = refl

action_item : (words : List Word) (action : Action) → Spells words action →
    item_of words ≡ Some (items.Does (statements.Action action))
action_item words action h =
    let b = no_verb words action h in
    let read : action_of (b.0 ∷ b.1) ≡ Some action = ap action_of (sym b.2) ∙ action_again words action h in
    ap item_of b.2 ∙ from_action b.0 b.1 action b.3 read

statement_again : (words : List Word) (s : ScriptStatement) → SpellsStatement words s →
    item_of words ≡ Some (items.Does s)
statement_again words (statements.Action action) h = action_item words action h
statement_again words (statements.Send x) h =
    ap item_of h.1 ∙
    from_verb verbs.Send h.0 (items.Does (statements.Send x))
    (then_some (sending_of h.0) (λ y. items.Does (statements.Send y)) x (sending_again h.0 x h.2))
statement_again words (statements.Recv x) h =
    ap item_of h.1 ∙
    from_verb verbs.Recv h.0 (items.Does (statements.Recv x))
    (then_some (receiving_of h.0) (λ y. items.Does (statements.Recv y)) x (receiving_again h.0 x h.2))
statement_again words (statements.Print x) h =
    ap item_of h.1 ∙ from_verb verbs.Print (h.0 ∷ []) (items.Does (statements.Print x))
    (then_some (name_alone (h.0 ∷ [])) (λ y. items.Does (statements.Print y)) x
    (alone_from h.0 x (named_again h.0 x h.2)))
statement_again words statements.Status h =
    ap item_of h ∙ from_verb verbs.Status [] (items.Does statements.Status) (ended_here (items.Does statements.Status))
statement_again words (statements.Count x) h =
    ap item_of h.1 ∙ from_verb verbs.Count (h.0 ∷ []) (items.Does (statements.Count x))
    (then_some (name_alone (h.0 ∷ [])) (λ y. items.Does (statements.Count y)) x
    (alone_from h.0 x (named_again h.0 x h.2)))
statement_again words (statements.Say x) h =
    ap item_of h.0 ∙
    from_verb verbs.Say x (items.Does (statements.Say x))
    (then_some (said_words x) (λ y. items.Does (statements.Say y)) x (said_from x h.1))
statement_again words statements.Fail h =
    ap item_of h ∙ from_verb verbs.Fail [] (items.Does statements.Fail) (ended_here (items.Does statements.Fail))

pub item_again : (words : List Word) (i : Item) → SpellsItem words i → item_of words ≡ Some i
item_again words (items.On a) h =
    ap item_of h.1 ∙
    from_verb verbs.On h.0 (items.On a) (then_some (audience_of h.0) (λ y. items.On y) a (audience_again h.0 a h.2))
item_again words (items.Does s) h = statement_again words s h
