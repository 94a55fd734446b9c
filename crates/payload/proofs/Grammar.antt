-- What is read is spelled so, and what is spelled so is read.
use Rattle.std.proofs.Common.{◌≡◌, ℕ, ◌*◌, ◌%◌, ◌^◌, ◌<◌, ◌≤◌, Bool, true, false, cond, eqb, leb, List, [], ◌∷◌, ◌++◌}
use Rattle.std.proofs.Common.{length, get_or, drop, Option, Some, None, Result, Ok, Err, refl, sym, ap, subst, ◌∙◌}
use Rattle.std.proofs.Common.{arith, inl, inr, ◌⊎◌, ℤ, pos, negsuc}
use Rattle.std.specs.Prelude.{IfOk, FitsSigned}
use Rattle.std.specs.Int.{cast_unsigned, cast_signed, w32, int_wrap}
use Rattle.std.proofs.Math.Nat.{mod-eq_of_lt}
use Rattle.std.proofs.lemmas.Int.{of_z-to_z, to_z-of_z, SFits-int_wrap}
use Rattle.std.proofs.lemmas.Bool.{eqb-true, eq-eqb, ne_eqb, leb-true, le-leb}
use Rattle.std.proofs.lemmas.List.{length-append, length-drop, append-nil, drop_all, nil_from_length}
use Rattle.byteorder.specs.Endian.{big_bytes}
use Rattle.byteorder.specs.Numbers.{big_number-reads_back}
use Rattle.vocabulary.specs.declared.basic_type.BasicType.{BasicType}
use Rattle.vocabulary.specs.declared.basic_type.BasicType.TheVariants as basics
use Rattle.vocabulary.specs.BasicTypes.{code_of, type_at, size_of}
use Rattle.payload.specs.declared.refusal.PayloadRefusal.{PayloadRefusal}
use Rattle.payload.specs.declared.refusal.PayloadRefusal.TheVariants.{OutOfMemory, BadFrame}
use Rattle.vocabulary.specs.declared.operation.Operation.{Operation}
use Rattle.vocabulary.specs.declared.operation.Operation.TheVariants as operations
use Rattle.payload.specs.declared.record.Elements.{Elements}
use Rattle.payload.specs.declared.record.Rooted.{Rooted}
use Rattle.payload.specs.declared.record.Record.{Record}
use Rattle.payload.specs.declared.record.Record.TheVariants as records
use Rattle.payload.specs.declared.kind.CollectiveKind.{CollectiveKind}
use Rattle.payload.specs.declared.kind.CollectiveKind.TheVariants as kinds
use Rattle.payload.specs.declared.kind.Phase.{Phase}
use Rattle.payload.specs.declared.kind.Phase.TheVariants as phases
use Rattle.payload.specs.declared.payload.Direction.{Direction}
use Rattle.payload.specs.declared.payload.Direction.TheVariants as directions
use Rattle.payload.specs.declared.payload.Payload.{Payload}
use Rattle.payload.specs.declared.reading.Fields.{Fields}
use Rattle.payload.specs.Codes.{kind_code, kind_at, phase_code, phase_at}
use Rattle.vocabulary.specs.Operations.{operation_at, operation_code}
use Rattle.payload.specs.Spellings.{PartText, Differing, NothingMore, ElementsText, ContextText, ChoiceText, NullText}
use Rattle.payload.specs.Spellings.{GroupText, PayloadText, payload_text, kind_of, elements_of, operation_field}
use Rattle.payload.specs.Spellings.{root_field, type_code, count_field, way_phase, phase_of, AreElements, SaysNothing}
use Rattle.payload.specs.Spellings.{AreRanks, PartFits, ColourIsWithin, PartIsWithin, RecordIsWithin, PayloadFits}
use Rattle.payload.specs.Spellings.{colour_spelling, part_spelling, record_spelling, spelling}
use Rattle.payload.specs.ByteMeanings.{
  Gives,
  given,
  number_at,
  fields_of,
  without_fields,
  elements_in,
  rooted_in,
  reduce_in,
}
use Rattle.payload.specs.ByteMeanings.{allreduce_in, record_in, elements_from, nothing_from, colour_from, choice_from}
use Rattle.payload.specs.ByteMeanings.{context_from, group_from, towards_root, from_root, part_in, head_of, payload_of}
use Rattle.payload.proofs.Fields.{IsBytes, IsBytes-drop, bind_some, given_some, there, nothing, some_is, wide4, wide8}
use Rattle.payload.proofs.Fields.{number_takes, byte_takes, number_fits, kind_back, phase_back, operation_back}
use Rattle.payload.proofs.Fields.{basic_back}

-- ---- the record

-- a record of this kind that these fields say
pub record Says (kind : CollectiveKind) (f : Fields) (r : Record) : Type 0 where
  pub kind_is : kind_of r ≡ kind
  pub operation_is : operation_field r ≡ f.operation
  pub type_is : type_code (elements_of r) ≡ f.basic
  pub root_is : root_field r ≡ f.root
  pub count_is : count_field (elements_of r) ≡ f.count

-- the fields are all 0
record AreNone (f : Fields) : Type 0 where
  operation : 0 ≡ f.operation
  basic : 0 ≡ f.basic
  root : 0 ≡ f.root
  count : 0 ≡ f.count

bare_takes : (f : Fields) (x r : Record) → without_fields x f ≡ Some r → AreNone f × (x ≡ r)
unfolding without_fields
bare_takes f x r is =
    let a = given_some (eqb f.operation 0) _ r is in
    let b = given_some (eqb f.basic 0) _ r a.1 in
    let c = given_some (eqb f.root 0) _ r b.1 in
    let d = given_some (eqb f.count 0) _ r c.1 in (
      record {
        operation = sym (eqb-true _ _ a.0);
        basic = sym (eqb-true _ _ b.0);
        root = sym (eqb-true _ _ c.0);
        count =
            sym (eqb-true _ _ d.0);
      },
      some_is x r d.1,
    )

-- elements that the fields name
record AreNamed (f : Fields) (e : Elements) : Type 0 where
  basic : code_of e.basic ≡ f.basic
  count : e.count ≡ f.count

elements_takes : (f : Fields) (e : Elements) → elements_in f ≡ Some e → AreNamed f e
unfolding elements_in
elements_takes f e is =
    let a = bind_some (type_at f.basic) _ e is in
    let made : Elements = record { basic = a.0; count = f.count } in
    subst (AreNamed f) (some_is made e a.2) (record { basic = basic_back f.basic a.0 a.1; count = refl })

-- elements and a root that the fields name
record IsRooted (f : Fields) (r : Rooted) : Type 0 where
  operation : 0 ≡ f.operation
  elements : AreNamed f r.elements
  root : r.root ≡ f.root

rooted_takes : (f : Fields) (r : Rooted) → rooted_in f ≡ Some r → IsRooted f r
unfolding rooted_in
rooted_takes f r is =
    let a = given_some (eqb f.operation 0) _ r is in
    let b = bind_some (elements_in f) _ r a.1 in
    let made : Rooted = record { elements = b.0; root = f.root } in
    subst (IsRooted f) (some_is made r b.2)
    (record { operation = sym (eqb-true _ _ a.0); elements = elements_takes f b.0 b.1; root = refl })

reduce_takes : (f : Fields) (r : Record) → reduce_in f ≡ Some r → Says kinds.Reduce f r
unfolding reduce_in
reduce_takes f r is =
    let a = bind_some (operation_at f.operation) _ r is in
    let b = bind_some (elements_in f) _ r a.2 in
    let e = elements_takes f b.0 b.1 in
    subst (Says kinds.Reduce f) (some_is (records.Reduce a.0 (record { elements = b.0; root = f.root })) r b.2)
    (record {
      kind_is = refl;
      operation_is = operation_back f.operation a.0 a.1;
      type_is = e.basic;
      root_is =
          refl;
      count_is = e.count;
    })

allreduce_takes : (f : Fields) (r : Record) → allreduce_in f ≡ Some r → Says kinds.Allreduce f r
unfolding allreduce_in
allreduce_takes f r is =
    let a = bind_some (operation_at f.operation) _ r is in
    let b = bind_some (elements_in f) _ r a.2 in
    let d = given_some (eqb f.root 0) _ r b.2 in
    let e = elements_takes f b.0 b.1 in
    subst (Says kinds.Allreduce f) (some_is (records.Allreduce a.0 b.0) r d.1)
    (record {
      kind_is = refl;
      operation_is = operation_back f.operation a.0 a.1;
      type_is = e.basic;
      root_is =
          sym (eqb-true _ _ d.0);
      count_is = e.count;
    })

record_takes : (k : CollectiveKind) (f : Fields) (r : Record) → record_in k f ≡ Some r → Says k f r
unfolding record_in
record_takes kinds.Barrier f r is =
    let a = bare_takes f records.Barrier r is in
    subst (Says kinds.Barrier f) a.1
    (record {
      kind_is = refl;
      operation_is = a.0.operation;
      type_is = a.0.basic;
      root_is = a.0.root;
      count_is =
          a.0.count;
    })
record_takes kinds.Dup f r is =
    let a = bare_takes f records.Dup r is in
    subst (Says kinds.Dup f) a.1 (record {
      kind_is = refl;
      operation_is = a.0.operation;
      type_is = a.0.basic;
      root_is =
          a.0.root;
      count_is = a.0.count;
    })
record_takes kinds.Split f r is =
    let a = bare_takes f records.Split r is in
    subst (Says kinds.Split f) a.1
    (record {
      kind_is = refl;
      operation_is = a.0.operation;
      type_is = a.0.basic;
      root_is = a.0.root;
      count_is =
          a.0.count;
    })
record_takes kinds.Bcast f r is =
    let a = bind_some (rooted_in f) _ r is in
    let t = rooted_takes f a.0 a.1 in
    subst (Says kinds.Bcast f) (some_is (records.Bcast a.0) r a.2)
    (record {
      kind_is = refl;
      operation_is = t.operation;
      type_is = t.elements.basic;
      root_is = t.root;
      count_is =
          t.elements.count;
    })
record_takes kinds.Gather f r is =
    let a = bind_some (rooted_in f) _ r is in
    let t = rooted_takes f a.0 a.1 in
    subst (Says kinds.Gather f) (some_is (records.Gather a.0) r a.2)
    (record {
      kind_is = refl;
      operation_is = t.operation;
      type_is = t.elements.basic;
      root_is = t.root;
      count_is =
          t.elements.count;
    })
record_takes kinds.Scatter f r is =
    let a = bind_some (rooted_in f) _ r is in
    let t = rooted_takes f a.0 a.1 in
    subst (Says kinds.Scatter f) (some_is (records.Scatter a.0) r a.2)
    (record {
      kind_is = refl;
      operation_is = t.operation;
      type_is = t.elements.basic;
      root_is = t.root;
      count_is =
          t.elements.count;
    })
record_takes kinds.Reduce f r is = reduce_takes f r is
record_takes kinds.Allreduce f r is = allreduce_takes f r is

-- ---- what comes after the record

-- what a part is that was read from the bytes behind the record
record IsPart (phase : Phase) (r : Record) (body : List ℕ) (p : PartText) : Type 0 where
  width : PartIsWithin p
  fits : PartFits r p
  spelled : body ≡ part_spelling p
  phase_is : phase ≡ phase_of p

nothing_takes : (x p : PartText) (body : List ℕ) → nothing_from x body ≡ Some p → (body ≡ []) × (x ≡ p)
unfolding nothing_from
nothing_takes x p body is =
    let a = given_some (eqb (length body) 0) _ p is in
    (nil_from_length body (eqb-true _ _ a.0), some_is x p a.1)

elements_back : (way : Direction) (e : Elements) (r : Record) (body : List ℕ) (p : PartText) → elements_of r ≡ Some e →
    elements_from way e body ≡ Some p → IsPart (way_phase way) r body p
unfolding elements_from
elements_back way e r body p has is =
    let a = given_some (eqb (length body) (e.count * size_of e.basic)) _ p is in
    subst (IsPart (way_phase way) r body) (some_is (ElementsText way body) p a.1)
    (record {
      width = tt;
      fits = subst (λ (o : Option Elements). AreElements o body) (sym has) (eqb-true _ _ a.0);
      spelled = refl;
      phase_is = refl;
    })

colour_cases : (one zero none : Bool) (colour : ℕ) (c : Option ℕ) →
    cond one (Some (Some colour)) (cond zero (given none (Some None)) None) ≡ Some c
    → ((one ≡ true) × (there colour ≡ c)) ⊎ ((zero ≡ true) × (none ≡ true) × (nothing ≡ c))
colour_cases true zero none colour c is = inl (refl, some_is _ c is)
colour_cases false true true colour c is = inr (refl, refl, some_is _ c is)
colour_cases false true false colour c is = absurd cc
colour_cases false false none colour c is = absurd cc

-- the byte in front of a colour, and the colour
colour_back : (byte colour : ℕ) (c : Option ℕ) → colour < 2 ^ 32 → colour_from byte colour ≡ Some c → ColourIsWithin c ×
    (byte ∷ big_bytes 4 colour ≡ colour_spelling c)
unfolding colour_from
colour_back byte colour c fits is =
    elim (colour_cases (eqb byte 1) (eqb byte 0) (eqb colour 0) colour c is) [
      | inl h ↦ subst (λ (o : Option ℕ). ColourIsWithin o × (byte ∷ big_bytes 4 colour ≡ colour_spelling o)) h.1
          (fits, ap (λ (b : ℕ). b ∷ big_bytes 4 colour) (eqb-true _ _ h.0))
      | inr h ↦ subst (λ (o : Option ℕ). ColourIsWithin o × (byte ∷ big_bytes 4 colour ≡ colour_spelling o)) h.2 (
        tt,
        ap (λ (b : ℕ). b ∷ big_bytes 4 colour) (eqb-true _ _ h.0) ∙
            ap (λ (n : ℕ). 0 ∷ big_bytes 4 n) (eqb-true _ _ h.1),
      )
    ]

-- a number of four bytes, read as a signed one, is within four bytes
key_fits : (n : ℕ) → n < 2 ^ 32 → FitsSigned w32 (cast_signed w32 n)
unfolding int_wrap
key_fits n lt = subst (λ (k : ℕ). FitsSigned w32 (cast_signed w32 k)) (mod-eq_of_lt lt) (SFits-int_wrap w32 (pos n))

choice_takes : (body : List ℕ) (p : PartText) → IsBytes body → choice_from body ≡ Some p →
    IsPart phases.TowardsRoot records.Split body p
unfolding choice_from
choice_takes body p bytes is =
    let a = given_some (eqb (length body) 9) _ p is in
    let b = bind_some (colour_from (get_or body 0 0) (number_at 1 4 body)) _ p a.1 in
    let len : length body ≡ 9 = eqb-true _ _ a.0 in
    let c = colour_back (get_or body 0 0) (number_at 1 4 body) b.0 (number_fits 1 4 body bytes) b.1 in
    let key = number_at 5 4 body in
    let key_is : cast_unsigned w32 (cast_signed w32 key) ≡ key = of_z-to_z w32 key (number_fits 5 4 body bytes) in
    let made : PartText = ChoiceText (record { colour = b.0; key = cast_signed w32 key }) in
    let e0 = byte_takes 0 body (omega arith) in
    let e1 = number_takes 4 1 wide4 body bytes (omega arith) in
    let e5 = number_takes 4 5 wide4 body bytes (omega arith) in
    let end : drop 9 body ≡ [] = drop_all 9 body (omega arith) in
    let whole : body ≡ part_spelling made =
    e0
    ∙ ap (λ (t : List ℕ). get_or body 0 0 ∷ t)
    (e1 ∙ ap (λ (t : List ℕ). big_bytes 4 (number_at 1 4 body) ++ t)
    (e5 ∙ ap (λ (t : List ℕ). big_bytes 4 key ++ t) end ∙ append-nil (big_bytes 4 key)))
    ∙ ap (λ (t : List ℕ). t ++ big_bytes 4 key) c.1
    ∙ ap (λ (n : ℕ). colour_spelling b.0 ++ big_bytes 4 n) (sym key_is)
    in
    subst (IsPart phases.TowardsRoot records.Split body) (some_is made p b.2)
    (record {
      width = (c.0, key_fits key (number_fits 5 4 body bytes));
      fits = refl;
      spelled = whole;
      phase_is =
          refl;
    })

context_takes : (body : List ℕ) (p : PartText) → IsBytes body → context_from body ≡ Some p →
    IsPart phases.FromRoot records.Dup body p
unfolding context_from
context_takes body p bytes is =
    let a = given_some (eqb (length body) 8) _ p is in
    let len : length body ≡ 8 = eqb-true _ _ a.0 in
    let e0 = number_takes 8 0 wide8 body bytes (omega arith) in
    let end : drop 8 body ≡ [] = drop_all 8 body (omega arith) in
    let whole = e0 ∙ ap (λ (t : List ℕ). big_bytes 8 (number_at 0 8 body) ++ t) end ∙ append-nil (big_bytes 8 (number_at 0 8 body)) in
    subst (IsPart phases.FromRoot records.Dup body) (some_is (ContextText (number_at 0 8 body)) p a.1)
    (record { width = number_fits 0 8 body bytes; fits = refl; spelled = whole; phase_is = refl })

group_cases : (none a b : Bool) (x y p : PartText) → cond none (Some x) (given a (given b (Some y))) ≡ Some p →
    ((none ≡ true) × (x ≡ p)) ⊎ ((a ≡ true) × (b ≡ true) × (y ≡ p))
group_cases true a b x y p is = inl (refl, some_is x p is)
group_cases false true true x y p is = inr (refl, refl, some_is y p is)
group_cases false true false x y p is = absurd cc
group_cases false false b x y p is = absurd cc

-- the ranks behind a context
ranks_are : (body : List ℕ) → 10 ≤ length body → length body % 2 ≡ 0 → AreRanks (drop 8 body)
ranks_are body long even =
    let len = length-drop 8 body in
    record { some = omega arith; whole = omega arith }

group_takes : (body : List ℕ) (p : PartText) → IsBytes body → group_from body ≡ Some p →
    IsPart phases.FromRoot records.Split body p
unfolding group_from
group_takes body p bytes is =
    elim (group_cases (eqb (length body) 0) (leb 10 (length body)) (eqb (length body % 2) 0) _ _ p is) [
      | inl h ↦ subst (IsPart phases.FromRoot records.Split body) h.1
          (record { width = tt; fits = refl; spelled = nil_from_length body (eqb-true _ _ h.0); phase_is = refl })
      | inr h ↦ subst (IsPart phases.FromRoot records.Split body) h.2 (record {
        width = number_fits 0 8 body bytes;
        fits = (refl, ranks_are body (leb-true _ _ h.0) (eqb-true _ _ h.1));
        spelled = number_takes 8 0 wide8 body bytes (omega (arith, leb-true 10 (length body) h.0));
        phase_is = refl;
      })
    ]

towards_takes : (r : Record) (body : List ℕ) (p : PartText) → IsBytes body → towards_root r body ≡ Some p →
    IsPart phases.TowardsRoot r body p
unfolding towards_root
towards_takes records.Barrier body p bytes is =
    let a = nothing_takes (NothingMore directions.TowardsRoot) p body is in
    subst (IsPart phases.TowardsRoot records.Barrier body) a.1
    (record { width = tt; fits = tt; spelled = a.0; phase_is = refl })
towards_takes records.Dup body p bytes is =
    let a = nothing_takes (NothingMore directions.TowardsRoot) p body is in
    subst (IsPart phases.TowardsRoot records.Dup body) a.1
    (record { width = tt; fits = refl; spelled = a.0; phase_is = refl })
towards_takes (records.Bcast x) body p bytes is =
    elements_back directions.TowardsRoot x.elements (records.Bcast x) body p refl is
towards_takes (records.Gather x) body p bytes is =
    elements_back directions.TowardsRoot x.elements (records.Gather x) body p refl is
towards_takes (records.Scatter x) body p bytes is =
    elements_back directions.TowardsRoot x.elements (records.Scatter x) body p refl is
towards_takes (records.Reduce o x) body p bytes is =
    elements_back directions.TowardsRoot x.elements (records.Reduce o x) body p refl is
towards_takes (records.Allreduce o e) body p bytes is =
    elements_back directions.TowardsRoot e (records.Allreduce o e) body p refl is
towards_takes records.Split body p bytes is = choice_takes body p bytes is

from_takes : (r : Record) (body : List ℕ) (p : PartText) → IsBytes body → from_root r body ≡ Some p →
    IsPart phases.FromRoot r body p
unfolding from_root
from_takes records.Barrier body p bytes is =
    let a = nothing_takes (NothingMore directions.FromRoot) p body is in
    subst (IsPart phases.FromRoot records.Barrier body) a.1
    (record { width = tt; fits = tt; spelled = a.0; phase_is = refl })
from_takes (records.Bcast x) body p bytes is =
    elements_back directions.FromRoot x.elements (records.Bcast x) body p refl is
from_takes (records.Gather x) body p bytes is =
    elements_back directions.FromRoot x.elements (records.Gather x) body p refl is
from_takes (records.Scatter x) body p bytes is =
    elements_back directions.FromRoot x.elements (records.Scatter x) body p refl is
from_takes (records.Reduce o x) body p bytes is =
    elements_back directions.FromRoot x.elements (records.Reduce o x) body p refl is
from_takes (records.Allreduce o e) body p bytes is =
    elements_back directions.FromRoot e (records.Allreduce o e) body p refl is
from_takes records.Dup body p bytes is = context_takes body p bytes is
from_takes records.Split body p bytes is = group_takes body p bytes is

part_takes : (phase : Phase) (r : Record) (body : List ℕ) (p : PartText) → IsBytes body →
    part_in phase r body ≡ Some p → IsPart phase r body p
unfolding part_in
part_takes phases.TowardsRoot r body p bytes is = towards_takes r body p bytes is
part_takes phases.FromRoot r body p bytes is = from_takes r body p bytes is
part_takes phases.RecordsDiffer r body p bytes is =
    let a = nothing_takes Differing p body is in
    subst (IsPart phases.RecordsDiffer r body) a.1 (record { width = tt; fits = tt; spelled = a.0; phase_is = refl })

-- ---- all of it

-- the record's bytes, whatever the phase
head_takes : (bytes : List ℕ) (phase : Phase) (r : Record) → IsBytes bytes → phase_code phase ≡ get_or bytes 3 0 →
    head_of bytes ≡ Some r
    → RecordIsWithin r × (bytes ≡ record_spelling r phase ++ drop 16 bytes)
unfolding head_of record_spelling
head_takes bytes phase r fits phase_is is =
    let a = given_some (leb 16 (length bytes)) _ r is in
    let b = given_some (eqb (number_at 12 4 bytes) 0) _ r a.1 in
    let k = bind_some (kind_at (get_or bytes 0 0)) _ r b.1 in
    let long : 16 ≤ length bytes = leb-true _ _ a.0 in
    let s = record_takes k.0 (fields_of bytes) r k.2 in
    let kind_is : kind_code (kind_of r) ≡ get_or bytes 0 0 = ap kind_code s.kind_is ∙ kind_back (get_or bytes 0 0) k.0 k.1 in
    let e0 = byte_takes 0 bytes (omega arith) in
    let e1 = byte_takes 1 bytes (omega arith) in
    let e2 = byte_takes 2 bytes (omega arith) in
    let e3 = byte_takes 3 bytes (omega arith) in
    let e4 = number_takes 4 4 wide4 bytes fits (omega arith) in
    let e8 = number_takes 4 8 wide4 bytes fits (omega arith) in
    let e12 = number_takes 4 12 wide4 bytes fits (omega arith) in
    let root : root_field r < 2 ^ 32 = rw s.root_is (number_fits 4 4 bytes fits) in
    let count : count_field (elements_of r) < 2 ^ 32 = rw s.count_is (number_fits 8 4 bytes fits) in
    let whole : bytes ≡ (kind_code (kind_of r) ∷ operation_field r ∷ type_code (elements_of r) ∷ phase_code phase
    ∷ (big_bytes 4 (root_field r) ++ (big_bytes 4 (count_field (elements_of r)) ++ big_bytes 4 0))) ++ drop 16 bytes =
    e0 ∙ ap (λ (v : ℕ). v ∷ drop 1 bytes) (sym kind_is) ∙ ap (λ (t : List ℕ). kind_code (kind_of r) ∷ t) (
    e1 ∙ ap (λ (v : ℕ). v ∷ drop 2 bytes) (sym s.operation_is) ∙ ap (λ (t : List ℕ). operation_field r ∷ t) (
    e2 ∙ ap (λ (v : ℕ). v ∷ drop 3 bytes) (sym s.type_is) ∙ ap (λ (t : List ℕ). type_code (elements_of r) ∷ t) (
    e3 ∙ ap (λ (v : ℕ). v ∷ drop 4 bytes) (sym phase_is) ∙ ap (λ (t : List ℕ). phase_code phase ∷ t) (
    e4 ∙ ap (λ (n : ℕ). big_bytes 4 n ++ drop 8 bytes) (sym s.root_is) ∙
    ap (λ (t : List ℕ). big_bytes 4 (root_field r) ++ t) (
    e8 ∙ ap (λ (n : ℕ). big_bytes 4 n ++ drop 12 bytes) (sym s.count_is) ∙
    ap (λ (t : List ℕ). big_bytes 4 (count_field (elements_of r)) ++ t) (
    e12 ∙ ap (λ (n : ℕ). big_bytes 4 n ++ drop 16 bytes) (eqb-true _ _ b.0)))))))
    in
    (record { root = root; count = count }, whole)

payload_takes : (bytes : List ℕ) (p : PayloadText) → IsBytes bytes → payload_of bytes ≡ Some p → PayloadFits p ×
    (bytes ≡ spelling p)
unfolding payload_of spelling
payload_takes bytes p fits is =
    let a = bind_some (head_of bytes) _ p is in
    let b = bind_some (phase_at (get_or bytes 3 0)) _ p a.2 in
    let c = bind_some (part_in b.0 a.0 (drop 16 bytes)) _ p b.2 in
    let h = head_takes bytes b.0 a.0 fits (phase_back (get_or bytes 3 0) b.0 b.1) a.1 in
    let t = part_takes b.0 a.0 (drop 16 bytes) c.0 (IsBytes-drop 16 bytes fits) c.1 in
    let made : PayloadText = record { record_is = a.0; part = c.0 } in
    let whole : bytes ≡ spelling made =
    h.1
    ∙ ap (λ (x : List ℕ). record_spelling a.0 b.0 ++ x) t.spelled
    ∙ ap (λ (k : Phase). record_spelling a.0 k ++ part_spelling c.0) t.phase_is
    in
    subst (λ (x : PayloadText). PayloadFits x × (bytes ≡ spelling x)) (some_is made p c.2)
    (record { record_width = h.0; width = t.width; part = t.fits }, whole)

-- ---- the other way round

basic_again : (b : BasicType) → type_at (code_of b) ≡ Some b
basic_again basics.Int8 = refl
basic_again basics.Int16 = refl
basic_again basics.Int32 = refl
basic_again basics.Int64 = refl
basic_again basics.Uint8 = refl
basic_again basics.Uint16 = refl
basic_again basics.Uint32 = refl
basic_again basics.Uint64 = refl
basic_again basics.Byte = refl
basic_again basics.Float32 = refl
basic_again basics.Float64 = refl

operation_again : (o : Operation) → operation_at (operation_code o) ≡ Some o
operation_again operations.Max = refl
operation_again operations.Min = refl
operation_again operations.Sum = refl
operation_again operations.Prod = refl
operation_again operations.Land = refl
operation_again operations.Lor = refl
operation_again operations.Lxor = refl
operation_again operations.Band = refl
operation_again operations.Bor = refl
operation_again operations.Bxor = refl
operation_again operations.Affine = refl

kind_again : (k : CollectiveKind) → kind_at (kind_code k) ≡ Some k
kind_again kinds.Barrier = refl
kind_again kinds.Bcast = refl
kind_again kinds.Gather = refl
kind_again kinds.Scatter = refl
kind_again kinds.Reduce = refl
kind_again kinds.Allreduce = refl
kind_again kinds.Dup = refl
kind_again kinds.Split = refl

phase_again : (k : Phase) → phase_at (phase_code k) ≡ Some k
phase_again phases.TowardsRoot = refl
phase_again phases.FromRoot = refl
phase_again phases.RecordsDiffer = refl

-- the fields of a record
abbrev fields_in : Record → Fields
fields_in r = record {
  operation = operation_field r;
  basic = type_code (elements_of r);
  root = root_field r;
  count =
      count_field (elements_of r);
}

record_again : (r : Record) → record_in (kind_of r) (fields_in r) ≡ Some r
unfolding record_in without_fields elements_in rooted_in reduce_in allreduce_in
record_again records.Barrier = refl
record_again records.Dup = refl
record_again records.Split = refl
record_again (records.Bcast x) = rw (basic_again x.elements.basic) refl
record_again (records.Gather x) = rw (basic_again x.elements.basic) refl
record_again (records.Scatter x) = rw (basic_again x.elements.basic) refl
record_again (records.Reduce o x) = rw (operation_again o, basic_again x.elements.basic) refl
record_again (records.Allreduce o e) = rw (operation_again o, basic_again e.basic) refl

head_from : (bytes : List ℕ) (r : Record) → 16 ≤ length bytes → number_at 12 4 bytes ≡ 0 →
    kind_at (get_or bytes 0 0) ≡ Some (kind_of r) → fields_of bytes ≡ fields_in r → head_of bytes ≡ Some r
unfolding head_of
head_from bytes r long zeros kind fields =
    let t0 : leb 16 (length bytes) ≡ true = le-leb _ _ long in
    rw (t0, zeros, kind, fields) (record_again r)

elements_again : (way : Direction) (e : Elements) (bytes : List ℕ) → length bytes ≡ e.count * size_of e.basic →
    elements_from way e bytes ≡ Some (ElementsText way bytes)
unfolding elements_from
elements_again way e bytes len =
    let t0 : eqb (length bytes) (e.count * size_of e.basic) ≡ true = eq-eqb _ _ len in
    rw t0 refl

towards_elements : (r : Record) (bytes : List ℕ) → AreElements (elements_of r) bytes →
    towards_root r bytes ≡ Some (ElementsText directions.TowardsRoot bytes)
unfolding towards_root
towards_elements records.Barrier bytes fits = absurd fits
towards_elements records.Dup bytes fits = absurd fits
towards_elements records.Split bytes fits = absurd fits
towards_elements (records.Bcast x) bytes fits = elements_again directions.TowardsRoot x.elements bytes fits
towards_elements (records.Gather x) bytes fits = elements_again directions.TowardsRoot x.elements bytes fits
towards_elements (records.Scatter x) bytes fits = elements_again directions.TowardsRoot x.elements bytes fits
towards_elements (records.Reduce o x) bytes fits = elements_again directions.TowardsRoot x.elements bytes fits
towards_elements (records.Allreduce o e) bytes fits = elements_again directions.TowardsRoot e bytes fits

from_elements : (r : Record) (bytes : List ℕ) → AreElements (elements_of r) bytes →
    from_root r bytes ≡ Some (ElementsText directions.FromRoot bytes)
unfolding from_root
from_elements records.Barrier bytes fits = absurd fits
from_elements records.Dup bytes fits = absurd fits
from_elements records.Split bytes fits = absurd fits
from_elements (records.Bcast x) bytes fits = elements_again directions.FromRoot x.elements bytes fits
from_elements (records.Gather x) bytes fits = elements_again directions.FromRoot x.elements bytes fits
from_elements (records.Scatter x) bytes fits = elements_again directions.FromRoot x.elements bytes fits
from_elements (records.Reduce o x) bytes fits = elements_again directions.FromRoot x.elements bytes fits
from_elements (records.Allreduce o e) bytes fits = elements_again directions.FromRoot e bytes fits

nothing_again : (r : Record) (way : Direction) → SaysNothing r way → part_in (way_phase way) r [] ≡
    Some (NothingMore way)
unfolding part_in towards_root from_root nothing_from
nothing_again records.Barrier directions.TowardsRoot fits = refl
nothing_again records.Barrier directions.FromRoot fits = refl
nothing_again records.Dup directions.TowardsRoot fits = refl
nothing_again records.Dup directions.FromRoot fits = absurd cc
nothing_again records.Split way fits = absurd fits
nothing_again (records.Bcast x) way fits = absurd fits
nothing_again (records.Gather x) way fits = absurd fits
nothing_again (records.Scatter x) way fits = absurd fits
nothing_again (records.Reduce o x) way fits = absurd fits
nothing_again (records.Allreduce o e) way fits = absurd fits

context_again : (context : ℕ) → context < 2 ^ 64 → context_from (big_bytes 8 context) ≡ Some (ContextText context)
unfolding context_from
context_again context fits =
    let back : number_at 0 8 (big_bytes 8 context) ≡ context = big_number-reads_back 8 context [] fits in
    rw back refl

-- a signed key has four bytes
key_small : (z : ℤ) → FitsSigned w32 z → cast_unsigned w32 z < 2 ^ 32
key_small (pos n) fits = let s : n < 2 ^ 31 = fits.sfits in omega arith
key_small (negsuc n) fits = omega arith

-- a choice, by the byte in front of its colour and the four behind it
choice_from_parts : (byte number : ℕ) (colour : Option ℕ) (key : ℤ) → number < 2 ^ 32 → FitsSigned w32 key →
    colour_from byte number ≡ Some colour
    → choice_from ((byte ∷ big_bytes 4 number) ++ big_bytes 4 (cast_unsigned w32 key)) ≡
    Some (ChoiceText (record { colour = colour; key = key }))
unfolding choice_from
choice_from_parts byte number colour key small fits is =
    let body = (byte ∷ big_bytes 4 number) ++ big_bytes 4 (cast_unsigned w32 key) in
    let first : number_at 1 4 body ≡ number = big_number-reads_back 4 number (big_bytes 4 (cast_unsigned w32 key)) small in
    let last : number_at 5 4 body ≡ cast_unsigned w32 key = big_number-reads_back 4 (cast_unsigned w32 key) [] (key_small key fits) in
    let back : cast_signed w32 (cast_unsigned w32 key) ≡ key = to_z-of_z w32 key fits in
    rw (first, is, last, back) refl

choice_again : (colour : Option ℕ) (key : ℤ) → ColourIsWithin colour → FitsSigned w32 key →
    choice_from (colour_spelling colour ++ big_bytes 4 (cast_unsigned w32 key)) ≡
    Some (ChoiceText (record { colour = colour; key = key }))
unfolding colour_from
choice_again None key width fits = choice_from_parts 0 0 nothing key (omega arith) fits refl
choice_again (Some colour) key width fits = choice_from_parts 1 colour (there colour) key width fits refl

null_again : group_from [] ≡ Some NullText
unfolding group_from
null_again = refl

group_again : (context : ℕ) (ranks : List ℕ) → context < 2 ^ 64 → AreRanks ranks →
    group_from (big_bytes 8 context ++ ranks) ≡ Some (GroupText context ranks)
unfolding group_from
group_again context ranks fits are =
    let body = big_bytes 8 context ++ ranks in
    let some = are.some in
    let whole = are.whole in
    let long : leb 10 (length body) ≡ true = le-leb _ _ (omega arith) in
    let even : eqb (length body % 2) 0 ≡ true = eq-eqb _ _ (omega arith) in
    let back : number_at 0 8 body ≡ context = big_number-reads_back 8 context ranks fits in
    let there_is : eqb (length body) 0 ≡ false = ne_eqb (length body) 0 (λ (e : length body ≡ 0). absurd (omega arith)) in
    rw (there_is, long, even, back) refl

part_again : (r : Record) (p : PartText) → PartIsWithin p → PartFits r p → part_in (phase_of p) r (part_spelling p) ≡
    Some p
unfolding part_in towards_root from_root nothing_from
part_again r Differing width fits = refl
part_again r (NothingMore way) width fits = nothing_again r way fits
part_again r (ElementsText directions.TowardsRoot bytes) width fits = towards_elements r bytes fits
part_again r (ElementsText directions.FromRoot bytes) width fits = from_elements r bytes fits
part_again r (ContextText context) width fits =
    subst (λ (x : Record). from_root x (big_bytes 8 context) ≡ Some (ContextText context)) (sym fits)
    (context_again context width)
part_again r (ChoiceText choice) width fits =
    subst (λ (x : Record). towards_root x (part_spelling (ChoiceText choice)) ≡ Some (ChoiceText choice)) (sym fits)
    (choice_again choice.colour choice.key width.0 width.1)
part_again r NullText width fits = subst (λ (x : Record). from_root x [] ≡ Some NullText) (sym fits) null_again
part_again r (GroupText context ranks) width fits =
    subst (λ (x : Record). from_root x (big_bytes 8 context ++ ranks) ≡ Some (GroupText context ranks)) (sym fits.0)
    (group_again context ranks width fits.1)

fields_from : (bytes : List ℕ) (r : Record) → get_or bytes 1 0 ≡ operation_field r →
    get_or bytes 2 0 ≡ type_code (elements_of r) → number_at 4 4 bytes ≡ root_field r →
    number_at 8 4 bytes ≡ count_field (elements_of r) → fields_of bytes ≡ fields_in r
fields_from bytes r operation basic root count = rw (operation, basic, root, count) refl

head_again : (r : Record) (phase : Phase) (body : List ℕ) → RecordIsWithin r
    → let bytes : List ℕ = record_spelling r phase ++ body in (head_of bytes ≡ Some r) ×
    (get_or bytes 3 0 ≡ phase_code phase) × (drop 16 bytes ≡ body)
unfolding record_spelling
head_again r phase body fits =
    let bytes : List ℕ = record_spelling r phase ++ body in
    let r12 : List ℕ = big_bytes 4 0 ++ body in
    let r8 : List ℕ = big_bytes 4 (count_field (elements_of r)) ++ r12 in
    let root : number_at 4 4 bytes ≡ root_field r = big_number-reads_back 4 (root_field r) r8 fits.root in
    let count : number_at 8 4 bytes ≡ count_field (elements_of r) = big_number-reads_back 4 (count_field (elements_of r)) r12 fits.count in
    let zeros : number_at 12 4 bytes ≡ 0 = big_number-reads_back 4 0 body (omega arith) in
    let long : 16 ≤ length bytes = omega (arith, length-append (record_spelling r phase) body) in (
      head_from bytes r long zeros (kind_again (kind_of r)) (fields_from bytes r refl refl root count),
      refl,
      refl,
    )

payload_from : (bytes body : List ℕ) (p : PayloadText) (phase : Phase) → head_of bytes ≡ Some p.record_is →
    phase_at (get_or bytes 3 0) ≡ Some phase → drop 16 bytes ≡ body → part_in phase p.record_is body ≡ Some p.part →
    payload_of bytes ≡ Some p
unfolding payload_of
payload_from bytes body p phase head phase_is rest part = rw (head, phase_is, rest, part) refl

pub payload_again : (p : PayloadText) → PayloadFits p → payload_of (spelling p) ≡ Some p
unfolding spelling
payload_again p fits =
    let phase = phase_of p.part in
    let h = head_again p.record_is phase (part_spelling p.part) fits.record_width in
    payload_from (spelling p) (part_spelling p.part) p phase h.0 (ap phase_at h.1 ∙ phase_again phase) h.2
    (part_again p.record_is p.part fits.width fits.part)

pub is_found : (bytes : List ℕ) (r : Result Payload PayloadRefusal) → IsBytes bytes →
    Gives payload_text r (payload_of bytes) →
    IfOk r (λ p. PayloadFits (payload_text p) × (bytes ≡ spelling (payload_text p)))
is_found bytes (Ok p) fits gives = payload_takes bytes (payload_text p) fits gives
is_found bytes (Err e) fits gives = tt

pub is_only : (bytes : List ℕ) (r : Result Payload PayloadRefusal) → Gives payload_text r (payload_of bytes) →
    (p : PayloadText) → PayloadFits p → bytes ≡ spelling p → Gives payload_text r (Some p)
is_only bytes (Ok x) gives p fits is = sym (ap payload_of is ∙ payload_again p fits) ∙ gives
is_only bytes (Err BadFrame) gives p fits is = sym (ap payload_of is ∙ payload_again p fits) ∙ gives
is_only bytes (Err OutOfMemory) gives p fits is = absurd gives
