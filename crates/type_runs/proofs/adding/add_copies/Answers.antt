use Rattle.std.proofs.Common.{rules, ◌≡◌, List, length, take, refl, sym, ◌∙◌, subst, arith}
use Rattle.std.proofs.Math.IntN.{ℤ, pos}
use Rattle.type_maps.specs.Maps.{Map, bytes_of}
use Rattle.type_runs.specs.Making.{Stand}
use Rattle.type_runs.specs.Runs.{Are}
use Rattle.type_runs.proofs.MakingLaws.{bytes_long, no_copies, shared_bytes, whole_bytes, without_runs}
use Rattle.type_runs.proofs.adding.add_copies.Goals as goal

pub returns-then-is_empty : goal.returns-then-is_empty
returns-then-is_empty c = λ bodies m n a within b.
    let empty : length c.args.runs.now ≡ 0 = grind (arith, c.if-is_empty.ensures) in
    record {
      stand = record {
        summary_is = c.in-Ok.ensures m n a.summary_is b.stand.summary_is;
        runs_are = without_runs bodies m n c.args.at.now (take c.args.used.now c.args.into.now) c.args.runs.now empty
            b.stand.runs_are a.runs_are;
      };
      within = within;
    }

pub returns-then-at-eq1 : goal.returns-then-at-eq1
returns-then-at-eq1 c = λ bodies m n a within b.
    let zero : c.args.at.now.at ≡ pos 0 = search rules in
    record {
      summary_is = c.in-Ok.ensures m n a.summary_is b.stand.summary_is;
      runs_are = shared_bytes bodies m n c.args.at.now c.args.into.now c.args.used.now c.if-used-eq0.true
          zero c.if-at-eq1.true a.runs_are;
      row_is = refl;
      used_is = refl;
      nothing = c.if-used-eq0.true;
    }

pub returns-in-Some : goal.returns-in-Some
returns-in-Some c = λ bodies m n a within b.
    let long = (λ t. (b.stand.summary_is t).size) ∙ sym (bytes_long n.elements) in
    let put = c.in-Some.ensures.put bodies (bytes_of m.elements) (bytes_of n.elements) a.runs_are b.stand.runs_are
    b.is_number b.named long in
    record {
      stand = record {
        summary_is = c.in-Ok.ensures m n a.summary_is b.stand.summary_is;
        runs_are = subst (λ (xs : List ℤ). Are bodies (take c.in-Some.count c.put_copies.new.into) xs)
            (sym (whole_bytes m n c.args.at.now)) put.0;
      };
      within = put.1;
    }

pub returns-then-at-eq0 : goal.returns-then-at-eq0
returns-then-at-eq0 c = λ bodies m n a within b. record {
  stand = subst (λ (x : Map). Stand bodies x c.args.made.now (take c.args.used.now c.args.into.now))
      (sym (no_copies m n c.args.at.now.at c.args.at.now.stride c.args.at.now.count c.if-at-eq0.true)) a;
  within = within;
}

pub returns-in_default : goal.returns-in_default
returns-in_default c = λ bodies m n a within b. record {
  same = refl;
  why = c.in_default.ensures m n a.summary_is b.stand.summary_is;
}

pub returns-in-None : goal.returns-in-None
returns-in-None c = λ bodies m n a within b. record {
  same = λ t. record { numbers = c.args.made.now; row = c.in-None.ensures.room.0 t; used = c.args.used.now };
  short = c.in-None.ensures.room.1;
}
