use Rattle.std.proofs.Common.{◌≡◌, Bool, List, sym, ◌∙◌, ap, arith, ⊎_elim}
use Rattle.std.proofs.lemmas.Bool.{cases_lt}
use Rattle.std.proofs.lemmas.Option.{slice_get_within}
use Rattle.std.proofs.lemmas.Slice.Eq.{slice_eq-Decides}
use Rattle.std.specs.Cmp.{booleans_Decides}
use Rattle.model_history.specs.ListLaws.{at_index, one_value}
use Rattle.model_history.specs.TruthLaws.{not_both}
use Rattle.judge_races.specs.declared.races.Race.{Race}
use Rattle.judge_races.proofs.races.place_of.Goals as goal

pub returns-then-eq : goal.returns-then-eq
returns-then-eq c =
    let xs : List Bool = c.deref.result.now in
    let tells = slice_eq-Decides booleans_Decides xs c.args.ends.now c.eq.result c.eq.ensures in
    record {
      race = c.index-races-i.result;
      there = at_index c.args.races.now c.loop-i.i c.index-races-i.result c.loop-i-test.true
          c.index-races-i.is;
      same = ap (λ (x : Race). x.ends.items) c.index-races-i.is ∙ sym c.deref.ensures.value
          ∙ tells.0 c.if-eq.true;
    }

pub loop-i-preserved : goal.loop-i-preserved
loop-i-preserved c = λ j low has.
    let xs : List Bool = c.deref.result.now in
    let tells = slice_eq-Decides booleans_Decides xs c.args.ends.now c.eq.result c.eq.ensures in
    ⊎_elim (λ lt. c.loop-i.invariant j lt has)
    (λ ge.
    let at : j ≡ c.loop-i.i = omega (arith, low, ge) in
    let there = at_index c.args.races.now c.loop-i.i c.index-races-i.result c.loop-i-test.true
    c.index-races-i.is in
    let e : c.index-races-i.result ≡ has.race =
    one_value c.args.races.now c.loop-i.i j c.index-races-i.result has.race (sym at) there has.there in
    let same : xs ≡ c.args.ends.now =
    c.deref.ensures.value ∙ sym (ap (λ (x : Race). x.ends.items) c.index-races-i.is)
    ∙ ap (λ (x : Race). x.ends.items) e ∙ has.same in
    not_both c.eq.result c.if-eq.false (tells.1 same))
    (cases_lt j c.loop-i.i)

pub returns : goal.returns
returns c = λ i has.
    let within = slice_get_within c.args.races.now i has.race has.there in
    c.loop-i.invariant i (omega (arith, within, c.loop-i-test.false)) has
