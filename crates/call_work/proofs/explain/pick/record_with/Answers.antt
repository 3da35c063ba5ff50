use Rattle.std.proofs.Common.{◌≡◌, ◌<◌, ◌∙◌, ap, sym, eq-eqb, length}
use Rattle.std.proofs.lemmas.Bool.{ne_eqb}
use Rattle.std.proofs.lemmas.List.{get_or_default}
use Rattle.std.specs.Prelude.{Ok}
use Rattle.judge_match.specs.declared.matching.seen.Seen.{Seen}
use Rattle.judge_match.specs.matching.Waves.{seen_values}
use Rattle.call_work.proofs.explain_lemmas.PickLaws.{found_at, passed, missing}
use Rattle.call_work.proofs.explain.pick.record_with.Goals as goal

pub returns-then-records-i-clause-picked : goal.returns-then-records-i-clause-picked
returns-then-records-i-clause-picked c =
    let xs = c.args.records.now in
    let i = c.loop-i.i in
    let x : Seen = c.index-records-i.result in
    let y : Seen = c.index-records-i-then-records-i.result in
    let inside : i < length xs = c.loop-i-test.true in
    let same : x ≡ y =
    c.index-records-i.is ∙ get_or_default xs i x y inside ∙ sym c.index-records-i-then-records-i.is in
    sym c.loop-i.invariant
    ∙ found_at c.args.script xs i x inside c.index-records-i.is
    (eq-eqb x.script c.args.script (ap (λ (s : Seen). s.script) c.index-records-i.is ∙ c.if-records-i.true))
    ∙ ap (λ (s : Seen). Ok (seen_values s)) same

pub loop-i-preserved : goal.loop-i-preserved
loop-i-preserved c =
    let xs = c.args.records.now in
    let i = c.loop-i.i in
    let x : Seen = c.index-records-i.result in
    passed c.args.script xs i x c.loop-i-test.true c.index-records-i.is
    (ne_eqb x.script c.args.script
    (λ same. c.if-records-i.false (sym (ap (λ (s : Seen). s.script) c.index-records-i.is) ∙ same)))
    ∙ c.loop-i.invariant

pub returns-clause-picked : goal.returns-clause-picked
returns-clause-picked c =
    sym c.loop-i.invariant
    ∙ missing c.args.script c.args.records.now c.loop-i.i c.loop-i-test.false
