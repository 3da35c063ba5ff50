use Rattle.std.proofs.Common.{List, ◌++◌, ◌∙◌, arith, subst, sym, ℕ}
use Rattle.std.proofs.lemmas.List.{length-map, take_all}
use Rattle.file_tables.specs.script.SoFar.{AreOnce}
use Rattle.model_line.specs.declared.script.Script.{Script}
use Rattle.file_study.specs.sweeps.Studies.{script_names}
use Rattle.file_study.proofs.sweeps_lemmas.Names.{next_new}
use Rattle.file_study.proofs.sweeps.study.first_twice.Goals as goal

pub loop-k-preserved : goal.loop-k-preserved
loop-k-preserved c =
    let count = length-map c.args.own.now (λ (s : Script). s.name) in
    next_new (script_names c.args.done.now) (script_names c.args.own.now) c.loop-k.k
    (omega (arith, count, c.loop-k-test.true)) c.loop-k.invariant
    (sym c.stands_before.ensures ∙ c.if-stands_before.false)

pub returns-clause-none : goal.returns-clause-none
returns-clause-none c =
    let count = length-map c.args.own.now (λ (s : Script). s.name) in
    subst (λ (ns : List (List ℕ)). AreOnce (script_names c.args.done.now ++ ns))
    (take_all c.loop-k.k (script_names c.args.own.now) (omega (arith, count, c.loop-k-test.false)))
    c.loop-k.invariant
