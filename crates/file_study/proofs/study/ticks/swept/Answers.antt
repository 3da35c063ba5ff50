use Rattle.std.proofs.Common.{◌<◌, ◌-◌, ap, sym, ◌∙◌, arith}
use Rattle.std.proofs.lemmas.Result.{err_from_is_err_and}
use Rattle.file_study.specs.times.Sweeps.{value_of}
use Rattle.file_study.specs.study.Moments.{all_limited}
use Rattle.file_study.proofs.study_lemmas.Quotients.{values_more, values_none, limited_more, limited_ends}
use Rattle.file_study.proofs.study_lemmas.Quotients.{limited_none, test_true, test_false}
use Rattle.file_study.proofs.study_lemmas.Quotients.{many_values, few_values}
use Rattle.file_study.proofs.study.ticks.swept.Goals as goal

pub returns-then-count-gt1000 : goal.returns-then-count-gt1000
returns-then-count-gt1000 c =
    many_values c.args.upward c.args.tick_us c.args.path c.args.sweep c.count-count.result
    c.count-count.ensures (omega arith)

pub returns-in_err-ticks : goal.returns-in_err-ticks
returns-in_err-ticks c =
    let told = err_from_is_err_and c.from_residual.result c.from_residual.ensures.1 in
    let s = c.args.sweep in
    let i = c.loop-i.i in
    let done = c.loop-i.values.items in
    let less : i < c.count-count.result = omega arith in
    let more = values_more s i (omega arith)
    (test_true s c.count-count.result c.count-count.ensures i less) in
    let e = rw (c.rounded.ensures, c.value.ensures) at (sym c.in_err-ticks.ensures.is) in
    let all = limited_ends c.args.upward c.args.tick_us c.args.path (value_of s i) _ done _ e in
    let few = few_values c.args.upward c.args.tick_us c.args.path s c.count-count.result
    c.count-count.ensures (omega arith) in
    rw (told.1, told.2)
    (few ∙ sym c.loop-i.invariant
    ∙ ap (λ xs. all_limited c.args.upward c.args.tick_us c.args.path xs done) more ∙ all)

pub loop-i-preserved : goal.loop-i-preserved
loop-i-preserved c =
    let s = c.args.sweep in
    let i = c.loop-i.i in
    let done = c.loop-i.values.items in
    let less : i < c.count-count.result = omega arith in
    let more = values_more s i (omega arith)
    (test_true s c.count-count.result c.count-count.ensures i less) in
    let e = rw (c.rounded.ensures, c.value.ensures) at (sym c.in_ok-ticks.ensures.is) in
    let all = limited_more c.args.upward c.args.tick_us c.args.path (value_of s i) _ done _ e in
    rw c.in_ok-push.ensures.items
    (sym all
    ∙ ap (λ xs. all_limited c.args.upward c.args.tick_us c.args.path xs done) (sym more)
    ∙ c.loop-i.invariant)

pub returns : goal.returns
returns c =
    let s = c.args.sweep in
    let i = c.loop-i.i in
    let done = c.loop-i.values.items in
    let none = values_none s i (1000 - i)
    (test_false s c.count-count.result c.count-count.ensures i (omega arith)) in
    let few = few_values c.args.upward c.args.tick_us c.args.path s c.count-count.result
    c.count-count.ensures (omega arith) in
    few ∙ sym c.loop-i.invariant
    ∙ ap (λ xs. all_limited c.args.upward c.args.tick_us c.args.path xs done) none
    ∙ limited_none c.args.upward c.args.tick_us c.args.path done
