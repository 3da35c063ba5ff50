use Rattle.std.proofs.Common.{◌≡◌, ◌<◌, ◌+◌, ◌*◌, ℕ, Some, length, refl, subst, sym, ◌∙◌, ap, arith}
use Rattle.std.proofs.lemmas.Option.{slice_get_read}
use Rattle.std.specs.Prelude.{slice_get}
use Rattle.model_history.specs.ListLaws.{exists_at}
use Rattle.model_line.specs.Parameters.{terminal_count}
use Rattle.judge_settle.specs.declared.settle.answer.Settled.{Settled}
use Rattle.judge_map.specs.Answered.{known_in}
use Rattle.judge_map.specs.{Asked.box_of, Known.IsKnown, declared.known.Known.Known}
use Rattle.judge_map.proofs.{AnswerLaws.known_of_the_answer, KnownLaws.known_at, KnownLaws.known_more}
use Rattle.judge_map.proofs.search.push_settled.Goals as goal

pub bounds-settled-k : goal.bounds-settled-k
bounds-settled-k c =
    let asked = c.args.asked.now in
    let (script, at) = exists_at asked.scripts.now c.args.s c.requires.script in
    omega (
      arith,
      c.loop-k-test.true,
      c.len-k-end.ensures,
      (c.requires.settled script at).count,
      c.laws_below.ensures.counts.terminals asked.line.now c.args.other.now c.requires.other.rest,
    )

pub loop-k-preserved : goal.loop-k-preserved
loop-k-preserved c =
    let asked = c.args.asked.now in
    let line = asked.line.now in
    let other = c.args.other.now in
    let scripts = asked.scripts.now in
    let box = box_of asked in
    let settled = c.args.settled.now in
    let s : ℕ = c.args.s in
    let k : ℕ = c.loop-k.k in
    let one = c.index-settled-k.result in
    let kn : k < terminal_count line = omega (arith, c.loop-k-test.true, c.len-k-end.ensures) in
    let (script, at) = exists_at scripts s c.requires.script in
    let are = c.requires.settled script at in
    let inside : k < length settled = omega (
      arith,
      kn,
      are.count,
      c.laws_below.ensures.counts.terminals line other c.requires.other.rest,
    ) in
    let there : slice_get settled k ≡ Some one =
    slice_get_read settled (length settled) k one refl inside c.index-settled-k.is in
    known_more line scripts box (s * terminal_count line + k) (s * terminal_count line + (k + 1))
    c.loop-k.known.items c.push.new.self.items c.known_of.result (omega arith)
    c.in_ok-push.ensures.items
    (known_at line scripts box s k script c.known_of.result at kn
    (subst (λ (told : Known). IsKnown line script k box told)
    (sym (c.known_of.ensures ∙ ap (λ (x : Settled). known_in x.answer) (sym c.index-settled-k.is)))
    (known_of_the_answer c.laws_below.ensures line other script k box c.requires.other.rest
    c.requires.other.box one.answer c.requires.mixed (are.each k one there).answer)))
    c.loop-k.invariant
