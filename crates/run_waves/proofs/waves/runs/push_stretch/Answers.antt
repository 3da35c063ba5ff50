use Rattle.std.proofs.Common.{◌≡◌, ◌-◌, ◌<◌, List, [], ◌∷◌, ◌++◌, sym, ◌∙◌, ap, arith, rules}
use Rattle.std.proofs.Common.{length, subst}
use Rattle.std.proofs.lemmas.List.{get_or_read}
use denote.Enum.Bare.{same_true, same_false}
use Rattle.run_signal.specs.contracts.tern.Tern.{the_type}
use Rattle.run_waves.specs.declared.waves.runs.Stretch.{Stretch}
use Rattle.run_waves.specs.waves.Waves.{levels_of, runs_from, AreApart}
use Rattle.run_waves.proofs.waves_lemmas.RunLaws.{Appends, last_grows, first_stretch, next_stretch, ticks_in}
use Rattle.run_waves.proofs.waves.runs.push_stretch.Goals as goal
use Rattle.run_waves.proofs.waves.runs.push_stretch.Goals.{else-count-gt0-via-then-count-gt0+else-eq}
use Rattle.run_waves.proofs.waves.runs.push_stretch.Goals.{else-count-gt0-via-else-count-gt0}

pub returns-then-eq : goal.returns-then-eq
returns-then-eq c =
    let old : List Stretch = c.args.stretches.now.items in
    let i = c.len-count.result - 1 in
    let last : Stretch = c.index_mut.result.now in
    let inside : i < length old = omega arith in
    let read : c.index.result.now ≡ last =
    get_or_read old i c.index.result.now inside c.index.ensures last
    ∙ sym c.index_mut.ensures.value in
    let same : last.level ≡ c.args.level =
    ap (λ (s : Stretch). s.level) (sym read)
    ∙ same_true the_type (search rules) _ _ (sym c.eq.ensures ∙ c.if-eq.true) in
    let done = last_grows old c.len-count.result last last c.args.level c.args.end
    c.requires.apart (omega arith) (omega arith) c.index_mut.ensures.value same
    c.requires.later in
    (done.apart, done.levels)

pub returns : goal.returns
returns c =
    let old : List Stretch = c.args.stretches.now.items in
    let new : List Stretch = c.push.new.self.items in
    let last : Stretch = record { level = c.args.level; end = c.args.end } in
    let done : Appends (runs_from 0 old) (runs_from 0 (old ++ last ∷ [])) c.args.level
    (c.args.end - ticks_in old) =
    elim c.else-count-gt0.branch [
      | else-count-gt0-via-then-count-gt0+else-eq w ↦ next_stretch old c.len-count.result
          w.index.result.now w.index.result.now c.args.level c.args.end c.requires.apart
          (omega arith) (omega arith) w.index.ensures
          (same_false the_type _ _ (sym w.eq.ensures ∙ w.if-eq.false)) c.requires.later
      | else-count-gt0-via-else-count-gt0 w ↦ first_stretch old c.args.level c.args.end
          (omega arith) c.requires.later
    ] in
    let P : List Stretch → Type 0 = λ s. AreApart (runs_from 0 s) in (
      subst P (sym c.in_ok-push.ensures.items) done.apart,
      ap (λ (s : List Stretch). levels_of (runs_from 0 s)) c.in_ok-push.ensures.items
          ∙ done.levels,
    )
