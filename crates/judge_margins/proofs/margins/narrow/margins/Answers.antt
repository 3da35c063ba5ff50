use Rattle.std.proofs.Common.{◌≡◌, ◌≤◌, ◌+◌, ℕ, List, length, refl, sym, subst, arith}
use Rattle.judge_report.specs.declared.upper_end.Lost.{Lost}
use Rattle.judge_margins.specs.{margins.Ends.AreEnds, margins.Ends.HaveRoom, margins.Brackets.AreNarrowed}
use Rattle.judge_margins.specs.{declared.margins.end.End.End, declared.margins.group.Group.Group}
use Rattle.judge_margins.proofs.margins_lemmas.EndLaws.{found_room, founds_are_ends, founds_more}
use Rattle.judge_margins.proofs.margins_lemmas.KeptLaws.{IsStretch, group_is, range_is, range_long}
use Rattle.judge_margins.proofs.margins.narrow.margins.Goals as goal

pub narrowed-requires-clause-group : goal.narrowed-requires-clause-group
narrowed-requires-clause-group c =
    group_is _ c.args.obligations.now c.next_script.first c.next_script-next.result
    c.obligation_at.result c.requires.fit c.requires.exist c.requires.held
    c.next_script-next.ensures.same c.obligation_at.ensures refl
    (omega (arith, c.next_script-next.ensures.later)) c.next_script-next.ensures.within
    c.between.ensures

pub narrowed-requires-clause-room : goal.narrowed-requires-clause-room
narrowed-requires-clause-room c =
    subst (λ (l : List End). HaveRoom c.args.compiled.now.line.now l) (sym c.deref.ensures.value)
    (found_room c.args.compiled.now.line.now c.args.scripts.now c.args.obligations.now
    c.next_script.first
    c.next_script.ends.items c.next_script.invariant.found)

pub next_script-preserved : goal.next_script-preserved
next_script-preserved c =
    let obligations = c.args.obligations.now in
    let first : ℕ = c.next_script.first in
    let next : ℕ = c.next_script-next.result in
    let of : Group = record {
      compiled = c.args.compiled.now;
      scripts = c.args.scripts;
      script = c.obligation_at.result.script;
      these = c.between.result;
    } in
    let ordered : first ≤ next = omega (arith, c.next_script-next.ensures.later) in
    let within = c.next_script-next.ensures.within in record {
      within = within;
      found = founds_more c.laws_below.ensures of c.requires.fit obligations c.requires.exist first
          next c.next_script.ends.items c.in_ok-ends-2.ends.items
          (subst (λ (l : List Lost). IsStretch obligations first l) (sym c.between.ensures)
          (range_is obligations first next ordered within))
          (subst (λ (l : List Lost). first + length l ≡ next) (sym c.between.ensures)
          (range_long obligations first next ordered within))
          c.next_script.invariant.found
          (subst (λ (l : List End). AreNarrowed of l c.in_ok-ends-2.ends.items)
          c.deref.ensures.value c.in_ok-ends-2.ensures);
    }

pub returns-clause-ends : goal.returns-clause-ends
returns-clause-ends c =
    let line = c.args.compiled.now.line.now in
    let scripts = c.args.scripts.now in
    let obligations = c.args.obligations.now in
    let same : c.next_script.first ≡ length obligations =
    omega (arith, c.next_script-test.false, c.next_script.invariant.within) in
    subst (λ (n : ℕ). AreEnds line scripts obligations n c.next_script.ends.items) same
    (founds_are_ends c.laws_below.ensures line scripts c.requires.fit obligations c.requires.exist
    c.next_script.first c.next_script.ends.items c.next_script.invariant.found)

pub returns-clause-room : goal.returns-clause-room
returns-clause-room c =
    found_room c.args.compiled.now.line.now c.args.scripts.now c.args.obligations.now
    c.next_script.first
    c.next_script.ends.items c.next_script.invariant.found
