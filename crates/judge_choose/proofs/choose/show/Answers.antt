use Rattle.std.proofs.Common.{◌≡◌, ◌+◌, ◌*◌, ℕ, List, Some, length, subst, sym, arith}
use Rattle.std.specs.Prelude.{slice_get}
use Rattle.judge_choose.specs.declared.cover.Cover.{Cover}
use Rattle.judge_choose.specs.{Told.AreCovers, Told.AreTold, Lanes.TellOf, Ranges.AreRangesBelow}
use Rattle.judge_choose.proofs.choose_lemmas.AskedLaws.{asked_covers, tell_of}
use Rattle.judge_choose.proofs.choose_lemmas.TodayLaws.{range_more}
use Rattle.judge_choose.proofs.choose.show.Goals as goal

pub told-requires-clause-covers : goal.told-requires-clause-covers
told-requires-clause-covers c =
    let line = c.args.compiled.now.line.now in
    subst (AreCovers line) (sym c.deref.ensures.value)
    (asked_covers line c.args.candidates.now c.in_ok-covers.covers.items c.requires.found.covers
    c.in_ok-covers.ensures)

pub range_of-requires-clause-cover : goal.range_of-requires-clause-cover
range_of-requires-clause-cover c =
    c.requires.found.covers c.loop-i.i c.candidate_at-candidate.result.now
    c.candidate_at-candidate.ensures

pub range_of-requires-clause-tell : goal.range_of-requires-clause-tell
range_of-requires-clause-tell c =
    let line = c.args.compiled.now.line.now in
    let scripts = c.args.scripts.now in
    let bits = c.in_ok-bits.bits.items in
    let candidate = c.candidate_at-candidate.result.now in
    subst (λ (l : List ℕ). TellOf line scripts candidate l (4 * c.loop-i.i))
    (sym c.deref-in-loop-i.ensures.value)
    (tell_of line scripts c.args.candidates.now c.in_ok-covers.covers.items bits
    c.in_ok-covers.ensures
    (subst (λ (l : List Cover). AreTold line scripts l bits) c.deref.ensures.value
    c.in_ok-bits.ensures)
    c.requires.found.few c.loop-i.i candidate c.candidate_at-candidate.ensures)

pub loop-i-preserved : goal.loop-i-preserved
loop-i-preserved c =
    let line = c.args.compiled.now.line.now in
    let scripts = c.args.scripts.now in
    let settings = c.args.settings.now in
    let candidate = c.candidate_at-candidate.result.now in
    let n : ℕ = c.len-first.result + c.loop-i.i in
    let ok = c.args.ranges.now.ok in
    let same : length c.args.ranges.now.items ≡ c.len-first.result =
    omega (arith, c.len-first.ensures, ok.0) in
    let next : n + 1 ≡ c.len-first.result + (c.loop-i.i + 1) = omega arith in
    subst (λ (m : ℕ). AreRangesBelow line scripts settings m c.push.new.self.items) next
    (range_more line scripts settings n c.loop-i.ranges.items c.push.new.self.items
    c.in_ok-range.range candidate.setting.now
    (subst (λ (m : ℕ). slice_get settings (m + c.loop-i.i) ≡ Some candidate.setting.now)
    same
    (c.requires.found.of c.loop-i.i candidate c.candidate_at-candidate.ensures))
    c.in_ok-range.ensures c.in_ok-push.ensures.items c.loop-i.invariant)
