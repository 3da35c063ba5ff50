use Rattle.std.proofs.Common.{◌+◌, ℕ, Bool, List, length, subst}
use Rattle.judge_choose.specs.Lanes.{AreKeptBefore}
use Rattle.judge_choose.proofs.choose_lemmas.TodayLaws.{today_told}
use Rattle.judge_choose.proofs.choose.range_of.Goals as goal

pub returns-then-are_kept : goal.returns-then-are_kept
returns-then-are_kept c =
    let line = c.args.compiled.now.line.now in
    let scripts = c.args.scripts.now in
    let bits = c.args.bits.now in
    let lane : ℕ = c.args.lane in
    let kept = c.in_ok-range.range.kept.items in record {
      shown = c.in_ok-range.ensures.shown line scripts c.requires.cover c.requires.tell;
      today = today_told c.laws_below.ensures line scripts c.args.candidate.now.setting.now
          c.requires.cover.setting kept bits (lane + 3) c.in_ok-range.ensures.kept.count
          c.requires.tell.declared
          (subst (λ (l : List Bool). AreKeptBefore l bits (lane + 3) (length l))
          c.deref.ensures.value (c.are_kept.ensures c.if-are_kept.true));
    }
