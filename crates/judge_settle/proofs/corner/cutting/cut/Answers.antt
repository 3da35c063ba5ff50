use Rattle.std.proofs.Common.{sym, subst}
use Rattle.judge_settle.specs.corner.Cuts.{IsLeftOf}
use Rattle.judge_settle.specs.corner.Obligations.{IsFailed}
use Rattle.judge_settle.proofs.corner_lemmas.Tries.{left_itself, left_of_left}
use Rattle.judge_settle.proofs.corner.cutting.cut.Goals as goal

pub rounds-init : goal.rounds-init
rounds-init c =
    let of = c.args.of.now in
    record {
      fails = subst (IsFailed of) (sym c.in_ok-cut.ensures) c.requires.fails;
      left = subst (IsLeftOf of.compiled.line.now c.args.timing.now) (sym c.in_ok-cut.ensures)
          (left_itself of.compiled.line.now c.args.timing.now);
      matters = λ off. absurd (cc);
    }

pub rounds-preserved : goal.rounds-preserved
rounds-preserved c =
    let of = c.args.of.now in
    record {
      fails = c.in_ok-more.ensures.round.fails;
      left = left_of_left of.compiled.line.now c.args.timing.now c.rounds.cut c.round.new.cut
          c.rounds.invariant.left c.in_ok-more.ensures.round.left;
      matters = c.in_ok-more.ensures.matters;
    }
