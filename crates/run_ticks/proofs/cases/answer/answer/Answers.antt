use Rattle.std.proofs.Common.{◌≡◌, ◌∙◌, ap, suc, subst, false, length}
use Rattle.model_history.specs.Rails.{both}
use Rattle.run_step.specs.TickLaws.{seen_pair, loss_pair, raw_pair, timer_stands, timer_pair}
use Rattle.run_step.specs.TickLaws.{seal_stands, seal_pair}
use Rattle.net_gates.specs.{declared.gate.Gate.Gate, Gates.HasArguments, Named.GateNames}
use Rattle.net_gates.specs.declared.gate.Gate.TheVariants as gate
use Rattle.run_step.specs.CellStands.{HasCell}
use Rattle.run_ticks.proofs.cases_lemmas.KindLaws.{has_by, stands_by, pair_by, not_pair, and_pair, or_pair}
use Rattle.run_ticks.proofs.cases.answer.answer.Goals as goal

pub returns-in-Seen : goal.returns-in-Seen
returns-in-Seen g c = record {
  answers = λ lane w keys u inside world sent agree before.
      seen_pair w keys u c.args.t c.args.gate.now _ c.in-Seen.place c.in-Seen.is
      (subst (λ x. g.V.Signal.signal.rails c.known-in-Seen.result lane ≡ x) (ap both c.shown_in.ensures
      ∙ world.seen c.in-Seen.place)
      (c.known-in-Seen.ensures lane inside));
  shape = has_by c.args.gate.now (gate.Seen c.in-Seen.place) c.args.cell.now c.in-Seen.is tt;
  stands = λ lane w u inside agree before.
      stands_by g.V.Signal.signal g.V.Timed.stands_for lane w u (suc c.args.t)
      c.args.gate.now (gate.Seen c.in-Seen.place) c.args.cell.now c.in-Seen.is tt;
}

pub returns-in-Loss : goal.returns-in-Loss
returns-in-Loss g c = record {
  answers = λ lane w keys u inside world sent agree before.
      loss_pair w keys u c.args.t c.args.gate.now _ c.in-Loss.channel c.in-Loss.is
      (subst (λ x. g.V.Signal.signal.rails c.known-in-Loss.result lane ≡ x) (ap both c.lost_in.ensures
      ∙ world.lost c.in-Loss.channel)
      (c.known-in-Loss.ensures lane inside));
  shape = has_by c.args.gate.now (gate.Loss c.in-Loss.channel) c.args.cell.now c.in-Loss.is tt;
  stands = λ lane w u inside agree before.
      stands_by g.V.Signal.signal g.V.Timed.stands_for lane w u (suc c.args.t)
      c.args.gate.now (gate.Loss c.in-Loss.channel) c.args.cell.now c.in-Loss.is tt;
}

pub returns-in-Raw : goal.returns-in-Raw
returns-in-Raw g c = record {
  answers = λ lane w keys u inside world sent agree before.
      raw_pair w keys u c.args.t c.args.gate.now _ c.in-Raw.channel c.in-Raw.is
      (c.raw_answer.ensures lane w keys inside world.channels sent);
  shape = has_by c.args.gate.now (gate.Raw c.in-Raw.channel) c.args.cell.now c.in-Raw.is tt;
  stands = λ lane w u inside agree before.
      stands_by g.V.Signal.signal g.V.Timed.stands_for lane w u (suc c.args.t)
      c.args.gate.now (gate.Raw c.in-Raw.channel) c.args.cell.now c.in-Raw.is tt;
}

pub returns-in-Timer : goal.returns-in-Timer
returns-in-Timer g c = record {
  stands = λ lane w u inside agree before.
      timer_stands g.V.Signal.signal g.V.Timed.stands_for lane w (λ _ _. both false) u
      c.args.t c.args.gate.now c.args.cell.now c.timer_answer.new.cell c.in-Timer.x
      c.in-Timer.field-1 c.in-Timer.field-2 c.in-Timer.is
      (g.V.Signal.signal.rails c.argument-in-Timer.result lane)
      (agree c.in-Timer.x.0 c.argument-in-Timer.result c.argument-in-Timer.ensures) before
      (λ p d inputs h. c.timer_answer.ensures.stands lane p d inputs inside h);
  answers = λ lane w keys u inside world sent agree before.
      timer_pair g.V.Signal.signal g.V.Timed.stands_for lane w keys u
      c.args.t c.args.gate.now c.args.cell.now c.timer_answer.new.cell c.in-Timer.x
      c.in-Timer.field-1 c.in-Timer.field-2 c.in-Timer.is
      (g.V.Signal.signal.rails c.argument-in-Timer.result lane)
      (agree c.in-Timer.x.0 c.argument-in-Timer.result c.argument-in-Timer.ensures) before
      c.recorded_ticks_suffice.ensures (g.V.Signal.signal.rails c.timer_answer.result lane)
      (λ p d inputs h. c.timer_answer.ensures.timed lane p d inputs inside h);
  shape = has_by c.args.gate.now (gate.Timer c.in-Timer.x c.in-Timer.field-1 c.in-Timer.field-2)
      c.timer_answer.new.cell c.in-Timer.is c.timer_answer.ensures.shape;
}

pub returns-in-Seal : goal.returns-in-Seal
returns-in-Seal g c = record {
  stands = λ lane w u inside agree before.
      seal_stands g.V.Signal.signal g.V.Timed.stands_for lane w (λ _ _. both false) u
      c.args.t c.args.gate.now c.args.cell.now c.seal_answer.new.cell c.in-Seal.x c.in-Seal.y
      c.in-Seal.is
      (g.V.Signal.signal.rails c.argument-in-Seal.result lane)
      (g.V.Signal.signal.rails c.argument-in-Seal-2.result lane)
      (agree c.in-Seal.x.0 c.argument-in-Seal.result c.argument-in-Seal.ensures)
      (agree c.in-Seal.y.0 c.argument-in-Seal-2.result c.argument-in-Seal-2.ensures) before
      (λ x y h. c.seal_answer.ensures.stands lane x y inside h);
  answers = λ lane w keys u inside world sent agree before.
      seal_pair g.V.Signal.signal g.V.Timed.stands_for lane w keys u
      c.args.t c.args.gate.now c.args.cell.now c.seal_answer.new.cell c.in-Seal.x c.in-Seal.y
      c.in-Seal.is
      (g.V.Signal.signal.rails c.argument-in-Seal.result lane)
      (g.V.Signal.signal.rails c.argument-in-Seal-2.result lane)
      (agree c.in-Seal.x.0 c.argument-in-Seal.result c.argument-in-Seal.ensures)
      (agree c.in-Seal.y.0 c.argument-in-Seal-2.result c.argument-in-Seal-2.ensures) before
      c.recorded_ticks_suffice.ensures (g.V.Signal.signal.rails c.seal_answer.result lane)
      (λ x y h. c.seal_answer.ensures.sealed lane x y inside h);
  shape = has_by c.args.gate.now (gate.Seal c.in-Seal.x c.in-Seal.y) c.seal_answer.new.cell c.in-Seal.is
      c.seal_answer.ensures.shape;
}

pub returns-in-Const : goal.returns-in-Const
returns-in-Const g c = record {
  shape = has_by c.args.gate.now (gate.Const c.in-Const.value) c.args.cell.now c.in-Const.is tt;
  stands = λ lane w u inside agree before.
      stands_by g.V.Signal.signal g.V.Timed.stands_for lane w u (suc c.args.t)
      c.args.gate.now (gate.Const c.in-Const.value) c.args.cell.now c.in-Const.is tt;
  answers = λ lane w keys u inside world sent agree before.
      pair_by w keys u c.args.t c.args.gate.now _ (gate.Const c.in-Const.value) c.in-Const.is
      (c.known.ensures lane inside);
}

pub returns-in-Not : goal.returns-in-Not
returns-in-Not g c = record {
  shape = has_by c.args.gate.now (gate.Not c.in-Not.x) c.args.cell.now c.in-Not.is tt;
  stands = λ lane w u inside agree before.
      stands_by g.V.Signal.signal g.V.Timed.stands_for lane w u (suc c.args.t)
      c.args.gate.now (gate.Not c.in-Not.x) c.args.cell.now c.in-Not.is tt;
  answers = λ lane w keys u inside world sent agree before.
      not_pair w keys u c.args.t c.args.gate.now _ c.in-Not.x c.in-Not.is
      (g.V.Signal.signal.rails c.argument.result lane)
      (agree c.in-Not.x.0 c.argument.result c.argument.ensures) (c.not.ensures lane inside);
}

pub returns-in-And : goal.returns-in-And
returns-in-And g c = record {
  shape = has_by c.args.gate.now (gate.And c.in-And.x c.in-And.y) c.args.cell.now c.in-And.is tt;
  stands = λ lane w u inside agree before.
      stands_by g.V.Signal.signal g.V.Timed.stands_for lane w u (suc c.args.t)
      c.args.gate.now (gate.And c.in-And.x c.in-And.y) c.args.cell.now c.in-And.is tt;
  answers = λ lane w keys u inside world sent agree before.
      and_pair w keys u c.args.t c.args.gate.now _ c.in-And.x c.in-And.y c.in-And.is
      (g.V.Signal.signal.rails c.argument-in-And.result lane)
      (g.V.Signal.signal.rails c.argument-in-And-2.result lane)
      (agree c.in-And.x.0 c.argument-in-And.result c.argument-in-And.ensures)
      (agree c.in-And.y.0 c.argument-in-And-2.result c.argument-in-And-2.ensures)
      (c.and.ensures lane inside);
}

pub returns-in-Or : goal.returns-in-Or
returns-in-Or g c = record {
  shape = has_by c.args.gate.now (gate.Or c.in-Or.x c.in-Or.y) c.args.cell.now c.in-Or.is tt;
  stands = λ lane w u inside agree before.
      stands_by g.V.Signal.signal g.V.Timed.stands_for lane w u (suc c.args.t)
      c.args.gate.now (gate.Or c.in-Or.x c.in-Or.y) c.args.cell.now c.in-Or.is tt;
  answers = λ lane w keys u inside world sent agree before.
      or_pair w keys u c.args.t c.args.gate.now _ c.in-Or.x c.in-Or.y c.in-Or.is
      (g.V.Signal.signal.rails c.argument-in-Or.result lane)
      (g.V.Signal.signal.rails c.argument-in-Or-2.result lane)
      (agree c.in-Or.x.0 c.argument-in-Or.result c.argument-in-Or.ensures)
      (agree c.in-Or.y.0 c.argument-in-Or-2.result c.argument-in-Or-2.ensures)
      (c.or.ensures lane inside);
}

pub raw_answer-requires-clause-exists : goal.raw_answer-requires-clause-exists
raw_answer-requires-clause-exists g c =
    subst (GateNames c.args.line.now) c.in-Raw.is c.requires.names

pub argument-requires : goal.argument-requires
argument-requires g c =
    subst (HasArguments (length c.args.earlier.now)) c.in-Not.is c.requires.arguments

pub argument-requires-in-And : goal.argument-requires-in-And
argument-requires-in-And g c =
    (subst (HasArguments (length c.args.earlier.now)) c.in-And.is c.requires.arguments).0

pub argument-requires-in-And-2 : goal.argument-requires-in-And-2
argument-requires-in-And-2 g c =
    (subst (HasArguments (length c.args.earlier.now)) c.in-And.is c.requires.arguments).1

pub argument-requires-in-Or : goal.argument-requires-in-Or
argument-requires-in-Or g c =
    (subst (HasArguments (length c.args.earlier.now)) c.in-Or.is c.requires.arguments).0

pub argument-requires-in-Or-2 : goal.argument-requires-in-Or-2
argument-requires-in-Or-2 g c =
    (subst (HasArguments (length c.args.earlier.now)) c.in-Or.is c.requires.arguments).1

pub argument-requires-in-Timer : goal.argument-requires-in-Timer
argument-requires-in-Timer g c =
    subst (HasArguments (length c.args.earlier.now)) c.in-Timer.is c.requires.arguments

pub timer_answer-requires : goal.timer_answer-requires
timer_answer-requires g c =
    subst (λ (k : Gate). HasCell k c.args.cell.now) c.in-Timer.is c.requires.cell

pub argument-requires-in-Seal : goal.argument-requires-in-Seal
argument-requires-in-Seal g c =
    (subst (HasArguments (length c.args.earlier.now)) c.in-Seal.is c.requires.arguments).0

pub argument-requires-in-Seal-2 : goal.argument-requires-in-Seal-2
argument-requires-in-Seal-2 g c =
    (subst (HasArguments (length c.args.earlier.now)) c.in-Seal.is c.requires.arguments).1

pub seal_answer-requires : goal.seal_answer-requires
seal_answer-requires g c =
    subst (λ (k : Gate). HasCell k c.args.cell.now) c.in-Seal.is c.requires.cell
