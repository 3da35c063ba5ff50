use Rattle.std.proofs.Common.{sym, ◌∙◌, ap}
use Rattle.file_study.specs.times.Words.{sign_at}
use Rattle.file_study.specs.times.Times.{closed, tolerated}
use Rattle.file_study.proofs.times_lemmas.Behind.{behind_margin}
use Rattle.file_study.proofs.times.read.Reading.behind_tolerance.Goals as goal

pub returns-in_ok-margin-in_default : goal.returns-in_ok-margin-in_default
returns-in_ok-margin-in_default c =
    let e = behind_margin c.args.self.now.hertz c.args.self.now.text.now c.args.value c.args.number
    c.in_ok-margin-in_default.margin c.in_ok-margin-in_default.ensures.is
    (sign_at c.args.self.now.text.now 4) (λ is. c.in_default.not-Percent (c.sign.ensures ∙ is))
    in record {
      is = c.closed.ensures.is
          ∙ ap (λ t. closed c.args.self.now.text.now 5 t) (c.tolerated.ensures.is
          ∙ ap (λ w. tolerated c.args.value w c.in_ok-margin-in_default.margin) c.whole.ensures)
          ∙ sym e;
      readable = c.closed.ensures.readable;
    }
