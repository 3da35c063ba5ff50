use Rattle.std.proofs.Common.{◌≡◌, ◌∙◌, ap, arith, subst, sym, ◌≤◌, Bool}
use Rattle.std.specs.Prelude.{nat_lt}
use Rattle.model_history.specs.Rails.{Rails, IsSound}
use Rattle.run_signal.specs.Terns.{tern_rails}
use Rattle.run_signal.specs.TernLaws.{tern_sound}
use Rattle.run_signal.proofs.RailsLaws.{answer_of, rails_skipped, rails_answer, answer_sound}
use Rattle.run_signal.proofs.timed_tern.TernTimed.tick.Goals as goal

pub returns-clause-stands : goal.returns-clause-stands
returns-clause-stands c = λ pickup dropout lane inputs inside.
    let some : 1 ≤ 1 = omega arith in
    rails_skipped c.args.cells.now.must c.args.cells.now.may c.tick-must.new.self
    c.tick-may.new.self
    pickup dropout inputs (tern_rails c.args.input) c.must.result c.may.result
    1 (tern_sound c.args.input) some
    c.must.ensures c.may.ensures c.tick-must.ensures.numbers c.tick-may.ensures.numbers

pub returns-clause-timed : goal.returns-clause-timed
returns-clause-timed c = λ pickup dropout lane inputs inside h.
    let m = c.tick-must.new.self in
    let n = c.tick-may.new.self in
    let stands = returns-clause-stands c pickup dropout lane inputs inside h in
    let x = tern_rails c.args.input in
    let told : record { must = c.tick-must.result; may = c.tick-may.result } ≡ answer_of m n =
    ap (λ (v : Bool). record { must = v; may = c.tick-may.result }) c.tick-must.ensures.answer
    ∙ ap (λ (v : Bool). record { must = nat_lt 0 m.left; may = v }) c.tick-may.ensures.answer in
    let P : Rails → Type 0 = λ y. IsSound y in
    c.from_rails.ensures (subst P (sym told) (answer_sound c.history_laws.ensures m n pickup dropout inputs x stands))
    ∙ told
    ∙ rails_answer c.history_laws.ensures m n pickup dropout inputs x stands
