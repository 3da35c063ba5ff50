use Rattle.std.proofs.Common.{◌≡◌, ◌*◌, ℕ, length, sym, ◌∙◌, ap}
use Rattle.model_logic.specs.PairMean.{PairWorld}
use Rattle.model_logic.specs.Choice.{pair_world_of}
use Rattle.run_ticks.specs.{cases.Given.span_box, cases.Ticks.under_pairs, cases.Ticks.own_pairs}
use Rattle.run_ticks.proofs.cases_lemmas.ValueLaws.{told_at, value_in}
use Rattle.run_ticks.proofs.cases.run_net.run_under.Goals as goal

pub new-requires : goal.new-requires
new-requires g c =
    let horizon = c.args.compiled.now.line.now.horizon in
    let width : c.len.result ≡ length c.args.compiled.now.net.now.gates = c.len.ensures.len in
    record {
      count = c.in_ok-told.ensures.count ∙ ap (λ (m : ℕ). horizon * m) (sym width);
      owns = c.in_ok-told.ensures.own_count ∙ ap (λ (m : ℕ). horizon * m) (sym width);
      narrow = c.len.ensures.few;
      short = c.args.compiled.now.line.now.horizon_in_range.1;
    }

pub returns-clause-width : goal.returns-clause-width
returns-clause-width g c = ap (λ w. w.width) c.new.ensures ∙ c.len.ensures.len

pub returns-clause-horizon : goal.returns-clause-horizon
returns-clause-horizon g c = ap (λ w. w.horizon) c.new.ensures

pub returns-clause-pairs : goal.returns-clause-pairs
returns-clause-pairs g c = λ lane level keys inside put are.
    let net = c.args.compiled.now.net.now in
    let line = c.args.compiled.now.line.now in
    let n = length net.gates in
    let waves = c.new.result in
    let rails = g.V.Signal.signal.rails in
    let w : PairWorld =
    pair_world_of line c.args.script.now (span_box g.V.Signal.signal.ends line c.args.spans.now lane) in
    let told = c.in_ok-told.ensures.told lane level keys inside put are in
    let width : waves.width ≡ n = returns-clause-width g c in
    let values : waves.values ≡ c.in_ok-told.told.values.items = ap (λ w. w.values) c.new.ensures in
    let owns : waves.owns ≡ c.in_ok-told.told.owns.items = ap (λ w. w.owns) c.new.ensures in
    record {
      pairs = λ gate t below early.
          ap (λ m. value_in rails lane waves.values m gate t) width
          ∙ ap (λ l. value_in rails lane l n gate t) values
          ∙ told_at rails lane (under_pairs (level lane) w keys net.gates)
          c.in_ok-told.told.values.items n line.horizon gate t c.in_ok-told.ensures.count told.0
          below early;
      owns = λ gate t below early.
          ap (λ m. value_in rails lane waves.owns m gate t) width
          ∙ ap (λ l. value_in rails lane l n gate t) owns
          ∙ told_at rails lane (own_pairs (level lane) w keys net.gates)
          c.in_ok-told.told.owns.items n line.horizon gate t c.in_ok-told.ensures.own_count told.1
          below early;
    }
