use Rattle.call_shots.proofs.Inside.{inside}
use Rattle.model_logic.specs.Choice.{declared_box}
use Rattle.call_shots.proofs.laws.windows_are_true.Goals as goal

pub returns : goal.returns
returns c = λ line script k window there is.
    let box = declared_box line in
    let from_one = c.each_line_has_a_choice_inside.ensures.declared line in
    let (w, is_w) = c.each_box_has_one_interval_history.ensures.exists line script box from_one in
    let own = is.is w is_w in
    let first = c.the_first_tick_is_the_least.ensures in
    record {
      key = λ n choice h one within is_h.
          inside first.some first.none line n (w.key k) (h.key k) window.key_may window.key_must one
          own.key_may own.key_must
          (λ t early.
          (c.fine_histories_are_covered.ensures.histories n line script box choice w h one from_one
          within is_w is_h).keys k t there early);
      trip = λ n choice h one within is_h.
          inside first.some first.none line n (w.trip k) (h.trip k) window.trip_may window.trip_must
          one own.trip_may own.trip_must
          (λ t early.
          (c.fine_histories_are_covered.ensures.histories n line script box choice w h one from_one
          within is_w is_h).trips k t there early);
    }
