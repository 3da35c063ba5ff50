use Rattle.std.proofs.Common.{◌≡◌, Bool, true, false, refl, ◌∙◌, ap}
use Rattle.std.specs.Prelude.{if◌then◌else◌}
use Rattle.model_history.specs.Rails.{Rails, both, rails_and, rails_or, rails_not}
use Rattle.run_signal.specs.Bits.{bit_on, bit_rails}
use Rattle.run_signal.proofs.carried_lanes.chosen.Goals as goal

chosen_is : (m x y : Bool)
    → rails_or (rails_and (both m) (both x)) (rails_and (rails_not (both m)) (both y))
    ≡ (if m then both x else both y)
chosen_is true true y = refl
chosen_is true false y = refl
chosen_is false x true = refl
chosen_is false x false = refl

pub returns : goal.returns
returns c = λ lane inside.
    let lanes : Rails = bit_rails c.args.lanes lane in
    let one : Rails = bit_rails c.args.one lane in
    let other : Rails = bit_rails c.args.other lane in
    c.or.ensures lane inside
    ∙ ap (λ (r : Rails). rails_or r (bit_rails c.and-2.result lane)) (c.and.ensures lane inside)
    ∙ ap (λ (r : Rails). rails_or (rails_and lanes one) r)
    (c.and-2.ensures lane inside
    ∙ ap (λ (r : Rails). rails_and r other) (c.not.ensures lane inside))
    ∙ chosen_is (bit_on c.args.lanes lane) (bit_on c.args.one lane) (bit_on c.args.other lane)
