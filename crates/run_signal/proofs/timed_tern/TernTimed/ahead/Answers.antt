use Rattle.std.proofs.Common.{◌≡◌, ◌≤◌, ◌<◌, ◌∙◌, ap, arith}
use Rattle.run_signal.specs.Terns.{tern_rails}
use Rattle.run_signal.specs.Counts.{steady_of}
use Rattle.run_signal.proofs.RailsLaws.{rails_steady, least_of_two, one_of_two}
use Rattle.run_signal.proofs.timed_tern.TernTimed.ahead.Goals as goal

pub returns : goal.returns
returns c = λ pickup dropout inputs stands.
    let m = c.args.cells.now.must in
    let n = c.args.cells.now.may in
    let x = tern_rails c.args.input in
    let a = steady_of m.pickup m.run m.left x.must in
    let b = steady_of n.pickup n.run n.left x.may in
    let must : c.ahead-must.result ≡ a =
    c.ahead-must.ensures.steady ∙ ap (steady_of m.pickup m.run m.left) c.must.ensures in
    let may : c.ahead-may.result ≡ b =
    c.ahead-may.ensures.steady ∙ ap (steady_of n.pickup n.run n.left) c.may.ensures in
    let limited : c.min.result ≤ 4000 = omega
    (arith, c.min.ensures, c.ahead-must.ensures.limited) in
    let zero_lane : 0 < 1 = omega arith in
    rails_steady c.history_laws.ensures 1 (λ _. m) (λ _. n) (λ _. pickup) (λ _. dropout) inputs (λ _. x) c.min.result
    stands (λ lane inside. (c.ahead-must.ensures.bounded, c.ahead-may.ensures.bounded)) limited
    (λ lane inside. least_of_two c.min.result c.ahead-must.result c.ahead-may.result a b
    c.min.ensures must may)
    (λ less. (
      0,
      zero_lane,
      one_of_two c.min.result c.ahead-must.result c.ahead-may.result a b c.min.ensures must may,
    ))
