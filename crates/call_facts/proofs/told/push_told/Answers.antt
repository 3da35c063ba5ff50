use Rattle.std.proofs.Common.{◌≡◌, ◌++◌, ℕ, Bool, true, sym, ◌∙◌, subst}
use Rattle.call_facts.specs.Told.{IsToldTime, is_told}
use Rattle.call_facts.specs.Lists.{EachOf, if_one}
use Rattle.call_facts.specs.SideLaws.{each_push}
use Rattle.call_facts.proofs.told.push_told.Goals as goal

pub returns-in_ok-push : goal.returns-in_ok-push
returns-in_ok-push c = λ before so_far.
    let line = c.args.line.now in
    let timing = c.args.timing.now in
    let i : ℕ = c.args.i in
    let on : is_told line timing i ≡ true = sym c.is_told.ensures ∙ c.if-is_told.true in
    subst (λ (b : Bool). EachOf (IsToldTime line timing) (before ++ if_one b i) c.push.new.self.items)
    (sym on)
    (each_push (IsToldTime line timing) before c.args.told.now.items c.push.new.self.items i
    c.in_ok-one.one c.in_ok-push.ensures.items c.in_ok-one.ensures so_far)
