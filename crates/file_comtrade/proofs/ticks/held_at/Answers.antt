use Rattle.std.proofs.Common.{◌≡◌, ◌<◌, ◌-◌, ◌+◌, ◌++◌, ℕ, List, [], ◌∷◌, slice_index, subst, sym, arith, rules}
use Rattle.std.proofs.lemmas.List.{length_push}
use Rattle.file_comtrade.specs.Ticks.{IsHolding, instant_of}
use Rattle.file_comtrade.proofs.Held.{each_more}
use Rattle.file_comtrade.proofs.ticks.held_at.Goals as goal

pub loop-t-preserved : goal.loop-t-preserved
loop-t-preserved c =
    let at = c.loop-t.at.items in
    let x = c.holding.result in
    let items : c.push.new.self.items ≡ at ++ x ∷ [] = c.in_ok-push.ensures.items in
    let P : ℕ → ℕ → Type 0 = λ j y. IsHolding c.args.times.now (instant_of c.args.ticks j - c.args.origin) y in
    let Q : List ℕ → Type 0 = λ l. (j : ℕ) → j < c.loop-t.t + 1 → P j (slice_index l j) in
    let here : P c.loop-t.t x = search rules in
    record {
      many = rw items (omega (arith, length_push at x, c.loop-t.invariant.many));
      each = subst Q (sym items) (each_more P at c.loop-t.t x c.loop-t.invariant.many c.loop-t.invariant.each here);
    }
