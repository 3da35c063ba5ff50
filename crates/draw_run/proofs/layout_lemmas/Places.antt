-- Where ticks stand on an axis.
use Rattle.std.proofs.Common.{◌≤◌, ◌<◌, ◌+◌, ◌-◌, ◌*◌, ◌/◌, ℕ, suc, min, arith, subst, sym}
use Rattle.std.proofs.Math.Nat.{div-mul-le_self, div-le_of_le-mul, mul-le-mul_right, suc-mul}
use Rattle.std.proofs.lemmas.Nat.{le-div}
use Rattle.draw_run.specs.declared.layout.scale.Scale.{Scale}
use Rattle.draw_run.specs.layout.Scale.{length_of, place_of, ticks_shown}

through : (a b c : ℕ) → a ≤ b → b ≤ c → a ≤ c
through a b c le more = omega (arith, le, more)

both_more : (q n a l b : ℕ) → q ≤ a → n ≤ l → a + l ≤ b → q + n ≤ b
both_more q n a l b le less sum = omega (arith, le, less, sum)

-- a later tick has no less of the axis before it
part_grows : (a b l n : ℕ) → 0 < n → a ≤ b → a * l / n ≤ b * l / n
part_grows a b l n some le =
    le-div (a * l / n) (b * l) n some
    (through (a * l / n * n) (a * l) (b * l) (div-mul-le_self (a * l) n) (mul-le-mul_right l le))

-- and more, where there are no more ticks than the axis is long
part_more : (a b l n : ℕ) → 0 < n → n ≤ l → suc a ≤ b → suc (a * l / n) ≤ b * l / n
part_more a b l n some few less =
    let step : a * l + l ≤ b * l =
    subst (λ (x : ℕ). x ≤ b * l) (suc-mul a l) (mul-le-mul_right l less) in
    le-div (suc (a * l / n)) (b * l) n some
    (subst (λ (x : ℕ). x ≤ b * l) (sym (suc-mul (a * l / n) n))
    (both_more (a * l / n * n) n (a * l) l (b * l) (div-mul-le_self (a * l) n) few step))

no_longer : (a l n : ℕ) → a ≤ n → 0 < n → a * l / n ≤ l
no_longer a l n le some = div-le_of_le-mul n (mul-le-mul_right l le)

capped : (left p q l : ℕ) → p ≤ q → left + min p l ≤ left + min q l
capped left p q l le = omega (arith, le)

within : (left p q l : ℕ) → suc p ≤ q → q ≤ l → left + min p l < left + min q l
within left p q l less le = omega (arith, less, le)

pub places_grow : (scale : Scale) (s t : ℕ) → s ≤ t → place_of scale s ≤ place_of scale t
places_grow scale s t le =
    let first = scale.window.first in
    let l = length_of scale in
    let n = ticks_shown scale.window in
    capped scale.left ((s - first) * l / n) ((t - first) * l / n) l
    (part_grows (s - first) (t - first) l n (omega arith) (omega (arith, le)))

pub places_apart : (scale : Scale) (s t : ℕ)
    → scale.window.last < scale.window.first + length_of scale
    → scale.window.first ≤ s → s < t → t ≤ scale.window.last + 1
    → place_of scale s < place_of scale t
places_apart scale s t short shown less end =
    let first = scale.window.first in
    let l = length_of scale in
    let n = ticks_shown scale.window in
    within scale.left ((s - first) * l / n) ((t - first) * l / n) l
    (part_more (s - first) (t - first) l n (omega arith) (omega (arith, short, shown, less, end))
    (omega (arith, shown, less)))
    (no_longer (t - first) l n (omega (arith, shown, less, end)) (omega arith))
