-- What is held throughout a gap between two ticks.
use Rattle.std.proofs.Common.{◌≡◌, ◌≤◌, ◌<◌, ◌+◌, ◌*◌, ◌-◌, ◌&&◌, ◌||◌, ℕ, zero, suc, Bool, true, false, not, List, [], ◌∷◌}
use Rattle.std.proofs.Common.{Option, None, Some, length, refl, sym, subst, arith, ⊎_elim}
use Rattle.std.proofs.Math.Nat.{mul-le-mul_right}
use Rattle.std.proofs.lemmas.Bool.{cases_lt, le-leb, lt-ltb}
use Rattle.std.proofs.lemmas.List.Elements.{All-head, All-tail}
use Rattle.std.specs.Prelude.{get_or, nat_le, nat_lt, slice_get}
use Rattle.std.specs.List.{All, list_any}
use Rattle.model_history.specs.Rails.{Ends, single}
use Rattle.model_logic.specs.{Choice.Choice, Histories.History}
use Rattle.model_fine.specs.{Fine.IsFineWithin, Loose.IsShownHistory}
use Rattle.model_borders.specs.Borders.{AreLengthsIn, shown_at}
use Rattle.judge_borders.specs.declared.fault.PartRule.TheVariants as rule
use Rattle.judge_borders.specs.Parts.{MeetsAt, RuleSays, box_of, line_of}
use Rattle.judge_times.specs.declared.fault.Uncertain.{Uncertain}
use Rattle.judge_times.specs.declared.part.{Part.Part, Told.Told}
use Rattle.judge_times.specs.declared.part.Told.TheVariants.{Held, Broken, Fails, Open}
use Rattle.judge_times.specs.Answers.{AreAnswers, IsAnswer, SomeHas}
use Rattle.judge_times.specs.Along.{first_of, is_held, is_unheld, is_unheld_over}
use Rattle.judge_times.specs.Stretches.{IsHeldAlong}

or_off : (a b : Bool) → (a || b) ≡ false → (a ≡ false) × (b ≡ false)
or_off true b e = absurd (cc)
or_off false b e = (refl, e)

and_off : (a b c : Bool) → a ≡ true → b ≡ true → ((a && b) && c) ≡ false → c ≡ false
and_off true true c on too off = off
and_off true false c on too off = absurd (cc)
and_off false b c on too off = absurd (cc)

-- ---- numbers

below : (a t m y : ℕ) → a * m ≤ y → y < (t + 1) * m → a ≤ t
below a t m y low high =
    ⊎_elim
    (λ past.
    let next : t + 1 ≤ a = omega arith in
    let far : (t + 1) * m ≤ a * m = mul-le-mul_right m next in absurd (omega (arith, low, high, far)))
    (λ le. le) (cases_lt t a)

above : (a t m y : ℕ) → y ≤ a * m → t * m < y → t < a
above a t m y high low =
    ⊎_elim (λ lt. lt)
    (λ past. let far : a * m ≤ t * m = mul-le-mul_right m past in absurd (omega (arith, low, high, far)))
    (cases_lt t a)

-- between two ticks, each of which is cut into twice as many, there is an instant beside each
inner : (t n x : ℕ) → 1 ≤ n → t * n ≤ x → x ≤ (t + 1) * n
    → (y : ℕ) × (t * (n + n) < y) × (y < (t + 1) * (n + n))
inner t n x some low high =
    ⊎_elim (λ early. (x + x + 1, omega (arith, low), omega (arith, early)))
    (λ late. (x + x - 1, omega (arith, late, high, some), omega (arith, late, high, some)))
    (cases_lt x ((t + 1) * n))

abbrev doubled : (ℕ → ℕ) → ℕ → ℕ → ℕ
doubled x y zero = y
doubled x y (suc i) = x (suc i) + x (suc i)

module _ (of : Uncertain) (whole : List Ends) (k : ℕ) where
  -- a part that has the times, of which this is not told
  found : (f : Part → Bool) (n : ℕ) (x : ℕ → ℕ) (parts : List Part) → All (IsAnswer of whole) parts
      → list_any f parts ≡ false → SomeHas n x parts
      → (p : Part) × IsAnswer of whole p × AreLengthsIn n p.lengths.items x × (f p ≡ false)
  found f n x [] all none has = absurd has
  found f n x (p ∷ parts) all none has =
      let off = or_off (f p) (list_any f parts) none in
      ⊎_elim (λ here. (p, All-head (IsAnswer of whole) p parts all, here, off.0))
      (λ later. found f n x parts (All-tail (IsAnswer of whole) p parts all) off.1 later) has

  held_so : (p : Part) → IsAnswer of whole p → (told : Option Told) → slice_get p.told.items k ≡ told
      → not (is_held told) ≡ false → RuleSays of.fault p.lengths.items k rule.Held
  held_so p answer None at off = absurd (cc)
  held_so p answer (Some Held) at off = answer.told.each k Held at
  held_so p answer (Some Broken) at off = absurd (cc)
  held_so p answer (Some Fails) at off = absurd (cc)
  held_so p answer (Some Open) at off = absurd (cc)

  meets_by : (p : Part) → IsAnswer of whole p → is_unheld k p ≡ false → (n : ℕ) (x : ℕ → ℕ)
      (choice : Choice) (h : History) → 1 ≤ n → AreLengthsIn n p.lengths.items x
      → IsFineWithin n (line_of of.fault) choice (box_of of.fault)
      → IsShownHistory n (line_of of.fault) (shown_at n of.fault.script.now (length whole) x) choice h
      → MeetsAt n x of.fault (length whole) (h.trip k)
  meets_by p answer off n x choice h some are inside is_h =
      subst (λ (m : ℕ). MeetsAt n x of.fault m (h.trip k)) answer.within.many
      (held_so p answer (slice_get p.told.items k) refl off n x choice h some are inside
      (subst (λ (m : ℕ). IsShownHistory n (line_of of.fault) (shown_at n of.fault.script.now m x) choice h)
      (sym answer.within.many) is_h))

  pub held_point : (parts : List Part) → AreAnswers of whole parts → list_any (is_unheld k) parts ≡ false
      → (t : ℕ) → IsHeldAlong of whole k t t
  held_point parts are none t n x choice h some in_whole low high inside is_h =
      let (p, answer, in_p, off) = found (is_unheld k) n x parts are.each none (are.cover n x in_whole) in
      meets_by p answer off n x choice h some in_p inside is_h

  module _ (t n : ℕ) (x : ℕ → ℕ) (y : ℕ) (after : t * (n + n) < y) (before : y < (t + 1) * (n + n)) where
    doubled_least : (part : List Ends) → (get_or part 0 (single 0)).least ≤ t
        → ((i : ℕ) → i < length part → (get_or part i (single 0)).least * n ≤ x i) → (i : ℕ)
        → i < length part → (get_or part i (single 0)).least * (n + n) ≤ doubled x y i
    doubled_least part low least zero lt =
        let scaled : (get_or part 0 (single 0)).least * (n + n) ≤ t * (n + n) =
        mul-le-mul_right (n + n) low in omega (arith, scaled, after)
    doubled_least part low least (suc i) lt = let own = least (suc i) lt in omega (arith, own)

    doubled_greatest : (part : List Ends) → t < (get_or part 0 (single 0)).greatest
        → ((i : ℕ) → i < length part → x i ≤ (get_or part i (single 0)).greatest * n) → (i : ℕ)
        → i < length part → doubled x y i ≤ (get_or part i (single 0)).greatest * (n + n)
    doubled_greatest part high greatest zero lt =
        let next : t + 1 ≤ (get_or part 0 (single 0)).greatest = omega (arith, high) in
        let scaled : (t + 1) * (n + n) ≤ (get_or part 0 (single 0)).greatest * (n + n) =
        mul-le-mul_right (n + n) next in omega (arith, scaled, before)
    doubled_greatest part high greatest (suc i) lt = let own = greatest (suc i) lt in omega (arith, own)

    halved_least : (part : List Ends) → (get_or part 0 (single 0)).least ≤ t → t * n ≤ x 0
        → ((i : ℕ) → i < length part → (get_or part i (single 0)).least * (n + n) ≤ doubled x y i)
        → (i : ℕ) → i < length part → (get_or part i (single 0)).least * n ≤ x i
    halved_least part low from least zero lt =
        let scaled : (get_or part 0 (single 0)).least * n ≤ t * n = mul-le-mul_right n low in
        omega (arith, scaled, from)
    halved_least part low from least (suc i) lt = let own = least (suc i) lt in omega (arith, own)

    halved_greatest : (part : List Ends) → t < (get_or part 0 (single 0)).greatest → x 0 ≤ (t + 1) * n
        → ((i : ℕ) → i < length part → doubled x y i ≤ (get_or part i (single 0)).greatest * (n + n))
        → (i : ℕ) → i < length part → x i ≤ (get_or part i (single 0)).greatest * n
    halved_greatest part high to greatest zero lt =
        let next : t + 1 ≤ (get_or part 0 (single 0)).greatest = omega (arith, high) in
        let scaled : (t + 1) * n ≤ (get_or part 0 (single 0)).greatest * n = mul-le-mul_right n next in
        omega (arith, scaled, to)
    halved_greatest part high to greatest (suc i) lt = let own = greatest (suc i) lt in omega (arith, own)

  pub held_gap : (parts : List Part) → AreAnswers of whole parts → (t : ℕ) → 1 ≤ length whole
      → (get_or whole 0 (single 0)).least ≤ t → t < (get_or whole 0 (single 0)).greatest
      → list_any (is_unheld_over t k) parts ≡ false → IsHeldAlong of whole k t (t + 1)
  held_gap parts are t some_whole from to none n x choice h some in_whole low high inside is_h =
      let (y, after, before) = inner t n (x 0) some low high in
      let in_two : AreLengthsIn (n + n) whole (doubled x y) = record {
        least = doubled_least t n x y after before whole from in_whole.least;
        greatest = doubled_greatest t n x y after before whole to in_whole.greatest;
      } in
      let (p, answer, in_p, off) =
      found (is_unheld_over t k) (n + n) (doubled x y) parts are.each none
      (are.cover (n + n) (doubled x y) in_two) in
      let first : 0 < length p.lengths.items = omega (arith, answer.within.many, some_whole) in
      let least : (first_of p).least ≤ t = below (first_of p).least t (n + n) y (in_p.least 0 first) before in
      let greatest : t < (first_of p).greatest =
      above (first_of p).greatest t (n + n) y (in_p.greatest 0 first) after in
      meets_by p answer
      (and_off (nat_le (first_of p).least t) (nat_lt t (first_of p).greatest) (is_unheld k p)
      (le-leb (first_of p).least t least) (lt-ltb t (first_of p).greatest greatest) off)
      n x choice h some
      (record {
        least = halved_least t n x y after before p.lengths.items least low in_p.least;
        greatest = halved_greatest t n x y after before p.lengths.items greatest high in_p.greatest;
      })
      inside is_h
