-- Laws of the values of a signal in a lane, and of a signal that stays through a stretch.
use Rattle.std.specs.Prelude.{◌≡◌, ◌<◌, ◌≤◌, ◌+◌, ◌-◌, ◌||◌, ℕ, zero, suc, Bool, true, false, List}
use Rattle.std.specs.Prelude.{Some, slice_get, option_map, refl}
use Rattle.std.proofs.Common.{sym, ◌∙◌, ap, arith}
use Rattle.std.proofs.lemmas.Option.{slice_get-map, get_or_from_slice_get}
use Rattle.model_history.specs.{Elements.some_below, Rails.Rails, Rails.both, Rails.rails_at}
use Rattle.run_signal.specs.Lanes.{in_lane}

-- the rails of a lane's value at a tick
pub lane_at : {V : Type 0} (rails : V → ℕ → Rails) (values : List V) (x : V) (lane t : ℕ)
    → slice_get values t ≡ Some x → rails_at (in_lane rails lane values) t ≡ rails x lane
lane_at {V = V} rails values x lane t at =
    get_or_from_slice_get (in_lane rails lane values) t (rails x lane) (both false)
    (slice_get-map (λ (y : V). rails y lane) values t
    ∙ ap (option_map (λ (y : V). rails y lane)) at)

or_again : (b s : Bool) → (b || (b || s)) ≡ (b || s)
or_again true s = refl
or_again false s = refl

some_to : (u : ℕ → Bool) (t n : ℕ) → ((r : ℕ) → t ≤ r → r ≤ t + n → u r ≡ u t)
    → some_below u (suc (t + n)) ≡ (u t || some_below u t)
some_to u t zero same = let e : t + zero ≡ t = omega arith in ap (λ (m : ℕ). some_below u (suc m)) e
some_to u t (suc n) same =
    let e : t + suc n ≡ suc (t + n) = omega arith in
    ap (λ (m : ℕ). some_below u (suc m)) e
    ∙ ap (λ (b : Bool). u (suc (t + n)) || b)
    (some_to u t n (λ r low high. same r low (omega arith)))
    ∙ ap (λ (b : Bool). b || (u t || some_below u t))
    (same (suc (t + n)) (omega arith) (omega arith))
    ∙ or_again (u t) (some_below u t)

-- whether a signal is on below the end of a stretch: now, or below the stretch
pub some_through : (u : ℕ → Bool) (t end : ℕ) (now before : Bool) → t < end
    → ((r : ℕ) → t ≤ r → r < end → u r ≡ u t) → now ≡ u t → before ≡ some_below u t
    → (now || before) ≡ some_below u end
some_through u t end now before later same is so_far =
    let e : suc (t + (end - t - 1)) ≡ end = omega arith in
    ap (λ (b : Bool). b || before) is
    ∙ ap (λ (b : Bool). u t || b) so_far
    ∙ sym (some_to u t (end - t - 1) (λ r low high. same r low (omega arith)))
    ∙ ap (some_below u) e
