-- Where all that is shown comes some ticks later, so does the value of each tree that rests.
use Rattle.std.proofs.Common.{◌≡◌, ◌+◌, ◌-◌, ◌*◌, ◌<◌, ◌&&◌, ◌||◌, ℕ, Bool, true, false, not}
use Rattle.std.proofs.Common.{refl, sym, ap, subst, ◌∙◌, ⊎_elim, arith}
use Rattle.std.proofs.lemmas.Bool.{cases_lt}
use Rattle.std.specs.Prelude.{IsTrue}
use Rattle.model_history.specs.{Laws.HistoryLaws}
use Rattle.model_history.specs.Elements.{delayed, timed}
use Rattle.model_line.specs.{declared.line.Line.Line}
use Rattle.model_logic.specs.Tree.{Tree, Const, Seen, Loss, Raw, Not, And, Or, Timer, Seal}
use Rattle.model_logic.specs.declared.time.Time.{Time}
use Rattle.model_logic.specs.declared.time.Time.TheVariants.{Zero}
use Rattle.model_logic.specs.Mean.{World, mean}
use Rattle.model_logic.specs.Choice.{Choice, time_by}
use Rattle.model_logic.specs.Histories.{History}
use Rattle.model_logic.specs.Logic.{key_tree, trip_tree}
use Rattle.model_fine.specs.Loose.{Shown, IsShownHistory, shown_world_of}
use Rattle.model_borders.specs.Later.{shown_later, history_later, IsChoiceLater}
use Rattle.model_borders.proofs.LaterElements.{timed-later, sealed-later, since-later}
use Rattle.model_borders.proofs.LaterElements.{timed-off, sealed-off, timed-on}
use Rattle.model_borders.proofs.AtRest.{rest, Rests, IsLockout, IsOff}
use Rattle.model_borders.proofs.RestingTrees.{off_key_tree, off_trip_tree}

and_false : (b : Bool) → b && false ≡ false
and_false true = refl
and_false false = refl

module _ (laws : HistoryLaws) where
  delayed-late : (u : ℕ → Bool) (d t : ℕ) → delayed u d (t + d) ≡ u t
  delayed-late u d t =
      laws.one_delay.value u d (t + d) (omega arith)
      ∙ ap u (omega arith)

  module _ (d : ℕ) (line : Line) (shown : Shown) (choice late : Choice)
      (is_late : IsChoiceLater d choice late) (h : History) where
    abbrev w : World
    w = shown_world_of line shown choice

    abbrev v : World
    v = shown_world_of line (shown_later d shown) late

    abbrev now : Tree → ℕ → Bool
    now x = mean w h.key x

    abbrev moved : Tree → ℕ → Bool
    moved x = mean v (history_later d h).key x

    time-same : (x : Time) → v.time x ≡ w.time x
    unfolding shown_world_of
    time-same x = ap (λ (number : ℕ → ℕ). time_by number x) is_late.numbers

    received_early : (c t : ℕ) → t < d → moved (Raw c) t ≡ false
    unfolding mean shown_world_of history_later
    received_early c t lt =
        ⊎_elim
        (λ short. laws.one_delay.value_before (λ s. delayed (h.key (w.from c)) d s) (late.delay c t) t
        short)
        (λ long. laws.one_delay.value (λ s. delayed (h.key (w.from c)) d s) (late.delay c t) t long
        ∙ laws.one_delay.value_before (h.key (w.from c)) d (t - late.delay c t) (omega arith))
        (cases_lt t (late.delay c t))

    -- what arrives after q ticks
    arrives : (u : ℕ → Bool) (q t : ℕ) → delayed (λ s. delayed u d s) q (t + d) ≡ delayed u q t
    arrives u q t =
        ⊎_elim
        (λ short.
        ⊎_elim
        (λ before. laws.one_delay.value_before (λ s. delayed u d s) q (t + d) before)
        (λ long. laws.one_delay.value (λ s. delayed u d s) q (t + d) long
        ∙ laws.one_delay.value_before u d (t + d - q) (omega arith))
        (cases_lt (t + d) q)
        ∙ sym (laws.one_delay.value_before u q t short))
        (λ long.
        let e : t + d - q ≡ t - q + d = omega arith in
        laws.one_delay.value (λ s. delayed u d s) q (t + d) (omega arith)
        ∙ ap (λ (s : ℕ). delayed u d s) e ∙ delayed-late u d (t - q)
        ∙ sym (laws.one_delay.value u q t long))
        (cases_lt t q)

    received_after : (c t : ℕ) → moved (Raw c) (t + d) ≡ now (Raw c) t
    unfolding mean shown_world_of history_later
    received_after c t =
        ap (λ (q : ℕ). delayed (λ s. delayed (h.key (w.from c)) d s) q (t + d)) (is_late.delays c t)
        ∙ arrives (h.key (w.from c)) (choice.delay c t) t

    -- ---- a lockout

    abbrev guard : ℕ → Tree
    guard c = And (Not (Raw c)) (Not (Loss c))

    guard_after : (c t : ℕ) → moved (guard c) (t + d) ≡ now (guard c) t
    unfolding mean shown_world_of shown_later
    guard_after c t =
        ap (λ (b : Bool). not b && not (delayed (shown.lost c) d (t + d))) (received_after c t)
        ∙ ap (λ (b : Bool). not (now (Raw c) t) && not b) (delayed-late (shown.lost c) d t)

    -- the guard is off while the channel is lost, so no more than what came since counts
    kept : (c : ℕ) (window restore : Time) (s q : ℕ) → s < q
        → IsTrue (now (Timer (Loss c) window Zero) s)
        → moved (Not (Timer (guard c) restore Zero)) (q + d)
        ≡ now (Not (Timer (guard c) restore Zero)) q
    unfolding mean shown_world_of
    kept c window restore s q lt set =
        let lost : IsTrue (shown.lost c s) =
        timed-on laws s (w.time window) (shown.lost c) set in
        let off : now (guard c) s ≡ false =
        ap (λ (b : Bool). not (now (Raw c) s) && not b) lost ∙ and_false (not (now (Raw c) s)) in
        ap not
        (ap (λ (p : ℕ). timed (moved (guard c)) p 0 (q + d)) (time-same restore)
        ∙ since-later laws d q s (w.time restore) (now (guard c)) (moved (guard c))
        (λ r le. guard_after c r) off lt)

    kept_after : (x y : Tree) → IsLockout x y → (s q : ℕ) → s < q → IsTrue (now x s)
        → moved y (q + d) ≡ now y q
    kept_after x y lockout s q lt set =
        let hold : Tree = Not (Timer (guard lockout.channel) lockout.restore Zero) in
        let here : IsTrue (now (Timer (Loss lockout.channel) lockout.window Zero) s) =
        subst (λ (z : Tree). IsTrue (now z s)) lockout.sets set in
        subst (λ (z : Tree). moved z (q + d) ≡ now z q) (sym lockout.holds)
        (kept lockout.channel lockout.window lockout.restore s q lt here)

    -- ---- all trees

    -- before d a tree is what it is at rest
    value_before : (x : Tree) (t : ℕ) → t < d → Rests x → moved x t ≡ rest x
    unfolding mean Rests rest shown_world_of shown_later history_later
    value_before (Const b) t lt r = refl
    value_before (Seen p) t lt r = laws.one_delay.value_before (shown.seen p) d t lt
    value_before (Loss c) t lt r = laws.one_delay.value_before (shown.lost c) d t lt
    value_before (Raw c) t lt r = received_early c t lt
    value_before (Not x) t lt r = ap not (value_before x t lt r)
    value_before (And x y) t lt r =
        ap (λ (b : Bool). b && moved y t) (value_before x t lt r.0)
        ∙ ap (λ (b : Bool). rest x && b) (value_before y t lt r.1)
    value_before (Or x y) t lt r =
        ap (λ (b : Bool). b || moved y t) (value_before x t lt r.0)
        ∙ ap (λ (b : Bool). rest x || b) (value_before y t lt r.1)
    value_before (Timer x p e) t lt r =
        timed-off laws t (v.time p) (v.time e) (moved x)
        (λ s le. value_before x s (omega arith) r.0 ∙ r.1)
    value_before (Seal x y) t lt r =
        sealed-off laws t (moved x) (moved y) (λ s le. value_before x s (omega arith) r.0 ∙ r.1)

    -- and from d on what it was d ticks ago
    value_after : (x : Tree) (t : ℕ) → Rests x → moved x (t + d) ≡ now x t
    unfolding mean Rests rest shown_world_of shown_later history_later
    value_after (Const b) t r = refl
    value_after (Seen p) t r = delayed-late (shown.seen p) d t
    value_after (Loss c) t r = delayed-late (shown.lost c) d t
    value_after (Raw c) t r = received_after c t
    value_after (Not x) t r = ap not (value_after x t r)
    value_after (And x y) t r =
        ap (λ (b : Bool). b && moved y (t + d)) (value_after x t r.0)
        ∙ ap (λ (b : Bool). now x t && b) (value_after y t r.1)
    value_after (Or x y) t r =
        ap (λ (b : Bool). b || moved y (t + d)) (value_after x t r.0)
        ∙ ap (λ (b : Bool). now x t || b) (value_after y t r.1)
    value_after (Timer x p e) t r =
        ap (λ (q : ℕ). timed (moved x) q (v.time e) (t + d)) (time-same p)
        ∙ ap (λ (q : ℕ). timed (moved x) (w.time p) q (t + d)) (time-same e)
        ∙ timed-later laws d t (w.time p) (w.time e) (now x) (moved x)
        (record {
          before = λ s lt. value_before x s lt r.0 ∙ r.1;
          after = λ s le. value_after x s r.0;
        })
    value_after (Seal x y) t r =
        sealed-later laws d t (now x) (now y) (moved x) (moved y)
        (record {
          before = λ s lt. value_before x s lt r.0 ∙ r.1;
          after = λ s le. value_after x s r.0;
        })
        (⊎_elim (λ rests s q lt le set. value_after y q rests)
        (λ lockout s q lt le set. kept_after x y lockout s q lt set) r.2)

    -- so what a tree gives at each tick comes d ticks later
    at_tick : (u : ℕ → Bool) (x : Tree) (end : ℕ) → IsOff x
        → ((r : ℕ) → r < end → u r ≡ now x r) → (t : ℕ) → t < end → delayed u d t ≡ moved x t
    at_tick u x end off same t lt =
        ⊎_elim
        (λ early. laws.one_delay.value_before u d t early ∙ sym (value_before x t early off.rests ∙ off.off))
        (λ from.
        let e : t - d + d ≡ t = omega arith in
        subst (λ (s : ℕ). delayed u d s ≡ moved x s) e
        (delayed-late u d (t - d) ∙ same (t - d) (omega arith)
        ∙ sym (value_after x (t - d) off.rests)))
        (cases_lt t d)

    pub history_shifts : (n : ℕ) → IsShownHistory n line shown choice h
        → IsShownHistory n line (shown_later d shown) late (history_later d h)
    unfolding history_later
    history_shifts n is_h = record {
      keys = λ k t kn lt.
          at_tick (h.key k) (key_tree line k) (line.horizon * n) (off_key_tree line k)
          (λ r early. is_h.keys k r kn early) t lt;
      trips = λ k t kn lt.
          at_tick (h.trip k) (trip_tree line k) (line.horizon * n) (off_trip_tree line k)
          (λ r early. is_h.trips k r kn early) t lt;
    }
