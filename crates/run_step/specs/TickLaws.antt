-- One tick of one gate.
use Rattle.run_signal.specs.Signals.{SignalOf}
use Rattle.std.proofs.Common.{◌≡◌, ℕ, suc, ◌+◌, ◌<◌, List, [], ◌∷◌, ◌++◌, length, sym}
use Rattle.std.proofs.Common.{◌∙◌, ap, subst, arith}
use Rattle.run_signal.specs.{Ahead.next_rails, Stretches.ElementsInAStretch}
use Rattle.run_step.specs.Quiet.{Keeps}
use Rattle.run_step.specs.CellStands.{TimerStands, SealStands, CellStands}
use Rattle.run_step.specs.{declared.cell.Cell.Cell, GatePairs.GateSignals, GatePairs.kind_pair}
use Rattle.model_history.specs.Rails.{Rails, Ends, rails_at, rails_delayed, rails_timed}
use Rattle.model_history.specs.Rails.{rails_sealed}
use Rattle.model_history.specs.Rails.{both}
use Rattle.model_history.specs.{Recorded.first_ticks, Laws.RecordedTicksSuffice}
use Rattle.model_line.specs.declared.script.Place.{Place}
use Rattle.model_logic.specs.PairMean.{PairWorld, PairSignals}
use Rattle.model_logic.specs.declared.time.Time.{Time}
use Rattle.net_gates.specs.declared.gate.Gate.TheVariants.{Seen, Loss, Raw, Timer, Seal}
use Rattle.net_gates.specs.{declared.gate.GateId.GateId, declared.gate.Gate.Gate}

-- one more tick of a history
ticks_more : (u : ℕ → Rails) (t : ℕ) (y : Rails) → y ≡ u t
    → first_ticks u t ++ y ∷ [] ≡ first_ticks u (suc t)
ticks_more u t y e = ap (λ (x : Rails). first_ticks u t ++ x ∷ []) e

-- while a timer's answers are steady, and its input stays as it is, each is that at the first tick
pub timer_keeps : (stretch : ElementsInAStretch) (u : ℕ → Rails) (p d : Ends) (t n : ℕ) (x : Rails)
    → x ≡ u t
    → ((j : ℕ) → j < n
    → next_rails p d (first_ticks u t) x j ≡ next_rails p d (first_ticks u t) x 0)
    → (j : ℕ) → j < n → Keeps u t (suc j)
    → rails_timed u p d (t + j) ≡ rails_timed u p d t
timer_keeps stretch u p d t n x is steady j lt keeps =
    stretch.timed u p d x t (suc j) (t + j) (λ k low high. keeps k low high ∙ sym is)
    (λ i below. steady i (omega arith)) (omega arith) (omega arith)

-- ---- gates that keep nothing

module _ (w : PairWorld) (keys : PairSignals) (u : GateSignals) (t : ℕ) (gate : Gate)
    (y : Rails) where
  pub seen_pair : (p : Place) → gate ≡ Seen p → y ≡ w.seen p t
      → y ≡ kind_pair w keys u gate t
  seen_pair p is e = e ∙ ap (λ g. kind_pair w keys u g t) (sym is)

  pub loss_pair : (c : ℕ) → gate ≡ Loss c → y ≡ w.lost c t → y ≡ kind_pair w keys u gate t
  loss_pair c is e = e ∙ ap (λ g. kind_pair w keys u g t) (sym is)

  pub raw_pair : (c : ℕ) → gate ≡ Raw c → y ≡ rails_delayed (keys (w.from c)) (w.delay c t) t
      → y ≡ kind_pair w keys u gate t
  raw_pair c is e = e ∙ ap (λ g. kind_pair w keys u g t) (sym is)

-- ---- timers and seals

module _ {C S V : Type 0} (signal : SignalOf V S)
    (stands_for : C → S → S → ℕ → List Rails → Type 0) (lane : ℕ) (w : PairWorld)
    (keys : PairSignals) (u : GateSignals)
    (t : ℕ) (gate : Gate) (old new : Cell C V S) where
  abbrev StandsAt : ℕ → Gate → Cell C V S → Type 0
  StandsAt r g cell = CellStands signal stands_for lane w u r g cell

  module _ (a : GateId) (p d : Time) (is : gate ≡ Timer a p d) (input : Rails)
      (agrees : input ≡ u a.0 t) (before : StandsAt t gate old) where
    abbrev OfTimer : List Rails → Cell C V S → Type 0
    OfTimer inputs cell = TimerStands stands_for signal.ends lane (w.time p) (w.time d) inputs cell

    timer_old : OfTimer (first_ticks (u a.0) t) old
    timer_old = subst (λ (g : Gate). StandsAt t g old) is before

    pub timer_stands : ((p' d' : Ends) (inputs : List Rails)
        → TimerStands stands_for signal.ends lane p' d' inputs old
        → TimerStands stands_for signal.ends lane p' d' (inputs ++ input ∷ []) new)
        → StandsAt (suc t) gate new
    timer_stands after =
        let h : OfTimer (first_ticks (u a.0) (suc t)) new =
        subst (λ (l : List Rails). OfTimer l new) (ticks_more (u a.0) t input agrees)
        (after (w.time p) (w.time d) (first_ticks (u a.0) t) timer_old) in
        subst (λ (g : Gate). StandsAt (suc t) g new) (sym is) h

    pub timer_pair : (recorded : RecordedTicksSuffice) (y : Rails) → ((p' d' : Ends) (inputs : List Rails)
        → TimerStands stands_for signal.ends lane p' d' inputs old
        → y ≡ rails_timed (rails_at (inputs ++ input ∷ [])) p' d' (length inputs))
        → y ≡ kind_pair w keys u gate t
    timer_pair recorded y timed =
        timed (w.time p) (w.time d) (first_ticks (u a.0) t) timer_old
        ∙ ap (λ (l : List Rails). rails_timed (rails_at l) (w.time p) (w.time d)
        (length (first_ticks (u a.0) t))) (ticks_more (u a.0) t input agrees)
        ∙ recorded.timed (u a.0) (w.time p) (w.time d) t
        ∙ ap (λ (g : Gate). kind_pair w keys u g t) (sym is)

  module _ (a b : GateId) (is : gate ≡ Seal a b) (set hold : Rails) (sets : set ≡ u a.0 t)
      (holds : hold ≡ u b.0 t) (before : StandsAt t gate old) where
    abbrev OfSeal : List Rails → List Rails → Cell C V S → Type 0
    OfSeal x y cell = SealStands {C = C} signal.rails lane x y cell

    seal_old : OfSeal (first_ticks (u a.0) t) (first_ticks (u b.0) t) old
    seal_old = subst (λ (g : Gate). StandsAt t g old) is before

    pub seal_stands : ((x y : List Rails) → OfSeal x y old
        → OfSeal (x ++ set ∷ []) (y ++ hold ∷ []) new)
        → StandsAt (suc t) gate new
    seal_stands after =
        let h : OfSeal (first_ticks (u a.0) (suc t)) (first_ticks (u b.0) t ++ hold ∷ []) new =
        subst (λ (l : List Rails). OfSeal l (first_ticks (u b.0) t ++ hold ∷ []) new)
        (ticks_more (u a.0) t set sets)
        (after (first_ticks (u a.0) t) (first_ticks (u b.0) t) seal_old) in
        let k : OfSeal (first_ticks (u a.0) (suc t)) (first_ticks (u b.0) (suc t)) new =
        subst (λ (l : List Rails). OfSeal (first_ticks (u a.0) (suc t)) l new)
        (ticks_more (u b.0) t hold holds) h in
        subst (λ (g : Gate). StandsAt (suc t) g new) (sym is) k

    pub seal_pair : (recorded : RecordedTicksSuffice) (z : Rails) → ((x y : List Rails) → OfSeal x y old
        → z ≡ rails_sealed (rails_at (x ++ set ∷ [])) (rails_at (y ++ hold ∷ [])) (length x))
        → z ≡ kind_pair w keys u gate t
    seal_pair recorded z sealed =
        sealed (first_ticks (u a.0) t) (first_ticks (u b.0) t) seal_old
        ∙ ap (λ (l : List Rails). rails_sealed (rails_at l)
        (rails_at (first_ticks (u b.0) t ++ hold ∷ [])) (length (first_ticks (u a.0) t)))
        (ticks_more (u a.0) t set sets)
        ∙ ap (λ (l : List Rails). rails_sealed (rails_at (first_ticks (u a.0) (suc t)))
        (rails_at l) (length (first_ticks (u a.0) t))) (ticks_more (u b.0) t hold holds)
        ∙ recorded.sealed (u a.0) (u b.0) t
        ∙ ap (λ (g : Gate). kind_pair w keys u g t) (sym is)
