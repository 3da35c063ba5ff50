-- Where every source of a change is quiet, every gate is.
use Rattle.std.proofs.Common.{◌≡◌, ℕ, zero, suc, ◌+◌, ◌<◌, ◌≤◌, List, length, refl, sym, ◌∙◌, ap}
use Rattle.std.proofs.Common.{arith, ⊎_elim, subst}
use Rattle.std.proofs.lemmas.Bool.{cases_lt}
use Rattle.std.specs.Prelude.{slice_get, Some}
use Rattle.model_history.specs.Rails.{Rails, Ends, both, rails_not, rails_and, rails_or}
use Rattle.model_history.specs.Rails.{rails_delayed}
use Rattle.run_signal.specs.Stretches.{ElementsInAStretch}
use Rattle.model_line.specs.{declared.line.Line.Line, Parameters.channel_count}
use Rattle.model_logic.specs.PairMean.{PairWorld, PairSignals}
use Rattle.net_gates.specs.declared.gate.Gate.TheVariants.{Const, Seen, Loss, Raw, Not, And, Or}
use Rattle.net_gates.specs.declared.gate.Gate.TheVariants.{Timer, Seal}
use Rattle.net_gates.specs.Gates.{AreGates, HasArguments}
use Rattle.net_gates.specs.{declared.gate.Gate.Gate, Named.NamedFrom, Named.GateNames}
use Rattle.run_step.specs.Quiet.{Keeps, SourcesKeep, AreGatePairs, TimerKeeps, ArrivalKeeps}
use Rattle.run_step.specs.{GatePairs.GateSignals, GatePairs.kind_pair}
use Rattle.model_history.specs.ListLaws.{exists_at}

pub keeps_none : {A : Type 0} (u : ℕ → A) (t : ℕ) → Keeps u t 0
keeps_none u t r low high = absurd (omega arith)

-- a stretch with one tick more
pub keeps_more : {A : Type 0} (u : ℕ → A) (t m : ℕ) → Keeps u t m → u (t + m) ≡ u t
    → Keeps u t (suc m)
keeps_more u t m before now r low high =
    ⊎_elim
    (λ lt. before r low lt)
    (λ ge. let e : r ≡ t + m = omega arith in ap u e ∙ now)
    (cases_lt r (t + m))

pub keeps_fewer : {A : Type 0} (u : ℕ → A) (t m n : ℕ) → m ≤ n → Keeps u t n → Keeps u t m
keeps_fewer u t m n le keeps r low high = keeps r low (omega arith)

-- a tick of the stretch
pub keeps_at : {A : Type 0} (u : ℕ → A) (t n j : ℕ) → Keeps u t n → j < n → u (t + j) ≡ u t
keeps_at u t n j keeps lt = keeps (t + j) (omega arith) (omega arith)

pub timer_fewer : (w : PairWorld) (u : GateSignals) (t m n : ℕ) (g : Gate) → m ≤ n
    → TimerKeeps w u t n g → TimerKeeps w u t m g
timer_fewer w u t m n (Const v) le keeps = keeps
timer_fewer w u t m n (Seen p) le keeps = keeps
timer_fewer w u t m n (Loss c) le keeps = keeps
timer_fewer w u t m n (Raw c) le keeps = keeps
timer_fewer w u t m n (Not a) le keeps = keeps
timer_fewer w u t m n (And a b) le keeps = keeps
timer_fewer w u t m n (Or a b) le keeps = keeps
timer_fewer w u t m n (Timer a p d) le keeps = λ j lt held. keeps j (omega arith) held
timer_fewer w u t m n (Seal a b) le keeps = keeps

-- what the gate rests on beside its arguments is quiet from tick t on for n ticks, while the key that
-- it hears is held
abbrev pub GateQuiet : PairWorld → PairSignals → GateSignals → ℕ → ℕ → Gate → Type 0
GateQuiet w keys u t n (Const v) = Unit {0}
GateQuiet w keys u t n (Seen p) = Keeps (w.seen p) t n
GateQuiet w keys u t n (Loss c) = Keeps (w.lost c) t n
GateQuiet w keys u t n (Raw c) =
    Keeps (w.delay c) t n × ArrivalKeeps (keys (w.from c)) (w.delay c t) t n
GateQuiet w keys u t n (Not a) = Unit {0}
GateQuiet w keys u t n (And a b) = Unit {0}
GateQuiet w keys u t n (Or a b) = Unit {0}
GateQuiet w keys u t n (Timer a p d) = TimerKeeps w u t n (Timer a p d)
GateQuiet w keys u t n (Seal a b) = Unit {0}

source_quiet : (line : Line) (w : PairWorld) (keys : PairSignals) (u : GateSignals) (t n : ℕ)
    (gates : List Gate) → SourcesKeep w keys u (channel_count line) gates t n → (g : Gate)
    → GateNames line g → TimerKeeps w u t n g → GateQuiet w keys u t n g
source_quiet line w keys u t n gates sources (Const v) names timer = tt
source_quiet line w keys u t n gates sources (Seen p) names timer = sources.seen p
source_quiet line w keys u t n gates sources (Loss c) names timer = sources.lost c
source_quiet line w keys u t n gates sources (Raw c) names timer =
    (sources.delays c names, sources.arrivals c names)
source_quiet line w keys u t n gates sources (Not a) names timer = tt
source_quiet line w keys u t n gates sources (And a b) names timer = tt
source_quiet line w keys u t n gates sources (Or a b) names timer = tt
source_quiet line w keys u t n gates sources (Timer a p d) names timer = timer
source_quiet line w keys u t n gates sources (Seal a b) names timer = tt

module _ (stretch : ElementsInAStretch) (line : Line) (w : PairWorld) (keys : PairSignals)
    (u : GateSignals) (t n : ℕ) (gates : List Gate) (laws : AreGates gates) (named : NamedFrom line 0 gates)
    (are : AreGatePairs w keys u (channel_count line) line.horizon gates)
    (quiet : (i : ℕ) (g : Gate) → slice_get gates i ≡ Some g → GateQuiet w keys u t n g)
    (fits : t + n ≤ line.horizon)
  where
    -- the first so many gates keep their values for m ticks
    abbrev GatesKeep : ℕ → ℕ → Type 0
    GatesKeep m count = (i : ℕ) → i < count → Keeps (u i) t m

    -- a gate keeps its value up to tick t + j, if all gates do before it, and its arguments at it
    one_gate : (j : ℕ) → j < n → GatesKeep j (length gates) → (i : ℕ) → GatesKeep (suc j) i
        → (g : Gate) → HasArguments i g → GateNames line g
        → GateQuiet w keys u t n g
        → kind_pair w keys u g (t + j) ≡ kind_pair w keys u g t
    one_gate j lt all i args (Const v) has names timer = refl
    one_gate j lt all i args (Seen p) has names timer =
        keeps_at (w.seen p) t n j timer lt
    one_gate j lt all i args (Loss c) has names timer =
        keeps_at (w.lost c) t n j timer lt
    one_gate j lt all i args (Raw c) has names timer =
        let held : Keeps (keys (w.from c)) t j = λ r low high.
        are.keys_are c r names (omega arith)
        ∙ all (are.key_gate c) (are.there c names) r low high
        ∙ sym (are.keys_are c t names (omega arith)) in
        ap (λ (e : Ends). rails_delayed (keys (w.from c)) e (t + j))
        (keeps_at (w.delay c) t n j timer.0 lt)
        ∙ timer.1 j lt held
    one_gate j lt all i args (Not a) has names timer =
        ap rails_not (keeps_at (u a.0) t (suc j) j (args a.0 has) (omega arith))
    one_gate j lt all i args (And a b) has names timer =
        ap (λ (x : Rails). rails_and x (u b.0 (t + j)))
        (keeps_at (u a.0) t (suc j) j (args a.0 has.0) (omega arith))
        ∙ ap (λ (x : Rails). rails_and (u a.0 t) x)
        (keeps_at (u b.0) t (suc j) j (args b.0 has.1) (omega arith))
    one_gate j lt all i args (Or a b) has names timer =
        ap (λ (x : Rails). rails_or x (u b.0 (t + j)))
        (keeps_at (u a.0) t (suc j) j (args a.0 has.0) (omega arith))
        ∙ ap (λ (x : Rails). rails_or (u a.0 t) x)
        (keeps_at (u b.0) t (suc j) j (args b.0 has.1) (omega arith))
    one_gate j lt all i args (Timer a p d) has names timer = timer j lt (args a.0 has)
    one_gate j lt all i args (Seal a b) has names timer =
        stretch.sealed (u a.0) (u b.0) (u a.0 t) (u b.0 t) t (suc j) (t + j) (args a.0 has.0)
        (args b.0 has.1) (omega arith) (omega arith)

    -- one tick more, gate by gate
    one_tick : (j : ℕ) → j < n → GatesKeep j (length gates) → (count : ℕ) → count ≤ length gates
        → GatesKeep (suc j) count
    one_tick j lt all zero le i inside = absurd (omega arith)
    one_tick j lt all (suc count) le i inside =
        let before : GatesKeep (suc j) count = one_tick j lt all count (omega arith) in
        ⊎_elim
        (λ low. before i low)
        (λ high.
        let e : i ≡ count = omega arith in
        let (g, at) = exists_at gates count (omega arith) in
        let now : u count (t + j) ≡ u count t =
        are.told (t + j) count g at
        ∙ one_gate j lt all count before g (laws.earlier count g at)
        (named.each count g (omega arith) at) (quiet count g at)
        ∙ sym (are.told t count g at) in
        subst (λ (k : ℕ). Keeps (u k) t (suc j)) (sym e)
        (keeps_more (u count) t j (all count (omega arith)) now))
        (cases_lt i count)

    -- tick by tick
    ticks_keep : (m : ℕ) → m ≤ n → GatesKeep m (length gates)
    ticks_keep zero le i inside = keeps_none (u i) t
    ticks_keep (suc m) le i inside =
        one_tick m (omega arith) (λ k below. ticks_keep m (omega arith) k below) (length gates)
        (omega arith) i inside

    pub quiet_gates_keep : (i : ℕ) → i < length gates → Keeps (u i) t n
    quiet_gates_keep i inside = ticks_keep n (omega arith) i inside

pub gates_keep : (stretch : ElementsInAStretch) (line : Line) (w : PairWorld) (keys : PairSignals)
    (u : GateSignals) (t n : ℕ) (gates : List Gate) → AreGates gates → NamedFrom line 0 gates
    → AreGatePairs w keys u (channel_count line) line.horizon gates
    → SourcesKeep w keys u (channel_count line) gates t n → t + n ≤ line.horizon
    → (i : ℕ) → i < length gates → Keeps (u i) t n
gates_keep stretch line w keys u t n gates laws named are sources fits =
    quiet_gates_keep stretch line w keys u t n gates laws named are
    (λ i g at. source_quiet line w keys u t n gates sources g (named.each i g (omega arith) at)
    (sources.timers i g at))
    fits
