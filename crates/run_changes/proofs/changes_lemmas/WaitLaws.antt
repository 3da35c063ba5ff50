-- Gates that wait through a stretch of ticks.
use Rattle.run_signal.specs.Signals.{SignalOf}
use Rattle.std.proofs.Common.{◌≡◌, ℕ, zero, suc, ◌+◌, ◌-◌, ◌<◌, ◌≤◌, List, length, Some, refl, sym}
use Rattle.std.proofs.Common.{◌∙◌, subst, arith, ⊎_elim, inl, replicate}
use Rattle.std.proofs.lemmas.Bool.{cases_lt}
use Rattle.std.proofs.lemmas.Option.{slice_get_within}
use Rattle.std.specs.Prelude.{slice_get}
use Rattle.model_history.specs.Rails.{Rails}
use Rattle.model_history.specs.{Recorded.first_ticks, Laws.RecordedTicksSuffice}
use Rattle.run_signal.specs.Stretches.{ElementsInAStretch}
use Rattle.model_logic.specs.{PairMean.PairWorld, PairMean.PairSignals}
use Rattle.net_gates.specs.declared.gate.Gate.TheVariants.{Const, Seen, Loss, Raw, Not, And, Or}
use Rattle.net_gates.specs.declared.gate.Gate.TheVariants.{Timer, Seal}
use Rattle.net_gates.specs.{Gates.AreGates, Gates.HasArguments, Readers.Hears}
use Rattle.net_gates.specs.declared.gate.Gate.{Gate}
use Rattle.run_step.specs.declared.cell.Cell.{Cell}
use Rattle.run_changes.specs.declared.changes.since.Since.{Since}
use Rattle.run_changes.specs.declared.changes.gates.Gates.{Gates}
use Rattle.run_step.specs.{Lanes.LanePairs, Lasts.Lasts}
use Rattle.run_step.specs.{GatePairs.GateSignals, Quiet.Keeps}
use Rattle.run_step.specs.{Ticks.ValuesAgree, Ticks.AllStand}
use Rattle.run_step.specs.{CellStands.CellStands, CellStands.TimerStands}
use Rattle.run_changes.specs.changes.Lags.{Lags, AllLag, AllWait}
use Rattle.run_changes.proofs.changes_lemmas.LagLaws.{ArgsSame, lasts_as, lasts_none, rest_lags, rest_lasts}
use Rattle.run_step.specs.WalkLaws.{more_arguments}

same_at : (f : ℕ → Rails) (t n k : ℕ) → Keeps f t n → suc k < n → f (suc (t + k)) ≡ f (t + k)
same_at f t n k keeps lt =
    keeps (suc (t + k)) (omega arith) (omega arith)
    ∙ sym (keeps (t + k) (omega arith) (omega arith))

args_keep : (u : GateSignals) (t n k len : ℕ) (g : Gate) → HasArguments len g
    → ((i : ℕ) → i < len → Keeps (u i) t n) → suc k < n → ArgsSame u (suc (t + k)) (t + k) g
args_keep u t n k len (Const v) has keeps lt = tt
args_keep u t n k len (Seen p) has keeps lt = tt
args_keep u t n k len (Loss c) has keeps lt = tt
args_keep u t n k len (Raw c) has keeps lt = tt
args_keep u t n k len (Not a) has keeps lt = same_at (u a.0) t n k (keeps a.0 has) lt
args_keep u t n k len (And a b) has keeps lt =
    (same_at (u a.0) t n k (keeps a.0 has.0) lt, same_at (u b.0) t n k (keeps b.0 has.1) lt)
args_keep u t n k len (Or a b) has keeps lt =
    (same_at (u a.0) t n k (keeps a.0 has.0) lt, same_at (u b.0) t n k (keeps b.0 has.1) lt)
args_keep u t n k len (Timer a p d) has keeps lt = same_at (u a.0) t n k (keeps a.0 has) lt
args_keep u t n k len (Seal a b) has keeps lt =
    (same_at (u a.0) t n k (keeps a.0 has.0) lt, same_at (u b.0) t n k (keeps b.0 has.1) lt)

-- what a gate rests on lasts until it is due, one tick later, if the key that it hears is the same
lasts_on : (p : LanePairs) (b due : ℕ) (g : Gate) → ArgsSame p.pairs (suc b) b g
    → ((c : ℕ) → Hears c g
    → p.keys (p.world.from c) (suc b) ≡ p.keys (p.world.from c) b)
    → Lasts p b b (due - b) g → Lasts p (suc b) (suc b) (due - suc b) g
lasts_on p b due g same keys lasts =
    ⊎_elim
    (λ lt. lasts_as p b (suc b) (suc b) (due - suc b) g (λ c hears. inl (keys c hears))
    (rest_lasts p (suc b) b (due - b) (due - suc b) g refl (omega arith) same lasts))
    (λ ge. let none : 0 ≡ due - suc b = omega arith in
    subst (λ (m : ℕ). Lasts p (suc b) (suc b) m g) none (lasts_none p (suc b) (suc b) g))
    (cases_lt b due)

module _ {C S V : Type 0} (stretch : ElementsInAStretch) (recorded : RecordedTicksSuffice)
    (signal : SignalOf V S)
    (stands_for : C → S → S → ℕ → List Rails → Type 0) (lane : ℕ) (p : LanePairs)
  where
    abbrev LagsAt : ℕ → Gate → Cell C V S → Since V → Type 0
    LagsAt r g c s = Lags signal stands_for lane p.world p.pairs r g c s

    wait_on : (t n due len : ℕ) (g : Gate) (c : Cell C V S) (s : Since V) → HasArguments len g
        → ((i : ℕ) → i < len → Keeps (p.pairs i) t n)
        → ((x : ℕ) → Hears x g → Keeps (p.keys (p.world.from x)) t n) → LagsAt (suc t) g c s
        → Lasts p t t (due - t) g → (k : ℕ) → k < n
        → LagsAt (suc (t + k)) g c s × Lasts p (t + k) (t + k) (due - (t + k)) g
    wait_on t n due len g c s has keeps heard lags lasts zero lt =
        let e : t ≡ t + 0 = omega arith in (
          subst (λ (m : ℕ). LagsAt (suc m) g c s) e lags,
          subst (λ (m : ℕ). Lasts p m m (due - m) g) e lasts,
        )
    wait_on t n due len g c s has keeps heard lags lasts (suc k) lt =
        let before = wait_on t n due len g c s has keeps heard lags lasts k (omega arith) in
        let same : ArgsSame p.pairs (suc (t + k)) (t + k) g =
        args_keep p.pairs t n k len g has keeps lt in
        let e : suc (t + k) ≡ t + suc k = omega arith in (
          subst (λ (m : ℕ). LagsAt (suc m) g c s) e
              (rest_lags stretch recorded signal stands_for lane p.world p.pairs (suc (t + k))
              (t + k) g c s refl same before.0),
          subst (λ (m : ℕ). Lasts p m m (due - m) g) e
              (lasts_on p (t + k) due g same
              (λ x hears. same_at (p.keys (p.world.from x)) t n k (heard x hears) lt) before.1),
        )

    pub all_wait : (t n : ℕ) (gates : List Gate) (kept : Gates C V S S) → 1 ≤ n → AreGates gates
        → ((i : ℕ) → i < length gates → Keeps (p.pairs i) t n)
        → ((i : ℕ) (g : Gate) (x : ℕ) → slice_get gates i ≡ Some g → Hears x g
        → Keeps (p.keys (p.world.from x)) t n)
        → ValuesAgree signal.rails lane p.pairs t kept.column.items
        → AllLag signal stands_for lane p (suc t) gates kept
        → ((i : ℕ) (g : Gate) (due : ℕ) → slice_get gates i ≡ Some g
        → slice_get kept.dues.items i ≡ Some due → Lasts p t t (due - t) g)
        → AllWait signal stands_for lane p (t + n) gates kept
    all_wait t n gates kept some laws keeps heard agree lags lasts i g c s due v ga ca sa da va =
        let inside : i < length gates = slice_get_within gates i g ga in
        let has : HasArguments (length gates) g =
        more_arguments i (length gates) g (omega arith) (laws.earlier i g ga) in
        let late = wait_on t n due (length gates) g c s has keeps (λ x hears. heard i g x ga hears)
        (lags i g c s ga ca sa) (lasts i g due ga da) (n - 1) (omega arith) in
        let last : suc (t + (n - 1)) ≡ t + n = omega arith in
        let tick : t + (n - 1) ≡ t + n - 1 = omega arith in
        record {
          lags = subst (λ (m : ℕ). LagsAt m g c s) last late.0;
          last = λ _. agree i v va ∙ sym (keeps i inside (t + n - 1) (omega arith) (omega arith));
          lasts = subst (λ (m : ℕ). Lasts p m m (due - m) g) tick late.1;
        }

module _ {C S V : Type 0} (signal : SignalOf V S)
    (stands_for : C → S → S → ℕ → List Rails → Type 0) (lane : ℕ) (w : PairWorld)
    (keys : PairSignals) (u : GateSignals)
  where
    lags_fresh : (g : Gate) (c : Cell C V S) (s : Since V) → s.fed ≡ 0
        → CellStands signal stands_for lane w u 0 g c → Lags signal stands_for lane w u 0 g c s
    lags_fresh (Const v) c s fed stands = tt
    lags_fresh (Seen p) c s fed stands = tt
    lags_fresh (Loss x) c s fed stands = tt
    lags_fresh (Raw x) c s fed stands = tt
    lags_fresh (Not x) c s fed stands = tt
    lags_fresh (And x y) c s fed stands = tt
    lags_fresh (Or x y) c s fed stands = tt
    lags_fresh (Timer x p d) c s fed stands = record {
      taken = omega (arith, fed);
      stands = subst (λ (r : ℕ). TimerStands stands_for signal.ends lane (w.time p) (w.time d)
          (first_ticks (u x.0) r) c) (sym fed) stands;
      held = λ r low high. absurd (omega arith);
    }
    lags_fresh (Seal x y) c s fed stands = stands

    pub wait_fresh : (gates : List Gate) (kept : Gates C V S S)
        → ((i : ℕ) (s : Since V) → slice_get kept.sinces.items i ≡ Some s → s.fed ≡ 0)
        → ((i due : ℕ) → slice_get kept.dues.items i ≡ Some due → due ≡ 0)
        → AllStand signal stands_for lane w u 0 gates kept.cells.items
        → AllWait signal stands_for lane (record { world = w; keys = keys; pairs = u }) 0 gates kept
    wait_fresh gates kept fed first stands i g c s due v ga ca sa da va =
        let p : LanePairs = record { world = w; keys = keys; pairs = u } in
        let now : due ≡ 0 = first i due da in
        let none : 0 ≡ due - (0 - 1) = omega (arith, now) in
        record {
          lags = lags_fresh g c s (fed i s sa) (stands i g c ga ca);
          last = λ some. absurd (omega arith);
          lasts = subst (λ (m : ℕ). Lasts p (0 - 1) (0 - 1) m g) none
              (lasts_none p (0 - 1) (0 - 1) g);
        }

-- an element of a list of one value
pub at_replicate : {X : Type 0} (n : ℕ) (x : X) (i : ℕ) (y : X)
    → slice_get (replicate n x) i ≡ Some y → y ≡ x
at_replicate zero x i y at = absurd (cc)
at_replicate (suc n) x zero y at = cc
at_replicate (suc n) x (suc i) y at = at_replicate n x i y at
