-- What reaches a tick without lasting longer is on at it.
use Rattle.std.proofs.Common.{◌≡◌, ◌-◌, ℕ, Bool, subst, arith}
use Rattle.std.specs.Prelude.{IsTrue, ◌↔◌}
use Rattle.model_history.specs.Elements.{timed, Holds}
use Rattle.model_history.specs.Laws.{ElementsAreTheirFacts}
use Rattle.model_line.specs.{declared.line.Line.Line, declared.script.Script.Script}
use Rattle.model_line.specs.Parameters.{declared_ends}
use Rattle.model_logic.specs.Choice.{Choice, declared_box, ends_by, time_by, world_of, pair_world_of}
use Rattle.model_logic.specs.Histories.{History, PairHistory}
use Rattle.model_logic.specs.{Mean.mean, PairMean.pair_mean}
use Rattle.model_logic.specs.Tree.{Tree, Const, Seen, Loss, Raw, Not, And, Or, Timer, Seal}
use Rattle.model_logic.specs.declared.time.Time.TheVariants.{Zero, Param}
use Rattle.judge_races.specs.Operands.{input_of, pickup_of}
use Rattle.judge_races.specs.Lacks.{Reaches}
use Rattle.judge_races.specs.Lasting.{least_pickup, may_be}

plain : (u : ℕ → Bool) (t : ℕ) → IsTrue (u t) ↔ Reaches u 0 0 t
plain u t = (
  λ on. record {
    to = t;
    near = omega arith;
    lasted = record {
      from = t;
      early = omega arith;
      ordered = omega arith;
      past = omega arith;
      on = λ r low high.
          let e : t ≡ r = omega (arith, low, high) in
          let P : ℕ → Type 0 = λ s. IsTrue (u s) in
          subst P e on;
    };
  },
  λ r.
      let e : r.to ≡ t = omega (arith, r.near, r.lasted.past) in
      let P : ℕ → Type 0 = λ s. IsTrue (u s) in
      subst P e (r.lasted.on r.to r.lasted.ordered (omega arith)),
)

of_timer : ElementsAreTheirFacts → (u : ℕ → Bool) (p t : ℕ) → IsTrue (timed u p 0 t) ↔ Reaches u p 0 t
of_timer facts u p t = (
  λ on.
      let is = (facts.timed u p 0 t).0 on in
      let now : is.s ≡ t = omega (arith, is.past, is.lasts) in
      let P : ℕ → Type 0 = Holds u p in
      let held = subst P now is.holds in
      record {
        to = t;
        near = omega arith;
        lasted = record {
          from = t - p;
          early = omega (arith, held.late);
          ordered = omega arith;
          past = omega arith;
          on = λ r low high. held.on r (omega (arith, low)) high;
        };
      },
  λ r.
      let now : r.to ≡ t = omega (arith, r.near, r.lasted.past) in
      (facts.timed u p 0 t).1 (record {
        s = t;
        past = omega arith;
        lasts = omega arith;
        holds = record {
          late = omega (arith, r.lasted.early);
          on = λ s low high. r.lasted.on s (omega (arith, low, r.lasted.early)) (omega (arith, high, now));
        };
      }),
)

pub value_now : ElementsAreTheirFacts → (line : Line) (script : Script) (choice : Choice) (h : History)
    (x : Tree) (t : ℕ) → IsTrue (mean (world_of line script choice) h.key x t)
    ↔ Reaches (mean (world_of line script choice) h.key (input_of x))
    (time_by choice.number (pickup_of x)) 0 t
unfolding mean world_of
value_now facts line script choice h (Const v) t =
    plain (mean (world_of line script choice) h.key (Const v)) t
value_now facts line script choice h (Seen p) t =
    plain (mean (world_of line script choice) h.key (Seen p)) t
value_now facts line script choice h (Loss c) t =
    plain (mean (world_of line script choice) h.key (Loss c)) t
value_now facts line script choice h (Raw c) t =
    plain (mean (world_of line script choice) h.key (Raw c)) t
value_now facts line script choice h (Not x) t =
    plain (mean (world_of line script choice) h.key (Not x)) t
value_now facts line script choice h (And x y) t =
    plain (mean (world_of line script choice) h.key (And x y)) t
value_now facts line script choice h (Or x y) t =
    plain (mean (world_of line script choice) h.key (Or x y)) t
value_now facts line script choice h (Timer x p Zero) t =
    of_timer facts (mean (world_of line script choice) h.key x) (time_by choice.number p) t
value_now facts line script choice h (Timer x p (Param i)) t =
    plain (mean (world_of line script choice) h.key (Timer x p (Param i))) t
value_now facts line script choice h (Seal x y) t =
    plain (mean (world_of line script choice) h.key (Seal x y)) t

pub rail_now : ElementsAreTheirFacts → (line : Line) (script : Script) (w : PairHistory) (x : Tree)
    (t : ℕ) → IsTrue (may_be line script w x t)
    ↔ Reaches (may_be line script w (input_of x)) (least_pickup line x) 0 t
unfolding pair_mean pair_world_of declared_box
rail_now facts line script w (Const v) t = plain (may_be line script w (Const v)) t
rail_now facts line script w (Seen p) t = plain (may_be line script w (Seen p)) t
rail_now facts line script w (Loss c) t = plain (may_be line script w (Loss c)) t
rail_now facts line script w (Raw c) t = plain (may_be line script w (Raw c)) t
rail_now facts line script w (Not x) t = plain (may_be line script w (Not x)) t
rail_now facts line script w (And x y) t = plain (may_be line script w (And x y)) t
rail_now facts line script w (Or x y) t = plain (may_be line script w (Or x y)) t
rail_now facts line script w (Timer x p Zero) t =
    of_timer facts (may_be line script w x) (ends_by (declared_ends line) p).least t
rail_now facts line script w (Timer x p (Param i)) t =
    plain (may_be line script w (Timer x p (Param i))) t
rail_now facts line script w (Seal x y) t = plain (may_be line script w (Seal x y)) t
