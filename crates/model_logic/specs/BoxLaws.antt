-- Boxes with another interval, boxes that are the same, and the worlds that they make.
use Rattle.std.proofs.Common.{◌≡◌, ◌≤◌, ℕ, Bool, cond, refl, sym, ap, arith, eq-eqb}
use Rattle.std.proofs.lemmas.Bool.{ne_eqb}
use Rattle.model_history.specs.Rails.{Ends}
use Rattle.model_line.specs.{declared.line.Line.Line, declared.script.Script.Script}
use Rattle.model_logic.specs.declared.time.Time.TheVariants.{Zero, Param}
use Rattle.model_logic.specs.{declared.time.Time.Time, PairMean.PairSignals, Names.HasTime}
use Rattle.model_logic.specs.Choice.{Box, LeastFromOne, ends_by, pair_world_of}
use Rattle.model_logic.specs.{Boxes.IsSameBox, Boxes.ends_with, Covering.IsSameWorld}
use Rattle.model_logic.specs.Solution.{IsDelayed, SameBefore}

-- at the parameter the new interval, elsewhere the old one
pub ends_with-here : (ends : ℕ → Ends) (param : ℕ) (new : Ends) (i : ℕ) → i ≡ param
    → ends_with ends param new i ≡ new
ends_with-here ends param new i here =
    ap (λ (b : Bool). cond b new (ends i)) (eq-eqb i param here)

pub ends_with-elsewhere : (ends : ℕ → Ends) (param : ℕ) (new : Ends) (i : ℕ)
    → (i ≡ param → ⊥) → ends_with ends param new i ≡ ends i
ends_with-elsewhere ends param new i other =
    ap (λ (b : Bool). cond b new (ends i)) (ne_eqb i param other)

-- boxes that are the same are so with the two exchanged
pub turned : (line : Line) (a b : Box) → IsSameBox line a b → IsSameBox line b a
turned line a b same = record {
  numbers = λ i lt. sym (same.numbers i lt);
  delays = λ c t lt early. sym (same.delays c t lt early);
}

-- and they make the same world
same_time : (line : Line) (a b : Box) → IsSameBox line a b → (x : Time) → HasTime line x
    → ends_by a.ends x ≡ ends_by b.ends x
same_time line a b same Zero has = refl
same_time line a b same (Param i) has = same.numbers i has

pub same_world : (line : Line) (script : Script) (a b : Box) → IsSameBox line a b
    → IsSameWorld line (pair_world_of line script a) (pair_world_of line script b)
unfolding pair_world_of
same_world line script a b same = record {
  seen = λ p t. refl;
  lost = λ c t. refl;
  from = λ c. refl;
  delay = same.delays;
  time = same_time line a b same;
}

-- the world of a box whose delays are at least 1 is delayed
pub pair_world_delayed : (line : Line) (script : Script) (box : Box) → LeastFromOne line box
    → IsDelayed line (pair_world_of line script box)
unfolding pair_world_of
pair_world_delayed line script box d = record { from = line.pairs_once.from; later = d }

-- keys that agree before a tick agree before each earlier one
pub same_earlier : (line : Line) (u v : PairSignals) (r t : ℕ) → r ≤ t
    → SameBefore line u v t → SameBefore line u v r
same_earlier line u v r t le same k s kn lt = same k s kn (omega arith)
