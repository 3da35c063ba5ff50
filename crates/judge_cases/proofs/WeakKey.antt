-- What a weak terminal keys has what its echo starts from.
use Rattle.std.proofs.Common.{◌≡◌, ℕ, zero, suc, Bool, true, false, sym, ◌∙◌, ap}
use Rattle.std.proofs.Common.{List, [], ◌∷◌, ◌<◌, length, arith, ⊎_elim}
use Rattle.std.specs.Prelude.{IsTrue, cond, map, get_or}
use Rattle.model_line.specs.declared.line.Setting.TheVariants.{EchoPickup, EchoPulse}
use Rattle.model_line.specs.declared.line.Line.{Line}
use Rattle.model_line.specs.declared.line.Terminal.{Terminal}
use Rattle.model_line.specs.Parameters.{terminal_count}
use Rattle.model_logic.specs.Elements.{is_weak}
use Rattle.model_logic.specs.Logic.{key_tree}
use Rattle.model_logic.specs.Permissive.{permission, terminal_setting, quiet}
use Rattle.model_logic.specs.Permissive.{echo_wanted, echo}
use Rattle.model_logic.specs.declared.time.Time.TheVariants.{Zero}
use Rattle.model_logic.specs.Tree.{Tree, Const, Not, And, Or, Timer}
use Rattle.net_gates.specs.declared.gate.GateId.{GateId}
use Rattle.net_gates.specs.declared.gate.Gate.{Gate}
use Rattle.net_gates.specs.declared.gate.Gate.TheVariants as gate
use Rattle.net_gates.specs.Formulas.{formula_of, kind_over}
use Rattle.model_settle.specs.{Assumed.wanted, EchoLaws.echoes_or_strong}

weak_in : (ts : List Terminal) (k : ℕ) → get_or (map (λ t. t.weak) ts) k false ≡ true
    → k < length ts
weak_in [] zero h = absurd (cc)
weak_in [] (suc k) h = absurd (cc)
weak_in (t ∷ ts) zero h = omega arith
weak_in (t ∷ ts) (suc k) h = let below = weak_in ts k h in omega arith

-- a weak terminal is one of the line's
pub weak_exists : (line : Line) (k : ℕ) → IsTrue (is_weak line k) → k < terminal_count line
weak_exists line k weak = weak_in line.terminals.items k weak

module _ (line : Line) (k : ℕ) (weak : IsTrue (is_weak line k)) where
  -- a weak terminal keys ahead, or for one pulse of what it wants
  abbrev pub still : Tree → Tree
  still want = Not (Timer want (terminal_setting line k EchoPulse) Zero)

  in_key : (head : Tree) → Or head (echo line k (permission line k))
      ≡ Or head (And (wanted line k) (still (wanted line k)))
  unfolding echo
  in_key head =
      ap (λ (b : Bool). Or head (cond b (And (wanted line k) (still (wanted line k)))
      (Const false))) weak

  keyed : (head : Tree) × (key_tree line k ≡ Or head (And (wanted line k) (still (wanted line k))))
  keyed =
      ⊎_elim
      (λ key. (key.0, key.1 ∙ in_key key.0))
      (λ strong. absurd (let off = strong in cc))
      (echoes_or_strong line k)

  pub ahead : Tree
  ahead = keyed.0

  pub weak_key : key_tree line k ≡ Or ahead (And (wanted line k) (still (wanted line k)))
  unfolding ahead
  weak_key = keyed.1

  -- the echo's start is a timed element
  pub wanted_timer : wanted line k
      ≡ Timer (And (permission line k) (quiet line k)) (terminal_setting line k EchoPickup) Zero
  unfolding echo_wanted
  wanted_timer =
      ap (λ (b : Bool). cond b (Timer (And (permission line k) (quiet line k))
      (terminal_setting line k EchoPickup) Zero) (Const false)) weak

or_second : (p q x y : Tree) → Or p q ≡ Or x y → q ≡ y
or_second p q x y e = cc

and_first : (p q x y : Tree) → And p q ≡ And x y → p ≡ x
and_first p q x y e = cc

module _ (gates : List Gate) (g : Gate) (a b : GateId) (tree : Tree)
    (stands : tree ≡ kind_over gates g) where
  pub second_is : (x y : Tree) → g ≡ gate.Or a b → tree ≡ Or x y → formula_of gates b.0 ≡ y
  second_is x y is e =
      or_second (formula_of gates a.0) (formula_of gates b.0) x y
      (ap (kind_over gates) (sym is) ∙ sym stands ∙ e)

  pub first_is : (x y : Tree) → g ≡ gate.And a b → tree ≡ And x y → formula_of gates a.0 ≡ x
  first_is x y is e =
      and_first (formula_of gates a.0) (formula_of gates b.0) x y
      (ap (kind_over gates) (sym is) ∙ sym stands ∙ e)
