-- How many operations the logic has.
use Rattle.std.proofs.Common.{◌≡◌, ◌≤◌, ◌+◌, ◌*◌, ◌==◌, ℕ, zero, suc, Bool, true, false, cond}
use Rattle.std.proofs.Common.{Option, Some, None, refl, arith}
use Rattle.std.specs.Prelude.{unwrap_or}
use Rattle.model_line.specs.declared.line.Scheme.TheVariants.{Pott, Putt, Dcb, Dcub, Dtt}
use Rattle.model_line.specs.declared.line.Setting.TheVariants.{ReversalPickup, ReversalDropout}
use Rattle.model_line.specs.{declared.line.Line.Line, declared.line.Scheme.Scheme}
use Rattle.model_line.specs.{declared.script.Element.Element, Parameters.terminal_count}
use Rattle.model_line.specs.declared.script.Element.TheVariants as element
use Rattle.model_logic.specs.Tree.{Tree, Const, And, Or, Timer}
use Rattle.model_logic.specs.Elements.{is_guarded, is_weak, seen_timed, zone1, reverse}
use Rattle.model_logic.specs.Elements.{current}
use Rattle.model_logic.specs.Received.{received, joined, over_others, all_others}
use Rattle.model_logic.specs.Received.{any_received, all_received}
use Rattle.model_logic.specs.Unblocking.{guard_seen, late, unblocked, locked_out, open_from}
use Rattle.model_logic.specs.Unblocking.{all_open}
use Rattle.model_logic.specs.Permissive.{permission, permission_by, reversal_guard, quiet, echo}
use Rattle.model_logic.specs.Permissive.{terminal_setting, weak_infeed_trip, permissive_key, permissive_pilot}
use Rattle.model_logic.specs.Logic.{blocking_key, blocking_pilot, underreach_pilot, transfer_pilot}
use Rattle.model_plain.specs.Formulas.{operations}
use Rattle.model_plain.specs.Parts.{ahead, wanted_over, weak_key_over, weak_pilot_over, trip_over}

-- of a tree, if there is one
abbrev within : Option Tree → ℕ → Type 0
within None n = Unit {0}
within (Some t) n = operations t ≤ n

-- what joins two trees by one operation
abbrev Joins : (Tree → Tree → Tree) → Type 0
Joins op = (a b : Tree) → operations (op a b) ≡ 1 + operations a + operations b

joins_and : Joins And
joins_and a b = refl

joins_or : Joins Or
joins_or a b = refl

module _ (line : Line) (k : ℕ) where
  pub seen_few : (e : Element) → operations (seen_timed line k e) ≤ 2
  unfolding seen_timed
  seen_few element.Z1 = omega arith
  seen_few element.Z2 = omega arith
  seen_few element.Rv = omega arith
  seen_few element.Uv = omega arith
  seen_few element.Cur = omega arith

  pub guard_few : operations (reversal_guard line k) ≤ 3
  unfolding reversal_guard
  guard_few = by (is_guarded line k) where
    by : (b : Bool) → operations (cond b
        (Timer (reverse line k) (terminal_setting line k ReversalPickup)
        (terminal_setting line k ReversalDropout)) (Const false)) ≤ 3
    by true = omega (arith, seen_few element.Rv)
    by false = omega arith

  -- ---- of what is received

  joined_few : (op : Tree → Tree → Tree) → Joins op → (o : Option Tree) (x : Tree) (n : ℕ)
      → within o (24 * n) → operations x ≤ 23 → operations (joined op o x) ≤ 24 * suc n
  joined_few op joins None x n before few = omega (arith, few)
  joined_few op joins (Some a) x n before few = omega (arith, joins a x, before, few)

  others_step : (op : Tree → Tree → Tree) → Joins op → (o : Option Tree) (x : Tree) (n : ℕ)
      → within o (24 * n) → operations x ≤ 23 → (b : Bool)
      → within (cond b o (Some (joined op o x))) (24 * suc n)
  others_step op joins None x n before few true = tt
  others_step op joins (Some a) x n before few true = omega (arith, before)
  others_step op joins o x n before few false = joined_few op joins o x n before few

  others_few : (op : Tree → Tree → Tree) → Joins op → (tree : ℕ → Tree)
      → ((j : ℕ) → operations (tree j) ≤ 23) → (n : ℕ)
      → within (over_others op tree k n) (24 * n)
  others_few op joins tree few zero = tt
  others_few op joins tree few (suc n) =
      others_step op joins (over_others op tree k n) (tree n) n
      (others_few op joins tree few n) (few n) (n == k)

  unwrapped_few : (o : Option Tree) (n : ℕ) → within o n
      → operations (unwrap_or o (Const false)) ≤ 1 + n
  unwrapped_few None n few = omega arith
  unwrapped_few (Some t) n few = omega (arith, few)

  all_few : (op : Tree → Tree → Tree) → Joins op → (tree : ℕ → Tree)
      → ((j : ℕ) → operations (tree j) ≤ 23) → operations (all_others op tree line k) ≤ 73
  unfolding all_others
  all_few op joins tree few =
      let all : operations (unwrap_or (over_others op tree k (terminal_count line)) (Const false))
      ≤ 1 + 24 * terminal_count line =
      unwrapped_few (over_others op tree k (terminal_count line)) (24 * terminal_count line)
      (others_few op joins tree few (terminal_count line)) in
      omega (arith, all, line.two_or_three.1)

  received_few : (j : ℕ) → operations (received line k j) ≤ 23
  unfolding received
  received_few j = omega arith

  open_few : (j : ℕ) → operations (open_from line k j) ≤ 23
  unfolding open_from received unblocked locked_out late guard_seen
  open_few j = omega arith

  any_few : operations (any_received line k) ≤ 73
  unfolding any_received
  any_few = all_few Or joins_or (received line k) received_few

  permission_by_few : (s : Scheme) → operations (permission_by s line k) ≤ 73
  unfolding all_received all_open
  permission_by_few Pott = all_few And joins_and (received line k) received_few
  permission_by_few Dcub = all_few And joins_and (open_from line k) open_few
  permission_by_few Putt = omega arith
  permission_by_few Dcb = omega arith
  permission_by_few Dtt = omega arith

  pub permission_few : operations (permission line k) ≤ 73
  unfolding permission
  permission_few = permission_by_few line.scheme

  -- ---- of keys and trips that name no parts

  pub strong_key_few : (p : Tree) → is_weak line k ≡ false → operations (permissive_key line k p) ≤ 9
  unfolding permissive_key echo
  strong_key_few p strong = rw strong (omega (arith, seen_few element.Z2, guard_few))

  pub strong_pilot_few : (p : Tree) → operations p ≤ 73 → is_weak line k ≡ false
      → operations (permissive_pilot line k p) ≤ 83
  unfolding permissive_pilot weak_infeed_trip
  strong_pilot_few p few strong = rw strong (omega (arith, few, seen_few element.Z2, guard_few))

  pub zone1_few : operations (zone1 line k) ≤ 9
  zone1_few = omega (arith, seen_few element.Z1)

  pub blocking_key_few : operations (blocking_key line k) ≤ 9
  unfolding blocking_key
  blocking_key_few = omega (arith, seen_few element.Z2, seen_few element.Rv)

  pub blocking_pilot_few : operations (blocking_pilot line k) ≤ 83
  unfolding blocking_pilot
  blocking_pilot_few = omega (arith, seen_few element.Z2, any_few)

  pub underreach_pilot_few : operations (underreach_pilot line k) ≤ 83
  unfolding underreach_pilot
  underreach_pilot_few = omega (arith, seen_few element.Z2, any_few)

  pub transfer_pilot_few : operations (transfer_pilot line k) ≤ 83
  unfolding transfer_pilot
  transfer_pilot_few = omega (arith, any_few)

  -- ---- of the parts of a weak terminal, and of what is over them

  pub ahead_few : operations (ahead line k) ≤ 7
  ahead_few = omega (arith, seen_few element.Z2, guard_few)

  pub wanted_few : operations (wanted_over line k (Const false)) ≤ 10
  unfolding quiet
  wanted_few = omega (arith, seen_few element.Z2, seen_few element.Rv)

  pub weak_key_few : operations (weak_key_over line k (Const false) (Const false)) ≤ 7
  weak_key_few = omega arith

  pub weak_pilot_few : operations (weak_pilot_over line k (Const false) (Const false)) ≤ 14
  weak_pilot_few = omega (arith, seen_few element.Z2, seen_few element.Uv, guard_few)

  pub trip_few : (pilot : Tree) → operations (trip_over line k pilot) ≤ operations pilot + 6
  trip_few pilot = by line.zone1_trip where
    by : (b : Bool) → 1 + operations (cond b (Or pilot (zone1 line k)) pilot)
        + operations (current line k) ≤ operations pilot + 6
    by true = omega (arith, seen_few element.Z1, seen_few element.Cur)
    by false = omega (arith, seen_few element.Cur)
