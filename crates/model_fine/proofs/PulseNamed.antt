-- What an echo starts from, and the timer that tells that its pulse is over, name only what the line
-- has.
use Rattle.std.proofs.Common.{◌≡◌, ◌<◌, ℕ, Bool, true, false}
use Rattle.std.proofs.lemmas.Bool.{both_ways}
use Rattle.std.specs.Prelude.{IsTrue, cond}
use Rattle.model_line.specs.declared.line.Scheme.TheVariants.{Pott, Putt, Dcb, Dcub, Dtt}
use Rattle.model_line.specs.declared.line.Setting.TheVariants.{EchoPulse}
use Rattle.model_line.specs.{declared.line.Line.Line, declared.line.Scheme.Scheme}
use Rattle.model_line.specs.Parameters.{terminal_count}
use Rattle.model_line.specs.Terminals.{flags_fit}
use Rattle.model_line.specs.SettingFlagLaws.{none_weak}
use Rattle.model_logic.specs.{Elements.is_weak, Laws.TreesNameTheLine}
use Rattle.model_logic.specs.Logic.{key_by, key_tree}
use Rattle.model_logic.specs.Names.{Names, HasTime}
use Rattle.model_logic.specs.Permissive.{permission_by, permission, terminal_setting}
use Rattle.model_logic.specs.Permissive.{echo_wanted, echo, permissive_key}
use Rattle.model_logic.specs.Received.{all_received}
use Rattle.model_logic.specs.Unblocking.{all_open}
use Rattle.model_logic.specs.declared.time.Time.TheVariants.{Zero}
use Rattle.model_logic.specs.Tree.{Tree, Const, Not, And, Timer}
use Rattle.model_settle.specs.Assumed.{wanted, pulse_over}

part_named : (line : Line) (weak : Bool) (first timer : Tree) → weak ≡ true
    → Names line (cond weak (And first (Not timer)) (Const false)) → Names line timer
unfolding Names
part_named line true first timer e h = h.1
part_named line false first timer e h = absurd (cc)

module _ (line : Line) (k : ℕ) (weak : IsTrue (is_weak line k)) where
  -- an echo names it
  in_key : (perm : Tree) → Names line (permissive_key line k perm)
      → Names line (Timer (echo_wanted line k perm) (terminal_setting line k EchoPulse) Zero)
  unfolding permissive_key echo Names
  in_key perm h =
      part_named line (is_weak line k) (echo_wanted line k perm)
      (Timer (echo_wanted line k perm) (terminal_setting line k EchoPulse) Zero) weak h.1

  -- in a scheme without echo no terminal is weak
  never : (A : Type 0) → is_weak line k ≡ false → A
  never A off = absurd (both_ways (is_weak line k) off weak)

  by_scheme : (s : Scheme) → IsTrue (flags_fit s line.terminals.items)
      → Names line (key_by s line k)
      → Names line (Timer (echo_wanted line k (permission_by s line k))
      (terminal_setting line k EchoPulse) Zero)
  by_scheme Pott fit h = in_key (all_received line k) h
  by_scheme Dcub fit h = in_key (all_open line k) h
  by_scheme Putt fit h = never _ (none_weak line.terminals.items k fit)
  by_scheme Dcb fit h = never _ (none_weak line.terminals.items k fit)
  by_scheme Dtt fit h = never _ (none_weak line.terminals.items k fit)

  pub pulse_named : TreesNameTheLine → k < terminal_count line → Names line (pulse_over line k)
  unfolding key_tree permission
  pulse_named names kn = by_scheme line.scheme line.flags_by_scheme (names.keys line k kn)

  pub wanted_named : TreesNameTheLine → k < terminal_count line → Names line (wanted line k)
  unfolding Names
  wanted_named names kn = (pulse_named names kn).0

  pub pulse_has_time : TreesNameTheLine → k < terminal_count line
      → HasTime line (terminal_setting line k EchoPulse)
  unfolding Names
  pulse_has_time names kn = (pulse_named names kn).1.0
