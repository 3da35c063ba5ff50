-- What an echo starts from names only what the line has.
use Rattle.std.proofs.Common.{◌≡◌, ◌<◌, ℕ, Bool, true, false, sym}
use Rattle.std.proofs.Common.{subst, ⊎_elim}
use Rattle.std.specs.Prelude.{cond}
use Rattle.model_line.specs.declared.line.Setting.TheVariants.{EchoPickup, EchoPulse}
use Rattle.model_line.specs.declared.line.Line.{Line}
use Rattle.model_line.specs.Parameters.{terminal_count}
use Rattle.model_logic.specs.{Elements.is_weak, Laws.TreesNameTheLine, Names.Names}
use Rattle.model_logic.specs.Permissive.{permission, terminal_setting, quiet}
use Rattle.model_logic.specs.Permissive.{echo_wanted, echo}
use Rattle.model_logic.specs.declared.time.Time.TheVariants.{Zero}
use Rattle.model_logic.specs.Tree.{Tree, Const, Not, And, Or, Timer}
use Rattle.model_settle.specs.{Assumed.wanted, EchoLaws.echoes_or_strong}

part_named : (line : Line) (weak : Bool) (timer rest : Tree)
    → Names line (cond weak (And (cond weak timer (Const false)) rest) (Const false))
    → Names line (cond weak timer (Const false))
unfolding Names
part_named line true timer rest h = h.0
part_named line false timer rest h = tt

module _ (line : Line) (k : ℕ) where
  -- an echo names it
  in_key : (ahead perm : Tree) → Names line (Or ahead (echo line k perm))
      → Names line (echo_wanted line k perm)
  unfolding echo echo_wanted Names
  in_key ahead perm h =
      part_named line (is_weak line k)
      (Timer (And perm (quiet line k)) (terminal_setting line k EchoPickup) Zero)
      (Not (Timer (echo_wanted line k perm) (terminal_setting line k EchoPulse) Zero)) h.1

  -- where no terminal is weak it names nothing
  without_weak : (perm : Tree) → is_weak line k ≡ false → Names line (echo_wanted line k perm)
  unfolding echo_wanted Names
  without_weak perm e =
      subst (λ (b : Bool). Names line (cond b
      (Timer (And perm (quiet line k)) (terminal_setting line k EchoPickup) Zero) (Const false)))
      (sym e) tt

  pub wanted_named : TreesNameTheLine → k < terminal_count line → Names line (wanted line k)
  wanted_named names kn =
      ⊎_elim
      (λ key. in_key key.0 (permission line k)
      (subst (Names line) key.1 (names.keys line k kn)))
      (λ strong. without_weak (permission line k) strong)
      (echoes_or_strong line k)
