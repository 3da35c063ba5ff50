use Rattle.std.proofs.Common.{◌≡◌, false, sym, ◌∙◌}
use Rattle.model_logic.specs.{Elements.is_weak, Permissive.permission}
use Rattle.model_logic.specs.Permissive.{permissive_key, permissive_pilot}
use Rattle.model_plain.proofs.Counts.{permission_few, strong_key_few, strong_pilot_few}
use Rattle.model_plain.proofs.logic.permissive_program.Goals as goal

pub returns-else-is_terminal_weak : goal.returns-else-is_terminal_weak
returns-else-is_terminal_weak c =
    let line = c.args.line.now in
    let k = c.args.k in
    let p = permission line k in
    let strong : is_weak line k ≡ false =
    sym c.is_terminal_weak.ensures ∙ c.if-is_terminal_weak.false in
    c.closed_program.ensures (permissive_key line k p) (permissive_pilot line k p)
    (record { is = sym c.requires.key; few = strong_key_few line k p strong })
    (record {
      is = sym c.requires.pilot;
      few = strong_pilot_few line k p (permission_few line k) strong;
    })
    c.permissive_key-key.ensures c.permissive_pilot.ensures
