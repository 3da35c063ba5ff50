-- The delays stand among the parameters in the order of their channels.
use Rattle.std.proofs.Common.{◌≡◌, ◌+◌, ◌*◌, ℕ, suc, ◌<◌, ◌≤◌, length, refl, arith}
use Rattle.std.proofs.Math.Nat.{mul-le-mul_right}
use Rattle.model_line.specs.declared.line.Scheme.TheVariants.{Pott, Putt, Dcb, Dcub, Dtt}
use Rattle.model_line.specs.Settings.{channel_settings, settings_of_terminals}
use Rattle.model_line.specs.Parameters.{channel_count, delay_param}
use Rattle.model_line.specs.Laws.{SettingsAreCounted}
use Rattle.model_line.specs.{declared.line.Line.Line, declared.line.Scheme.Scheme}

pub some_settings : (s : Scheme) → 1 ≤ length (channel_settings s)
some_settings Pott = omega arith
some_settings Putt = omega arith
some_settings Dcb = omega arith
some_settings Dcub = omega arith
some_settings Dtt = omega arith

pub delays_ascend : (counted : SettingsAreCounted) (line : Line) (c d : ℕ) → c < d → d < channel_count line
    → delay_param line c < delay_param line d
delays_ascend counted line c d less within =
    let before : ℕ = length (settings_of_terminals line.scheme 0 line.terminals.items) in
    let each : ℕ = length (channel_settings line.scheme) in
    let some : 1 ≤ each = some_settings line.scheme in
    let rows : suc c * each ≤ d * each = mul-le-mul_right each less in
    let at_c : before + c * each ≡ delay_param line c =
    counted.delays line.scheme line.terminals.items line.channels.items c before each
    (omega arith) refl refl in
    let at_d : before + d * each ≡ delay_param line d =
    counted.delays line.scheme line.terminals.items line.channels.items d before each within refl
    refl in
    omega arith
