-- A line has the parameters and channels that its logic may name, also where a look-up finds none.
use Rattle.std.proofs.Common.{◌≡◌, ℕ, zero, suc, ◌*◌, ◌-◌, ◌<◌, ◌≤◌, List, [], ◌∷◌, ◌++◌, length}
use Rattle.std.proofs.Common.{Option, Some, None, refl, arith, length-append}
use Rattle.std.specs.Prelude.{unwrap_or, IfSome}
use Rattle.model_line.specs.Settings.{OwnedSetting, line_settings, settings_of_terminals}
use Rattle.model_line.specs.Settings.{settings_of_channels}
use Rattle.model_line.specs.Parameters.{param_number, param_count, terminal_count, channel_count}
use Rattle.model_line.specs.{declared.line.Line.Line, declared.line.Scheme.Scheme}
use Rattle.model_line.specs.{declared.line.Terminal.Terminal, declared.line.Owner.Owner}
use Rattle.model_line.specs.{declared.line.Setting.Setting, Laws.ParametersAreNumbered}

-- a terminal has parameters
some_settings : (s : Scheme) (k : ℕ) (ts : List Terminal) → 1 ≤ length ts
    → 1 ≤ length (settings_of_terminals s k ts)
some_settings s k [] h = absurd (omega arith)
some_settings s k (t ∷ ts) h = omega arith

some_params : ParametersAreNumbered → (line : Line) → 1 ≤ param_count line
unfolding line_settings
some_params laws line =
    let own : List OwnedSetting =
    settings_of_terminals line.scheme 0 line.terminals.items in
    let rest : List OwnedSetting =
    settings_of_channels line.scheme 0 line.channels.items in
    let two : 2 ≤ terminal_count line = line.two_or_three.0 in
    let some : 1 ≤ length own =
    some_settings line.scheme 0 line.terminals.items (omega arith) in
    let all : length (own ++ rest) ≡ param_count line = laws.count line in
    omega (arith, length-append own rest)

pub param_there : ParametersAreNumbered → (line : Line) (o : Owner) (x : Setting)
    → unwrap_or (param_number line o x) 0 < param_count line
param_there laws line o x = by (param_number line o x) refl where
  by : (n : Option ℕ) → param_number line o x ≡ n → unwrap_or n 0 < param_count line
  by None e = omega (arith, some_params laws line)
  by (Some i) e = laws.within line o x i e

some_channels : (n : ℕ) → 2 ≤ n → 1 ≤ n * (n - 1)
some_channels zero two = absurd (omega arith)
some_channels (suc zero) two = absurd (omega arith)
some_channels (suc (suc n)) two = grind arith

pub channel_there : (line : Line) (c : Option ℕ) (P Q : ℕ → Type 0)
    → IfSome c (λ i. (i < channel_count line) × P i × Q i) → unwrap_or c 0 < channel_count line
channel_there line None P Q found =
    let two : 2 ≤ terminal_count line = line.two_or_three.0 in
    let some : 1 ≤ terminal_count line * (terminal_count line - 1) =
    some_channels (terminal_count line) two in
    omega (arith, line.pairs_once.count)
channel_there line (Some i) P Q found = found.0
