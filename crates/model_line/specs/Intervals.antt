-- What a line keeps of its parameters' intervals.
use Rattle.std.specs.Prelude.{◌≤◌, ◌<◌, ℕ, List, length, map, get_or, unwrap_or}
use Rattle.model_line.specs.Settings.{line_settings, setting_number}
use Rattle.model_line.specs.declared.line.Setting.TheVariants.{Delay}
use Rattle.model_line.specs.{declared.line.Scheme.Scheme, declared.line.Terminal.Terminal}
use Rattle.model_line.specs.{declared.line.Channel.Channel, declared.line.Param.Param}
use Rattle.model_line.specs.declared.line.Owner.TheVariants as owner

-- the least and the greatest value of each parameter
abbrev pub leasts : List Param → List ℕ
leasts ps = map (λ p. p.least) ps

abbrev pub greatests : List Param → List ℕ
greatests ps = map (λ p. p.greatest) ps

-- interval i: the least value is at most the greatest, and that at most 4000
abbrev pub IsInterval : List ℕ → List ℕ → ℕ → Type 0
IsInterval least greatest i =
    (get_or least i 0 ≤ get_or greatest i 0) × (get_or greatest i 0 ≤ 4000)

-- so is each
abbrev pub AreIntervals : List ℕ → List ℕ → Type 0
AreIntervals least greatest = (i : ℕ) → i < length least → IsInterval least greatest i

-- the number of a channel's delay among the parameters
abbrev pub delay_number_of : Scheme → List Terminal → List Channel → ℕ → ℕ
delay_number_of s ts cs c =
    unwrap_or (setting_number (line_settings s ts cs) (owner.Channel c) Delay) 0

-- the least delay of each channel is at least one tick
abbrev pub LeastDelaysFromOne : Scheme → List Terminal → List Channel → List ℕ → Type 0
LeastDelaysFromOne s ts cs least =
    (c : ℕ) → c < length cs → 1 ≤ get_or least (delay_number_of s ts cs c) 0
