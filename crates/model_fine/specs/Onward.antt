-- A line that is played on beyond its horizon, and the histories of both.
use Rattle.std.specs.Prelude.{◌≡◌, ◌≤◌, ◌<◌, ◌*◌, ℕ}
use Rattle.model_line.specs.declared.line.Line.{Line}
use Rattle.model_logic.specs.{Choice.Choice, Histories.History}
use Rattle.model_fine.specs.Fine.{FineDelaysFromOne, IsSameFineHistory}
use Rattle.model_fine.specs.Loose.{Shown, IsShownHistory}

-- the line that is played on is the same in all but its horizon, which is no earlier
pub record IsPlayedOn (line long : Line) : Type 0 where
  pub tick_us : long.tick_us ≡ line.tick_us
  pub scheme : long.scheme ≡ line.scheme
  pub zone1_trip : long.zone1_trip ≡ line.zone1_trip
  pub terminals : long.terminals.items ≡ line.terminals.items
  pub channels : long.channels.items ≡ line.channels.items
  pub params : long.params.items ≡ line.params.items
  pub horizon : line.horizon ≤ long.horizon

-- a choice with the same numbers, and with the same delays up to the line's horizon
pub record IsChoiceOnward (n : ℕ) (line : Line) (choice long_choice : Choice) : Type 0 where
  pub numbers : long_choice.number ≡ choice.number
  pub delays : (c t : ℕ) → t < line.horizon * n → long_choice.delay c t ≡ choice.delay c t

-- each history of the line is the begin of one of the line that is played on, under what is shown and at such
-- a choice
abbrev pub HistoriesGoOn : Type 0
HistoriesGoOn =
    (n : ℕ) (line long : Line) (shown : Shown) (choice long_choice : Choice) (h : History)
    → IsPlayedOn line long → IsChoiceOnward n line choice long_choice
    → FineDelaysFromOne n long long_choice → IsShownHistory n line shown choice h
    → (g : History) × IsShownHistory n long shown long_choice g × IsSameFineHistory n line g h
