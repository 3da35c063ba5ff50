-- The canonical table has no date that could not be written.
use Rattle.std.proofs.Common.{◌≡◌, ◌+◌, ℕ, true, List, [], ◌∷◌, map, refl}
use Rattle.toml.specs.{Data.Data, Data.Members, Data.no_members, Data.has_valid_dates}
use Rattle.toml.specs.{Data.items_have_valid_dates, Data.members_have_valid_dates, View.items_of}
use Rattle.model_line.specs.{declared.line.Line.Line, declared.line.Terminal.Terminal}
use Rattle.model_line.specs.{declared.line.Channel.Channel, declared.line.Owner.Owner}
use Rattle.model_line.specs.declared.line.Setting.{Setting}
use Rattle.file_line.specs.Canonical.{put_all, table_of, setting_pair, times_data}
use Rattle.file_line.specs.Canonical.{terminal_members, channel_members}
use Rattle.file_line.specs.Canonical.{tables_from, head_pairs, table_pairs, canonical_in}
use Rattle.file_line.specs.PutLaws.{put_dated}
use Rattle.file_line.proofs.PairLaws.{Each, all_put, terminal_put, channel_put}

abbrev pub IsDated : Data → Type 0
IsDated d = has_valid_dates d ≡ true

abbrev pub AreDated : Members → Type 0
AreDated ms = members_have_valid_dates ms ≡ true

all_dated :
    (pairs : List (List ℕ × Data)) (ms : Members) → Each IsDated pairs → AreDated ms
    → AreDated (put_all pairs ms)
all_dated = all_put IsDated AreDated put_dated

settings_dated :
    (unit : ℕ) (line : Line) (o : Owner) (xs : List Setting)
    → Each IsDated (map (setting_pair unit line o) xs)
settings_dated unit line o [] = tt
settings_dated unit line o (x ∷ xs) = (refl, settings_dated unit line o xs)

times_dated :
    (unit : ℕ) (line : Line) (o : Owner) (xs : List Setting)
    → IsDated (times_data unit line o xs)
unfolding times_data
times_dated unit line o xs =
    all_dated (map (setting_pair unit line o) xs) no_members (settings_dated unit line o xs) refl

terminal_dated :
    (unit : ℕ) (line : Line) (k : ℕ) (t : Terminal) → AreDated (terminal_members unit line k t)
terminal_dated unit line k t =
    terminal_put IsDated AreDated put_dated unit line (times_dated unit line) k t refl

channel_dated :
    (unit : ℕ) (line : Line) (c : ℕ) (h : Channel) → AreDated (channel_members unit line c h)
channel_dated unit line c h =
    channel_put IsDated AreDated put_dated unit line (times_dated unit line) c h refl

tables_dated :
    {X : Type 0} (members : ℕ → X → Members) → ((k : ℕ) (x : X) → AreDated (members k x))
    → (k : ℕ) (xs : List X) → items_have_valid_dates (items_of (tables_from members k xs)) ≡ true
tables_dated members each k [] = refl
tables_dated members each k (x ∷ xs) = rw (each k x) (tables_dated members each (k + 1) xs)

-- so `toml` prints it, unless memory runs out
pub canonical_dated :
    (version unit : ℕ) (line : Line)
    → members_have_valid_dates (canonical_in version unit line) ≡ true
unfolding canonical_in
canonical_dated version unit line =
    all_dated (table_pairs unit line) (table_of (head_pairs version line)) (
      tables_dated (terminal_members unit line) (terminal_dated unit line) 0 line.terminals.items,
      (tables_dated (channel_members unit line) (channel_dated unit line) 0 line.channels.items, tt),
    )
    refl
