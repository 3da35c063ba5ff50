-- What holds of each value that the canonical table puts holds of the table.
use Rattle.std.proofs.Common.{ℕ, List, [], ◌∷◌, codes}
use Rattle.toml.specs.Data.{Data, string, Members}
use Rattle.model_line.specs.Settings.{table_key, terminal_groups, receiver_settings}
use Rattle.model_line.specs.ParamNames.{name_at}
use Rattle.model_line.specs.{declared.line.Line.Line, declared.line.Terminal.Terminal}
use Rattle.model_line.specs.{declared.line.Channel.Channel, declared.line.Owner.Owner}
use Rattle.model_line.specs.{declared.line.Setting.Setting, declared.line.Setting.TheVariants.Delay}
use Rattle.model_line.specs.declared.line.Owner.TheVariants as owner
use Rattle.file_line.specs.Canonical.{put_member, put_all, table_of, setting_pair, times_data}
use Rattle.file_line.specs.Canonical.{put_times, put_groups, terminal_members, channel_members}

-- it holds of each value
abbrev pub Each : (Data → Type 0) → List (List ℕ × Data) → Type 0
Each P [] = Unit {0}
Each P (pair ∷ pairs) = P pair.1 × Each P pairs

module _ (P : Data → Type 0) (Q : Members → Type 0)
    (put : (k : List ℕ) (d : Data) (ms : Members) → P d → Q ms → Q (put_member k d ms)) where
  pub all_put : (pairs : List (List ℕ × Data)) (ms : Members) → Each P pairs → Q ms
      → Q (put_all pairs ms)
  all_put [] ms each of = of
  all_put (pair ∷ pairs) ms each of =
      all_put pairs (put_member pair.0 pair.1 ms) each.1 (put pair.0 pair.1 ms each.0 of)

  -- where it holds of the times
  module _ (unit : ℕ) (line : Line)
      (times : (o : Owner) (xs : List Setting) → P (times_data unit line o xs)) where
    times_put : (o : Owner) (xs : List Setting) (ms : Members) → Q ms
        → Q (put_times unit line o xs ms)
    times_put o [] ms of = of
    times_put o (x ∷ xs) ms of =
        put (table_key x) (times_data unit line o (x ∷ xs)) ms (times o (x ∷ xs)) of

    groups_put : (o : Owner) (groups : List (List Setting)) (ms : Members) → Q ms
        → Q (put_groups unit line o groups ms)
    groups_put o [] ms of = of
    groups_put o (xs ∷ groups) ms of =
        groups_put o groups (put_times unit line o xs ms) (times_put o xs ms of)

    pub terminal_put : (k : ℕ) (t : Terminal) → Q (table_of ((codes "name", string t.name) ∷ []))
        → Q (terminal_members unit line k t)
    terminal_put k t named =
        groups_put (owner.Terminal k) (terminal_groups line.scheme t)
        (table_of ((codes "name", string t.name) ∷ [])) named

    pub channel_put : (c : ℕ) (h : Channel)
        → Q (table_of
        ((codes "from", string (name_at line.terminals.items h.from))
        ∷ (codes "to", string (name_at line.terminals.items h.to))
        ∷ setting_pair unit line (owner.Channel c) Delay ∷ []))
        → Q (channel_members unit line c h)
    channel_put c h base =
        times_put (owner.Channel c) (receiver_settings line.scheme)
        (table_of
        ((codes "from", string (name_at line.terminals.items h.from))
        ∷ (codes "to", string (name_at line.terminals.items h.to))
        ∷ setting_pair unit line (owner.Channel c) Delay ∷ [])) base
