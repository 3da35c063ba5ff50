-- The trees of the logic rest on no interval: they are the same for lines that agree in all else.
use Rattle.std.proofs.Common.{◌≡◌, ℕ, List, refl, ◌∙◌, ap}
use Rattle.std.proofs.Math.Path.{fun_ext}
use Rattle.std.specs.Prelude.{false, length, map, get_or, unwrap_or}
use Rattle.model_line.specs.declared.line.Scheme.TheVariants.{Pott, Putt, Dcb, Dcub, Dtt}
use Rattle.model_line.specs.declared.script.Element.TheVariants.{Z1, Z2, Rv, Uv, Cur}
use Rattle.model_line.specs.Settings.{line_settings, setting_number}
use Rattle.model_line.specs.SameCountLaws.{made_alike}
use Rattle.model_line.specs.{declared.line.Line.Line, declared.script.Element.Element}
use Rattle.model_line.specs.{declared.line.Terminal.Terminal, declared.line.Channel.Channel}
use Rattle.model_line.specs.{declared.line.Scheme.Scheme, declared.line.Owner.Owner}
use Rattle.model_line.specs.{declared.line.Setting.Setting, SetBounds.SameButParams}
use Rattle.model_line.specs.{Channels.channel_number, Parameters.terminal_count}
use Rattle.model_logic.specs.Elements.{is_guarded, is_weak, setting_of, seen_timed}
use Rattle.model_logic.specs.Received.{channel_to, received, over_others, all_others, any_received}
use Rattle.model_logic.specs.Received.{all_received}
use Rattle.model_logic.specs.Unblocking.{channel_setting, guard_seen, late, unblocked, locked_out}
use Rattle.model_logic.specs.Unblocking.{open_from, all_open}
use Rattle.model_logic.specs.Permissive.{terminal_setting, reversal_guard, quiet, echo_wanted, echo}
use Rattle.model_logic.specs.Permissive.{weak_infeed_trip, permissive_key, permissive_pilot}
use Rattle.model_logic.specs.Logic.{blocking_key, blocking_pilot, underreach_pilot, transfer_pilot}
use Rattle.model_logic.specs.Logic.{key_by, pilot_by, key_tree, set_tree, trip_tree}
use Rattle.model_logic.specs.Tree.{Tree, Const, And, Or}
use Rattle.model_logic.specs.declared.time.Time.TheVariants.{Param}

module _ (old new : Line) (same : SameButParams old new) where
  -- what is made of the scheme, the terminals and the channels
  along : {A : Type 0} (f : Scheme → List Terminal → List Channel → A)
      → f new.scheme new.terminals.items new.channels.items
      ≡ f old.scheme old.terminals.items old.channels.items
  along f = made_alike old new same f

  -- ---- elements

  guarded : (k : ℕ) → is_guarded new k ≡ is_guarded old k
  guarded k = along (λ s ts cs. get_or (map (λ t. t.guard) ts) k false)

  weak : (k : ℕ) → is_weak new k ≡ is_weak old k
  weak k = along (λ s ts cs. get_or (map (λ t. t.weak) ts) k false)

  setting : (o : Owner) (x : Setting) → setting_of new o x ≡ setting_of old o x
  unfolding setting_of
  setting o x = along (λ s ts cs. Param (unwrap_or (setting_number (line_settings s ts cs) o x) 0))

  seen : (k : ℕ) (e : Element) → seen_timed new k e ≡ seen_timed old k e
  unfolding seen_timed
  seen k Z1 = simp setting
  seen k Z2 = simp setting
  seen k Rv = simp setting
  seen k Uv = simp setting
  seen k Cur = refl

  -- ---- what is received

  channel : (k j : ℕ) → channel_to new k j ≡ channel_to old k j
  unfolding channel_to
  channel k j = along (λ s ts cs. unwrap_or (channel_number cs j k) 0)

  rx : (k j : ℕ) → received new k j ≡ received old k j
  unfolding received
  rx k j = simp channel

  others : (op : Tree → Tree → Tree) (f g : ℕ → Tree) (k : ℕ) → ((j : ℕ) → f j ≡ g j)
      → all_others op f new k ≡ all_others op g old k
  unfolding all_others
  others op f g k e =
      ap (λ (h : ℕ → Tree). unwrap_or (over_others op h k (terminal_count new)) (Const false))
      (fun_ext e)
      ∙ along (λ s ts cs. unwrap_or (over_others op g k (length ts)) (Const false))

  any_rx : (k : ℕ) → any_received new k ≡ any_received old k
  unfolding any_received
  any_rx k = others Or (received new k) (received old k) k (rx k)

  all_rx : (k : ℕ) → all_received new k ≡ all_received old k
  unfolding all_received
  all_rx k = others And (received new k) (received old k) k (rx k)

  -- ---- unblocking

  channel_time : (k j : ℕ) (x : Setting) → channel_setting new k j x ≡ channel_setting old k j x
  unfolding channel_setting
  channel_time k j x = simp (channel, setting)

  guard_tone : (k j : ℕ) → guard_seen new k j ≡ guard_seen old k j
  unfolding guard_seen
  guard_tone k j = simp channel

  late_loss : (k j : ℕ) → late new k j ≡ late old k j
  unfolding late
  late_loss k j = simp (channel, channel_time)

  unb : (k j : ℕ) → unblocked new k j ≡ unblocked old k j
  unfolding unblocked
  unb k j = simp (channel, channel_time, late_loss)

  lock : (k j : ℕ) → locked_out new k j ≡ locked_out old k j
  unfolding locked_out
  lock k j = simp (late_loss, guard_tone, channel_time)

  open_channel : (k j : ℕ) → open_from new k j ≡ open_from old k j
  unfolding open_from
  open_channel k j = simp (rx, unb, lock)

  all_opened : (k : ℕ) → all_open new k ≡ all_open old k
  unfolding all_open
  all_opened k = others And (open_from new k) (open_from old k) k (open_channel k)

  -- ---- permission

  terminal_time : (k : ℕ) (x : Setting) → terminal_setting new k x ≡ terminal_setting old k x
  unfolding terminal_setting
  terminal_time k x = simp setting

  rg : (k : ℕ) → reversal_guard new k ≡ reversal_guard old k
  unfolding reversal_guard
  rg k = simp (guarded, seen, terminal_time)

  calm : (k : ℕ) → quiet new k ≡ quiet old k
  unfolding quiet
  calm k = simp (seen, terminal_time)

  wanted : (k : ℕ) (p : Tree) → echo_wanted new k p ≡ echo_wanted old k p
  unfolding echo_wanted
  wanted k p = simp (weak, calm, terminal_time)

  echoed : (k : ℕ) (p : Tree) → echo new k p ≡ echo old k p
  unfolding echo
  echoed k p = simp (weak, wanted, terminal_time)

  weak_trip : (k : ℕ) (p : Tree) → weak_infeed_trip new k p ≡ weak_infeed_trip old k p
  unfolding weak_infeed_trip
  weak_trip k p = simp (weak, wanted, seen)

  overreach_key : (k : ℕ) (p : Tree) → permissive_key new k p ≡ permissive_key old k p
  unfolding permissive_key
  overreach_key k p = simp (seen, rg, echoed)

  overreach_pilot : (k : ℕ) (p : Tree) → permissive_pilot new k p ≡ permissive_pilot old k p
  unfolding permissive_pilot
  overreach_pilot k p = simp (seen, rg, weak_trip)

  -- ---- key and trip

  block_key : (k : ℕ) → blocking_key new k ≡ blocking_key old k
  unfolding blocking_key
  block_key k = simp (seen, terminal_time)

  block_pilot : (k : ℕ) → blocking_pilot new k ≡ blocking_pilot old k
  unfolding blocking_pilot
  block_pilot k = simp (seen, terminal_time, any_rx)

  under_pilot : (k : ℕ) → underreach_pilot new k ≡ underreach_pilot old k
  unfolding underreach_pilot
  under_pilot k = simp (seen, any_rx)

  transfer : (k : ℕ) → transfer_pilot new k ≡ transfer_pilot old k
  unfolding transfer_pilot
  transfer k = simp (any_rx, terminal_time)

  key_of_scheme : (s : Scheme) (k : ℕ) → key_by s new k ≡ key_by s old k
  key_of_scheme Pott k = simp (all_rx, overreach_key)
  key_of_scheme Dcub k = simp (all_opened, overreach_key)
  key_of_scheme Putt k = seen k Z1
  key_of_scheme Dcb k = block_key k
  key_of_scheme Dtt k = seen k Z1

  pilot_of_scheme : (s : Scheme) (k : ℕ) → pilot_by s new k ≡ pilot_by s old k
  pilot_of_scheme Pott k = simp (all_rx, overreach_pilot)
  pilot_of_scheme Dcub k = simp (all_opened, overreach_pilot)
  pilot_of_scheme Putt k = under_pilot k
  pilot_of_scheme Dcb k = block_pilot k
  pilot_of_scheme Dtt k = transfer k

  pub key_tree-same : (k : ℕ) → key_tree new k ≡ key_tree old k
  unfolding key_tree
  key_tree-same k =
      ap (λ (s : Scheme). key_by s new k) same.scheme ∙ key_of_scheme old.scheme k

  pilot : (k : ℕ) → pilot_by new.scheme new k ≡ pilot_by old.scheme old k
  pilot k = ap (λ (s : Scheme). pilot_by s new k) same.scheme ∙ pilot_of_scheme old.scheme k

  set_tree-same : (k : ℕ) → set_tree new k ≡ set_tree old k
  unfolding set_tree
  set_tree-same k = simp (same.zone1_trip, pilot, seen)

  pub trip_tree-same : (k : ℕ) → trip_tree new k ≡ trip_tree old k
  unfolding trip_tree
  trip_tree-same k = simp (set_tree-same, seen)
