-- The spans of a script that a gate shows.
use Rattle.std.proofs.Common.{◌≡◌, ℕ, List, Bool, true, false, ◌&&◌, refl, sym, ◌∙◌, ap, subst}
use Rattle.std.proofs.lemmas.Map.Views.{any-filter_same}
use Rattle.std.specs.Prelude.{nat_le, nat_lt}
use Rattle.std.specs.List.{filter}
use Rattle.model_history.specs.Rails.{Ends, both}
use Rattle.model_line.specs.Seen.{is_of_place, is_of_loss, shows, loses, is_seen, is_lost}
use Rattle.model_line.specs.declared.script.{Place.Place, Script.Script, SeenSpan.SeenSpan}
use Rattle.model_logic.specs.{PairMean.PairWorld, Choice.pair_world_of}
use Rattle.net_gates.specs.declared.gate.Gate.{Gate}
use Rattle.net_gates.specs.declared.gate.Gate.TheVariants as gate
use Rattle.run_step.specs.declared.run.Run.{Run}
use Rattle.run_step.specs.{LaneBox.lane_world, Shown.IsShown, Shown.IsShownAt, Shown.is_shown_by}
use Rattle.run_step.specs.{Quiet.AllKeep, Quiet.ScriptKeeps, Lanes.LanePairs}
use Rattle.run_step.specs.{Lasts.Lasts, Lasts.RawLasts}
use Rattle.run_step.specs.InputLaws.{script_keeps}

first_true : (a b : Bool) → (a && b) ≡ true → a ≡ true
first_true true b is = refl
first_true false b is = is

module _ {S : Type 0} (ends : S → ℕ → Ends) (run : Run S) (script : Script) (lane : ℕ) where
  -- they show what all do
  pub filter_shows : (list : List SeenSpan) (g : Gate)
      → list ≡ filter (is_shown_by g) script.spans.items
      → IsShown list
      (lane_world ends run.compiled.now.line.now script run.spans.now run.steps.now lane) g
  unfolding pair_world_of
  filter_shows list (gate.Const v) is t = tt
  filter_shows list (gate.Seen p) is t =
      ap both (ap (λ (l : List SeenSpan). is_seen l p t) is
      ∙ any-filter_same (shows p t) (λ (s : SeenSpan). is_of_place p s.what) true
      (λ s on. first_true (is_of_place p s.what) (nat_le s.from t && nat_lt t s.to) on)
      script.spans.items)
  filter_shows list (gate.Loss c) is t =
      ap both (ap (λ (l : List SeenSpan). is_lost l c t) is
      ∙ any-filter_same (loses c t) (λ (s : SeenSpan). is_of_loss c s.what) true
      (λ s on. first_true (is_of_loss c s.what) (nat_le s.from t && nat_lt t s.to) on)
      script.spans.items)
  filter_shows list (gate.Raw c) is t = tt
  filter_shows list (gate.Not x) is t = tt
  filter_shows list (gate.And x y) is t = tt
  filter_shows list (gate.Or x y) is t = tt
  filter_shows list (gate.Timer x p d) is t = tt
  filter_shows list (gate.Seal x y) is t = tt

-- what shows and loses all shows and loses what a gate is of
pub world_shows : (list : List SeenSpan) (w : PairWorld) (t : ℕ)
    → ((p : _) → both (is_seen list p t) ≡ w.seen p t)
    → ((c : ℕ) → both (is_lost list c t) ≡ w.lost c t)
    → (g : Gate) → IsShownAt list w t g
world_shows list w t seen lost (gate.Const v) = tt
world_shows list w t seen lost (gate.Seen p) = seen p
world_shows list w t seen lost (gate.Loss c) = lost c
world_shows list w t seen lost (gate.Raw c) = tt
world_shows list w t seen lost (gate.Not x) = tt
world_shows list w t seen lost (gate.And x y) = tt
world_shows list w t seen lost (gate.Or x y) = tt
world_shows list w t seen lost (gate.Timer x p d) = tt
world_shows list w t seen lost (gate.Seal x y) = tt

-- while none of the spans begins or ends, what they show of a gate lasts
pub seen_lasts : (p : LanePairs) (b t n : ℕ) (g : Gate) (q : Place) (list : List SeenSpan)
    → g ≡ gate.Seen q → IsShown list p.world g → AllKeep t n list → Lasts p b t n g
seen_lasts p b t n g q list is shown keep =
    let shows : IsShown list p.world (gate.Seen q) =
    subst (λ (h : Gate). IsShown list p.world h) is shown in
    let keeps : ScriptKeeps list t n = script_keeps list t n keep in
    subst (λ (h : Gate). Lasts p b t n h) (sym is)
    (λ r low high. sym (shows r) ∙ ap both (keeps.seen q r low high) ∙ shows t)

pub loss_lasts : (p : LanePairs) (b t n : ℕ) (g : Gate) (c : ℕ) (list : List SeenSpan)
    → g ≡ gate.Loss c → IsShown list p.world g → AllKeep t n list → Lasts p b t n g
loss_lasts p b t n g c list is shown keep =
    let shows : IsShown list p.world (gate.Loss c) =
    subst (λ (h : Gate). IsShown list p.world h) is shown in
    let keeps : ScriptKeeps list t n = script_keeps list t n keep in
    subst (λ (h : Gate). Lasts p b t n h) (sym is)
    (λ r low high. sym (shows r) ∙ ap both (keeps.lost c r low high) ∙ shows t)

pub raw_lasts_of : (p : LanePairs) (b t n : ℕ) (g : Gate) (c : ℕ) → g ≡ gate.Raw c
    → RawLasts (p.keys (p.world.from c)) (p.world.delay c) b t n → Lasts p b t n g
raw_lasts_of p b t n g c is lasts = subst (λ (h : Gate). Lasts p b t n h) (sym is) lasts
