-- An interval history has exactly one list of key waves.
use Rattle.std.proofs.Common.{◌≡◌, ℕ, ◌<◌, false, List, Some, get_or, map, sym}
use Rattle.std.proofs.Common.{◌∙◌, ap, arith}
use Rattle.std.proofs.lemmas.Option.{get_or_from_slice_get, slice_get-get_or, slice_get-map}
use Rattle.std.proofs.lemmas.Option.{slice_get_within}
use Rattle.std.specs.Prelude.{slice_get, option_map}
use Rattle.model_history.specs.Rails.{Rails, IsSound, both}
use Rattle.run_signal.specs.Terns.{tern_rails, tern_with}
use Rattle.run_signal.specs.TernLaws.{tern_once, rails_told}
use Rattle.run_signal.specs.{declared.tern.Tern.Tern, declared.tern.Tern.TheVariants.Zero}
use Rattle.model_line.specs.{declared.line.Line.Line, declared.script.Script.Script}
use Rattle.model_line.specs.{Intervals.leasts, Parameters.terminal_count}
use Rattle.model_logic.specs.Choice.{declared_box, steady_choice}
use Rattle.model_logic.specs.Histories.{PairHistory, IsPairHistory}
use Rattle.run_waves.specs.waves.Waves.{IsWaveOf, wave_at}
use Rattle.judge_verdict.specs.verdict.Verdicts.{AreKeys}
use Rattle.cert_own.specs.Known.{Known}
use Rattle.cert_own.proofs.Lists.{one_each_once, one_each_exists, same_list}

-- ---- waves

-- the rails of a wave at a tick are those of its value there
wave_at-level : (wave : List Tern) (t : ℕ) (x : Tern) → slice_get wave t ≡ Some x
    → wave_at wave t ≡ tern_rails x
wave_at-level wave t x at =
    get_or_from_slice_get (map tern_rails wave) t (tern_rails x) (both false)
    (slice_get-map tern_rails wave t ∙ ap (option_map tern_rails) at)

wave_exists : (n : ℕ) (value : ℕ → Rails) → ((t : ℕ) → t < n → IsSound (value t))
    → (wave : List Tern) × IsWaveOf wave n value
wave_exists n value sound =
    let (wave, is) =
    one_each_exists (λ t x. tern_rails x ≡ value t) n
    (λ t lt. (tern_with (value t), rails_told (value t) (sound t lt))) in (
      wave,
      record {
        long = is.count;
        values = λ t lt.
            let count = is.count in
            let at = slice_get-get_or wave t Zero (omega arith) in
            wave_at-level wave t (get_or wave t Zero) at ∙ is.each t (get_or wave t Zero) at;
      },
    )

wave_once : (n : ℕ) (u v : ℕ → Rails) (a b : List Tern) → ((t : ℕ) → t < n → u t ≡ v t)
    → IsWaveOf a n u → IsWaveOf b n v → a ≡ b
wave_once n u v a b same p q =
    same_list a b (p.long ∙ sym q.long)
    (λ t x y at there.
    let inside = slice_get_within a t x at in
    let long = p.long in
    let lt : t < n = omega arith in
    tern_once x y
    (sym (wave_at-level a t x at) ∙ p.values t lt ∙ same t lt ∙ sym (q.values t lt)
    ∙ wave_at-level b t y there))

-- ---- keys

-- what must be keyed may be
key_sound : Known → (line : Line) (script : Script) (w : PairHistory)
    → IsPairHistory line script (declared_box line) w → (k t : ℕ) → k < terminal_count line
    → t < line.horizon → IsSound (w.key k t)
key_sound known line script w is_w k t there lt =
    (known.lines.sound line script (declared_box line)
    (steady_choice line (leasts line.params.items)) w (known.lines.inside.declared line)
    (known.lines.inside.inside line) is_w).keys k t there lt

pub keys_exist : Known → (line : Line) (script : Script) (w : PairHistory)
    → IsPairHistory line script (declared_box line) w → (keys : List (List Tern)) × AreKeys line w keys
keys_exist known line script w is_w =
    one_each_exists (λ k wave. IsWaveOf wave line.horizon (w.key k)) (terminal_count line)
    (λ k there.
    wave_exists line.horizon (w.key k) (λ t lt. key_sound known line script w is_w k t there lt))

pub keys_once : Known → (line : Line) (script : Script) (v w : PairHistory)
    (a b : List (List Tern)) → IsPairHistory line script (declared_box line) v
    → IsPairHistory line script (declared_box line) w → AreKeys line v a → AreKeys line w b → a ≡ b
keys_once known line script v w a b is_v is_w are_a are_b =
    let same =
    known.lines.interval_histories.only line script (declared_box line) v w (known.lines.inside.declared line) is_v
    is_w in
    one_each_once (λ k wave. IsWaveOf wave line.horizon (v.key k))
    (λ k wave. IsWaveOf wave line.horizon (w.key k)) (terminal_count line) a b
    (λ k x y there p q.
    wave_once line.horizon (v.key k) (w.key k) x y (λ t lt. same.keys k t there lt) p q)
    are_a are_b
