-- What waves tell is an interval history.
use Rattle.std.proofs.Common.{◌≡◌, ◌<◌, ℕ, List, [], Some, length, map, get_or, sym, ◌∙◌, ap}
use Rattle.std.proofs.Common.{arith}
use Rattle.std.proofs.lemmas.Option.{slice_get-map, slice_get_read, get_or_from_slice_get}
use Rattle.std.specs.Prelude.{slice_get, option_map}
use Rattle.model_history.specs.Rails.{Rails, rails_at}
use Rattle.run_signal.specs.{declared.tern.Tern.Tern, Terns.tern_rails}
use Rattle.model_line.specs.{declared.line.Line.Line, declared.script.Script.Script}
use Rattle.model_line.specs.Parameters.{terminal_count}
use Rattle.model_logic.specs.Histories.{PairHistory, IsPairHistory, IsSamePairHistory}
use Rattle.model_logic.specs.Choice.{Box, LeastFromOne}
use Rattle.model_logic.specs.Logic.{key_tree, trip_tree}
use Rattle.model_logic.specs.Laws.{TreesNameTheLine, ValuesRestOnEarlierKeys}
use Rattle.model_logic.specs.PairMean.{PairSignals}
use Rattle.run_waves.specs.waves.Waves.{AreWaves, IsWaveOf}
use Rattle.model_history.specs.ListLaws.{exists_at}
use Rattle.judge_verdict.specs.verdict.PairWavesOf.{pairs_of, told_by, AreWavesOf, pair_at}
use Rattle.judge_verdict.specs.verdict.PairWavesOf.{pair_history}

-- the pairs of a terminal's wave
pub wave_pairs : (waves : List (List Tern)) (k : ℕ) (wave : List Tern)
    → slice_get waves k ≡ Some wave → map tern_rails wave ≡ get_or (pairs_of waves) k []
wave_pairs waves k wave at =
    sym (get_or_from_slice_get (pairs_of waves) k (map tern_rails wave) []
    (slice_get-map (λ (w : List Tern). map tern_rails w) waves k
    ∙ ap (option_map (λ (w : List Tern). map tern_rails w)) at))

-- the wave that is read at a place of them is one of the pairs there
pub wave_read : (n horizon : ℕ) (waves : List (List Tern)) → AreWaves n horizon waves → (k : ℕ)
    (wave : List Tern) → k < n → wave ≡ get_or waves k wave
    → IsWaveOf wave horizon (pair_at (pairs_of waves) k)
wave_read n horizon waves are k wave kn read =
    let at : slice_get waves k ≡ Some wave = slice_get_read waves n k wave (sym are.many) kn read in
    record {
      long = ap length (sym (get_or_from_slice_get waves k wave [] at)) ∙ are.long k kn;
      values = λ t early.
          ap (λ (rails : List Rails). rails_at rails t) (wave_pairs waves k wave at);
    }

-- waves that have these pairs tell them
pub pair_told : (n horizon : ℕ) (pairs : PairSignals) (waves : List (List Tern))
    → AreWavesOf n horizon pairs waves → (k t : ℕ) → k < n → t < horizon
    → pair_at (pairs_of waves) k t ≡ pairs k t
pair_told n horizon pairs waves are k t kn early =
    let (wave, at) = exists_at waves k (omega (arith, are.count)) in
    ap (λ (rails : List Rails). rails_at rails t) (sym (wave_pairs waves k wave at))
    ∙ (are.each k wave at).values t early

-- they reach to the horizon
pub are_long : (n m horizon : ℕ) (pairs : PairSignals) (waves : List (List Tern)) → m ≡ n
    → AreWavesOf m horizon pairs waves → AreWaves n horizon waves
are_long n m horizon pairs waves same are = record {
  many = are.count ∙ same;
  long = λ k kn.
      let (wave, at) = exists_at waves k (omega (arith, are.count, same, kn)) in
      ap length (get_or_from_slice_get waves k wave [] at) ∙ (are.each k wave at).long;
}

module _ (trees : TreesNameTheLine) (values : ValuesRestOnEarlierKeys) where
  -- an interval history that is the same at every terminal and tick of the line is one too
  pub same_history : (line : Line) (script : Script) (box : Box) → LeastFromOne line box
      → (v w : PairHistory) → IsSamePairHistory line v w → IsPairHistory line script box w
      → IsPairHistory line script box v
  same_history line script box d v w same is_w = record {
    keys = λ k t kn lt.
        same.keys k t kn lt
        ∙ is_w.keys k t kn lt
        ∙ sym (values.pair line script box v.key w.key (key_tree line k) t d lt
        (trees.keys line k kn) (λ j r jn before. same.keys j r jn (omega arith)));
    trips = λ k t kn lt.
        same.trips k t kn lt
        ∙ is_w.trips k t kn lt
        ∙ sym (values.pair line script box v.key w.key (trip_tree line k) t d lt
        (trees.trips line k kn) (λ j r jn before. same.keys j r jn (omega arith)));
  }

  -- an interval history that waves of the line's terminals and ticks have is what they tell
  pub told_history : (line : Line) (script : Script) (box : Box) → LeastFromOne line box
      → (w : PairHistory) (keys trips : List (List Tern))
      → AreWavesOf (terminal_count line) line.horizon w.key keys
      → AreWavesOf (terminal_count line) line.horizon w.trip trips → IsPairHistory line script box w
      → IsPairHistory line script box (pair_history (told_by line.horizon keys trips))
  told_history line script box d w keys trips are_keys are_trips is_w =
      same_history line script box d (pair_history (told_by line.horizon keys trips)) w
      (record {
        keys = λ k t kn lt.
            pair_told (terminal_count line) line.horizon w.key keys are_keys k t kn lt;
        trips = λ k t kn lt.
            pair_told (terminal_count line) line.horizon w.trip trips are_trips k t kn lt;
      }) is_w
