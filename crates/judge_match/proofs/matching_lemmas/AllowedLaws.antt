-- What a choice inside the declared intervals gives is allowed by what is derived.
use Rattle.std.proofs.Common.{◌≡◌, ◌<◌, ℕ, Bool, true, false, sym, ◌∙◌, subst, arith}
use Rattle.model_history.specs.Rails.{Rails, Covers, both}
use Rattle.model_line.specs.{declared.script.Script.Script, declared.line.Line.Line}
use Rattle.model_line.specs.Parameters.{terminal_count}
use Rattle.model_logic.specs.Choice.{Choice, IsInside, declared_box}
use Rattle.model_logic.specs.Histories.{History, IsLineHistory, IsSameHistory}
use Rattle.model_logic.specs.Logic.{key_tree, trip_tree}
use Rattle.model_logic.specs.{PairMean.pair_mean, Laws.LineLaws}
use Rattle.run_waves.specs.derived.Claims.{pairs_of, declared_world}
use Rattle.judge_match.specs.declared.matching.seen.Seen.{Seen}
use Rattle.judge_match.specs.{matching.Seen.AreSeen, matching.Seen.seen_history, matching.Clash.IsAllowed}

-- a known pair covers its value
known_covers : (x : Rails) (v w : Bool) → x ≡ both v → w ≡ v → Covers x w
known_covers x v w is same =
    subst (λ (b : Bool). Covers x b) (sym same)
    (subst (λ (r : Rails). Covers r v) (sym is) (record { must = λ on. on; may = λ on. on }))

module _ (laws : LineLaws) (line : Line) (script : Script) (seen : Seen) (choice : Choice)
    (h : History) (are : AreSeen line seen) (inside : IsInside line choice)
    (is_h : IsLineHistory line script choice h)
    (same : IsSameHistory line h (seen_history seen)) where
  keys_cover : (k t : ℕ) → k < terminal_count line → t < line.horizon
      → Covers (pairs_of seen.keys.items k t) (h.key k t)
  keys_cover k t kn lt =
      known_covers (pairs_of seen.keys.items k t) ((seen_history seen).key k t) (h.key k t)
      (are.known_keys k t kn lt) (same.keys k t kn lt)

  earlier : (t : ℕ) → t < line.horizon → (k r : ℕ) → k < terminal_count line → r < t
      → Covers (pairs_of seen.keys.items k r) (h.key k r)
  earlier t lt k r kn before = keys_cover k r kn (omega arith)

  pub allowed : (trip : Bool) (k t : ℕ) → k < terminal_count line → t < line.horizon
      → IsAllowed line script seen trip k t
  allowed false k t kn lt =
      subst (λ (v : Bool). Covers (pair_mean (declared_world line script)
      (pairs_of seen.keys.items) (key_tree line k) t) v)
      (sym (is_h.keys k t kn lt) ∙ same.keys k t kn lt)
      (laws.covering_keys line script (declared_box line) choice (pairs_of seen.keys.items) h.key
      t (laws.inside.declared line) inside (earlier t lt) (key_tree line k) lt
      (laws.trees.keys line k kn))
  allowed true k t kn lt =
      subst (λ (v : Bool). Covers (pair_mean (declared_world line script)
      (pairs_of seen.keys.items) (trip_tree line k) t) v)
      (sym (is_h.trips k t kn lt) ∙ same.trips k t kn lt)
      (laws.covering_keys line script (declared_box line) choice (pairs_of seen.keys.items) h.key
      t (laws.inside.declared line) inside (earlier t lt) (trip_tree line k) lt
      (laws.trees.trips line k kn))
