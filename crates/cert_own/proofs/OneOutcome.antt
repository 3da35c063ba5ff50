-- What is searched of scripts is one list of results.
use Rattle.std.proofs.Common.{◌≡◌, ℕ, suc, List, [], ◌∷◌, Some, length, map, refl, sym, ◌∙◌, ap}
use Rattle.std.proofs.Common.{arith}
use Rattle.std.specs.Prelude.{slice_get}
use Rattle.model_line.specs.{declared.line.Line.Line, declared.script.Script.Script}
use Rattle.model_timing.specs.Timing.{TimingValues}
use Rattle.model_history.specs.ZipLaws.{zip_once}
use Rattle.judge_split.specs.declared.node.Outcome.{Outcome}
use Rattle.judge_split.specs.declared.node.Outcome.TheVariants as outcome
use Rattle.judge_split.specs.{Trees.preorder, Search.Tree, Search.Fails, Found.IsFound}
use Rattle.cert_split.specs.{text.Grammar.SplitResult, text.Grammar.tree, text.Grammar.fails}
use Rattle.cert_split.specs.{text.Piece.written_as}
use Rattle.cert_own.specs.{Known.LinesKnown, Searched.AreSearched, Searched.AllSearched}
use Rattle.cert_own.proofs.OneSearch.{search_once}

-- lists whose elements are, place by place, written the same are written the same
written_once : {A B : Type 0} (f : A → B) (P : ℕ → A → Type 0)
    → ((k : ℕ) (x y : A) → P k x → P k y → f x ≡ f y) → (xs ys : List A) → length xs ≡ length ys
    → ((k : ℕ) (x : A) → slice_get xs k ≡ Some x → P k x)
    → ((k : ℕ) (y : A) → slice_get ys k ≡ Some y → P k y) → map f xs ≡ map f ys
written_once f P once [] [] long p q = refl
written_once f P once [] (y ∷ ys) long p q = absurd (omega (arith, long))
written_once f P once (x ∷ xs) [] long p q = absurd (omega (arith, long))
written_once {A} {B} f P once (x ∷ xs) (y ∷ ys) long p q =
    ap (λ (b : B). b ∷ map f xs) (once 0 x y (p 0 x refl) (q 0 y refl))
    ∙ ap (λ (l : List B). f y ∷ l)
    (written_once f (λ k z. P (suc k) z) (λ k. once (suc k)) xs ys (omega (arith, long))
    (λ k z at. p (suc k) z at) (λ k z at. q (suc k) z at))

module _ (known : LinesKnown) (line : Line) (n : ℕ) where
  pub outcome_once : (script : Script) (k : ℕ) (a b : Outcome) → IsFound line script k n a
      → IsFound line script k n b → written_as a ≡ written_as b
  outcome_once script k (outcome.Tree xs) (outcome.Tree ys) p q =
      let same : Tree p.tree ≡ Tree q.tree =
      search_once known script k n line (Tree p.tree) (Tree q.tree) p.found q.found in
      let trees : p.tree ≡ q.tree = cc in
      ap tree (p.are ∙ ap preorder trees ∙ sym q.are)
  outcome_once script k (outcome.Tree xs) (outcome.Fails timing) p q =
      absurd (let same : Tree p.tree ≡ Fails timing =
      search_once known script k n line (Tree p.tree) (Fails timing) p.found q in cc)
  outcome_once script k (outcome.Fails timing) (outcome.Tree ys) p q =
      absurd (let same : Fails timing ≡ Tree q.tree =
      search_once known script k n line (Fails timing) (Tree q.tree) p q.found in cc)
  outcome_once script k (outcome.Fails timing) (outcome.Fails other) p q =
      let same : Fails timing ≡ Fails other =
      search_once known script k n line (Fails timing) (Fails other) p q in
      let timings : timing ≡ other = cc in
      ap (λ (t : TimingValues). fails t.values) timings

  results_once : (script : Script) (a b : List SplitResult) → AreSearched line n script a
      → AreSearched line n script b → a ≡ b
  results_once script a b p q =
      p.written
      ∙ written_once written_as (λ k found. IsFound line script k n found) (outcome_once script)
      p.searches q.searches (p.found.count ∙ sym q.found.count) p.found.each q.found.each
      ∙ sym q.written

  pub parts_once : (scripts : List Script) (a b : List (List SplitResult))
      → AllSearched line n scripts a → AllSearched line n scripts b → a ≡ b
  parts_once scripts a b p q =
      zip_once (λ _. Unit {0}) (AreSearched line n) (λ script x y any. results_once script x y)
      scripts a b (λ k d lt. tt) p q
