-- One margin at most, and one obligation that is lost; and it is an obligation of the scripts.
use Rattle.std.proofs.Common.{◌≡◌, ◌<◌, ℕ, List, Option, Some, None, length, refl}
use Rattle.std.proofs.Common.{◌∙◌, ap, subst, arith}
use Rattle.std.proofs.lemmas.Option.{slice_get_within}
use Rattle.std.specs.Prelude.{MatchOption, IfSome, slice_get}
use Rattle.model_history.specs.BelowLaws.{neither_below}
use Rattle.model_line.specs.{Parameters.terminal_count, declared.line.Line.Line}
use Rattle.model_line.specs.declared.script.Script.{Script}
use Rattle.model_logic.specs.Choice.{Box}
use Rattle.judge_report.specs.Lost.{IsFirstLost, IsFirstTerminal}
use Rattle.judge_report.specs.Margin.{HasNoMargin, IsLostAbove, IsLostAtLeast, IsMargin}
use Rattle.judge_report.specs.Margin.{IsUpperEnd}
use Rattle.judge_report.specs.{declared.upper_end.Lost.Lost, declared.upper_end.UpperEnd.UpperEnd}

lost_by : (a b : Lost) → a.script ≡ b.script → a.terminal ≡ b.terminal → a ≡ b
lost_by a b s k =
    let by_script : ℕ → Lost = λ n. record { script = n; terminal = a.terminal } in
    let by_terminal : ℕ → Lost = λ n. record { script = b.script; terminal = n } in
    ap by_script s ∙ ap by_terminal k

module _ (line : Line) (scripts : List Script) (box : Box) where
  -- a script of an earlier loss has no loss
  not_earlier : (a b : Lost) → IsFirstLost line scripts box a → IsFirstLost line scripts box b
      → a.script < b.script → ⊥
  not_earlier a b p q lt =
      p.terminal.lost
      ((q.before.held a.script p.script lt p.at).held a.terminal p.terminal.exists)

  terminal_once : (script : Script) (j k : ℕ) → IsFirstTerminal line script box j
      → IsFirstTerminal line script box k → j ≡ k
  terminal_once script j k p q =
      neither_below j k (λ lt. p.lost (q.before.held j lt)) (λ lt. q.lost (p.before.held k lt))

  same_script : (i j : ℕ) (x y : Script) → i ≡ j → slice_get scripts i ≡ Some x
      → slice_get scripts j ≡ Some y → y ≡ x
  same_script i j x y same p q =
      let there : slice_get scripts i ≡ Some y = ap (slice_get scripts) same ∙ q in cc

  lost_once : (a b : Lost) → IsFirstLost line scripts box a → IsFirstLost line scripts box b
      → a ≡ b
  lost_once a b p q =
      let scripts_same : a.script ≡ b.script =
      neither_below a.script b.script (not_earlier a b p q) (not_earlier b a q p) in
      let script_same : q.script ≡ p.script =
      same_script a.script b.script p.script q.script scripts_same p.at q.at in
      lost_by a b scripts_same
      (terminal_once p.script a.terminal b.terminal p.terminal
      (subst (λ (s : Script). IsFirstTerminal line s box b.terminal) script_same q.terminal))

module _ (line : Line) (scripts : List Script) (param : ℕ) where
  margin_once : (u v : ℕ) → IsMargin line scripts param u → IsMargin line scripts param v → u ≡ v
  margin_once u v p q =
      neither_below u v (λ lt. p.greatest v lt q.limit q.held)
      (λ lt. q.greatest u lt p.limit p.held)

  above_once : (v : ℕ) (a b : Option Lost) → IsLostAbove line scripts param v a
      → IsLostAbove line scripts param v b → a ≡ b
  above_once v None None p q = refl
  above_once v None (Some b) p q = absurd (let lt = q.0 in omega (arith, p))
  above_once v (Some a) None p q = absurd (let lt = p.0 in omega (arith, q))
  above_once v (Some a) (Some b) p q = ap Some (lost_once line scripts _ a b p.1 q.1)

  least_once : (a b : Option Lost) → IsLostAtLeast line scripts param a
      → IsLostAtLeast line scripts param b → a ≡ b
  least_once None b p q = absurd p
  least_once (Some a) None p q = absurd q
  least_once (Some a) (Some b) p q = ap Some (lost_once line scripts _ a b p q)

  ends_once : (g h : Option ℕ) (a b : Option Lost)
      → MatchOption g (HasNoMargin line scripts param × IsLostAtLeast line scripts param a)
      (λ v. IsMargin line scripts param v × IsLostAbove line scripts param v a)
      → MatchOption h (HasNoMargin line scripts param × IsLostAtLeast line scripts param b)
      (λ v. IsMargin line scripts param v × IsLostAbove line scripts param v b)
      → (g ≡ h) × (a ≡ b)
  ends_once None None a b p q = (refl, least_once a b p.1 q.1)
  ends_once None (Some v) a b p q = absurd (p.0.never v q.0.least q.0.limit q.0.held)
  ends_once (Some u) None a b p q = absurd (q.0.never u p.0.least p.0.limit p.0.held)
  ends_once (Some u) (Some v) a b p q =
      let same : u ≡ v = margin_once u v p.0 q.0 in (
        ap Some same,
        above_once v a b (subst (λ (n : ℕ). IsLostAbove line scripts param n a) same p.1) q.1,
      )

  pub one_margin : (a b : UpperEnd) → IsUpperEnd line scripts param a
      → IsUpperEnd line scripts param b → a ≡ b
  one_margin a b p q =
      let same = ends_once a.greatest b.greatest a.lost b.lost p q in
      let by_greatest : Option ℕ → UpperEnd = λ g. record { greatest = g; lost = a.lost } in
      let by_lost : Option Lost → UpperEnd = λ l. record { greatest = b.greatest; lost = l } in
      ap by_greatest same.0 ∙ ap by_lost same.1

  -- ---- what is lost is an obligation

  pub record IsObligation (lost : Lost) : Type 0 where
    pub script : lost.script < length scripts
    pub terminal : lost.terminal < terminal_count line

  first_exists : (box : Box) (lost : Lost) → IsFirstLost line scripts box lost → IsObligation lost
  first_exists box lost is = record {
    script = slice_get_within scripts lost.script is.script is.at;
    terminal = is.terminal.exists;
  }

  above_exists : (v : ℕ) (lost : Option Lost) → IsLostAbove line scripts param v lost
      → IfSome lost IsObligation
  above_exists v None is = tt
  above_exists v (Some l) is = first_exists _ l is.1

  least_exists : (lost : Option Lost) → IsLostAtLeast line scripts param lost
      → IfSome lost IsObligation
  least_exists None is = absurd is
  least_exists (Some l) is = first_exists _ l is

  end_exists : (greatest : Option ℕ) (lost : Option Lost)
      → MatchOption greatest
      (HasNoMargin line scripts param × IsLostAtLeast line scripts param lost)
      (λ v. IsMargin line scripts param v × IsLostAbove line scripts param v lost)
      → IfSome lost IsObligation
  end_exists None lost is = least_exists lost is.1
  end_exists (Some v) lost is = above_exists v lost is.1

  pub lost_exists : (end : UpperEnd) → IsUpperEnd line scripts param end
      → IfSome end.lost IsObligation
  lost_exists end is = end_exists end.greatest end.lost is

  pub script_exists : (lost : Option Lost) → IfSome lost IsObligation
      → IfSome lost (λ l. l.script < length scripts)
  script_exists None is = tt
  script_exists (Some l) is = is.script

  pub terminal_exists : (lost : Option Lost) → IfSome lost IsObligation
      → IfSome lost (λ l. l.terminal < terminal_count line)
  terminal_exists None is = tt
  terminal_exists (Some l) is = is.terminal
