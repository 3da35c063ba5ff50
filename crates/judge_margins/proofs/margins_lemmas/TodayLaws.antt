-- The obligations that are held today, one more.
use Rattle.std.proofs.Common.{◌≡◌, ◌≤◌, ◌<◌, ◌+◌, ℕ, zero, suc, List, [], ◌∷◌, ◌++◌, Some, length}
use Rattle.std.proofs.Common.{subst, sym, ap, ◌∙◌, ⊎_elim, inl, inr, arith, refl}
use Rattle.std.proofs.lemmas.Bool.{cases_lt}
use Rattle.std.proofs.lemmas.Option.{slice_get_within}
use Rattle.std.specs.Prelude.{slice_get, ◌⊎◌}
use Rattle.model_history.specs.ListLaws.{at_push}
use Rattle.model_line.specs.Parameters.{terminal_count}
use Rattle.model_line.specs.{declared.line.Line.Line, declared.script.Script.Script}
use Rattle.model_logic.specs.{Choice.declared_box, HeldOver.IsHeldOver}
use Rattle.judge_report.specs.declared.upper_end.Lost.{Lost}
use Rattle.judge_margins.specs.margins.Kept.{AreKept, AreObligations}
use Rattle.judge_margins.specs.margins.Today.{IsBefore, IsPicked, ArePicked, is_held}

-- an element of the front, and the last one
front_at : {X : Type 0} (xs : List X) (x y : X) (i : ℕ) → slice_get xs i ≡ Some y
    → slice_get (xs ++ x ∷ []) i ≡ Some y
front_at [] x y i e = absurd (cc)
front_at (z ∷ xs) x y zero e = e
front_at (z ∷ xs) x y (suc i) e = front_at xs x y i e

last_at : {X : Type 0} (xs : List X) (x : X) → slice_get (xs ++ x ∷ []) (length xs) ≡ Some x
last_at [] x = refl
last_at (z ∷ xs) x = last_at xs x

module _ (line : Line) (scripts : List Script) (so : Script → ℕ → Type 0) where
  moved : (s k u m : ℕ) (o : Lost) → IsPicked line scripts so s k o → IsBefore o u m
      → IsPicked line scripts so u m o
  moved s k u m o is before = record {
    script = is.script;
    at = is.at;
    terminal = is.terminal;
    is = is.is;
    before = before;
  }

  later : (s k : ℕ) (o : Lost) → IsBefore o s k → IsBefore o s (k + 1)
  later s k o before =
      ⊎_elim (λ lt. inl lt) (λ same. inr (same.0, omega (arith, same.1))) before

  -- before the next one it stands before this one, or is this one
  split : (s k : ℕ) (o : Lost) → IsBefore o s (k + 1)
      → IsBefore o s k ⊎ ((o.script ≡ s) × (o.terminal ≡ k))
  split s k o before =
      ⊎_elim (λ lt. inl (inl lt))
      (λ same.
      ⊎_elim (λ lt. inl (inr (same.0, lt)))
      (λ ge. inr (same.0, omega (arith, ge, same.1))) (cases_lt o.terminal k))
      before

  pub pick_more : (s k : ℕ) (script : Script) (those new : List Lost)
      → slice_get scripts s ≡ Some script → k < terminal_count line → so script k
      → new ≡ those ++ record { script = s; terminal = k } ∷ []
      → ArePicked line scripts so s k those → ArePicked line scripts so s (k + 1) new
  pick_more s k script those new at kn is push are =
      let this : Lost = record { script = s; terminal = k } in record {
        each = λ i o there.
            ⊎_elim (λ early.
            let old = are.each i o early in moved s k s (k + 1) o old (later s k o old.before))
            (λ last.
            subst (λ (x : Lost). IsPicked line scripts so s (k + 1) x) (sym last.1)
            (record {
              script = script;
              at = at;
              terminal = kn;
              is = is;
              before = inr (refl, omega arith);
            }))
            (at_push those this o i
            (subst (λ (l : List Lost). slice_get l i ≡ Some o) push there));
        all = λ o picked.
            ⊎_elim (λ early.
            let (i, there) = are.all o (moved s (k + 1) s k o picked early) in (
              i,
              subst (λ (l : List Lost). slice_get l i ≡ Some o) (sym push)
                  (front_at those this o i there),
            ))
            (λ last.
            let same : this ≡ o =
            ap (λ (n : ℕ). record { script = n; terminal = k }) (sym last.0)
            ∙ ap (λ (n : ℕ). record { script = o.script; terminal = n }) (sym last.1) in (
              length those,
              subst (λ (l : List Lost). slice_get l (length those) ≡ Some o) (sym push)
                  (subst (λ (x : Lost). slice_get (those ++ this ∷ []) (length those) ≡ Some x) same
                  (last_at those this)),
            ))
            (split s k o picked.before);
        ordered = λ i j a b lt at_i at_j.
            let in_i = at_push those this a i
            (subst (λ (l : List Lost). slice_get l i ≡ Some a) push at_i) in
            let in_j = at_push those this b j
            (subst (λ (l : List Lost). slice_get l j ≡ Some b) push at_j) in
            ⊎_elim (λ early_j.
            ⊎_elim (λ early_i. are.ordered i j a b lt early_i early_j)
            (λ last_i.
            let inside : j < length those = slice_get_within those j b early_j in
            absurd (omega (arith, lt, inside, last_i.0))) in_i)
            (λ last_j.
            ⊎_elim (λ early_i.
            subst (λ (x : Lost). IsBefore a x.script x.terminal) (sym last_j.1)
            (are.each i a early_i).before)
            (λ last_i. absurd (omega (arith, lt, last_i.0, last_j.0))) in_i)
            in_j;
      }

  pub skip_one : (s k : ℕ) (script : Script) (those : List Lost)
      → slice_get scripts s ≡ Some script → (so script k → ⊥)
      → ArePicked line scripts so s k those → ArePicked line scripts so s (k + 1) those
  skip_one s k script those at is_not are = record {
    each = λ i o there.
        let old = are.each i o there in moved s k s (k + 1) o old (later s k o old.before);
    all = λ o picked.
        ⊎_elim (λ early. are.all o (moved s (k + 1) s k o picked early))
        (λ last.
        let at_s : slice_get scripts s ≡ Some picked.script =
        subst (λ (n : ℕ). slice_get scripts n ≡ Some picked.script) last.0 picked.at in
        let same : picked.script ≡ script = cc in
        absurd (is_not (subst (λ (x : Script). so x k) same
        (subst (λ (n : ℕ). so picked.script n) last.1 picked.is))))
        (split s k o picked.before);
    ordered = are.ordered;
  }

  pub next_script : (s n : ℕ) (those : List Lost) → terminal_count line ≤ n
      → ArePicked line scripts so s n those → ArePicked line scripts so (s + 1) 0 those
  next_script s n those full are = record {
    each = λ i o there.
        let old = are.each i o there in
        moved s n (s + 1) 0 o old
        (⊎_elim (λ lt. inl (omega (arith, lt))) (λ same. inl (omega (arith, same.0))) old.before);
    all = λ o picked.
        let kn = picked.terminal in
        are.all o (moved (s + 1) 0 s n o picked
        (⊎_elim (λ lt.
        ⊎_elim (λ less. inl less)
        (λ ge. inr (omega (arith, lt, ge), omega (arith, kn, full))) (cases_lt o.script s))
        (λ same. absurd (omega (arith, same.1))) picked.before));
    ordered = are.ordered;
  }

  pub none_yet : ArePicked line scripts so 0 0 []
  none_yet = record {
    each = λ i o there. absurd (cc);
    all = λ o picked.
        ⊎_elim (λ lt. absurd (omega (arith, lt))) (λ same. absurd (omega (arith, same.1)))
        picked.before;
    ordered = λ i j a b lt at_i at_j. absurd (cc);
  }

pub picked_exist : (line : Line) (scripts : List Script) (s k : ℕ) (those : List Lost)
    → ArePicked line scripts (is_held line) s k those → AreObligations line scripts those
picked_exist line scripts s k those are i o there =
    let is = are.each i o there in
    record { script = slice_get_within scripts o.script is.script is.at; terminal = is.terminal }

pub picked_kept : (line : Line) (scripts : List Script) (s k n : ℕ) (those : List Lost)
    → ArePicked line scripts (is_held line) s k those
    → AreKept line scripts (declared_box line) those n
picked_kept line scripts s k n those are = record {
  each = λ i o lt there.
      let is = are.each i o there in record {
        held = λ script at.
            let picked_at = is.at in
            let same : is.script ≡ script = cc in
            subst (λ (x : Script). IsHeldOver line x o.terminal (declared_box line)) same is.is;
      };
}
