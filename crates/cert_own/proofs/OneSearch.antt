-- A search has one outcome.
use Rattle.std.proofs.Common.{◌≡◌, ◌+◌, ◌⊎◌, inl, inr, ⊎_elim, ℕ, zero, suc, refl, sym, ◌∙◌, ap}
use Rattle.std.proofs.Common.{subst, arith}
use Rattle.model_line.specs.{declared.line.Line.Line, declared.script.Script.Script}
use Rattle.model_line.specs.{SameLine.SameLine, Parameters.declared_ends, Parameters.declared_middle, WithBounds.IsWithBounds}
use Rattle.model_timing.specs.Timing.{TimingValues}
use Rattle.judge_verdict.specs.declared.verdict.verdict.Verdict.{Verdict}
use Rattle.judge_verdict.specs.declared.verdict.verdict.Verdict.TheVariants as verdict
use Rattle.judge_split.specs.Search.{Found, Tree, Fails, IsVerdictOf, IsSplitAt, IsLower, IsUpper}
use Rattle.judge_split.specs.Search.{IsSearch, yes, no, deepest, narrow, first_fails, second_fails}
use Rattle.judge_split.specs.Search.{split}
use Rattle.judge_split.specs.{Trees.SplitTree, Trees.Yes, Trees.Undecided, Trees.Split}
use Rattle.judge_split.specs.Widths.{IsNarrow}
use Rattle.cert_own.specs.Known.{LinesKnown}
use Rattle.cert_own.proofs.SameLines.{own_line, said_once, middle_same, widest_once}
use Rattle.cert_own.proofs.SameLines.{narrow_or_widest, widest_or_narrow, half_same}
use Rattle.cert_own.proofs.SameLines.{same_least}
use Rattle.cert_own.proofs.SameLines.{same_greatest}

-- ---- a search, by its first step

-- what is found of both halves: a timing of the lower, else one of the upper, else both trees
abbrev both : ℕ → ℕ → Found → Found → Found
both param mid (Fails timing) above = Fails timing
both param mid (Tree lower) (Fails timing) = Fails timing
both param mid (Tree lower) (Tree upper) = Tree (Split param mid lower upper)

-- the upper half is searched where the lower has a tree
abbrev IsAbove : Script → ℕ → ℕ → Line → ℕ → Found → Found → Type 0
IsAbove script k m line param (Fails timing) above = Unit {0}
IsAbove script k m line param (Tree lower) above =
    (second : Line) × (IsUpper line param second × IsSearch script k m second above)

record InHalves (script : Script) (k m : ℕ) (line : Line) (found : Found) : Type 0 where
  param : ℕ
  at : IsSplitAt line script k param
  first : Line
  is_lower : IsLower line param first
  below : Found
  searched : IsSearch script k m first below
  above : Found
  after : IsAbove script k m line param below above
  is : found ≡ both param (declared_middle line param) below above

-- where the lower half has a tree
above_tree : (script : Script) (k m : ℕ) (line : Line) (param : ℕ) (at : IsSplitAt line script k param)
    (first : Line) (is_lower : IsLower line param first) (lower : SplitTree)
    (searched : IsSearch script k m first (Tree lower)) (second : Line)
    (is_upper : IsUpper line param second) (above : Found) (after : IsSearch script k m second above)
    → InHalves script k m line (both param (declared_middle line param) (Tree lower) above)
above_tree script k m line param at first is_lower lower searched second is_upper above after =
    record {
      param = param;
      at = at;
      first = first;
      is_lower = is_lower;
      below = Tree lower;
      searched = searched;
      above = above;
      after = (second, (is_upper, after));
      is = refl;
    }

data First (script : Script) (k n : ℕ) (line : Line) (found : Found) : Type 0 where
  is_yes : IsVerdictOf line script k verdict.Yes → found ≡ Tree Yes → First script k n line found
  is_no : (timing : TimingValues) → IsVerdictOf line script k (verdict.No timing)
      → found ≡ Fails timing → First script k n line found
  is_leaf : IsVerdictOf line script k verdict.Undecided → (n ≡ 0) ⊎ IsNarrow line
      → found ≡ Tree Undecided → First script k n line found
  in_halves : (m : ℕ) → n ≡ suc m → InHalves script k m line found → First script k n line found

first_of : (script : Script) (k n : ℕ) (line : Line) (found : Found)
    → IsSearch script k n line found → First script k n line found
first_of script k _ _ _ (yes n line said) = is_yes said refl
first_of script k _ _ _ (no n line timing said) = is_no timing said refl
first_of script k _ _ _ (deepest line said) = is_leaf said (inl refl) refl
first_of script k _ _ _ (narrow n line said none) = is_leaf said (inr none) refl
first_of script k _ _ _ (first_fails n line param first timing at is_lower below) =
    in_halves n refl (record {
      param = param;
      at = at;
      first = first;
      is_lower = is_lower;
      below = Fails timing;
      searched = below;
      above = Fails timing;
      after = tt;
      is = refl;
    })
first_of script k _ _ _ (second_fails n line param first second lower timing at is_lower below
    is_upper above) =
    in_halves n refl
    (above_tree script k n line param at first is_lower lower below second is_upper (Fails timing) above)
first_of script k _ _ _ (split n line param first second lower upper at is_lower below is_upper
    above) =
    in_halves n refl
    (above_tree script k n line param at first is_lower lower below second is_upper (Tree upper) above)

-- ---- two searches

-- searches to this depth of lines that are the same find the same
abbrev Once : Script → ℕ → ℕ → Type 0
Once script k n =
    (old new : Line) → SameLine old new → (found other : Found) → IsSearch script k n old found
    → IsSearch script k n new other → found ≡ other

module _ (known : LinesKnown) (script : Script) (k : ℕ) (old new : Line)
    (same : SameLine old new) where
  said : (a b : Verdict) → IsVerdictOf old script k a → IsVerdictOf new script k b → a ≡ b
  said = said_once known old new same script k

  module _ (m : ℕ) (once : Once script k m) (found other : Found)
      (a : InHalves script k m old found) (b : InHalves script k m new other) where
    param_same : a.param ≡ b.param
    param_same = widest_once known old new same a.param b.param a.at.widest b.at.widest

    middles : declared_middle old a.param ≡ declared_middle new b.param
    middles =
        sym (middle_same known old new same a.param) ∙ ap (declared_middle new) param_same

    lowers : SameLine a.first b.first
    lowers =
        half_same known old new same a.param (declared_ends old a.param).least
        (declared_middle old a.param) a.first b.first a.is_lower
        (subst (λ (x : ℕ). IsWithBounds new a.param x (declared_middle old a.param) b.first)
        (same_least known old new same a.param)
        (subst (λ (x : ℕ). IsWithBounds new a.param (declared_ends new a.param).least x b.first)
        (middle_same known old new same a.param)
        (subst (λ (x : ℕ). IsLower new x b.first) (sym param_same) b.is_lower)))

    below_same : a.below ≡ b.below
    below_same = once a.first b.first lowers a.below b.below a.searched b.searched

    uppers : (first second : Line) → IsUpper old a.param first → IsUpper new b.param second
        → SameLine first second
    uppers first second p q =
        half_same known old new same a.param (declared_middle old a.param + 1)
        (declared_ends old a.param).greatest first second p
        (subst (λ (x : ℕ). IsWithBounds new a.param (declared_middle old a.param + 1) x second)
        (same_greatest known old new same a.param)
        (subst (λ (x : ℕ).
        IsWithBounds new a.param (x + 1) (declared_ends new a.param).greatest second)
        (middle_same known old new same a.param)
        (subst (λ (x : ℕ). IsUpper new x second) (sym param_same) q)))

    -- with the same found below, the same comes of both halves
    both_same : (x : Found) (above over : Found) → IsAbove script k m old a.param x above
        → IsAbove script k m new b.param x over
        → both a.param (declared_middle old a.param) x above ≡ both b.param (declared_middle new b.param) x over
    both_same (Fails timing) above over p q = refl
    both_same (Tree lower) above over p q =
        ap (λ (y : Found). both a.param (declared_middle old a.param) (Tree lower) y)
        (once p.0 q.0 (uppers p.0 q.0 p.1.0 q.1.0) above over p.1.1 q.1.1)
        ∙ ap (λ (x : ℕ). both x (declared_middle old a.param) (Tree lower) over) param_same
        ∙ ap (λ (x : ℕ). both b.param x (Tree lower) over) middles

    halves_once : found ≡ other
    halves_once =
        a.is
        ∙ ap (λ (x : Found). both a.param (declared_middle old a.param) x a.above) below_same
        ∙ both_same b.below a.above b.above
        (subst (λ (x : Found). IsAbove script k m old a.param x a.above) below_same a.after) b.after
        ∙ sym b.is

  -- a leaf is not split
  leaf_or_halves : (n m : ℕ) (other : Found) → (n ≡ 0) ⊎ IsNarrow old → n ≡ suc m
      → InHalves script k m new other → ⊥
  leaf_or_halves n m other stops more b =
      ⊎_elim (λ none. absurd (omega (arith, none, more)))
      (λ low. narrow_or_widest known old new same b.param low b.at.widest) stops

  halves_or_leaf : (n m : ℕ) (found : Found) → (n ≡ 0) ⊎ IsNarrow new → n ≡ suc m
      → InHalves script k m old found → ⊥
  halves_or_leaf n m found stops more a =
      ⊎_elim (λ none. absurd (omega (arith, none, more)))
      (λ low. widest_or_narrow known old new same a.param a.at.widest low) stops

  step : (n : ℕ) (found other : Found) → ((m : ℕ) → n ≡ suc m → Once script k m)
      → First script k n old found → First script k n new other → found ≡ other
  step n found other once (is_yes p e) (is_yes q f) = e ∙ sym f
  step n found other once (is_yes p e) (is_no timing q f) =
      absurd (let v = said verdict.Yes (verdict.No timing) p q in cc)
  step n found other once (is_yes p e) (is_leaf q stops f) =
      absurd (let v = said verdict.Yes verdict.Undecided p q in cc)
  step n found other once (is_yes p e) (in_halves m more b) =
      absurd (let v = said verdict.Yes verdict.Undecided p b.at.undecided in cc)
  step n found other once (is_no timing p e) (is_yes q f) =
      absurd (let v = said (verdict.No timing) verdict.Yes p q in cc)
  step n found other once (is_no timing p e) (is_no late q f) =
      let v : verdict.No timing ≡ verdict.No late =
      said (verdict.No timing) (verdict.No late) p q in
      let t : timing ≡ late = cc in
      e ∙ ap Fails t ∙ sym f
  step n found other once (is_no timing p e) (is_leaf q stops f) =
      absurd (let v = said (verdict.No timing) verdict.Undecided p q in cc)
  step n found other once (is_no timing p e) (in_halves m more b) =
      absurd (let v = said (verdict.No timing) verdict.Undecided p b.at.undecided in cc)
  step n found other once (is_leaf p stops e) (is_yes q f) =
      absurd (let v = said verdict.Undecided verdict.Yes p q in cc)
  step n found other once (is_leaf p stops e) (is_no timing q f) =
      absurd (let v = said verdict.Undecided (verdict.No timing) p q in cc)
  step n found other once (is_leaf p stops e) (is_leaf q late f) = e ∙ sym f
  step n found other once (is_leaf p stops e) (in_halves m more b) =
      absurd (leaf_or_halves n m other stops more b)
  step n found other once (in_halves m more a) (is_yes q f) =
      absurd (let v = said verdict.Undecided verdict.Yes a.at.undecided q in cc)
  step n found other once (in_halves m more a) (is_no timing q f) =
      absurd (let v = said verdict.Undecided (verdict.No timing) a.at.undecided q in cc)
  step n found other once (in_halves m more a) (is_leaf q stops f) =
      absurd (halves_or_leaf n m found stops more a)
  step n found other once (in_halves m more a) (in_halves l late b) =
      let even : l ≡ m = omega (arith, more, late) in
      halves_once m (once m more) found other a
      (subst (λ (x : ℕ). InHalves script k x new other) even b)

once : LinesKnown → (script : Script) (k n : ℕ) → Once script k n
once known script k zero old new same found other a b =
    step known script k old new same zero found other (λ m e. absurd (omega (arith, e)))
    (first_of script k zero old found a) (first_of script k zero new other b)
once known script k (suc n) old new same found other a b =
    step known script k old new same (suc n) found other
    (λ m e.
    let less : n ≡ m = omega (arith, e) in
    subst (Once script k) less (once known script k n))
    (first_of script k (suc n) old found a) (first_of script k (suc n) new other b)

pub search_once : LinesKnown → (script : Script) (k n : ℕ) (line : Line) (found other : Found)
    → IsSearch script k n line found → IsSearch script k n line other → found ≡ other
search_once known script k n line found other a b =
    once known script k n line line (own_line line) found other a b
