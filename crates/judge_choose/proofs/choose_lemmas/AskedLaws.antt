-- What is asked about candidates, and what is told of it.
use Rattle.std.proofs.Common.{◌≡◌, ◌≤◌, ◌<◌, ◌+◌, ◌-◌, ◌*◌, ◌/◌, ◌%◌, ℕ, zero, suc, Bool, true, false, cond, List, [], ◌∷◌, Some}
use Rattle.std.proofs.Common.{length, sym, ◌∙◌, ap, subst, refl, arith}
use Rattle.std.proofs.Math.Nat.{min-eq_left, min-le_right}
use Rattle.std.proofs.lemmas.Option.{slice_get_within}
use Rattle.std.specs.Prelude.{slice_get, min, ◌==◌}
use Rattle.model_history.specs.ListLaws.{exists_at}
use Rattle.model_line.specs.{declared.line.Line.Line, declared.script.Script.Script}
use Rattle.model_logic.specs.Choice.{Box}
use Rattle.judge_choose.specs.{declared.cover.Cover.Cover, declared.setting.Setting.Setting}
use Rattle.judge_choose.specs.{Told.AreCovers, Told.AreTold, Told.cover_in}
use Rattle.judge_choose.specs.Asked.{AreAsked, IsAsked, asked_position}
use Rattle.judge_choose.specs.Lanes.{TellOf, TellsOver}
use Rattle.judge_choose.specs.Positions.{IsCover, IsSetting, box_of_cover, cover_box}

either : (a b : Bool) (x y z m : ℕ) → x ≤ m → y ≤ m → z ≤ m → cond a x (cond b y z) ≤ m
either true b x y z m p q r = p
either false true x y z m p q r = q
either false false x y z m p q r = r

-- no position that is asked about is past the last one
position_within : (line : Line) (candidate : Cover) (role : ℕ) → IsCover line candidate
    → asked_position candidate role ≤ candidate.setting.now.last
position_within line candidate role is =
    let setting = candidate.setting.now in
    let ordered = is.ordered in let within = is.within in
    either (role == 1) (role == 2) (candidate.first - 1) (min (candidate.last + 1) setting.last)
    setting.declared setting.last (omega (arith, ordered, within))
    (min-le_right (candidate.last + 1) setting.last) is.setting.declared

of_role : (whole : Bool) (first last at m : ℕ) → first ≤ last → last ≤ m → at ≤ m
    → (cond whole first at ≤ cond whole last at) × (cond whole last at ≤ m)
of_role true first last at m p q r = (p, q)
of_role false first last at m p q r = (omega arith, r)

asked_cover : (line : Line) (candidate cover : Cover) (role : ℕ) → IsCover line candidate
    → IsAsked candidate role cover → IsCover line cover
asked_cover line candidate cover role is asked =
    let at = asked_position candidate role in
    let both = of_role (role == 0) candidate.first candidate.last at candidate.setting.now.last
    is.ordered is.within (position_within line candidate role is) in record {
      setting = subst (IsSetting line) (sym asked.setting) is.setting;
      ordered = subst (λ (n : ℕ). n ≤ cover.last) (sym asked.first)
          (subst (λ (n : ℕ). cond (role == 0) candidate.first at ≤ n) (sym asked.last) both.0);
      within = subst (λ (s : Setting). cover.last ≤ s.last) (sym asked.setting)
          (subst (λ (n : ℕ). n ≤ candidate.setting.now.last) (sym asked.last) both.1);
    }

pub asked_covers : (line : Line) (candidates asked : List Cover) → AreCovers line candidates
    → AreAsked candidates asked → AreCovers line asked
asked_covers line candidates asked are of lane cover at =
    let short = slice_get_within asked lane cover at in
    let count = of.count in
    let (candidate, here) = exists_at candidates (lane / 4) (omega (arith, short, count)) in
    asked_cover line candidate cover (lane % 4) (are (lane / 4) candidate here)
    (of.each lane cover at candidate here)

-- one cover is a list of covers
pub alone : (line : Line) (cover : Cover) → IsCover line cover → AreCovers line (cover ∷ [])
alone line cover is zero other at =
    let same : cover ≡ other = cc in subst (IsCover line) same is
alone line cover is (suc j) other at = absurd (cc)

-- the declared position is one
pub declared_is : (line : Line) (setting : Setting) (cover : Cover) → IsSetting line setting
    → cover.setting.now ≡ setting → cover.first ≡ setting.declared → cover.last ≡ setting.declared
    → IsCover line cover
declared_is line setting cover is same first last = record {
  setting = subst (IsSetting line) (sym same) is;
  ordered = omega (arith, first, last);
  within = subst (λ (s : Setting). cover.last ≤ s.last) (sym same)
      (subst (λ (n : ℕ). n ≤ setting.last) (sym last) is.declared);
}

-- a lane tells of its cover
lane_tells : (line : Line) (scripts : List Script) (covers : List Cover) (told : List ℕ)
    (lane : ℕ) (cover : Cover) → AreTold line scripts covers told → lane < 64
    → slice_get covers lane ≡ Some cover
    → TellsOver line scripts told lane (box_of_cover line cover)
lane_tells line scripts covers told lane cover are inside at =
    let short = slice_get_within covers lane cover at in
    let own : cover_in (length covers) lane ≡ lane = min-eq_left (omega (arith, short)) in
    record {
      count = are.count;
      each = λ place bits here.
          are.each place bits here lane cover inside
          (subst (λ (n : ℕ). slice_get covers n ≡ Some cover) (sym own) at);
    }

pub same_box : (line : Line) (cover : Cover) (setting : Setting) (first last : ℕ)
    → cover.setting.now ≡ setting → cover.first ≡ first → cover.last ≡ last
    → box_of_cover line cover ≡ cover_box line setting first last
same_box line cover setting first last by_setting by_first by_last =
    ap (λ (s : Setting). cover_box line s cover.first cover.last) by_setting
    ∙ ap (λ (n : ℕ). cover_box line setting n cover.last) by_first
    ∙ ap (λ (n : ℕ). cover_box line setting first n) by_last

module _ (line : Line) (scripts : List Script) (candidates asked : List Cover) (told : List ℕ)
    (of : AreAsked candidates asked) (are : AreTold line scripts asked told)
    (few : length candidates ≤ 16) (i : ℕ) (candidate : Cover)
    (here : slice_get candidates i ≡ Some candidate) where
  in_role : (role : ℕ) → role < 4
      → (cover : Cover) × (IsAsked candidate role cover)
      × (TellsOver line scripts told (4 * i + role) (box_of_cover line cover))
  in_role role small =
      let short : i < length candidates = slice_get_within candidates i candidate here in
      let count = of.count in
      let lane : ℕ = 4 * i + role in
      let by_candidate : lane / 4 ≡ i = omega (arith, small) in
      let by_role : lane % 4 ≡ role = omega (arith, small) in
      let (cover, at) = exists_at asked lane (omega (arith, small, short, count)) in (
        cover,
        subst (λ (r : ℕ). IsAsked candidate r cover) by_role
            (of.each lane cover at candidate
            (subst (λ (n : ℕ). slice_get candidates n ≡ Some candidate) (sym by_candidate) here)),
        lane_tells line scripts asked told lane cover are (omega (arith, small, short, few)) at,
      )

  tells_in : (role first last : ℕ) → role < 4
      → (cond (role == 0) candidate.first (asked_position candidate role)) ≡ first
      → (cond (role == 0) candidate.last (asked_position candidate role)) ≡ last
      → TellsOver line scripts told (4 * i + role)
      (cover_box line candidate.setting.now first last)
  tells_in role first last small by_first by_last =
      let (cover, asked, tells) = in_role role small in
      subst (λ (box : Box). TellsOver line scripts told (4 * i + role) box)
      (same_box line cover candidate.setting.now first last asked.setting (asked.first ∙ by_first)
      (asked.last ∙ by_last)) tells

  -- the four lanes of a candidate tell of it
  pub tell_of : TellOf line scripts candidate told (4 * i)
  tell_of =
      let none : 4 * i + 0 ≡ 4 * i = omega arith in
      let setting = candidate.setting.now in
      let above = min (candidate.last + 1) setting.last in
      record {
        whole = subst (λ (lane : ℕ). TellsOver line scripts told lane
            (cover_box line setting candidate.first candidate.last)) none
            (tells_in 0 candidate.first candidate.last (omega arith) refl refl);
        below = tells_in 1 (candidate.first - 1) (candidate.first - 1) (omega arith) refl refl;
        above = tells_in 2 above above (omega arith) refl refl;
        declared = tells_in 3 setting.declared setting.declared (omega arith) refl refl;
      }
