-- The ends over one obligation more, and over all.
use Rattle.std.proofs.Common.{◌≡◌, ◌≤◌, ◌<◌, ◌+◌, ℕ, Bool, true, false, List, Some, None, Option}
use Rattle.std.proofs.Common.{subst, sym, ◌∙◌, arith, length, cond, refl}
use Rattle.std.proofs.lemmas.Bool.{ltb-true, ltb-false}
use Rattle.std.proofs.lemmas.Option.{slice_get_within}
use Rattle.std.specs.Prelude.{nat_lt}
use Rattle.std.specs.List.{All}
use Rattle.model_history.specs.ListLaws.{exists_at}
use Rattle.model_line.specs.{declared.line.Line.Line, declared.script.Script.Script, Fits.Fits}
use Rattle.judge_report.specs.declared.upper_end.Lost.{Lost}
use Rattle.judge_margins.specs.{margins.Known.Known, declared.margins.end.Side.Side, declared.margins.end.End.End}
use Rattle.judge_margins.specs.{declared.margins.bracket.Bracket.Bracket, margins.Widened.room, margins.Widened.widened}
use Rattle.judge_margins.specs.declared.margins.group.Group.{Group}
use Rattle.judge_margins.specs.margins.Brackets.{IsBracket, AreNarrowed}
use Rattle.judge_margins.specs.margins.Ends.{AreKeptTo, IsLostBeyond, AreEnds, IsFound, AreFound}
use Rattle.judge_margins.specs.margins.Ends.{AreLimits, HaveRoom, limit_of}
use Rattle.judge_margins.specs.margins.Kept.{IsKept, AreKept, AreObligations}
use Rattle.judge_margins.specs.margins.Widened.{param_at, side_at}
use Rattle.judge_margins.proofs.margins_lemmas.KeptLaws.{IsStretch, are_kept_nearer, kept_both}

pub found_room : (line : Line) (scripts : List Script) (obligations : List Lost) (n : ℕ)
    (ends : List End) → AreFound line scripts obligations n ends → HaveRoom line ends
found_room line scripts obligations n ends are = record {
  count = are.count;
  each = λ place end at. (are.each place end at).within;
}

-- over no obligation each end is at its limit
limit_found : (line : Line) (scripts : List Script) (obligations : List Lost) (place : ℕ)
    → IsFound line scripts obligations 0 (param_at place) (side_at place) (limit_of line place)
limit_found line scripts obligations place = record {
  within = omega arith;
  kept = record { each = λ i o lt at. absurd (omega (arith, lt)) };
  lost = refl;
}

pub limits_found : (line : Line) (scripts : List Script) (obligations : List Lost)
    (ends : List End) → AreLimits line ends → AreFound line scripts obligations 0 ends
limits_found line scripts obligations ends are = record {
  count = are.count;
  each = λ place end at.
      subst (λ (e : End). IsFound line scripts obligations 0 (param_at place) (side_at place) e)
      (sym (are.each place end at)) (limit_found line scripts obligations place);
}

-- what is lost first of some is lost first of more
lost_still : (line : Line) (scripts : List Script) (obligations : List Lost) (n m param : ℕ)
    (side : Side) (v : ℕ) (lost : Option Lost)
    → IsLostBeyond line scripts obligations n param side v lost
    → IsLostBeyond line scripts obligations (n + m) param side v lost
lost_still line scripts obligations n m param side v None is = is
lost_still line scripts obligations n m param side v (Some o) is =
    let within = is.1.within in (
      is.0,
      record {
        place = is.1.place;
        within = omega (arith, within);
        at = is.1.at;
        lost = is.1.lost;
        before = is.1.before;
      },
    )

module _ (known : Known) (line : Line) (scripts : List Script) (fit : All (Fits line) scripts)
    (obligations : List Lost) (exist : AreObligations line scripts obligations) where
  -- beyond what is found nothing further is held
  lost_further : (n param : ℕ) (side : Side) (v u : ℕ) (lost : Option Lost)
      → IsLostBeyond line scripts obligations n param side v lost → v < u
      → u ≤ room line param side → AreKeptTo line scripts obligations n param side u → ⊥
  lost_further n param side v u None is above limit kept = omega (arith, is, above, limit)
  lost_further n param side v u (Some o) is above limit kept =
      is.1.lost ((are_kept_nearer known line scripts fit obligations exist n param side (v + 1) u
      (omega (arith, above)) limit kept).each is.1.place o is.1.within is.1.at)

  pub founds_are_ends : (n : ℕ) (ends : List End) → AreFound line scripts obligations n ends
      → AreEnds line scripts obligations n ends
  founds_are_ends n ends found = record {
    count = found.count;
    each = λ place end at.
        let is = found.each place end at in record {
          slack = record {
            within = is.within;
            kept = is.kept;
            furthest = λ u above limit kept.
                lost_further n (param_at place) (side_at place) end.slack u end.lost is.lost above
                limit kept;
          };
          lost = is.lost;
        };
  }

module _ (known : Known) (of : Group) (fit : All (Fits of.compiled.line.now) of.scripts.now)
    (obligations : List Lost) (exist : AreObligations of.compiled.line.now of.scripts.now
    obligations) where
  -- the end by its bracket over the obligations that follow
  found_more : (n param : ℕ) (side : Side) (old : End) (b : Bracket) (less : Bool)
      → IsStretch obligations n of.these.now
      → nat_lt b.near old.slack ≡ less → IsFound of.compiled.line.now of.scripts.now obligations n
      param side old
      → IsBracket of param side old.slack b → b.far ≤ b.near
      → IsFound of.compiled.line.now of.scripts.now obligations (n + length of.these.now) param side
      (cond less (record { slack = b.near; lost = b.lost }) old)
  found_more n param side old b true behind lt found is closed =
      let near : b.near < old.slack = ltb-true b.near old.slack lt in
      let ordered = is.ordered in let within = found.within in
      let same : b.far ≡ b.near = omega (arith, ordered, closed) in
      let lost = is.lost (omega (arith, near, same)) in
      let first = lost.lost in
      let inside = first.within in
      let one : b.far + 1 ≡ b.near + 1 = omega (arith, same) in record {
        within = omega (arith, near, within);
        kept = kept_both of.compiled.line.now of.scripts.now
            (widened of.compiled.line.now param side b.near) obligations n of.these.now
            (length of.these.now) behind (omega arith)
            (are_kept_nearer known of.compiled.line.now of.scripts.now fit obligations exist n param
            side b.near old.slack
            (omega (arith, near)) within found.kept) is.held;
        lost = subst (λ (l : Option Lost).
            IsLostBeyond of.compiled.line.now of.scripts.now obligations (n + length of.these.now)
            param side b.near l)
            (sym lost.is) (
              omega (arith, near, within),
              record {
                place = n + first.place;
                within = omega (arith, inside);
                at = behind.from first.place lost.first first.at;
                lost = subst (λ (m : ℕ). IsKept of.compiled.line.now of.scripts.now
                    (widened of.compiled.line.now param side m) lost.first → ⊥)
                    one first.lost;
                before = kept_both of.compiled.line.now of.scripts.now
                    (widened of.compiled.line.now param side (b.near + 1)) obligations n
                    of.these.now first.place behind (omega (arith, inside))
                    (are_kept_nearer known of.compiled.line.now of.scripts.now fit obligations exist
                    n param side
                    (b.near + 1) old.slack (omega (arith, near)) within found.kept)
                    (subst (λ (m : ℕ).
                    AreKept of.compiled.line.now of.scripts.now
                    (widened of.compiled.line.now param side m) of.these.now first.place) one
                    first.before);
              },
            );
      }
  found_more n param side old b false behind ge found is closed =
      let far : old.slack ≤ b.near = ltb-false b.near old.slack ge in
      let ordered = is.ordered in let within = is.within in
      let same : b.near ≡ old.slack = omega (arith, far, ordered, within) in record {
        within = found.within;
        kept = kept_both of.compiled.line.now of.scripts.now
            (widened of.compiled.line.now param side old.slack) obligations n of.these.now
            (length of.these.now) behind (omega arith) found.kept
            (subst (λ (m : ℕ).
            AreKept of.compiled.line.now of.scripts.now (widened of.compiled.line.now param side m)
            of.these.now (length of.these.now)) same
            is.held);
        lost = lost_still of.compiled.line.now of.scripts.now obligations n (length of.these.now)
            param side old.slack
            old.lost found.lost;
      }

  pub founds_more : (n next : ℕ) (before after : List End) → IsStretch obligations n of.these.now
      → n + length of.these.now ≡ next → AreFound of.compiled.line.now of.scripts.now obligations n
      before
      → AreNarrowed of before after → AreFound of.compiled.line.now of.scripts.now obligations next
      after
  founds_more n next before after behind ends found is = record {
    count = is.settle.count ∙ found.count;
    each = λ place new at_new.
        let inside : place < length after = slice_get_within after place new at_new in
        let a = is.settle.count in let d = is.are.count in
        let (old, at_old) = exists_at before place (omega (arith, inside, a)) in
        let (b, at_b) = exists_at is.brackets place (omega (arith, inside, a, d)) in
        let narrow = is.are.each place old b at_old at_b in
        let close = narrow.narrow in
        subst (λ (m : ℕ). IsFound of.compiled.line.now of.scripts.now obligations m (param_at place)
        (side_at place) new)
        ends
        (subst (λ (e : End).
        IsFound of.compiled.line.now of.scripts.now obligations (n + length of.these.now)
        (param_at place) (side_at place) e)
        (sym (is.settle.each place old new at_old at_new b at_b))
        (found_more n (param_at place) (side_at place) old b (nat_lt b.near old.slack) behind refl (found.each place old at_old) narrow.is (omega (arith, close))));
  }
