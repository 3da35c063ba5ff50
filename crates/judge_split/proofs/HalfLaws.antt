-- Halves of a part of a box, and what can be split in it.
use Rattle.std.proofs.Common.{◌<◌, ◌≤◌, ◌+◌, ℕ, refl, sym, ◌∙◌, subst, arith}
use Rattle.std.specs.Prelude.{◌↔◌, IsTrue}
use Rattle.model_line.specs.Parameters.{param_count, is_delay, declared_ends}
use Rattle.model_line.specs.{declared.line.Line.Line, declared.script.Script.Script}
use Rattle.model_line.specs.{SetBounds.SameButParams, WithBounds.IsWithBounds}
use Rattle.model_line.specs.SameLineLaws.{exchanged, on_from}
use Rattle.model_logic.specs.Choice.{Box, declared_box}
use Rattle.model_logic.specs.Boxes.{CanSplit, IsSameBox, box_with, lower_half, upper_half}
use Rattle.model_logic.specs.HeldOver.{IsHeldOver}
use Rattle.model_logic.specs.BoxLaws.{turned}
use Rattle.judge_split.specs.Known.{Known}
use Rattle.judge_split.specs.Parts.{IsPart}
use Rattle.judge_split.proofs.SoundLaws.{same_lower, same_upper, can_split_same, can_split_kept}

-- ---- the declared box, number by number

pub can_split_when : (line : Line) (param mid : ℕ) → CanSplit line (declared_box line) param mid
    → ((declared_ends line param).least ≤ mid) × (mid < (declared_ends line param).greatest)
unfolding declared_box
can_split_when line param mid can = (can.above, can.below)

pub splits_when : (line : Line) (param mid : ℕ) → param < param_count line
    → ¬ (IsTrue (is_delay line param)) → (declared_ends line param).least ≤ mid
    → mid < (declared_ends line param).greatest → CanSplit line (declared_box line) param mid
unfolding declared_box
splits_when line param mid here number above below = record {
  exists = here;
  number = number;
  above = above;
  below = below;
}

module _ (known : Known) where
  pub mid_small : (line : Line) (param mid : ℕ) → CanSplit line (declared_box line) param mid
      → mid < 4000
  mid_small line param mid can =
      omega (arith, (can_split_when line param mid can).1, known.intervals.within line param can.exists)

  -- ---- boxes that are the same, of lines that are the same but for their intervals

  same_on : (line part : Line) (a b : Box) → SameButParams line part → IsSameBox part a b
      → IsSameBox line a b
  same_on line part a b rest same = record {
    numbers = λ i lt. same.numbers i (subst (λ (n : ℕ). i < n)
        (sym (known.counts.params line part rest)) lt);
    delays = λ c t lt early. same.delays c t
        (subst (λ (n : ℕ). c < n) (sym (known.counts.channels line part rest)) lt)
        (subst (λ (n : ℕ). t < n) (sym rest.horizon) early);
  }

  same_then : (line : Line) (a b c : Box) → IsSameBox line a b → IsSameBox line b c
      → IsSameBox line a c
  same_then line a b c x y = record {
    numbers = λ i lt. x.numbers i lt ∙ y.numbers i lt;
    delays = λ d t lt early. x.delays d t lt early ∙ y.delays d t lt early;
  }

  -- ---- halves

  -- the declared box of a part with another interval for a number
  changed : (part half : Line) (param mid least greatest : ℕ)
      → CanSplit part (declared_box part) param mid
      → IsWithBounds part param least greatest half
      → IsSameBox part (declared_box half)
      (box_with (declared_box part) param (record { least = least; greatest = greatest }))
  changed part half param mid least greatest can is =
      known.changed.number part half param least greatest can.exists can.number is

  pub lower_of : (line part half : Line) (box : Box) (param mid : ℕ)
      → CanSplit part (declared_box part) param mid
      → IsWithBounds part param (declared_ends part param).least mid half → IsPart line box part
      → IsPart line (lower_half box param mid) half
  unfolding declared_box
  lower_of line part half box param mid can is p =
      let here : param < param_count line =
      subst (λ (n : ℕ). param < n) (known.counts.params line part p.rest) can.exists in
      record {
        rest = on_from line part half p.rest is.rest;
        intervals = same_then line (declared_box half) (lower_half (declared_box part) param mid)
            (lower_half box param mid)
            (same_on line part _ _ p.rest
            (changed part half param mid (declared_ends part param).least mid can is))
            (same_lower line (declared_box part) box param mid here p.intervals);
      }

  pub upper_of : (line part half : Line) (box : Box) (param mid : ℕ)
      → CanSplit part (declared_box part) param mid
      → IsWithBounds part param (mid + 1) (declared_ends part param).greatest half
      → IsPart line box part → IsPart line (upper_half box param mid) half
  unfolding declared_box
  upper_of line part half box param mid can is p =
      let here : param < param_count line =
      subst (λ (n : ℕ). param < n) (known.counts.params line part p.rest) can.exists in
      record {
        rest = on_from line part half p.rest is.rest;
        intervals = same_then line (declared_box half) (upper_half (declared_box part) param mid)
            (upper_half box param mid)
            (same_on line part _ _ p.rest
            (changed part half param mid (mid + 1) (declared_ends part param).greatest can is))
            (same_upper line (declared_box part) box param mid here p.intervals);
      }

  -- ---- a part and its box

  pub own_part : (line part : Line) → SameButParams line part → IsPart line (declared_box part) part
  own_part line part rest = record {
    rest = rest;
    intervals = record { numbers = λ i lt. refl; delays = λ c t lt early. refl };
  }

  pub split_part : (line part : Line) (box : Box) (param mid : ℕ) → IsPart line box part
      → CanSplit part (declared_box part) param mid ↔ CanSplit line box param mid
  split_part line part box param mid p = (
    λ can. can_split_same line (declared_box part) box param mid p.intervals
        (can_split_kept known part line (exchanged line part p.rest) (declared_box part) param mid can),
    λ can. can_split_kept known line part p.rest (declared_box part) param mid
        (can_split_same line box (declared_box part) param mid
        (turned line (declared_box part) box p.intervals) can),
  )

  pub held_part : (line part : Line) (box : Box) (script : Script) (k : ℕ) → IsPart line box part
      → IsHeldOver part script k (declared_box part) ↔ IsHeldOver line script k box
  held_part line part box script k p = (
    λ held. known.held.same line script k (declared_box part) box
        (turned line (declared_box part) box p.intervals)
        (known.held.lines part line script k (declared_box part)
        (exchanged line part p.rest) held),
    λ held. known.held.lines line part script k (declared_box part) p.rest
        (known.held.same line script k box (declared_box part) p.intervals held),
  )
