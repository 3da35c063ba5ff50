-- The first yes leaf that is not held, in a list of leaves and a longer one.
use Rattle.std.proofs.Common.{◌≡◌, ◌+◌, ⊎_elim, ℕ, zero, suc, List, ◌++◌}
use Rattle.std.proofs.Common.{Some, length, ◌∙◌, arith, IsTrue}
use Rattle.std.proofs.lemmas.Option.{slice_get_within}
use Rattle.std.specs.Prelude.{slice_get}
use Rattle.model_line.specs.{declared.line.Line.Line, declared.script.Script.Script}
use Rattle.model_logic.specs.{Choice.Box, HeldOver.IsHeldOver}
use Rattle.judge_split.specs.Trees.{SplitTree, Yes, Undecided, Split}
use Rattle.model_history.specs.ListLaws.{at_append, before_append, after_append}
use Rattle.judge_split.specs.Leaves.{Leaf, leaves, IsSoundSplit}
use Rattle.model_logic.specs.Boxes.{lower_half, upper_half}
use Rattle.cert_split.specs.check.FirstLeaf.{IsFirstNotHeld}

module _ (line : Line) (script : Script) (k : ℕ) where
  -- each yes leaf is held
  abbrev pub YesHeld : List Leaf → Type 0
  YesHeld all = (i : ℕ) (leaf : Leaf) → slice_get all i ≡ Some leaf → IsTrue leaf.yes
      → IsHeldOver line script k leaf.box

  -- of a sound tree each is
  pub sound_held : (tree : SplitTree) (box : Box) → IsSoundSplit line script k box tree
      → YesHeld (leaves box tree)
  sound_held Yes box held zero leaf at on =
      let same : box ≡ leaf.box = cc in
      rw (← same) held
  sound_held Yes box held (suc i) leaf at on = absurd (cc)
  sound_held Undecided box held zero leaf at on = absurd (cc)
  sound_held Undecided box held (suc i) leaf at on = absurd (cc)
  sound_held (Split param mid first second) box sound i leaf at on =
      ⊎_elim
      (λ early. sound_held first (lower_half box param mid) sound.1.0 i leaf early on)
      (λ late. sound_held second (upper_half box param mid) sound.1.1 late.0 leaf late.2 on)
      (at_append (leaves (lower_half box param mid) first)
      (leaves (upper_half box param mid) second) i leaf at)

  -- the first of some leaves is the first also of more
  pub not_held_first : (xs ys : List Leaf) (n : ℕ) → IsFirstNotHeld line script k xs n
      → IsFirstNotHeld line script k (xs ++ ys) n
  not_held_first xs ys n first = record {
    leaf = first.leaf;
    at = before_append xs ys n first.leaf first.at;
    yes = first.yes;
    not_held = first.not_held;
    before = λ i earlier lt at on.
        ⊎_elim (λ early. first.before i earlier lt early on)
        (λ late.
        absurd (omega (arith, lt, late.1, slice_get_within xs n first.leaf first.at)))
        (at_append xs ys i earlier at);
  }

  -- after leaves of which each yes is held it comes later by so many
  pub not_held_second : (xs ys : List Leaf) (n : ℕ) → YesHeld xs
      → IsFirstNotHeld line script k ys n → IsFirstNotHeld line script k (xs ++ ys) (length xs + n)
  not_held_second xs ys n held first = record {
    leaf = first.leaf;
    at = after_append xs ys n ∙ first.at;
    yes = first.yes;
    not_held = first.not_held;
    before = λ i earlier lt at on.
        ⊎_elim (λ early. held i earlier early on)
        (λ late. first.before late.0 earlier (omega (arith, lt, late.1)) late.2 on)
        (at_append xs ys i earlier at);
  }
