-- Trees whose yes leaves are shown, and the first place of a list where one is not.
use Rattle.std.proofs.Common.{◌≡◌, ◌<◌, ◌+◌, ◌↔◌, ⊎_elim, ℕ, zero, suc, Bool, true, false, List, ◌++◌, Option, None, Some}
use Rattle.std.proofs.Common.{length, ◌∙◌, sym, ap, arith, refl, IsTrue}
use Rattle.std.proofs.lemmas.List.{length-map}
use Rattle.std.proofs.lemmas.Option.{slice_get_within, slice_get-map}
use Rattle.std.specs.Prelude.{slice_get, option_map, Decides, MatchOption, map}
use Rattle.model_line.specs.{declared.line.Line.Line, declared.script.Script.Script}
use Rattle.model_logic.specs.Choice.{Box, declared_box}
use Rattle.model_settle.specs.CaseTrees.{CaseTree, Yes, Undecided, Parted, Wanted, IsShownUnder}
use Rattle.model_settle.specs.Assumed.{Assumption, Throughout, Interrupted}
use Rattle.model_history.specs.ListLaws.{at_append, before_append, after_append, exists_at}
use Rattle.model_history.specs.ListLaws.{mapped}
use Rattle.judge_cases.specs.{declared.view.View.View, Views.Views, Analyses.IsShownOf}
use Rattle.judge_cases.specs.Analyses.{TellEach}
use Rattle.judge_cases.specs.{declared.node.CaseNode.CaseNode, Nodes.preorder, Trees.Branches}
use Rattle.cert_settle.specs.declared.tree.LeafViews.{LeafViews}
use Rattle.cert_settle.specs.CaseParts.{Leaf, leaves, lower_of, upper_of, under, CasePart}
use Rattle.cert_settle.specs.CaseParts.{IsShownOver, AreSoundOver, whole_part}
use Rattle.cert_settle.specs.FirstLeaf.{IsTreeShown, IsTreeNotShown}
use Rattle.cert_settle.specs.Walks.{AreOfLeaves, IsFirstWrong}

module _ (line : Line) (script : Script) (k : ℕ) where
  -- each yes leaf is shown
  abbrev YesShown : List Leaf → Type 0
  YesShown all = (i : ℕ) (leaf : Leaf) → slice_get all i ≡ Some leaf → IsTrue leaf.yes
      → IsShownOver line script k leaf.part

  both_shown : (xs ys : List Leaf) → YesShown xs → YesShown ys → YesShown (xs ++ ys)
  both_shown xs ys a b i leaf at on =
      ⊎_elim
      (λ early. a i leaf early on)
      (λ late. b late.0 leaf late.2 on)
      (at_append xs ys i leaf at)

  -- of a sound tree each is
  pub sound_shown : (tree : CaseTree) (part : CasePart) → AreSoundOver line script k part tree
      → YesShown (leaves part tree)
  sound_shown Yes part shown zero leaf at on =
      let same : part ≡ leaf.part = cc in
      rw (← same) shown
  sound_shown Yes part shown (suc i) leaf at on = absurd (cc)
  sound_shown Undecided part shown zero leaf at on = absurd (cc)
  sound_shown Undecided part shown (suc i) leaf at on = absurd (cc)
  sound_shown (Parted param mid first second) part sound i leaf at on =
      both_shown (leaves (lower_of part param mid) first) (leaves (upper_of part param mid) second)
      (sound_shown first (lower_of part param mid) sound.1.0)
      (sound_shown second (upper_of part param mid) sound.1.1) i leaf at on
  sound_shown (Wanted span first second) part sound i leaf at on =
      both_shown (leaves (under part (Throughout span)) first)
      (leaves (under part (Interrupted span)) second)
      (sound_shown first (under part (Throughout span)) sound.1.0)
      (sound_shown second (under part (Interrupted span)) sound.1.1) i leaf at on

  -- a tree that can be made is sound, if each is
  pub shown_sound : (tree : CaseTree) (part : CasePart) → Branches line part.box tree
      → YesShown (leaves part tree) → AreSoundOver line script k part tree
  shown_sound Yes part branches all = all 0 (record { part = part; yes = true }) refl refl
  shown_sound Undecided part branches all = tt
  shown_sound (Parted param mid first second) part branches all =
      let xs : List Leaf = leaves (lower_of part param mid) first in
      let ys : List Leaf = leaves (upper_of part param mid) second in (
        branches.0,
        (
          shown_sound first (lower_of part param mid) branches.1.0
              (λ i leaf at on. all i leaf (before_append xs ys i leaf at) on),
          shown_sound second (upper_of part param mid) branches.1.1
              (λ i leaf at on. all (length xs + i) leaf (after_append xs ys i ∙ at) on),
        ),
      )
  shown_sound (Wanted span first second) part branches all =
      let xs : List Leaf = leaves (under part (Throughout span)) first in
      let ys : List Leaf = leaves (under part (Interrupted span)) second in (
        branches.0,
        (
          shown_sound first (under part (Throughout span)) branches.1.0
              (λ i leaf at on. all i leaf (before_append xs ys i leaf at) on),
          shown_sound second (under part (Interrupted span)) branches.1.1
              (λ i leaf at on. all (length xs + i) leaf (after_append xs ys i ∙ at) on),
        ),
      )

-- what is shown over a view is shown over the box and the assumptions that it is of
abbrev StandForTheirBoxes : Type 0
StandForTheirBoxes =
    (line : Line) (script : Script) (k : ℕ) (box : Box) (assumed : List Assumption) (view : View)
    → Views line box assumed view
    → IsShownOf line script k view ↔ IsShownUnder line script k box assumed

module _ (boxes : StandForTheirBoxes) (line : Line) (script : Script) (k : ℕ) (all : List Leaf)
    (told : LeafViews) (shown : List Bool) (of : AreOfLeaves line all told)
    (tells : TellEach line script k told.views.items shown) where
  -- it is told of each leaf
  told_of : (i : ℕ) (leaf : Leaf) → slice_get all i ≡ Some leaf
      → (b : Bool) × (slice_get shown i ≡ Some b) × Decides b (IsShownOver line script k leaf.part)
  told_of i leaf at =
      let inside : i < length all = slice_get_within all i leaf at in
      let (view, here) = exists_at told.views.items i (omega (arith, inside, of.many)) in
      let (b, there) = exists_at shown i (omega (arith, inside, of.many, tells.count)) in
      let law = boxes line script k leaf.part.box leaf.part.assumed view
      (of.each i leaf view at here) in
      let d = tells.each i b view there here in
      (b, there, (λ on. law.0 (d.0 on), λ under. d.1 (law.1 under)))

  told_yes : (i : ℕ) (leaf : Leaf) → slice_get all i ≡ Some leaf → IsTrue leaf.yes
      → slice_get told.yes.items i ≡ Some true
  told_yes i leaf at on =
      ap (λ (l : List Bool). slice_get l i) of.yes ∙ slice_get-map (λ (l : Leaf). l.yes) all i
      ∙ ap (option_map (λ (l : Leaf). l.yes)) at ∙ ap Some on

  -- each yes leaf that stands at a place where none is wrong is shown
  is_shown_there : (n : ℕ) → ((i : ℕ) (b : Bool) → i < n → slice_get told.yes.items i ≡ Some true
      → slice_get shown i ≡ Some b → IsTrue b) → (i : ℕ) (leaf : Leaf) → i < n
      → slice_get all i ≡ Some leaf → IsTrue leaf.yes → IsShownOver line script k leaf.part
  is_shown_there n none i leaf lt at on =
      let (b, there, d) = told_of i leaf at in
      d.0 (none i b lt (told_yes i leaf at on) there)

  count : length told.yes.items ≡ length all
  count = ap length of.yes ∙ length-map all (λ (l : Leaf). l.yes)

-- the first yes leaf of a tree over the declared box that is not shown, or none
pub first_of_tree : StandForTheirBoxes → (line : Line) (script : Script) (k : ℕ) (t : CaseTree)
    (nodes : List CaseNode) (told : LeafViews) (shown : List Bool) (found : Option ℕ)
    → Branches line (declared_box line) t → nodes ≡ preorder t
    → AreOfLeaves line (leaves (whole_part line) t) told
    → TellEach line script k told.views.items shown → IsFirstWrong told.yes.items shown found
    → MatchOption found (IsTreeShown line script k nodes)
    (λ leaf. IsTreeNotShown line script k nodes leaf)
first_of_tree boxes line script k t nodes told shown None branches are of tells none =
    let all : List Leaf = leaves (whole_part line) t in
    record {
      tree = t;
      are = are;
      sound = shown_sound line script k t (whole_part line) branches (λ i leaf at on.
          is_shown_there boxes line script k all told shown of tells (length told.yes.items) none i leaf
          (omega (arith, slice_get_within all i leaf at, count boxes line script k all told shown of tells))
          at on);
    }
first_of_tree boxes line script k t nodes told shown (Some n) branches are of tells wrong =
    let all : List Leaf = leaves (whole_part line) t in
    let there : slice_get (map (λ (l : Leaf). l.yes) all) n ≡ Some true =
    ap (λ (l : List Bool). slice_get l n) (sym of.yes) ∙ wrong.here in
    let (leaf, at, on) = mapped (λ (l : Leaf). l.yes) all n true there in
    record {
      tree = t;
      are = are;
      first = record {
        leaf = leaf;
        at = at;
        yes = on;
        not_shown = λ shows.
            let (b, here, d) = told_of boxes line script k all told shown of tells n leaf at in
            let on : b ≡ true = d.1 shows in
            let off : slice_get shown n ≡ Some false = wrong.not_shown in
            cc;
        before = λ i earlier lt at marked.
            is_shown_there boxes line script k all told shown of tells n wrong.before i earlier lt at
            marked;
      };
    }
