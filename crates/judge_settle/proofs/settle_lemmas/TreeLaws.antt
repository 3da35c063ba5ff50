-- Trees from their leaves and their sides.
use Rattle.std.proofs.Common.{◌≡◌, ◌<◌, ◌+◌, ◌∷◌, ◌++◌, [], ℕ, Bool, true, false, List, refl, ◌∙◌, ap}
use Rattle.std.proofs.Common.{subst, sym, arith}
use Rattle.std.specs.Prelude.{◌&&◌}
use Rattle.model_line.specs.{declared.line.Line.Line, declared.script.Script.Script}
use Rattle.model_logic.specs.Choice.{Box}
use Rattle.model_settle.specs.Assumed.{Assumption, Throughout, Interrupted, Span}
use Rattle.model_settle.specs.CaseTrees.{CaseTree, Yes, Undecided, Parted, Wanted, are_yes}
use Rattle.model_settle.specs.CaseTrees.{IsShownUnder, AreSound}
use Rattle.model_settle.specs.Parts.{upper_from}
use Rattle.model_logic.specs.Boxes.{lower_half}
use Rattle.judge_ahead.specs.declared.cuts.Cut.{Cut}
use Rattle.judge_ahead.specs.declared.cuts.Cut.TheVariants as cut
use Rattle.judge_cases.specs.Nodes.{preorder}
use Rattle.judge_cases.specs.{AssumedAt.span_at, Views.Views, Views.IsView, Views.view_box}
use Rattle.judge_cases.specs.declared.node.CaseNode.{CaseNode}
use Rattle.judge_cases.specs.declared.node.CaseNode.TheVariants as node
use Rattle.judge_cases.specs.declared.view.View.{View}
use Rattle.judge_cases.specs.Trees.{Branches}
use Rattle.judge_settle.specs.declared.settle.grown.Grown.{Grown}
use Rattle.judge_settle.specs.declared.settle.sides.Branch.{Branch}
use Rattle.judge_settle.specs.settle.Joined.{node_of, joined}
use Rattle.judge_settle.specs.settle.Sides.{AreSides, AreOrdered}
use Rattle.judge_settle.specs.settle.Trees.{IsGrownOver, Size, IsNoLarger}
use Rattle.judge_settle.proofs.settle_lemmas.ViewLaws.{own_view}

either_way : (a b : Bool) → (a && b) ≡ (b && a)
either_way true true = refl
either_way true false = refl
either_way false true = refl
either_way false false = refl

-- each part and each pair of cases of a sound tree can be made
pub branches_of : (line : Line) (script : Script) (k : ℕ) (box : Box) (assumed : List Assumption)
    (tree : CaseTree) → AreSound line script k box assumed tree → Branches line box tree
branches_of line script k box assumed Yes sound = tt
branches_of line script k box assumed Undecided sound = tt
branches_of line script k box assumed (Parted param mid lower upper) sound = (
  sound.0,
  (
    branches_of line script k (lower_half box param mid) assumed lower sound.1.0,
    branches_of line script k (upper_from box param mid) assumed upper sound.1.1,
  ),
)
branches_of line script k box assumed (Wanted span throughout interrupted) sound = (
  sound.0,
  (
    branches_of line script k box (Throughout span ∷ assumed) throughout sound.1.0,
    branches_of line script k box (Interrupted span ∷ assumed) interrupted sound.1.1,
  ),
)

-- a tree of this size has room for two of these sizes below its root
pub record HasRoomFor (size one other : Size) : Type 0 where
  pub first : one.depth < size.depth
  pub second : other.depth < size.depth
  pub many : one.cuts + other.cuts < size.cuts

room_turned : (size one other : Size) → HasRoomFor size one other → HasRoomFor size other one
room_turned size one other room =
    record { first = room.second; second = room.first; many = omega arith }

no_cuts : (size : Size) → IsNoLarger size Undecided
no_cuts size = record { low = omega arith; few = omega arith }

no_cuts_yes : (size : Size) → IsNoLarger size Yes
no_cuts_yes size = record { low = omega arith; few = omega arith }

module _ (line : Line) (script : Script) (k : ℕ) (view : View) where
  pub leaf_undecided : (size : Size) (g : Grown) → g.nodes.items ≡ node.Undecided ∷ []
      → g.yes ≡ false → IsGrownOver line script k size view g
  leaf_undecided size g is told box assumed v = record {
    tree = Undecided;
    nodes = is;
    yes = told;
    sound = tt;
    small = no_cuts size;
  }

  pub leaf_yes : (size : Size) (g : Grown) → g.nodes.items ≡ node.Yes ∷ [] → g.yes ≡ true
      → ((box : Box) (assumed : List Assumption) → Views line box assumed view
      → IsShownUnder line script k box assumed) → IsGrownOver line script k size view g
  leaf_yes size g is told shown box assumed v = record {
    tree = Yes;
    nodes = is;
    yes = told;
    sound = shown box assumed v;
    small = no_cuts_yes size;
  }

  -- the trees of both sides behind their cut
  sides_joined : (size s t : Size) → HasRoomFor size s t → (cut : Cut) (first second : View)
      (g a b : Grown) → g.nodes.items ≡ node_of cut ∷ (a.nodes.items ++ b.nodes.items)
      → g.yes ≡ (a.yes && b.yes) → AreSides line view cut first second
      → IsGrownOver line script k s first a → IsGrownOver line script k t second b
      → IsGrownOver line script k size view g
  sides_joined size s t room (cut.Parted param mid) first second g a b is told sides below above box
      assumed v =
      let one = below (lower_half box param mid) assumed (sides.lower box assumed v) in
      let other = above (upper_from box param mid) assumed (sides.upper box assumed v) in
      record {
        tree = Parted param mid one.tree other.tree;
        nodes = is
            ∙ ap (λ (xs : List CaseNode). node.Parted param mid ∷ (xs ++ b.nodes.items)) one.nodes
            ∙ ap (λ (ys : List CaseNode). node.Parted param mid ∷ (preorder one.tree ++ ys))
            other.nodes;
        yes = told ∙ ap (λ (x : Bool). x && b.yes) one.yes
            ∙ ap (λ (y : Bool). are_yes one.tree && y) other.yes;
        sound = (sides.can box assumed v, (one.sound, other.sound));
        small = record { low = omega arith; few = omega arith };
      }
  sides_joined size s t room (cut.Wanted over) first second g a b is told sides below above box
      assumed v =
      let span : Span = span_at over.terminal over.from over.to in
      let root : CaseNode = node.Wanted over.terminal over.from over.to in
      let one = below box (Throughout span ∷ assumed) (sides.throughout box assumed v) in
      let other = above box (Interrupted span ∷ assumed) (sides.interrupted box assumed v) in
      record {
        tree = Wanted span one.tree other.tree;
        nodes = is ∙ ap (λ (xs : List CaseNode). root ∷ (xs ++ b.nodes.items)) one.nodes
            ∙ ap (λ (ys : List CaseNode). root ∷ (preorder one.tree ++ ys)) other.nodes;
        yes = told ∙ ap (λ (x : Bool). x && b.yes) one.yes
            ∙ ap (λ (y : Bool). are_yes one.tree && y) other.yes;
        sound = (sides.can, (one.sound, other.sound));
        small = record { low = omega arith; few = omega arith };
      }

  -- in whichever order the sides were searched
  pub ordered_joined : (size s t : Size) → HasRoomFor size s t → (cut : Cut)
      (first second one other : Branch) (turned : Bool) (g a b : Grown)
      → g.nodes.items ≡ node_of cut ∷ joined turned a.nodes.items b.nodes.items
      → g.yes ≡ (a.yes && b.yes) → AreSides line view cut first.view second.view
      → AreOrdered first second turned one other → IsGrownOver line script k s one.view a
      → IsGrownOver line script k t other.view b → IsGrownOver line script k size view g
  ordered_joined size s t room cut first second one other true g a b is told sides ordered worse
      better =
      let same = ordered.turned_round refl in
      sides_joined size t s (room_turned size s t room) cut first.view second.view g b a is
      (told ∙ either_way a.yes b.yes) sides
      (subst (λ (x : Branch). IsGrownOver line script k t x.view b) same.1 better)
      (subst (λ (x : Branch). IsGrownOver line script k s x.view a) same.0 worse)
  ordered_joined size s t room cut first second one other false g a b is told sides ordered worse
      better =
      let same = ordered.kept refl in
      sides_joined size s t room cut first.view second.view g a b is told sides
      (subst (λ (x : Branch). IsGrownOver line script k s x.view a) same.0 worse)
      (subst (λ (x : Branch). IsGrownOver line script k t x.view b) same.1 better)

-- the sides of a view are views
pub sides_are_views : (line : Line) (view : View) (cut : Cut) (first second : View)
    → IsView line view → AreSides line view cut first second
    → IsView line first × IsView line second
sides_are_views line view (cut.Parted param mid) first second is sides = (
  (sides.lower (view_box line view) view.assumed.items (own_view line view is)).is,
  (sides.upper (view_box line view) view.assumed.items (own_view line view is)).is,
)
sides_are_views line view (cut.Wanted over) first second is sides = (
  (sides.throughout (view_box line view) view.assumed.items (own_view line view is)).is,
  (sides.interrupted (view_box line view) view.assumed.items (own_view line view is)).is,
)

pub ordered_views : (line : Line) (first second one other : Branch) (turned : Bool)
    → AreOrdered first second turned one other → IsView line first.view → IsView line second.view
    → IsView line one.view × IsView line other.view
ordered_views line first second one other true ordered a b =
    let same = ordered.turned_round refl in (
      subst (λ (x : Branch). IsView line x.view) (sym same.0) b,
      subst (λ (x : Branch). IsView line x.view) (sym same.1) a,
    )
ordered_views line first second one other false ordered a b =
    let same = ordered.kept refl in (
      subst (λ (x : Branch). IsView line x.view) (sym same.0) a,
      subst (λ (x : Branch). IsView line x.view) (sym same.1) b,
    )
