-- The leaves that a walk adds of a tree, from its root and what it adds of both trees below it.
use Rattle.std.proofs.Common.{◌≡◌, ◌<◌, ◌≤◌, ◌+◌, ◌⊎◌, ⊎_elim, ℕ, Bool, List, [], ◌∷◌, ◌++◌, length, drop, get_or}
use Rattle.std.proofs.Common.{refl, sym, ◌∙◌, ap, subst, arith, length-append}
use Rattle.std.proofs.Common.{append_assoc, Option, None, Some}
use Rattle.std.proofs.Math.Seq.{drop-append_seam}
use Rattle.std.proofs.lemmas.List.{drop-drop, get_or-drop, length-drop}
use Rattle.std.proofs.lemmas.Option.{same_Some}
use Rattle.std.proofs.lemmas.Option.{slice_get_within}
use Rattle.std.proofs.lemmas.List.{map-append, length-map}
use Rattle.std.proofs.lemmas.Bool.{false_from_ne_true}
use Rattle.std.specs.Prelude.{slice_get, Decides}
use Rattle.model_history.specs.ListLaws.{at_push, exists_at}
use Rattle.model_line.specs.declared.line.Line.{Line}
use Rattle.model_settle.specs.CaseTrees.{CaseTree, Yes, Undecided, Parted, Wanted}
use Rattle.model_settle.specs.Assumed.{Throughout, Interrupted}
use Rattle.judge_cases.specs.{declared.view.View.View, Views.AreViews, Views.view_box}
use Rattle.judge_cases.specs.declared.node.CaseNode.{CaseNode}
use Rattle.judge_cases.specs.declared.node.CaseNode.TheVariants as node
use Rattle.judge_cases.specs.Trees.{Branches}
use Rattle.judge_cases.specs.Nodes.{preorder}
use Rattle.cert_settle.specs.declared.tree.LeafViews.{LeafViews}
use Rattle.cert_settle.specs.CaseParts.{CasePart, Leaf, leaves, lower_of, upper_of, under}
use Rattle.cert_settle.specs.CaseParts.{parts_below}
use Rattle.cert_settle.specs.Walks.{IsViewOf, CanStand, AreOfLeaves, AreAdded}
use Rattle.cert_settle.proofs.NodeLaws.{parted_alike}

-- ---- the root

abbrev pub root_of : CaseTree → CaseNode
root_of Yes = node.Yes
root_of Undecided = node.Undecided
root_of (Parted param mid first second) = node.Parted param mid
root_of (Wanted span first second) = node.Wanted span.terminal span.from span.to

abbrev below_root : CaseTree → List CaseNode
below_root Yes = []
below_root Undecided = []
below_root (Parted param mid first second) = preorder first ++ preorder second
below_root (Wanted span first second) = preorder first ++ preorder second

root_then : (tree : CaseTree) → preorder tree ≡ root_of tree ∷ below_root tree
root_then Yes = refl
root_then Undecided = refl
root_then (Parted param mid first second) = refl
root_then (Wanted span first second) = refl

-- the node at the place where a tree begins is its root
pub root_at : (tree : CaseTree) (after nodes : List CaseNode) (at : ℕ) (d root : CaseNode)
    → drop at nodes ≡ preorder tree ++ after → root ≡ get_or nodes at d → root_of tree ≡ root
root_at tree after nodes at d root are is =
    let here : at + 0 ≡ at = omega arith in
    sym (ap (λ (l : List CaseNode). get_or l 0 d)
    (are ∙ ap (λ (l : List CaseNode). l ++ after) (root_then tree)))
    ∙ get_or-drop at nodes 0 d ∙ ap (λ (n : ℕ). get_or nodes n d) here ∙ sym is

-- so there is one
pub within : (tree : CaseTree) (after nodes : List CaseNode) (at : ℕ)
    → drop at nodes ≡ preorder tree ++ after → at < length nodes
within tree after nodes at are =
    omega (
      arith,
      length-drop at nodes,
      ap length are,
      length-append (preorder tree) after,
      ap length (root_then tree),
    )

pub few_nodes : (tree : CaseTree) → 0 < length (preorder tree)
few_nodes tree = omega (arith, ap length (root_then tree))

-- ---- two trees below a root

-- two trees are next, over these parts
pub record AreTwoNext (line : Line) (part : CasePart) (tree : CaseTree) (a b : CasePart)
    (after nodes : List CaseNode) (at : ℕ) : Type 0 where
  pub first : CaseTree
  pub second : CaseTree
  pub count : length (preorder tree) ≡ 1 + (length (preorder first) + length (preorder second))
  pub leaves : leaves part tree ≡ leaves a first ++ leaves b second
  pub lower : Branches line a.box first
  pub upper : Branches line b.box second
  pub first_next : drop (at + 1) nodes ≡ preorder first ++ (preorder second ++ after)
  pub second_next : drop ((at + 1) + length (preorder first)) nodes ≡ preorder second ++ after

first_after : (root : CaseNode) (pre post after nodes : List CaseNode) (at : ℕ)
    → drop at nodes ≡ (root ∷ (pre ++ post)) ++ after
    → drop (at + 1) nodes ≡ pre ++ (post ++ after)
first_after root pre post after nodes at are =
    sym (drop-drop 1 at nodes) ∙ ap (drop 1) are ∙ append_assoc pre post after

second_after : (root : CaseNode) (pre post after nodes : List CaseNode) (at : ℕ)
    → drop at nodes ≡ (root ∷ (pre ++ post)) ++ after
    → drop ((at + 1) + length pre) nodes ≡ post ++ after
second_after root pre post after nodes at are =
    let past : (at + 1) + length pre ≡ at + length (root ∷ pre) = omega arith in
    let whole : drop at nodes ≡ (root ∷ pre) ++ (post ++ after) =
    are ∙ ap (λ (l : List CaseNode). root ∷ l) (append_assoc pre post after) in
    ap (λ (n : ℕ). drop n nodes) past ∙ sym (drop-drop (length (root ∷ pre)) at nodes)
    ∙ ap (drop (length (root ∷ pre))) whole ∙ drop-append_seam (root ∷ pre) (post ++ after)

-- two parts, told otherwise
pair_as : (P : CasePart → CasePart → Type 0) (a b c d : CasePart)
    → ◌≡◌ {A = Option (CasePart × CasePart)} (Some (a, b)) (Some (c, d)) → P a b → P c d
pair_as P a b c d same p =
    let pair : ◌≡◌ {A = CasePart × CasePart} (a, b) (c, d) = same_Some (a, b) (c, d) same in
    subst (λ (x : CasePart × CasePart). P x.0 x.1) pair p

pub two_next : (line : Line) (part : CasePart) (tree : CaseTree) (root : CaseNode)
    (a b : CasePart) (after nodes : List CaseNode) (at : ℕ) → Branches line part.box tree
    → drop at nodes ≡ preorder tree ++ after → root_of tree ≡ root
    → parts_below part root ≡ Some (a, b) → AreTwoNext line part tree a b after nodes at
two_next line part Yes root a b after nodes at branches are is below =
    absurd (let none : None ≡ Some (a, b) =
    subst (λ (r : CaseNode). parts_below part r ≡ Some (a, b)) (sym is) below in cc)
two_next line part Undecided root a b after nodes at branches are is below =
    absurd (let none : None ≡ Some (a, b) =
    subst (λ (r : CaseNode). parts_below part r ≡ Some (a, b)) (sym is) below in cc)
two_next line part (Parted param mid first second) root a b after nodes at branches are is below =
    let pre : List CaseNode = preorder first in
    let post : List CaseNode = preorder second in
    pair_as (λ x y. AreTwoNext line part (Parted param mid first second) x y after nodes at)
    (lower_of part param mid) (upper_of part param mid) a b
    (subst (λ (r : CaseNode). parts_below part r ≡ Some (a, b)) (sym is) below) (record {
      first = first;
      second = second;
      count = omega (arith, length-append pre post);
      leaves = refl;
      lower = branches.1.0;
      upper = branches.1.1;
      first_next = first_after (node.Parted param mid) pre post after nodes at are;
      second_next = second_after (node.Parted param mid) pre post after nodes at are;
    })
two_next line part (Wanted span first second) root a b after nodes at branches are is below =
    let pre : List CaseNode = preorder first in
    let post : List CaseNode = preorder second in
    pair_as (λ x y. AreTwoNext line part (Wanted span first second) x y after nodes at)
    (under part (Throughout span)) (under part (Interrupted span)) a b
    (subst (λ (r : CaseNode). parts_below part r ≡ Some (a, b)) (sym is) below) (record {
      first = first;
      second = second;
      count = omega (arith, length-append pre post);
      leaves = refl;
      lower = branches.1.0;
      upper = branches.1.1;
      first_next = first_after (node.Wanted span.terminal span.from span.to) pre post after nodes at are;
      second_next = second_after (node.Wanted span.terminal span.from span.to) pre post after nodes at are;
    })

-- a tree has no more leaves than nodes
pub few_leaves : (tree : CaseTree) (part : CasePart)
    → length (leaves part tree) ≤ length (preorder tree)
few_leaves Yes part = omega arith
few_leaves Undecided part = omega arith
few_leaves (Parted param mid first second) part =
    omega (
      arith,
      few_leaves first (lower_of part param mid),
      few_leaves second (upper_of part param mid),
      length-append (leaves (lower_of part param mid) first)
          (leaves (upper_of part param mid) second),
      length-append (preorder first) (preorder second),
    )
few_leaves (Wanted span first second) part =
    omega (
      arith,
      few_leaves first (under part (Throughout span)),
      few_leaves second (under part (Interrupted span)),
      length-append (leaves (under part (Throughout span)) first)
          (leaves (under part (Interrupted span)) second),
      length-append (preorder first) (preorder second),
    )

-- ---- leaves that are added

pub no_leaves : (line : Line) (told : LeafViews) → told.views.items ≡ [] → told.yes.items ≡ []
    → AreOfLeaves line [] told
no_leaves line told views flags = record {
  many = ap length views;
  each = λ i leaf v at here. absurd (cc);
  yes = flags;
}

pub are_views : (line : Line) (all : List Leaf) (told : LeafViews) → AreOfLeaves line all told
    → AreViews line told.views.items
are_views line all told of = record {
  each = λ i view here.
      let (leaf, at) = exists_at all i
      (omega (arith, of.many, slice_get_within told.views.items i view here)) in
      (of.each i leaf view at here).is;
}

pub flags_count : (line : Line) (all : List Leaf) (told : LeafViews) → AreOfLeaves line all told
    → length told.yes.items ≡ length all
flags_count line all told of = ap length of.yes ∙ length-map all (λ (l : Leaf). l.yes)

abbrev leaf_of : CasePart → Bool → Leaf
leaf_of part flag = record { part = part; yes = flag }

-- one leaf more
one_leaf : (line : Line) (all : List Leaf) (part : CasePart) (view : View) (flag : Bool)
    (old new : LeafViews) → new.views.items ≡ old.views.items ++ view ∷ []
    → new.yes.items ≡ old.yes.items ++ flag ∷ [] → IsViewOf line part view
    → AreOfLeaves line all old → AreOfLeaves line (all ++ leaf_of part flag ∷ []) new
one_leaf line all part view flag old new views told is so_far = record {
  many = ap length views ∙ length-append old.views.items (view ∷ [])
      ∙ ap (λ (n : ℕ). n + 1) so_far.many ∙ sym (length-append all (leaf_of part flag ∷ []));
  each = λ i leaf v at here.
      let there : (slice_get old.views.items i ≡ Some v)
      ⊎ ((i ≡ length old.views.items) × (v ≡ view)) =
      at_push old.views.items view v i (subst (λ (l : List View). slice_get l i ≡ Some v) views here) in
      ⊎_elim
      (λ early. ⊎_elim (λ before. so_far.each i leaf v early before)
      (λ last. absurd (omega (arith, last.0, so_far.many, slice_get_within all i leaf early))) there)
      (λ late. ⊎_elim
      (λ before. absurd (omega (
        arith,
        late.0,
        so_far.many,
        slice_get_within old.views.items i v before,
      )))
      (λ last. subst (λ (l : Leaf). IsViewOf line l.part v) (sym late.1)
      (subst (IsViewOf line part) (sym last.1) is)) there)
      (at_push all (leaf_of part flag) leaf i at);
  yes = told ∙ ap (λ (l : List Bool). l ++ flag ∷ []) so_far.yes
      ∙ sym (map-append (λ (l : Leaf). l.yes) all (leaf_of part flag ∷ []));
}

-- a tree that is one leaf
pub added_leaf : (line : Line) (tree : CaseTree) (part : CasePart) (root : CaseNode) (view : View)
    (flag : Bool) (old new : LeafViews) (at end : ℕ) → root_of tree ≡ root
    → parts_below part root ≡ None → Decides flag (root ≡ node.Yes)
    → new.views.items ≡ old.views.items ++ view ∷ []
    → new.yes.items ≡ old.yes.items ++ flag ∷ [] → IsViewOf line part view → end ≡ at + 1
    → AreAdded line part tree at end old new
added_leaf line Yes part root view flag old new at end is below told views flags of_part past = record {
  nodes = past;
  more = λ all so_far. subst (λ (b : Bool). AreOfLeaves line (all ++ leaf_of part b ∷ []) new)
      (told.1 (sym is)) (one_leaf line all part view flag old new views flags of_part so_far);
}
added_leaf line Undecided part root view flag old new at end is below told views flags of_part past = record {
  nodes = past;
  more = λ all so_far. subst (λ (b : Bool). AreOfLeaves line (all ++ leaf_of part b ∷ []) new)
      (false_from_ne_true flag (λ on. let same : root ≡ node.Yes = told.0 on in cc))
      (one_leaf line all part view flag old new views flags of_part so_far);
}
added_leaf line (Parted p m first second) part root view flag old new at end is below told views flags
    of_part past =
    absurd (let some : Some (lower_of part p m, upper_of part p m) ≡ None =
    subst (λ (r : CaseNode). parts_below part r ≡ None) (sym is) below in cc)
added_leaf line (Wanted span first second) part root view flag old new at end is below told views flags
    of_part past =
    absurd (let some : Some (under part (Throughout span), under part (Interrupted span)) ≡ None =
    subst (λ (r : CaseNode). parts_below part r ≡ None) (sym is) below in cc)

-- a tree of two
pub added_two : (line : Line) (part a b : CasePart) (tree : CaseTree) (after nodes : List CaseNode)
    (at : ℕ) (two : AreTwoNext line part tree a b after nodes at) (between end : ℕ)
    (old mid new : LeafViews) → AreAdded line a two.first (at + 1) between old mid
    → AreAdded line b two.second between end mid new → AreAdded line part tree at end old new
added_two line part a b tree after nodes at two between end old mid new one other = record {
  nodes = omega (arith, one.nodes, other.nodes, two.count);
  more = λ all so_far. subst (λ (l : List Leaf). AreOfLeaves line l new)
      (append_assoc all (leaves a two.first) (leaves b two.second)
      ∙ ap (λ (l : List Leaf). all ++ l) (sym two.leaves))
      (other.more (all ++ leaves a two.first) (one.more all so_far));
}

-- ---- what can stand

pub can_stand : (line : Line) (part : CasePart) (view : View) (tree : CaseTree) (root : CaseNode)
    → IsViewOf line part view → Branches line part.box tree → root_of tree ≡ root
    → CanStand line view root
can_stand line part view Yes root is branches same =
    subst (λ (r : CaseNode). CanStand line view r) same tt
can_stand line part view Undecided root is branches same =
    subst (λ (r : CaseNode). CanStand line view r) same tt
can_stand line part view (Parted param mid first second) root is branches same =
    subst (λ (r : CaseNode). CanStand line view r) same
    (parted_alike line part.box (view_box line view) param mid
    (sym (is.same.numbers param branches.0.exists)) branches.0)
can_stand line part view (Wanted span first second) root is branches same =
    subst (λ (r : CaseNode). CanStand line view r) same branches.0
