-- What a walk finds of a tree, from its root and what it finds of both halves.
use Rattle.std.proofs.Common.{◌≡◌, ◌<◌, ◌≤◌, ◌+◌, ℕ, List, [], ◌∷◌, ◌++◌, length, drop, get_or}
use Rattle.std.proofs.Common.{true, refl, sym, ◌∙◌, ap, subst, arith, length-append, append_assoc}
use Rattle.std.proofs.Math.Seq.{drop-append_seam}
use Rattle.std.proofs.lemmas.List.{drop-drop, get_or-drop, length-drop}
use Rattle.base_memory.specs.{Gives.OfFault, declared.stopped.Stopped.Stopped}
use Rattle.base_memory.specs.declared.stopped.Stopped.TheVariants as stopped
use Rattle.model_line.specs.{declared.line.Line.Line, declared.script.Script.Script}
use Rattle.model_logic.specs.Choice.{Box, declared_box}
use Rattle.model_logic.specs.HeldOver.{IsHeldOver}
use Rattle.judge_split.specs.declared.node.Node.{Node}
use Rattle.judge_split.specs.declared.node.Node.TheVariants as node
use Rattle.judge_split.specs.Trees.{SplitTree, Yes, Undecided, Split, preorder}
use Rattle.judge_split.specs.Leaves.{leaves, Splits}
use Rattle.model_logic.specs.Boxes.{CanSplit, lower_half, upper_half}
use Rattle.cert_split.specs.declared.check.tree.{NotHeld.NotHeld, Passed.Passed}
use Rattle.cert_split.specs.check.Walks.{IsWalked, IsNotHeldFrom, IsLeafFault}
use Rattle.cert_split.proofs.check_lemmas.FirstLeafLaws.{sound_held, not_held_first, not_held_second}

-- ---- the root

abbrev pub root_of : SplitTree → Node
root_of Yes = node.Yes
root_of Undecided = node.Undecided
root_of (Split param mid first second) = node.Split param mid

abbrev below_root : SplitTree → List Node
below_root Yes = []
below_root Undecided = []
below_root (Split param mid first second) = preorder first ++ preorder second

root_then : (tree : SplitTree) → preorder tree ≡ root_of tree ∷ below_root tree
root_then Yes = refl
root_then Undecided = refl
root_then (Split param mid first second) = refl

-- the node at the place where a tree begins is its root
pub root_at : (tree : SplitTree) (after nodes : List Node) (at : ℕ) (d root : Node)
    → drop at nodes ≡ preorder tree ++ after → get_or nodes at d ≡ root → root_of tree ≡ root
root_at tree after nodes at d root are is =
    let here : at + 0 ≡ at = omega arith in
    sym (ap (λ (l : List Node). get_or l 0 d)
    (are ∙ ap (λ (l : List Node). l ++ after) (root_then tree)))
    ∙ get_or-drop at nodes 0 d ∙ ap (λ (n : ℕ). get_or nodes n d) here ∙ is

-- so there is one
pub within : (tree : SplitTree) (after nodes : List Node) (at : ℕ)
    → drop at nodes ≡ preorder tree ++ after → at < length nodes
within tree after nodes at are =
    omega (
      arith,
      length-drop at nodes,
      ap length are,
      length-append (preorder tree) after,
      ap length (root_then tree),
    )

-- ---- a split

-- a tree of two halves is next, of which the box is split here
pub record IsSplitNext (line : Line) (box : Box) (tree : SplitTree) (after nodes : List Node)
    (at param mid : ℕ) : Type 0 where
  pub first : SplitTree
  pub second : SplitTree
  pub is : tree ≡ Split param mid first second
  pub can : CanSplit line box param mid
  pub lower : Splits line (lower_half box param mid) first
  pub upper : Splits line (upper_half box param mid) second
  pub first_next : drop (at + 1) nodes ≡ preorder first ++ (preorder second ++ after)
  pub second_next : drop ((at + 1) + length (preorder first)) nodes ≡ preorder second ++ after

pub split_next : (line : Line) (box : Box) (tree : SplitTree) (after nodes : List Node)
    (at param mid : ℕ) → Splits line box tree → drop at nodes ≡ preorder tree ++ after
    → root_of tree ≡ node.Split param mid → IsSplitNext line box tree after nodes at param mid
split_next line box Yes after nodes at param mid splits are is = absurd (cc)
split_next line box Undecided after nodes at param mid splits are is = absurd (cc)
split_next line box (Split p m first second) after nodes at param mid splits are is =
    let same_param : p ≡ param = cc in
    let same_mid : m ≡ mid = cc in
    let root : Node = node.Split p m in
    let whole : drop at nodes ≡ (root ∷ preorder first) ++ (preorder second ++ after) =
    are ∙ ap (λ (l : List Node). root ∷ l) (append_assoc (preorder first) (preorder second) after) in
    let past : (at + 1) + length (preorder first) ≡ at + length (root ∷ preorder first) =
    omega arith in
    let P : ℕ → ℕ → Type 0 = λ x y. IsSplitNext line box (Split p m first second) after nodes at x y in
    subst (λ (x : ℕ). P x mid) same_param (subst (λ (y : ℕ). P p y) same_mid (record {
      first = first;
      second = second;
      is = refl;
      can = splits.0;
      lower = splits.1.0;
      upper = splits.1.1;
      first_next = sym (drop-drop 1 at nodes) ∙ ap (drop 1) whole;
      second_next = ap (λ (n : ℕ). drop n nodes) past
          ∙ sym (drop-drop (length (root ∷ preorder first)) at nodes)
          ∙ ap (drop (length (root ∷ preorder first))) whole
          ∙ drop-append_seam (root ∷ preorder first) (preorder second ++ after);
    }))

-- a tree has no more leaves than nodes, and both are some
pub few_leaves : (tree : SplitTree) (box : Box)
    → (1 ≤ length (leaves box tree)) × (length (leaves box tree) ≤ length (preorder tree))
few_leaves Yes box = (omega arith, omega arith)
few_leaves Undecided box = (omega arith, omega arith)
few_leaves (Split param mid first second) box =
    let a = few_leaves first (lower_half box param mid) in
    let b = few_leaves second (upper_half box param mid) in (
      omega (
        arith,
        a.0,
        length-append (leaves (lower_half box param mid) first)
            (leaves (upper_half box param mid) second),
      ),
      omega (
        arith,
        a.1,
        b.1,
        length-append (leaves (lower_half box param mid) first)
            (leaves (upper_half box param mid) second),
        length-append (preorder first)
            (preorder second),
      ),
    )

module _ (line : Line) (script : Script) (k : ℕ) where
  -- ---- leaves

  pub walked_yes : (tree : SplitTree) (box : Box) (passed walked : Passed)
      → root_of tree ≡ node.Yes → IsHeldOver line script k box
      → walked.nodes ≡ passed.nodes + 1 → walked.leaves ≡ passed.leaves + 1
      → IsWalked line script k box tree passed walked
  walked_yes Yes box passed walked is held nodes count = record {
    nodes = nodes;
    leaves = count;
    sound = held;
  }
  walked_yes Undecided box passed walked is held nodes count = absurd (cc)
  walked_yes (Split p m first second) box passed walked is held nodes count = absurd (cc)

  pub walked_undecided : (tree : SplitTree) (box : Box) (passed walked : Passed)
      → root_of tree ≡ node.Undecided → walked.nodes ≡ passed.nodes + 1
      → walked.leaves ≡ passed.leaves + 1 → IsWalked line script k box tree passed walked
  walked_undecided Yes box passed walked is nodes count = absurd (cc)
  walked_undecided Undecided box passed walked is nodes count = record {
    nodes = nodes;
    leaves = count;
    sound = tt;
  }
  walked_undecided (Split p m first second) box passed walked is nodes count = absurd (cc)

  yes_not_held : (tree : SplitTree) (box : Box) (leaf : ℕ) (fault : NotHeld)
      → root_of tree ≡ node.Yes → fault.leaf ≡ leaf → ¬ (IsHeldOver line script k box)
      → IsNotHeldFrom line script k box tree leaf fault
  yes_not_held Yes box leaf fault is at never = record {
    place = 0;
    is = omega (arith, at);
    leaf = record {
      leaf = record { box = box; yes = true };
      at = refl;
      yes = refl;
      not_held = never;
      before = λ i earlier lt at yes. absurd (omega (arith, lt));
    };
  }
  yes_not_held Undecided box leaf fault is at never = absurd (cc)
  yes_not_held (Split p m first second) box leaf fault is at never = absurd (cc)

  -- what is wrong with the leaf of a part is wrong with the tree that it is
  pub fault_leaf : (part : Line) (tree : SplitTree) (box : Box) (leaf : ℕ)
      (why : Stopped NotHeld)
      → (IsHeldOver line script k box → IsHeldOver part script k (declared_box part))
      → root_of tree ≡ node.Yes → OfFault (IsLeafFault part script k leaf) why
      → OfFault (IsNotHeldFrom line script k box tree leaf) why
  fault_leaf part tree box leaf (stopped.Fault fault) back is h =
      yes_not_held tree box leaf fault is h.0 (λ held. h.1 (back held))
  fault_leaf part tree box leaf stopped.Memory back is h = tt

  -- ---- a split

  module _ (box : Box) (param mid : ℕ) (first second : SplitTree) where
    abbrev lower : Box
    lower = lower_half box param mid

    abbrev upper : Box
    upper = upper_half box param mid

    pub walked_split : (passed below between walked : Passed) → CanSplit line box param mid
        → below.nodes ≡ passed.nodes + 1 → below.leaves ≡ passed.leaves
        → IsWalked line script k (lower_half box param mid) first below between
        → IsWalked line script k (upper_half box param mid) second between walked
        → IsWalked line script k box (Split param mid first second) passed walked
    walked_split passed below between walked can nodes count one two = record {
      nodes = omega (
        arith,
        nodes,
        one.nodes,
        two.nodes,
        length-append (preorder first)
            (preorder second),
      );
      leaves = omega (
        arith,
        count,
        one.leaves,
        two.leaves,
        length-append (leaves lower first)
            (leaves upper second),
      );
      sound = (can, (one.sound, two.sound));
    }

    pub fault_first : (leaf : ℕ) (why : Stopped NotHeld)
        → OfFault (IsNotHeldFrom line script k (lower_half box param mid) first leaf) why
        → OfFault (IsNotHeldFrom line script k box (Split param mid first second) leaf) why
    fault_first leaf (stopped.Fault fault) h = record {
      place = h.place;
      is = h.is;
      leaf = not_held_first line script k (leaves lower first) (leaves upper second) h.place h.leaf;
    }
    fault_first leaf stopped.Memory h = tt

    pub fault_second : (below between : Passed) (why : Stopped NotHeld)
        → IsWalked line script k (lower_half box param mid) first below between
        → OfFault (IsNotHeldFrom line script k (upper_half box param mid) second between.leaves) why
        → OfFault (IsNotHeldFrom line script k box (Split param mid first second) below.leaves) why
    fault_second below between (stopped.Fault fault) one h = record {
      place = length (leaves lower first) + h.place;
      is = omega (arith, h.is, one.leaves);
      leaf = not_held_second line script k (leaves lower first) (leaves upper second) h.place
          (sound_held line script k first lower one.sound) h.leaf;
    }
    fault_second below between stopped.Memory one h = tt
