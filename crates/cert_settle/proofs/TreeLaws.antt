-- Lines of a tree, read one after another.
use Rattle.std.proofs.Common.{◌≡◌, ◌≢◌, ◌-◌, ℕ, List, [], ◌∷◌, ◌++◌, map, refl, sym}
use Rattle.std.proofs.Common.{◌∙◌, ap}
use Rattle.std.proofs.Common.{subst, arith, append_assoc}
use Rattle.std.proofs.lemmas.List.{map-append}
use Rattle.model_line.specs.declared.line.Line.{Line}
use Rattle.model_settle.specs.CaseTrees.{CaseTree, Yes, Undecided, Parted, Wanted}
use Rattle.model_logic.specs.Boxes.{lower_half}
use Rattle.model_settle.specs.Parts.{upper_from}
use Rattle.judge_cases.specs.AssumedAt.{span_at}
use Rattle.base_memory.specs.declared.stopped.Stopped.{Stopped}
use Rattle.base_text.specs.declared.lines.fault.TextFault.{TextFault}
use Rattle.base_text.specs.{lines.LineLaws.goes_then, lines.Grammar.IsFault}
use Rattle.judge_cases.specs.declared.node.CaseNode.{CaseNode}
use Rattle.judge_cases.specs.declared.node.CaseNode.TheVariants as node
use Rattle.judge_cases.specs.Nodes.{preorder}
use Rattle.cert_settle.specs.Reading.{GoesOn, IsBelow, IsOver, AreTwo}
use Rattle.cert_settle.specs.Grammar.{Place, Root, Said, says_nothing, says_step, says_no}
use Rattle.cert_settle.specs.Grammar.{says_node, Stands, opens, expected, IsNode, node_text}
use Rattle.cert_settle.specs.Grammar.{MayStand, MayPart, MayTell, grammar_of, after_node}

-- what a part or a pair of cases that can stand says, of a root that is one
pub part_can : (line : Line) (room : ℕ) (root : Root) (n : CaseNode) (param mid : ℕ)
    → n ≡ node.Parted param mid → MayStand line room root n → MayPart line room root param mid
part_can line room root n param mid is may =
    subst (λ (r : CaseNode). MayStand line room root r) is may

pub tell_can : (line : Line) (room : ℕ) (root : Root) (n : CaseNode) (terminal from to : ℕ)
    → n ≡ node.Wanted terminal from to → MayStand line room root n
    → MayTell line room root terminal from to
tell_can line room root n terminal from to is may =
    subst (λ (r : CaseNode). MayStand line room root r) is may

-- below a node, what it opens is expected
pub below_fault : (line : Line) (room : ℕ) (root : Root) (others : List Root) (n m : CaseNode)
    (later : List Place) (text : List ℕ) (a : ℕ) (f : Stopped TextFault) → n ≡ m
    → IsFault (grammar_of line) (after_node room root others m ++ later) text a f
    → IsFault (grammar_of line) (after_node room root others n ++ later) text a f
below_fault line room root others n m later text a f is h =
    subst (λ (r : CaseNode). IsFault (grammar_of line) (after_node room root others r ++ later) text a f)
    (sym is) h

-- a leaf has nothing below it
pub below_yes : (line : Line) (room : ℕ) (root : Root) (n : CaseNode) (old new : List CaseNode)
    (others : List Root) (text : List ℕ) (a : ℕ) (later : List Place) → n ≡ node.Yes
    → new ≡ old ++ n ∷ [] → IsBelow line root n room room old new others text a later text a
below_yes line room root n old new others text a later is added =
    subst (λ (r : CaseNode). IsBelow line root r room room old new others text a later text a) (sym is)
    (record {
      is = record {
        tree = Yes;
        nodes = added ∙ ap (λ (r : CaseNode). old ++ r ∷ []) is;
        branches = tt;
        low = omega arith;
        spent = omega arith;
      };
      more = [];
      begins = refl;
      reads = record { lines = (refl, refl); number = omega arith };
    })

pub below_undecided : (line : Line) (room : ℕ) (root : Root) (n : CaseNode)
    (old new : List CaseNode) (others : List Root) (text : List ℕ) (a : ℕ) (later : List Place)
    → n ≡ node.Undecided → new ≡ old ++ n ∷ []
    → IsBelow line root n room room old new others text a later text a
below_undecided line room root n old new others text a later is added =
    subst (λ (r : CaseNode). IsBelow line root r room room old new others text a later text a) (sym is)
    (record {
      is = record {
        tree = Undecided;
        nodes = added ∙ ap (λ (r : CaseNode). old ++ r ∷ []) is;
        branches = tt;
        low = omega arith;
        spent = omega arith;
      };
      more = [];
      begins = refl;
      reads = record { lines = (refl, refl); number = omega arith };
    })

-- a node and what is below it
pub whole_tree : (line : Line) (places : List Place) (room left : ℕ) (root : Root) (n : CaseNode)
    (old new : List CaseNode) (others : List Root) (text : List ℕ) (a : ℕ) (at : List ℕ) (b : ℕ)
    (later : List Place) (rest : List ℕ) (c : ℕ)
    → GoesOn line places (says_node n ∷ []) text a (after_node room root others n ++ later) at b
    → (is : IsBelow line root n room left old new others at b later rest c)
    → GoesOn line places (map says_node (preorder is.is.tree)) text a
    (expected left others ++ later) rest c
whole_tree line places room left root n old new others text a at b later rest c g is =
    let P : List CaseNode → Type 0 = λ l. GoesOn line places (map says_node l) text a
    (expected left others ++ later) rest c in
    subst P (sym is.begins) (goes_then (Stands line) opens places (says_node n ∷ []) text a
    (after_node room root others n ++ later) at b (map says_node is.more)
    (expected left others ++ later) rest c g is.reads)

-- two trees, one after the other
pub two_trees : (line : Line) (lower upper : Root) (room middle left : ℕ)
    (old between new : List CaseNode) (others : List Root) (text : List ℕ) (a : ℕ) (at : List ℕ)
    (b : ℕ) (later : List Place) (rest : List ℕ) (c : ℕ)
    → IsOver line lower room middle old between (upper ∷ others) text a later at b
    → IsOver line upper middle left between new others at b later rest c
    → AreTwo line lower upper room left old new others text a later rest c
two_trees line lower upper room middle left old between new others text a at b later rest c one two =
    let pre : List CaseNode = preorder one.is.tree in
    let post : List CaseNode = preorder two.is.tree in
    let places : List Place = expected room (lower ∷ (upper ∷ others)) ++ later in
    let P : List Said → Type 0 = λ l. GoesOn line places l text a (expected left others ++ later)
    rest c in
    record {
      middle = middle;
      between = between;
      one = one.is;
      two = two.is;
      reads = subst P (sym (map-append says_node pre post))
          (goes_then (Stands line) opens places (map says_node pre) text a
          (expected middle (upper ∷ others) ++ later) at b (map says_node post)
          (expected left others ++ later) rest c one.reads two.reads);
    }

-- the nodes of a root and of two trees
added_nodes : (n : CaseNode) (old one between new pre post : List CaseNode) → one ≡ old ++ n ∷ []
    → between ≡ one ++ pre → new ≡ between ++ post → new ≡ old ++ (n ∷ (pre ++ post))
added_nodes n old one between new pre post a b c =
    c ∙ ap (λ (l : List CaseNode). l ++ post) (b ∙ ap (λ (l : List CaseNode). l ++ pre) a)
    ∙ append_assoc (old ++ n ∷ []) pre post
    ∙ append_assoc old (n ∷ []) (pre ++ post)

pub below_part : (line : Line) (room left : ℕ) (root : Root) (n : CaseNode) (param mid : ℕ)
    (old one new : List CaseNode) (others : List Root) (text : List ℕ) (a : ℕ)
    (later : List Place) (rest : List ℕ) (c : ℕ) → n ≡ node.Parted param mid
    → MayPart line room root param mid → one ≡ old ++ n ∷ []
    → AreTwo line (record { depth = root.depth - 1; box = lower_half root.box param mid })
    (record { depth = root.depth - 1; box = upper_from root.box param mid })
    (room - 1) left one new others text a later rest c
    → IsBelow line root n room left old new others text a later rest c
below_part line room left root n param mid old one new others text a later rest c is can added two =
    let first : CaseTree = two.one.tree in
    let second : CaseTree = two.two.tree in
    subst (λ (r : CaseNode). IsBelow line root r room left old new others text a later rest c)
    (sym is) (record {
      is = record {
        tree = Parted param mid first second;
        nodes = added_nodes (node.Parted param mid) old one two.between new (preorder first)
            (preorder second) (added ∙ ap (λ (r : CaseNode). old ++ r ∷ []) is) two.one.nodes
            two.two.nodes;
        branches = (can.can, (two.one.branches, two.two.branches));
        low = (let x = two.one.low in let y = two.two.low in let some = can.left.deep in grind arith);
        spent = (let x = two.one.spent in let y = two.two.spent in let some = can.left.many in
            omega arith);
      };
      more = preorder first ++ preorder second;
      begins = refl;
      reads = two.reads;
    })

pub below_span : (line : Line) (room left : ℕ) (root : Root) (n : CaseNode) (terminal from to : ℕ)
    (old one new : List CaseNode) (others : List Root) (text : List ℕ) (a : ℕ)
    (later : List Place) (rest : List ℕ) (c : ℕ) → n ≡ node.Wanted terminal from to
    → MayTell line room root terminal from to → one ≡ old ++ n ∷ []
    → AreTwo line (record { depth = root.depth - 1; box = root.box })
    (record { depth = root.depth - 1; box = root.box })
    (room - 1) left one new others text a later rest c
    → IsBelow line root n room left old new others text a later rest c
below_span line room left root n terminal from to old one new others text a later rest c is can added
    two =
    let first : CaseTree = two.one.tree in
    let second : CaseTree = two.two.tree in
    subst (λ (r : CaseNode). IsBelow line root r room left old new others text a later rest c)
    (sym is) (record {
      is = record {
        tree = Wanted (span_at terminal from to) first second;
        nodes = added_nodes (node.Wanted terminal from to) old one two.between new (preorder first)
            (preorder second) (added ∙ ap (λ (r : CaseNode). old ++ r ∷ []) is) two.one.nodes
            two.two.nodes;
        branches = (can.can, (two.one.branches, two.two.branches));
        low = (let x = two.one.low in let y = two.two.low in let some = can.left.deep in grind arith);
        spent = (let x = two.one.spent in let y = two.two.spent in let some = can.left.many in
            omega arith);
      };
      more = preorder first ++ preorder second;
      begins = refl;
      reads = two.reads;
    })

-- a line that no root has
pub not_root : (line : Line) (room : ℕ) (root : Root) (bytes : List ℕ)
    → ((n : CaseNode) → MayStand line room root n → bytes ≢ node_text line n)
    → (said : Said) → ¬ (IsNode line room root said bytes)
not_root line room root bytes never says_nothing is = is
not_root line room root bytes never (says_step step) is = is
not_root line room root bytes never (says_no numbers) is = is
not_root line room root bytes never (says_node n) is = never n is.0 is.1
