-- Lines of a tree, read one after another.
use Rattle.std.proofs.Common.{◌≡◌, ◌-◌, ℕ, List, [], ◌∷◌, ◌++◌, map, refl, sym, ◌∙◌, ap, subst}
use Rattle.std.proofs.Common.{arith, append_assoc}
use Rattle.std.proofs.lemmas.List.{map-append}
use Rattle.model_line.specs.declared.line.Line.{Line}
use Rattle.model_logic.specs.Choice.{Box}
use Rattle.base_memory.specs.declared.stopped.Stopped.{Stopped}
use Rattle.base_text.specs.declared.lines.fault.TextFault.{TextFault}
use Rattle.base_text.specs.{lines.LineLaws.goes_then, lines.Grammar.IsFault}
use Rattle.judge_split.specs.declared.node.Node.{Node}
use Rattle.judge_split.specs.declared.node.Node.TheVariants as node
use Rattle.judge_split.specs.Trees.{Yes, Undecided, Split, preorder}
use Rattle.model_logic.specs.Boxes.{lower_half, upper_half}
use Rattle.cert_split.specs.text.Reading.{IsBelow, IsOver}
use Rattle.cert_split.specs.text.Grammar.{Place, node_over, Said, says_node, Stands, opens, below}
use Rattle.cert_split.specs.text.Grammar.{MayStand, MaySplit, grammar_of}
use Rattle.cert_split.proofs.text_lemmas.ReadLaws.{GoesOn}

-- what a split that can stand says, of a root that is one
pub split_can : (line : Line) (n : ℕ) (box : Box) (root : Node) (param mid : ℕ)
    → root ≡ node.Split param mid → MayStand line n box root
    → MaySplit line n box param mid
split_can line n box root param mid is may =
    subst (λ (r : Node). MayStand line n box r) is may

-- below a split, a tree over each half is expected
pub halves_fault : (line : Line) (n : ℕ) (box : Box) (root : Node) (param mid : ℕ)
    (later : List Place) (text : List ℕ) (a : ℕ) (f : Stopped TextFault)
    → root ≡ node.Split param mid
    → IsFault (grammar_of line) (node_over (n - 1) (lower_half box param mid)
    ∷ (node_over (n - 1) (upper_half box param mid) ∷ later)) text a f
    → IsFault (grammar_of line) (below n box root ++ later) text a f
halves_fault line n box root param mid later text a f is h =
    subst (λ (r : Node). IsFault (grammar_of line) (below n box r ++ later) text a f) (sym is) h

-- a leaf has nothing below it
pub below_yes : (line : Line) (n : ℕ) (box : Box) (root : Node) (old new : List Node)
    (text : List ℕ) (a : ℕ) (later : List Place) → root ≡ node.Yes → new ≡ old ++ root ∷ []
    → IsBelow line n box root old new text a later text a
below_yes line n box root old new text a later is added =
    subst (λ (r : Node). IsBelow line n box r old new text a later text a) (sym is) (record {
      tree = Yes;
      more = [];
      is = refl;
      nodes = added ∙ ap (λ (r : Node). old ++ r ∷ []) is;
      splits = tt;
      low = omega arith;
      reads = record { lines = (refl, refl); number = omega arith };
    })

pub below_undecided : (line : Line) (n : ℕ) (box : Box) (root : Node) (old new : List Node)
    (text : List ℕ) (a : ℕ) (later : List Place) → root ≡ node.Undecided
    → new ≡ old ++ root ∷ [] → IsBelow line n box root old new text a later text a
below_undecided line n box root old new text a later is added =
    subst (λ (r : Node). IsBelow line n box r old new text a later text a) (sym is) (record {
      tree = Undecided;
      more = [];
      is = refl;
      nodes = added ∙ ap (λ (r : Node). old ++ r ∷ []) is;
      splits = tt;
      low = omega arith;
      reads = record { lines = (refl, refl); number = omega arith };
    })

-- a node and what is below it
pub whole_tree : (line : Line) (n : ℕ) (box : Box) (root : Node) (old new : List Node)
    (places : List Place) (text : List ℕ) (a : ℕ) (at : List ℕ) (b : ℕ) (later : List Place)
    (rest : List ℕ) (c : ℕ)
    → GoesOn line places (says_node root ∷ []) text a (below n box root ++ later) at b
    → (is : IsBelow line n box root old new at b later rest c)
    → GoesOn line places (map says_node (preorder is.tree)) text a later rest c
whole_tree line n box root old new places text a at b later rest c g is =
    let P : List Node → Type 0 = λ l. GoesOn line places (map says_node l) text a later rest c in
    subst P (sym is.is) (goes_then (Stands line) opens places (says_node root ∷ []) text a
    (below n box root ++ later) at b (map says_node is.more) later rest c g is.reads)

pub below_split : (line : Line) (n : ℕ) (box : Box) (root : Node) (param mid : ℕ)
    (old one two three : List Node) (later : List Place) (text : List ℕ) (a : ℕ)
    (at : List ℕ) (b : ℕ) (rest : List ℕ) (c : ℕ)
    → root ≡ node.Split param mid → MaySplit line n box param mid → one ≡ old ++ root ∷ []
    → IsOver line (n - 1) (lower_half box param mid) one two text a
    (node_over (n - 1) (upper_half box param mid) ∷ later) at b
    → IsOver line (n - 1) (upper_half box param mid) two three at b later rest c
    → IsBelow line n box root old three text a later rest c
below_split line n box root param mid old one two three later text a at b rest c is can added lower
    upper =
    let pre : List Node = preorder lower.tree in
    let post : List Node = preorder upper.tree in
    let last : List Place = node_over (n - 1) (upper_half box param mid) ∷ later in
    let places : List Place = node_over (n - 1) (lower_half box param mid) ∷ last in
    let P : List Said → Type 0 = λ l. GoesOn line places l text a later rest c in
    subst (λ (r : Node). IsBelow line n box r old three text a later rest c) (sym is) (record {
      tree = Split param mid lower.tree upper.tree;
      more = pre ++ post;
      is = refl;
      nodes = upper.nodes ∙ ap (λ (l : List Node). l ++ post)
          (lower.nodes ∙ ap (λ (l : List Node). l ++ pre)
          (added ∙ ap (λ (r : Node). old ++ r ∷ []) is))
          ∙ append_assoc (old ++ node.Split param mid ∷ []) pre post
          ∙ append_assoc old (node.Split param mid ∷ []) (pre ++ post);
      splits = (can.can, (lower.splits, upper.splits));
      low = (let x = lower.low in let y = upper.low in let some = can.left in grind arith);
      reads = subst P (sym (map-append says_node pre post))
          (goes_then (Stands line) opens places (map says_node pre) text a last at b
          (map says_node post) later rest c lower.reads upper.reads);
    })
