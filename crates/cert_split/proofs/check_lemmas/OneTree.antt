-- Nodes in preorder are those of one tree.
use Rattle.std.proofs.Common.{◌≡◌, ℕ, List, [], ◌++◌, sym, ◌∙◌, append_assoc}
use Rattle.std.proofs.Common.{refl}
use Rattle.std.proofs.lemmas.List.{append-nil}
use Rattle.model_history.specs.BelowLaws.{neither_below}
use Rattle.model_line.specs.{declared.line.Line.Line, declared.script.Script.Script}
use Rattle.judge_split.specs.declared.node.Node.{Node}
use Rattle.judge_split.specs.declared.node.Node.TheVariants as node
use Rattle.judge_split.specs.Trees.{SplitTree, Yes, Undecided, Split, preorder}
use Rattle.judge_split.specs.Leaves.{Leaf}
use Rattle.cert_split.specs.check.FirstLeaf.{IsFirstNotHeld}

-- one tree stands at the head of a list of nodes
head_tree : (t u : SplitTree) (a b : List Node) → preorder t ++ a ≡ preorder u ++ b
    → (t ≡ u) × (a ≡ b)
head_tree Yes Yes a b same = (refl, cc)
head_tree Yes Undecided a b same = absurd (cc)
head_tree Yes (Split q n second other) a b same = absurd (cc)
head_tree Undecided Yes a b same = absurd (cc)
head_tree Undecided Undecided a b same = (refl, cc)
head_tree Undecided (Split q n second other) a b same = absurd (cc)
head_tree (Split p m first last) Yes a b same = absurd (cc)
head_tree (Split p m first last) Undecided a b same = absurd (cc)
head_tree (Split p m first last) (Split q n second other) a b same =
    let root : node.Split p m ≡ node.Split q n = cc in
    let param : p ≡ q = cc in
    let mid : m ≡ n = cc in
    let below : (preorder first ++ preorder last) ++ a ≡ (preorder second ++ preorder other) ++ b =
    cc in
    let lower = head_tree first second (preorder last ++ a) (preorder other ++ b)
    (sym (append_assoc (preorder first) (preorder last) a) ∙ below
    ∙ append_assoc (preorder second) (preorder other) b) in
    let upper = head_tree last other a b lower.1 in
    let low : first ≡ second = lower.0 in
    let high : last ≡ other = upper.0 in
    (cc, upper.1)

pub one_tree : (t u : SplitTree) (nodes : List Node) → nodes ≡ preorder t → nodes ≡ preorder u
    → t ≡ u
one_tree t u nodes is are =
    (head_tree t u [] [] (append-nil (preorder t) ∙ sym is ∙ are ∙ sym (append-nil (preorder u)))).0

-- one leaf is the first that is yes and not held
pub leaf_once : (line : Line) (script : Script) (k : ℕ) (all : List Leaf) (n m : ℕ)
    → IsFirstNotHeld line script k all n → IsFirstNotHeld line script k all m → n ≡ m
leaf_once line script k all n m a b =
    neither_below n m (λ lt. a.not_held (b.before n a.leaf lt a.at a.yes))
    (λ lt. b.not_held (a.before m b.leaf lt b.at b.yes))
