-- Nodes in preorder are those of one tree.
use Rattle.std.proofs.Common.{◌≡◌, ℕ, List, [], ◌++◌, sym, ◌∙◌, append_assoc}
use Rattle.std.proofs.Common.{refl, ap}
use Rattle.std.proofs.lemmas.List.{append-nil}
use Rattle.model_history.specs.BelowLaws.{neither_below}
use Rattle.model_line.specs.{declared.line.Line.Line, declared.script.Script.Script}
use Rattle.model_settle.specs.CaseTrees.{CaseTree, Yes, Undecided, Parted, Wanted}
use Rattle.model_settle.specs.Assumed.{Span}
use Rattle.judge_cases.specs.AssumedAt.{span_at}
use Rattle.judge_cases.specs.declared.node.CaseNode.{CaseNode}
use Rattle.judge_cases.specs.declared.node.CaseNode.TheVariants as node
use Rattle.judge_cases.specs.Nodes.{preorder}
use Rattle.cert_settle.specs.{CaseParts.Leaf, FirstLeaf.IsFirstNotShown}

same_span : (s u : Span) → s.terminal ≡ u.terminal → s.from ≡ u.from → s.to ≡ u.to → s ≡ u
same_span s u terminal from to =
    ap (λ (x : ℕ). span_at x s.from s.to) terminal ∙ ap (λ (x : ℕ). span_at u.terminal x s.to) from
    ∙ ap (λ (x : ℕ). span_at u.terminal u.from x) to

-- one tree stands at the head of a list of nodes
head_tree : (t u : CaseTree) (a b : List CaseNode) → preorder t ++ a ≡ preorder u ++ b
    → (t ≡ u) × (a ≡ b)
head_tree Yes Yes a b same = (refl, cc)
head_tree Yes Undecided a b same = absurd (cc)
head_tree Yes (Parted q n second other) a b same = absurd (cc)
head_tree Yes (Wanted s second other) a b same = absurd (cc)
head_tree Undecided Yes a b same = absurd (cc)
head_tree Undecided Undecided a b same = (refl, cc)
head_tree Undecided (Parted q n second other) a b same = absurd (cc)
head_tree Undecided (Wanted s second other) a b same = absurd (cc)
head_tree (Parted p m first last) Yes a b same = absurd (cc)
head_tree (Parted p m first last) Undecided a b same = absurd (cc)
head_tree (Parted p m first last) (Wanted s second other) a b same = absurd (cc)
head_tree (Parted p m first last) (Parted q n second other) a b same =
    let root : node.Parted p m ≡ node.Parted q n = cc in
    let param : p ≡ q = cc in
    let mid : m ≡ n = cc in
    let below : (preorder first ++ preorder last) ++ a ≡ (preorder second ++ preorder other) ++ b =
    cc in
    let lower = head_tree first second (preorder last ++ a) (preorder other ++ b)
    (sym (append_assoc (preorder first) (preorder last) a) ∙ below
    ∙ append_assoc (preorder second) (preorder other) b) in
    let upper = head_tree last other a b lower.1 in
    let low : first ≡ second = lower.0 in
    let high : last ≡ other = upper.0 in
    (cc, upper.1)
head_tree (Wanted s first last) Yes a b same = absurd (cc)
head_tree (Wanted s first last) Undecided a b same = absurd (cc)
head_tree (Wanted s first last) (Parted q n second other) a b same = absurd (cc)
head_tree (Wanted s first last) (Wanted u second other) a b same =
    let root : node.Wanted s.terminal s.from s.to ≡ node.Wanted u.terminal u.from u.to = cc in
    let terminal : s.terminal ≡ u.terminal = cc in
    let from : s.from ≡ u.from = cc in
    let to : s.to ≡ u.to = cc in
    let span = same_span s u terminal from to in
    let below : (preorder first ++ preorder last) ++ a ≡ (preorder second ++ preorder other) ++ b =
    cc in
    let throughout = head_tree first second (preorder last ++ a) (preorder other ++ b)
    (sym (append_assoc (preorder first) (preorder last) a) ∙ below
    ∙ append_assoc (preorder second) (preorder other) b) in
    let interrupted = head_tree last other a b throughout.1 in
    let one : first ≡ second = throughout.0 in
    let two : last ≡ other = interrupted.0 in (
      ap (λ (x : Span). Wanted x first last) span ∙ ap (λ (t : CaseTree). Wanted u t last) one
          ∙ ap (λ (t : CaseTree). Wanted u second t) two,
      interrupted.1,
    )

pub one_tree : (t u : CaseTree) (nodes : List CaseNode) → nodes ≡ preorder t → nodes ≡ preorder u
    → t ≡ u
one_tree t u nodes is are =
    (head_tree t u [] [] (append-nil (preorder t) ∙ sym is ∙ are ∙ sym (append-nil (preorder u)))).0

-- one leaf is the first that is yes and not held
pub leaf_once : (line : Line) (script : Script) (k : ℕ) (all : List Leaf) (n m : ℕ)
    → IsFirstNotShown line script k all n → IsFirstNotShown line script k all m → n ≡ m
leaf_once line script k all n m a b =
    neither_below n m (λ lt. a.not_shown (b.before n a.leaf lt a.at a.yes))
    (λ lt. b.not_shown (a.before m b.leaf lt b.at b.yes))
