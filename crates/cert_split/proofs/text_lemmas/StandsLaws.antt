-- A line says one thing, and what it says has one text.
use Rattle.std.proofs.Common.{◌≡◌, ◌<◌, ◌^◌, ℕ, List, drop, refl, sym, ◌∙◌, ap, arith}
use Rattle.std.proofs.Common.{decimal}
use Rattle.model_line.specs.declared.line.Line.{Line}
use Rattle.model_line.specs.NamesByNumber.{parameter_name}
use Rattle.model_logic.specs.Choice.{Box}
use Rattle.judge_split.specs.declared.node.Node.{Node}
use Rattle.judge_split.specs.declared.node.Node.TheVariants as node
use Rattle.base_text.specs.lines.NamedLaws.{first_same}
use Rattle.cert_claims.specs.{text.Grammar.no_words, text.NumberLaws.numbers_tell}
use Rattle.cert_split.specs.text.Known.{Known}
use Rattle.cert_split.specs.text.Grammar.{Place, fixed, result_over, node_over, Stands, deepest}
use Rattle.cert_split.specs.text.Grammar.{Said}
use Rattle.cert_split.specs.text.Grammar.{says_nothing, says_fails, says_node, MayStand, IsResult}
use Rattle.cert_split.specs.text.Grammar.{node_text, split_line}
use Rattle.cert_split.specs.text.StretchLaws.{backs_tell}
use Rattle.cert_split.specs.text.NumberLaws.{IsSpace, no_space, one_number}
use Rattle.cert_split.specs.text.ParamLaws.{one_param}

-- ---- nodes

-- the line of a split tells its name and its middle
one_split : (name other : List ℕ) (mid middle : ℕ) → mid < 2 ^ 32 → middle < 2 ^ 32
    → split_line name mid ≡ split_line other middle → (name ≡ other) × (mid ≡ middle)
one_split name other mid middle small little same =
    let parts = backs_tell IsSpace name other (decimal mid) (decimal middle) 32 32 refl refl
    (no_space mid small) (no_space middle little) (ap (drop 6) same) in
    (parts.0, one_number mid middle small little parts.1)

one_node : Known → (line : Line) (n m : ℕ) (box other : Box) (a b : Node) → MayStand line n box a
    → MayStand line m other b → node_text line a ≡ node_text line b → a ≡ b
one_node known line n m box other node.Yes node.Yes may can same = refl
one_node known line n m box other node.Yes node.Undecided may can same =
    absurd (let e : ◌≡◌ {A = ℕ} 121 117 = first_same _ _ same in omega arith)
one_node known line n m box other node.Yes (node.Split p mid) may can same =
    absurd (let e : ◌≡◌ {A = ℕ} 121 115 = first_same _ _ same in omega arith)
one_node known line n m box other node.Undecided node.Yes may can same =
    absurd (let e : ◌≡◌ {A = ℕ} 117 121 = first_same _ _ same in omega arith)
one_node known line n m box other node.Undecided node.Undecided may can same = refl
one_node known line n m box other node.Undecided (node.Split p mid) may can same =
    absurd (let e : ◌≡◌ {A = ℕ} 117 115 = first_same _ _ same in omega arith)
one_node known line n m box other (node.Split p mid) node.Yes may can same =
    absurd (let e : ◌≡◌ {A = ℕ} 115 121 = first_same _ _ same in omega arith)
one_node known line n m box other (node.Split p mid) node.Undecided may can same =
    absurd (let e : ◌≡◌ {A = ℕ} 115 117 = first_same _ _ same in omega arith)
one_node known line n m box other (node.Split p mid) (node.Split q middle) may can same =
    let parts = one_split (parameter_name line p) (parameter_name line q) mid middle may.number
    can.number same in
    let param : p ≡ q =
    one_param line (known.names line) p q may.can.exists can.can.exists parts.0 in
    ap (λ (i : ℕ). node.Split i mid) param ∙ ap (λ (i : ℕ). node.Split q i) parts.1

-- the line of a `no` is no node's
no_and_node : (line : Line) (numbers : List ℕ) (root : Node)
    → ¬ (no_words numbers ≡ node_text line root)
no_and_node line numbers node.Yes same =
    let e : ◌≡◌ {A = ℕ} 110 121 = first_same _ _ same in omega arith
no_and_node line numbers node.Undecided same =
    let e : ◌≡◌ {A = ℕ} 110 117 = first_same _ _ same in omega arith
no_and_node line numbers (node.Split p mid) same =
    let e : ◌≡◌ {A = ℕ} 110 115 = first_same _ _ same in omega arith

-- ---- places

one_result : Known → (line : Line) (box : Box) (m n : Said) (text : List ℕ)
    → IsResult line box m text → IsResult line box n text → m ≡ n
one_result known line box says_nothing n text a b = absurd a
one_result known line box (says_fails ns) says_nothing text a b = absurd b
one_result known line box (says_fails ns) (says_fails ms) text a b =
    ap says_fails (numbers_tell ns ms a.0.small b.0.small (ap (drop 2) (sym a.1 ∙ b.1)))
one_result known line box (says_fails ns) (says_node r) text a b =
    absurd (no_and_node line ns r (sym a.1 ∙ b.1))
one_result known line box (says_node r) says_nothing text a b = absurd b
one_result known line box (says_node r) (says_fails ms) text a b =
    absurd (no_and_node line ms r (sym b.1 ∙ a.1))
one_result known line box (says_node r) (says_node t) text a b =
    ap says_node (one_node known line deepest deepest box box r t a.0 b.0 (sym a.1 ∙ b.1))

pub stands_once : Known → (line : Line) (place : Place) (m n : Said) (text : List ℕ)
    → Stands line place m text → Stands line place n text → m ≡ n
stands_once known line (fixed t) m n text a b = a.0 ∙ sym b.0
stands_once known line (result_over box) m n text a b = one_result known line box m n text a b
stands_once known line (node_over d box) says_nothing n text a b = absurd a
stands_once known line (node_over d box) (says_fails ns) n text a b = absurd a
stands_once known line (node_over d box) (says_node r) says_nothing text a b = absurd b
stands_once known line (node_over d box) (says_node r) (says_fails ms) text a b = absurd b
stands_once known line (node_over d box) (says_node r) (says_node t) text a b =
    ap says_node (one_node known line d d box box r t a.0 b.0 (sym a.1 ∙ b.1))

pub stands_as : (line : Line) (place : Place) (m : Said) (text other : List ℕ)
    → Stands line place m text → Stands line place m other → text ≡ other
stands_as line (fixed t) m text other a b = a.1 ∙ sym b.1
stands_as line (result_over box) says_nothing text other a b = absurd a
stands_as line (result_over box) (says_fails ns) text other a b = a.1 ∙ sym b.1
stands_as line (result_over box) (says_node r) text other a b = a.1 ∙ sym b.1
stands_as line (node_over d box) says_nothing text other a b = absurd a
stands_as line (node_over d box) (says_fails ns) text other a b = absurd a
stands_as line (node_over d box) (says_node r) text other a b = a.1 ∙ sym b.1
