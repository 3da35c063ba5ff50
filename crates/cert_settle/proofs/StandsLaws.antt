-- A line says one thing, and what it says has one text.
use Rattle.std.proofs.Common.{◌≡◌, ◌<◌, ◌^◌, ℕ, List, [], refl, sym, ◌∙◌, ap, arith, drop}
use Rattle.std.proofs.Common.{◌⊎◌, inl, inr, subst}
use Rattle.model_line.specs.{declared.line.Line.Line, Parameters.param_count}
use Rattle.model_timing.specs.{declared.step.Step.Step, Inside.IsStepInside}
use Rattle.model_line.specs.NamesByNumber.{parameter_name}
use Rattle.model_settle.specs.Assumed.{HasSpan}
use Rattle.judge_cases.specs.AssumedAt.{span_at}
use Rattle.std.specs.Prelude.{codes}
use Rattle.cert_split.specs.text.ParamLaws.{one_param}
use Rattle.base_text.specs.lines.NamedLaws.{first_same}
use Rattle.cert_claims.specs.{text.Grammar.no_words, text.Grammar.AreNumbers, text.NumberLaws.numbers_tell}
use Rattle.judge_cases.specs.declared.node.CaseNode.{CaseNode}
use Rattle.judge_cases.specs.declared.node.CaseNode.TheVariants as node
use Rattle.cert_settle.specs.Known.{Known}
use Rattle.cert_settle.specs.Grammar.{Place, fixed, result_over, roots, after_step, Stands}
use Rattle.cert_settle.specs.Grammar.{Said, says_nothing, says_step, says_no, says_node}
use Rattle.cert_settle.specs.Grammar.{MayStand, node_text, step_text, Root, name_of_terminal}
use Rattle.cert_settle.proofs.LineLaws.{one_named, one_span, span_small, one_terminal, one_step}

-- ---- what a line can say wherever it stands

abbrev pub IsOfLine : Line → CaseNode → Type 0
IsOfLine line node.Yes = Unit {0}
IsOfLine line node.Undecided = Unit {0}
IsOfLine line (node.Parted param mid) = (param < param_count line) × (mid < 2 ^ 32)
IsOfLine line (node.Wanted terminal from to) = HasSpan line (span_at terminal from to)

abbrev IsSaid : Line → Said → Type 0
IsSaid line says_nothing = ⊥
IsSaid line (says_step step) = IsStepInside line step
IsSaid line (says_no numbers) = AreNumbers (param_count line) numbers
IsSaid line (says_node root) = IsOfLine line root

abbrev said_text : Line → Said → List ℕ
said_text line says_nothing = []
said_text line (says_step step) = step_text line step
said_text line (says_no numbers) = no_words numbers
said_text line (says_node root) = node_text line root

pub of_line : (line : Line) (room : ℕ) (root : Root) (n : CaseNode) → MayStand line room root n
    → IsOfLine line n
of_line line room root node.Yes may = tt
of_line line room root node.Undecided may = tt
of_line line room root (node.Parted param mid) may = (may.can.exists, may.number)
of_line line room root (node.Wanted terminal from to) may = may.can

says : (line : Line) (place : Place) (m : Said) (text : List ℕ) → Stands line place m text
    → ((word : List ℕ) → ¬ (place ≡ fixed word)) → IsSaid line m × (text ≡ said_text line m)
says line (fixed word) m text is other = absurd (other word refl)
says line (result_over box) says_nothing text is other = absurd is
says line (result_over box) (says_step step) text is other = (is.0, is.1.1)
says line (result_over box) (says_no numbers) text is other = is
says line (result_over box) (says_node n) text is other = (of_line line _ _ n is.0, is.1)
says line (roots room root others) says_nothing text is other = absurd is
says line (roots room root others) (says_step step) text is other = absurd is
says line (roots room root others) (says_no numbers) text is other = absurd is
says line (roots room root others) (says_node n) text is other =
    (of_line line room root n is.0, is.1)
says line (after_step before) says_nothing text is other = absurd is
says line (after_step before) (says_step step) text is other = (is.0, is.1.1)
says line (after_step before) (says_no numbers) text is other = is
says line (after_step before) (says_node n) text is other = absurd is

-- ---- nodes

module _ (known : Known) (line : Line) where
  one_node : (a b : CaseNode) → IsOfLine line a → IsOfLine line b
      → node_text line a ≡ node_text line b → a ≡ b
  one_node node.Yes node.Yes may can same = refl
  one_node node.Yes node.Undecided may can same =
      absurd (let e : ◌≡◌ {A = ℕ} 121 117 = first_same _ _ same in omega arith)
  one_node node.Yes (node.Parted q middle) may can same =
      absurd (let e : ◌≡◌ {A = ℕ} 121 112 = first_same _ _ same in omega arith)
  one_node node.Yes (node.Wanted l since until) may can same =
      absurd (let e : ◌≡◌ {A = ℕ} 121 111 = first_same _ _ same in omega arith)
  one_node node.Undecided node.Yes may can same =
      absurd (let e : ◌≡◌ {A = ℕ} 117 121 = first_same _ _ same in omega arith)
  one_node node.Undecided node.Undecided may can same = refl
  one_node node.Undecided (node.Parted q middle) may can same =
      absurd (let e : ◌≡◌ {A = ℕ} 117 112 = first_same _ _ same in omega arith)
  one_node node.Undecided (node.Wanted l since until) may can same =
      absurd (let e : ◌≡◌ {A = ℕ} 117 111 = first_same _ _ same in omega arith)
  one_node (node.Parted p mid) node.Yes may can same =
      absurd (let e : ◌≡◌ {A = ℕ} 112 121 = first_same _ _ same in omega arith)
  one_node (node.Parted p mid) node.Undecided may can same =
      absurd (let e : ◌≡◌ {A = ℕ} 112 117 = first_same _ _ same in omega arith)
  one_node (node.Parted p mid) (node.Parted q middle) may can same =
      let parts = one_named (codes "part") (parameter_name line p) (parameter_name line q) mid middle
      may.1 can.1 same in
      let param : p ≡ q = one_param line (known.names line) p q may.0 can.0 parts.0 in
      ap (λ (i : ℕ). node.Parted i mid) param ∙ ap (λ (i : ℕ). node.Parted q i) parts.1
  one_node (node.Parted p mid) (node.Wanted l since until) may can same =
      absurd (let e : ◌≡◌ {A = ℕ} 112 111 = first_same _ _ same in omega arith)
  one_node (node.Wanted k from to) node.Yes may can same =
      absurd (let e : ◌≡◌ {A = ℕ} 111 121 = first_same _ _ same in omega arith)
  one_node (node.Wanted k from to) node.Undecided may can same =
      absurd (let e : ◌≡◌ {A = ℕ} 111 117 = first_same _ _ same in omega arith)
  one_node (node.Wanted k from to) (node.Parted q middle) may can same =
      absurd (let e : ◌≡◌ {A = ℕ} 111 112 = first_same _ _ same in omega arith)
  one_node (node.Wanted k from to) (node.Wanted l since until) may can same =
      let small = span_small line k from to may in
      let little = span_small line l since until can in
      let parts = one_span (name_of_terminal line k) (name_of_terminal line l) from since to until
      small.0 little.0 small.1 little.1 same in
      let terminal : k ≡ l = one_terminal line k l may.exists can.exists parts.0 in
      ap (λ (i : ℕ). node.Wanted i from to) terminal
      ∙ ap (λ (i : ℕ). node.Wanted l i to) parts.1.0
      ∙ ap (λ (i : ℕ). node.Wanted l since i) parts.1.1

  -- the line of a `no` is no node's, and that of a step neither
  no_and_node : (numbers : List ℕ) (root : CaseNode) → ¬ (no_words numbers ≡ node_text line root)
  no_and_node numbers node.Yes same =
      let e : ◌≡◌ {A = ℕ} 110 121 = first_same _ _ same in omega arith
  no_and_node numbers node.Undecided same =
      let e : ◌≡◌ {A = ℕ} 110 117 = first_same _ _ same in omega arith
  no_and_node numbers (node.Parted p mid) same =
      let e : ◌≡◌ {A = ℕ} 110 112 = first_same _ _ same in omega arith
  no_and_node numbers (node.Wanted k from to) same =
      let e : ◌≡◌ {A = ℕ} 110 111 = first_same _ _ same in omega arith

  step_and_node : (step : Step ℕ) (root : CaseNode) → ¬ (step_text line step ≡ node_text line root)
  step_and_node step node.Yes same =
      let e : ◌≡◌ {A = ℕ} 115 121 = first_same _ _ same in omega arith
  step_and_node step node.Undecided same =
      let e : ◌≡◌ {A = ℕ} 115 117 = first_same _ _ same in omega arith
  step_and_node step (node.Parted p mid) same =
      let e : ◌≡◌ {A = ℕ} 115 112 = first_same _ _ same in omega arith
  step_and_node step (node.Wanted k from to) same =
      let e : ◌≡◌ {A = ℕ} 115 111 = first_same _ _ same in omega arith

  no_and_step : (numbers : List ℕ) (step : Step ℕ) → ¬ (no_words numbers ≡ step_text line step)
  no_and_step numbers step same =
      let e : ◌≡◌ {A = ℕ} 110 115 = first_same _ _ same in omega arith

  said_once : (m n : Said) → IsSaid line m → IsSaid line n → said_text line m ≡ said_text line n
      → m ≡ n
  said_once says_nothing n a b same = absurd a
  said_once (says_step s) says_nothing a b same = absurd b
  said_once (says_step s) (says_step t) a b same = ap says_step (one_step known line s t a b same)
  said_once (says_step s) (says_no ns) a b same = absurd (no_and_step ns s (sym same))
  said_once (says_step s) (says_node r) a b same = absurd (step_and_node s r same)
  said_once (says_no ns) says_nothing a b same = absurd b
  said_once (says_no ns) (says_step t) a b same = absurd (no_and_step ns t same)
  said_once (says_no ns) (says_no ms) a b same =
      ap says_no (numbers_tell ns ms a.small b.small (ap (drop 2) same))
  said_once (says_no ns) (says_node r) a b same = absurd (no_and_node ns r same)
  said_once (says_node r) says_nothing a b same = absurd b
  said_once (says_node r) (says_step t) a b same = absurd (step_and_node t r (sym same))
  said_once (says_node r) (says_no ms) a b same = absurd (no_and_node ms r (sym same))
  said_once (says_node r) (says_node t) a b same = ap says_node (one_node r t a b same)

-- ---- places

fixed_or_not : (place : Place) → ((word : List ℕ) → ¬ (place ≡ fixed word))
    ⊎ ((word : List ℕ) × (place ≡ fixed word))
fixed_or_not (fixed word) = inr (word, refl)
fixed_or_not (result_over box) = inl (λ word e. cc)
fixed_or_not (roots room root others) = inl (λ word e. cc)
fixed_or_not (after_step step) = inl (λ word e. cc)

pub stands_once : Known → (line : Line) (place : Place) (m n : Said) (text : List ℕ)
    → Stands line place m text → Stands line place n text → m ≡ n
stands_once known line place m n text a b =
    elim (fixed_or_not place) [
      | inl apart ↦ (let x = says line place m text a apart in
          let y = says line place n text b apart in
          said_once known line m n x.0 y.0 (sym x.1 ∙ y.1))
      | inr (word, is) ↦ (let x = subst (λ (p : Place). Stands line p m text) is a in
          let y = subst (λ (p : Place). Stands line p n text) is b in
          x.0 ∙ sym y.0)
    ]

pub stands_as : (line : Line) (place : Place) (m : Said) (text other : List ℕ)
    → Stands line place m text → Stands line place m other → text ≡ other
stands_as line place m text other a b =
    elim (fixed_or_not place) [
      | inl apart ↦ (says line place m text a apart).1
          ∙ sym (says line place m other b apart).1
      | inr (word, is) ↦ (let x = subst (λ (p : Place). Stands line p m text) is a in
          let y = subst (λ (p : Place). Stands line p m other) is b in
          x.1 ∙ sym y.1)
    ]
