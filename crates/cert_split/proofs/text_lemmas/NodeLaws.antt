-- What a node's line can say, in a part of a box and in the box.
use Rattle.std.proofs.Common.{◌≡◌, ◌≢◌, ◌<◌, ◌^◌, ◌∙◌, ℕ, List, false, Bool, sym, ap, decimal}
use Rattle.std.proofs.lemmas.Option.{same_Some}
use Rattle.base_text.specs.{store.Number.number_of, store.DecimalLaws.number_of-decimal}
use Rattle.base_text.specs.lines.NamedLaws.{one_text}
use Rattle.std.specs.Prelude.{codes}
use Rattle.std.specs.Bool.{Decides}
use Rattle.model_line.specs.{declared.line.Line.Line, Parameters.param_count}
use Rattle.model_logic.specs.Choice.{Box, declared_box}
use Rattle.judge_split.specs.declared.node.Node.{Node}
use Rattle.judge_split.specs.declared.node.Node.TheVariants as node
use Rattle.model_line.specs.NamesByNumber.{parameter_name}
use Rattle.judge_split.specs.Parts.{IsPart}
use Rattle.model_logic.specs.Boxes.{CanSplit}
use Rattle.cert_split.specs.text.Known.{Known}
use Rattle.cert_split.specs.text.Grammar.{Said, says_nothing, says_fails, says_node, MayStand}
use Rattle.cert_split.specs.text.Grammar.{IsNode}
use Rattle.cert_split.specs.text.Grammar.{node_text, split_line, IsResult, deepest}
use Rattle.cert_claims.specs.text.Grammar.{AreNumbers, no_words}

pub may_in_box : Known → (line part : Line) (n : ℕ) (box : Box) (root : Node) → IsPart line box part
    → MayStand part n (declared_box part) root → MayStand line n box root
may_in_box known line part n box node.Yes p may = tt
may_in_box known line part n box node.Undecided p may = tt
may_in_box known line part n box (node.Split param mid) p may =
    record {
      left = may.left;
      number = may.number;
      can = (known.parts.split line part box param mid p).0 may.can;
    }

pub may_in_part : Known → (line part : Line) (n : ℕ) (box : Box) (root : Node) → IsPart line box part
    → MayStand line n box root → MayStand part n (declared_box part) root
may_in_part known line part n box node.Yes p may = tt
may_in_part known line part n box node.Undecided p may = tt
may_in_part known line part n box (node.Split param mid) p may =
    record {
      left = may.left;
      number = may.number;
      can = (known.parts.split line part box param mid p).1 may.can;
    }

-- a line that is no node's
pub not_node : Known → (line part : Line) (n : ℕ) (box : Box) (bytes : List ℕ) → IsPart line box part
    → ((root : Node) → MayStand part n (declared_box part) root → bytes ≢ node_text line root)
    → (said : Said) → ¬ (IsNode line n box said bytes)
not_node known line part n box bytes p never says_nothing is = is
not_node known line part n box bytes p never (says_fails numbers) is = is
not_node known line part n box bytes p never (says_node root) is =
    never root (may_in_part known line part n box root p is.0) is.1

-- neither `yes` nor `undecided`, and no split that can be made
pub no_node : (line part : Line) (n : ℕ) (bytes : List ℕ) (a b : Bool) → a ≡ false → b ≡ false
    → Decides a (bytes ≡ codes "yes") → Decides b (bytes ≡ codes "undecided")
    → ((param mid : ℕ) → 0 < n → CanSplit part (declared_box part) param mid
    → bytes ≢ split_line (parameter_name line param) mid)
    → (root : Node) → MayStand part n (declared_box part) root → bytes ≢ node_text line root
no_node line part n bytes a b x y da db never node.Yes may is = (let t = da.1 is in cc)
no_node line part n bytes a b x y da db never node.Undecided may is = (let t = db.1 is in cc)
no_node line part n bytes a b x y da db never (node.Split param mid) may is =
    never param mid may.left may.can is

-- a split's line tells its middle
pub one_mid : (name : List ℕ) (mid other : ℕ) → mid < 2 ^ 32 → other < 2 ^ 32
    → split_line name mid ≡ split_line name other → mid ≡ other
one_mid name mid other small little same =
    let digits : decimal mid ≡ decimal other = one_text (codes "split") name _ _ same in
    same_Some mid other
    (sym (number_of-decimal mid small) ∙ ap number_of digits ∙ number_of-decimal other little)

-- a line that begins no result
pub not_result : (line : Line) (box : Box) (bytes : List ℕ)
    → ((numbers : List ℕ) → AreNumbers (param_count line) numbers → bytes ≢ no_words numbers)
    → ((root : Node) → MayStand line deepest box root → bytes ≢ node_text line root)
    → (said : Said) → ¬ (IsResult line box said bytes)
not_result line box bytes never none says_nothing is = is
not_result line box bytes never none (says_fails numbers) is = never numbers is.0 is.1
not_result line box bytes never none (says_node root) is = none root is.0 is.1
