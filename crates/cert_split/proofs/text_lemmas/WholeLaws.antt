-- The line of a split has no line feed.
use Rattle.std.proofs.Common.{◌≡◌, ◌<◌, ◌^◌, ℕ, true, refl, arith, decimal}
use Rattle.std.specs.Prelude.{codes}
use Rattle.model_line.specs.declared.line.Line.{Line}
use Rattle.model_line.specs.NamesByNumber.{parameter_name}
use Rattle.base_text.specs.lines.Lines.{is_one_line}
use Rattle.base_text.specs.lines.NamedLaws.{named_whole, decimal_whole}
use Rattle.judge_split.specs.declared.node.Node.TheVariants as node
use Rattle.cert_split.specs.text.Grammar.{node_text}
use Rattle.cert_split.specs.text.NameLaws.{param_stands}

pub split_whole : (line : Line) (param mid : ℕ) → mid < 2 ^ 32
    → is_one_line (node_text line (node.Split param mid)) ≡ true
split_whole line param mid small =
    named_whole (codes "split") (parameter_name line param) (decimal mid) refl
    (param_stands line param).whole (decimal_whole mid (omega arith))
