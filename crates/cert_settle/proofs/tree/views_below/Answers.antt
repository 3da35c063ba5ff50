use Rattle.std.proofs.Common.{refl, sym, subst}
use Rattle.judge_cases.specs.declared.node.CaseNode.{CaseNode}
use Rattle.model_settle.specs.Assumed.{Assumption, Throughout, Interrupted}
use Rattle.judge_cases.specs.AssumedAt.{span_at}
use Rattle.cert_settle.specs.CaseParts.{lower_of, upper_of, under}
use Rattle.cert_settle.specs.Walks.{AreViewsBelow, IsViewOf}
use Rattle.cert_settle.proofs.tree.views_below.Goals as goal

pub returns-in_ok-upper-in-Parted : goal.returns-in_ok-upper-in-Parted
returns-in_ok-upper-in-Parted c = λ part is.
    subst (λ (r : CaseNode). AreViewsBelow c.args.line.now part r c.in_ok-lower-in-Parted.lower
    c.in_ok-upper-in-Parted.upper) (sym c.in-Parted.is) (record {
      first = lower_of part c.in-Parted.param c.in-Parted.mid;
      second = upper_of part c.in-Parted.param c.in-Parted.mid;
      are = refl;
      at_first = c.in_ok-lower-in-Parted.ensures part.box part.assumed is;
      at_second = c.in_ok-upper-in-Parted.ensures part.box part.assumed is;
    })

pub returns-in_ok-interrupted-in-Wanted : goal.returns-in_ok-interrupted-in-Wanted
returns-in_ok-interrupted-in-Wanted c = λ part is.
    let span = span_at c.in-Wanted.terminal c.in-Wanted.from c.in-Wanted.to in
    subst (λ (r : CaseNode). AreViewsBelow c.args.line.now part r
    c.in_ok-throughout-in-Wanted.throughout c.in_ok-interrupted-in-Wanted.interrupted)
    (sym c.in-Wanted.is) (record {
      first = under part (Throughout span);
      second = under part (Interrupted span);
      are = refl;
      at_first = subst (λ (a : Assumption). IsViewOf c.args.line.now (under part a)
          c.in_ok-throughout-in-Wanted.throughout) c.new-on.ensures
          (c.in_ok-throughout-in-Wanted.ensures part.box part.assumed is);
      at_second = subst (λ (a : Assumption). IsViewOf c.args.line.now (under part a)
          c.in_ok-interrupted-in-Wanted.interrupted) c.new-off.ensures
          (c.in_ok-interrupted-in-Wanted.ensures part.box part.assumed is);
    })
