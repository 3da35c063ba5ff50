use Rattle.std.proofs.Common.{◌≡◌, length, get_or, ◌∙◌, ap, List, arith}
use Rattle.std.proofs.lemmas.List.{length-set, get_or-set_same, get_or-set_other}
use Rattle.model_history.specs.Rails.{Ends, single}
use Rattle.judge_borders.proofs.middles.with_length.Goals as goal

pub returns : goal.returns
returns c =
    let old : List Ends = c.in_ok-new.new.items in
    let same : length old ≡ length c.args.part.now = ap length c.in_ok-new.ensures.items in
    record {
      many = length-set old c.args.place c.args.own ∙ same;
      here = get_or-set_same old c.args.place c.args.own (single 0) (omega (arith, c.requires, same));
      others = λ j other. get_or-set_other old c.args.place j c.args.own (single 0) other
          ∙ ap (λ (l : List Ends). get_or l j (single 0)) c.in_ok-new.ensures.items;
    }
