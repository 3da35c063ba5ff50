use Rattle.std.proofs.Common.{◌≡◌, subst}
use Rattle.std.proofs.lemmas.Option.{slice_get_within}
use Rattle.model_history.specs.ListLaws.{all_at}
use Rattle.model_line.specs.{Fits.Fits, declared.script.Script.Script}
use Rattle.model_logic.specs.{Choice.declared_box, HeldOver.IsHeldOver}
use Rattle.judge_slacks.specs.Needs.{IsNeed}
use Rattle.judge_slacks.proofs.ends.need_at.Goals as goal

pub script_of-requires : goal.script_of-requires
script_of-requires c =
    let off = c.requires.off c.args.i c.lost_at-of.result c.lost_at-of.ensures in
    slice_get_within c.args.scripts.now c.lost_at-of.result.script off.script off.at

pub least_move-requires : goal.least_move-requires
least_move-requires c =
    let line = c.args.compiled.now.line.now in
    let o = c.lost_at-of.result in
    let off = c.requires.off c.args.i o c.lost_at-of.ensures in
    let there = c.script_of.ensures in
    let here = off.at in
    let same : off.script ≡ c.script_of.result.now = cc in
    record {
      fits = all_at (Fits line) c.args.scripts.now o.script c.script_of.result.now c.requires.fit there;
      terminal = off.terminal;
      param = c.requires.param;
      off = subst (λ (s : Script). IsHeldOver line s o.terminal (declared_box line) → ⊥) same off.off;
    }

pub returns : goal.returns
returns c =
    let line = c.args.compiled.now.line.now in
    let o = c.lost_at-of.result in record {
      of = c.lost_at-of.ensures;
      by = λ script at.
          let there = c.script_of.ensures in
          let same : c.script_of.result.now ≡ script = cc in
          subst (λ (s : Script). IsNeed line s o.terminal c.args.param c.args.side c.in_ok-by.by) same
          c.in_ok-by.ensures;
    }
