use Rattle.std.proofs.Common.{◌≡◌, ◌+◌, ◌<◌, ◌∙◌, ℕ, List, length, refl, arith}
use Rattle.model_line.specs.declared.script.Script.{Script}
use Rattle.judge_report.specs.Deadlines.{deadline_of}
use Rattle.call_facts.specs.{FirstTicks.place, Lists.At}
use Rattle.call_facts.specs.declared.firsts.Firsts.{Firsts}
use Rattle.call_tables.specs.declared.row.Row.{Row}
use Rattle.call_page.specs.Verdicts.{after_inception, inception_of, means_of}
use Rattle.call_page.proofs.There.{at_this, at_read}
use Rattle.call_page.proofs.verdict.verdict.Goals as goal

pub returns : goal.returns
returns c =
    let known = c.args.known.now in
    let script : ℕ = c.args.part.start + c.worst.result in
    let i : ℕ = place known.study.now.line script c.args.terminal in
    let firsts : Firsts = c.firsts_at-firsts.result in
    let scripts : List Script = known.study.now.scripts.items in
    let line = known.study.now.line in
    let there : script < length scripts =
    omega (arith, c.requires.within, c.worst.ensures.among) in
    let of : Script = c.index-of.result.now in
    record {
      terminal = c.in_ok-name.ensures.items ∙ c.name_of_terminal.ensures;
      standings = c.in_ok-standings.ensures;
      worst = c.worst.result;
      is_worst = c.worst.ensures;
      by = at_this known.rows.now i c.row_at-row.result.now
          (λ (row : Row). c.means.result ≡ means_of row.settled.by) c.row_at-row.ensures c.means.ensures;
      deadline = at_read scripts scripts script c.index-of.result.now
          (λ (s : Script). c.after.result
          ≡ after_inception (inception_of line s) (deadline_of s.kind s.deadline)) refl there
          c.index-of.ensures (rw (c.inception-began.ensures.first, c.deadline.ensures) at c.after.ensures);
      ticks = at_read scripts scripts script of
          (λ (s : Script). At known.firsts.now i (λ f.
          (c.after-2.result ≡ after_inception (inception_of line s) f.may)
          × (c.after-3.result ≡ after_inception (inception_of line s) f.must))) refl there
          c.index-of.ensures
          (at_this known.firsts.now i firsts
          (λ (f : Firsts). (c.after-2.result ≡ after_inception (inception_of line of) f.may)
          × (c.after-3.result ≡ after_inception (inception_of line of) f.must))
          c.firsts_at-firsts.ensures (
            rw c.inception-began.ensures.first at c.after-2.ensures,
            rw c.inception-began.ensures.first at c.after-3.ensures,
          ));
      spare = c.requires.spare;
    }
