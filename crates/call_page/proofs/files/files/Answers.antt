use Rattle.std.proofs.Common.{◌++◌, ◌∷◌, [], ◌∙◌, List, refl, ap}
use Rattle.draw_page.specs.declared.page.FileText.{FileText}
use Rattle.call_page.specs.Files.{IsScriptsFile}
use Rattle.judge_verdict.specs.verdict.OneEachLaws.{one_next, nothing_yet}
use Rattle.call_page.proofs.files.files.Goals as goal

pub loop-n-init : goal.loop-n-init
loop-n-init c = record {
  first = c.in_ok-first.first;
  others = [];
  are = (rw c.new-files.ensures.items at c.in_ok-push.ensures.items);
  line_file = c.in_ok-first.ensures;
  scripts_files = nothing_yet
      (IsScriptsFile c.args.study.now.line c.args.study.now.scripts.items);
}

pub loop-n-preserved : goal.loop-n-preserved
loop-n-preserved c =
    let so_far = c.loop-n.invariant in
    let file : FileText = c.in_ok-file.file in
    let more : List FileText = so_far.others ++ file ∷ [] in
    record {
      first = so_far.first;
      others = more;
      are = c.in_ok-push-2.ensures.items
          ∙ ap (λ (fs : List FileText). fs ++ file ∷ []) so_far.are;
      line_file = so_far.line_file;
      scripts_files = one_next
          (IsScriptsFile c.args.study.now.line c.args.study.now.scripts.items) c.loop-n.n _
          so_far.others more file refl refl c.in_ok-file.ensures so_far.scripts_files;
    }
