use Rattle.call_page.specs.Files.{AreFilesSoFar}
use Rattle.call_page.proofs.files.files.Given as goal

abbrev pub invariant-loop-n : goal.invariant-loop-n
invariant-loop-n l = AreFilesSoFar l.study.line l.study.scripts.items l.n l.files.items
