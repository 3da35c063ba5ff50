use Rattle.std.proofs.Common.{◌≡◌, ◌++◌, take}
use Rattle.std.specs.List.{flat_map}
use Rattle.draw_page.specs.Running.{running_file}
use Rattle.draw_page.proofs.running.put_files.Given as goal

abbrev pub invariant-loop-file : goal.invariant-loop-file
invariant-loop-file l =
    l.text.items ≡ l.initial.text.items ++ flat_map running_file (take l.file-index l.files)
