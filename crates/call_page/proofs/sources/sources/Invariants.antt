use Rattle.std.proofs.Common.{map, take}
use Rattle.call_facts.specs.Lists.{EachOf}
use Rattle.call_page.specs.Sources.{IsSourceFile, source_file}
use Rattle.call_page.proofs.sources.sources.Given as goal

abbrev pub invariant-loop-source : goal.invariant-loop-source
invariant-loop-source l =
    EachOf IsSourceFile (map source_file (take l.source-index l.sources)) l.files.items
