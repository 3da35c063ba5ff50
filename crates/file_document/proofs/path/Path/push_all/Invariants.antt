use Rattle.std.proofs.Common.{◌≡◌, drop}
use Rattle.file_document.specs.Paths.{pushed_all}
use Rattle.file_document.proofs.path.Path.push_all.Given as goal

abbrev pub invariant-loop-byte : goal.invariant-loop-byte
invariant-loop-byte l =
    pushed_all l.self (drop l.byte-index l.bytes) ≡ pushed_all l.initial.self l.bytes
