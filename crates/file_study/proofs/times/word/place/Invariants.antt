use Rattle.std.proofs.Common.{◌≡◌, ◌≤◌, length}
use Rattle.file_study.specs.times.Words.{place_of}
use Rattle.file_study.proofs.times.word.place.Given as goal

abbrev pub invariant-loop : goal.invariant-loop
invariant-loop l = (l.place ≡ place_of l.text l.counter) × (l.place ≤ length l.text)
