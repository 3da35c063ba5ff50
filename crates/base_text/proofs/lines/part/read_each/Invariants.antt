use Rattle.std.proofs.Common.{◌≡◌, List, ◌++◌, length, map, drop}
use Rattle.std.specs.List.{All}
use Rattle.base_text.specs.lines.Lines.{Goes}
use Rattle.base_text.specs.lines.Grammar.{all_places, all_said}
use Rattle.base_text.proofs.lines.part.read_each.Given as goal

-- the lines of the first items were read
abbrev pub invariant-loop-item : goal.invariant-loop-item
invariant-loop-item g l =
    let parts = g.R.PartReader.parts l.reader in
    let meant = map g.R.PartReader.meaning l.parts.items in
    record {
      count : length l.parts.items ≡ l.item-index;
      each : All parts.IsWhole meant;
      reads : (later : List parts.grammar.Place) → Goes parts.grammar.stands parts.grammar.opens
          (all_places parts l.items ++ later) (all_said parts meant)
          l.initial.lines.rest.now l.initial.lines.number
          (all_places parts (drop l.item-index l.items) ++ later) l.lines.rest.now l.lines.number;
    }
