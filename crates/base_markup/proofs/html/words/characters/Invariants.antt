use Rattle.std.proofs.Common.{◌≡◌, flat_map}
use Rattle.base_markup.specs.html.Words.{character_text}
use Rattle.base_markup.proofs.html.words.characters.Given as goal

abbrev pub invariant-loop-c : goal.invariant-loop-c
invariant-loop-c l = l.text.items ≡ flat_map character_text l.yielded
