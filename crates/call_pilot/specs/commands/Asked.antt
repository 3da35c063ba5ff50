-- What may have been asked of the engine: a relation of its counts before and after.
use Rattle.std.specs.Prelude.{⊤}
use Rattle.call_engine.specs.Calls.{Calls}

abbrev pub Asks : Type 1
Asks = Calls → Calls → Type 0

-- nothing need be asked
abbrev pub asks_nothing : Asks
asks_nothing old new = ⊤
