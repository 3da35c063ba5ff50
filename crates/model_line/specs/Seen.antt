-- What a script shows at a tick. A span from..to holds the ticks t with from <= t < to.
use Rattle.std.specs.Prelude.{◌&&◌, ◌==◌, ℕ, Bool, false, List, nat_le, nat_lt}
use Rattle.std.specs.List.{list_any}
use Rattle.model_line.specs.{declared.script.Place.Place, declared.script.What.What}
use Rattle.model_line.specs.declared.script.SeenSpan.{SeenSpan}
use Rattle.model_line.specs.declared.script.What.TheVariants as what
use Rattle.model_line.specs.contracts.script.PlacePartialEq.TheImpl.{eq-value as place_eq}

-- two places are compared as `==` compares them
abbrev pub same_place : Place → Place → Bool
same_place a b = place_eq.it a b

-- what a span is of is this place
abbrev pub is_of_place : Place → What → Bool
is_of_place p (what.Element q) = same_place q p
is_of_place p (what.Loss c) = false

-- what a span is of is the loss of this channel
abbrev pub is_of_loss : ℕ → What → Bool
is_of_loss c (what.Element q) = false
is_of_loss c (what.Loss d) = d == c

-- the span is of the place and holds t
abbrev pub shows : Place → ℕ → SeenSpan → Bool
shows p t s = is_of_place p s.what && (nat_le s.from t && nat_lt t s.to)

-- the span is of the channel's loss and holds t
abbrev pub loses : ℕ → ℕ → SeenSpan → Bool
loses c t s = is_of_loss c s.what && (nat_le s.from t && nat_lt t s.to)

-- some span of the place holds t
abbrev pub is_seen : List SeenSpan → Place → ℕ → Bool
is_seen spans p t = list_any (shows p t) spans

-- some span of the channel's loss holds t
abbrev pub is_lost : List SeenSpan → ℕ → ℕ → Bool
is_lost spans c t = list_any (loses c t) spans
