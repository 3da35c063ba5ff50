-- Stretches of ticks over which a script shows the same.
use Rattle.std.specs.Prelude.{◌≡◌, ◌≤◌, ◌<◌, ◌&&◌, ℕ, Bool, List, IsTrue, nat_le, nat_lt}
use Rattle.model_line.specs.declared.script.What.TheVariants.{Element, Loss}
use Rattle.model_line.specs.Seen.{is_of_place, is_of_loss, is_seen, is_lost}
use Rattle.model_line.specs.{declared.script.SeenSpan.SeenSpan, declared.script.What.What}

-- from t on until `end` a span holds each tick, or none
abbrev pub HoldsAlike : ℕ → ℕ → SeenSpan → Type 0
HoldsAlike t end span = (k : ℕ) → t ≤ k → k < end
    → (nat_le span.from k && nat_lt k span.to) ≡ (nat_le span.from t && nat_lt t span.to)

-- what a span is of is this element, or the loss of this channel
abbrev pub is_of : What → What → Bool
is_of (Element place) what = is_of_place place what
is_of (Loss channel) what = is_of_loss channel what

-- the same of a span of this alone
abbrev pub ShowsAlike : What → ℕ → ℕ → SeenSpan → Type 0
ShowsAlike what t end span = IsTrue (is_of what span.what) → HoldsAlike t end span

-- the element is seen, or the channel lost, at a tick
abbrev pub holds : List SeenSpan → What → ℕ → Bool
holds spans (Element place) t = is_seen spans place t
holds spans (Loss channel) t = is_lost spans channel t
