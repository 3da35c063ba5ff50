-- What a line keeps of its channels.
use Rattle.std.specs.Prelude.{◌≡◌, ◌≢◌, ◌<◌, ◌&&◌, ◌==◌, ◌*◌, ◌-◌, ℕ, Bool, List, Option, Some}
use Rattle.std.specs.Prelude.{length, map, IsTrue, is_some, get_or}
use Rattle.std.specs.List.{position_from}
use Rattle.model_line.specs.declared.line.Channel.{Channel}

-- the channel is the one from terminal j to terminal k
abbrev pub is_pair : ℕ → ℕ → Channel → Bool
is_pair j k c = (c.from == j) && (c.to == k)

-- the number of the channel from j to k
abbrev pub channel_number : List Channel → ℕ → ℕ → Option ℕ
channel_number cs j k = position_from (is_pair j k) 0 cs

-- the terminal that sends over channel c
abbrev pub from_of : List Channel → ℕ → ℕ
from_of cs c = get_or (map (λ h. h.from) cs) c 0

-- the terminal that receives over channel c
abbrev pub to_of : List Channel → ℕ → ℕ
to_of cs c = get_or (map (λ h. h.to) cs) c 0

-- each ordered pair of distinct terminals below n has exactly one channel
pub record AreChannels (n : ℕ) (cs : List Channel) : Type 0 where
  pub count : length cs ≡ n * (n - 1)
  pub from : (c : ℕ) → c < length cs → from_of cs c < n
  pub to : (c : ℕ) → c < length cs → to_of cs c < n
  pub apart : (c : ℕ) → c < length cs → from_of cs c ≢ to_of cs c
  pub once : (c : ℕ) → c < length cs → channel_number cs (from_of cs c) (to_of cs c) ≡ Some c
  pub found : (j k : ℕ) → j < n → k < n → j ≢ k → IsTrue (is_some (channel_number cs j k))

-- channel c is the first between two distinct terminals below n
pub record IsChannel (n : ℕ) (cs : List Channel) (c : ℕ) : Type 0 where
  pub from : from_of cs c < n
  pub to : to_of cs c < n
  pub apart : from_of cs c ≢ to_of cs c
  pub once : channel_number cs (from_of cs c) (to_of cs c) ≡ Some c

-- so is each channel below m
abbrev pub AreChannelsBelow : ℕ → List Channel → ℕ → Type 0
AreChannelsBelow n cs m = (c : ℕ) → c < m → IsChannel n cs c

-- each terminal below m sends to each other one below n
abbrev pub AreFoundBelow : ℕ → List Channel → ℕ → Type 0
AreFoundBelow n cs m =
    (j k : ℕ) → j < m → k < n → j ≢ k → IsTrue (is_some (channel_number cs j k))

-- each pair has its channel, told in two parts
pub channels_are :
    (n : ℕ) (cs : List Channel) → length cs ≡ n * (n - 1) → AreChannelsBelow n cs (length cs) →
    AreFoundBelow n cs n → AreChannels n cs
channels_are n cs count pairs found = record {
  count = count;
  from = λ c lt. (pairs c lt).from;
  to = λ c lt. (pairs c lt).to;
  apart = λ c lt. (pairs c lt).apart;
  once = λ c lt. (pairs c lt).once;
  found = found;
}
