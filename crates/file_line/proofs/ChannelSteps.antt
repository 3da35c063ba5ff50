-- What one more channel is.
use Rattle.std.proofs.Common.{◌≡◌, ◌≢◌, ◌+◌, ◌<◌, ◌==◌, ℕ, false, List, [], ◌∷◌, ◌++◌, Option, Some}
use Rattle.std.proofs.Common.{None, Ok, length, get_or, refl, codes, sym, ap, subst, ◌∙◌}
use Rattle.std.proofs.Common.{arith, ◌≤◌, length-append}
use Rattle.std.proofs.lemmas.Bool.{eqb-false}
use Rattle.std.specs.Str.{bytes_eq}
use Rattle.std.specs.List.{list_any}
use Rattle.toml.specs.Data.{Data, Members}
use Rattle.model_line.specs.Settings.{time_key, receiver_settings, channel_settings}
use Rattle.model_line.specs.{declared.line.Terminal.Terminal, Channels.is_pair}
use Rattle.model_line.specs.{declared.line.Channel.Channel, declared.bounds.Bounds.Bounds}
use Rattle.model_line.specs.{declared.line.Setting.TheVariants.Delay, declared.line.Scheme.Scheme}
use Rattle.model_line.specs.{Making.least_ends}
use Rattle.model_line.specs.{FirstPositionLaws.position_within}
use Rattle.file_document.specs.Keys.{table_in}
use Rattle.file_line.specs.Places.{Places, only_keys, key_text}
use Rattle.file_line.specs.ChannelTables.{channel_keys, terminal_called, terminal_in}
use Rattle.file_line.specs.ChannelTables.{receiver, from_at, to_at, ends_at}
use Rattle.file_line.specs.ChannelTables.{channel_at}
use Rattle.file_line.specs.{Times.time_at, Times.required_times}
use Rattle.file_line.specs.Lines.{LineValues}
use Rattle.base_memory.specs.CheckLaws.{passed, refusal_passed, same_ok}
use Rattle.file_line.proofs.TimeLaws.{IsTime, Grew, grew_one, grew_more, grew_as}
use Rattle.file_line.proofs.TimeLaws.{any_fewest, time_ok, required_ok}

-- two terminals of the line, and no channel between them before
pub record AreNewEnds (ts : List Terminal) (before : List Channel) (x : Channel) : Type 0 where
  pub from : x.from < length ts
  pub to : x.to < length ts
  pub apart : x.from ≢ x.to
  pub new : list_any (is_pair x.from x.to) before ≡ false

called_within :
    (ts : List Terminal) (name : List ℕ) (k : ℕ) → terminal_called ts name ≡ Some k → k < length ts
called_within ts name k e =
    let h : k < 0 + length ts = position_within (λ t. bytes_eq t.name name) 0 k ts e in omega arith

terminal_ok :
    (path : List ℕ) (o : Option ℕ) (k : ℕ) → terminal_in path o ≡ Ok k → o ≡ Some k
terminal_ok path None k e = absurd (cc)
terminal_ok path (Some n) k e = let same : n ≡ k = cc in ap Some same

other_ok :
    (path : List ℕ) (from : ℕ) (o : Option ℕ) (k : ℕ) → receiver path from o ≡ Ok k
    → (o ≡ Some k) × (from ≢ k)
other_ok path from None k e = absurd (cc)
other_ok path from (Some n) k e =
    let g = refusal_passed (n == from) (Ok n) _ k e in
    let same : n ≡ k = (let f = g.1 in cc) in
    (ap Some same, λ equal. eqb-false n from g.0 (same ∙ sym equal))

-- what the ends that are read keep
pub ends_at-ok :
    (places : Places) (ts : List Terminal) (before : List Channel) (ms : Members) (x : Channel)
    → ends_at places ts before ms ≡ Ok x → AreNewEnds ts before x
unfolding ends_at from_at to_at
ends_at-ok places ts before ms x e =
    let record { value = from; was = from_is; rest = e1 } = passed (from_at places ts ms) _ x e in
    let record { value = to; was = to_is; rest = e2 } = passed (to_at places ts from ms) _ x e1 in
    let (new, made) = refusal_passed (list_any (is_pair from to) before) _ _ x e2 in
    let record { value = name; was = name_is; rest = from_ok } =
    passed (key_text places (codes "from") ms) _ from from_is in
    let record { value = other; was = other_is; rest = to_ok } =
    passed (key_text places (codes "to") ms) _ to to_is in
    let from_called = terminal_ok _ (terminal_called ts name) from from_ok in
    let to_called = other_ok _ from (terminal_called ts other) to to_ok in
    let same : record { from = from; to = to } ≡ x = cc in
    subst (λ c. AreNewEnds ts before c) same (record {
      from = called_within ts name from from_called;
      to = called_within ts other to to_called.0;
      apart = to_called.1;
      new = new;
    })

-- the least end of an interval behind others
least_behind :
    (old : List Bounds) (b : Bounds) (rest : List Bounds)
    → get_or (least_ends (old ++ b ∷ [] ++ rest)) (length old) 0 ≡ b.least
least_behind [] b rest = refl
least_behind (o ∷ old) b rest = least_behind old b rest

-- what one more channel is
pub record IsOneMoreChannel (line more : LineValues) : Type 0 where
  pub channel : Channel
  pub intervals : List Bounds
  pub ends : AreNewEnds line.terminals line.channels channel
  pub grew : Grew (length (channel_settings line.scheme)) line.intervals intervals
  pub delay : 1 ≤ get_or (least_ends intervals) (length line.intervals) 0
  pub is : record line { channels = line.channels ++ channel ∷ []; intervals = intervals } ≡ more

-- the delay, and what a channel has besides
receiver_ok :
    (s : Scheme) (places : Places) (unit : ℕ) (ms : Members) (old : List Bounds) (delay : Bounds)
    (new : List Bounds) → 0 < unit → IsTime 1 delay
    → required_times places (receiver_settings s) unit ms (old ++ delay ∷ []) ≡ Ok new
    → Grew (length (channel_settings s)) old new
    × (1 ≤ get_or (least_ends new) (length old) 0)
receiver_ok s places unit ms old delay new some time e =
    let n : ℕ = length (receiver_settings s) in
    let more : Grew n (old ++ delay ∷ []) new =
    required_ok places (receiver_settings s) unit ms (old ++ delay ∷ []) new some e in
    let count : 1 + n ≡ length (channel_settings s) =
    omega (arith, length-append (receiver_settings s) []) in
    let first : get_or (least_ends new) (length old) 0 ≡ delay.least =
    subst (λ bs. get_or (least_ends bs) (length old) 0 ≡ delay.least) more.is
    (least_behind old delay more.added) in (
      grew_as (1 + n) _ old new count
          (grew_more 1 n old (old ++ delay ∷ []) new
          (grew_one old delay (any_fewest 1 delay time)) more),
      rw first time.enough,
    )

pub channel_at-ok :
    (unit : ℕ) (places : Places) (d : Data) (line more : LineValues) → 0 < unit
    → channel_at unit places d line ≡ Ok more → IsOneMoreChannel line more
unfolding channel_at
channel_at-ok unit places d line more some e =
    let record { value = ms; was = ms_is; rest = e1 } = passed (table_in places.table d) _ more e in
    let record { value = known; was = known_is; rest = e2 } =
    passed (only_keys places (channel_keys line.scheme) ms) _ more e1 in
    let record { value = x; was = x_is; rest = e3 } =
    passed (ends_at places line.terminals line.channels ms) _ more e2 in
    let record { value = delay; was = delay_is; rest = e4 } =
    passed (time_at places (time_key Delay) unit 1 ms) _ more e3 in
    let record { value = whole; was = whole_is; rest = e5 } =
    passed (required_times places (receiver_settings line.scheme) unit ms
    (line.intervals ++ delay ∷ [])) _ more e4 in
    let time = time_ok places (time_key Delay) unit 1 ms delay some delay_is in
    let grown =
    receiver_ok line.scheme places unit ms line.intervals delay whole some time whole_is in
    record {
      channel = x;
      intervals = whole;
      ends = ends_at-ok places line.terminals line.channels ms x x_is;
      grew = grown.0;
      delay = grown.1;
      is = same_ok _ _ e5;
    }
