-- A line can be made of the values that are read.
use Rattle.std.proofs.Common.{◌≡◌, ◌≢◌, ◌+◌, ◌*◌, ◌<◌, ◌≤◌, ◌||◌, ◌++◌, ℕ, zero, suc, Bool, true}
use Rattle.std.proofs.Common.{false, List, [], ◌∷◌, length, get_or, Ok, refl, sym, ap, subst, ◌∙◌}
use Rattle.std.proofs.Common.{arith, codes, length-append}
use Rattle.std.proofs.Math.ListN.{get_or-append, get_or-map}
use Rattle.std.proofs.Math.Nat.{mul-le-mul_left}
use Rattle.std.proofs.Math.Seq.{get_or-append_seam}
use Rattle.std.specs.Prelude.{IsTrue}
use Rattle.std.specs.Str.{bytes_eq}
use Rattle.std.specs.List.{list_all, list_any}
use borrow.Author.Count.{below_more}
use Rattle.std.proofs.lemmas.List.{map-append, length-map}
use Rattle.std.proofs.lemmas.List.Folds.{list_all-append, list_any_at}
use Rattle.std.proofs.lemmas.Slice.Eq.{bytes_eq-Decides}
use Rattle.toml.specs.Data.{Items}
use Rattle.model_line.specs.Settings.{OwnedSetting, owned_by, terminal_settings, channel_settings}
use Rattle.model_line.specs.Settings.{settings_of_terminals}
use Rattle.model_line.specs.Terminals.{names_of, are_plain_names, NamesDiffer, has_flags}
use Rattle.model_line.specs.Terminals.{has_no_flag, flags_fit}
use Rattle.model_line.specs.Intervals.{leasts, greatests, AreIntervals, delay_number_of}
use Rattle.model_line.specs.Making.{least_ends, greatest_ends, MakesLine, IsMadeOf}
use Rattle.model_line.specs.{declared.bounds.Bounds.Bounds, declared.line.Terminal.Terminal}
use Rattle.model_line.specs.{declared.line.Scheme.Scheme, declared.line.Param.Param}
use Rattle.model_line.specs.{declared.line.Line.Line, PlainNames.is_plain_name}
use Rattle.model_line.specs.{Channels.AreChannelsBelow, Laws.SettingsAreCounted}
use Rattle.model_line.specs.declared.line.Owner.TheVariants as owner
use Rattle.model_line.specs.DelayOrderLaws.{some_settings}
use Rattle.file_line.specs.Places.{Places, places_in}
use Rattle.file_line.specs.Lines.{LineValues, intervals_of, line_values}
use Rattle.file_line.specs.TerminalTables.{terminal_at, terminals_at}
use Rattle.file_line.specs.{ChannelTables.channel_at, ChannelTables.channels_at, LineFiles.whole}
use Rattle.file_line.proofs.TimeLaws.{AreTimes, AreTimes-append, Grew, grew_count}
use Rattle.file_line.proofs.TerminalLaws.{IsOneMoreTerminal, terminal_at-ok}
use Rattle.file_line.proofs.ChannelSteps.{IsOneMoreChannel, channel_at-ok}
use Rattle.file_line.proofs.ChannelPairs.{channels_more}
use Rattle.file_line.proofs.{ItemSteps.items_kept, WholePairs.whole_are}

-- what is kept while terminals are read
pub record TerminalsKept (v : LineValues) : Type 0 where
  pub plain : IsTrue (are_plain_names v.terminals)
  pub once : NamesDiffer v.terminals (length v.terminals)
  pub flags : IsTrue (flags_fit v.scheme v.terminals)
  pub count : length v.intervals ≡ length (settings_of_terminals v.scheme 0 v.terminals)
  pub times : AreTimes v.intervals

-- what is kept while channels are read
pub record ChannelsKept (v : LineValues) : Type 0 where
  pub plain : IsTrue (are_plain_names v.terminals)
  pub once : NamesDiffer v.terminals (length v.terminals)
  pub flags : IsTrue (flags_fit v.scheme v.terminals)
  pub pairs : AreChannelsBelow (length v.terminals) v.channels (length v.channels)
  pub count :
      length v.intervals
      ≡ length (settings_of_terminals v.scheme 0 v.terminals)
      + length v.channels * length (channel_settings v.scheme)
  pub times : AreTimes v.intervals
  pub delays :
      (c : ℕ) → c < length v.channels
      → 1 ≤ get_or (least_ends v.intervals)
      (length (settings_of_terminals v.scheme 0 v.terminals)
      + c * length (channel_settings v.scheme)) 0

settings_push :
    (s : Scheme) (j : ℕ) (ts : List Terminal) (t : Terminal)
    → length (settings_of_terminals s j (ts ++ t ∷ []))
    ≡ length (settings_of_terminals s j ts) + length (terminal_settings s t)
settings_push s j [] t =
    let own : List OwnedSetting = owned_by (owner.Terminal j) (terminal_settings s t) in
    omega (
      arith,
      length-append own [],
      length-map (terminal_settings s t)
          (λ x. let k : OwnedSetting = record { owner = owner.Terminal j; setting = x } in k),
    )
settings_push s j (u ∷ ts) t =
    let own : List OwnedSetting = owned_by (owner.Terminal j) (terminal_settings s u) in
    omega (
      arith,
      length-append own (settings_of_terminals s (j + 1) (ts ++ t ∷ [])),
      length-append own (settings_of_terminals s (j + 1) ts),
      settings_push s (j + 1) ts t,
    )

same_bytes : (x y : List ℕ) → x ≡ y → bytes_eq x y ≡ true
same_bytes x y e = (bytes_eq-Decides x y).1 e

-- a name that no terminal has
not_among :
    (ts : List Terminal) (name : List ℕ) (j : ℕ) → j < length ts
    → list_any (λ t. bytes_eq t.name name) ts ≡ false → get_or (names_of ts) j [] ≢ name
not_among ts name j lt none same =
    let d : Terminal = record { name = []; weak = false; guard = false } in
    let at : get_or (names_of ts) j [] ≡ (get_or ts j d).name = get_or-map (λ t. t.name) ts j d in
    let found : bytes_eq (get_or ts j d).name name ≡ true = same_bytes _ name (sym at ∙ same) in
    let any = list_any_at (λ t. bytes_eq t.name name) ts j d lt found in
    absurd (cc)

names_differ_more :
    (ts : List Terminal) (t : Terminal) → NamesDiffer ts (length ts)
    → list_any (λ u. bytes_eq u.name t.name) ts ≡ false
    → NamesDiffer (ts ++ t ∷ []) (length (ts ++ t ∷ []))
names_differ_more ts t all new j k jk kt =
    let f : Terminal → List ℕ = λ u. u.name in
    let long : length (ts ++ t ∷ []) ≡ length ts + 1 =
    omega (arith, length-append ts (t ∷ [])) in
    let joined : names_of (ts ++ t ∷ []) ≡ names_of ts ++ t.name ∷ [] = map-append f ts (t ∷ []) in
    let same_long : length (names_of ts) ≡ length ts = length-map ts f in
    let old : (i : ℕ) → i < length ts → get_or (names_of (ts ++ t ∷ [])) i []
    ≡ get_or (names_of ts) i [] =
    λ i lt. rw joined (get_or-append (names_of ts) (t.name ∷ []) [] i (rw same_long lt)) in
    let last : get_or (names_of (ts ++ t ∷ [])) (length ts) [] ≡ t.name =
    rw (joined, ← same_long) (get_or-append_seam (names_of ts) t.name [] []) in
    below_more (λ k. j < k
    → get_or (names_of (ts ++ t ∷ [])) j [] ≢ get_or (names_of (ts ++ t ∷ [])) k [])
    (length ts)
    (λ k lt jk. rw (old j (omega arith), old k lt) (all j k jk lt))
    (λ jk. rw (old j jk, last) (not_among ts t.name j jk new)) k (omega arith) jk

flags_more :
    (s : Scheme) (ts : List Terminal) (t : Terminal) → IsTrue (flags_fit s ts)
    → has_flags s || has_no_flag t ≡ true → IsTrue (flags_fit s (ts ++ t ∷ []))
flags_more s ts t all flags =
    let e = list_all-append has_no_flag ts (t ∷ []) in
    elim (has_flags s)
    as (λ b. b || list_all has_no_flag ts ≡ true → b || has_no_flag t ≡ true
    → b || list_all has_no_flag (ts ++ t ∷ []) ≡ true)
    [ true ↦ λ _ _. refl | false ↦ λ a f. rw (e, a, f) ] all flags

plain_more :
    (ts : List Terminal) (t : Terminal) → IsTrue (are_plain_names ts) → is_plain_name t.name ≡ true
    → IsTrue (are_plain_names (ts ++ t ∷ []))
plain_more ts t all plain =
    let p : Terminal → Bool = λ u. is_plain_name u.name in
    let e = list_all-append p ts (t ∷ []) in
    rw (e, all, plain)

times_grew : (n : ℕ) (old new : List Bounds) → AreTimes old → Grew n old new → AreTimes new
times_grew n old new times g =
    subst AreTimes g.is (AreTimes-append old g.added times g.times)

terminal_kept :
    (line more : LineValues) → TerminalsKept line → IsOneMoreTerminal line more → TerminalsKept more
terminal_kept line more kept one =
    subst TerminalsKept one.is (record {
      plain = plain_more line.terminals one.terminal kept.plain one.plain;
      once = names_differ_more line.terminals one.terminal kept.once one.new;
      flags = flags_more line.scheme line.terminals one.terminal kept.flags one.flags;
      count =
          omega (
            arith,
            grew_count _ line.intervals one.intervals one.grew,
            kept.count,
            settings_push line.scheme 0 line.terminals one.terminal,
          );
      times = times_grew _ line.intervals one.intervals kept.times one.grew;
    })

-- before the first terminal
pub start_kept :
    (v : LineValues) → v.terminals ≡ [] → v.intervals ≡ [] → TerminalsKept v
start_kept v none nothing =
    record {
      plain = rw none;
      once = rw none (λ j k jk kt. absurd (omega arith));
      flags =
          rw none
          (elim (has_flags v.scheme) as (λ b. b || true ≡ true) [ true ↦ refl | false ↦ refl ]);
      count = rw (none, nothing);
      times = rw nothing tt;
    }

pub terminals_kept :
    (told : List Places) (unit : ℕ) (ds : Items) (line more : LineValues) → 0 < unit
    → terminals_at told unit ds line ≡ Ok more → TerminalsKept line → TerminalsKept more
terminals_kept told unit ds line more some =
    items_kept (terminal_at unit) (places_in (codes "terminal") told) TerminalsKept
    (λ places d old new is kept. terminal_kept old new kept (terminal_at-ok unit places d old new some is))
    0 ds line more

delays_more :
    (n k : ℕ) (old new : List Bounds) (m : ℕ) → 1 ≤ k → length old ≡ n + m * k → Grew k old new
    → 1 ≤ get_or (least_ends new) (length old) 0
    → ((c : ℕ) → c < m → 1 ≤ get_or (least_ends old) (n + c * k) 0)
    → (c : ℕ) → c < m + 1 → 1 ≤ get_or (least_ends new) (n + c * k) 0
delays_more n k old new m some count g here before =
    let f : Bounds → ℕ = λ b. b.least in
    let joined : least_ends new ≡ least_ends old ++ least_ends g.added =
    subst (λ bs. least_ends bs ≡ least_ends old ++ least_ends g.added) g.is
    (map-append f old g.added) in
    let same_long : length (least_ends old) ≡ length old = length-map old f in
    below_more (λ c. 1 ≤ get_or (least_ends new) (n + c * k) 0) m
    (λ c lt.
    let product : k * (c + 1) ≤ k * m = mul-le-mul_left k (omega arith) in
    let within : n + c * k < length (least_ends old) = omega arith in
    rw (joined, get_or-append (least_ends old) (least_ends g.added) 0 (n + c * k) within)
    (before c lt))
    (rw (← count) here)

channel_kept :
    (line more : LineValues) → ChannelsKept line → IsOneMoreChannel line more → ChannelsKept more
channel_kept line more kept one =
    let s : Scheme = line.scheme in
    let n : ℕ = length (settings_of_terminals s 0 line.terminals) in
    let k : ℕ = length (channel_settings s) in
    let long : length (line.channels ++ one.channel ∷ []) ≡ length line.channels + 1 =
    omega (arith, length-append line.channels (one.channel ∷ [])) in
    subst ChannelsKept one.is (record {
      plain = kept.plain;
      once = kept.once;
      flags = kept.flags;
      pairs =
          rw long
          (channels_more (length line.terminals) line.channels one.channel kept.pairs one.ends.from
          one.ends.to one.ends.apart one.ends.new);
      count =
          (let grown = grew_count k line.intervals one.intervals one.grew in
          let product : length (line.channels ++ one.channel ∷ []) * k
          ≡ (length line.channels + 1) * k = ap (λ m. m * k) long in
          omega (arith, kept.count));
      times = times_grew _ line.intervals one.intervals kept.times one.grew;
      delays =
          rw long
          (delays_more n k line.intervals one.intervals (length line.channels) (some_settings s)
          kept.count one.grew
          one.delay kept.delays);
    })

pub channels_kept :
    (told : List Places) (unit : ℕ) (ds : Items) (line more : LineValues) → 0 < unit
    → channels_at told unit ds line ≡ Ok more → ChannelsKept line → ChannelsKept more
channels_kept told unit ds line more some =
    items_kept (channel_at unit) (places_in (codes "channel") told) ChannelsKept
    (λ places d old new is kept. channel_kept old new kept (channel_at-ok unit places d old new some is))
    0 ds line more

-- when the terminals are read, no channel is
pub between :
    (v : LineValues) → TerminalsKept v → v.channels ≡ [] → ChannelsKept v
between v kept none =
    record {
      plain = kept.plain;
      once = kept.once;
      flags = kept.flags;
      pairs = rw none (λ c lt. absurd (omega arith));
      count = rw none (omega (arith, kept.count));
      times = kept.times;
      delays = rw none (λ c lt. absurd (omega arith));
    }

are_intervals : (bs : List Bounds) → AreTimes bs → AreIntervals (least_ends bs) (greatest_ends bs)
are_intervals [] times i lt = absurd (omega arith)
are_intervals (b ∷ bs) times zero lt = (times.0.ordered, times.0.within)
are_intervals (b ∷ bs) times (suc i) lt = are_intervals bs times.1 i (omega arith)

-- what is kept, and each pair joined, makes a line
pub makes_line : SettingsAreCounted →
    (v : LineValues) (u : Unit {0}) → ChannelsKept v → whole v.terminals v.channels ≡ Ok u
    → (1 ≤ v.tick_us) × (v.tick_us ≤ 1000000) → (1 ≤ v.horizon) × (v.horizon ≤ 4000)
    → (2 ≤ length v.terminals) × (length v.terminals ≤ 3)
    → MakesLine v.tick_us v.horizon v.scheme v.terminals v.channels v.intervals
makes_line laws v u kept joined tick horizon few =
    let s : Scheme = v.scheme in
    let n : ℕ = length (settings_of_terminals s 0 v.terminals) in
    let k : ℕ = length (channel_settings s) in
    record {
      tick_in_range = tick;
      horizon_in_range = horizon;
      terminals_fit = record {
        two_or_three = few;
        plain_names = kept.plain;
        flags_by_scheme = kept.flags;
        names_once = kept.once;
      };
      pairs_once =
          whole_are v.terminals v.channels u
          (length v.terminals) refl few.0 few.1 kept.pairs joined;
      bounds_fit = record {
        one_each = kept.count ∙ laws.all s v.terminals v.channels n k refl refl;
        ends_in_range = are_intervals v.intervals kept.times;
        delays_from_one = λ c lt.
            let at : n + c * k ≡ delay_number_of s v.terminals v.channels c =
            laws.delays s v.terminals v.channels c n k lt refl refl in
            rw (← at) (kept.delays c lt);
      };
    }

-- parameters with these ends have these intervals
pub same_intervals :
    (ps : List Param) (bs : List Bounds) → leasts ps ≡ least_ends bs
    → greatests ps ≡ greatest_ends bs → intervals_of ps ≡ bs
same_intervals [] [] least greatest = refl
same_intervals [] (b ∷ bs) least greatest = absurd (cc)
same_intervals (p ∷ ps) [] least greatest = absurd (cc)
same_intervals (p ∷ ps) (b ∷ bs) least greatest =
    let more : intervals_of ps ≡ bs = same_intervals ps bs (cc) (cc) in
    let low : p.least ≡ b.least = cc in
    let high : p.greatest ≡ b.greatest = cc in
    rw (low, high, more)

-- the line that is made of the values that were read has these values
pub made_values :
    (v : LineValues) (line : Line)
    → IsMadeOf v.tick_us v.horizon v.scheme v.zone1_trip v.terminals v.channels v.intervals line
    → line_values line ≡ v
made_values v line made =
    let same : intervals_of line.params.items ≡ v.intervals =
    same_intervals line.params.items v.intervals made.least_are made.greatest_are in
    rw (
      made.tick_us_is,
      made.horizon_is,
      made.scheme_is,
      made.zone1_trip_is,
      made.terminals_are,
      made.channels_are,
      same,
    )
