-- A printed channel is read back.
use Rattle.std.proofs.Common.{◌≡◌, ◌≢◌, ◌+◌, ◌*◌, ◌<◌, ◌≤◌, ◌==◌, ◌++◌, ℕ, zero, suc}
use Rattle.std.proofs.Common.{true, false, List, [], ◌∷◌, length, take, get_or, Some, Ok}
use Rattle.std.proofs.Common.{refl, sym, ap, subst, ◌∙◌, arith, codes, length-append}
use Rattle.std.proofs.Math.Nat.{mul-le-mul_right}
use Rattle.std.proofs.lemmas.Bool.{ne_eqb}
use Rattle.std.proofs.lemmas.List.{get_or-map, get_or_default, take_all, take_more}
use Rattle.std.proofs.lemmas.Slice.Eq.{bytes_eq-Decides}
use Rattle.std.specs.Str.{bytes_eq}
use Rattle.std.specs.List.{list_any}
use Rattle.toml.specs.{Data.string, Data.table, Data.Members, Data.get_member, View.items_of}
use Rattle.model_line.specs.Settings.{time_key, receiver_settings, channel_settings}
use Rattle.model_line.specs.Settings.{settings_of_terminals}
use Rattle.model_line.specs.FirstPositionLaws.{is_some-position, position_from-first, none_before}
use Rattle.model_line.specs.FirstPositionLaws.{list_any-take_none}
use Rattle.model_line.specs.ParamNames.{name_at}
use Rattle.model_line.specs.Intervals.{leasts, delay_number_of}
use Rattle.model_line.specs.{declared.line.Scheme.TheVariants.Dcub, declared.line.Scheme.Scheme}
use Rattle.model_line.specs.{declared.line.Line.Line, declared.line.Terminal.Terminal}
use Rattle.model_line.specs.{declared.line.Channel.Channel, declared.line.Owner.Owner}
use Rattle.model_line.specs.{declared.line.Setting.TheVariants.Delay, Channels.is_pair}
use Rattle.model_line.specs.declared.line.Owner.TheVariants as owner
use Rattle.model_logic.specs.Laws.{LineLaws}
use Rattle.file_line.specs.LineFiles.{two_pairs, three_pairs, pairs_of, all_joined, whole}
use Rattle.file_line.specs.ChannelTables.{channel_keys, terminal_called, from_at, to_at, ends_at}
use Rattle.file_line.specs.ChannelTables.{channel_at, channels_at}
use Rattle.file_line.specs.Canonical.{table_of, time_data, setting_interval, setting_pair}
use Rattle.file_line.specs.Canonical.{put_times}
use Rattle.file_line.specs.Canonical.{channel_members, channels_data}
use Rattle.file_line.specs.Places.{Places, places_in, only_keys, key_text}
use Rattle.file_line.specs.{Times.time_at, Times.time_there, Times.group_key}
use Rattle.file_line.specs.Lines.{LineValues, line_values}
use Rattle.file_line.proofs.TimesBack.{time_back, value, required_back, receiver_whole}
use Rattle.file_line.proofs.ParamPlaces.{intervals, length-intervals, take_next, times_at_place}
use Rattle.file_line.proofs.ParamPlaces.{ArePlaced, placed_parts, in_place, placed_from}
use Rattle.file_line.proofs.TerminalBack.{read_terminals, new_name}
use Rattle.file_line.proofs.ChannelEnds.{from_is, to_is}
use Rattle.file_line.proofs.{ItemSteps.items_back, TimeLaws.IsTime}

-- the settings of the terminals, and those of each channel
abbrev pub terminal_count : Line → ℕ
terminal_count line = length (settings_of_terminals line.scheme 0 line.terminals.items)

abbrev pub each_count : Line → ℕ
each_count line = length (channel_settings line.scheme)

-- the line when c channels are read
abbrev pub read_channels : Line → ℕ → LineValues
read_channels line c =
    record {
      tick_us = line.tick_us;
      horizon = line.horizon;
      scheme = line.scheme;
      zone1_trip = line.zone1_trip;
      terminals = line.terminals.items;
      channels = take c line.channels.items;
      intervals = take (terminal_count line + c * each_count line) (intervals line);
    }

-- what the printed table of a channel holds under each key
module _ (unit : ℕ) (line : Line) (some : 0 < unit) (o : Owner) (from to : List ℕ) where
  abbrev pub members : Scheme → Members
  members s =
      put_times unit line o (receiver_settings s)
      (table_of
      ((codes "from", string from) ∷ (codes "to", string to) ∷ setting_pair unit line o Delay ∷ []))

  pub record Holds (places : Places) (s : Scheme) : Type 0 where
    pub known : only_keys places (channel_keys s) (members s) ≡ Ok tt
    pub from_is : get_member (codes "from") (members s) ≡ Some (string from)
    pub to_is : get_member (codes "to") (members s) ≡ Some (string to)
    pub delay_is :
        get_member (time_key Delay) (members s)
        ≡ Some (time_data unit (setting_interval line o Delay))
    pub receiver_is :
        get_member (group_key (receiver_settings s)) (members s)
        ≡ value unit line o some (receiver_settings s)

  pub holds : (places : Places) (s : Scheme) → Holds places s
  unfolding only_keys
  holds places Dcub =
      record { known = refl; from_is = refl; to_is = refl; delay_is = refl; receiver_is = refl }
  holds places _ =
      record { known = refl; from_is = refl; to_is = refl; delay_is = refl; receiver_is = refl }

-- each setting of a channel stands where it is counted
channel_in_place : (s : Scheme) → in_place (channel_settings s) 0 (channel_settings s) ≡ true
channel_in_place Dcub = refl
channel_in_place _ = refl

-- terminal k is the one of its name
called_back :
    (line : Line) (k : ℕ) → k < length line.terminals.items
    → terminal_called line.terminals.items (name_at line.terminals.items k) ≡ Some k
called_back line k lt =
    let ts : List Terminal = line.terminals.items in
    let d : Terminal = record { name = []; weak = false; guard = false } in
    let t : Terminal = get_or ts k d in
    let is : t ≡ get_or ts k t = get_or_default ts k d t lt in
    let name : t.name ≡ name_at ts k = sym (get_or-map (λ (u : Terminal). u.name) ts k d [] lt) in
    let none = new_name line k t lt is in
    let here : bytes_eq t.name t.name ≡ true = (bytes_eq-Decides t.name t.name).1 refl in
    let zero_first : 0 + k ≡ k = omega arith in
    rw (← name)
    (position_from-first (λ (u : Terminal). bytes_eq u.name t.name) 0 k ts d lt none here
    ∙ ap Some zero_first)

module _
    (laws : LineLaws) (unit : ℕ) (line : Line) (some : 0 < unit) (places : Places) (c : ℕ) (h : Channel)
    (lt : c < length line.channels.items) (is : h ≡ get_or line.channels.items c h) where
  pub ends_back :
      (ms : Members)
      → get_member (codes "from") ms ≡ Some (string (name_at line.terminals.items h.from))
      → get_member (codes "to") ms ≡ Some (string (name_at line.terminals.items h.to))
      → ends_at places line.terminals.items (take c line.channels.items) ms ≡ Ok h
  unfolding ends_at from_at to_at key_text
  ends_back ms from_held to_held =
      let from = from_is line.channels.items c h lt is in
      let to = to_is line.channels.items c h lt is in
      let from_within : h.from < length line.terminals.items =
      rw from at (line.pairs_once.from c lt) in
      let to_within : h.to < length line.terminals.items = rw to at (line.pairs_once.to c lt) in
      let apart = rw (from, to) at (line.pairs_once.apart c lt) in
      let other : (h.to == h.from) ≡ false = ne_eqb h.to h.from (λ e. apart (sym e)) in
      let once = rw (from, to) at (line.pairs_once.once c lt) in
      let zero_first : c ≡ 0 + c = omega arith in
      let new : list_any (is_pair h.from h.to) (take c line.channels.items) ≡ false =
      list_any-take_none (is_pair h.from h.to) c line.channels.items
      (record { from = 0; to = 0 })
      (λ j less. none_before (is_pair h.from h.to) 0 c j line.channels.items
      (record { from = 0; to = 0 }) (once ∙ ap Some zero_first) less) in
      rw (
        from_held,
        called_back line h.from from_within,
        to_held,
        called_back line h.to to_within,
        other,
        new,
      )

  placed :
      ArePlaced line (owner.Channel c) (terminal_count line + c * each_count line)
      (channel_settings line.scheme)
  placed =
      let n : ℕ = terminal_count line + c * each_count line in
      let first : n + 0 ≡ n = omega arith in
      subst (λ i. ArePlaced line (owner.Channel c) i (channel_settings line.scheme)) first
      (placed_from line (owner.Channel c) n (channel_settings line.scheme)
      (λ x. laws.parameters.of_channel line c x lt) 0 (channel_settings line.scheme)
      (channel_in_place line.scheme))

  all_within :
      terminal_count line + c * each_count line + each_count line ≤ length line.params.items
  all_within =
      let product : (c + 1) * each_count line ≤ length line.channels.items * each_count line =
      mul-le-mul_right (each_count line) (omega arith) in
      omega (
        arith,
        laws.parameters.count line,
        laws.settings.all line.scheme line.terminals.items line.channels.items (terminal_count line)
            (each_count line) refl refl,
      )

  each_is : each_count line ≡ 1 + length (receiver_settings line.scheme)
  each_is = omega (arith, length-append (receiver_settings line.scheme) [])

  delay_time : IsTime 1 (setting_interval line (owner.Channel c) Delay)
  delay_time =
      let n : ℕ = terminal_count line + c * each_count line in
      let number : n ≡ delay_number_of line.scheme line.terminals.items line.channels.items c =
      laws.settings.delays line.scheme line.terminals.items line.channels.items c (terminal_count line)
      (each_count line) lt refl refl in
      let one : 1 ≤ get_or (leasts line.params.items) n 0 =
      rw number (line.delays_from_one c lt) in
      let fits = all_within in
      let each = each_is in
      let range = times_at_place line n (omega arith) in
      rw placed.0
      (record { ordered = range.ordered; within = range.within; enough = one })

  -- the channel is read back
  pub channel_back :
      channel_at unit places (table (channel_members unit line c h)) (read_channels line c)
      ≡ Ok (read_channels line (c + 1))
  unfolding channel_at time_there
  channel_back =
      let o : Owner = owner.Channel c in
      let ts : List Terminal = line.terminals.items in
      let cs : List Channel = line.channels.items in
      let ms : Members = channel_members unit line c h in
      let j : ℕ = terminal_count line + c * each_count line in
      let held = holds unit line some o (name_at ts h.from) (name_at ts h.to) places line.scheme in
      let ends = ends_back ms held.from_is held.to_is in
      let time = time_back (places.key (time_key Delay)) unit 1 (setting_interval line o Delay)
      some delay_time in
      let fits = all_within in
      let each = each_is in
      let next : take j (intervals line) ++ setting_interval line o Delay ∷ []
      ≡ take (j + 1) (intervals line) = rw placed.0 (take_next line j (omega arith)) in
      let besides = required_back unit line o some places ms (j + 1) (receiver_settings line.scheme)
      (receiver_whole unit line o some line.scheme)
      (placed_parts line o (j + 1) (receiver_settings line.scheme) [] placed.1).0 (omega arith)
      held.receiver_is in
      let taken : take (c + 1) cs ≡ take c cs ++ h ∷ [] =
      take_more cs c h lt ∙ ap (λ (x : Channel). take c cs ++ x ∷ []) (sym is) in
      let count : j + 1 + length (receiver_settings line.scheme)
      ≡ terminal_count line + (c + 1) * each_count line = omega arith in
      rw (held.known, ends, held.delay_is, time, next, besides, ← taken, count)

-- all channels are read back
pub channels_back : LineLaws →
    (unit : ℕ) (line : Line) → 0 < unit
    → channels_at [] unit (items_of (channels_data unit line)) (read_channels line 0)
    ≡ Ok (read_channels line (length line.channels.items))
channels_back laws unit line some =
    items_back (channel_at unit) (places_in (codes "channel") []) (channel_members unit line)
    line.channels.items (read_channels line)
    (λ c h. channel_back laws unit line some (places_in (codes "channel") [] c) c h)

-- when all terminals are read
pub between_back :
    (line : Line) → read_terminals line (length line.terminals.items) ≡ read_channels line 0
between_back line =
    let ts : List Terminal = line.terminals.items in
    let all : take (length ts) ts ≡ ts = take_all (length ts) ts (omega arith) in
    let count : terminal_count line ≡ terminal_count line + 0 * each_count line = omega arith in
    rw (all, ← count)

-- when all channels are read
pub whole_back : LineLaws →
    (line : Line)
    → read_channels line (length line.channels.items) ≡ line_values line
whole_back laws line =
    let cs : List Channel = line.channels.items in
    let all : take (length cs) cs ≡ cs = take_all (length cs) cs (omega arith) in
    let count : terminal_count line + length cs * each_count line ≡ length line.params.items =
    laws.settings.all line.scheme line.terminals.items cs (terminal_count line)
    (each_count line) refl refl
    ∙ laws.parameters.count line in
    let long : length (intervals line) ≤ terminal_count line + length cs * each_count line =
    omega (arith, length-intervals line, count) in
    let times : take (terminal_count line + length cs * each_count line) (intervals line)
    ≡ intervals line = take_all _ (intervals line) long in
    rw (all, times)

abbrev pub AreJoined : List Channel → List (ℕ × ℕ) → Type 0
AreJoined cs [] = Unit {0}
AreJoined cs (pair ∷ pairs) = (list_any (is_pair pair.0 pair.1) cs ≡ true) × AreJoined cs pairs

pairs_back :
    (ts : List Terminal) (cs : List Channel) (pairs : List (ℕ × ℕ))
    → AreJoined cs pairs → all_joined ts cs pairs ≡ Ok tt
pairs_back ts cs [] h = refl
pairs_back ts cs (pair ∷ pairs) h = rw h.0 (pairs_back ts cs pairs h.1)

-- each pair of terminals has its channel
pub joined_back : (line : Line) → whole line.terminals.items line.channels.items ≡ Ok tt
unfolding whole
joined_back line = cases (length line.terminals.items) refl
  where
    found : (j k : ℕ) → j < length line.terminals.items → k < length line.terminals.items → j ≢ k
        → list_any (is_pair j k) line.channels.items ≡ true
    found j k jt kt ne =
        sym (is_some-position (is_pair j k) 0 line.channels.items)
        ∙ line.pairs_once.found j k jt kt ne

    cases : (n : ℕ) → length line.terminals.items ≡ n
        → all_joined line.terminals.items line.channels.items (pairs_of n) ≡ Ok tt
    cases zero e = absurd (let few = line.two_or_three in omega arith)
    cases (suc zero) e = absurd (let few = line.two_or_three in omega arith)
    cases (suc (suc zero)) e =
        pairs_back line.terminals.items line.channels.items two_pairs (
          found 0 1 (omega arith) (omega arith) (λ x. absurd (omega arith)),
          (found 1 0 (omega arith) (omega arith) (λ x. absurd (omega arith)), tt),
        )
    cases (suc (suc (suc zero))) e =
        pairs_back line.terminals.items line.channels.items three_pairs (
          found 0 1 (omega arith) (omega arith) (λ x. absurd (omega arith)),
          (
            found 0 2 (omega arith) (omega arith) (λ x. absurd (omega arith)),
            (
              found 1 0 (omega arith) (omega arith) (λ x. absurd (omega arith)),
              (
                found 1 2 (omega arith) (omega arith) (λ x. absurd (omega arith)),
                (
                  found 2 0 (omega arith) (omega arith) (λ x. absurd (omega arith)),
                  (found 2 1 (omega arith) (omega arith) (λ x. absurd (omega arith)), tt),
                ),
              ),
            ),
          ),
        )
    cases (suc (suc (suc (suc n)))) e = absurd (let few = line.two_or_three in omega arith)
