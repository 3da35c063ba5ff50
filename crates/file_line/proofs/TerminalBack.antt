-- A printed terminal is read back.
use Rattle.std.proofs.Common.{◌≡◌, ◌+◌, ◌<◌, ◌≤◌, ◌&&◌, ◌||◌, ◌++◌, ℕ, Bool, true}
use Rattle.std.proofs.Common.{false, not, List, [], ◌∷◌, length, take, get_or, Option}
use Rattle.std.proofs.Common.{Ok, refl, sym, ap, subst, ◌∙◌, arith, codes}
use Rattle.std.proofs.lemmas.List.{get_or-map, take_more}
use Rattle.std.specs.Prelude.{is_some}
use Rattle.std.specs.Str.{bytes_eq}
use Rattle.std.specs.List.{list_all, list_any}
use Rattle.toml.specs.{Data.Data, Data.table, Data.Members, Data.get_member, View.items_of}
use Rattle.model_line.specs.declared.line.Scheme.TheVariants.{Pott, Dcub}
use Rattle.model_line.specs.Settings.{zone1_settings, zone2_settings, reverse_settings}
use Rattle.model_line.specs.Settings.{undervoltage_settings, groups_with, all_of, guard_settings}
use Rattle.model_line.specs.Settings.{weak_settings, scheme_settings, terminal_settings}
use Rattle.model_line.specs.Settings.{channel_settings, settings_of_terminals}
use Rattle.model_line.specs.Terminals.{names_of, has_flags, has_no_flag}
use Rattle.model_line.specs.declared.line.Setting.{Setting}
use Rattle.model_line.specs.{declared.line.Terminal.Terminal, declared.line.Line.Line}
use Rattle.model_line.specs.{declared.line.Scheme.Scheme, declared.line.Owner.Owner}
use Rattle.model_line.specs.PlainNames.{is_plain_name}
use Rattle.model_line.specs.FirstPositionLaws.{list_any-take_none}
use Rattle.model_line.specs.declared.line.Owner.TheVariants as owner
use Rattle.model_line.specs.TextLaws.{bytes_differ}
use Rattle.model_logic.specs.Laws.{LineLaws}
use Rattle.file_line.specs.Times.{group_key, required_times}
use Rattle.file_line.specs.TerminalTables.{no_times, name_at, elements_times}
use Rattle.file_line.specs.TerminalTables.{permissive_times, scheme_times}
use Rattle.file_line.specs.TerminalTables.{terminal_named, terminal_at, terminals_at}
use Rattle.file_line.specs.Canonical.{terminal_members, terminals_data}
use Rattle.file_line.specs.Places.{Places, places_in, key_text}
use Rattle.file_line.specs.Lines.{LineValues}
use Rattle.file_line.proofs.TimesBack.{value, as_many, required_back, optional_back, flagged_back}
use Rattle.file_line.proofs.TimesBack.{zone1_whole, zone2_whole, reverse_whole}
use Rattle.file_line.proofs.TimesBack.{undervoltage_whole, guard_whole, weak_whole, scheme_whole}
use Rattle.file_line.proofs.TerminalHolds.{members, Holds, holds}
use Rattle.file_line.proofs.ParamPlaces.{intervals, ArePlaced, placed_parts, in_place, placed_from}
use Rattle.file_line.proofs.ParamPlaces.{settings_within}
use Rattle.file_line.proofs.TerminalLaws.{own_settings_count}
use Rattle.model_line.specs.PlainTextLaws.{passes}
use Rattle.file_line.proofs.ItemSteps.{items_back}

abbrev pub before : Line → ℕ → ℕ
before line k = length (settings_of_terminals line.scheme 0 (take k line.terminals.items))

-- the line when k terminals are read
abbrev pub read_terminals : Line → ℕ → LineValues
read_terminals line k =
    record {
      tick_us = line.tick_us;
      horizon = line.horizon;
      scheme = line.scheme;
      zone1_trip = line.zone1_trip;
      terminals = take k line.terminals.items;
      channels = [];
      intervals = take (before line k) (intervals line);
    }

-- no terminal before has the name of terminal k
pub new_name :
    (line : Line) (k : ℕ) (t : Terminal) → k < length line.terminals.items
    → t ≡ get_or line.terminals.items k t
    → list_any (λ u. bytes_eq u.name t.name) (take k line.terminals.items) ≡ false
new_name line k t lt is =
    let ts : List Terminal = line.terminals.items in
    let name : Terminal → List ℕ = λ u. u.name in
    let mine : get_or (names_of ts) k [] ≡ t.name =
    get_or-map name ts k t [] lt ∙ ap name (sym is) in
    list_any-take_none (λ u. bytes_eq u.name t.name) k ts t
    (λ j before. bytes_differ (get_or ts j t).name t.name
    (λ same. line.names_once j k before lt
    (get_or-map name ts j t [] (omega arith) ∙ same ∙ sym mine)))

-- what may stand by the scheme stands where it is found
flag_back :
    (b f : Bool) (o : Option Data) → b || not f ≡ true → is_some o ≡ f → b && is_some o ≡ f
flag_back true f o h e = e
flag_back false true o h e = absurd (cc)
flag_back false false o h e = refl

each_flag :
    (b w g : Bool) → b || not (w || g) ≡ true → (b || not w ≡ true) × (b || not g ≡ true)
each_flag true w g h = (refl, refl)
each_flag false true g h = absurd (cc)
each_flag false false true h = absurd (cc)
each_flag false false false h = (refl, refl)

-- each setting of a terminal stands where it is counted
terminal_in_place :
    (s : Scheme) (g w : Bool)
    → in_place (all_of (groups_with s g w)) 0 (all_of (groups_with s g w)) ≡ true
terminal_in_place Pott true true = refl
terminal_in_place Pott true false = refl
terminal_in_place Pott false true = refl
terminal_in_place Pott false false = refl
terminal_in_place s true true = refl
terminal_in_place s true false = refl
terminal_in_place s false true = refl
terminal_in_place s false false = refl

module _ (unit : ℕ) (line : Line) (some : 0 < unit) (o : Owner) (places : Places) (ms : Members) where
  -- the elements are read back, and what stands behind them is placed
  elements_back :
      (s : Scheme) (g w : Bool) (n : ℕ) (name : List ℕ) (rest : List Setting)
      → ArePlaced line o n
      (zone1_settings ++ (zone2_settings ++ (reverse_settings ++ (undervoltage_settings ++ rest))))
      → n + 2 + 2 + 2 + 2 ≤ length line.params.items → ms ≡ members unit line some o name s g w
      → Holds unit line some o name places s g w
      → (elements_times places unit ms (take n (intervals line))
      ≡ Ok (take (n + 2 + 2 + 2 + 2) (intervals line)))
      × ArePlaced line o (n + 2 + 2 + 2 + 2) rest
  unfolding elements_times
  elements_back s g w n name rest placed fits is held =
      let more = placed_parts line o n zone1_settings
      (zone2_settings ++ (reverse_settings ++ (undervoltage_settings ++ rest))) placed in
      let last = placed_parts line o (n + 2) zone2_settings
      (reverse_settings ++ (undervoltage_settings ++ rest)) more.1 in
      let two = placed_parts line o (n + 2 + 2) reverse_settings (undervoltage_settings ++ rest)
      last.1 in
      let one = placed_parts line o (n + 2 + 2 + 2) undervoltage_settings rest two.1 in
      let z1 = optional_back unit line o some places ms n no_times zone1_settings
      (zone1_whole unit line o some) more.0 (omega arith) (rw is held.zone1_is) in
      let z2 = optional_back unit line o some places ms (n + 2) no_times zone2_settings
      (zone2_whole unit line o some) last.0 (omega arith) (rw is held.zone2_is) in
      let rv = optional_back unit line o some places ms (n + 2 + 2) no_times reverse_settings
      (reverse_whole unit line o some) two.0 (omega arith) (rw is held.reverse_is) in
      let uv = optional_back unit line o some places ms (n + 2 + 2 + 2) no_times
      undervoltage_settings (undervoltage_whole unit line o some) one.0 fits
      (rw is held.undervoltage_is) in
      (rw (z1, z2, rv) uv, one.1)

  permissive_back :
      (s : Scheme) (g w : Bool) (j : ℕ) (name : List ℕ) (rest : List Setting)
      → ArePlaced line o j (guard_settings g ++ (weak_settings w ++ rest))
      → j + length (guard_settings g) + length (weak_settings w) ≤ length line.params.items
      → ms ≡ members unit line some o name s g w → Holds unit line some o name places s g w
      → permissive_times places unit ms (take j (intervals line))
      ≡ Ok (take (j + length (guard_settings g) + length (weak_settings w)) (intervals line))
  unfolding permissive_times
  permissive_back s g w j name rest placed fits is held =
      let more = placed_parts line o j (guard_settings g) (weak_settings w ++ rest) placed in
      let last = placed_parts line o (j + length (guard_settings g)) (weak_settings w) rest more.1
      in
      let guard = flagged_back unit line o some places ms j guard_settings
      (guard_whole unit line o some) refl refl g more.0 (omega arith) (rw is held.guard_is) in
      let weak = flagged_back unit line o some places ms (j + length (guard_settings g))
      weak_settings (weak_whole unit line o some) refl refl w last.0 fits (rw is held.weak_is) in
      rw guard weak

  -- what a scheme with no flags has
  own_back :
      (s : Scheme) (j : ℕ) (name : List ℕ) → ArePlaced line o j (scheme_settings s ++ [])
      → j + length (scheme_settings s) ≤ length line.params.items
      → ms ≡ members unit line some o name s false false
      → Holds unit line some o name places s false false
      → required_times places (scheme_settings s) unit ms (take j (intervals line))
      ≡ Ok (take (j + 0 + 0 + length (scheme_settings s)) (intervals line))
  own_back s j name placed fits is held =
      required_back unit line o some places ms j (scheme_settings s) (scheme_whole unit line o some s)
      (placed_parts line o j (scheme_settings s) [] placed).0 fits (rw is held.scheme_is)
      ∙ as_many line (j + length (scheme_settings s)) (j + 0 + 0 + length (scheme_settings s))
      (omega arith)

  scheme_back :
      (s : Scheme) (g w : Bool) (j : ℕ) (name : List ℕ) → has_flags s || not (w || g) ≡ true
      → ArePlaced line o j (guard_settings g ++ (weak_settings w ++ (scheme_settings s ++ [])))
      → j + length (guard_settings g) + length (weak_settings w) + length (scheme_settings s)
      ≤ length line.params.items
      → ms ≡ members unit line some o name s g w → Holds unit line some o name places s g w
      → scheme_times s places unit ms (take j (intervals line))
      ≡ Ok (take
      (j + length (guard_settings g) + length (weak_settings w) + length (scheme_settings s))
      (intervals line))
  scheme_back Pott g w j name flags placed fits is held =
      permissive_back Pott g w j name [] placed (omega arith) is held
      ∙ as_many line (j + length (guard_settings g) + length (weak_settings w))
      (j + length (guard_settings g) + length (weak_settings w) + 0) (omega arith)
  scheme_back Dcub g w j name flags placed fits is held =
      permissive_back Dcub g w j name [] placed (omega arith) is held
      ∙ as_many line (j + length (guard_settings g) + length (weak_settings w))
      (j + length (guard_settings g) + length (weak_settings w) + 0) (omega arith)
  scheme_back s false false j name flags placed fits is held =
      own_back s j name placed (omega arith) is held
  scheme_back s true true j name flags placed fits is held = absurd (cc)
  scheme_back s true false j name flags placed fits is held = absurd (cc)
  scheme_back s false true j name flags placed fits is held = absurd (cc)

weak_stands :
    (unit : ℕ) (line : Line) (o : Owner) (some : 0 < unit) (w : Bool)
    → is_some (value unit line o some (weak_settings w)) ≡ w
weak_stands unit line o some true = refl
weak_stands unit line o some false = refl

guard_stands :
    (unit : ℕ) (line : Line) (o : Owner) (some : 0 < unit) (g : Bool)
    → is_some (value unit line o some (guard_settings g)) ≡ g
guard_stands unit line o some true = refl
guard_stands unit line o some false = refl

-- terminal k is read back
terminal_back : LineLaws →
    (unit : ℕ) (line : Line) (places : Places) (k : ℕ) (t : Terminal) → 0 < unit
    → k < length line.terminals.items → t ≡ get_or line.terminals.items k t
    → terminal_at unit places (table (terminal_members unit line k t)) (read_terminals line k)
    ≡ Ok (read_terminals line (k + 1))
unfolding terminal_at name_at key_text
terminal_back laws unit line places k t some lt is =
    let ts : List Terminal = line.terminals.items in
    let s : Scheme = line.scheme in
    let o : Owner = owner.Terminal k in
    let n : ℕ = before line k in
    let ms : Members = terminal_members unit line k t in
    let plain : is_plain_name t.name ≡ true =
    rw is (passes (λ u. is_plain_name u.name) ts k t lt line.plain_names) in
    let flags : has_flags s || not (t.weak || t.guard) ≡ true =
    flags_at (has_flags s) ts k t lt is line.flags_by_scheme in
    let held = holds unit line some o t.name places s t.guard t.weak flags in
    let first : n + 0 ≡ n = omega arith in
    let placed : ArePlaced line o n (terminal_settings s t) =
    subst (λ i. ArePlaced line o i (terminal_settings s t)) first
    (placed_from line o n (terminal_settings s t)
    (λ x. laws.parameters.of_terminal line k x t lt is) 0 (terminal_settings s t)
    (terminal_in_place s t.guard t.weak)) in
    let count : n + length (terminal_settings s t) ≡ before line (k + 1) =
    laws.settings.terminals s ts k n (length (terminal_settings s t)) t lt is refl refl in
    let own = own_settings_count s t in
    let within : before line (k + 1) ≤ length line.params.items =
    omega (
      arith,
      settings_within s 0 (k + 1) ts,
      laws.parameters.count line,
      laws.settings.all s ts line.channels.items (length (settings_of_terminals s 0 ts))
          (length (channel_settings s)) refl refl,
    ) in
    let sum : n + 2 + 2 + 2 + 2 + length (guard_settings t.guard)
    + length (weak_settings t.weak) + length (scheme_settings s) ≡ before line (k + 1) =
    omega arith in
    let elements = elements_back unit line some o places ms s t.guard t.weak n t.name
    (guard_settings t.guard ++ (weak_settings t.weak ++ (scheme_settings s ++ []))) placed
    (omega arith) refl held in
    let besides = scheme_back unit line some o places ms s t.guard t.weak (n + 2 + 2 + 2 + 2) t.name
    flags elements.1 (omega arith) refl held in
    let flag = each_flag (has_flags s) t.weak t.guard flags in
    let weak_is : has_flags s && is_some (get_member (group_key (weak_settings true)) ms)
    ≡ t.weak =
    rw held.weak_is
    (flag_back (has_flags s) t.weak (value unit line o some (weak_settings t.weak)) flag.0
    (weak_stands unit line o some t.weak)) in
    let guard_is : has_flags s && is_some (get_member (group_key (guard_settings true)) ms)
    ≡ t.guard =
    rw held.guard_is
    (flag_back (has_flags s) t.guard (value unit line o some (guard_settings t.guard)) flag.1
    (guard_stands unit line o some t.guard)) in
    let named : terminal_named s ms t.name ≡ t = rw (weak_is, guard_is) in
    let taken : take (k + 1) ts ≡ take k ts ++ t ∷ [] =
    take_more ts k t lt ∙ ap (λ (u : Terminal). take k ts ++ u ∷ []) (sym is) in
    rw (
      held.known,
      held.name_is,
      plain,
      new_name line k t lt is,
      elements.0,
      besides,
      named,
      ← taken,
      sum,
    )
  where
    flags_at :
        (b : Bool) (ts : List Terminal) (k : ℕ) (t : Terminal) → k < length ts → t ≡ get_or ts k t
        → b || list_all has_no_flag ts ≡ true → b || not (t.weak || t.guard) ≡ true
    flags_at true ts k t lt is all = refl
    flags_at false ts k t lt is all = rw is (passes has_no_flag ts k t lt all)

-- all terminals are read back
pub terminals_back : LineLaws →
    (unit : ℕ) (line : Line) → 0 < unit
    → terminals_at [] unit (items_of (terminals_data unit line)) (read_terminals line 0)
    ≡ Ok (read_terminals line (length line.terminals.items))
terminals_back laws unit line some =
    items_back (terminal_at unit) (places_in (codes "terminal") []) (terminal_members unit line)
    line.terminals.items (read_terminals line)
    (λ k t. terminal_back laws unit line (places_in (codes "terminal") [] k) k t some)
