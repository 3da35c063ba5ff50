-- A play that is written as a record is read back.
use Rattle.std.proofs.Common.{◌≡◌, ◌≤◌, ◌<◌, ◌+◌, ◌-◌, ◌*◌, ◌^◌, ◌++◌, ◌∙◌, ℕ, suc, Bool, true, false}
use Rattle.std.proofs.Common.{List, [], ◌∷◌, length, get_or, map, drop, None, Some, Ok, refl, ap, sym, arith}
use Rattle.std.proofs.Common.{length-append, subst}
use Rattle.std.proofs.Math.Nat.{mul-le-mul}
use Rattle.std.proofs.lemmas.Bool.{and_from}
use Rattle.std.proofs.lemmas.Fmt.{decimal_nonempty}
use Rattle.std.proofs.lemmas.List.{drop_at, get_or-append-add, get_or-map, get_or_append_left, length-map}
use Rattle.std.proofs.lemmas.List.{take_all}
use Rattle.std.proofs.lemmas.List.Elements.{All-from_get_or, recursion_from_All}
use Rattle.std.proofs.lemmas.List.Folds.{list_all-append}
use Rattle.std.proofs.lemmas.List.FromFn.{get_or-map-range_with_len, length-map-range_with_len}
use Rattle.std.specs.List.{AllByRecursion, list_all, range_with_len}
use Rattle.std.specs.Prelude.{codes, decimal, nat_lt}
use Rattle.base_text.specs.store.DecimalLaws.{are_digits}
use Rattle.model_history.specs.Each.{each_below}
use Rattle.model_line.specs.{declared.line.Line.Line, declared.script.Script.Script}
use Rattle.model_line.specs.Parameters.{terminal_count}
use Rattle.model_line.specs.PlainNames.{is_plain_name}
use Rattle.model_logic.specs.Histories.{History}
use Rattle.run_changes.specs.rows.PlayRows.{level_word}
use Rattle.file_comtrade.specs.Config.{config_of, digital_after, ended, line_at}
use Rattle.file_comtrade.specs.Data.{ended as data_ended}
use Rattle.file_comtrade.specs.{Data.raw_at, Data.samples_of, Data.shape_of}
use Rattle.file_comtrade.specs.{RawSample.raw_in_line, Steps.steps}
use Rattle.file_comtrade.specs.Text.{fields_of, lines_of}
use Rattle.file_records.specs.{recorded.Config.channel_count, recorded.Config.config_text}
use Rattle.file_records.specs.declared.map.source.Signal.{Signal}
use Rattle.file_records.specs.declared.map.source.Signal.TheVariants.{Key}
use Rattle.file_records.specs.map.Sources.{id}
use Rattle.file_records.specs.tracks.Tracks.{ticks_of}
use Rattle.file_records.specs.recorded.Channels.{id_of, level_of, loss_signals, signals_of, terminal_signals}
use Rattle.file_records.specs.recorded.ReadBack.{ConfigsAreReadBack, DataAreReadBack, PlaysAreReadBack}
use Rattle.file_records.specs.recorded.ReadBack.{config_meant, files_of, levels_meant, samples_meant, start}
use Rattle.file_records.proofs.recorded_lemmas.ConfigBack.{IsTail, channel_fields, channels_back, config_back, date_fields}
use Rattle.file_records.proofs.recorded_lemmas.ConfigBack.{tail_back}
use Rattle.file_records.proofs.recorded_lemmas.DataBack.{raw_back, samples_back, samples_steps, text_shape}
use Rattle.file_records.proofs.recorded_lemmas.Fields.{AreRows, IsField, IsRow, are_rows_append, is_row, line_back, lines_back}
use Rattle.file_records.proofs.recorded_lemmas.Fields.{no_end, no_mark_first, row, row_back, rows_text, solid}
use Rattle.file_records.proofs.recorded_lemmas.Ids.{id_is_field, named_there, plain_name}
use Rattle.file_records.proofs.recorded_lemmas.Levels.{AreSaid, accepted, are_at, levels_are, never_falls, only_levels}
use Rattle.file_records.proofs.recorded_lemmas.Lists.{AtPlaces, length_below, places_append, places_at, places_below}
use Rattle.file_records.proofs.recorded_lemmas.Numbers.{decimal_field, decimal_solid}
use Rattle.file_records.proofs.recorded_lemmas.Rows.{Row, channel_row, config_is, config_rows, data_is, head_rows}
use Rattle.file_records.proofs.recorded_lemmas.Rows.{number_of, sample_row, tail_rows}

-- ---- rows and their lines

line_row : (rs : List Row) (k : ℕ) → AreRows rs → k < length rs
    → line_at (lines_of (rows_text rs)) k ≡ Ok (get_or rs k [])
unfolding line_at
line_row rs k all within =
    rw (line_back rs k all within)
    (ap (λ (r : Row). Ok r) (row_back (get_or rs k []) (is_row rs k all within)))

rows_from : (rs : List Row) → ((k : ℕ) → k < length rs → IsRow (get_or rs k [])) → AreRows rs
rows_from rs each = recursion_from_All IsRow rs (All-from_get_or IsRow rs [] each)

-- ---- how many channels there are

few : (n : ℕ) → n ≤ 3 → n * (n - 1) ≤ 6
few n upto =
    let below : n - 1 ≤ 2 = omega arith in
    let product : n * (n - 1) ≤ 3 * 2 = mul-le-mul upto below in
    omega arith

signals_long : (line : Line) → length (signals_of line) ≡ channel_count line
signals_long line =
    let n : ℕ = terminal_count line in
    let m : ℕ = length line.channels.items in
    let first = length_below terminal_signals 7 n (λ k. refl) in
    let second = length_below loss_signals 1 m (λ c. refl) in
    let sum = length-append (each_below n terminal_signals) (each_below m loss_signals) in
    omega arith

few_channels : (line : Line) → channel_count line ≤ 27
few_channels line =
    let three = line.two_or_three.1 in
    let count = line.pairs_once.count in
    let six = few (terminal_count line) three in
    omega arith

-- a channel's number is one above its place
abbrev HasNumber : Line → ℕ → Signal → Type 0
HasNumber line place signal = number_of line signal ≡ place + 1

numbers_are : (line : Line) → AtPlaces (HasNumber line) 0 (signals_of line)
numbers_are line =
    let n : ℕ = terminal_count line in
    let m : ℕ = length line.channels.items in
    let long = length_below terminal_signals 7 n (λ k. refl) in
    places_append (HasNumber line) 0 (7 * n) (each_below n terminal_signals) (each_below m loss_signals) (omega arith)
    (places_below (HasNumber line) terminal_signals 7 0 n (λ k. refl) (λ k less.
    (omega arith, (omega arith, (omega arith, (omega arith, (omega arith, (omega arith, (omega arith, tt)))))))))
    (places_below (HasNumber line) loss_signals 1 (7 * n) m (λ c. refl) (λ c less. (omega arith, tt)))

-- ---- the configuration

abbrev none : Signal
none = Key 0

module _ (line : Line) (script : Script) (plain : is_plain_name script.name ≡ true) where
  abbrev count : ℕ
  count = channel_count line

  abbrev channels : List Row
  channels = map (channel_row line) (signals_of line)

  abbrev rs : List Row
  rs = config_rows line script.name

  abbrev lines : List (List ℕ)
  lines = lines_of (rows_text rs)

  channels_long : length channels ≡ count
  channels_long = length-map (signals_of line) (channel_row line) ∙ signals_long line

  channel_at : (k : ℕ) → k < count → get_or channels k [] ≡ channel_row line (get_or (signals_of line) k none)
  channel_at k within =
      let long = signals_long line in
      get_or-map (channel_row line) (signals_of line) k none [] (omega arith)

  channel_is : (k : ℕ) → k < count → IsRow (channel_row line (get_or (signals_of line) k none))
  channel_is k within =
      let long = signals_long line in
      let most = few_channels line in
      let number = places_at (HasNumber line) 0 k (signals_of line) none (omega arith) (numbers_are line) in
      let signal : Signal = get_or (signals_of line) k none in (
        decimal_field (number_of line signal) (omega arith),
        (
          id_is_field line k none (omega arith),
          (solid [] refl, (solid [] refl, (solid (codes "0") refl, tt))),
        ),
      )

  channels_are : AreRows channels
  channels_are =
      let long = channels_long in
      rows_from channels (λ k within.
      subst IsRow (sym (channel_at k (omega arith))) (channel_is k (omega arith)))

  heads_are : AreRows (head_rows script.name count)
  heads_are =
      let most = few_channels line in
      let small : count < 2 ^ 64 = omega arith in
      let digits : List ℕ = decimal count in (
        (
          solid (codes "pilot") refl,
          (
            solid script.name (plain_name script.name plain).solid,
            (solid (codes "1999") refl, tt),
          ),
        ),
        (
          (
            decimal_field count small,
            (
              solid (codes "0A") refl,
              (
                solid (digits ++ codes "D")
                    (list_all-append (λ b. nat_lt 44 b) digits (codes "D")
                    ∙ and_from (list_all (λ b. nat_lt 44 b) digits) (list_all (λ b. nat_lt 44 b) (codes "D"))
                    (decimal_solid count small) refl),
                tt,
              ),
            ),
          ),
          tt,
        ),
      )

  tails_are : AreRows (tail_rows line.horizon)
  tails_are =
      let most = line.horizon_in_range.1 in
      let dates : IsRow date_fields =
      (solid (codes "01/01/2000") refl, (solid (codes "00:00:00.000000") refl, tt)) in (
        (solid (codes "50") refl, tt),
        (
          (solid (codes "0") refl, tt),
          (
            (solid (codes "0") refl, (decimal_field line.horizon (omega arith), tt)),
            (
              dates,
              (
                dates,
                ((solid (codes "ASCII") refl, tt), ((solid (codes "1") refl, tt), tt)),
              ),
            ),
          ),
        ),
      )

  rows_are : AreRows rs
  rows_are =
      are_rows_append (head_rows script.name count) (channels ++ tail_rows line.horizon) heads_are
      (are_rows_append channels (tail_rows line.horizon) channels_are tails_are)

  rows_long : length rs ≡ count + 9
  rows_long =
      let long = channels_long in
      let sum = length-append channels (tail_rows line.horizon) in
      omega arith

  channel_line_at : (k : ℕ) → k < length (map (id_of line) (signals_of line))
      → line_at lines (2 + k)
      ≡ Ok (channel_fields (decimal (number_of line (get_or (signals_of line) k none)))
      (get_or (map (id_of line) (signals_of line)) k []))
  channel_line_at k within =
      let signals : List Signal = signals_of line in
      let long = rows_long in
      let some = channels_long in
      let same = length-map signals (id_of line) in
      let own = length-map signals (channel_row line) in
      let two : 2 + k ≡ suc (suc k) = omega arith in
      let name = get_or-map (id_of line) signals k none [] (omega arith) in
      line_row rs (2 + k) rows_are (omega arith)
      ∙ ap (λ (j : ℕ). Ok (get_or rs j [])) two
      ∙ ap (λ (r : Row). Ok r) (get_or_append_left channels (tail_rows line.horizon) [] k (omega arith))
      ∙ ap (λ (r : Row). Ok r) (channel_at k (omega arith))
      ∙ ap (λ (l : List ℕ). Ok (channel_fields (decimal (number_of line (get_or signals k none))) l)) (sym name)

  channels_read : steps (digital_after lines 2) [] count ≡ Ok (map (id_of line) (signals_of line))
  channels_read =
      let ids : List (List ℕ) = map (id_of line) (signals_of line) in
      let long : length ids ≡ count = length-map (signals_of line) (id_of line) ∙ signals_long line in
      channels_back lines 2 (λ k. decimal (number_of line (get_or (signals_of line) k none))) ids
      channel_line_at count (omega arith)
      ∙ ap (λ (l : List (List ℕ)). Ok l) (take_all count ids (omega arith))

  tail_at_place : (at j : ℕ) → at ≡ 2 + count + j → j < 7
      → line_at lines at ≡ Ok (get_or (tail_rows line.horizon) j [])
  tail_at_place at j is below_seven =
      let long = rows_long in
      let some = channels_long in
      let place : at ≡ suc (suc (length channels + j)) = omega arith in
      line_row rs at rows_are (omega arith)
      ∙ ap (λ (i : ℕ). Ok (get_or rs i [])) place
      ∙ ap (λ (r : Row). Ok r) (get_or-append-add channels (tail_rows line.horizon) j [])

  tail_is : IsTail lines (2 + count) line.horizon
  tail_is = record {
    frequency = tail_at_place (2 + count) 0 (omega arith) (omega arith);
    rates = tail_at_place (2 + count + 1) 1 (omega arith) (omega arith);
    rate = tail_at_place (2 + count + 2 + 0) 2 (omega arith) (omega arith);
    first = tail_at_place (2 + count + 2 + 1) 3 (omega arith) (omega arith);
    trigger = tail_at_place (2 + count + 2 + 1 + 1) 4 (omega arith) (omega arith);
    form = tail_at_place (2 + count + 2 + 1 + 2) 5 (omega arith) (omega arith);
    factor = tail_at_place (2 + count + 2 + 1 + 3) 6 (omega arith) (omega arith);
  }

  config_read : config_of None (config_text line script.name) ≡ Ok (config_meant line)
  config_read =
      let most = line.horizon_in_range.1 in
      let some = line.horizon_in_range.0 in
      let channels_few = few_channels line in
      let long = rows_long in
      ap (config_of None) (config_is line script.name)
      ∙ ap (ended lines)
      (config_back lines script.name count line.horizon (map (id_of line) (signals_of line)) (omega arith)
      (line_row rs 0 rows_are (omega arith)) (line_row rs 1 rows_are (omega arith)) channels_read
      (tail_back lines (2 + count) line.horizon (omega arith) (omega arith) tail_is))

pub configs_are_read_back : ConfigsAreReadBack
configs_are_read_back line script plain = config_read line script plain

-- ---- the data

word_field : (b : Bool) → IsField (level_word b)
word_field true = solid (codes "1") refl
word_field false = solid (codes "0") refl

words_are : (f : Signal → Bool) (signals : List Signal)
    → AllByRecursion IsField (map (λ s. level_word (f s)) signals)
words_are f [] = tt
words_are f (s ∷ signals) = (word_field (f s), words_are f signals)

words_twice : (f : Signal → Bool) (signals : List Signal)
    → map (λ s. level_word (f s)) signals ≡ map level_word (map f signals)
words_twice f [] = refl
words_twice f (s ∷ signals) = ap (λ (l : List (List ℕ)). level_word (f s) ∷ l) (words_twice f signals)

-- stamps are small
small_stamp : (line : Line) (t : ℕ) → t < line.horizon → t * line.tick_us ≤ 4000000000
small_stamp line t within =
    let most = line.horizon_in_range.1 in
    let long = line.tick_in_range.1 in
    let early : t ≤ 4000 = omega arith in
    let product : t * line.tick_us ≤ 4000 * 1000000 = mul-le-mul early long in
    omega arith

module _ (line : Line) (script : Script) (h : History) where
  abbrev data_rows : List Row
  data_rows = map (sample_row line script h) (range_with_len 0 line.horizon)

  abbrev data_lines : List (List ℕ)
  data_lines = lines_of (rows_text data_rows)

  data_long : length data_rows ≡ line.horizon
  data_long = length-map-range_with_len (sample_row line script h) 0 line.horizon

  data_row_at : (t : ℕ) → t < line.horizon → get_or data_rows t [] ≡ sample_row line script h t
  data_row_at t within =
      get_or-map-range_with_len (sample_row line script h) 0 line.horizon t t [] within (omega arith)

  data_row_is : (t : ℕ) → t < line.horizon → IsRow (sample_row line script h t)
  data_row_is t within =
      let most = line.horizon_in_range.1 in
      let stamp = small_stamp line t within in (
        decimal_field (t + 1) (omega arith),
        (
          decimal_field (t * line.tick_us) (omega arith),
          words_are (λ s. level_of script h s t) (signals_of line),
        ),
      )

  data_rows_are : AreRows data_rows
  data_rows_are =
      let long = data_long in
      rows_from data_rows (λ t within.
      subst IsRow (sym (data_row_at t (omega arith))) (data_row_is t (omega arith)))

  rest_is : drop line.horizon data_lines ≡ [] ∷ []
  rest_is =
      ap (drop line.horizon) (lines_back data_rows data_rows_are)
      ∙ drop_at (map row data_rows) ([] ∷ []) line.horizon (length-map data_rows row ∙ data_long)

  raw_there : (i : ℕ) (d : Signal) → i < length (signals_of line) → (t : ℕ) → t < line.horizon
      → raw_in_line (text_shape (length (map (id_of line) (signals_of line)))) (i ∷ []) t
      (row (get_or data_rows t []))
      ≡ Ok (record {
        number = t + 1;
        stamp = Some (t * line.tick_us);
        levels = level_of script h (get_or (signals_of line) i d) t ∷ [];
      })
  raw_there i d inside t within =
      let most = line.horizon_in_range.1 in
      let stamp = small_stamp line t within in
      let signals : List Signal = signals_of line in
      let f : Signal → Bool = λ s. level_of script h s t in
      let levels : List Bool = map f signals in
      let many : length levels ≡ length (map (id_of line) signals) =
      length-map signals f ∙ sym (length-map signals (id_of line)) in
      let some = length-map signals f in
      let fields : fields_of (row (get_or data_rows t []))
      ≡ decimal (t + 1) ∷ decimal (t * line.tick_us) ∷ map level_word levels =
      ap (λ (r : Row). fields_of (row r)) (data_row_at t within)
      ∙ row_back (sample_row line script h t) (data_row_is t within)
      ∙ ap (λ (l : List (List ℕ)). decimal (t + 1) ∷ decimal (t * line.tick_us) ∷ l) (words_twice f signals) in
      ap (λ (n : ℕ). raw_in_line (text_shape n) (i ∷ []) t (row (get_or data_rows t []))) (sym many)
      ∙ raw_back i t (t + 1) (t * line.tick_us) (row (get_or data_rows t [])) levels fields
      (omega arith) (omega arith) (omega arith)
      ∙ ap (λ (b : Bool). Ok (record { number = t + 1; stamp = Some (t * line.tick_us); levels = b ∷ [] }))
      (get_or-map f signals i d false inside)

  raw_is : (i : ℕ) (d : Signal) → i < length (signals_of line) → (t : ℕ) → t < line.horizon
      → raw_at (shape_of (config_meant line)) (i ∷ []) data_lines (rows_text data_rows) t
      ≡ Ok (record {
        number = t + 1;
        stamp = Some (t * line.tick_us);
        levels = level_of script h (get_or (signals_of line) i d) t ∷ [];
      })
  unfolding raw_at
  raw_is i d inside t within =
      let long = data_long in
      rw (line_back data_rows t data_rows_are (omega arith)) (raw_there i d inside t within)

  samples_read : (i : ℕ) (d : Signal) → i < length (signals_of line)
      → samples_of (config_meant line) (i ∷ []) (rows_text data_rows)
      ≡ Ok (samples_meant line (level_of script h (get_or (signals_of line) i d)))
  unfolding samples_of
  samples_read i d inside =
      let ids : List (List ℕ) = map (id_of line) (signals_of line) in
      let level = level_of script h (get_or (signals_of line) i d) in
      let bytes : List ℕ = rows_text data_rows in
      let some = line.horizon_in_range.0 in
      let long = data_long in
      let unmarked_rows =
      no_mark_first data_rows (decimal 1) _ (omega arith) (data_row_at 0 (omega arith))
      (decimal_nonempty 1 (omega arith)) (are_digits 1 (omega arith)).digits in
      rw (unmarked_rows, no_end data_rows data_rows_are) (ap (data_ended data_lines)
      (samples_back ids line.horizon line.tick_us i level data_lines bytes
      (samples_steps ids line.horizon line.tick_us i level data_lines bytes (raw_is i d inside)
      (λ t within. let stamp = small_stamp line t within in omega arith) line.horizon (omega arith))
      rest_is))

pub data_are_read_back : DataAreReadBack
data_are_read_back line script h i d inside =
    ap (samples_of (config_meant line) (i ∷ [])) (data_is line script h)
    ∙ samples_read line script h i d inside

-- ---- both

pub plays_are_read_back : PlaysAreReadBack
plays_are_read_back line script h plain = λ i d inside.
    let signal : Signal = get_or (signals_of line) i d in
    let level = level_of script h signal in
    let files = files_of line script h in
    let some = line.tick_in_range.0 in
    let many = line.horizon_in_range.0 in
    let said : AreSaid files (id (id_of line signal)) (config_meant line) i (samples_meant line level) =
    record {
      says = configs_are_read_back line script plain;
      names = named_there line i d inside;
      read = data_are_read_back line script h i d inside;
      never = never_falls line.tick_us level line.horizon;
    } in
    let there = are_at line.tick_us level line.horizon start (omega arith) (omega arith) in
    record {
      levels = levels_are files (id (id_of line signal)) (ticks_of line start) (config_meant line) i
          (samples_meant line level) said (levels_meant line level) there;
      only = only_levels files (id (id_of line signal)) (ticks_of line start) (config_meant line) i
          (samples_meant line level) said (levels_meant line level) there;
      accepted = accepted files (id (id_of line signal)) (ticks_of line start) (config_meant line) i
          (samples_meant line level) said (levels_meant line level) there;
    }
