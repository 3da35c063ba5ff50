-- The texts of a play are those of rows.
use Rattle.std.proofs.Common.{◌≡◌, ◌+◌, ◌*◌, ◌++◌, ◌∙◌, ℕ, zero, suc, List, [], ◌∷◌}
use Rattle.std.proofs.Common.{length, map, refl, ap, sym, append_assoc}
use Rattle.std.proofs.lemmas.List.{append-nil, map-append}
use Rattle.std.specs.List.{concat, range_with_len}
use Rattle.std.specs.Prelude.{codes, decimal}
use Rattle.model_history.specs.Each.{each_below}
use Rattle.model_line.specs.Channels.{from_of, to_of}
use Rattle.model_line.specs.{declared.line.Line.Line, declared.script.Script.Script}
use Rattle.model_line.specs.Parameters.{terminal_count}
use Rattle.model_line.specs.declared.script.Element.{Element}
use Rattle.model_line.specs.declared.script.Element.TheVariants.{Z1, Z2, Rv, Uv, Cur}
use Rattle.model_line.specs.declared.script.What.TheVariants as what
use Rattle.model_logic.specs.Histories.{History}
use Rattle.model_line.specs.NamesByNumber.{terminal_name}
use Rattle.run_changes.specs.rows.PlayRows.{level_word}
use Rattle.file_records.specs.recorded.Config.{channel_count, channel_line, config_text, head_text, loss_line, tail_text}
use Rattle.file_records.specs.recorded.Config.{terminal_lines}
use Rattle.file_records.specs.recorded.Data.{data_text, loss_field, sample_text, terminal_fields}
use Rattle.file_records.specs.declared.map.source.Signal.{Signal}
use Rattle.file_records.specs.declared.map.source.Signal.TheVariants.{Shown, Key, Trip}
use Rattle.file_records.specs.map.Signals.{shown}
use Rattle.file_records.specs.recorded.Channels.{id_of, level_of, loss_signals, signals_of, terminal_signals}
use Rattle.file_records.specs.recorded.Channels.{word_id}
use Rattle.file_records.proofs.recorded_lemmas.ConfigBack.{channel_fields, date_fields}
use Rattle.file_records.proofs.recorded_lemmas.Fields.{behind, rows_append, rows_text}
use Rattle.file_records.proofs.recorded_lemmas.Lists.{map_below, rows_below, rows_ranged}

-- ---- the configuration

abbrev pub Row : Type 0
Row = List (List ℕ)

abbrev pub element_number : Element → ℕ
element_number Z1 = 1
element_number Z2 = 2
element_number Rv = 3
element_number Uv = 4
element_number Cur = 5

-- the number of a signal's channel
abbrev pub number_of : Line → Signal → ℕ
number_of line (Shown (what.Element place)) = 7 * place.terminal + element_number place.element
number_of line (Shown (what.Loss c)) = 7 * terminal_count line + c + 1
number_of line (Key k) = 7 * k + 6
number_of line (Trip k) = 7 * k + 7

abbrev pub channel_row : Line → Signal → Row
channel_row line signal = channel_fields (decimal (number_of line signal)) (id_of line signal)

line_text : (n name word : List ℕ)
    → concat (n ∷ codes "," ∷ name ∷ codes " " ∷ word ∷ codes ",,,0" ∷ codes "\r\n" ∷ [])
    ≡ rows_text (channel_fields n (concat (name ∷ codes " " ∷ word ∷ [])) ∷ [])
line_text n name word = simp (append_assoc, append-nil)

one_line : (line : Line) (k n : ℕ) (word : List ℕ) → channel_line n (terminal_name line k) word
    ≡ rows_text (channel_fields (decimal n) (word_id line k word) ∷ [])
unfolding channel_line
one_line line k n word = line_text (decimal n) (terminal_name line k) word

-- rows one by one
two_rows : (rs : List Row) (r : Row) (before : List ℕ) → before ≡ rows_text rs
    → before ++ rows_text (r ∷ []) ≡ rows_text (rs ++ r ∷ [])
two_rows rs r before is =
    ap (λ (l : List ℕ). l ++ rows_text (r ∷ [])) is ∙ sym (rows_append rs (r ∷ []))

terminal_text : (line : Line) (k : ℕ)
    → rows_text (map (channel_row line) (terminal_signals k)) ≡ terminal_lines line k
terminal_text line k =
    let r : Signal → Row = channel_row line in
    let a : Signal = shown Z1 k in
    let b : Signal = shown Z2 k in
    let c : Signal = shown Rv k in
    let d : Signal = shown Uv k in
    let e : Signal = shown Cur k in
    let first = one_line line k (7 * k + 1) (codes "z1") in
    let more : (s : Signal) (rs : List Row) (own before : List ℕ) → before ≡ rows_text rs
    → own ≡ rows_text (r s ∷ []) → before ++ own ≡ rows_text (rs ++ r s ∷ []) =
    λ s rs own before is same. ap (λ (l : List ℕ). before ++ l) same ∙ two_rows rs (r s) before is in
    let two = more b (r a ∷ []) _ _ first (one_line line k (7 * k + 2) (codes "z2")) in
    let three = more c (r a ∷ r b ∷ []) _ _ two (one_line line k (7 * k + 3) (codes "rv")) in
    let four = more d (r a ∷ r b ∷ r c ∷ []) _ _ three (one_line line k (7 * k + 4) (codes "uv")) in
    let five = more e (r a ∷ r b ∷ r c ∷ r d ∷ []) _ _ four (one_line line k (7 * k + 5) (codes "cur")) in
    let six = more (Key k) (r a ∷ r b ∷ r c ∷ r d ∷ r e ∷ []) _ _ five
    (one_line line k (7 * k + 6) (codes "key")) in
    sym (more (Trip k) (r a ∷ r b ∷ r c ∷ r d ∷ r e ∷ r (Key k) ∷ []) _ _ six
    (one_line line k (7 * k + 7) (codes "trip")))

loss_line_text : (n to from : List ℕ)
    → concat (n ∷ codes "," ∷ to ∷ codes " lost " ∷ from ∷ codes ",,,0" ∷ codes "\r\n" ∷ [])
    ≡ rows_text (channel_fields n (concat (to ∷ codes " lost " ∷ from ∷ [])) ∷ [])
loss_line_text n to from = simp (append_assoc, append-nil)

loss_text : (line : Line) (c : ℕ)
    → rows_text (map (channel_row line) (loss_signals c)) ≡ loss_line line c
loss_text line c =
    sym (loss_line_text (decimal (7 * terminal_count line + c + 1))
    (terminal_name line (to_of line.channels.items c)) (terminal_name line (from_of line.channels.items c)))

abbrev pub head_rows : List ℕ → ℕ → List Row
head_rows script count =
    (codes "pilot" ∷ script ∷ codes "1999" ∷ [])
    ∷ (decimal count ∷ codes "0A" ∷ (decimal count ++ codes "D") ∷ []) ∷ []

head_line : (script n : List ℕ)
    → concat (codes "pilot," ∷ script ∷ codes ",1999" ∷ codes "\r\n" ∷ n ∷ codes ",0A," ∷ n ∷ codes "D"
    ∷ codes "\r\n" ∷ [])
    ≡ rows_text ((codes "pilot" ∷ script ∷ codes "1999" ∷ []) ∷ (n ∷ codes "0A" ∷ (n ++ codes "D") ∷ []) ∷ [])
head_line script n = simp (append_assoc, append-nil)

abbrev pub tail_rows : ℕ → List Row
tail_rows last =
    (codes "50" ∷ []) ∷ (codes "0" ∷ []) ∷ (codes "0" ∷ decimal last ∷ []) ∷ date_fields ∷ date_fields
    ∷ (codes "ASCII" ∷ []) ∷ (codes "1" ∷ []) ∷ []

tail_words : (n : List ℕ)
    → concat (codes "50" ∷ codes "\r\n" ∷ codes "0" ∷ codes "\r\n" ∷ codes "0," ∷ n ∷ codes "\r\n"
    ∷ codes "01/01/2000,00:00:00.000000" ∷ codes "\r\n" ∷ codes "01/01/2000,00:00:00.000000" ∷ codes "\r\n"
    ∷ codes "ASCII" ∷ codes "\r\n" ∷ codes "1" ∷ codes "\r\n" ∷ [])
    ≡ rows_text ((codes "50" ∷ []) ∷ (codes "0" ∷ []) ∷ (codes "0" ∷ n ∷ []) ∷ date_fields ∷ date_fields
    ∷ (codes "ASCII" ∷ []) ∷ (codes "1" ∷ []) ∷ [])
tail_words n = simp (append_assoc, append-nil)

abbrev pub config_rows : Line → List ℕ → List Row
config_rows line script =
    head_rows script (channel_count line)
    ++ (map (channel_row line) (signals_of line) ++ tail_rows line.horizon)

signal_rows : (line : Line) → rows_text (map (channel_row line) (signals_of line))
    ≡ each_below (terminal_count line) (terminal_lines line)
    ++ each_below (length line.channels.items) (loss_line line)
signal_rows line =
    let r = channel_row line in
    let n : ℕ = terminal_count line in
    let m : ℕ = length line.channels.items in
    let parts : map r (signals_of line)
    ≡ each_below n (λ k. map r (terminal_signals k)) ++ each_below m (λ c. map r (loss_signals c)) =
    map-append r (each_below n terminal_signals) (each_below m loss_signals)
    ∙ ap (λ (l : List Row). l ++ map r (each_below m loss_signals)) (map_below r terminal_signals n)
    ∙ ap (λ (l : List Row). each_below n (λ k. map r (terminal_signals k)) ++ l) (map_below r loss_signals m) in
    ap rows_text parts
    ∙ rows_append (each_below n (λ k. map r (terminal_signals k))) (each_below m (λ c. map r (loss_signals c)))
    ∙ ap (λ (l : List ℕ). l ++ rows_text (each_below m (λ c. map r (loss_signals c))))
    (rows_below n (λ k. map r (terminal_signals k)) (terminal_lines line) (λ k less. terminal_text line k))
    ∙ ap (λ (l : List ℕ). each_below n (terminal_lines line) ++ l)
    (rows_below m (λ c. map r (loss_signals c)) (loss_line line) (λ c less. loss_text line c))

pub config_is : (line : Line) (script : List ℕ)
    → config_text line script ≡ rows_text (config_rows line script)
config_is line script =
    let heads : List ℕ = head_text line script in
    let terminals : List ℕ = each_below (terminal_count line) (terminal_lines line) in
    let losses : List ℕ = each_below (length line.channels.items) (loss_line line) in
    let tails : List ℕ = tail_text line in
    let channels : List Row = map (channel_row line) (signals_of line) in
    let ends : List Row = tail_rows line.horizon in
    append_assoc (heads ++ terminals) losses tails
    ∙ append_assoc heads terminals (losses ++ tails)
    ∙ ap (λ (l : List ℕ). heads ++ l) (sym (append_assoc terminals losses tails))
    ∙ ap (λ (l : List ℕ). heads ++ (l ++ tails)) (sym (signal_rows line))
    ∙ ap (λ (l : List ℕ). heads ++ (rows_text channels ++ l)) (tail_words (decimal line.horizon))
    ∙ ap (λ (l : List ℕ). heads ++ l) (sym (rows_append channels ends))
    ∙ ap (λ (l : List ℕ). l ++ rows_text (channels ++ ends)) (head_line script (decimal (channel_count line)))
    ∙ sym (rows_append (head_rows script (channel_count line)) (channels ++ ends))

-- ---- the data

-- fields, each behind a comma
abbrev commas : List (List ℕ) → List ℕ
commas [] = []
commas (f ∷ fs) = 44 ∷ (f ++ commas fs)

commas_end : (fs : List (List ℕ)) → behind fs ≡ commas fs ++ 13 ∷ []
commas_end [] = refl
commas_end (f ∷ fs) =
    ap (λ (l : List ℕ). 44 ∷ (f ++ l)) (commas_end fs)
    ∙ ap (λ (l : List ℕ). 44 ∷ l) (sym (append_assoc f (commas fs) (13 ∷ [])))

commas_append : (fs gs : List (List ℕ)) → commas (fs ++ gs) ≡ commas fs ++ commas gs
commas_append [] gs = refl
commas_append (f ∷ fs) gs =
    ap (λ (l : List ℕ). 44 ∷ (f ++ l)) (commas_append fs gs)
    ∙ ap (λ (l : List ℕ). 44 ∷ l) (sym (append_assoc f (commas fs) (commas gs)))

commas_below : (n : ℕ) (f : ℕ → List (List ℕ)) (g : ℕ → List ℕ) → ((k : ℕ) → commas (f k) ≡ g k)
    → commas (each_below n f) ≡ each_below n g
commas_below zero f g same = refl
commas_below (suc n) f g same =
    commas_append (each_below n f) (f n)
    ∙ ap (λ (l : List ℕ). l ++ commas (f n)) (commas_below n f g same)
    ∙ ap (λ (l : List ℕ). each_below n g ++ l) (same n)

one_field_more : (fs : List (List ℕ)) (f before : List ℕ) → before ≡ commas fs
    → before ++ (44 ∷ (f ++ [])) ≡ commas (fs ++ f ∷ [])
one_field_more fs f before is =
    ap (λ (l : List ℕ). l ++ (44 ∷ (f ++ []))) is ∙ sym (commas_append fs (f ∷ []))

seven_fields : (a b c d e f g : List ℕ)
    → commas (a ∷ b ∷ c ∷ d ∷ e ∷ f ∷ g ∷ [])
    ≡ ((44 ∷ (a ++ [])) ++ (44 ∷ (b ++ [])) ++ (44 ∷ (c ++ [])) ++ (44 ∷ (d ++ [])) ++ (44 ∷ (e ++ [])))
    ++ (44 ∷ (f ++ [])) ++ (44 ∷ (g ++ []))
seven_fields a b c d e f g =
    let two = one_field_more (a ∷ []) b (44 ∷ (a ++ [])) refl in
    let three = one_field_more (a ∷ b ∷ []) c _ two in
    let four = one_field_more (a ∷ b ∷ c ∷ []) d _ three in
    let five = one_field_more (a ∷ b ∷ c ∷ d ∷ []) e _ four in
    let six = one_field_more (a ∷ b ∷ c ∷ d ∷ e ∷ []) f _ five in
    sym (one_field_more (a ∷ b ∷ c ∷ d ∷ e ∷ f ∷ []) g _ six)

-- the word of a signal's level at a tick
abbrev pub word_of : Script → History → ℕ → Signal → List ℕ
word_of script h t signal = level_word (level_of script h signal t)

fields_are : (line : Line) (script : Script) (h : History) (t : ℕ)
    → commas (map (word_of script h t) (signals_of line))
    ≡ each_below (terminal_count line) (terminal_fields script h t)
    ++ each_below (length line.channels.items) (loss_field script t)
fields_are line script h t =
    let w = word_of script h t in
    let n : ℕ = terminal_count line in
    let m : ℕ = length line.channels.items in
    ap commas (map-append w (each_below n terminal_signals) (each_below m loss_signals))
    ∙ commas_append (map w (each_below n terminal_signals)) (map w (each_below m loss_signals))
    ∙ ap (λ (l : List ℕ). l ++ commas (map w (each_below m loss_signals)))
    (ap commas (map_below w terminal_signals n)
    ∙ commas_below n (λ k. map w (terminal_signals k)) (terminal_fields script h t)
    (λ k. seven_fields (w (shown Z1 k)) (w (shown Z2 k)) (w (shown Rv k)) (w (shown Uv k)) (w (shown Cur k))
    (w (Key k)) (w (Trip k))))
    ∙ ap (λ (l : List ℕ). each_below n (terminal_fields script h t) ++ l)
    (ap commas (map_below w loss_signals m)
    ∙ commas_below m (λ c. map w (loss_signals c)) (loss_field script t) (λ c. refl))

abbrev pub sample_row : Line → Script → History → ℕ → Row
sample_row line script h t =
    decimal (t + 1) ∷ decimal (t * line.tick_us) ∷ map (word_of script h t) (signals_of line)

regroup : (n stamp a b : List ℕ)
    → (n ++ 44 ∷ (stamp ++ ((a ++ b) ++ 13 ∷ []))) ++ 10 ∷ []
    ≡ ((concat (n ∷ codes "," ∷ stamp ∷ []) ++ a) ++ b) ++ codes "\r\n"
regroup n stamp a b = simp (append_assoc, append-nil)

sample_line : (n stamp a b : List ℕ) (words : List (List ℕ)) → commas words ≡ a ++ b
    → rows_text ((n ∷ stamp ∷ words) ∷ [])
    ≡ ((concat (n ∷ codes "," ∷ stamp ∷ []) ++ a) ++ b) ++ codes "\r\n"
sample_line n stamp a b words is =
    ap (λ (l : List ℕ). (n ++ 44 ∷ (stamp ++ l)) ++ 10 ∷ [])
    (commas_end words ∙ ap (λ (l : List ℕ). l ++ 13 ∷ []) is)
    ∙ regroup n stamp a b

pub data_is : (line : Line) (script : Script) (h : History)
    → data_text line script h ≡ rows_text (map (sample_row line script h) (range_with_len 0 line.horizon))
data_is line script h =
    sym (rows_ranged line.horizon (sample_row line script h) (sample_text line script h)
    (λ t less. sample_line (decimal (t + 1)) (decimal (t * line.tick_us))
    (each_below (terminal_count line) (terminal_fields script h t))
    (each_below (length line.channels.items) (loss_field script t))
    (map (word_of script h t) (signals_of line)) (fields_are line script h t)))
