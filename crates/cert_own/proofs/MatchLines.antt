-- The whole lines of what `match` answers: what each says of its record is true.
use Rattle.std.proofs.Common.{◌≡◌, ℕ, zero, suc, ◌<◌, ◌^◌, Bool, true, false, List, [], ◌∷◌, ◌++◌}
use Rattle.std.proofs.Common.{Some, drop, get_or, map, refl, sym, ◌∙◌, ap, subst, arith}
use Rattle.std.proofs.Common.{append_assoc}
use Rattle.std.proofs.lemmas.List.{get_or_default}
use Rattle.std.proofs.lemmas.List.Elements.{All-head, All-tail}
use Rattle.std.proofs.lemmas.Option.{same_Some, slice_get-get_or}
use Rattle.std.specs.Prelude.{IsTrue, codes, slice_get}
use Rattle.std.specs.List.{All, AllZip, concat}
use Rattle.run_signal.specs.declared.tern.Tern.{Tern}
use Rattle.run_signal.specs.declared.tern.Tern.TheVariants.{Zero, One, Unknown}
use Rattle.model_line.specs.Parameters.{param_count, terminal_count}
use Rattle.model_line.specs.{declared.line.Line.Line, declared.script.Script.Script, Fits.Fits}
use Rattle.model_line.specs.{Laws.DeclaredIntervalsAreInOrder, PlainNames.is_plain_name}
use Rattle.model_logic.specs.Choice.{Choice, IsInside}
use Rattle.model_logic.specs.Histories.{History, IsLineHistory, IsSameHistory}
use Rattle.model_logic.specs.Laws.{LineLaws}
use Rattle.model_line.specs.NamesByNumber.{terminal_name}
use Rattle.model_timing.specs.Laws.{CandidatesAreInside, TimingsInsideAreChoicesInside}
use Rattle.model_timing.specs.Candidates.{candidate, candidate_count}
use Rattle.model_timing.specs.{Choice.timing_choice, Timing.TimingValues}
use Rattle.base_text.specs.{lines.Lines.BeginsWith, lines.Lines.is_one_line}
use Rattle.base_text.specs.lines.NamedLaws.{decimal_whole, whole_append}
use Rattle.base_text.specs.lines.SpacedNumbers.{numbers_text, spaced}
use Rattle.cert_claims.specs.text.Grammar.{terminal_names}
use Rattle.cert_claims.specs.text.NameLaws.{name_whole, names_count}
use Rattle.cert_claims.specs.text.NumberLaws.{numbers_tell, numbers_whole}
use Rattle.run_changes.specs.rows.PlayRows.{level_word}
use Rattle.run_waves.specs.waves.Text.{tern_word}
use Rattle.judge_match.specs.matching.Answer.{Head, IsHead, IsMatchAnswer}
use Rattle.judge_match.specs.{matching.Clash.IsAllowed, matching.Match.IsMatch, matching.Recorded.IsRecordOf}
use Rattle.judge_match.specs.matching.MatchText.{clash_words, match_words, signal_word}
use Rattle.judge_match.specs.matching.Seen.{AreSeen, seen_history}
use Rattle.judge_match.specs.{matching.Waves.SeenValues, matching.Waves.seen_values}
use Rattle.judge_match.specs.declared.matching.seen.{Match.Match, Seen.Seen}
use Rattle.judge_match.specs.declared.matching.seen.Match.TheVariants.{Explained, Impossible, Unsettled}
use Rattle.cert_own.specs.Matched.{HasMatch, HasShortValues, HoldsOfRecord, HoldsOfRecordAt}
use Rattle.cert_own.specs.Matched.{IsGivenBy, Matched, explained, impossible, unsettled}
use Rattle.cert_own.specs.Matched.{matched_words}
use Rattle.cert_own.specs.WholeLines.{whole_lines}
use Rattle.cert_own.proofs.CertificateLines.{all_plain, names_plain, names_tell}
use Rattle.model_history.specs.ListLaws.{all_at}
use Rattle.cert_own.specs.LineLaws.{first_whole, front_whole}
use Rattle.cert_own.proofs.Truth.{same_choice}

-- what is settled of a record, as its line says it
abbrev pub said_by : Line → Match → Matched
said_by line (Explained timing) = explained timing.values
said_by line (Impossible k trip t level derived) =
    impossible (terminal_name line k ++ clash_words trip t level derived)
said_by line Unsettled = unsettled

said_words : (line : Line) (settled : Match)
    → match_words line settled ≡ matched_words (said_by line settled)
said_words line (Explained timing) = refl
said_words line (Impossible k trip t level derived) = refl
said_words line Unsettled = refl

-- ---- what is settled is true

-- what the laws below say
pub record Known : Type 0 where
  pub lines : LineLaws
  pub intervals : DeclaredIntervalsAreInOrder
  pub candidates : CandidatesAreInside
  pub timings : TimingsInsideAreChoicesInside
  pub allowed : (line : Line) (script : Script) (seen : Seen) (choice : Choice) (h : History)
      → AreSeen line seen → IsInside line choice → IsLineHistory line script choice h
      → IsSameHistory line h (seen_history seen)
      → (trip : Bool) (k t : ℕ) → k < terminal_count line → t < line.horizon
      → IsAllowed line script seen trip k t

same_along : (line : Line) (f g h : History) → IsSameHistory line f g → IsSameHistory line g h
    → IsSameHistory line f h
same_along line f g h a b = record {
  keys = λ k t kn lt. a.keys k t kn lt ∙ b.keys k t kn lt;
  trips = λ k t kn lt. a.trips k t kn lt ∙ b.trips k t kn lt;
}

pub are_seen : (line : Line) (scripts : List Script) (seen : Seen)
    → IsRecordOf line scripts (seen_values seen) → AreSeen line seen
are_seen line scripts seen of = record {
  keys = of.keys;
  trips = of.trips;
  known_keys = of.known_keys;
  known_trips = of.known_trips;
}

module _ (known : Known) (line : Line) (script : Script) (seen : Seen) where
  pub settled_is_true : (settled : Match) → AreSeen line seen → IsMatch line script seen settled
      → HoldsOfRecord (said_by line settled) line script (seen_values seen)
  settled_is_true (Explained timing) are is =
      let n : ℕ = is.number in
      let same = same_choice line (candidate line n).values in
      let timing_inside = known.candidates line n is.exists in
      let inside : IsInside line (timing_choice line (candidate line n)) =
      known.timings line (candidate line n) timing_inside in
      let (h, is_h) =
      known.lines.histories.exists line script (timing_choice line (candidate line n))
      (known.lines.inside.choices line (timing_choice line (candidate line n)) inside) in
      subst (λ (x : TimingValues). IsGivenBy line script (seen_values seen) x.values) (sym is.is)
      (record {
        many = timing_inside.count;
        inside = subst (IsInside line) same inside;
        history = h;
        is_history = subst (λ (c : Choice). IsLineHistory line script c h) same is_h;
        same = is.gives.same h is_h;
      })
  settled_is_true (Impossible k trip t level derived) are is =
      λ choice h inside is_h same.
      is.clash.tick.fails
      (known.allowed line script seen choice h are inside is_h same trip k t is.terminal
      is.clash.tick.inside)
  settled_is_true Unsettled are is = record {
    keys = λ k t kn lt. (is.allowed.each k kn).key t lt;
    trips = λ k t kn lt. (is.allowed.each k kn).trip t lt;
    no_candidate = λ i h lt is_h same.
        let choice : Choice = timing_choice line (candidate line i) in
        let inside : IsInside line choice =
        known.timings line (candidate line i) (known.candidates line i lt) in
        let there : IsLineHistory line script choice h =
        subst (λ (c : Choice). IsLineHistory line script c h)
        (sym (same_choice line (candidate line i).values)) is_h in
        is.none.differs i lt (record {
          same = λ g is_g.
              same_along line g h (seen_history seen)
              (known.lines.histories.only line script choice g h
              (known.lines.inside.choices line choice inside) is_g there)
              same;
        });
  }

-- ---- its line

-- numbers of a candidate are small
small_values : (known : Known) (line : Line) (n : ℕ) (timing : TimingValues)
    → n < candidate_count line → timing ≡ candidate line n → All (λ v. v < 2 ^ 32) timing.values
small_values known line n timing there is =
    let inside = known.candidates line n there in
    let count = inside.count in
    subst (λ (x : TimingValues). All (λ v. v < 2 ^ 32) x.values) (sym is)
    (λ i d lt.
    let within : i < param_count line = omega arith in
    let is_in = inside.values i within in
    let greatest = is_in.greatest in
    let limit = known.intervals.within line i within in
    let same : get_or (candidate line n).values i d ≡ get_or (candidate line n).values i 0 =
    get_or_default (candidate line n).values i d 0 lt in
    omega arith)

short_said : (known : Known) (line : Line) (script : Script) (seen : Seen) (settled : Match)
    → IsMatch line script seen settled → HasShortValues (said_by line settled)
short_said known line script seen (Explained timing) is =
    small_values known line is.number timing is.exists is.is
short_said known line script seen (Impossible k trip t level derived) is = tt
short_said known line script seen Unsettled is = tt

signal_whole : (trip : Bool) → is_one_line (signal_word trip) ≡ true
signal_whole true = refl
signal_whole false = refl

level_whole : (level : Bool) → is_one_line (level_word level) ≡ true
level_whole true = refl
level_whole false = refl

tern_whole : (derived : Tern) → is_one_line (tern_word derived) ≡ true
tern_whole Zero = refl
tern_whole One = refl
tern_whole Unknown = refl

clash_whole : (trip : Bool) (t : ℕ) (level : Bool) (derived : Tern) → t < 2 ^ 64
    → is_one_line (clash_words trip t level derived) ≡ true
clash_whole trip t level derived small =
    let last : List ℕ = codes " derived " ++ tern_word derived in
    let seen : List ℕ = codes " seen " ++ (level_word level ++ last) in
    whole_append (codes " ") (signal_word trip ++ (spaced t ++ seen)) refl
    (whole_append (signal_word trip) (spaced t ++ seen) (signal_whole trip)
    (whole_append (spaced t) seen (decimal_whole t small)
    (whole_append (codes " seen ") (level_word level ++ last) refl
    (whole_append (level_word level) last (level_whole level)
    (whole_append (codes " derived ") (tern_word derived) refl (tern_whole derived))))))

terminal_whole : (line : Line) (k : ℕ) → k < terminal_count line
    → is_one_line (terminal_name line k) ≡ true
terminal_whole line k there =
    let count = names_count line in
    name_whole (terminal_name line k)
    (names_plain line k (terminal_name line k)
    (slice_get-get_or (terminal_names line) k [] (omega arith)))

words_whole : (known : Known) (line : Line) (script : Script) (seen : Seen) (settled : Match)
    → IsMatch line script seen settled → is_one_line (match_words line settled) ≡ true
words_whole known line script seen (Explained timing) is =
    whole_append (codes " explained") (numbers_text timing.values) refl
    (numbers_whole timing.values
    (small_values known line is.number timing is.exists is.is))
words_whole known line script seen (Impossible k trip t level derived) is =
    let below = line.horizon_in_range.1 in
    let inside = is.clash.tick.inside in
    whole_append (codes " impossible ") (terminal_name line k ++ clash_words trip t level derived)
    refl
    (whole_append (terminal_name line k) (clash_words trip t level derived)
    (terminal_whole line k is.terminal)
    (clash_whole trip t level derived (omega arith)))
words_whole known line script seen Unsettled is = refl

-- ---- a line tells the name and what it says

words_from : (said : Matched) → matched_words said ≡ 32 ∷ drop 1 (matched_words said)
words_from (explained values) = refl
words_from (impossible place) = refl
words_from unsettled = refl

other_word : {X : Type 0} (text other : List ℕ) → text ≡ other
    → (get_or text 1 0 ≡ get_or other 1 0 → ⊥) → X
other_word text other same never = absurd (never (ap (λ (l : List ℕ). get_or l 1 0) same))

words_tell : (a b : Matched) → HasShortValues a → HasShortValues b
    → matched_words a ≡ matched_words b → a ≡ b
words_tell (explained v) (explained w) p q same =
    ap explained (numbers_tell v w p q (ap (drop 10) same))
words_tell (explained v) (impossible y) p q same =
    other_word (matched_words (explained v)) (matched_words (impossible y)) same
    (λ e. omega (arith, e))
words_tell (explained v) unsettled p q same =
    other_word (matched_words (explained v)) (matched_words unsettled) same
    (λ e. omega (arith, e))
words_tell (impossible x) (explained w) p q same =
    other_word (matched_words (impossible x)) (matched_words (explained w)) same
    (λ e. omega (arith, e))
words_tell (impossible x) (impossible y) p q same = ap impossible (ap (drop 12) same)
words_tell (impossible x) unsettled p q same =
    other_word (matched_words (impossible x)) (matched_words unsettled) same
    (λ e. omega (arith, e))
words_tell unsettled (explained w) p q same =
    other_word (matched_words unsettled) (matched_words (explained w)) same
    (λ e. omega (arith, e))
words_tell unsettled (impossible y) p q same =
    other_word (matched_words unsettled) (matched_words (impossible y)) same
    (λ e. omega (arith, e))
words_tell unsettled unsettled p q same = refl

match_tells : (name other : List ℕ) (a b : Matched) → IsTrue (is_plain_name name)
    → IsTrue (is_plain_name other) → HasShortValues a → HasShortValues b
    → name ++ matched_words a ≡ other ++ matched_words b → (name ≡ other) × (a ≡ b)
match_tells name other a b plain known p q same =
    let (names, words) =
    names_tell name other (drop 1 (matched_words a)) (drop 1 (matched_words b))
    (all_plain name plain) (all_plain other known)
    (ap (λ (l : List ℕ). name ++ l) (sym (words_from a)) ∙ same
    ∙ ap (λ (l : List ℕ). other ++ l) (words_from b)) in (
      names,
      words_tell a b p q
          (words_from a ∙ ap (λ (l : List ℕ). 32 ∷ l) words ∙ sym (words_from b)),
    )

-- ---- the lines of all records

-- a line that stands in a front stands there in the whole
in_front : (front more : List (List ℕ)) (i : ℕ) (row : List ℕ) → slice_get front i ≡ Some row
    → slice_get (front ++ more) i ≡ Some row
in_front [] more i row at = absurd (cc)
in_front (x ∷ front) more zero row at = at
in_front (x ∷ front) more (suc i) row at = in_front front more i row at

module _ (known : Known) (line : Line) (scripts : List Script) (fit : All (Fits line) scripts) where
  -- a row is the line of record i
  record IsRow (records : List SeenValues) (i : ℕ) (row : List ℕ) : Type 0 where
    pub values : SeenValues
    pub stands : slice_get records i ≡ Some values
    pub of : IsRecordOf line scripts values
    pub head : Head
    pub is : IsHead line scripts values head
    pub row_is : row ≡ is.script.name ++ match_words line head.settled

  named : (values : SeenValues) (head : Head) (is : IsHead line scripts values head)
      → IsTrue (is_plain_name is.script.name)
  named values head is =
      (all_at (Fits line) scripts values.script is.script fit is.script_is).plain_name

  begins : (values : SeenValues) (head : Head) (is : IsHead line scripts values head)
      (more : List ℕ)
      → BeginsWith (head.text ++ more) (is.script.name ++ match_words line head.settled) more
  begins values head is more =
      let name : List ℕ = is.script.name in
      let words : List ℕ = match_words line head.settled in
      record {
        whole = whole_append name words (name_whole name (named values head is))
            (words_whole known line is.script is.seen head.settled is.is);
        is = ap (λ (l : List ℕ). l ++ more)
            (is.text_is ∙ sym (append_assoc name words (10 ∷ [])))
            ∙ append_assoc (name ++ words) (10 ∷ []) more;
      }

  rows : (records : List SeenValues) (heads : List Head)
      → All (IsRecordOf line scripts) records → AllZip (IsHead line scripts) records heads
      → (i : ℕ) (row : List ℕ)
      → slice_get (whole_lines (concat (map (λ head. head.text) heads))) i ≡ Some row
      → IsRow records i row
  rows [] [] of are i row at = absurd (cc)
  rows [] (h ∷ heads) of are i row at = absurd are
  rows (r ∷ records) [] of are i row at = absurd are
  rows (r ∷ records) (h ∷ heads) of are zero row at =
      let more : List ℕ = concat (map (λ (head : Head). head.text) heads) in
      let first : List ℕ = are.0.script.name ++ match_words line h.settled in
      let lines = first_whole (h.text ++ more) first more (begins r h are.0 more) in
      record {
        values = r;
        stands = refl;
        of = All-head (IsRecordOf line scripts) r records of;
        head = h;
        is = are.0;
        row_is = sym (same_Some first row
            (subst (λ (l : List (List ℕ)). slice_get l zero ≡ Some row) lines at));
      }
  rows (r ∷ records) (h ∷ heads) of are (suc i) row at =
      let more : List ℕ = concat (map (λ (head : Head). head.text) heads) in
      let first : List ℕ = are.0.script.name ++ match_words line h.settled in
      let lines = first_whole (h.text ++ more) first more (begins r h are.0 more) in
      let later = rows records heads (All-tail (IsRecordOf line scripts) r records of) are.1 i row
      (subst (λ (l : List (List ℕ)). slice_get l (suc i) ≡ Some row) lines at) in
      record {
        values = later.values;
        stands = later.stands;
        of = later.of;
        head = later.head;
        is = later.is;
        row_is = later.row_is;
      }

  pub match_is_true : (records : List SeenValues) (some_impossible some_open : Bool)
      (text front rest name : List ℕ) (i : ℕ) (said : Matched)
      → All (IsRecordOf line scripts) records
      → IsMatchAnswer line scripts records some_impossible some_open text → front ++ rest ≡ text
      → HasMatch front i name said
      → HoldsOfRecordAt line scripts records i name (HoldsOfRecord said)
  match_is_true records some_impossible some_open text front rest name i said of answer same has =
      let (others, is_front) = front_whole front rest in
      let whole : slice_get (whole_lines text) i ≡ Some (name ++ matched_words said) =
      subst (λ (l : List (List ℕ)). slice_get l i ≡ Some (name ++ matched_words said))
      (sym is_front ∙ ap whole_lines same)
      (in_front (whole_lines front) others i (name ++ matched_words said) has.stands) in
      let row = rows records answer.heads of answer.are_heads i (name ++ matched_words said)
      (subst (λ (t : List ℕ). slice_get (whole_lines t) i ≡ Some (name ++ matched_words said))
      answer.text_is whole) in
      let head : Head = row.head in
      let script : Script = row.is.script in
      let (names, said_same) =
      match_tells name script.name said (said_by line head.settled) has.plain
      (named row.values head row.is) has.short
      (short_said known line script row.is.seen head.settled row.is.is)
      (row.row_is
      ∙ ap (λ (l : List ℕ). script.name ++ l) (said_words line head.settled)) in
      let seen_of_line : IsRecordOf line scripts (seen_values row.is.seen) =
      subst (IsRecordOf line scripts) (sym row.is.seen_is) row.of in
      let truth : HoldsOfRecord (said_by line head.settled) line script (seen_values row.is.seen) =
      settled_is_true known line script row.is.seen head.settled
      (are_seen line scripts row.is.seen seen_of_line) row.is.is in
      record {
        values = row.values;
        stands = row.stands;
        script = script;
        script_is = row.is.script_is;
        name_is = sym names;
        holds = subst (λ (v : SeenValues). HoldsOfRecord said line script v) row.is.seen_is
            (subst (λ (m : Matched). HoldsOfRecord m line script (seen_values row.is.seen))
            (sym said_same) truth);
      }
