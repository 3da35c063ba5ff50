-- What is settled of a record of the field, and its line, rest on the values of a line and of
-- scripts alone.
use Rattle.std.proofs.Common.{◌≡◌, ◌<◌, ◌++◌, ℕ, Bool, true, false, List, map, refl, sym, ◌∙◌, ap}
use Rattle.std.proofs.Common.{subst}
use Rattle.std.specs.Prelude.{codes}
use Rattle.model_history.specs.Rails.{Covers, Rails}
use Rattle.model_line.specs.Laws.{CountsRestOnNoInterval}
use Rattle.model_line.specs.{declared.line.Line.Line, declared.script.Script.Script}
use Rattle.model_line.specs.{SetBounds.SameButParams}
use Rattle.model_logic.specs.Choice.{Choice}
use Rattle.model_logic.specs.Histories.{IsLineHistory}
use Rattle.model_logic.specs.IntervalLaws.{HistoriesRestOnNoInterval, TreesRestOnNoInterval}
use Rattle.model_logic.specs.Logic.{key_tree, trip_tree}
use Rattle.run_signal.specs.declared.tern.Tern.{Tern}
use Rattle.file_line.specs.Lines.{line_values}
use Rattle.file_tables.specs.script.Values.{ScriptValues, values_of}
use Rattle.model_timing.specs.Candidates.{candidate}
use Rattle.model_timing.specs.Choice.{timing_choice}
use Rattle.model_timing.specs.Timing.{TimingValues}
use Rattle.run_waves.specs.derived.Claims.{pairs_of}
use Rattle.judge_match.specs.matching.Answer.{Head, IsHead}
use Rattle.judge_match.specs.matching.Clash.{AllAllowed, IsAllowed, IsFirstClash, IsSignalAllowed}
use Rattle.judge_match.specs.matching.Clash.{IsTerminalAllowed, derived_at, level_at}
use Rattle.judge_match.specs.matching.Match.{IsMatch, NoneGives}
use Rattle.judge_match.specs.matching.MatchText.{clash_words, match_line, match_words}
use Rattle.judge_match.specs.matching.Seen.{Gives, seen_history}
use Rattle.judge_match.specs.matching.Waves.{SeenValues}
use Rattle.judge_match.specs.declared.matching.seen.Match.{Match}
use Rattle.judge_match.specs.declared.matching.seen.Match.TheVariants.{Explained, Impossible, Unsettled}
use Rattle.judge_match.specs.declared.matching.seen.Seen.{Seen}
use Rattle.call_pilot.specs.commands.Match.{match_answer}
use Rattle.call_answer.specs.declared.done.Done.{Done}
use Rattle.call_pilot.specs.top.SameFactLaws.{candidate_same, choice_same, count_same, same_params}
use Rattle.call_pilot.specs.top.SameMatchLaws.{mean_same, same_history}
use Rattle.call_pilot.specs.top.SameTextLaws.{terminal_same}
use Rattle.call_pilot.specs.top.SameValueLaws.{history_back, same_but_params}
use Rattle.call_pilot.proofs.{once_lemmas.TwinLists.zip_then}
use Rattle.call_pilot.specs.{top.TwinLaws.twin}

-- ---- what is allowed, and what gives a record

module _ (counts : CountsRestOnNoInterval) (histories : HistoriesRestOnNoInterval)
    (trees : TreesRestOnNoInterval) (a b : Line) (lines : line_values b ≡ line_values a)
    (s r : Script) (values : values_of r ≡ values_of s) (seen : Seen) where
  others : SameButParams a b
  others = same_but_params a b lines

  pub derived_same : (trip : Bool) (k t : ℕ)
      → derived_at b r seen trip k t ≡ derived_at a s seen trip k t
  derived_same false k t =
      mean_same counts histories trees a b lines s r values (pairs_of seen.keys.items)
      (key_tree a k) (key_tree b k) t (trees.keys a b k others)
  derived_same true k t =
      mean_same counts histories trees a b lines s r values (pairs_of seen.keys.items)
      (trip_tree a k) (trip_tree b k) t (trees.trips a b k others)

  pub allowed_on : (trip : Bool) (k t : ℕ) → IsAllowed a s seen trip k t
      → IsAllowed b r seen trip k t
  allowed_on trip k t is =
      subst (λ (rails : Rails). Covers rails (level_at seen trip k t))
      (sym (derived_same trip k t)) is

  pub signal_on : (trip : Bool) (k : ℕ) → IsSignalAllowed a s seen trip k
      → IsSignalAllowed b r seen trip k
  signal_on trip k is = λ t lt.
      allowed_on trip k t (is t (subst (λ (n : ℕ). t < n) others.horizon lt))

  pub terminal_on : (k : ℕ) → IsTerminalAllowed a s seen k → IsTerminalAllowed b r seen k
  terminal_on k is = record {
    key = signal_on false k is.key;
    trip = signal_on true k is.trip;
  }

  pub all_on : AllAllowed a s seen → AllAllowed b r seen
  all_on is = record {
    each = λ k lt.
        terminal_on k (is.each k (subst (λ (n : ℕ). k < n) (counts.terminals a b others) lt));
  }

  pub gives_on : (timing : TimingValues) → Gives a s timing seen → Gives b r timing seen
  gives_on timing is = record {
    same = λ h is_h.
        same_history counts a b lines h (seen_history seen)
        (is.same h
        (subst (λ (c : Choice). IsLineHistory a s c h)
        (choice_same counts histories a b lines timing)
        (history_back counts histories a b lines s r values (timing_choice b timing) h is_h)));
  }

-- ---- what is settled

module _ (counts : CountsRestOnNoInterval) (histories : HistoriesRestOnNoInterval)
    (trees : TreesRestOnNoInterval) (a b : Line) (lines : line_values b ≡ line_values a) where
  module _ (s r : Script) (values : values_of r ≡ values_of s) (seen : Seen) where
    candidate_back : (i : ℕ) → Gives b r (candidate b i) seen → Gives a s (candidate a i) seen
    candidate_back i gives =
        subst (λ (timing : TimingValues). Gives a s timing seen)
        (candidate_same counts histories a b lines i)
        (gives_on counts histories trees b a (sym lines) r s (sym values) seen (candidate b i)
        gives)

    candidate_on : (i : ℕ) → Gives a s (candidate a i) seen → Gives b r (candidate b i) seen
    candidate_on i gives =
        subst (λ (timing : TimingValues). Gives b r timing seen)
        (sym (candidate_same counts histories a b lines i))
        (gives_on counts histories trees a b lines s r values seen (candidate a i) gives)

    none_on : (n : ℕ) → NoneGives a s seen n → NoneGives b r seen n
    none_on n is = record { differs = λ i lt gives. is.differs i lt (candidate_back i gives) }

    clash_on : (k : ℕ) (trip : Bool) (t : ℕ) (level : Bool) (derived : Tern)
        → IsFirstClash a s seen k trip t level derived
        → IsFirstClash b r seen k trip t level derived
    clash_on k trip t level derived is =
        let others = same_but_params a b lines in
        record {
          terminal = subst (λ (n : ℕ). k < n) (sym (counts.terminals a b others)) is.terminal;
          before = λ j lt.
              terminal_on counts histories trees a b lines s r values seen j (is.before j lt);
          clash = record {
            key_first = λ on.
                signal_on counts histories trees a b lines s r values seen false k
                (is.clash.key_first on);
            tick = record {
              inside = subst (λ (n : ℕ). t < n) (sym others.horizon) is.clash.tick.inside;
              fails = λ allowed.
                  is.clash.tick.fails
                  (allowed_on counts histories trees b a (sym lines) r s (sym values) seen trip k t
                  allowed);
              before = λ i lt.
                  allowed_on counts histories trees a b lines s r values seen trip k i
                  (is.clash.tick.before i lt);
            };
            seen_is = is.clash.seen_is;
            derived_is = is.clash.derived_is
                ∙ sym (derived_same counts histories trees a b lines s r values seen trip k t);
          };
        }

    settled_on : (m : Match) → IsMatch a s seen m → IsMatch b r seen m
    settled_on (Explained timing) is = record {
      allowed = all_on counts histories trees a b lines s r values seen is.allowed;
      number = is.number;
      exists = subst (λ (n : ℕ). is.number < n) (sym (count_same counts histories a b lines))
          is.exists;
      is = is.is ∙ sym (candidate_same counts histories a b lines is.number);
      gives = candidate_on is.number is.gives;
      first = none_on is.number is.first;
    }
    settled_on (Impossible k trip t level derived) is = clash_on k trip t level derived is
    settled_on Unsettled is = record {
      allowed = all_on counts histories trees a b lines s r values seen is.allowed;
      none = subst (NoneGives b r seen) (sym (count_same counts histories a b lines))
          (none_on _ is.none);
    }

  -- ---- the lines

  words_same : (m : Match) → match_words b m ≡ match_words a m
  words_same (Explained timing) = refl
  words_same (Impossible k trip t level derived) =
      ap (λ (name : List ℕ).
      codes " impossible " ++ (name ++ clash_words trip t level derived))
      (terminal_same a b (same_but_params a b lines) (same_params a b lines) k)
  words_same Unsettled = refl

  line_same : (s r : Script) → values_of r ≡ values_of s → (m : Match)
      → match_line b r m ≡ match_line a s m
  line_same s r values m =
      ap (λ (v : ScriptValues). v.name ++ (match_words b m ++ codes "\n")) values
      ∙ ap (λ (words : List ℕ). s.name ++ (words ++ codes "\n")) (words_same m)

  module _ (xs ys : List Script) (scripts : map values_of ys ≡ map values_of xs) where
    head_on : (v : SeenValues) (head : Head) → IsHead a xs v head → IsHead b ys v head
    head_on v head is =
        let other = twin xs ys (sym scripts) v.script is.script is.script_is in
        record {
          seen = is.seen;
          seen_is = is.seen_is;
          script = other.script;
          script_is = other.at;
          is = settled_on is.script other.script (sym other.values) is.seen head.settled is.is;
          text_is = is.text_is
              ∙ sym (line_same is.script other.script (sym other.values) head.settled);
        }

    pub matching_on : (records : List SeenValues) (d : Done) (text : List ℕ)
        → match_answer a xs records d text → match_answer b ys records d text
    matching_on records d text is = record {
      some_impossible = is.some_impossible;
      some_open = is.some_open;
      settled = record {
        heads = is.settled.heads;
        are_heads = zip_then (IsHead a xs) (IsHead b ys) head_on records is.settled.heads
            is.settled.are_heads;
        impossible_is = is.settled.impossible_is;
        unsettled_is = is.settled.unsettled_is;
        text_is = is.settled.text_is;
      };
      status_is = is.status_is;
    }
