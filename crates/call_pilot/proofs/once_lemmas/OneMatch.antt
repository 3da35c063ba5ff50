-- A match has one answer: what is settled of a record rests on its waves alone.
use Rattle.std.proofs.Common.{◌≡◌, ℕ, Bool, true, false, List, Some, map, sym, ◌∙◌, ap, subst}
use Rattle.std.specs.List.{concat, list_any}
use Rattle.model_history.specs.ZipLaws.{zip_once}
use Rattle.run_waves.specs.derived.Claims.{pairs_of}
use Rattle.run_waves.specs.derived.Claims.{derived_key, derived_trip}
use Rattle.model_history.specs.Rails.{Covers, Rails}
use Rattle.model_line.specs.{declared.line.Line.Line, declared.script.Script.Script}
use Rattle.model_logic.specs.Histories.{History, IsSameHistory}
use Rattle.model_timing.specs.Timing.{TimingValues}
use Rattle.judge_match.specs.matching.Answer.{Head, IsHead, IsMatchAnswer, is_impossible, is_unsettled}
use Rattle.judge_match.specs.matching.Clash.{AllAllowed, IsAllowed, IsTerminalAllowed}
use Rattle.judge_match.specs.matching.Clash.{IsSignalAllowed, derived_at, level_at}
use Rattle.judge_match.specs.matching.Match.{IsMatch, NoneGives}
use Rattle.judge_match.specs.matching.MatchText.{match_line}
use Rattle.judge_match.specs.matching.Seen.{Gives, seen_history}
use Rattle.judge_match.specs.matching.Waves.{SeenValues, seen_values}
use Rattle.judge_match.specs.declared.matching.seen.Match.{Match}
use Rattle.judge_match.specs.declared.matching.seen.Match.TheVariants.{Explained, Impossible, Unsettled}
use Rattle.judge_match.specs.declared.matching.seen.Seen.{Seen}
use Rattle.call_pilot.specs.commands.Match.{match_answer}
use Rattle.call_answer.specs.{Answers.status_by, declared.done.Done.Done}

history_by : SeenValues → History
history_by v = record {
  key = λ k t. (pairs_of v.keys k t).must;
  trip = λ k t. (pairs_of v.trips k t).must;
}

module _ (line : Line) (script : Script) where
  -- ---- records of the same waves

  history_same : (a b : Seen) → seen_values a ≡ seen_values b → seen_history a ≡ seen_history b
  unfolding history_by
  history_same a b same = ap history_by same

  level_same : (a b : Seen) → seen_values a ≡ seen_values b → (trip : Bool) (k t : ℕ)
      → level_at a trip k t ≡ level_at b trip k t
  level_same a b same false k t = ap (λ (h : History). h.key k t) (history_same a b same)
  level_same a b same true k t = ap (λ (h : History). h.trip k t) (history_same a b same)

  derived_same : (a b : Seen) → seen_values a ≡ seen_values b → (trip : Bool) (k t : ℕ)
      → derived_at line script a trip k t ≡ derived_at line script b trip k t
  derived_same a b same false k t =
      ap (λ (v : SeenValues). derived_key line script (pairs_of v.keys) k t) same
  derived_same a b same true k t =
      ap (λ (v : SeenValues). derived_trip line script (pairs_of v.keys) k t) same

  allowed_on : (a b : Seen) → seen_values a ≡ seen_values b → (trip : Bool) (k t : ℕ)
      → IsAllowed line script a trip k t → IsAllowed line script b trip k t
  allowed_on a b same trip k t is =
      subst (λ (level : Bool). Covers (derived_at line script b trip k t) level)
      (level_same a b same trip k t)
      (subst (λ (rails : Rails). Covers rails (level_at a trip k t))
      (derived_same a b same trip k t) is)

  signal_on : (a b : Seen) → seen_values a ≡ seen_values b → (trip : Bool) (k : ℕ)
      → IsSignalAllowed line script a trip k → IsSignalAllowed line script b trip k
  signal_on a b same trip k is = λ t lt. allowed_on a b same trip k t (is t lt)

  terminal_on : (a b : Seen) → seen_values a ≡ seen_values b → (k : ℕ)
      → IsTerminalAllowed line script a k → IsTerminalAllowed line script b k
  terminal_on a b same k is = record {
    key = signal_on a b same false k is.key;
    trip = signal_on a b same true k is.trip;
  }

  all_on : (a b : Seen) → seen_values a ≡ seen_values b → AllAllowed line script a
      → AllAllowed line script b
  all_on a b same is = record { each = λ k lt. terminal_on a b same k (is.each k lt) }

  gives_on : (a b : Seen) → seen_values a ≡ seen_values b → (timing : TimingValues)
      → Gives line script timing a → Gives line script timing b
  gives_on a b same timing is = record {
    same = λ h is_h. subst (IsSameHistory line h) (history_same a b same) (is.same h is_h);
  }

  none_on : (a b : Seen) → seen_values a ≡ seen_values b → (n : ℕ)
      → NoneGives line script a n → NoneGives line script b n
  none_on a b same n is = record {
    differs = λ i lt gives. is.differs i lt (gives_on b a (sym same) _ gives);
  }

  match_on : (a b : Seen) → seen_values a ≡ seen_values b → (m : Match)
      → IsMatch line script a m → IsMatch line script b m
  match_on a b same (Explained timing) is = record {
    allowed = all_on a b same is.allowed;
    number = is.number;
    exists = is.exists;
    is = is.is;
    gives = gives_on a b same _ is.gives;
    first = none_on a b same is.number is.first;
  }
  match_on a b same (Impossible k trip t level derived) is = record {
    terminal = is.terminal;
    before = λ j lt. terminal_on a b same j (is.before j lt);
    clash = record {
      key_first = λ on. signal_on a b same false k (is.clash.key_first on);
      tick = record {
        inside = is.clash.tick.inside;
        fails = λ allowed. is.clash.tick.fails (allowed_on b a (sym same) trip k t allowed);
        before = λ i lt. allowed_on a b same trip k i (is.clash.tick.before i lt);
      };
      seen_is = is.clash.seen_is ∙ level_same a b same trip k t;
      derived_is = is.clash.derived_is ∙ derived_same a b same trip k t;
    };
  }
  match_on a b same Unsettled is = record {
    allowed = all_on a b same is.allowed;
    none = none_on a b same _ is.none;
  }

-- ---- the lines

head_by : (x y : Head) → x.settled ≡ y.settled → x.text ≡ y.text → x ≡ y
head_by x y settled text =
    ap (λ (m : Match). record { settled = m; text = x.text }) settled
    ∙ ap (λ (t : List ℕ). record { settled = y.settled; text = t }) text

module _ (one : (line : Line) (script : Script) (seen : Seen) (a b : Match)
    → IsMatch line script seen a → IsMatch line script seen b → a ≡ b)
    (line : Line) (scripts : List Script) where
  head_once : (values : SeenValues) (x y : Head) → IsHead line scripts values x
      → IsHead line scripts values y → x ≡ y
  head_once values x y p q =
      let scripts_are : Some p.script ≡ Some q.script = sym p.script_is ∙ q.script_is in
      let script : p.script ≡ q.script = cc in
      let there : IsMatch line q.script p.seen x.settled =
      subst (λ (s : Script). IsMatch line s p.seen x.settled) script p.is in
      let settled : x.settled ≡ y.settled =
      one line q.script q.seen x.settled y.settled
      (match_on line q.script p.seen q.seen (p.seen_is ∙ sym q.seen_is) x.settled there) q.is in
      head_by x y settled
      (p.text_is
      ∙ ap (λ (s : Script). match_line line s x.settled) script
      ∙ ap (match_line line q.script) settled
      ∙ sym q.text_is)

  heads_once : (records : List SeenValues) (x y : Bool) (u v : Bool) (a b : List ℕ)
      → IsMatchAnswer line scripts records x u a → IsMatchAnswer line scripts records y v b
      → (x ≡ y) × (u ≡ v) × (a ≡ b)
  heads_once records x y u v a b p q =
      let same : p.heads ≡ q.heads =
      zip_once (λ _. Unit {0}) (IsHead line scripts)
      (λ values g h any. head_once values g h) records p.heads q.heads (λ k d lt. tt)
      p.are_heads q.are_heads in (
        p.impossible_is
            ∙ ap (λ (hs : List Head). list_any (λ head. is_impossible head.settled) hs) same
            ∙ sym q.impossible_is,
        p.unsettled_is
            ∙ ap (λ (hs : List Head). list_any (λ head. is_unsettled head.settled) hs) same
            ∙ sym q.unsettled_is,
        p.text_is ∙ ap (λ (hs : List Head). concat (map (λ head. head.text) hs)) same
            ∙ sym q.text_is,
      )

  pub match_once : (records : List SeenValues) (s t : Done) (a b : List ℕ)
      → match_answer line scripts records s a → match_answer line scripts records t b
      → (s ≡ t) × (a ≡ b)
  match_once records s t a b p q =
      let same =
      heads_once records p.some_impossible q.some_impossible p.some_open q.some_open a b p.settled
      q.settled in (
        p.status_is
            ∙ ap (λ (x : Bool). status_by x p.some_open) same.0
            ∙ ap (λ (x : Bool). status_by q.some_impossible x) same.1
            ∙ sym q.status_is,
        same.2,
      )
