-- Plays that are near to what was recorded.
use Rattle.std.proofs.Common.{◌≡◌, ◌<◌, ◌+◌, ◌∷◌, ◌++◌, [], ℕ, zero, suc, Bool, true, false, List, Some, length}
use Rattle.std.proofs.Common.{refl, sym, ◌∙◌, ap, subst, arith, ◌↔◌}
use Rattle.std.proofs.lemmas.List.{append-nil}
use Rattle.std.specs.Prelude.{slice_get}
use Rattle.std.specs.List.{AllZip, flat_map, range_with_len}
use Rattle.model_line.specs.{declared.line.Line.Line, declared.script.Script.Script}
use Rattle.model_line.specs.Parameters.{terminal_count}
use Rattle.model_logic.specs.Histories.{History, IsSameHistory}
use Rattle.model_timing.specs.Timing.{TimingValues}
use Rattle.run_signal.specs.SentKeys.{SentKeys}
use Rattle.run_signal.specs.declared.level.Level.{Level}
use Rattle.run_changes.specs.{changes.PlayedTracks.is_on, changes.PlayedTracks.is_shown, changes.PlayedTracks.shown_is}
use Rattle.run_step.specs.Ticks.{AreSent}
use Rattle.judge_match.specs.explain.Changes.{changes, AreNear, HaveSameChanges}
use Rattle.judge_match.specs.explain.Explains.{Explains, IsNear, IsPlayed}
use Rattle.judge_match.specs.explain.Answers.{paired, paired_terminal, paired_changes}
use Rattle.judge_match.specs.explain.Asked.{AreRecorded}
use Rattle.judge_match.specs.declared.explain.paired.Paired.{Paired}
use Rattle.judge_match.specs.declared.explain.recorded.Recorded.{Recorded}
use Rattle.judge_match.proofs.explain_lemmas.ChangeLaws.{changes_same, range_last}

-- the changes of a track are those of what it shows
pub shown_changes : (line : Line) (tracks : List (SentKeys Level)) (k : ℕ) (s : SentKeys Level)
    → AreSent (terminal_count line) line.horizon line.horizon tracks → slice_get tracks k ≡ Some s
    → changes (is_on s) (length s.keys) ≡ changes (is_shown tracks k) line.horizon
shown_changes line tracks k s sent at =
    ap (changes (is_on s)) (sent.each k s at).0
    ∙ ap (λ (v : ℕ → Bool). changes v line.horizon) (sym (shown_is tracks k s at))

pub one_near : (line : Line) (within : ℕ) (u : ℕ → ℕ → Bool) (all : List Recorded)
    (tracks : List (SentKeys Level)) (k : ℕ) (r : Recorded) (s : SentKeys Level) (xs ys : List ℕ)
    → AreRecorded line within u all
    → AreSent (terminal_count line) line.horizon line.horizon tracks
    → slice_get all k ≡ Some r → slice_get tracks k ≡ Some s → xs ≡ r.changes.items
    → ys ≡ changes (is_on s) (length s.keys)
    → AllZip (AreNear within) xs ys
    ↔ HaveSameChanges within line.horizon (u k) (is_shown tracks k)
one_near line within u all tracks k r s xs ys are sent at here e f =
    let one : xs ≡ changes (u k) line.horizon = e ∙ (are.each k r at).changes_are in
    let two : ys ≡ changes (is_shown tracks k) line.horizon =
    f ∙ shown_changes line tracks k s sent here in (
      λ z. subst (λ (l : List ℕ). AllZip (AreNear within) l (changes (is_shown tracks k) line.horizon))
          one (subst (λ (l : List ℕ). AllZip (AreNear within) xs l) two z),
      λ z. subst (λ (l : List ℕ). AllZip (AreNear within) l ys) (sym one)
          (subst (λ (l : List ℕ). AllZip (AreNear within) (changes (u k) line.horizon) l) (sym two) z),
    )

-- what is near to one history of a timing is near to each
near_same : (line : Line) (within : ℕ) (recorded h other : History) → IsSameHistory line other h
    → IsNear line within recorded h → IsNear line within recorded other
near_same line within recorded h other same near = record {
  keys = λ k there.
      subst (λ (l : List ℕ). AllZip (AreNear within) (changes (recorded.key k) line.horizon) l)
      (changes_same (h.key k) (other.key k) line.horizon
      (λ t early. sym (same.keys k t there early)))
      (near.keys k there);
  trips = λ k there.
      subst (λ (l : List ℕ). AllZip (AreNear within) (changes (recorded.trip k) line.horizon) l)
      (changes_same (h.trip k) (other.trip k) line.horizon
      (λ t early. sym (same.trips k t there early)))
      (near.trips k there);
}

pub explains_by : (line : Line) (script : Script) (within : ℕ) (recorded h : History)
    (timing : TimingValues) → IsPlayed line script timing h
    → IsNear line within recorded h ↔ Explains line script within recorded timing
explains_by line script within recorded h timing played = (
  λ near. record { near = λ other is. near_same line within recorded h other (played.only other is) near },
  λ explains. explains.near h played.is,
)

-- ---- rows

together : (xs ys zs : List Paired) → (xs ++ ys) ++ zs ≡ xs ++ (ys ++ zs)
together [] ys zs = refl
together (x ∷ xs) ys zs = ap (λ l. x ∷ l) (together xs ys zs)

pub flat_more : (f : ℕ → List Paired) (xs : List ℕ) (k : ℕ)
    → flat_map f (xs ++ k ∷ []) ≡ flat_map f xs ++ f k
flat_more f [] k = append-nil (f k)
flat_more f (x ∷ xs) k = ap (λ l. f x ++ l) (flat_more f xs k) ∙ sym (together (f x) (flat_map f xs) (f k))

pub flat_range : (f : ℕ → List Paired) (k : ℕ)
    → flat_map f (range_with_len 0 (k + 1)) ≡ flat_map f (range_with_len 0 k) ++ f k
flat_range f k =
    let e : k + 1 ≡ suc k = omega arith in
    let z : 0 + k ≡ k = omega arith in
    ap (λ (n : ℕ). flat_map f (range_with_len 0 n)) e
    ∙ ap (flat_map f) (range_last 0 k ∙ ap (λ (n : ℕ). range_with_len 0 k ++ n ∷ []) z)
    ∙ flat_more f (range_with_len 0 k) k

pub flat_same : (f g : ℕ → List Paired) (n : ℕ) → ((k : ℕ) → k < n → f k ≡ g k)
    → flat_map f (range_with_len 0 n) ≡ flat_map g (range_with_len 0 n)
flat_same f g zero same = refl
flat_same f g (suc n) same =
    let e : suc n ≡ n + 1 = omega arith in
    ap (λ (m : ℕ). flat_map f (range_with_len 0 m)) e ∙ flat_range f n
    ∙ ap (λ l. l ++ f n) (flat_same f g n (λ k below. same k (omega arith)))
    ∙ ap (λ l. flat_map g (range_with_len 0 n) ++ l) (same n (omega arith))
    ∙ sym (flat_range g n)
    ∙ ap (λ (m : ℕ). flat_map g (range_with_len 0 m)) (sym e)

-- the same history has the same rows
terminal_same : (line : Line) (recorded h other : History) → IsSameHistory line other h → (k : ℕ)
    → k < terminal_count line → paired_terminal line recorded h k ≡ paired_terminal line recorded other k
terminal_same line recorded h other same k there =
    ap (λ (l : List ℕ). paired k false true (changes (recorded.key k) line.horizon) l
    ++ paired k true true (changes (recorded.trip k) line.horizon) (changes (h.trip k) line.horizon))
    (changes_same (h.key k) (other.key k) line.horizon (λ t early. sym (same.keys k t there early)))
    ∙ ap (λ (l : List ℕ).
    paired k false true (changes (recorded.key k) line.horizon) (changes (other.key k) line.horizon)
    ++ paired k true true (changes (recorded.trip k) line.horizon) l)
    (changes_same (h.trip k) (other.trip k) line.horizon (λ t early. sym (same.trips k t there early)))

pub rows_same : (line : Line) (recorded h other : History) → IsSameHistory line other h
    → paired_changes line recorded h ≡ paired_changes line recorded other
rows_same line recorded h other same =
    flat_same (paired_terminal line recorded h) (paired_terminal line recorded other)
    (terminal_count line) (terminal_same line recorded h other same)

pub rows_grow : (rows mid new one two : List Paired) → mid ≡ rows ++ one → new ≡ mid ++ two
    → new ≡ rows ++ (one ++ two)
rows_grow rows mid new one two e f = f ∙ ap (λ l. l ++ two) e ∙ together rows one two

-- the rows of a signal
pub signal_rows : (line : Line) (within : ℕ) (u : ℕ → ℕ → Bool) (all : List Recorded)
    (tracks : List (SentKeys Level)) (k : ℕ) (r : Recorded) (s : SentKeys Level) (xs ys : List ℕ)
    (trip : Bool) (rows new : List Paired) → AreRecorded line within u all
    → AreSent (terminal_count line) line.horizon line.horizon tracks
    → slice_get all k ≡ Some r → slice_get tracks k ≡ Some s → xs ≡ r.changes.items
    → ys ≡ changes (is_on s) (length s.keys) → new ≡ rows ++ paired k trip true xs ys
    → new ≡ rows ++ paired k trip true (changes (u k) line.horizon)
    (changes (is_shown tracks k) line.horizon)
signal_rows line within u all tracks k r s xs ys trip rows new are sent at here e f is =
    is
    ∙ ap (λ (l : List ℕ). rows ++ paired k trip true l ys) (e ∙ (are.each k r at).changes_are)
    ∙ ap (λ (l : List ℕ). rows ++ paired k trip true (changes (u k) line.horizon) l)
    (f ∙ shown_changes line tracks k s sent here)
