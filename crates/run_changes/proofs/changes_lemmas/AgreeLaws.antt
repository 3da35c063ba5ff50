-- Lanes that are as recorded: over one tick more, one track more, one stretch more, and the horizon.
use Rattle.std.proofs.Common.{◌≡◌, ℕ, ◌+◌, ◌<◌, ◌≤◌, Bool, true, false, ◌&&◌, List, [], ◌∷◌, zero, suc}
use Rattle.std.proofs.Common.{Option, Some, None, map, refl, sym, ◌∙◌, ap, subst, arith, ⊎_elim}
use Rattle.std.proofs.lemmas.Bool.{cases_lt}
use Rattle.std.specs.Prelude.{◌↔◌, IsTrue, IsFalse, not, slice_get}
use Rattle.model_history.specs.Rails.{Rails, IsSound, both, must_of, rails_and, rails_at, rails_not}
use Rattle.run_signal.specs.{declared.level.Level.Level, Levels.level_rails}
use Rattle.run_signal.specs.declared.level.Level.TheVariants.{Off, On}
use Rattle.run_signal.specs.{SentKeys.SentKeys, Tracks.StaysUntil}
use Rattle.model_line.specs.{declared.script.Script.Script, declared.line.Line.Line}
use Rattle.model_line.specs.Parameters.{terminal_count}
use Rattle.model_logic.specs.PairMean.{PairSignals}
use Rattle.model_logic.specs.Choice.{Box, Choice, LeastFromOne}
use Rattle.model_logic.specs.Histories.{PairHistory, IsSameHistory, must_history}
use Rattle.model_logic.specs.{Laws.LineLaws}
use Rattle.net_gates.specs.{NetLaws.GatesStandForTheirTrees, NetOf.NetOf, NetOf.IsNetOf}
use Rattle.run_changes.specs.changes.Agreeing.{AgreeIn, AgreeBelow, AllAgreeIn, IsOnlyHistory}
use Rattle.run_changes.specs.changes.Agreeing.{recorded_pairs}
use Rattle.run_step.specs.Runs.{IsPoint, IsExactAt}
use Rattle.run_changes.specs.changes.PlayedTracks.{played}
use Rattle.run_changes.specs.changes.Tracks.{pair_of}
use Rattle.run_step.specs.PointLaws.{delays_from_one}
use Rattle.run_changes.proofs.changes_lemmas.UntilLaws.{solved_history, solved_exact}

-- ---- a lane of a conjunction

and_on : (a b : Bool) → IsTrue a → IsTrue b → IsTrue (a && b)
and_on true b on also = also
and_on false b on also = on

and_left : (a b : Bool) → IsTrue (a && b) → IsTrue a
and_left true b on = refl
and_left false b on = on

and_right : (a b : Bool) → IsTrue (a && b) → IsTrue b
and_right true b on = on
and_right false b on = absurd (let off : false ≡ true = on in cc)

-- it tells both facts
both_told : (x y z : Rails) (P Q : Type 0) → z ≡ rails_and x y → (IsTrue x.must ↔ P)
    → (IsTrue y.must ↔ Q) → (IsTrue z.must ↔ (P × Q))
both_told x y z P Q is p q = (
  λ on.
      let each : IsTrue (x.must && y.must) = sym (ap must_of is) ∙ on in
      (p.0 (and_left x.must y.must each), q.0 (and_right x.must y.must each)),
  λ facts. ap must_of is ∙ and_on x.must y.must (p.1 facts.0) (q.1 facts.1),
)

-- ---- a value and a level

pub on_told : (x : Rails) → IsSound x → (IsTrue x.must ↔ x ≡ both true)
on_told x sound = (
  λ on.
      let may : x.may ≡ true = sound on in
      ap (λ (b : Bool). record { must = b; may = x.may }) on
      ∙ ap (λ (b : Bool). record { must = true; may = b }) may,
  λ is. ap must_of is,
)

off_when : (x : Rails) → IsSound x → (may : Bool) → x.may ≡ may → IsTrue (rails_not x).must
    → x ≡ both false
off_when x sound true is on = absurd (let off : false ≡ true = sym (ap not is) ∙ on in cc)
off_when x sound false is on = must_off x.must refl where
  must_off : (must : Bool) → x.must ≡ must → x ≡ both false
  must_off true on =
      absurd (let off : false ≡ true = sym is ∙ sound on in cc)
  must_off false off =
      ap (λ (b : Bool). record { must = b; may = x.may }) off
      ∙ ap (λ (b : Bool). record { must = false; may = b }) is

pub off_told : (x z : Rails) → IsSound x → z ≡ rails_not x → (IsTrue z.must ↔ x ≡ both false)
off_told x z sound is = (
  λ on. off_when x sound x.may refl (sym (ap must_of is) ∙ on),
  λ off. ap must_of is ∙ ap (λ (r : Rails). (rails_not r).must) off,
)

-- ---- how long both stay

pub stays_once : (u : ℕ → Rails) (t end : ℕ) → end ≡ suc t → StaysUntil u t end end
stays_once u t end is = record {
  later = omega arith;
  limited = omega arith;
  same = λ r low high. let e : r ≡ t = omega arith in ap u e;
}

pub stays_less : (u : ℕ → Rails) (t bound last end less : ℕ) → t < less → less ≤ end → less ≤ last
    → StaysUntil u t bound end → StaysUntil u t last less
stays_less u t bound last end less later le limited stays = record {
  later = later;
  limited = limited;
  same = λ r low high. stays.same r low (omega arith);
}

-- ---- ticks of a track

module _ (own recorded : ℕ → Rails) (from : ℕ) where
  pub none_yet : (x : Rails) → x ≡ both true → (IsTrue x.must ↔ AgreeIn own recorded from from)
  none_yet x is = (λ on r low high. absurd (omega arith), λ agree. ap must_of is)

  -- through a stretch in which both stay
  pub ticks_more : (t end b1 b2 : ℕ) (x y z v l : Rails) → from ≤ t → z ≡ rails_and x y
      → (IsTrue x.must ↔ AgreeIn own recorded from t) → (IsTrue y.must ↔ v ≡ l) → own t ≡ v
      → recorded t ≡ l → StaysUntil own t b1 end → StaysUntil recorded t b2 end
      → (IsTrue z.must ↔ AgreeIn own recorded from end)
  ticks_more t end b1 b2 x y z v l low is before now own_is recorded_is stays also =
      let told = both_told x y z (AgreeIn own recorded from t) (v ≡ l) is before now in
      let later : t < end = stays.later in (
        λ on r le lt.
            ⊎_elim (λ early. (told.0 on).0 r le early)
            (λ late. stays.same r late lt ∙ own_is ∙ (told.0 on).1 ∙ sym recorded_is
            ∙ sym (also.same r late lt)) (cases_lt r t),
        λ agree. told.1
            (λ r le lt. agree r le (omega arith), sym own_is ∙ agree t low later ∙ recorded_is),
      )

-- ---- tracks

pub no_track : (own : PairSignals) (recorded : List (SentKeys Level)) (from end : ℕ) (x : Rails)
    → x ≡ both true → (IsTrue x.must ↔ AllAgreeIn 0 own recorded from end)
no_track own recorded from end x is = (λ on k lt. absurd (omega arith), λ agree. ap must_of is)

pub tracks_more : (own : PairSignals) (recorded : List (SentKeys Level)) (from end n : ℕ)
    (x y z : Rails) (u v : ℕ → Rails) → z ≡ rails_and x y → ((r : ℕ) → own n r ≡ u r)
    → ((r : ℕ) → recorded_pairs recorded n r ≡ v r)
    → (IsTrue x.must ↔ AllAgreeIn n own recorded from end)
    → (IsTrue y.must ↔ AgreeIn u v from end)
    → (IsTrue z.must ↔ AllAgreeIn (n + 1) own recorded from end)
tracks_more own recorded from end n x y z u v is own_is recorded_is before now =
    let told = both_told x y z (AllAgreeIn n own recorded from end) (AgreeIn u v from end) is before
    now in (
      λ on k kn r low high.
          ⊎_elim (λ early. (told.0 on).0 k early r low high)
          (λ late. let e : n ≡ k = omega arith in
          subst (λ (m : ℕ). own m r ≡ recorded_pairs recorded m r) e
          (own_is r ∙ (told.0 on).1 r low high ∙ sym (recorded_is r))) (cases_lt k n),
      λ agree. told.1 (
        λ k kn. agree k (omega arith),
        λ r low high. sym (own_is r) ∙ agree n (omega arith) r low high
            ∙ recorded_is r,
      ),
    )

-- ---- keys and trips before a tick

module _ (n : ℕ) (key trip : PairSignals) (keys trips : List (SentKeys Level)) where
  pub before_none : (x : Rails) → x ≡ both true
      → (IsTrue x.must ↔ AgreeBelow n key trip keys trips 0)
  before_none x is = (
    λ on. record {
      keys = λ k kn r low high. absurd (omega arith);
      trips = λ k kn r low high. absurd (omega arith);
    },
    λ agree. ap must_of is,
  )

  -- before the end of a stretch, where it was so before the stretch
  further : (own : PairSignals) (signal : PairSignals) (recorded : List (SentKeys Level)) (t end : ℕ)
      → ((k r : ℕ) → k < n → r < end → own k r ≡ signal k r)
      → AllAgreeIn n signal recorded 0 t → AllAgreeIn n own recorded t end
      → AllAgreeIn n signal recorded 0 end
  further own signal recorded t end is before now k kn r low high =
      ⊎_elim (λ early. before k kn r low early)
      (λ late. sym (is k r kn high) ∙ now k kn r late high) (cases_lt r t)

  pub before_more : (own_keys own_trips : PairSignals) (t end : ℕ) (x a b y z : Rails) → t ≤ end
      → y ≡ rails_and x a → z ≡ rails_and y b
      → ((k r : ℕ) → k < n → r < end → own_keys k r ≡ key k r)
      → ((k r : ℕ) → k < n → r < end → own_trips k r ≡ trip k r)
      → (IsTrue x.must ↔ AgreeBelow n key trip keys trips t)
      → (IsTrue a.must ↔ AllAgreeIn n own_keys keys t end)
      → (IsTrue b.must ↔ AllAgreeIn n own_trips trips t end)
      → (IsTrue z.must ↔ AgreeBelow n key trip keys trips end)
  before_more own_keys own_trips t end x a b y z le first second keys_are trips_are before ks ts =
      let one = both_told x a y (AgreeBelow n key trip keys trips t)
      (AllAgreeIn n own_keys keys t end) first before ks in
      let told = both_told y b z (AgreeBelow n key trip keys trips t
      × AllAgreeIn n own_keys keys t end) (AllAgreeIn n own_trips trips t end) second one ts in (
        λ on.
            let facts = told.0 on in
            record {
              keys = further own_keys key keys t end keys_are facts.0.0.keys facts.0.1;
              trips = further own_trips trip trips t end trips_are facts.0.0.trips facts.1;
            },
        λ agree. told.1 (
          (
            record {
              keys = λ k kn r low high. agree.keys k kn r low (omega arith);
              trips = λ k kn r low high. agree.trips k kn r low (omega arith);
            },
            λ k kn r low high. keys_are k r kn high ∙ agree.keys k kn r (omega arith) high,
          ),
          λ k kn r low high. trips_are k r kn high ∙ agree.trips k kn r (omega arith) high,
        ),
      )

  -- a lane that is left no more stays so
  pub none_left : (t end : ℕ) (x : Rails) → t ≤ end → IsFalse x.must
      → (IsTrue x.must ↔ AgreeBelow n key trip keys trips t)
      → (IsTrue x.must ↔ AgreeBelow n key trip keys trips end)
  none_left t end x le off before = (
    λ on. absurd (let e : false ≡ true = sym off ∙ on in cc),
    λ agree. before.1 (record {
      keys = λ k kn r low high. agree.keys k kn r low (omega arith);
      trips = λ k kn r low high. agree.trips k kn r low (omega arith);
    }),
  )

-- ---- over the horizon, where the box holds one choice alone

-- the pairs of known levels
level_both : (x : Level) → level_rails x ≡ both (level_rails x).must
level_both Off = refl
level_both On = refl

known_at : (levels : List Level) (t : ℕ)
    → rails_at (map (λ v. level_rails v) levels) t
    ≡ both (rails_at (map (λ v. level_rails v) levels) t).must
known_at [] t = refl
known_at (x ∷ levels) zero = level_both x
known_at (x ∷ levels) (suc t) = known_at levels t

known_pair : (t : ℕ) (o : Option (SentKeys Level))
    → pair_of (λ x _. level_rails x) 0 t o ≡ both (pair_of (λ x _. level_rails x) 0 t o).must
known_pair t None = refl
known_pair t (Some s) = known_at s.keys t

module _ (laws : LineLaws) (gates : GatesStandForTheirTrees) (line : Line) (script : Script)
    (box : Box) (d : LeastFromOne line box) (net : NetOf) (of_line : IsNetOf line net)
    (choice : Choice) (point : IsPoint line box choice) (keys trips : List (SentKeys Level)) where
  abbrev own : PairHistory
  own = solved_history line script box net

  exact : IsExactAt line script choice own
  exact = solved_exact laws gates line script box d net of_line choice point

  abbrev Agrees : Type 0
  Agrees = AgreeBelow (terminal_count line) own.key own.trip keys trips line.horizon

  abbrev IsOnly : Type 0
  IsOnly = IsOnlyHistory line script choice (played keys trips)

  is_only : Agrees → IsOnly
  is_only agree = record {
    same = λ other is_other.
        let once : IsSameHistory line other (must_history own) =
        laws.histories.only line script choice other (must_history own)
        (delays_from_one laws line script box d choice point) is_other exact.is in
        record {
          keys = λ k t kn lt.
              once.keys k t kn lt ∙ ap must_of (agree.keys k kn t (omega arith) lt);
          trips = λ k t kn lt.
              once.trips k t kn lt ∙ ap must_of (agree.trips k kn t (omega arith) lt);
        };
  }

  agrees : IsOnly → Agrees
  agrees only =
      let same = only.same (must_history own) exact.is in
      record {
        keys = λ k kn r low high.
            exact.both.keys k r kn high ∙ ap (λ (b : Bool). both b) (same.keys k r kn high)
            ∙ sym (known_pair r (slice_get keys k));
        trips = λ k kn r low high.
            exact.both.trips k r kn high ∙ ap (λ (b : Bool). both b) (same.trips k r kn high)
            ∙ sym (known_pair r (slice_get trips k));
      }

  pub only_told : (x : Rails) → (IsTrue x.must ↔ Agrees) → (IsTrue x.must ↔ IsOnly)
  only_told x told = (λ on. is_only (told.0 on), λ only. told.1 (agrees only))
