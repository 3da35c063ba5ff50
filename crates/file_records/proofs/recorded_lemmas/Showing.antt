-- The script of records shows at each tick exactly what is told.
use Rattle.std.proofs.Common.{◌≡◌, ◌≢◌, ◌+◌, ◌-◌, ◌<◌, ◌≤◌, ◌++◌, ◌&&◌, ◌||◌, ℕ, suc, zero, Bool, true, false}
use Rattle.std.proofs.Common.{List, [], ◌∷◌, refl, ap, sym, ◌∙◌, subst, arith, length, cond, inl, inr}
use Rattle.std.specs.List.{list_any}
use Rattle.std.specs.Prelude.{nat_lt, nat_le}
use Rattle.std.proofs.Math.Bool.{or-false, or-true}
use Rattle.std.proofs.lemmas.Bool.{and_parts, cases_lt, false_from_ne_true, leb-true, ltb-true}
use Rattle.std.proofs.lemmas.List.Folds.{list_any-append}
use Rattle.model_history.specs.Each.{each_below}
use Rattle.model_logic.specs.SameTreeLaws.{place-same, place-itself}
use Rattle.model_line.specs.declared.line.Line.{Line}
use Rattle.model_line.specs.declared.script.{SeenSpan.SeenSpan, What.What, Element.Element, Place.Place}
use Rattle.model_line.specs.declared.script.Element.TheVariants.{Z1, Z2, Rv, Uv, Cur}
use Rattle.model_line.specs.declared.script.What.TheVariants as what
use Rattle.model_line.specs.Parameters.{terminal_count}
use Rattle.model_line.specs.Seen.{is_lost, is_of_loss, is_of_place, is_seen, loses, same_place, shows}
use Rattle.file_records.specs.declared.map.source.Signal.TheVariants.{Shown}
use Rattle.file_records.specs.{tracks.Levels.is_on, tracks.Tracks.TrackValues}
use Rattle.file_records.specs.recorded.Shows.{ShowsWhatIsTold}
use Rattle.file_records.specs.recorded.Spans.{begins_at, element_at, first_off, span_from, spans_of}
use Rattle.file_records.specs.recorded.Spans.{spans_told, terminal_spans}
use Rattle.file_records.proofs.recorded_lemmas.Fitting.{first_from}

-- ---- one of many

any_none : {X : Type 0} (p : X → Bool) (n : ℕ) (f : ℕ → List X)
    → ((k : ℕ) → k < n → list_any p (f k) ≡ false) → list_any p (each_below n f) ≡ false
any_none p zero f none = refl
any_none p (suc n) f none =
    let rest = any_none p n f (λ k less. none k (omega arith)) in
    let last = none n (omega arith) in
    let both = list_any-append p (each_below n f) (f n) in
    both ∙ (rw (rest, last) refl)

any_some : {X : Type 0} (p : X → Bool) (n : ℕ) (f : ℕ → List X) (u : ℕ) → u < n
    → list_any p (f u) ≡ true → list_any p (each_below n f) ≡ true
any_some p zero f u less is = absurd (omega arith)
any_some p (suc n) f u less is =
    let both = list_any-append p (each_below n f) (f n) in
    elim (cases_lt u n) [
      | inl before ↦ both ∙ (rw (any_some p n f u before is) refl)
      | inr more ↦ (
          let same : u ≡ n = omega arith in
          let last : list_any p (f n) ≡ true = subst (λ (k : ℕ). list_any p (f k) ≡ true) same is in
          both ∙ (rw last (or-true (list_any p (each_below n f))))
          )
    ]

any_one : {X : Type 0} (p : X → Bool) (n : ℕ) (f : ℕ → List X) (j : ℕ) → j < n
    → ((k : ℕ) → k < n → k ≢ j → list_any p (f k) ≡ false)
    → list_any p (each_below n f) ≡ list_any p (f j)
any_one p zero f j inside none = absurd (omega arith)
any_one p (suc n) f j inside none =
    let both = list_any-append p (each_below n f) (f n) in
    elim (cases_lt j n) [
      | inl before ↦ (
          let rest = any_one p n f j before (λ k less other. none k (omega arith) other) in
          let last = none n (omega arith) (λ same. absurd (omega (arith, same))) in
          both ∙ (rw (rest, last) (or-false (list_any p (f j))))
          )
      | inr more ↦ (
          let same : j ≡ n = omega arith in
          let rest = any_none p n f
          (λ k less. none k (omega arith) (λ is. absurd (omega (arith, is)))) in
          both ∙ (rw (rest, same) refl)
          )
    ]

-- ---- spans of one signal

-- a tick of a span is one at which it is on
off_behind : (on : ℕ → Bool) (u n t : ℕ) → u ≤ t → t < first_off on u n → on t ≡ true
off_behind on u zero t from less = absurd (omega arith)
off_behind on u (suc n) t from less =
    by_level (on u) refl less (λ later. off_behind on (u + 1) n t later)
  where
    by_level : (b : Bool) → on u ≡ b → t < cond b (first_off on (u + 1) n) u
        → (u + 1 ≤ t → t < first_off on (u + 1) n → on t ≡ true) → on t ≡ true
    by_level true is less rest = elim (cases_lt u t) [
      | inl later ↦ rest (omega arith) less
      | inr more ↦ (let same : u ≡ t = omega arith in subst (λ (k : ℕ). on k ≡ true) same is)
    ]
    by_level false is less rest = absurd (omega arith)

-- where it is on all the way, it is off only behind
off_beyond : (on : ℕ → Bool) (u n t : ℕ) → ((r : ℕ) → u ≤ r → r ≤ t → on r ≡ true) → u ≤ t
    → t < u + n → t < first_off on u n
off_beyond on u zero t all from less = absurd (omega arith)
off_beyond on u (suc n) t all from less =
    let here : on u ≡ true = all u (omega arith) from in
    rw here (elim (cases_lt u t) [
      | inl later ↦ off_beyond on (u + 1) n t (λ r low high. all r (omega arith) high) (omega arith)
          (omega arith)
      | inr more ↦ (let after = first_from on (u + 1) n in omega (arith, after))
    ])

-- the tick at which it went on
record Start (on : ℕ → Bool) (t : ℕ) : Type 0 where
  at : ℕ
  upto : at ≤ t
  begins : begins_at on at ≡ true
  all : (r : ℕ) → at ≤ r → r ≤ t → on r ≡ true

start_of : (on : ℕ → Bool) (t : ℕ) → on t ≡ true → Start on t
start_of on zero is = record {
  at = 0;
  upto = omega arith;
  begins = rw is refl;
  all = λ r low high. (let same : 0 ≡ r = omega arith in subst (λ (k : ℕ). on k ≡ true) same is);
}
start_of on (suc t) is = by_level (on t) refl (start_of on t)
  where
    by_level : (b : Bool) → on t ≡ b → (on t ≡ true → Start on t) → Start on (suc t)
    by_level true before rest =
        let s = rest before in
        record {
          at = s.at;
          upto = (let le = s.upto in omega (arith, le));
          begins = s.begins;
          all = λ r low high. elim (cases_lt r (suc t)) [
            | inl less ↦ s.all r low (omega arith)
            | inr more ↦ (let same : suc t ≡ r = omega arith in subst (λ (k : ℕ). on k ≡ true) same is)
          ];
        }
    by_level false before rest = record {
      at = suc t;
      upto = omega arith;
      begins = rw (is, before) refl;
      all = λ r low high. (let same : suc t ≡ r = omega arith in subst (λ (k : ℕ). on k ≡ true) same is);
    }

-- the span is of that, and holds t
abbrev hits : (What → Bool) → ℕ → SeenSpan → Bool
hits is_of t s = is_of s.what && (nat_le s.from t && nat_lt t s.to)

module _ (is_of : What → Bool) (t : ℕ) (of : What) where
  hit_if : is_of of ≡ true → (b : Bool) (u to : ℕ)
      → list_any (hits is_of t) (cond b (record { what = of; from = u; to = to } ∷ []) [])
      ≡ (b && (nat_le u t && nat_lt t to))
  hit_if is true u to = rw is (or-false (nat_le u t && nat_lt t to))
  hit_if is false u to = refl

  miss_if : is_of of ≡ false → (b : Bool) (u to : ℕ)
      → list_any (hits is_of t) (cond b (record { what = of; from = u; to = to } ∷ []) []) ≡ false
  miss_if is true u to = rw is refl
  miss_if is false u to = refl

  module _ (tracks : List TrackValues) (h : ℕ) where
    abbrev on : ℕ → Bool
    on = is_on tracks (Shown of)

    pub any_other : is_of of ≡ false → list_any (hits is_of t) (spans_of tracks h of) ≡ false
    any_other is =
        any_none (hits is_of t) h (span_from of on h)
        (λ u less. miss_if is (begins_at on u) u (first_off on u (h - u)))

    not_hit : is_of of ≡ true → on t ≡ false → (u : ℕ)
        → list_any (hits is_of t) (span_from of on h u) ≡ false
    not_hit is off u =
        hit_if is (begins_at on u) u (first_off on u (h - u))
        ∙ false_from_ne_true
        (begins_at on u && (nat_le u t && nat_lt t (first_off on u (h - u))))
        (λ both.
        let parts = and_parts (begins_at on u) (nat_le u t && nat_lt t (first_off on u (h - u))) both in
        let ends = and_parts (nat_le u t) (nat_lt t (first_off on u (h - u))) parts.1 in
        let shown = off_behind on u (h - u) t (leb-true u t ends.0)
        (ltb-true t (first_off on u (h - u)) ends.1) in
        absurd (cc))

    is_hit : is_of of ≡ true → t < h → on t ≡ true
        → list_any (hits is_of t) (spans_of tracks h of) ≡ true
    is_hit is early shown =
        let s = start_of on t shown in
        let le = s.upto in
        let beyond = off_beyond on s.at (h - s.at) t s.all s.upto (omega (arith, le)) in
        let low : nat_le s.at t ≡ true = grind (arith, le) in
        let high : nat_lt t (first_off on s.at (h - s.at)) ≡ true = grind (arith, beyond) in
        any_some (hits is_of t) h (span_from of on h) s.at (omega (arith, le))
        (hit_if is (begins_at on s.at) s.at (first_off on s.at (h - s.at))
        ∙ (rw (s.begins, low, high) refl))

    pub any_own : is_of of ≡ true → t < h
        → list_any (hits is_of t) (spans_of tracks h of) ≡ on t
    any_own is early = by_level (on t) refl
      where
        by_level : (b : Bool) → on t ≡ b
            → list_any (hits is_of t) (spans_of tracks h of) ≡ on t
        by_level true shown = is_hit is early shown ∙ sym shown
        by_level false off =
            any_none (hits is_of t) h (span_from of on h) (λ u less. not_hit is off u) ∙ sym off

-- ---- all spans

elsewhere : (p q : Place) → p ≢ q → same_place p q ≡ false
elsewhere p q other = false_from_ne_true (same_place p q) (λ e. other (place-same p q e))

abbrev at : Element → ℕ → Place
at element k = record { element = element; terminal = k }

other_element : (d e : Element) (k : ℕ) → d ≢ e → same_place (at d k) (at e k) ≡ false
other_element d e k other =
    elsewhere (at d k) (at e k) (λ same. other (ap (λ (p : Place). p.element) same))

other_terminal : (d e : Element) (j k : ℕ) → j ≢ k → same_place (at d j) (at e k) ≡ false
other_terminal d e j k other =
    elsewhere (at d j) (at e k) (λ same. other (ap (λ (p : Place). p.terminal) same))

five : (p : SeenSpan → Bool) (a b c d e : List SeenSpan)
    → list_any p ((((a ++ b) ++ c) ++ d) ++ e)
    ≡ ((((list_any p a || list_any p b) || list_any p c) || list_any p d) || list_any p e)
five p a b c d e =
    let one = list_any-append p a b in
    let two = list_any-append p (a ++ b) c in
    let three = list_any-append p ((a ++ b) ++ c) d in
    let four = list_any-append p (((a ++ b) ++ c) ++ d) e in
    cc

module _ (tracks : List TrackValues) (h t : ℕ) (early : t < h) where
  abbrev shown : Element → ℕ → Bool
  shown e k = is_on tracks (Shown (element_at e k)) t

  abbrev part : Place → Element → ℕ → Bool
  part p e k = list_any (shows p t) (spans_of tracks h (element_at e k))

  own_part : (e : Element) (k : ℕ) → part (at e k) e k ≡ shown e k
  own_part e k =
      any_own (is_of_place (at e k)) t (element_at e k) tracks h (place-itself (at e k)) early

  other_part : (p : Place) (e : Element) (k : ℕ) → same_place (at e k) p ≡ false
      → part p e k ≡ false
  other_part p e k other = any_other (is_of_place p) t (element_at e k) tracks h other

  five_parts : (p : Place) (k : ℕ)
      → list_any (shows p t) (terminal_spans tracks h k)
      ≡ ((((part p Z1 k || part p Z2 k) || part p Rv k) || part p Uv k) || part p Cur k)
  five_parts p k =
      five (shows p t) (spans_of tracks h (element_at Z1 k)) (spans_of tracks h (element_at Z2 k))
      (spans_of tracks h (element_at Rv k)) (spans_of tracks h (element_at Uv k))
      (spans_of tracks h (element_at Cur k))

  elsewhere_none : (e : Element) (j k : ℕ) → k ≢ j
      → list_any (shows (at e j) t) (terminal_spans tracks h k) ≡ false
  elsewhere_none e j k other =
      let none = λ (d : Element). other_part (at e j) d k (other_terminal d e k j other) in
      five_parts (at e j) k ∙ (rw (none Z1, none Z2, none Rv, none Uv, none Cur) refl)

  miss : (d e : Element) (k : ℕ) → d ≢ e → part (at e k) d k ≡ false
  miss d e k other = other_part (at e k) d k (other_element d e k other)

  here : (e : Element) (k : ℕ)
      → list_any (shows (at e k) t) (terminal_spans tracks h k) ≡ shown e k
  here Z1 k =
      five_parts (at Z1 k) k
      ∙ (rw (
        own_part Z1 k,
        miss Z2 Z1 k (λ s. cc),
        miss Rv Z1 k (λ s. cc),
        miss Uv Z1 k (λ s. cc),
        miss Cur Z1 k (λ s. cc),
        or-false (shown Z1 k),
        or-false (shown Z1 k),
        or-false (shown Z1 k),
        or-false (shown Z1 k),
      ) refl)
  here Z2 k =
      five_parts (at Z2 k) k
      ∙ (rw (
        own_part Z2 k,
        miss Z1 Z2 k (λ s. cc),
        miss Rv Z2 k (λ s. cc),
        miss Uv Z2 k (λ s. cc),
        miss Cur Z2 k (λ s. cc),
        or-false (shown Z2 k),
        or-false (shown Z2 k),
        or-false (shown Z2 k),
      ) refl)
  here Rv k =
      five_parts (at Rv k) k
      ∙ (rw (
        own_part Rv k,
        miss Z1 Rv k (λ s. cc),
        miss Z2 Rv k (λ s. cc),
        miss Uv Rv k (λ s. cc),
        miss Cur Rv k (λ s. cc),
        or-false (shown Rv k),
        or-false (shown Rv k),
      ) refl)
  here Uv k =
      five_parts (at Uv k) k
      ∙ (rw (
        own_part Uv k,
        miss Z1 Uv k (λ s. cc),
        miss Z2 Uv k (λ s. cc),
        miss Rv Uv k (λ s. cc),
        miss Cur Uv k (λ s. cc),
        or-false (shown Uv k),
      ) refl)
  here Cur k =
      five_parts (at Cur k) k
      ∙ (rw (
        own_part Cur k,
        miss Z1 Cur k (λ s. cc),
        miss Z2 Cur k (λ s. cc),
        miss Rv Cur k (λ s. cc),
        miss Uv Cur k (λ s. cc),
      ) refl)

module _ (line : Line) (tracks : List TrackValues) (t : ℕ) (early : t < line.horizon) where
  abbrev terminals : List SeenSpan
  terminals = each_below (terminal_count line) (terminal_spans tracks line.horizon)

  abbrev losses : List SeenSpan
  losses = each_below (length line.channels.items) (λ c. spans_of tracks line.horizon (what.Loss c))

  elements_shown : (e : Element) (k : ℕ) → k < terminal_count line
      → is_seen (spans_told line tracks) (at e k) t ≡ is_on tracks (Shown (element_at e k)) t
  elements_shown e k inside =
      let p = shows (at e k) t in
      let own = any_one p (terminal_count line) (terminal_spans tracks line.horizon) k inside
      (λ j less other. elsewhere_none tracks line.horizon t early e k j other) in
      let none = any_none p (length line.channels.items)
      (λ c. spans_of tracks line.horizon (what.Loss c))
      (λ c less. any_other (is_of_place (at e k)) t (what.Loss c) tracks line.horizon refl) in
      list_any-append p terminals losses
      ∙ (rw (own, none) (or-false (list_any p (terminal_spans tracks line.horizon k))))
      ∙ here tracks line.horizon t early e k

  no_element : (c k : ℕ)
      → list_any (loses c t) (terminal_spans tracks line.horizon k) ≡ false
  no_element c k =
      let none = λ (e : Element).
      any_other (is_of_loss c) t (element_at e k) tracks line.horizon refl in
      five (loses c t) (spans_of tracks line.horizon (element_at Z1 k))
      (spans_of tracks line.horizon (element_at Z2 k)) (spans_of tracks line.horizon (element_at Rv k))
      (spans_of tracks line.horizon (element_at Uv k)) (spans_of tracks line.horizon (element_at Cur k))
      ∙ (rw (none Z1, none Z2, none Rv, none Uv, none Cur) refl)

  losses_shown : (c : ℕ) → c < length line.channels.items
      → is_lost (spans_told line tracks) c t ≡ is_on tracks (Shown (what.Loss c)) t
  losses_shown c inside =
      let p = loses c t in
      let none = any_none p (terminal_count line) (terminal_spans tracks line.horizon)
      (λ k less. no_element c k) in
      let same : is_of_loss c (what.Loss c) ≡ true = grind arith in
      let other = λ (d : ℕ) (ne : d ≢ c).
      (let no : is_of_loss c (what.Loss d) ≡ false =
      false_from_ne_true (is_of_loss c (what.Loss d)) (λ e. ne (grind (arith, e))) in
      any_other (is_of_loss c) t (what.Loss d) tracks line.horizon no) in
      let own = any_one p (length line.channels.items)
      (λ d. spans_of tracks line.horizon (what.Loss d)) c inside (λ d less ne. other d ne) in
      list_any-append p terminals losses
      ∙ (rw (none, own) refl)
      ∙ any_own (is_of_loss c) t (what.Loss c) tracks line.horizon same early

pub shows_what_is_told : ShowsWhatIsTold
shows_what_is_told line tracks t early = record {
  elements = elements_shown line tracks t early;
  losses = losses_shown line tracks t early;
}
