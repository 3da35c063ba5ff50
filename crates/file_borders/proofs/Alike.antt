-- At whole times a fault shows what the script shows in which they are written.
use Rattle.std.proofs.Common.{◌≡◌, ◌≤◌, ◌<◌, ◌+◌, ◌%◌, ◌/◌, ◌&&◌, ◌||◌, ◌++◌, ℕ, Bool, true, false, List, [], ◌∷◌, length}
use Rattle.std.proofs.Common.{refl, sym, ap, subst, arith, ◌∙◌, suc}
use Rattle.std.proofs.lemmas.List.{get_or_push}
use Rattle.std.specs.Prelude.{get_or, nat_eq, nat_le, nat_lt, if◌then◌else◌}
use Rattle.std.specs.List.{list_any, list_all}
use Rattle.model_line.specs.declared.script.{SeenSpan.SeenSpan, What.What}
use Rattle.model_borders.specs.Borders.{sum_below}
use Rattle.model_borders.specs.declared.script.LooseSpan.{LooseSpan}
use Rattle.model_history.specs.Rails.{Ends, single}
use Rattle.file_study.specs.declared.study.stage.Shown.{Shown}
use Rattle.file_study.specs.study.Faults.{StageValues}
use Rattle.file_study.specs.sweeps.Spans as exact
use Rattle.file_study.specs.sweeps.Choices.{lasts_at, value_at}
use Rattle.file_borders.specs.declared.drawn.At.{At}
use Rattle.file_borders.specs.Drawn.{Drawing, behind, drawn_from, first_of, joined, part_of, with_all, with_shown, with_stage}
use Rattle.file_borders.specs.Exact.{exact_stages}
use Rattle.file_borders.specs.Loose.{comes_by, comes_in_time, has_one_time}
use Rattle.file_borders.proofs.Times.{at_time, behind_at, place, some, start}
use Rattle.file_borders.proofs.Spans.{AreFine, IsFine, Ordered, fines_joined, fines_kept, here, holds, holds_kept}
use Rattle.file_borders.proofs.Spans.{both_of, joined_here, joined_holds, length_push, or_false, place_kept}

-- a drawing and spans of a script that show the same
pub record Same (m : ℕ) (x : ℕ → ℕ) (d : Drawing) (done : List SeenSpan) : Type 0 where
  pub fine : AreFine m x d.borders d.spans
  pub ordered : Ordered done
  pub alike : (is_of : What → Bool) (t : ℕ)
      → list_any (holds is_of t m x d.borders) d.spans ≡ list_any (here is_of t) done

-- border b stands at that tick
pub record StandsAt (m : ℕ) (x : ℕ → ℕ) (d : Drawing) (b n : ℕ) : Type 0 where
  pub there : b < length d.borders
  pub at : place m x d.borders b ≡ n

-- and borders that stood there still do
pub record Grows (m : ℕ) (x : ℕ → ℕ) (old new : Drawing) (done : List SeenSpan) : Type 0 where
  pub same : Same m x new done
  pub keeps : (b n : ℕ) → StandsAt m x old b n → StandsAt m x new b n

-- a span more, on both sides
span_more : (m : ℕ) (x : ℕ → ℕ) (ats : List At) (spans : List LooseSpan) (done : List SeenSpan) (new : LooseSpan)
    (own : SeenSpan) → Same m x (record { borders = ats; spans = spans }) done → IsFine m x ats new
    → own.what ≡ new.what → own.from ≡ place m x ats new.from → own.to ≡ place m x ats new.to
    → Same m x (record { borders = ats; spans = joined new spans }) (exact.joined own done)
span_more m x ats spans done new own same fine what from to =
    let ordered : own.from ≤ own.to = omega (arith, from, to, fine.ordered) in
    record {
      fine = fines_joined m x ats new fine spans same.fine;
      ordered = (joined_here (λ what. true) 0 own done ordered same.ordered).1;
      alike = λ is_of t.
          joined_holds is_of t m x ats new fine spans same.fine
          ∙ ap (λ (b : Bool). b || holds is_of t m x ats new) (same.alike is_of t)
          ∙ ap (λ (n : ℕ). list_any (here is_of t) done
          || (is_of new.what && (nat_le n t && nat_lt t (place m x ats new.to)))) (sym from)
          ∙ ap (λ (n : ℕ). list_any (here is_of t) done
          || (is_of new.what && (nat_le own.from t && nat_lt t n))) (sym to)
          ∙ ap (λ (w : What). list_any (here is_of t) done
          || (is_of w && (nat_le own.from t && nat_lt t own.to))) (sym what)
          ∙ sym (joined_here is_of t own done ordered same.ordered).0;
    }

-- a span that holds no tick, on one side alone
empty : (v : Bool) (a b t : ℕ) → b ≤ a → (v && (nat_le a t && nat_lt t b)) ≡ false
empty v a b t le = grind arith

none_more : (m : ℕ) (x : ℕ → ℕ) (ats : List At) (spans : List LooseSpan) (done : List SeenSpan) (new : LooseSpan)
    → Same m x (record { borders = ats; spans = spans }) done → IsFine m x ats new
    → place m x ats new.to ≤ place m x ats new.from
    → Same m x (record { borders = ats; spans = joined new spans }) done
none_more m x ats spans done new same fine none = record {
  fine = fines_joined m x ats new fine spans same.fine;
  ordered = same.ordered;
  alike = λ is_of t.
      joined_holds is_of t m x ats new fine spans same.fine
      ∙ ap (λ (b : Bool). list_any (holds is_of t m x ats) spans || b)
      (empty (is_of new.what) (place m x ats new.from) (place m x ats new.to) t none)
      ∙ or_false (list_any (holds is_of t m x ats) spans)
      ∙ same.alike is_of t;
}

-- what comes after the begin of a stage that lasts so long
abbrev own_span : ℕ → ℕ → Shown → SeenSpan
own_span begin lasts shown = record { what = shown.what; from = begin + shown.after; to = begin + lasts }

abbrev with_own : ℕ → ℕ → Shown → List SeenSpan → List SeenSpan
with_own begin lasts shown done =
    if nat_lt shown.after lasts then exact.joined (own_span begin lasts shown) done else done

not_less : (a b : ℕ) → nat_lt a b ≡ false → b ≤ a
not_less a b e = grind arith

one_span : (m : ℕ) (x : ℕ → ℕ) (ats : List At) (spans : List LooseSpan) (done : List SeenSpan) (new : LooseSpan)
    (begin lasts : ℕ) (shown : Shown) (lt : Bool) → nat_lt shown.after lasts ≡ lt
    → Same m x (record { borders = ats; spans = spans }) done → IsFine m x ats new → new.what ≡ shown.what
    → place m x ats new.from ≡ begin + shown.after → place m x ats new.to ≡ begin + lasts
    → Same m x (record { borders = ats; spans = joined new spans })
    (if lt then exact.joined (own_span begin lasts shown) done else done)
one_span m x ats spans done new begin lasts shown true e same fine what from to =
    span_more m x ats spans done new (own_span begin lasts shown) same fine (sym what) (sym from) (sym to)
one_span m x ats spans done new begin lasts shown false e same fine what from to =
    let late : lasts ≤ shown.after = not_less shown.after lasts e in
    none_more m x ats spans done new same fine (omega (arith, from, to, late))

-- ---- a border more

border_at : (m : ℕ) (x : ℕ → ℕ) (ats : List At) (at : At) → place m x (ats ++ at ∷ []) (length ats) ≡ at_time m x at
border_at m x ats at = ap (λ (a : At). at_time m x a) (get_or_push ats at start (length ats) refl)

border_more : (m : ℕ) (x : ℕ → ℕ) (d : Drawing) (done : List SeenSpan) (at : At) → Same m x d done
    → Grows m x d (record { borders = d.borders ++ at ∷ []; spans = d.spans }) done
border_more m x d done at same = record {
  same = record {
    fine = fines_kept m x d.borders at d.spans same.fine;
    ordered = same.ordered;
    alike = λ is_of t. holds_kept is_of t m x d.borders at d.spans same.fine ∙ same.alike is_of t;
  };
  keeps = λ b n stands. record {
    there = omega (arith, stands.there, length_push d.borders at);
    at = place_kept m x d.borders at b stands.there ∙ stands.at;
  };
}

-- ---- what a stage shows

later : (a b c : ℕ) → (a + b) + c ≡ (a + c) + b
later a b c = omega arith

zero_is : (n : ℕ) → nat_eq n 0 ≡ true → n ≡ 0
zero_is n e = grind arith

at_most : (a b : ℕ) → nat_le a b ≡ true → a ≤ b
at_most a b e = grind arith

module _ (m : ℕ) (x : ℕ → ℕ) (at : At) (from to begin lasts : ℕ) (is : at_time m x at ≡ begin) where
  -- all of its spans end there
  shown_case : (shown : Shown) (d : Drawing) (done : List SeenSpan) (zero : Bool) → nat_eq shown.after 0 ≡ zero
      → StandsAt m x d from begin → StandsAt m x d to (begin + lasts) → shown.after ≤ lasts → Same m x d done
      → Grows m x d
      (if zero
      then record {
        borders = d.borders;
        spans = joined (record { what = shown.what; from = from; to = to }) d.spans;
      }
      else record {
        borders = d.borders ++ record { ticks = at.ticks + shown.after; lengths = at.lengths } ∷ [];
        spans = joined (record { what = shown.what; from = length d.borders; to = to }) d.spans;
      })
      (with_own begin lasts shown done)
  shown_case shown d done true e begins ends le same =
      let now : shown.after ≡ 0 = zero_is shown.after e in
      record {
        same = one_span m x d.borders d.spans done (record { what = shown.what; from = from; to = to }) begin lasts
            shown (nat_lt shown.after lasts) refl same
            (record {
              from = begins.there;
              to = ends.there;
              ordered = omega (arith, begins.at, ends.at);
            })
            refl (omega (arith, begins.at, now)) ends.at;
        keeps = λ b n stands. record { there = stands.there; at = stands.at };
      }
  shown_case shown d done false e begins ends le same =
      let new : At = record { ticks = at.ticks + shown.after; lengths = at.lengths } in
      let grows = border_more m x d done new same in
      let ends_now = grows.keeps to (begin + lasts) ends in
      let begins_now : place m x (d.borders ++ new ∷ []) (length d.borders) ≡ begin + shown.after =
      border_at m x d.borders new
      ∙ later at.ticks shown.after (sum_below (some at.lengths x) m)
      ∙ ap (λ (n : ℕ). n + shown.after) is in
      record {
        same = one_span m x (d.borders ++ new ∷ []) d.spans done
            (record { what = shown.what; from = length d.borders; to = to }) begin lasts
            shown (nat_lt shown.after lasts) refl grows.same
            (record {
              from = omega (arith, length_push d.borders new);
              to = ends_now.there;
              ordered = omega (arith, begins_now, ends_now.at, le);
            })
            refl begins_now ends_now.at;
        keeps = λ b n stands. let now = grows.keeps b n stands in record { there = now.there; at = now.at };
      }

  all_shown : (shows : List Shown) (least : ℕ) (d : Drawing) (done : List SeenSpan) → least ≤ lasts
      → list_all (comes_by least) shows ≡ true → StandsAt m x d from begin → StandsAt m x d to (begin + lasts)
      → Same m x d done
      → Grows m x d (with_all at from to shows d) (exact.stage_spans begin lasts shows done)
  all_shown [] least d done le in_time begins ends same = record { same = same; keeps = λ b n stands. stands }
  all_shown (shown ∷ more) least d done le in_time begins ends same =
      let two = both_of (comes_by least shown) (list_all (comes_by least) more) in_time in
      let after : shown.after ≤ least = at_most shown.after least two.0 in
      let one = shown_case shown d done (nat_eq shown.after 0) refl begins ends (omega (arith, after, le)) same in
      let rest = all_shown more least (with_shown at from to shown d) (with_own begin lasts shown done) le two.1
      (one.keeps from begin begins) (one.keeps to (begin + lasts) ends) one.same in
      record { same = rest.same; keeps = λ b n stands. rest.keeps b n (one.keeps b n stands) }

-- ---- one stage after another

-- the times are those of the part or later, from time i on
pub record AreLater (x : ℕ → ℕ) (i : ℕ) (part : List Ends) : Type 0 where
  pub later : (j : ℕ) → j < length part → (get_or part j (single 0)).least ≤ x (i + j)

-- a stage
stage_shown : (m : ℕ) (x : ℕ → ℕ) (at : At) (from begin lasts : ℕ) (s : StageValues) (d : Drawing)
    (done : List SeenSpan) → at_time m x at ≡ begin → at_time m x (behind at s) ≡ begin + lasts
    → first_of s ≤ lasts → comes_in_time s ≡ true → StandsAt m x d from begin → Same m x d done
    → (Grows m x d (with_stage at from s d) (exact.stage_spans begin lasts s.shows done))
    × StandsAt m x (with_stage at from s d) (length d.borders) (begin + lasts)
stage_shown m x at from begin lasts s d done is ends_is le in_time begins same =
    let one = border_more m x d done (behind at s) same in
    let ends : StandsAt m x (record { borders = d.borders ++ behind at s ∷ []; spans = d.spans })
    (length d.borders) (begin + lasts) = record {
      there = omega (arith, length_push d.borders (behind at s));
      at = border_at m x d.borders (behind at s) ∙ ends_is;
    } in
    let rest = all_shown m x at from (length d.borders) begin lasts is s.shows (first_of s)
    (record { borders = d.borders ++ behind at s ∷ []; spans = d.spans }) done le in_time
    (one.keeps from begin begins) ends one.same in (
      record { same = rest.same; keeps = λ b n stands. rest.keeps b n (one.keeps b n stands) },
      rest.keeps (length d.borders) (begin + lasts) ends,
    )

-- stages that begin there
abbrev pub AreDrawn : ℕ → (ℕ → ℕ) → List StageValues → Type 0
AreDrawn m x stages =
    (at : At) (from begin : ℕ) (d : Drawing) (done : List SeenSpan) → at_time m x at ≡ begin
    → list_all comes_in_time stages ≡ true → list_all has_one_time stages ≡ true
    → at.lengths + length (part_of stages) ≤ m → AreLater x at.lengths (part_of stages)
    → StandsAt m x d from begin → Same m x d done
    → Grows m x d (drawn_from at from stages d)
    (exact.spans_of begin (lasts_at (exact_stages x at.lengths stages) 0) (exact_stages x at.lengths stages) done)

first_value : (l : List ℕ) → length l ≡ 1 → value_at l 0 ≡ get_or l 0 0
first_value l one = ap (λ (n : ℕ). get_or l (0 % n) 0) one

first_rest : (l : List ℕ) (stages : List StageValues) → length l ≡ 1
    → lasts_at stages (0 / length l) ≡ lasts_at stages 0
first_rest l stages one = ap (λ (n : ℕ). lasts_at stages (0 / n)) one

one_of : (n : ℕ) → nat_eq n 1 ≡ true → n ≡ 1
one_of n e = grind arith

plus_none : (n : ℕ) → n + 0 ≡ n
plus_none n = omega arith

next_of : (n j : ℕ) → n + suc j ≡ (n + 1) + j
next_of n j = omega arith

one_drawn : (m : ℕ) (x : ℕ → ℕ) (lasts : List ℕ) (between : Bool) (shows : List Shown) (stages : List StageValues)
    → AreDrawn m x stages
    → AreDrawn m x (record { lasts = lasts; between = between; shows = shows } ∷ stages)
one_drawn m x lasts true shows stages next at from begin d done is in_time one_time few from_part begins same =
    let s : StageValues = record { lasts = lasts; between = true; shows = shows } in
    let two = both_of (comes_in_time s) (list_all comes_in_time stages) in_time in
    let times = both_of (has_one_time s) (list_all has_one_time stages) one_time in
    let own : ℕ = x at.lengths in
    let ends : at_time m x (behind at s) ≡ begin + own =
    behind_at m x at s true refl (λ _. omega (arith, few)) ∙ ap (λ (n : ℕ). n + own) is in
    let le : first_of s ≤ own =
    subst (λ (n : ℕ). first_of s ≤ x n) (plus_none at.lengths) (from_part.later 0 (omega arith)) in
    let one = stage_shown m x at from begin own s d done is ends le two.0 begins same in
    let rest = next (behind at s) (length d.borders) (begin + own) (with_stage at from s d)
    (exact.stage_spans begin own shows done) ends two.1 times.1 (omega (arith, few))
    (record {
      later = λ j lt. subst (λ (n : ℕ). (get_or (part_of stages) j (single 0)).least ≤ x n)
          (next_of at.lengths j) (from_part.later (suc j) (omega (arith, lt)));
    })
    one.1 one.0.same in
    record { same = rest.same; keeps = λ b n stands. rest.keeps b n (one.0.keeps b n stands) }
one_drawn m x lasts false shows stages next at from begin d done is in_time one_time few from_part begins same =
    let s : StageValues = record { lasts = lasts; between = false; shows = shows } in
    let two = both_of (comes_in_time s) (list_all comes_in_time stages) in_time in
    let times = both_of (has_one_time s) (list_all has_one_time stages) one_time in
    let single_time : length lasts ≡ 1 = one_of (length lasts) times.0 in
    let own : ℕ = get_or lasts 0 0 in
    let ends : at_time m x (behind at s) ≡ begin + own =
    behind_at m x at s false refl (λ e. absurd (grind (arith, e))) ∙ ap (λ (n : ℕ). n + own) is in
    let one = stage_shown m x at from begin own s d done is ends (omega arith) two.0 begins same in
    let rest = next (behind at s) (length d.borders) (begin + own) (with_stage at from s d)
    (exact.stage_spans begin own shows done) ends two.1 times.1 few from_part
    one.1 one.0.same in
    subst (λ (l : List ℕ). Grows m x d (drawn_from (behind at s) (length d.borders) stages (with_stage at from s d))
    (exact.spans_of begin l (s ∷ exact_stages x at.lengths stages) done))
    (sym (ap (λ (n : ℕ). n ∷ lasts_at (exact_stages x at.lengths stages) (0 / length lasts))
    (first_value lasts single_time)
    ∙ ap (λ (l : List ℕ). own ∷ l) (first_rest lasts (exact_stages x at.lengths stages) single_time)))
    (record { same = rest.same; keeps = λ b n stands. rest.keeps b n (one.0.keeps b n stands) })

pub all_drawn : (m : ℕ) (x : ℕ → ℕ) (stages : List StageValues) → AreDrawn m x stages
all_drawn m x [] = λ at from begin d done is in_time one_time few times begins same.
    record { same = same; keeps = λ b n stands. stands }
all_drawn m x (s ∷ stages) = one_drawn m x s.lasts s.between s.shows stages (all_drawn m x stages)
