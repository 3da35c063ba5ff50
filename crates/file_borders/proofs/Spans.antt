-- What joined spans hold.
use Rattle.std.proofs.Common.{◌≡◌, ◌≤◌, ◌<◌, ◌+◌, ◌&&◌, ◌||◌, ◌++◌, ℕ, Bool, true, false, List, [], ◌∷◌, length}
use Rattle.std.proofs.Common.{refl, sym, ap, subst, arith, ◌∙◌}
use Rattle.std.proofs.lemmas.List.Folds.{list_any-append}
use Rattle.std.proofs.lemmas.List.{get_or_append_left, length-append}
use Rattle.std.specs.Prelude.{nat_eq, nat_le, nat_lt, map, if◌then◌else◌}
use Rattle.std.specs.List.{list_any}
use Rattle.model_line.specs.declared.script.{SeenSpan.SeenSpan, What.What}
use Rattle.model_line.specs.contracts.script.WhatPartialEq.TheImpl.{eq-value as what_eq}
use Rattle.model_borders.specs.declared.script.LooseSpan.{LooseSpan}
use Rattle.file_study.specs.sweeps.Spans as exact
use Rattle.file_borders.specs.declared.drawn.At.{At}
use Rattle.file_borders.specs.Drawn.{extended, goes_on, joined}
use Rattle.file_borders.proofs.Times.{at_time, place, start}
use Rattle.file_borders.proofs.Whats.{same_what}

-- a span that goes on where another ends holds with it what one holds that begins and ends as both
core : (v w : Bool) (a b c t : ℕ) → v ≡ w → a ≤ b → b ≤ c
    → (v && (nat_le a t && nat_lt t c)) ≡ ((v && (nat_le a t && nat_lt t b)) || (w && (nat_le b t && nat_lt t c)))
core v w a b c t same ab bc = grind arith

shuffle : (h g n A G : Bool) → ((h || (g && n)) || (A || (G && n))) ≡ ((h || A) || ((g || G) && n))
shuffle true g n A G = refl
shuffle false true n true G = grind arith
shuffle false true true false G = refl
shuffle false true false false G = grind arith
shuffle false false n A G = refl

pub both_of : (a b : Bool) → (a && b) ≡ true → (a ≡ true) × (b ≡ true)
both_of true true e = (refl, refl)
both_of true false e = absurd (grind arith)
both_of false b e = absurd (grind arith)

same_number : (a b : ℕ) → nat_eq a b ≡ true → a ≡ b
same_number a b e = grind arith

pub or_false : (b : Bool) → (b || false) ≡ b
or_false true = refl
or_false false = refl

swapped : (a b c : Bool) → ((a || b) || c) ≡ ((a || c) || b)
swapped true b c = refl
swapped false true c = grind arith
swapped false false c = sym (or_false c)

or_assoc : (a b c : Bool) → ((a || b) || c) ≡ (a || (b || c))
or_assoc true b c = refl
or_assoc false b c = refl

-- spans whose ends are in order
abbrev pub Ordered : List SeenSpan → Type 0
Ordered [] = Unit {0}
Ordered (s ∷ spans) = (s.from ≤ s.to) × Ordered spans

module _ (is_of : What → Bool) (t : ℕ) where
  -- a span of a script
  abbrev pub here : SeenSpan → Bool
  here s = is_of s.what && (nat_le s.from t && nat_lt t s.to)

  extended_here : (old new : SeenSpan) (on : Bool) → exact.goes_on old new ≡ on → on ≡ true → old.from ≤ old.to
      → new.from ≤ new.to → here (record old { to = new.to }) ≡ (here old || here new)
  extended_here old new on e so oo nn =
      let two = both_of (what_eq.it old.what new.what) (nat_eq old.to new.from) (e ∙ so) in
      let meet : old.to ≡ new.from = same_number old.to new.from two.1 in
      core (is_of old.what) (is_of new.what) old.from old.to new.to t
      (ap is_of (same_what old.what new.what two.0)) oo (omega arith)
      ∙ ap (λ (b : ℕ). here old || (is_of new.what && (nat_le b t && nat_lt t new.to))) meet

  pub joined_here : (new : SeenSpan) (spans : List SeenSpan) → new.from ≤ new.to → Ordered spans
      → (list_any here (exact.joined new spans) ≡ (list_any here spans || here new))
      × Ordered (exact.joined new spans)
  joined_here new [] nn os = (or_false (here new), (nn, tt))
  joined_here new (old ∷ more) nn os = split (joined_here new more nn os.1) (exact.goes_on old new) refl
    where
      split : (list_any here (exact.joined new more) ≡ (list_any here more || here new))
          × Ordered (exact.joined new more) → (on : Bool) → exact.goes_on old new ≡ on
          → (list_any here (if on then record old { to = new.to } ∷ more else old ∷ exact.joined new more)
          ≡ (list_any here (old ∷ more) || here new))
          × Ordered (if on then record old { to = new.to } ∷ more else old ∷ exact.joined new more)
      split next true on =
          let two = both_of (what_eq.it old.what new.what) (nat_eq old.to new.from) on in
          let meet : old.to ≡ new.from = same_number old.to new.from two.1 in (
            ap (λ (b : Bool). b || list_any here more) (extended_here old new true on refl os.0 nn)
                ∙ swapped (here old) (here new) (list_any here more),
            (omega (arith, meet, os.0, nn), os.1),
          )
      split next false on = (
        ap (λ (b : Bool). here old || b) next.0
            ∙ sym (or_assoc (here old) (list_any here more) (here new)),
        (os.0, next.1),
      )

module _ (is_of : What → Bool) (t m : ℕ) (x : ℕ → ℕ) where
  -- a span between borders
  abbrev pub holds : List At → LooseSpan → Bool
  holds ats s = is_of s.what && (nat_le (place m x ats s.from) t && nat_lt t (place m x ats s.to))

-- its borders are there, and in order
pub record IsFine (m : ℕ) (x : ℕ → ℕ) (ats : List At) (s : LooseSpan) : Type 0 where
  pub from : s.from < length ats
  pub to : s.to < length ats
  pub ordered : place m x ats s.from ≤ place m x ats s.to

abbrev pub AreFine : ℕ → (ℕ → ℕ) → List At → List LooseSpan → Type 0
AreFine m x ats [] = Unit {0}
AreFine m x ats (s ∷ spans) = IsFine m x ats s × AreFine m x ats spans

module _ (is_of : What → Bool) (t m : ℕ) (x : ℕ → ℕ) (ats : List At) (new : LooseSpan)
    (fine : IsFine m x ats new) where
  one_extended : (old : LooseSpan) (on : Bool) → goes_on new old ≡ on → IsFine m x ats old
      → holds is_of t m x ats (if on then record old { to = new.to } else old)
      ≡ (holds is_of t m x ats old || (on && holds is_of t m x ats new))
  one_extended old true e old_fine =
      let two = both_of (what_eq.it old.what new.what) (nat_eq old.to new.from) e in
      let meet : old.to ≡ new.from = same_number old.to new.from two.1 in
      let meets : place m x ats old.to ≡ place m x ats new.from = ap (place m x ats) meet in
      core (is_of old.what) (is_of new.what) (place m x ats old.from) (place m x ats old.to)
      (place m x ats new.to) t (ap is_of (same_what old.what new.what two.0)) old_fine.ordered
      (subst (λ (b : ℕ). b ≤ place m x ats new.to) (sym meets) fine.ordered)
      ∙ ap (λ (b : ℕ). holds is_of t m x ats old
      || (is_of new.what && (nat_le b t && nat_lt t (place m x ats new.to)))) meets
  one_extended old false e old_fine = sym (or_false (holds is_of t m x ats old))

  all_extended : (spans : List LooseSpan) → AreFine m x ats spans
      → list_any (holds is_of t m x ats) (map (extended new) spans)
      ≡ (list_any (holds is_of t m x ats) spans || (list_any (goes_on new) spans && holds is_of t m x ats new))
  all_extended [] fines = refl
  all_extended (old ∷ more) fines =
      ap (λ (b : Bool). b || list_any (holds is_of t m x ats) (map (extended new) more))
      (one_extended old (goes_on new old) refl fines.0)
      ∙ ap (λ (b : Bool). (holds is_of t m x ats old || (goes_on new old && holds is_of t m x ats new)) || b)
      (all_extended more fines.1)
      ∙ shuffle (holds is_of t m x ats old) (goes_on new old) (holds is_of t m x ats new)
      (list_any (holds is_of t m x ats) more) (list_any (goes_on new) more)

  pub joined_holds : (spans : List LooseSpan) → AreFine m x ats spans
      → list_any (holds is_of t m x ats) (joined new spans)
      ≡ (list_any (holds is_of t m x ats) spans || holds is_of t m x ats new)
  joined_holds spans fines = split (list_any (goes_on new) spans) refl
    where
      split : (on : Bool) → list_any (goes_on new) spans ≡ on
          → list_any (holds is_of t m x ats) (if on then map (extended new) spans else spans ++ new ∷ [])
          ≡ (list_any (holds is_of t m x ats) spans || holds is_of t m x ats new)
      split true on =
          all_extended spans fines
          ∙ ap (λ (b : Bool). list_any (holds is_of t m x ats) spans || (b && holds is_of t m x ats new)) on
      split false on =
          list_any-append (holds is_of t m x ats) spans (new ∷ [])
          ∙ ap (λ (b : Bool). list_any (holds is_of t m x ats) spans || b) (or_false (holds is_of t m x ats new))

module _ (m : ℕ) (x : ℕ → ℕ) (ats : List At) (new : LooseSpan) (fine : IsFine m x ats new) where
  fine_extended : (old : LooseSpan) (on : Bool) → goes_on new old ≡ on → IsFine m x ats old
      → IsFine m x ats (if on then record old { to = new.to } else old)
  fine_extended old true e old_fine =
      let two = both_of (what_eq.it old.what new.what) (nat_eq old.to new.from) e in
      let meets : place m x ats old.to ≡ place m x ats new.from =
      ap (place m x ats) (same_number old.to new.from two.1) in
      record {
        from = old_fine.from;
        to = fine.to;
        ordered = omega (arith, meets, old_fine.ordered, fine.ordered);
      }
  fine_extended old false e old_fine = old_fine

  fines_extended : (spans : List LooseSpan) → AreFine m x ats spans → AreFine m x ats (map (extended new) spans)
  fines_extended [] fines = tt
  fines_extended (old ∷ more) fines =
      (fine_extended old (goes_on new old) refl fines.0, fines_extended more fines.1)

  fines_pushed : (spans : List LooseSpan) → AreFine m x ats spans → AreFine m x ats (spans ++ new ∷ [])
  fines_pushed [] fines = (fine, tt)
  fines_pushed (old ∷ more) fines = (fines.0, fines_pushed more fines.1)

  pub fines_joined : (spans : List LooseSpan) → AreFine m x ats spans → AreFine m x ats (joined new spans)
  fines_joined spans fines = split (list_any (goes_on new) spans)
    where
      split : (on : Bool) → AreFine m x ats (if on then map (extended new) spans else spans ++ new ∷ [])
      split true = fines_extended spans fines
      split false = fines_pushed spans fines

pub length_push : (ats : List At) (at : At) → length (ats ++ at ∷ []) ≡ length ats + 1
length_push ats at = grind (arith, length-append)

-- ---- with a border more

pub place_kept : (m : ℕ) (x : ℕ → ℕ) (ats : List At) (at : At) (b : ℕ) → b < length ats
    → place m x (ats ++ at ∷ []) b ≡ place m x ats b
place_kept m x ats at b lt = ap (λ (a : At). at_time m x a) (get_or_append_left ats (at ∷ []) start b lt)

pub fines_kept : (m : ℕ) (x : ℕ → ℕ) (ats : List At) (at : At) (spans : List LooseSpan) → AreFine m x ats spans
    → AreFine m x (ats ++ at ∷ []) spans
fines_kept m x ats at [] fines = tt
fines_kept m x ats at (s ∷ spans) fines = (
  record {
    from = omega (arith, fines.0.from, length_push ats at);
    to = omega (arith, fines.0.to, length_push ats at);
    ordered = subst (λ (n : ℕ). n ≤ place m x (ats ++ at ∷ []) s.to)
        (sym (place_kept m x ats at s.from fines.0.from))
        (subst (λ (n : ℕ). place m x ats s.from ≤ n) (sym (place_kept m x ats at s.to fines.0.to)) fines.0.ordered);
  },
  fines_kept m x ats at spans fines.1,
)

pub holds_kept : (is_of : What → Bool) (t m : ℕ) (x : ℕ → ℕ) (ats : List At) (at : At) (spans : List LooseSpan)
    → AreFine m x ats spans
    → list_any (holds is_of t m x (ats ++ at ∷ [])) spans ≡ list_any (holds is_of t m x ats) spans
holds_kept is_of t m x ats at [] fines = refl
holds_kept is_of t m x ats at (s ∷ spans) fines =
    ap (λ (n : ℕ). (is_of s.what && (nat_le n t && nat_lt t (place m x (ats ++ at ∷ []) s.to)))
    || list_any (holds is_of t m x (ats ++ at ∷ [])) spans) (place_kept m x ats at s.from fines.0.from)
    ∙ ap (λ (n : ℕ). (is_of s.what && (nat_le (place m x ats s.from) t && nat_lt t n))
    || list_any (holds is_of t m x (ats ++ at ∷ [])) spans) (place_kept m x ats at s.to fines.0.to)
    ∙ ap (λ (b : Bool). holds is_of t m x ats s || b) (holds_kept is_of t m x ats at spans fines.1)
