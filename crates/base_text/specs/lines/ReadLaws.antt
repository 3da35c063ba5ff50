-- Laws of lines that are read where more are expected after them, and of their faults.
use Rattle.std.proofs.Common.{◌≡◌, ℕ, ◌+◌, ◌<◌, List, [], ◌∷◌, ◌++◌, ◌∙◌, length, drop, get_or}
use Rattle.std.proofs.Common.{sym, ap, subst}
use Rattle.std.proofs.lemmas.Result.{MatchResult-weaker}
use Rattle.std.specs.Prelude.{Result, MatchResult}
use Rattle.std.specs.List.{flat_map}
use Rattle.base_text.specs.declared.lines.fault.TextFault.{TextFault}
use Rattle.base_memory.specs.declared.stopped.Stopped.{Stopped}
use Rattle.base_memory.specs.declared.stopped.Stopped.TheVariants as stopped
use Rattle.base_text.specs.lines.Lines.{BeginsWith, Goes, LeavesAt}
use Rattle.base_text.specs.lines.Grammar.{Grammar, Reads, IsFault}
use Rattle.base_text.specs.lines.LineLaws.{goes_one, goes_then, leaves_later, leaves_here}
use Rattle.base_text.specs.lines.Reading.{left_as, next_places}

module _ (g : Grammar) where
  -- a fault after some lines
  pub later_fault : (places : List g.Place) (said : List g.Said) (text : List ℕ) (a : ℕ) (mid : List g.Place)
      (at : List ℕ) (b : ℕ) (f : Stopped TextFault) → Goes g.stands g.opens places said text a mid at b
      → IsFault g mid at b f → IsFault g places text a f
  later_fault places said text a mid at b (stopped.Fault f) goes is =
      leaves_later g.stands g.opens places said text a mid at b f.line goes is
  later_fault places said text a mid at b stopped.Memory goes is = tt

  -- the line of one text was taken
  pub taken : (line : List ℕ) (later : List g.Place) (text rest : List ℕ) (a b : ℕ)
      → BeginsWith text line rest → b ≡ a + 1
      → Goes g.stands g.opens (g.fixed line ∷ later) (g.nothing ∷ []) text a later rest b
  taken line later text rest a b begins next =
      left_as g.stands g.opens (g.fixed line ∷ later) (g.nothing ∷ []) text a
      (g.opens (g.fixed line) g.nothing ++ later) later rest b
      (ap (λ l. l ++ later) (g.opens_none line))
      (goes_one g.stands g.opens (g.fixed line) later g.nothing text line rest a b begins
      (g.there line) next)

  -- it was not there
  pub not_taken : (line : List ℕ) (later : List g.Place) (text : List ℕ) (a : ℕ) (f : TextFault)
      → f.line ≡ a → ((rest : List ℕ) → ¬ (BeginsWith text line rest))
      → IsFault g (g.fixed line ∷ later) text a (stopped.Fault f)
  not_taken line later text a f is never =
      let P : ℕ → Type 0 = λ n. LeavesAt g.stands g.opens (g.fixed line ∷ later) text a n in
      subst P (sym is) (leaves_here g.stands g.opens (g.fixed line ∷ later) text a
      (λ m other rest begins stood.
      let Q : List ℕ → Type 0 = λ l. BeginsWith text l rest in
      never rest (subst Q (g.alone line other m stood).1 begins)))

  -- it was taken, and then the answer is that of the lines at more places
  pub taken_then : {V : Type 0} (line : List ℕ) (places later : List g.Place)
      (text : List ℕ) (a : ℕ) (at : List ℕ) (b : ℕ) (rest : List ℕ) (c : ℕ)
      (IsWhole : V → Type 0) (said : V → List g.Said) (r : Result V (Stopped TextFault))
      → BeginsWith text line at → b ≡ a + 1
      → MatchResult r (λ v. IsWhole v × Reads g places (said v) later at b rest c)
      (λ f. IsFault g (places ++ later) at b f)
      → MatchResult r
      (λ v. IsWhole v × Reads g (g.fixed line ∷ places) (g.nothing ∷ said v) later text a rest c)
      (λ f. IsFault g (g.fixed line ∷ (places ++ later)) text a f)
  taken_then line places later text a at b rest c IsWhole said r begins next answer =
      let one = taken line (places ++ later) text at a b begins next in
      let all : List g.Place = g.fixed line ∷ (places ++ later) in
      MatchResult-weaker r answer
      (λ v is. (
        is.0,
        goes_then g.stands g.opens all (g.nothing ∷ []) text a (places ++ later) at b (said v)
            later rest c one is.1,
      ))
      (λ f is. later_fault all (g.nothing ∷ []) text a (places ++ later) at b f one is)

  -- ---- lines of each of several

  module _ {X : Type 0} (of : X → List g.Place) (xs : List X) (k : ℕ) (x : X) (inside : k < length xs)
      (is : x ≡ get_or xs k x) where
    at_next : (later : List g.Place) → flat_map of (drop k xs) ++ later
        ≡ of x ++ (flat_map of (drop (k + 1) xs) ++ later)
    at_next later =
        next_places of xs k x later inside
        ∙ ap (λ y. of y ++ (flat_map of (drop (k + 1) xs) ++ later)) (sym is)

    -- a fault in the lines of the next
    pub fault_there : (places later : List g.Place) (said : List g.Said) (text : List ℕ) (a : ℕ)
        (at : List ℕ) (b : ℕ) (f : Stopped TextFault)
        → Goes g.stands g.opens places said text a (flat_map of (drop k xs) ++ later) at b
        → IsFault g (of x ++ (flat_map of (drop (k + 1) xs) ++ later)) at b f
        → IsFault g places text a f
    fault_there places later said text a at b f before fails =
        let P : List g.Place → Type 0 = λ l. IsFault g l at b f in
        later_fault places said text a (flat_map of (drop k xs) ++ later) at b f before
        (subst P (sym (at_next later)) fails)

    -- the lines of one more
    pub one_stretch : (places later : List g.Place) (said more : List g.Said) (text : List ℕ) (a : ℕ)
        (at : List ℕ) (b : ℕ) (rest : List ℕ) (c : ℕ)
        → Goes g.stands g.opens places said text a (flat_map of (drop k xs) ++ later) at b
        → Goes g.stands g.opens (of x ++ (flat_map of (drop (k + 1) xs) ++ later)) more
        at b (flat_map of (drop (k + 1) xs) ++ later) rest c
        → Goes g.stands g.opens places (said ++ more) text a
        (flat_map of (drop (k + 1) xs) ++ later) rest c
    one_stretch places later said more text a at b rest c before next =
        goes_then g.stands g.opens places said text a
        (of x ++ (flat_map of (drop (k + 1) xs) ++ later)) at b more
        (flat_map of (drop (k + 1) xs) ++ later) rest c
        (left_as g.stands g.opens places said text a (flat_map of (drop k xs) ++ later)
        (of x ++ (flat_map of (drop (k + 1) xs) ++ later)) at b (at_next later) before) next
