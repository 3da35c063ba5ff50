-- A text of lines, where each line that can stand at a place can stand there by another rule too.
use Rattle.std.proofs.Common.{◌++◌, ℕ, List, [], ◌∷◌}
use Rattle.base_text.specs.lines.Lines.{CannotGoOn, LeavesAt, Lines}

module _ {K M : Type 0} (S T : K → M → List ℕ → Type 0) (opens : K → M → List K)
    (on : (place : K) (said : M) (line : List ℕ) → S place said line → T place said line) where
  pub lines_on : (places : List K) (said : List M) (text : List ℕ) (left : List K)
      (rest : List ℕ) → Lines S opens places said text left rest
      → Lines T opens places said text left rest
  lines_on places [] text left rest is = is
  lines_on [] (m ∷ more) text left rest is = absurd is
  lines_on (place ∷ places) (m ∷ more) text left rest is = (
    is.0,
    (
      is.1.0,
      (
        is.1.1.0,
        (
          on place m is.0 is.1.1.1.0,
          lines_on (opens place m ++ places) more is.1.0 left rest is.1.1.1.1,
        ),
      ),
    ),
  )

  stops_on : (back : (place : K) (said : M) (line : List ℕ) → T place said line
      → S place said line) (left : List K) (rest : List ℕ) → CannotGoOn S left rest
      → CannotGoOn T left rest
  stops_on back [] rest is = is
  stops_on back (place ∷ places) rest is = λ m line later begins stands.
      is m line later begins (back place m line stands)

  pub leaves_on : ((place : K) (said : M) (line : List ℕ) → T place said line
      → S place said line) → (places : List K) (text : List ℕ) (first n : ℕ)
      → LeavesAt S opens places text first n → LeavesAt T opens places text first n
  leaves_on back places text first n is = record {
    said = is.said;
    left = is.left;
    rest = is.rest;
    before = lines_on places is.said text is.left is.rest is.before;
    stops = stops_on back is.left is.rest is.stops;
    number = is.number;
  }
