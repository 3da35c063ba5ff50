-- A text of lines can be read in one way alone, as far as it can be read.
use Rattle.std.proofs.Common.{◌≡◌, ℕ, ◌+◌, List, [], ◌∷◌, ◌++◌, length, refl, sym, ◌∙◌, ap, subst}
use Rattle.base_text.specs.lines.Lines.{BeginsWith, Lines, CannotGoOn, LeavesAt}
use Rattle.base_text.specs.lines.LineLaws.{one_line, one_rest}

-- what no line goes on with: where no place is left, nothing need be said of the text
abbrev pub Halts : {K M : Type 0} → (K → M → List ℕ → Type 0) → List K → List ℕ → Type 0
Halts stands [] rest = Unit {0}
Halts {K} {M} stands (place ∷ places) rest =
    (said : M) (line later : List ℕ) → BeginsWith rest line later → ¬ (stands place said line)

module _ {K M : Type 0} (stands : K → M → List ℕ → Type 0) (opens : K → M → List K) where
  pub halts : (places : List K) (rest : List ℕ) → CannotGoOn stands places rest
      → Halts stands places rest
  halts [] rest h = tt
  halts (place ∷ places) rest h = h

  -- two readings that cannot go on
  pub record IsSame (ms ns : List M) (left others : List K) (rest later : List ℕ) : Type 0 where
    pub said : ms ≡ ns
    pub places : left ≡ others
    pub text : rest ≡ later

  no_more : (place : K) (places left : List K) (text rest : List ℕ) (m : M) (line later : List ℕ)
      → place ∷ places ≡ left → text ≡ rest → Halts stands left rest → BeginsWith text line later
      → ¬ (stands place m line)
  no_more place places left text rest m line later same is h b stood =
      let P : List K → Type 0 = λ l. Halts stands l rest in
      let Q : List ℕ → Type 0 = λ t. Halts stands (place ∷ places) t in
      (subst Q (sym is) (subst P (sym same) h)) m line later b stood

  pub same_reading : ((place : K) (m n : M) (line : List ℕ) → stands place m line
      → stands place n line → m ≡ n)
      → (places : List K) (ms ns : List M) (text : List ℕ) (left : List K) (rest : List ℕ)
      (others : List K) (later : List ℕ)
      → Lines stands opens places ms text left rest → Halts stands left rest
      → Lines stands opens places ns text others later → Halts stands others later
      → IsSame ms ns left others rest later
  same_reading one places [] [] text left rest others later f hf g hg = record {
    said = refl;
    places = sym f.0 ∙ g.0;
    text = sym f.1 ∙ g.1;
  }
  same_reading one [] [] (n ∷ ns) text left rest others later f hf g hg = absurd g
  same_reading one (p ∷ places) [] (n ∷ ns) text left rest others later f hf g hg =
      absurd (no_more p places left text rest n g.0 g.1.0 f.0 f.1 hf g.1.1.0 g.1.1.1.0)
  same_reading one [] (m ∷ ms) [] text left rest others later f hf g hg = absurd f
  same_reading one (p ∷ places) (m ∷ ms) [] text left rest others later f hf g hg =
      absurd (no_more p places others text later m f.0 f.1.0 g.0 g.1 hg f.1.1.0 f.1.1.1.0)
  same_reading one [] (m ∷ ms) (n ∷ ns) text left rest others later f hf g hg = absurd f
  same_reading one (p ∷ places) (m ∷ ms) (n ∷ ns) text left rest others later f hf g hg =
      let line : g.0 ≡ f.0 = one_line text g.0 g.1.0 f.0 f.1.0 g.1.1.0 f.1.1.0 in
      let tail : g.1.0 ≡ f.1.0 = one_rest text g.0 g.1.0 f.0 f.1.0 g.1.1.0 f.1.1.0 in
      let S : List ℕ → Type 0 = λ l. stands p n l in
      let same : n ≡ m = one p n m f.0 (subst S line g.1.1.1.0) f.1.1.1.0 in
      let R : List ℕ → Type 0 = λ t. Lines stands opens (opens p n ++ places) ns t others later in
      let T : M → Type 0 = λ k. Lines stands opens (opens p k ++ places) ns f.1.0 others later in
      let r = same_reading one (opens p m ++ places) ms ns f.1.0 left rest others later
      f.1.1.1.1 hf (subst T same (subst R tail g.1.1.1.1)) hg in
      record {
        said = ap (λ l. m ∷ l) r.said ∙ ap (λ k. k ∷ ns) (sym same);
        places = r.places;
        text = r.text;
      }

  -- a text of such lines is told by what they say
  pub same_text : ((place : K) (m : M) (line other : List ℕ) → stands place m line
      → stands place m other → line ≡ other)
      → (places : List K) (ms : List M) (text : List ℕ) (left : List K) (rest : List ℕ)
      (other : List ℕ) (others : List K) (later : List ℕ)
      → Lines stands opens places ms text left rest
      → Lines stands opens places ms other others later → rest ≡ later → text ≡ other
  same_text one places [] text left rest other others later f g same = f.1 ∙ same ∙ sym g.1
  same_text one [] (m ∷ ms) text left rest other others later f g same = absurd f
  same_text one (p ∷ places) (m ∷ ms) text left rest other others later f g same =
      let line : f.0 ≡ g.0 = one p m f.0 g.0 f.1.1.1.0 g.1.1.1.0 in
      let tail : f.1.0 ≡ g.1.0 =
      same_text one (opens p m ++ places) ms f.1.0 left rest g.1.0 others later
      f.1.1.1.1 g.1.1.1.1 same in
      f.1.1.0.is ∙ ap (λ (l : List ℕ). l ++ 10 ∷ f.1.0) line
      ∙ ap (λ (t : List ℕ). g.0 ++ 10 ∷ t) tail ∙ sym g.1.1.0.is

  -- the first line that cannot stand is one, and then the text does not stand whole
  pub same_number : ((place : K) (m n : M) (line : List ℕ) → stands place m line
      → stands place n line → m ≡ n)
      → (places : List K) (text : List ℕ) (first n m : ℕ)
      → LeavesAt stands opens places text first n → LeavesAt stands opens places text first m
      → n ≡ m
  same_number one places text first n m f g =
      let r = same_reading one places f.said g.said text f.left f.rest g.left g.rest
      f.before (halts f.left f.rest f.stops) g.before (halts g.left g.rest g.stops) in
      f.number ∙ ap (λ l. first + length l) r.said ∙ sym g.number

  pub not_whole : ((place : K) (m n : M) (line : List ℕ) → stands place m line
      → stands place n line → m ≡ n)
      → (places : List K) (text : List ℕ) (first n : ℕ) (said : List M)
      → LeavesAt stands opens places text first n
      → ¬ (Lines stands opens places said text [] [])
  not_whole one places text first n said f g =
      let r = same_reading one places f.said said text f.left f.rest [] []
      f.before (halts f.left f.rest f.stops) g tt in
      let P : List K → Type 0 = λ l. CannotGoOn stands l f.rest in
      (subst P r.places f.stops) r.text
