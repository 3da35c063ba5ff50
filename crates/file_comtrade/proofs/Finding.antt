-- The first line that names a section, looked for line by line.
use Rattle.std.proofs.Common.{◌≡◌, ◌∙◌, ◌+◌, ◌-◌, ◌<◌, ◌≤◌, ◌∷◌, ℕ, zero, suc, Bool, true, false, List, [], Option, None, Some}
use Rattle.std.proofs.Common.{ap, refl, sym, arith, length, take}
use Rattle.std.specs.List.{after_first, before_first}
use Rattle.std.specs.Prelude.{◌==◌, if◌then◌else◌}
use Rattle.base_memory.specs.CheckLaws.{tested}
use Rattle.file_comtrade.specs.Places.{behind, line_in}
use Rattle.file_comtrade.specs.Sections.{Found, found_at, found_from, found_in, head_of, is_wanted}
use Rattle.file_comtrade.specs.SectionViews.{if_wanted}
use Rattle.file_comtrade.specs.declared.sections.Head.{Head}
use Rattle.file_comtrade.specs.declared.sections.Wanted.{Wanted}
use Rattle.file_comtrade.specs.declared.sections.Wanted.TheVariants as wanted

-- one line more
pub behind_more : (byte n : ℕ) (text : List ℕ)
    → behind byte (n + 1) text ≡ after_first (λ b. b == byte) (behind byte n text)
behind_more byte n text =
    let next : n + 1 ≡ suc n = omega arith in
    ap (λ (k : ℕ). behind byte k text) next

pub nothing_there : (text : List ℕ) → (length text == 0) ≡ true → text ≡ []
nothing_there [] e = refl
nothing_there (b ∷ bs) e = grind arith

pub something_there : (text : List ℕ) → (length text == 0) ≡ false → 0 < length text
something_there [] e = grind arith
something_there (b ∷ bs) e = omega arith

no_head : (what : Wanted) → is_wanted what None ≡ false
no_head wanted.Config = refl
no_head wanted.Data = refl
no_head wanted.Any = refl

nothing_named : head_of [] ≡ None
unfolding head_of
nothing_named = refl

-- a line that is wanted names what it names
pub is_there : (what : Wanted) (o : Option Head) (head : Head) → if_wanted what o ≡ Some head
    → (is_wanted what o ≡ true) × (o ≡ Some head)
is_there what o head e = tested (is_wanted what o) o head e

none_chosen : (what : Wanted) (o : Option Head) (b : Bool) → is_wanted what o ≡ b
    → (if b then o else None) ≡ None → is_wanted what o ≡ false
none_chosen what o false is e = is
none_chosen what o true is e = ap (is_wanted what) e ∙ no_head what

-- one that is not
pub is_not_there : (what : Wanted) (o : Option Head) → if_wanted what o ≡ None
    → is_wanted what o ≡ false
is_not_there what o e = none_chosen what o (is_wanted what o) refl e

module _ (what : Wanted) (text : List ℕ) where
  -- behind the end there is none
  pub none_left : (n k : ℕ) → behind 10 n text ≡ [] → found_from what text n k ≡ None
  none_left n zero end = refl
  none_left n (suc k) end =
      let line : line_in text n ≡ [] = rw end refl in
      let named : head_of (line_in text n) ≡ None = ap head_of line ∙ nothing_named in
      let unwanted : is_wanted what (head_of (line_in text n)) ≡ false =
      ap (is_wanted what) named ∙ no_head what in
      let further : behind 10 (n + 1) text ≡ [] =
      behind_more 10 n text ∙ ap (after_first (λ b. b == 10)) end in
      rw unwanted (none_left (n + 1) k further)

  -- the line is passed over
  pub passed_over : (n count : ℕ) → n < count → is_wanted what (head_of (line_in text n)) ≡ false
      → found_from what text n (count - n) ≡ found_from what text (n + 1) (count - (n + 1))
  passed_over n count below unwanted =
      let more : count - n ≡ suc (count - (n + 1)) = omega arith in
      rw (more, unwanted) refl

  -- the line is it
  pub found_here : (n count : ℕ) → n < count → is_wanted what (head_of (line_in text n)) ≡ true
      → found_from what text n (count - n) ≡ Some (found_at text n)
  found_here n count below is =
      let more : count - n ≡ suc (count - (n + 1)) = omega arith in
      rw (more, is) refl

  -- and so it is found
  pub found_is : (n : ℕ) (head : Head) (rest next line : List ℕ) → n < length text
      → rest ≡ behind 10 n text → line ≡ before_first (λ b. b == 10) rest
      → next ≡ after_first (λ b. b == 10) rest → if_wanted what (head_of line) ≡ Some head
      → found_in what text ≡ found_from what text n (length text - n)
      → (let found : Option Found = Some (record {
        line = n;
        head = Some head;
        before = take (length text - length rest) text;
        rest = next;
      }) in found ≡ found_in what text)
  found_is n head rest next line below rest_is line_is next_is e so_far =
      let same : line ≡ line_in text n = line_is ∙ ap (before_first (λ b. b == 10)) rest_is in
      let wants : if_wanted what (head_of (line_in text n)) ≡ Some head =
      ap (λ (l : List ℕ). if_wanted what (head_of l)) (sym same) ∙ e in
      let there = is_there what (head_of (line_in text n)) head wants in
      let next_one : next ≡ behind 10 (n + 1) text =
      next_is ∙ ap (after_first (λ b. b == 10)) rest_is ∙ sym (behind_more 10 n text) in
      let with_all : Option Head → List ℕ → List ℕ → Option Found = λ h r x. Some (record {
        line = n;
        head = h;
        before = take (length text - length r) text;
        rest = x;
      }) in
      ap (λ (h : Option Head). with_all h rest next) (sym there.1)
      ∙ ap (λ (r : List ℕ). with_all (head_of (line_in text n)) r next) rest_is
      ∙ ap (λ (x : List ℕ). with_all (head_of (line_in text n)) (behind 10 n text) x) next_one
      ∙ sym (so_far ∙ found_here n (length text) below there.0)

  -- where no line is left it is not found
  pub none_found : (n : ℕ) → length text ≤ n
      → found_in what text ≡ found_from what text n (length text - n) → None ≡ found_in what text
  none_found n end so_far =
      let none : length text - n ≡ 0 = omega arith in
      sym (so_far ∙ ap (found_from what text n) none)
