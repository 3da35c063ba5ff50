-- What words ask for, one after another.
use Rattle.std.proofs.Common.{◌≡◌, ◌≤◌, ◌+◌, ◌-◌, ◌++◌, ℕ, List, [], ◌∷◌, Vec, Ok, Err, length, drop, take, get_or, map, refl, subst, arith, append_assoc}
use Rattle.std.proofs.lemmas.List.{take_all}
use Rattle.std.specs.declared.alloc.Global.{Global}
use Rattle.model_line.specs.declared.line.Line.{Line}
use Rattle.judge_choose.specs.declared.setting.Setting.{Setting}
use Rattle.call_choose.specs.Asked.{word_asked, words_asked}
use Rattle.call_choose.specs.Rows.{AreRows, Row}
use Rattle.call_choose.specs.declared.fault.ChooseFault.{ChooseFault}
use Rattle.call_choose.specs.declared.named.Named.{Named}

-- the bytes of words
abbrev pub bytes_of : List (Vec ℕ Global) → List (List ℕ)
bytes_of words = map (λ word. word.items) words

-- the words behind the first, as the code has them
abbrev pub rest_of : List (Vec ℕ Global) → List (Vec ℕ Global)
rest_of words = take (length words - 1) (drop 1 words)

rest_is : (w : Vec ℕ Global) (words : List (Vec ℕ Global)) → rest_of (w ∷ words) ≡ words
rest_is w words = take_all (length (w ∷ words) - 1) words (omega arith)

module _ (line : Line) (place : ℕ) where
  -- where the first asks for records, a later fault is that of all
  pub later_fault : (words : List (Vec ℕ Global)) (word : Vec ℕ Global) (rows : List Row)
      (why : ChooseFault) → 1 ≤ length words → word ≡ get_or words 0 word
      → word_asked line place word.items ≡ Ok rows
      → words_asked line (place + 1) (bytes_of (rest_of words)) ≡ Err why
      → words_asked line place (bytes_of words) ≡ Err why
  later_fault [] word rows why some is first rest = absurd (omega arith)
  later_fault (w ∷ words) word rows why some is first rest =
      let own = subst (λ (v : Vec ℕ Global). word_asked line place v.items ≡ Ok rows) is first in
      let others = subst (λ (vs : List (Vec ℕ Global)).
      words_asked line (place + 1) (bytes_of vs) ≡ Err why) (rest_is w words) rest in
      rw (own, others) refl

  -- else all ask for the records of the first, and then those of the others
  pub rows_of_all : (words : List (Vec ℕ Global)) (word : Vec ℕ Global) (rows more : List Row)
      → 1 ≤ length words → word ≡ get_or words 0 word
      → word_asked line place word.items ≡ Ok rows
      → words_asked line (place + 1) (bytes_of (rest_of words)) ≡ Ok more
      → words_asked line place (bytes_of words) ≡ Ok (rows ++ more)
  rows_of_all [] word rows more some is first rest = absurd (omega arith)
  rows_of_all (w ∷ words) word rows more some is first rest =
      let own = subst (λ (v : Vec ℕ Global). word_asked line place v.items ≡ Ok rows) is first in
      let others = subst (λ (vs : List (Vec ℕ Global)).
      words_asked line (place + 1) (bytes_of vs) ≡ Ok more) (rest_is w words) rest in
      rw (own, others) refl

-- records behind those of the first word
pub are_joined : (line : Line) (before rows more : List Row) (names : List Named)
    (settings : List Setting) → AreRows line ((before ++ rows) ++ more) names settings
    → AreRows line (before ++ (rows ++ more)) names settings
are_joined line before rows more names settings are =
    subst (λ (all : List Row). AreRows line all names settings) (append_assoc before rows more) are
