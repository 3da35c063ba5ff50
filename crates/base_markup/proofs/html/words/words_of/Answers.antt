use Rattle.std.proofs.Common.{◌≡◌, ℕ, List, IfOk, IsUtf8, subst, sym, ap, ◌∙◌, inl, inr}
use Rattle.std.proofs.lemmas.Bool.{cases_Bool, cond-true, cond-false}
use Rattle.std.proofs.lemmas.Str.{IsUtf8-from_is_utf8, is_utf8-from_IsUtf8}
use Rattle.std.specs.Prelude.{false}
use Rattle.std.specs.Str.{is_utf8}
use Rattle.base_markup.specs.svg.Escape.{escaped}
use Rattle.base_markup.specs.html.Words.{characters_text, words_text}
use Rattle.base_markup.proofs.html.words.words_of.Goals as goal

no_text : (words : List ℕ) → (IsUtf8 words → ⊥) → is_utf8 words ≡ false
no_text words n =
    elim (cases_Bool (is_utf8 words)) [
      | inl t ↦ absurd (n (IsUtf8-from_is_utf8 words t))
      | inr f ↦ f
    ]

by_characters : (words said : List ℕ) → said ≡ words → IsUtf8 words
    → characters_text said ≡ words_text words
unfolding words_text
by_characters words said same utf8 =
    ap characters_text same
    ∙ sym (cond-true (is_utf8 words) (characters_text words) (escaped words)
    (is_utf8-from_IsUtf8 words utf8))

by_bytes : (words : List ℕ) → (IsUtf8 words → ⊥) → escaped words ≡ words_text words
unfolding words_text
by_bytes words not_utf8 =
    sym (cond-false (is_utf8 words) (characters_text words) (escaped words) (no_text words not_utf8))

pub returns-in-Ok : goal.returns-in-Ok
returns-in-Ok c =
    subst (λ (l : List ℕ). IfOk c.characters.result (λ text. text.items ≡ l))
    (by_characters c.args.words.now c.in-Ok.said.now c.in-Ok.ensures.cases.0 c.in-Ok.ensures.cases.1)
    c.characters.ensures

pub returns-in-Err : goal.returns-in-Err
returns-in-Err c =
    subst (λ (l : List ℕ). IfOk c.bytes.result (λ text. text.items ≡ l))
    (by_bytes c.args.words.now c.in-Err.ensures.cases.0) c.bytes.ensures
