-- A line says one thing, and what it says has one text.
use Rattle.std.proofs.Common.{◌≡◌, ◌≤◌, ℕ, List, length, drop, refl, sym, ◌∙◌, ap, arith}
use Rattle.std.specs.Prelude.{codes}
use Rattle.run_signal.specs.declared.tern.Tern.{Tern}
use Rattle.model_line.specs.declared.line.Line.{Line}
use Rattle.run_waves.specs.waves.Text.{runs_text}
use Rattle.cert_claims.specs.text.Grammar.{Place, fixed, key_of, verdict_of, Stands, HasNumbers, Said}
use Rattle.cert_claims.specs.text.Grammar.{says_nothing, says_key, says_verdict, verdict_words, Verdict}
use Rattle.cert_claims.specs.text.Grammar.{yes, no, undecided}
use Rattle.cert_claims.specs.text.NumberLaws.{numbers_tell}
use Rattle.base_text.specs.lines.NamedLaws.{one_text, first_same}

-- a text is that of one wave
abbrev pub WavesAreTold : Type 0
WavesAreTold = (wave other : List Tern) → length wave ≤ 4000 → length other ≤ 4000
    → runs_text wave ≡ runs_text other → wave ≡ other

one_verdict : (line : Line) (v u : Verdict) → HasNumbers line v → HasNumbers line u
    → verdict_words v ≡ verdict_words u → v ≡ u
one_verdict line yes yes a b same = refl
one_verdict line yes (no ns) a b same =
    absurd (let e : ◌≡◌ {A = ℕ} 121 110 = first_same _ _ same in omega arith)
one_verdict line yes undecided a b same =
    absurd (let e : ◌≡◌ {A = ℕ} 121 117 = first_same _ _ same in omega arith)
one_verdict line (no ns) yes a b same =
    absurd (let e : ◌≡◌ {A = ℕ} 110 121 = first_same _ _ same in omega arith)
one_verdict line (no ns) (no ms) a b same =
    ap no (numbers_tell ns ms a.small b.small (ap (drop 2) same))
one_verdict line (no ns) undecided a b same =
    absurd (let e : ◌≡◌ {A = ℕ} 110 117 = first_same _ _ same in omega arith)
one_verdict line undecided yes a b same =
    absurd (let e : ◌≡◌ {A = ℕ} 117 121 = first_same _ _ same in omega arith)
one_verdict line undecided (no ns) a b same =
    absurd (let e : ◌≡◌ {A = ℕ} 117 110 = first_same _ _ same in omega arith)
one_verdict line undecided undecided a b same = refl

pub stands_once : WavesAreTold → (line : Line) (place : Place) (m n : Said) (text : List ℕ)
    → Stands line place m text → Stands line place n text → m ≡ n
stands_once told line (fixed t) m n text a b = a.0 ∙ sym b.0
stands_once told line (key_of name) says_nothing n text a b = absurd a
stands_once told line (key_of name) (says_key w) says_nothing text a b = absurd b
stands_once told line (key_of name) (says_key w) (says_key u) text a b =
    let top = line.horizon_in_range.1 in
    ap says_key (told w u (omega (arith, a.0)) (omega (arith, b.0))
    (one_text (codes "key") name (runs_text w) (runs_text u) (sym a.1 ∙ b.1)))
stands_once told line (key_of name) (says_key w) (says_verdict v) text a b = absurd b
stands_once told line (key_of name) (says_verdict v) n text a b = absurd a
stands_once told line (verdict_of name) says_nothing n text a b = absurd a
stands_once told line (verdict_of name) (says_key w) n text a b = absurd a
stands_once told line (verdict_of name) (says_verdict v) says_nothing text a b = absurd b
stands_once told line (verdict_of name) (says_verdict v) (says_key w) text a b = absurd b
stands_once told line (verdict_of name) (says_verdict v) (says_verdict u) text a b =
    ap says_verdict (one_verdict line v u a.0 b.0
    (one_text (codes "verdict") name (verdict_words v) (verdict_words u) (sym a.1 ∙ b.1)))

pub stands_as : (line : Line) (place : Place) (m : Said) (text other : List ℕ)
    → Stands line place m text → Stands line place m other → text ≡ other
stands_as line (fixed t) m text other a b = a.1 ∙ sym b.1
stands_as line (key_of name) says_nothing text other a b = absurd a
stands_as line (key_of name) (says_key w) text other a b = a.1 ∙ sym b.1
stands_as line (key_of name) (says_verdict v) text other a b = absurd a
stands_as line (verdict_of name) says_nothing text other a b = absurd a
stands_as line (verdict_of name) (says_key w) text other a b = absurd a
stands_as line (verdict_of name) (says_verdict v) text other a b = a.1 ∙ sym b.1
