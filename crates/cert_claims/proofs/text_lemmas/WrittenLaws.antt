-- The text of claims is a certificate that claims them.
use Rattle.std.proofs.Common.{◌≡◌, ◌≤◌, ℕ, true, List, [], ◌∷◌, ◌++◌, length, map, refl, sym, ◌∙◌}
use Rattle.std.proofs.Common.{arith, append_assoc}
use Rattle.std.proofs.lemmas.List.Elements.{All-head, All-tail, All-nil, All-cons, All-weaker}
use Rattle.std.specs.Prelude.{codes}
use Rattle.std.specs.List.{All, flat_map, list_all}
use Rattle.run_signal.specs.declared.tern.Tern.{Tern}
use Rattle.model_line.specs.{declared.line.Line.Line, declared.line.Terminal.Terminal}
use Rattle.model_line.specs.{declared.script.Script.Script, Fits.Fits, PlainNames.is_plain_name}
use Rattle.run_waves.specs.waves.Text.{runs_text}
use Rattle.base_text.specs.lines.Grammar.{text_places, text_said}
use Rattle.base_text.specs.lines.Lines.{Lines, is_one_line}
use Rattle.base_text.specs.{lines.LineLaws.both_true, lines.NamedLaws.named_whole, lines.NamedLaws.whole_append}
use Rattle.cert_claims.specs.text.Grammar.{Place, fixed, key_of, verdict_of, Stands, opens_none, Said}
use Rattle.cert_claims.specs.text.Grammar.{says_nothing, says_key, says_verdict, Claims, Verdict, yes}
use Rattle.cert_claims.specs.text.Grammar.{no, undecided, HasNumbers, verdict_words, part_places}
use Rattle.cert_claims.specs.text.Grammar.{part_said, script_parts, head_text}
use Rattle.cert_claims.specs.text.Grammar.{terminal_names, HasOneEach, IsCertificate, end_text}
use Rattle.cert_claims.specs.text.Text.{line_text, lines_text, CanBeWritten, certificate_text}
use Rattle.cert_claims.specs.{text.NameLaws.names_count, text.NameLaws.name_whole, text.NumberLaws.numbers_whole}

-- the text of a wave has no line feed
abbrev pub WavesAreLines : Type 0
WavesAreLines = (wave : List Tern) → length wave ≤ 4000 → is_one_line (runs_text wave) ≡ true

-- each place can say what is said there, in a line with no line feed
abbrev AllSay : Line → List Place → List Said → Type 0
AllSay line [] [] = Unit {0}
AllSay line [] (m ∷ said) = ⊥
AllSay line (p ∷ places) [] = ⊥
AllSay line (p ∷ places) (m ∷ said) =
    Stands line p m (line_text p m) × ((is_one_line (line_text p m) ≡ true)
    × AllSay line places said)

lines_stand : (line : Line) (places : List Place) (said : List Said) → AllSay line places said
    → Lines (Stands line) opens_none places said (lines_text places said) [] []
lines_stand line [] [] say = (refl, refl)
lines_stand line [] (m ∷ said) say = absurd say
lines_stand line (p ∷ places) [] say = absurd say
lines_stand line (p ∷ places) (m ∷ said) say = (
  line_text p m,
  (
    lines_text places said,
    (
      record {
        whole = say.1.0;
        is = append_assoc (line_text p m) (10 ∷ []) (lines_text places said);
      },
      (say.0, lines_stand line places said say.1.1),
    ),
  ),
)

say_append : (line : Line) (a : List Place) (m : List Said) (b : List Place) (n : List Said)
    → AllSay line a m → AllSay line b n → AllSay line (a ++ b) (m ++ n)
say_append line [] [] b n x y = y
say_append line [] (s ∷ m) b n x y = absurd x
say_append line (p ∷ a) [] b n x y = absurd x
say_append line (p ∷ a) (s ∷ m) b n x y = (x.0, (x.1.0, say_append line a m b n x.1.1 y))

-- ---- the lines of a script

keys_say : WavesAreLines → (line : Line) (names : List (List ℕ)) (keys : List (List Tern))
    → length names ≡ length keys → All (λ name. is_one_line name ≡ true) names
    → All (λ wave. length wave ≡ line.horizon) keys
    → AllSay line (map key_of names) (map says_key keys)
keys_say lines line [] [] long plain waves = tt
keys_say lines line [] (w ∷ keys) long plain waves = absurd (omega arith)
keys_say lines line (name ∷ names) [] long plain waves = absurd (omega arith)
keys_say lines line (name ∷ names) (w ∷ keys) long plain waves =
    let P : List ℕ → Type 0 = λ n. is_one_line n ≡ true in
    let Q : List Tern → Type 0 = λ v. length v ≡ line.horizon in
    let here : length w ≡ line.horizon = All-head Q w keys waves in
    let top = line.horizon_in_range.1 in (
      (here, refl),
      (
        named_whole (codes "key") name (runs_text w) refl (All-head P name names plain)
            (lines w (omega arith)),
        keys_say lines line names keys (omega arith) (All-tail P name names plain) (All-tail Q w keys waves),
      ),
    )

words_whole : (line : Line) (v : Verdict) → HasNumbers line v → is_one_line (verdict_words v) ≡ true
words_whole line yes has = refl
words_whole line (no numbers) has = numbers_whole numbers has.small
words_whole line undecided has = refl

verdicts_say : (line : Line) (names : List (List ℕ)) (verdicts : List Verdict)
    → length names ≡ length verdicts → All (λ name. is_one_line name ≡ true) names
    → All (HasNumbers line) verdicts
    → AllSay line (map verdict_of names) (map says_verdict verdicts)
verdicts_say line [] [] long plain has = tt
verdicts_say line [] (v ∷ verdicts) long plain has = absurd (omega arith)
verdicts_say line (name ∷ names) [] long plain has = absurd (omega arith)
verdicts_say line (name ∷ names) (v ∷ verdicts) long plain has =
    let P : List ℕ → Type 0 = λ n. is_one_line n ≡ true in
    let here = All-head (HasNumbers line) v verdicts has in (
      (here, refl),
      (
        named_whole (codes "verdict") name (verdict_words v) refl
            (All-head P name names plain) (words_whole line v here),
        verdicts_say line names verdicts (omega arith) (All-tail P name names plain)
            (All-tail (HasNumbers line) v verdicts has),
      ),
    )

-- ---- names

plain_names : (terminals : List Terminal) → list_all (λ t. is_plain_name t.name) terminals ≡ true
    → All (λ name. is_one_line name ≡ true) (map (λ t. t.name) terminals)
plain_names [] all = All-nil (λ (name : List ℕ). is_one_line name ≡ true)
plain_names (t ∷ terminals) all =
    let both = both_true (is_plain_name t.name) (list_all (λ x. is_plain_name x.name) terminals)
    all in
    All-cons (λ (name : List ℕ). is_one_line name ≡ true) t.name (map (λ x. x.name) terminals)
    (name_whole t.name both.0) (plain_names terminals both.1)

part_says : WavesAreLines → (line : Line) (script : Script) (claims : Claims) → Fits line script
    → CanBeWritten line claims → AllSay line (part_places line script) (part_said claims)
part_says lines line script claims fits can =
    let names : List (List ℕ) = terminal_names line in
    let plain : All (λ name. is_one_line name ≡ true) names =
    plain_names line.terminals.items line.plain_names in (
      (refl, refl),
      (
        whole_append (codes "script ") script.name refl
            (name_whole script.name fits.plain_name),
        say_append line (map key_of names) (map says_key claims.keys) (map verdict_of names)
            (map says_verdict claims.verdicts)
            (keys_say lines line names claims.keys (names_count line ∙ sym can.each.keys) plain can.waves)
            (verdicts_say line names claims.verdicts (names_count line ∙ sym can.each.verdicts) plain
            can.numbers),
      ),
    )

parts_say : WavesAreLines → (line : Line) (scripts : List Script) (claims : List Claims)
    → length claims ≡ length scripts → All (Fits line) scripts → All (CanBeWritten line) claims
    → AllSay line (flat_map (part_places line) scripts) (flat_map part_said claims)
parts_say lines line [] [] long fits can = tt
parts_say lines line [] (c ∷ claims) long fits can = absurd (omega arith)
parts_say lines line (script ∷ scripts) [] long fits can = absurd (omega arith)
parts_say lines line (script ∷ scripts) (c ∷ claims) long fits can =
    say_append line (part_places line script) (part_said c) (flat_map (part_places line) scripts)
    (flat_map part_said claims)
    (part_says lines line script c (All-head (Fits line) script scripts fits)
    (All-head (CanBeWritten line) c claims can))
    (parts_say lines line scripts claims (omega arith) (All-tail (Fits line) script scripts fits)
    (All-tail (CanBeWritten line) c claims can))

pub text_is_certificate : WavesAreLines → (line : Line) (scripts : List Script) (claims : List Claims)
    → length claims ≡ length scripts → All (Fits line) scripts → All (CanBeWritten line) claims
    → IsCertificate line scripts claims (certificate_text line scripts claims)
text_is_certificate lines line scripts claims long fits can = record {
  many = long;
  each = All-weaker (CanBeWritten line) (HasOneEach line) (λ c is. is.each) claims can;
  lines = lines_stand line (text_places (script_parts line) head_text scripts end_text)
      (text_said (script_parts line) claims) (
        (refl, refl),
        (
          refl,
          say_append line (flat_map (part_places line) scripts)
              (flat_map part_said claims) (fixed end_text ∷ []) (says_nothing ∷ [])
              (parts_say lines line scripts claims long fits can) ((refl, refl), (refl, tt)),
        ),
      );
}
