-- What a certificate says can be written.
use Rattle.std.proofs.Common.{◌≡◌, ℕ, List, [], ◌∷◌, ◌++◌, length, map, subst, arith, append_assoc}
use Rattle.std.proofs.Common.{sym, ◌∙◌}
use Rattle.std.proofs.lemmas.List.Elements.{All-head, All-tail, All-nil, All-cons}
use Rattle.std.specs.List.{All, flat_map}
use Rattle.run_signal.specs.declared.tern.Tern.{Tern}
use Rattle.model_line.specs.{declared.line.Line.Line, declared.script.Script.Script}
use Rattle.base_text.specs.lines.Lines.{Lines}
use Rattle.cert_claims.specs.text.Grammar.{Place, fixed, key_of, verdict_of, Stands, opens_none, Said}
use Rattle.cert_claims.specs.text.Grammar.{says_nothing, says_key, says_verdict, Claims, Verdict}
use Rattle.cert_claims.specs.text.Grammar.{HasNumbers, HasOneEach, IsCertificate, terminal_names}
use Rattle.cert_claims.specs.text.Grammar.{part_places, part_said, end_text}
use Rattle.cert_claims.specs.text.Text.{CanBeWritten}
use Rattle.cert_claims.specs.text.NameLaws.{names_count}

-- lines of a certificate, of which these are left
abbrev Stood : Line → List Place → List Said → List ℕ → List Place → List ℕ → Type 0
Stood line places said text left rest = Lines (Stands line) opens_none places said text left rest

keys_stood : (line : Line) (names : List (List ℕ)) (keys : List (List Tern)) (later : List Place)
    (more : List Said) (text : List ℕ) (left : List Place) (rest : List ℕ)
    → length names ≡ length keys
    → Stood line (map key_of names ++ later) (map says_key keys ++ more) text left rest
    → All (λ wave. length wave ≡ line.horizon) keys
    × ((at : List ℕ) × Stood line later more at left rest)
keys_stood line [] [] later more text left rest long g =
    (All-nil (λ (wave : List Tern). length wave ≡ line.horizon), (text, g))
keys_stood line [] (w ∷ keys) later more text left rest long g = absurd (omega arith)
keys_stood line (name ∷ names) [] later more text left rest long g = absurd (omega arith)
keys_stood line (name ∷ names) (w ∷ keys) later more text left rest long g =
    let r = keys_stood line names keys later more g.1.0 left rest (omega arith) g.1.1.1.1 in
    (All-cons (λ (wave : List Tern). length wave ≡ line.horizon) w keys g.1.1.1.0.0 r.0, r.1)

verdicts_stood : (line : Line) (names : List (List ℕ)) (verdicts : List Verdict)
    (later : List Place) (more : List Said) (text : List ℕ) (left : List Place) (rest : List ℕ)
    → length names ≡ length verdicts
    → Stood line (map verdict_of names ++ later) (map says_verdict verdicts ++ more) text left rest
    → All (HasNumbers line) verdicts × ((at : List ℕ) × Stood line later more at left rest)
verdicts_stood line [] [] later more text left rest long g =
    (All-nil (HasNumbers line), (text, g))
verdicts_stood line [] (v ∷ verdicts) later more text left rest long g = absurd (omega arith)
verdicts_stood line (name ∷ names) [] later more text left rest long g = absurd (omega arith)
verdicts_stood line (name ∷ names) (v ∷ verdicts) later more text left rest long g =
    let r = verdicts_stood line names verdicts later more g.1.0 left rest (omega arith) g.1.1.1.1 in
    (All-cons (HasNumbers line) v verdicts g.1.1.1.0.0 r.0, r.1)

-- three stretches, taken together otherwise
regroup : (line : Line) (a b c : List Place) (m n o : List Said) (text : List ℕ)
    (left : List Place) (rest : List ℕ)
    → Stood line ((a ++ b) ++ c) ((m ++ n) ++ o) text left rest
    → Stood line (a ++ (b ++ c)) (m ++ (n ++ o)) text left rest
regroup line a b c m n o text left rest g =
    let P : List Place → Type 0 = λ l. Stood line l ((m ++ n) ++ o) text left rest in
    let Q : List Said → Type 0 = λ l. Stood line (a ++ (b ++ c)) l text left rest in
    subst Q (append_assoc m n o) (subst P (append_assoc a b c) g)

part_stood : (line : Line) (script : Script) (claims : Claims) (later : List Place)
    (more : List Said) (text : List ℕ) (left : List Place) (rest : List ℕ)
    → HasOneEach line claims
    → Stood line (part_places line script ++ later) (part_said claims ++ more) text left rest
    → CanBeWritten line claims × ((at : List ℕ) × Stood line later more at left rest)
part_stood line script claims later more text left rest each g =
    let names : List (List ℕ) = terminal_names line in
    let k = keys_stood line names claims.keys (map verdict_of names ++ later)
    (map says_verdict claims.verdicts ++ more) g.1.0 left rest
    (names_count line ∙ sym each.keys)
    (regroup line (map key_of names) (map verdict_of names) later (map says_key claims.keys)
    (map says_verdict claims.verdicts) more g.1.0 left rest g.1.1.1.1) in
    let v = verdicts_stood line names claims.verdicts later more k.1.0 left rest
    (names_count line ∙ sym each.verdicts) k.1.1 in
    (record { each = each; waves = k.0; numbers = v.0 }, v.1)

parts_stood : (line : Line) (scripts : List Script) (claims : List Claims) (later : List Place)
    (more : List Said) (text : List ℕ) (left : List Place) (rest : List ℕ)
    → length claims ≡ length scripts → All (HasOneEach line) claims
    → Stood line (flat_map (part_places line) scripts ++ later)
    (flat_map part_said claims ++ more) text left rest
    → All (CanBeWritten line) claims
parts_stood line [] [] later more text left rest long each g = All-nil (CanBeWritten line)
parts_stood line [] (c ∷ claims) later more text left rest long each g = absurd (omega arith)
parts_stood line (script ∷ scripts) [] later more text left rest long each g =
    absurd (omega arith)
parts_stood line (script ∷ scripts) (c ∷ claims) later more text left rest long each g =
    let p = part_stood line script c (flat_map (part_places line) scripts ++ later)
    (flat_map part_said claims ++ more) text left rest
    (All-head (HasOneEach line) c claims each)
    (regroup line (part_places line script) (flat_map (part_places line) scripts) later
    (part_said c) (flat_map part_said claims) more text left rest g) in
    All-cons (CanBeWritten line) c claims p.0
    (parts_stood line scripts claims later more p.1.0 left rest (omega arith)
    (All-tail (HasOneEach line) c claims each) p.1.1)

pub can_be_written : (line : Line) (scripts : List Script) (claims : List Claims)
    (bytes : List ℕ) → IsCertificate line scripts claims bytes → All (CanBeWritten line) claims
can_be_written line scripts claims bytes is =
    parts_stood line scripts claims (fixed end_text ∷ []) (says_nothing ∷ []) is.lines.1.0 [] []
    is.many is.each is.lines.1.1.1.1
