-- A certificate is its head, the parts of its scripts, and its end.
use Rattle.std.proofs.Common.{◌≡◌, ℕ, List, [], ◌∷◌, ◌++◌, length, map, refl, sym, ◌∙◌, ap, arith}
use Rattle.std.proofs.Common.{append_assoc, length-append}
use Rattle.std.proofs.lemmas.List.{length-map, append-nil}
use Rattle.std.proofs.lemmas.List.Elements.{All-head, All-tail}
use Rattle.std.specs.List.{All, flat_map}
use Rattle.model_line.specs.{declared.line.Line.Line, declared.script.Script.Script}
use Rattle.cert_claims.specs.text.Grammar.{Place, fixed, key_of, verdict_of, Claims, HasOneEach, Said}
use Rattle.cert_claims.specs.text.Grammar.{says_nothing, says_key, says_verdict, end_text, head_text}
use Rattle.cert_claims.specs.text.Grammar.{part_places, part_said, terminal_names}
use Rattle.cert_claims.specs.text.Text.{fed, lines_text, part_text, parts_text, certificate_text}
use Rattle.cert_claims.specs.text.NameLaws.{names_count}
use Rattle.cert_claims.proofs.text_lemmas.TextLaws.{lines_append}

-- a script's part has as many places as it says something
places_count : (line : Line) (script : Script) (claims : Claims) → HasOneEach line claims
    → length (part_places line script) ≡ length (part_said claims)
places_count line script claims each =
    let names : List (List ℕ) = terminal_names line in
    omega (
      arith,
      each.keys,
      each.verdicts,
      names_count line,
      length-append (map key_of names) (map verdict_of names),
      length-map names key_of,
      length-map names verdict_of,
      length-append (map says_key claims.keys) (map says_verdict claims.verdicts),
      length-map claims.keys says_key,
      length-map claims.verdicts says_verdict,
    )

-- the parts, and then a last line
parts_then : (line : Line) (scripts : List Script) (claims : List Claims) (last : List Place)
    (said : List Said) → length claims ≡ length scripts → All (HasOneEach line) claims
    → lines_text (flat_map (part_places line) scripts ++ last) (flat_map part_said claims ++ said)
    ≡ parts_text line scripts claims ++ lines_text last said
parts_then line [] [] last said long each = refl
parts_then line [] (c ∷ claims) last said long each = absurd (omega arith)
parts_then line (script ∷ scripts) [] last said long each = absurd (omega arith)
parts_then line (script ∷ scripts) (c ∷ claims) last said long each =
    let places : List Place = flat_map (part_places line) scripts ++ last in
    let more : List Said = flat_map part_said claims ++ said in
    ap (λ (l : List Place). lines_text l (flat_map part_said (c ∷ claims) ++ said))
    (append_assoc (part_places line script) (flat_map (part_places line) scripts) last)
    ∙ ap (λ (l : List Said). lines_text (part_places line script ++ places) l)
    (append_assoc (part_said c) (flat_map part_said claims) said)
    ∙ lines_append (part_places line script) (part_said c) places more
    (places_count line script c (All-head (HasOneEach line) c claims each))
    ∙ ap (λ (l : List ℕ). part_text line script c ++ l)
    (parts_then line scripts claims last said (omega arith)
    (All-tail (HasOneEach line) c claims each))
    ∙ sym (append_assoc (part_text line script c) (parts_text line scripts claims)
    (lines_text last said))

pub certificate_parts : (line : Line) (scripts : List Script) (claims : List Claims)
    → length claims ≡ length scripts → All (HasOneEach line) claims
    → certificate_text line scripts claims
    ≡ fed head_text ++ (parts_text line scripts claims ++ fed end_text)
certificate_parts line scripts claims long each =
    ap (λ (l : List ℕ). fed head_text ++ l)
    (parts_then line scripts claims (fixed end_text ∷ []) (says_nothing ∷ []) long each
    ∙ ap (λ (l : List ℕ). parts_text line scripts claims ++ l) (append-nil (fed end_text)))
