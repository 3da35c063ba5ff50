-- A certificate has few lines.
use Rattle.std.proofs.Common.{◌≤◌, ◌+◌, ◌*◌, ℕ, List, [], ◌∷◌, length, map, arith, length-append}
use Rattle.std.proofs.lemmas.List.{length-map}
use Rattle.std.specs.List.{flat_map}
use Rattle.base_text.specs.lines.Lines.{Lines}
use Rattle.model_line.specs.{declared.line.Line.Line, declared.script.Script.Script}
use Rattle.cert_claims.specs.text.Grammar.{Place, Said, Stands, opens_none, fixed, key_of, verdict_of}
use Rattle.cert_claims.specs.text.Grammar.{end_text, part_places, terminal_names, LeavesGrammar}
use Rattle.cert_claims.specs.text.NameLaws.{names_count}

-- no more is said than there are places
said_within : (line : Line) (places : List Place) (said : List Said) (text : List ℕ)
    (left : List Place) (rest : List ℕ) → Lines (Stands line) opens_none places said text left rest
    → length said ≤ length places
said_within line places [] text left rest g = omega arith
said_within line [] (m ∷ said) text left rest g = absurd g
said_within line (place ∷ places) (m ∷ said) text left rest g =
    let more : length said ≤ length places =
    said_within line places said g.1.0 left rest g.1.1.1.1 in
    omega arith

parts_few : (line : Line) (scripts : List Script)
    → length (flat_map (part_places line) scripts) ≤ 7 * length scripts
parts_few line [] = omega arith
parts_few line (script ∷ scripts) =
    let names : List (List ℕ) = terminal_names line in
    let more : length (flat_map (part_places line) scripts) ≤ 7 * length scripts =
    parts_few line scripts in
    let three = line.two_or_three.1 in
    omega (
      arith,
      more,
      three,
      names_count line,
      length-append (map key_of names) (map verdict_of names),
      length-map names key_of,
      length-map names verdict_of,
      length-append (part_places line script) (flat_map (part_places line) scripts),
    )

pub leaves_early : (line : Line) (scripts : List Script) (bytes : List ℕ) (n : ℕ)
    → LeavesGrammar line scripts bytes n → n ≤ 7 * length scripts + 3
leaves_early line scripts bytes n is =
    let parts : List Place = flat_map (part_places line) scripts in
    omega (
      arith,
      is.number,
      parts_few line scripts,
      length-append parts (fixed end_text ∷ []),
      said_within line _ is.said bytes is.left is.rest is.before,
    )
