-- The text of a certificate: the lines that one of a line's scripts has, and what each can say.
use Rattle.std.specs.Prelude.{◌≡◌, ◌<◌, ◌^◌, ◌++◌, ℕ, List, [], ◌∷◌, length, map, codes}
use Rattle.std.specs.Prelude.{refl}
use Rattle.std.specs.List.{All}
use Rattle.run_signal.specs.declared.tern.Tern.{Tern}
use Rattle.model_line.specs.Parameters.{terminal_count, param_count}
use Rattle.model_line.specs.{declared.line.Line.Line, declared.script.Script.Script}
use Rattle.run_waves.specs.waves.Text.{runs_text}
use Rattle.base_text.specs.lines.Named.{named}
use Rattle.base_text.specs.lines.SpacedNumbers.{numbers_text}
use Rattle.base_text.specs.lines.Grammar.{Grammar, IsFixed, Parts, IsText, LeavesText}
use Rattle.cert_claims.specs.declared.text.claim.Claim.TheVariants.{Yes, No, Undecided}
use Rattle.cert_claims.specs.{declared.text.claim.Claim.Claim, declared.text.claim.ScriptClaims.ScriptClaims}

-- ---- what a certificate says

-- a verdict as it is written: a `no` has numbers
pub data Verdict : Type 0 where
  yes : Verdict
  no : List ℕ → Verdict
  undecided : Verdict

-- what is said of a script: a key wave and a verdict for each terminal
pub record Claims : Type 0 where
  pub keys : List (List Tern)
  pub verdicts : List Verdict

-- ---- the lines of a certificate

-- where a line is expected: one with this text, the key line of a terminal with this name, or its
-- verdict line
pub data Place : Type 0 where
  fixed : List ℕ → Place
  key_of : List ℕ → Place
  verdict_of : List ℕ → Place

-- `pilot-cert 1`
abbrev pub head_text : List ℕ
head_text = codes "pilot-cert 1"

-- `script NAME`
abbrev pub script_text : List ℕ → List ℕ
script_text name = codes "script " ++ name

-- `end`
abbrev pub end_text : List ℕ
end_text = codes "end"

-- the terminals' names, in line order
abbrev pub terminal_names : Line → List (List ℕ)
terminal_names line = map (λ terminal. terminal.name) line.terminals.items

-- a key line for each terminal, and then a verdict line for each
abbrev pub claim_places : Line → List Place
claim_places line = map key_of (terminal_names line) ++ map verdict_of (terminal_names line)

-- a script's lines: its own, and those of its claims
abbrev pub part_places : Line → Script → List Place
part_places line script = fixed (script_text script.name) ∷ claim_places line

-- ---- what can stand in a line

-- what a line says: nothing more than that it stands there, a key wave, or a verdict
pub data Said : Type 0 where
  says_nothing : Said
  says_key : List Tern → Said
  says_verdict : Verdict → Said

-- `key NAME RUNS`
abbrev pub key_text : List ℕ → List Tern → List ℕ
key_text name wave = named (codes "key") name (runs_text wave)

-- `no` and its numbers
abbrev pub no_words : List ℕ → List ℕ
no_words numbers = codes "no" ++ numbers_text numbers

-- `yes`, a `no`, or `undecided`
abbrev pub verdict_words : Verdict → List ℕ
verdict_words yes = codes "yes"
verdict_words (no numbers) = no_words numbers
verdict_words undecided = codes "undecided"

-- `verdict NAME` and its words
abbrev pub verdict_text : List ℕ → Verdict → List ℕ
verdict_text name said = named (codes "verdict") name (verdict_words said)

-- numbers of 32 bits, so many
pub record AreNumbers (count : ℕ) (numbers : List ℕ) : Type 0 where
  pub many : length numbers ≡ count
  pub small : All (λ number. number < 2 ^ 32) numbers

-- a `no` has one number for each parameter
abbrev pub HasNumbers : Line → Verdict → Type 0
HasNumbers line yes = Unit {0}
HasNumbers line (no numbers) = AreNumbers (param_count line) numbers
HasNumbers line undecided = Unit {0}

-- it is the key line of a terminal, with a wave of the horizon's length
abbrev pub IsKey : Line → List ℕ → Said → List ℕ → Type 0
IsKey line name says_nothing bytes = ⊥
IsKey line name (says_key w) bytes = (length w ≡ line.horizon) × (bytes ≡ key_text name w)
IsKey line name (says_verdict v) bytes = ⊥

-- it is the verdict line of a terminal
abbrev pub IsVerdict : Line → List ℕ → Said → List ℕ → Type 0
IsVerdict line name says_nothing bytes = ⊥
IsVerdict line name (says_key w) bytes = ⊥
IsVerdict line name (says_verdict v) bytes = HasNumbers line v × (bytes ≡ verdict_text name v)

-- this text can stand at that place, where it says this
abbrev pub Stands : Line → Place → Said → List ℕ → Type 0
Stands line (fixed text) said bytes = IsFixed says_nothing text said bytes
Stands line (key_of name) said bytes = IsKey line name said bytes
Stands line (verdict_of name) said bytes = IsVerdict line name said bytes

-- no line changes what is expected after it
abbrev pub opens_none : Place → Said → List Place
opens_none place said = []

abbrev pub grammar_of : Line → Grammar
grammar_of line = record {
  Place = Place;
  Said = Said;
  stands = Stands line;
  opens = opens_none;
  fixed = fixed;
  nothing = says_nothing;
  there = λ text. (refl, refl);
  alone = λ text line said is. is;
  opens_none = λ text. refl;
}

-- ---- a whole certificate

-- what the lines of its claims say
abbrev pub claims_said : Claims → List Said
claims_said claims = map says_key claims.keys ++ map says_verdict claims.verdicts

-- what its lines say of a script, one after another
abbrev pub part_said : Claims → List Said
part_said claims = says_nothing ∷ claims_said claims

-- one key and one verdict for each terminal
pub record HasOneEach (line : Line) (claims : Claims) : Type 0 where
  pub keys : length claims.keys ≡ terminal_count line
  pub verdicts : length claims.verdicts ≡ terminal_count line

-- what is said of scripts, and where
abbrev pub script_parts : Line → Parts Script Claims
script_parts line = record {
  grammar = grammar_of line;
  places = part_places line;
  IsWhole = HasOneEach line;
  said = part_said;
}

-- the bytes are a certificate of the scripts, which says this
abbrev pub IsCertificate : Line → List Script → List Claims → List ℕ → Type 0
IsCertificate line scripts claims bytes =
    IsText (script_parts line) head_text scripts end_text claims bytes

-- line n, counted from 1, is the first that leaves the grammar
abbrev pub LeavesGrammar : Line → List Script → List ℕ → ℕ → Type 0
LeavesGrammar line scripts bytes n =
    LeavesText (script_parts line) head_text scripts end_text bytes n

-- ---- as the reader answers

abbrev pub verdict_in : Claim → Verdict
verdict_in Yes = yes
verdict_in (No numbers) = no numbers.items
verdict_in Undecided = undecided

abbrev pub claims_in : ScriptClaims → Claims
claims_in claims = record {
  keys = claims.keys.items;
  verdicts = map verdict_in claims.verdicts.items;
}
