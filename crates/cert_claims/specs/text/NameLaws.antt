-- Laws of names: how many terminals have one, and that it has no line feed.
use Rattle.std.proofs.Common.{◌≡◌, ◌&&◌, ℕ, true, not, List, [], ◌∷◌, length, refl, ap, ne_eqb, inl}
use Rattle.std.proofs.Common.{inr}
use Rattle.std.proofs.lemmas.{Bool.cases_eq, List.length-map}
use Rattle.std.specs.Prelude.{nat_le}
use Rattle.std.specs.List.{list_all}
use Rattle.model_line.specs.PlainNames.{is_plain_byte, is_plain_name}
use Rattle.model_line.specs.{declared.line.Line.Line, Parameters.terminal_count}
use Rattle.base_text.specs.{lines.Lines.is_no_feed, lines.Lines.is_one_line, lines.LineLaws.both_true}
use Rattle.base_text.specs.lines.NamedLaws.{whole_more}
use Rattle.cert_claims.specs.text.Grammar.{terminal_names}

pub names_count : (line : Line) → length (terminal_names line) ≡ terminal_count line
names_count line = length-map line.terminals.items (λ terminal. terminal.name)

plain_is_no_feed : (byte : ℕ) → is_plain_byte byte ≡ true → is_no_feed byte ≡ true
plain_is_no_feed byte plain =
    elim (cases_eq byte 10) [
      | inl same ↦ absurd (let e : is_plain_byte 10 ≡ true = rw same at plain in cc)
      | inr other ↦ ap not (ne_eqb byte 10 other)
    ]

plain_whole : (bytes : List ℕ) → list_all is_plain_byte bytes ≡ true → is_one_line bytes ≡ true
plain_whole [] all = refl
plain_whole (byte ∷ bytes) all =
    let both = both_true (is_plain_byte byte) (list_all is_plain_byte bytes) all in
    whole_more byte bytes (plain_is_no_feed byte both.0) (plain_whole bytes both.1)

pub name_whole : (name : List ℕ) → is_plain_name name ≡ true → is_one_line name ≡ true
name_whole name plain =
    let long = both_true (nat_le 1 (length name))
    (nat_le (length name) 16 && list_all is_plain_byte name) plain in
    plain_whole name (both_true (nat_le (length name) 16) (list_all is_plain_byte name) long.1).1
