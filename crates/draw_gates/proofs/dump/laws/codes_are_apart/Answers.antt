use Rattle.std.proofs.Common.{◌≡◌, ◌+◌, ◌/◌, ◌%◌, [], ◌∷◌, arith}
use Rattle.std.proofs.lemmas.List.Elements.{All-nil, All-cons}
use Rattle.draw_gates.specs.{dump.Variables.code_of, dump.Codes.IsPrintable}
use Rattle.draw_gates.proofs.dump.laws.codes_are_apart.Goals as goal

pub returns-clause-printable : goal.returns-clause-printable
unfolding code_of
returns-clause-printable c i lt =
    All-cons IsPrintable (33 + i / 94) ((33 + i % 94) ∷ []) (omega arith, omega arith)
    (All-cons IsPrintable (33 + i % 94) [] (omega arith, omega arith) (All-nil IsPrintable))

pub returns-clause-apart : goal.returns-clause-apart
unfolding code_of
returns-clause-apart c i j same =
    let row : 33 + i / 94 ≡ 33 + j / 94 = cc in
    let column : 33 + i % 94 ≡ 33 + j % 94 = cc in
    omega arith
