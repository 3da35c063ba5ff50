use Rattle.std.proofs.Common.{sym, ◌∙◌}
use Rattle.file_study.proofs.study_lemmas.NewNames.{taken_name, fresh_name}
use Rattle.file_study.proofs.study.faults.new_name.Goals as goal

pub returns-then-is_taken : goal.returns-then-is_taken
returns-then-is_taken c =
    taken_name c.args.path c.args.name.now c.args.before.now
    (rw c.as_bytes.ensures.value at (sym c.is_plain.ensures ∙ c.if-not-is_plain.false))
    (sym c.is_taken.ensures ∙ c.if-is_taken.true)

pub returns : goal.returns
returns c =
    rw (c.plain.ensures, c.as_bytes-2.ensures.value)
    (fresh_name c.args.path c.args.name.now c.args.before.now
    (rw c.as_bytes.ensures.value at (sym c.is_plain.ensures ∙ c.if-not-is_plain.false))
    (sym c.is_taken.ensures ∙ c.if-is_taken.false))
