use Rattle.std.proofs.Common.{◌≡◌, ◌++◌, ◌∷◌, [], sym, ◌∙◌, subst, arith}
use Rattle.std.specs.Prelude.{IfOk}
use Rattle.model_logic.specs.{Names.Names, Permissive.permission, Permissive.permissive_key}
use Rattle.model_logic.specs.Logic.{key_by, pilot_by, key_tree}
use Rattle.model_plain.specs.Formulas.{part_at}
use Rattle.model_plain.specs.Parts.{StandsOver, local_trees, weak_trees, ahead, wanted_over}
use Rattle.model_plain.specs.Parts.{weak_key_over, weak_pilot_over}
use Rattle.model_plain.proofs.Counts.{ahead_few, permission_few, wanted_few, weak_key_few}
use Rattle.model_plain.proofs.Counts.{weak_pilot_few}
use Rattle.model_plain.proofs.ProgramLaws.{stands_over, names_from}
use Rattle.model_plain.proofs.WeakLaws.{weak_key_is, weak_pilot_is, names_ahead, names_wanted}
use Rattle.model_plain.proofs.WeakLaws.{names_permission}
use Rattle.model_plain.proofs.logic.weak_program.Goals as goal

pub returns : goal.returns
unfolding key_tree
returns c =
    let line = c.args.line.now in
    let k = c.args.k in
    let p = permission line k in
    let w = wanted_over line k p in
    let weak = c.requires.weak in
    let six = local_trees line k in
    let seven = six ++ ahead line k ∷ [] in
    let eight = seven ++ p ∷ [] in
    let nine = weak_trees line k in
    let names : Names line (permissive_key line k p) =
    subst (Names line) c.requires.key (c.trees_name_the_line.ensures.keys line k c.requires.exists) in
    let key_is : weak_key_over line k (ahead line k) w ≡ key_by line.scheme line k =
    sym (c.requires.key ∙ weak_key_is line k p weak) in
    let pilot_is : weak_pilot_over line k p w ≡ pilot_by line.scheme line k =
    sym (c.requires.pilot ∙ weak_pilot_is line k p weak) in
    c.program.ensures nine 103 7 14 (omega arith)
    (c.with_part-parts.ensures line eight w 93 10
    (c.with_part-with_permission.ensures line seven p 20 73
    (c.with_part-with_ahead.ensures line six (ahead line k) 13 7 c.local_parts.ensures
    (stands_over (λ parts. ahead line k) 7 c.ahead.result c.ahead.ensures (ahead_few line k) six)
    (names_from line six (ahead line k) c.ahead.result (c.ahead.ensures six)
    (names_ahead line k p weak names)))
    (stands_over (λ parts. p) 73 c.permission.result c.permission.ensures (permission_few line k)
    seven)
    (names_from line seven p c.permission.result (c.permission.ensures seven)
    (names_permission line k p weak names)))
    (stands_over (λ parts. wanted_over line k (part_at parts 7)) 10 c.wanted.result c.wanted.ensures
    (wanted_few line k) eight)
    (names_from line eight w c.wanted.result (c.wanted.ensures eight)
    (names_wanted line k p weak names)))
    (subst (λ t. IfOk c.weak_key-key.result (StandsOver nine t 7)) key_is
    (stands_over (λ parts. weak_key_over line k (part_at parts 6) (part_at parts 8)) 7
    c.weak_key-key.result c.weak_key-key.ensures (weak_key_few line k) nine))
    (subst (λ t. IfOk c.weak_pilot.result (StandsOver nine t 14)) pilot_is
    (stands_over (λ parts. weak_pilot_over line k (part_at parts 7) (part_at parts 8)) 14
    c.weak_pilot.result c.weak_pilot.ensures (weak_pilot_few line k) nine))
