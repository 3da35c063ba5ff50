use Rattle.std.proofs.Common.{◌+◌, ◌*◌}
use Rattle.model_plain.specs.Formulas.{operations, own_tree}
use Rattle.draw_gates.proofs.roles.stands.+stands.Given as goal

abbrev pub decreases-stands_for : goal.decreases-stands_for
decreases-stands_for l = 2 * operations (own_tree l.formula.now)

abbrev pub decreases-one_stands : goal.decreases-one_stands
decreases-one_stands l = 1 + 2 * operations (own_tree l.x.now)

abbrev pub decreases-both_stand : goal.decreases-both_stand
decreases-both_stand l =
    1 + 2 * operations (own_tree l.x.now) + 2 * operations (own_tree l.y.now)
