-- What is of one place or channel.
use Rattle.std.proofs.Common.{◌≡◌, true, arith}
use Rattle.model_line.specs.declared.script.{What.What}
use Rattle.model_line.specs.declared.script.What.TheVariants as what
use Rattle.model_line.specs.contracts.script.WhatPartialEq.TheImpl.{eq-value as what_eq}

pub same_what : (a b : What) → what_eq.it a b ≡ true → a ≡ b
same_what (what.Element p) (what.Element q) e = grind (arith, e)
same_what (what.Element p) (what.Loss d) e = grind (arith, e)
same_what (what.Loss c) (what.Element q) e = grind (arith, e)
same_what (what.Loss c) (what.Loss d) e = grind (arith, e)
