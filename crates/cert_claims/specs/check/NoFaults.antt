-- What is wrong with the numbers of a `no`.
use Rattle.std.specs.Prelude.{ℕ, List}
use Rattle.model_line.specs.{declared.line.Line.Line, declared.script.Script.Script}
use Rattle.cert_claims.specs.declared.check.no.NoFault.{NoFault}
use Rattle.cert_claims.specs.declared.check.no.NoFault.TheVariants.{Outside, Passes}
use Rattle.cert_claims.specs.check.Refutations.{IsFirstOutside, IsMetInside}

-- a number is outside, or the numbers' history meets the obligation of terminal k
abbrev pub IsNoFault : Line → Script → ℕ → List ℕ → NoFault → Type 0
IsNoFault line script k values (Outside i value) = IsFirstOutside line values i value
IsNoFault line script k values (Passes t) = IsMetInside line script k values t
