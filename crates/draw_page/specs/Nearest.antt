-- Which fault has the least to spare, and where.
use Rattle.std.specs.Prelude.{ℕ, List, [], ◌∷◌, Option, None, Some, option_map, nat_lt, if◌then◌else◌}
use Rattle.draw_page.specs.declared.page.{Fault.Fault, Verdict.Verdict}
use Rattle.draw_page.specs.declared.nearest.Near.{Near}

-- so much is to spare of a fault at a terminal, both by their names
pub record NearEnd : Type 0 where
  pub ticks : ℕ
  pub fault : List ℕ
  pub terminal : List ℕ

-- the one with less to spare, the first where both have the same
abbrev pub nearer_of : Option NearEnd → Option NearEnd → Option NearEnd
nearer_of None second = second
nearer_of (Some a) None = Some a
nearer_of (Some a) (Some b) = if nat_lt b.ticks a.ticks then Some b else Some a

abbrev pub end_of : List ℕ → Verdict → Option NearEnd
end_of fault v =
    option_map (λ ticks. record { ticks = ticks; fault = fault; terminal = v.terminal.items }) v.spare

abbrev pub nearest_end : List ℕ → List Verdict → Option NearEnd
nearest_end fault [] = None
nearest_end fault (v ∷ more) = nearer_of (end_of fault v) (nearest_end fault more)

abbrev pub nearest_of : List Fault → Option NearEnd
nearest_of [] = None
nearest_of (f ∷ more) = nearer_of (nearest_end f.name.items f.verdicts.items) (nearest_of more)

-- the same, as code has it
abbrev pub near_view : Option Near → Option NearEnd
near_view near =
    option_map (λ n. record { ticks = n.ticks; fault = n.fault.now; terminal = n.terminal.now }) near
