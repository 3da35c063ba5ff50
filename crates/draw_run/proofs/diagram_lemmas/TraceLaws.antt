-- The rows of a line are of what it has.
use Rattle.std.proofs.Common.{◌≡◌, ◌<◌, ◌++◌, ◌∷◌, [], ℕ, Bool, true, false, List, length, refl, ap, ◌∙◌}
use Rattle.std.specs.Prelude.{◌↔◌, Option, Some, None, IsTrue, IsFalse}
use Rattle.std.specs.List.{flat_map}
use Rattle.net_gates.specs.declared.gate.Gate.{Gate}
use Rattle.run_waves.specs.waves.FirstTick.{first_on}
use Rattle.draw_gates.specs.roles.Lookup.{gate_of, has_role}
use Rattle.model_plain.specs.declared.role.Role.{Role}
use Rattle.model_plain.specs.declared.role.NamedPart.{NamedPart}
use Rattle.model_plain.specs.Roles.{explains, roles_at, roles_of, AreNamedParts}
use Rattle.draw_run.specs.diagram.Traces.{logic_row, logic_of, logic_of_part, logic_at}
use Rattle.std.proofs.lemmas.List.Elements.{All-nil, All-cons, All-append}
use Rattle.std.specs.Prelude.{◌==◌, if◌then◌else◌}
use Rattle.std.specs.List.{All}
use Rattle.model_history.specs.Each.{each_below}
use Rattle.model_history.specs.EachLaws.{All-each_below}
use Rattle.model_line.specs.declared.script.Element.TheVariants.{Z1, Z2, Rv, Uv, Cur}
use Rattle.model_line.specs.Parameters.{terminal_count, channel_count}
use Rattle.model_line.specs.{declared.line.Line.Line, Channels.to_of}
use Rattle.draw_run.specs.declared.diagram.trace.Trace.{Trace}
use Rattle.draw_run.specs.declared.diagram.trace.Trace.TheVariants.{Lost, Logic, Key, Trip}
use Rattle.draw_run.specs.diagram.Traces.{IsTraceOf, loss_at, seen_at, seen_by, traces_at}
use Rattle.draw_run.specs.diagram.Traces.{traces_of}

module _ (line : Line) (gates : List Gate) where
  -- the rows of named parts are those of their roles
  pub rows_of_parts : (roles : List Role) (parts : List NamedPart) → AreNamedParts line roles parts
      → flat_map (logic_of_part line gates) parts ≡ flat_map (logic_of line gates) roles
  rows_of_parts roles parts are =
      each_row parts ∙ ap (flat_map (logic_of line gates)) are.are where
        each_row : (ps : List NamedPart) → flat_map (logic_of_part line gates) ps
            ≡ flat_map (logic_of line gates) (roles_of ps)
        each_row [] = refl
        each_row (p ∷ ps) = ap (λ rows. logic_of line gates p.role ++ rows) (each_row ps)

module _ (line : Line) (gates : List Gate)
    (least : (u : ℕ → Bool) (n t : ℕ)
    → (first_on u n ≡ Some t) ↔ ((t < n) × IsTrue (u t) × ((r : ℕ) → r < t → IsFalse (u r)))) where
  loss_is : (into : Bool) (c : ℕ) → c < channel_count line
      → All (IsTraceOf line (length gates)) (if into then Lost c ∷ [] else [])
  loss_is true c lt = All-cons (IsTraceOf line (length gates)) (Lost c) [] lt (All-nil (IsTraceOf line (length gates)))
  loss_is false c lt = All-nil (IsTraceOf line (length gates))

  one : (trace : Trace) (rest : List Trace) → IsTraceOf line (length gates) trace → All (IsTraceOf line (length gates)) rest
      → All (IsTraceOf line (length gates)) (trace ∷ rest)
  one = All-cons (IsTraceOf line (length gates))

  none : All (IsTraceOf line (length gates)) []
  none = All-nil (IsTraceOf line (length gates))

  seen_is : (k : ℕ) → k < terminal_count line → All (IsTraceOf line (length gates)) (seen_at k)
  seen_is k lt =
      let cur : List Trace = seen_by k Cur ∷ [] in
      let uv : List Trace = seen_by k Uv ∷ cur in
      let rv : List Trace = seen_by k Rv ∷ uv in
      one (seen_by k Z1) (seen_by k Z2 ∷ rv) lt
      (one (seen_by k Z2) rv lt
      (one (seen_by k Rv) uv lt
      (one (seen_by k Uv) cur lt (one (seen_by k Cur) [] lt none))))

  logic_row_is : (explains : Bool) (role : Role) (gate : Option ℕ) → gate_of line gates role ≡ gate
      → All (IsTraceOf line (length gates)) (logic_row explains role gate)
  logic_row_is true role (Some gate) e =
      one (Logic role gate) [] ((least (has_role line gates role) (length gates) gate).0 e).0 none
  logic_row_is true role None e = none
  logic_row_is false role gate e = none

  roles_are : (roles : List Role)
      → All (IsTraceOf line (length gates)) (flat_map (logic_of line gates) roles)
  roles_are [] = none
  roles_are (role ∷ rest) =
      All-append (IsTraceOf line (length gates)) (logic_of line gates role)
      (flat_map (logic_of line gates) rest)
      (logic_row_is (explains role) role (gate_of line gates role) refl) (roles_are rest)

  terminal_is : (k : ℕ) → k < terminal_count line
      → All (IsTraceOf line (length gates)) (traces_at line gates k)
  terminal_is k lt =
      All-append (IsTraceOf line (length gates))
      (seen_at k ++ each_below (channel_count line) (loss_at line k) ++ logic_at line gates k)
      (Key k ∷ (Trip k ∷ []))
      (All-append (IsTraceOf line (length gates))
      (seen_at k ++ each_below (channel_count line) (loss_at line k)) (logic_at line gates k)
      (All-append (IsTraceOf line (length gates)) (seen_at k)
      (each_below (channel_count line) (loss_at line k))
      (seen_is k lt)
      (All-each_below (IsTraceOf line (length gates)) (loss_at line k) (channel_count line)
      (λ c there. loss_is (to_of line.channels.items c == k) c there)))
      (roles_are (roles_at line k)))
      (one (Key k) (Trip k ∷ []) lt (one (Trip k) [] lt none))

  pub traces_are_of_line : All (IsTraceOf line (length gates)) (traces_of line gates)
  traces_are_of_line =
      All-each_below (IsTraceOf line (length gates)) (traces_at line gates) (terminal_count line) terminal_is
