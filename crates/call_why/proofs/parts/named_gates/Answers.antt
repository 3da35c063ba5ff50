use Rattle.std.proofs.Common.{◌≡◌, ◌<◌, ◌≤◌, ℕ, Bool, true, false, List, None, length, get_or, ltb}
use Rattle.std.proofs.Common.{refl, sym, ◌∙◌, ap, arith}
use Rattle.std.proofs.lemmas.Bool.{ltb-true, ltb-false}
use Rattle.std.proofs.lemmas.List.{get_or_past}
use Rattle.std.specs.Prelude.{is_some, if◌then◌else◌}
use Rattle.model_line.specs.{declared.line.Line.Line, Parameters.terminal_count}
use Rattle.net_gates.specs.NetOf.{NetOf}
use Rattle.call_why.specs.Parts.{part_below, part_of}
use Rattle.call_why.proofs.parts.named_gates.Goals as goal

-- behind the last gate none has a name
past : (line : Line) (net : NetOf) (named : List Bool) (i : ℕ) → length named ≤ i
    → ltb i (length net.gates) ≡ false → get_or named i false ≡ is_some (part_of line net i)
unfolding part_of
past line net named i out is =
    get_or_past named i false out
    ∙ sym (ap (λ (b : Bool). is_some (if b then part_below line net i (terminal_count line) else None)) is)

all_named : (line : Line) (net : NetOf) (named : List Bool) → length named ≡ length net.gates
    → ((j : ℕ) → j < length net.gates → get_or named j false ≡ is_some (part_of line net j))
    → (i : ℕ) (b : Bool) → ltb i (length net.gates) ≡ b
    → get_or named i false ≡ is_some (part_of line net i)
all_named line net named count each i true is = each i (ltb-true i (length net.gates) is)
all_named line net named count each i false is =
    past line net named i (omega (arith, ltb-false i (length net.gates) is)) is

pub returns : goal.returns
returns c = λ i.
    let net = c.args.compiled.now.net.now in
    let whole : c.loop-i.i ≡ length net.gates =
    omega (arith, c.len-i-end.ensures.len, c.loop-i-test.false, c.loop-i.auto.i-end) in
    all_named c.args.compiled.now.line.now net c.loop-i.named.items
    (c.loop-i.invariant.0 ∙ whole)
    (λ j less. c.loop-i.invariant.1 j (omega (arith, whole)))
    i (ltb i (length net.gates)) refl
