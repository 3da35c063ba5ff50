use Rattle.std.proofs.Common.{◌≡◌, ◌++◌, ℕ, List, length, ◌∙◌, ap}
use Rattle.std.specs.Prelude.{codes}
use Rattle.run_step.specs.Played.{is_on}
use Rattle.draw_gates.specs.{dump.Variables.declarations, dump.Dump.changes_text, dump.Dump.dump_text}
use Rattle.draw_gates.proofs.dump.vcd.value_change_dump.Goals as goal

-- one piece more at the end of a text that is known
more : (mid new a b : List ℕ) → mid ≡ a → new ≡ mid ++ b → new ≡ a ++ b
more mid new a b first second = second ∙ ap (λ (l : List ℕ). l ++ b) first

pub returns : goal.returns
unfolding dump_text
returns c =
    let line = c.args.compiled.now.line.now in
    let net = c.args.compiled.now.net.now in
    let levels = is_on c.args.waves.now in
    let a1 : List ℕ = codes "$comment timing " in
    let a2 : List ℕ = a1 ++ c.args.timing in
    let a3 : List ℕ = a2 ++ codes ", script " in
    let a4 : List ℕ = a3 ++ c.args.script in
    let a5 : List ℕ = a4 ++ codes " $end\n$timescale 1 us $end\n" in
    let a6 : List ℕ = a5 ++ declarations line net in
    let a7 : List ℕ = a6 ++ codes "$enddefinitions $end\n" in
    let named : c.put.new.text.items ≡ c.in_ok-text.text.items ++ c.args.timing =
    c.in_ok-put.ensures
    ∙ ap (λ (l : List ℕ). c.in_ok-text.text.items ++ l) c.bytes.ensures.same in
    let e2 : c.put.new.text.items ≡ a2 =
    more c.in_ok-text.text.items c.put.new.text.items a1 c.args.timing c.in_ok-text.ensures.items
    named in
    let e3 : c.put-2.new.text.items ≡ a3 =
    more c.put.new.text.items c.put-2.new.text.items a2 (codes ", script ") e2
    c.in_ok-put-2.ensures in
    let scripted : c.put-3.new.text.items ≡ c.put-2.new.text.items ++ c.args.script =
    c.in_ok-put-3.ensures
    ∙ ap (λ (l : List ℕ). c.put-2.new.text.items ++ l) c.bytes-2.ensures.same in
    let e4 : c.put-3.new.text.items ≡ a4 =
    more c.put-2.new.text.items c.put-3.new.text.items a3 c.args.script e3 scripted in
    let e5 : c.put-4.new.text.items ≡ a5 =
    more c.put-3.new.text.items c.put-4.new.text.items a4 (codes " $end\n$timescale 1 us $end\n")
    e4 c.in_ok-put-4.ensures in
    let e6 : c.put_declarations.new.text.items ≡ a6 =
    more c.put-4.new.text.items c.put_declarations.new.text.items a5 (declarations line net) e5
    c.in_ok-put_declarations.ensures in
    let e7 : c.put-5.new.text.items ≡ a7 =
    more c.put_declarations.new.text.items c.put-5.new.text.items a6
    (codes "$enddefinitions $end\n") e6 c.in_ok-put-5.ensures in
    let changed : c.put_changes.new.text.items
    ≡ c.put-5.new.text.items
    ++ changes_text line.tick_us line.horizon levels (length net.gates) =
    c.in_ok-put_changes.ensures
    ∙ ap (λ (n : ℕ). c.put-5.new.text.items ++ changes_text line.tick_us line.horizon levels n)
    c.len.ensures.len in
    more c.put-5.new.text.items c.put_changes.new.text.items a7
    (changes_text line.tick_us line.horizon levels (length net.gates)) e7 changed
