use Rattle.std.proofs.Common.{◌≡◌, ◌≢◌, ◌<◌, ◌≤◌, ◌+◌, ◌++◌, ℕ, Bool, List, [], ◌∷◌, length, drop, get_or, sym, ◌∙◌, ap, arith, append_assoc, append-nil}
use Rattle.std.specs.Prelude.{◌==◌, codes, if◌then◌else◌}
use Rattle.std.proofs.lemmas.Bool.{eq-eqb, ne_eqb}
use Rattle.std.proofs.lemmas.List.{at_drop_more}
use Rattle.model_line.specs.{declared.line.Line.Line, declared.script.Script.Script}
use Rattle.judge_margins.specs.map.MapText.{obligation_said, obligations_from}
use Rattle.judge_margins.proofs.map.text.obligations_text.Goals.{then-n-gt0+in_ok-push, else-n-gt0}
use Rattle.judge_margins.proofs.map.text.obligations_text.Goals as goal

-- what stands before the n-th obligation
abbrev before_it : ℕ → List ℕ
before_it n = if n == 0 then [] else codes ";"

-- nothing stands before the first
before_first : (n : ℕ) (old new : List ℕ) → n ≤ 0 → new ≡ old → new ≡ old ++ before_it n
before_first n old new first same =
    same ∙ sym (append-nil old)
    ∙ ap (λ (b : Bool). old ++ (if b then [] else codes ";")) (sym (eq-eqb n 0 (omega arith)))

before_later : (n : ℕ) (old new : List ℕ) → 0 < n → new ≡ old ++ 59 ∷ []
    → new ≡ old ++ before_it n
before_later n old new later same =
    let apart : n ≢ 0 = omega arith in
    same ∙ ap (λ (b : Bool). old ++ (if b then [] else codes ";")) (sym (ne_eqb n 0 apart))

-- with one obligation more
one_more : (line : Line) (scripts : List Script) (places : List ℕ) (n : ℕ)
    (old apart new all : List ℕ) → n < length places → apart ≡ old ++ before_it n
    → new ≡ apart ++ obligation_said line scripts (get_or places n 0)
    → old ++ obligations_from line scripts n (drop n places) ≡ all
    → new ++ obligations_from line scripts (n + 1) (drop (n + 1) places) ≡ all
one_more line scripts places n old apart new all inside parted grown before =
    let said : List ℕ = obligation_said line scripts (get_or places n 0) in
    let rest : List ℕ = obligations_from line scripts (n + 1) (drop (n + 1) places) in
    ap (λ (x : List ℕ). x ++ rest) grown
    ∙ append_assoc apart said rest
    ∙ ap (λ (x : List ℕ). x ++ (said ++ rest)) parted
    ∙ append_assoc old (before_it n) (said ++ rest)
    ∙ ap (λ (x : List ℕ). old ++ x)
    (sym (at_drop_more (obligations_from line scripts n) places n 0 inside))
    ∙ before

pub loop-n-preserved : goal.loop-n-preserved
loop-n-preserved c =
    let n = c.loop-n.n in
    let old = c.loop-n.text.items in
    let apart = c.if-n-gt0.text.items in
    let parted : apart ≡ old ++ before_it n =
    elim c.if-n-gt0.branch [
      | then-n-gt0+in_ok-push w ↦
          before_later n old apart w.if-n-gt0.true
          (ap (λ t. t.items) w.text-is ∙ w.in_ok-push.ensures.items)
      | else-n-gt0 w ↦
          before_first n old apart w.if-n-gt0.false (ap (λ t. t.items) w.text-is)
    ] in
    one_more c.args.line.now c.args.scripts.now c.args.places.now n old apart
    c.push_obligation.new.text.items _ c.loop-n-test.true parted c.in_ok-push_obligation.ensures
    c.loop-n.invariant
