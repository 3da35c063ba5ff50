use Rattle.std.proofs.Common.{◌≡◌, ◌≤◌, ◌+◌, ◌++◌, List, ℕ, Some, None, length, true, false, refl, sym, drop, ◌∙◌, ap, arith}
use Rattle.std.proofs.Common.{subst, length-append}
use Rattle.std.proofs.lemmas.List.{length-replicate}
use Rattle.run_signal.specs.declared.tern.Tern.{Tern}
use Rattle.run_waves.specs.{declared.waves.runs.Run.Run, waves.Waves.ticks_of, waves.Text.runs_text}
use Rattle.run_waves.proofs.waves_lemmas.TextLaws.{ReadsOn, reads_first, reads_run, reads_none}
use Rattle.run_waves.proofs.waves_lemmas.TextLaws.{reads_more}
use Rattle.run_waves.proofs.waves_lemmas.ReadLaws.{HasRead, has_read_none, no_run_joins, whole_is_read}
use Rattle.run_waves.proofs.waves_lemmas.ReadLaws.{more_is_read}
use Rattle.run_waves.proofs.waves.text.read_items.Goals as goal
use Rattle.run_waves.proofs.waves.text.read_items.Goals.{then-goes_on-via-then-goes_on}
use Rattle.run_waves.proofs.waves.text.read_items.Goals.{then-goes_on-via-else-goes_on+then-run-horizon}

pub items-init : goal.items-init
items-init c = record {
  short = omega (arith, ap length c.new-wave.ensures);
  has_read =
      (let P : List Tern → Type 0 = λ w. HasRead c.args.text.now w None c.args.text.now in
      subst P (sym c.new-wave.ensures) (has_read_none c.args.text.now));
  reads = λ runs are text.
      let P : List Tern → Type 0 = λ w. ReadsOn runs c.args.horizon w c.args.text.now in
      subst P (sym c.new-wave.ensures)
      (reads_first runs c.args.horizon c.args.text.now c.requires.some are text);
}

pub returns-in_default : goal.returns-in_default
returns-in_default c = λ runs are text.
    absurd (reads_none runs c.args.horizon c.items.wave c.items.rest.now c.find_byte-end.result
    c.requires.limited c.find_byte-end.ensures.place (c.items.invariant.reads runs are text)
    c.in_default.ensures)

pub returns-then-goes_on : goal.returns-then-goes_on
returns-then-goes_on c = λ runs are text.
    let r = c.items.invariant.reads runs are text in
    let next = reads_run runs c.args.horizon c.items.wave c.items.rest.now c.find_byte-end.result
    c.requires.limited c.find_byte-end.ensures.place r c.in-Some.run' c.in-Some.ensures in
    let ticks : c.in-Some.run'.ticks ≡ r.next.ticks = ap (λ (run : Run). run.ticks) next in
    let some : 1 ≤ r.next.ticks = r.some in
    let room : length c.items.wave + r.next.ticks ≤ c.args.horizon = r.room in
    elim c.then-goes_on.branch [
      | then-goes_on-via-then-goes_on w ↦
          (let no : true ≡ false = w.if-goes_on.ensures.1 (
            omega arith,
            (λ same.
                no_run_joins runs c.args.horizon c.args.text.now c.items.wave c.items.last
                c.items.rest.now are r c.items.invariant.has_read
                (same ∙ ap (λ (run : Run). Some run.level) next)),
          ) in
          absurd cc)
      | then-goes_on-via-else-goes_on+then-run-horizon w ↦ absurd (omega arith)
    ]

pub returns-then-end-rest : goal.returns-then-end-rest
returns-then-end-rest c =
    let apart = c.if-goes_on.ensures.0 refl in
    ap runs_text c.in_ok-push.ensures
    ∙ whole_is_read c.args.text.now c.items.wave c.items.last c.items.rest.now
    c.find_byte-end.result c.in-Some.run' c.items.invariant.has_read c.in-Some.ensures apart.0
    apart.1 c.if-end-rest.true

pub items-preserved : goal.items-preserved
items-preserved c =
    let run : Run = c.in-Some.run' in
    let grown : c.push.new.self ≡ c.items.wave ++ ticks_of run = c.in_ok-push.ensures in
    record {
      short = omega (
        arith,
        ap length grown,
        length-append c.items.wave (ticks_of run),
        length-replicate run.ticks run.level,
      );
      has_read =
          (let apart = c.if-goes_on.ensures.0 refl in
          let left : List ℕ = drop (c.find_byte-end.result + 1) c.items.rest.now in
          let more = more_is_read c.args.text.now c.items.wave c.items.last c.items.rest.now
          c.find_byte-end.result run c.items.invariant.has_read c.in-Some.ensures apart.0 apart.1
          c.find_byte-end.ensures.place c.find_byte-end.ensures.inside c.if-end-rest.false in
          let P : List Tern → Type 0 = λ w. HasRead c.args.text.now w (Some run.level) left in
          let Q : List ℕ → Type 0 =
          λ t. HasRead c.args.text.now c.push.new.self (Some run.level) t in
          subst Q (sym c.after_item-rest.ensures) (subst P (sym grown) more));
      reads = λ runs are text.
          let r = c.items.invariant.reads runs are text in
          let next = reads_run runs c.args.horizon c.items.wave c.items.rest.now
          c.find_byte-end.result c.requires.limited c.find_byte-end.ensures.place r run
          c.in-Some.ensures in
          let more = reads_more runs c.args.horizon c.items.wave c.items.rest.now
          c.find_byte-end.result c.requires.limited are c.find_byte-end.ensures.place r
          c.if-end-rest.false in
          let wave : c.items.wave ++ ticks_of r.next ≡ c.push.new.self =
          ap (λ (last : Run). c.items.wave ++ ticks_of last) (sym next) ∙ sym grown in
          let left : List ℕ = drop (c.find_byte-end.result + 1) c.items.rest.now in
          let P : List Tern → Type 0 = λ w. ReadsOn runs c.args.horizon w left in
          let Q : List ℕ → Type 0 = λ t. ReadsOn runs c.args.horizon c.push.new.self t in
          subst Q (sym c.after_item-rest.ensures) (subst P wave more);
    }
