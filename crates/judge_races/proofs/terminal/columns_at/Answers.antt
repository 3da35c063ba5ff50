use Rattle.std.proofs.Common.{◌≡◌, ℕ, ◌+◌, ◌∷◌, [], false, length, sym, ◌∙◌, ap, subst, arith, length-append}
use Rattle.std.specs.Prelude.{get_or, Option, Vec}
use Rattle.std.specs.declared.alloc.Global.{Global}
use Rattle.std.proofs.lemmas.List.{length-map}
use Rattle.std.proofs.lemmas.Option.{slice_get-get_or}
use Rattle.model_history.specs.ListLaws.{each_more}
use Rattle.model_logic.specs.Tree.{Tree, Const}
use Rattle.net_gates.specs.declared.gate.GateId.{GateId}
use Rattle.net_gates.specs.Formulas.{formula_of}
use Rattle.judge_verdict.specs.verdict.OneEachLaws.{one_more, all_there}
use Rattle.net_gates.specs.Formulas.{trees_of}
use Rattle.judge_races.specs.Races.{columns_of}
use Rattle.judge_races.specs.Lasting.{IsColumnOf}
use Rattle.judge_races.proofs.WaveLaws.{tree_at_index, columns_push}
use Rattle.judge_races.proofs.terminal.columns_at.Goals as goal

pub loop-i-preserved : goal.loop-i-preserved
loop-i-preserved c =
    let line = c.args.compiled.now.line.now in
    let gates = c.args.compiled.now.net.now.gates in
    let i : ℕ = c.loop-i.i in
    let lacks : Vec (Option ℕ) Global = c.in_ok-lacks.lacks in
    record {
      count = ap length c.in_ok-push.ensures.items
          ∙ length-append c.loop-i.columns.items (lacks ∷ [])
          ∙ ap (λ (n : ℕ). n + 1) c.loop-i.invariant.count;
      long = each_more (λ _ (column : Vec (Option ℕ) Global). length column.items ≡ line.horizon)
          c.loop-i.columns.items c.push.new.self.items lacks i c.in_ok-push.ensures.items
          (sym c.loop-i.invariant.count) c.loop-i.invariant.long c.in_ok-lacks.ensures.long;
      are = λ script are.
          let P : Tree → Type 0 = λ x. IsColumnOf line script x lacks.items in
          one_more (λ j column. IsColumnOf line script (get_or (trees_of gates c.args.ids.now) j
          (Const false)) column) i (columns_of c.loop-i.columns.items)
          (columns_of c.push.new.self.items) lacks.items
          (columns_push c.loop-i.columns.items c.push.new.self.items lacks
          c.in_ok-push.ensures.items)
          (subst P (tree_at_index gates c.args.ids.now i _ c.loop-i-test.true)
          (c.in_ok-lacks.ensures.is script are))
          (c.loop-i.invariant.are script are);
    }

pub returns-clause-long : goal.returns-clause-long
returns-clause-long c = λ k d within.
    c.loop-i.invariant.long k _ (slice_get-get_or c.loop-i.columns.items k d within)

pub returns-clause-are : goal.returns-clause-are
returns-clause-are c = λ script are.
    let line = c.args.compiled.now.line.now in
    let gates = c.args.compiled.now.net.now.gates in
    let f : GateId → Tree = λ id. formula_of gates id.0 in
    let done : c.loop-i.i ≡ length c.args.ids.now =
    omega (arith, c.loop-i-test.false, c.loop-i.auto.i-end) in
    all_there (λ j column. IsColumnOf line script (get_or (trees_of gates c.args.ids.now) j
    (Const false)) column) c.loop-i.i (length (trees_of gates c.args.ids.now))
    (columns_of c.loop-i.columns.items) (done ∙ sym (length-map c.args.ids.now f))
    (c.loop-i.invariant.are script are)
