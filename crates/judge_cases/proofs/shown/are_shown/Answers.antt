use Rattle.std.proofs.Common.{◌≡◌, ◌≤◌, ◌++◌, ℕ, Bool, List, Some, length, length-append}
use Rattle.std.proofs.Common.{◌∙◌, ap, subst, arith}
use Rattle.std.specs.Prelude.{slice_get}
use Rattle.std.specs.List.{slice_range}
use Rattle.judge_cases.specs.{Analyses.TellEach}
use Rattle.judge_cases.proofs.BlockLaws.{block_views, range_length, tell_more}
use Rattle.judge_cases.proofs.shown.are_shown.Goals as goal

pub block_shown-requires-clause-views : goal.block_shown-requires-clause-views
block_shown-requires-clause-views c =
    block_views c.args.compiled.now.line.now c.args.views.now c.next_block.first c.min-next.result
    c.requires.views

pub next_block-preserved : goal.next_block-preserved
next_block-preserved c =
    let views = c.args.views.now in
    let first : ℕ = c.next_block.first in
    let next : ℕ = c.min-next.result in
    let old : List Bool = c.next_block.shown.items in
    let block : List Bool = c.in_ok-block.block.items in
    let is : c.extend_from_slice.new.self.items ≡ old ++ block =
    c.in_ok-extend_from_slice.ensures.items ∙ ap (λ (l : List Bool). old ++ l) c.deref.ensures.value in
    let tells : TellEach c.args.compiled.now.line.now c.args.script.now c.args.terminal
    (slice_range views first next) block = c.in_ok-block.ensures in
    let within : next ≤ length views = omega (arith, c.min-next.ensures) in
    let later : first ≤ next = omega (arith, c.min-next.ensures, c.next_block.invariant.inside) in
    record {
      inside = within;
      count = ap length is ∙ length-append old block
          ∙ (let a = c.next_block.invariant.count in
          let b = tells.count in
          let r = range_length views first next later within in omega (arith, a, b, r));
      each = λ j b at view here.
          tell_more c.args.compiled.now.line.now c.args.script.now c.args.terminal views first next
          old block c.next_block.invariant.count c.next_block.invariant.each tells later within j b
          (subst (λ (l : List Bool). slice_get l j ≡ Some b) is at) view here;
    }

pub returns : goal.returns
returns c =
    let over : length c.args.views.now ≤ c.next_block.first = c.next_block-test.false in
    let under : c.next_block.first ≤ length c.args.views.now = c.next_block.invariant.inside in
    record {
      count = omega (arith, over, under, c.next_block.invariant.count);
      each = λ i b view at there. c.next_block.invariant.each i b at view there;
    }
