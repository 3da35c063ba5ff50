use Rattle.std.proofs.Common.{◌≡◌, ◌≤◌, ◌+◌, ◌++◌, Some, drop, sym, arith, subst}
use Rattle.std.specs.Prelude.{slice_get}
use Rattle.run_step.specs.Shown.{ShowTheSame, ShownSpans, not_over}
use Rattle.run_step.specs.Quiet.{ScriptKeeps, AllKeep}
use Rattle.run_step.specs.InputLaws.{span_fewer}
use Rattle.run_step.specs.ShownLaws.{left_now, present_now, keeps_now}
use Rattle.run_step.proofs.shown.Shown.turn.Goals as goal

pub returns-clause-left : goal.returns-clause-left
returns-clause-left c = λ r low.
    let inside = c.self.inside in
    let ordered = inside.ordered.items in
    let begun = c.take_begun-self-inside.result in
    let left = c.drop_ended.new.present.items in
    subst (λ (s : ShownSpans). ShowTheSame r (left ++ drop begun ordered) (not_over s))
    c.self.view_is
    (left_now inside.present.items c.take_begun-self-inside.new.present.items left ordered
    inside.begun begun c.args.t
    (subst (λ l. c.take_begun-self-inside.new.present.items ++ drop begun l
    ≡ inside.present.items ++ drop inside.begun l) c.deref.ensures.value
    c.take_begun-self-inside.ensures.same) c.drop_ended.ensures.items r low)

pub returns-clause-shown : goal.returns-clause-shown
returns-clause-shown c = λ r low high.
    let inside = c.self.inside in
    let ordered = inside.ordered.items in
    let begun = c.take_begun-self-inside.result in
    let left = c.drop_ended.new.present.items in
    let n = c.lesser.result in
    subst (λ (s : ShownSpans). ShowTheSame r left (not_over s)) c.self.view_is
    (present_now inside.present.items c.take_begun-self-inside.new.present.items left ordered
    inside.begun begun c.args.t
    (subst (λ l. c.take_begun-self-inside.new.present.items ++ drop begun l
    ≡ inside.present.items ++ drop inside.begun l) c.deref.ensures.value
    c.take_begun-self-inside.ensures.same) c.drop_ended.ensures.items n c.self.invariant.rising
    (λ s at.
    let before : c.args.t + c.next_begins.result ≤ s.from = c.next_begins.ensures.before s
    (subst (λ l. slice_get l begun ≡ Some s) (sym c.deref-3.ensures.value) at) in
    omega (arith, before, c.lesser.ensures.second)) r low high)

pub returns-clause-keeps : goal.returns-clause-keeps
returns-clause-keeps c =
    let inside = c.self.inside in
    let ordered = inside.ordered.items in
    let begun = c.take_begun-self-inside.result in
    let left = c.drop_ended.new.present.items in
    let n = c.lesser.result in
    let stay : AllKeep c.args.t c.all_stay.result left =
    subst (AllKeep c.args.t c.all_stay.result) c.deref-2.ensures.value c.all_stay.ensures.keep in
    subst (λ (s : ShownSpans). ScriptKeeps (not_over s) c.args.t n) c.self.view_is
    (keeps_now inside.present.items c.take_begun-self-inside.new.present.items left ordered
    inside.begun begun c.args.t
    (subst (λ l. c.take_begun-self-inside.new.present.items ++ drop begun l
    ≡ inside.present.items ++ drop inside.begun l) c.deref.ensures.value
    c.take_begun-self-inside.ensures.same) c.drop_ended.ensures.items n c.self.invariant.rising
    (λ s at.
    let before : c.args.t + c.next_begins.result ≤ s.from = c.next_begins.ensures.before s
    (subst (λ l. slice_get l begun ≡ Some s) (sym c.deref-3.ensures.value) at) in
    omega (arith, before, c.lesser.ensures.second))
    (c.lesser.ensures.some c.all_stay.ensures.some c.next_begins.ensures.some)
    (λ i s at. span_fewer s c.args.t n c.all_stay.result c.lesser.ensures.first (stay i s at)))
