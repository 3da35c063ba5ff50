use Rattle.std.proofs.Common.{◌+◌, ◌<◌, ◌||◌, ℕ, Bool, length, List, ◌∷◌, [], ◌++◌, map, take}
use Rattle.std.proofs.Common.{get_or, sym, ◌∙◌, ap, subst}
use Rattle.std.proofs.lemmas.List.{map-append, take_more}
use Rattle.judge_match.specs.declared.matching.seen.Seen.{Seen}
use Rattle.judge_match.specs.{matching.Answer.Head, matching.Seen.AreSeen, matching.Waves.SeenValues, matching.Waves.seen_values}
use Rattle.judge_match.proofs.matching_lemmas.AnswerLaws.{answer_more, answer_none}
use Rattle.judge_match.proofs.matching.answer.match_answer.Goals as goal

pub loop-seen-init : goal.loop-seen-init
loop-seen-init c =
    answer_none c.args.compiled.now.line.now c.args.scripts.now c.new-text.result.items
    c.new-text.ensures.items

pub settled_head-requires-clause-seen : goal.settled_head-requires-clause-seen
settled_head-requires-clause-seen c =
    subst (λ (x : Seen). AreSeen c.args.compiled.now.line.now x) (sym c.seen-item.is)
    (c.requires.seen c.loop-seen.seen-index c.seen-item.result c.loop-seen-test.true)

pub settled_head-requires-clause-named : goal.settled_head-requires-clause-named
settled_head-requires-clause-named c =
    subst (λ (x : Seen). x.script < length c.args.scripts.now) (sym c.seen-item.is)
    (c.requires.named c.loop-seen.seen-index c.seen-item.result c.loop-seen-test.true)

pub loop-seen-preserved : goal.loop-seen-preserved
loop-seen-preserved c =
    let records : List Seen = c.args.records.now in
    let i : ℕ = c.loop-seen.seen-index in
    let item : Seen = c.seen-item.result in
    let before : List SeenValues = map seen_values (take i records) in
    let text : List ℕ = c.loop-seen.text.items in
    let head : Head =
    record { settled = c.in_ok-head.head.settled; text = c.in_ok-head.head.text.items } in
    answer_more c.args.compiled.now.line.now c.args.scripts.now before
    (map seen_values (take (i + 1) records))
    (seen_values item) head c.loop-seen.impossible c.loop-seen.unsettled _ _ text _
    (ap (map seen_values) (take_more records i item c.loop-seen-test.true)
    ∙ map-append seen_values (take i records) (get_or records i item ∷ [])
    ∙ ap (λ (x : Seen). before ++ seen_values x ∷ []) (sym c.seen-item.is))
    (c.either-impossible.ensures
    ∙ ap (λ (b : Bool). c.loop-seen.impossible || b) c.is_impossible.ensures)
    (c.either-unsettled.ensures
    ∙ ap (λ (b : Bool). c.loop-seen.unsettled || b) c.is_unsettled.ensures)
    (c.in_ok-extend_from_slice.ensures.items
    ∙ ap (λ (t : List ℕ). text ++ t) c.deref.ensures.value)
    c.loop-seen.invariant c.in_ok-head.ensures
