use Rattle.draw_page.specs.Choices.{choice_html}
use Rattle.draw_page.proofs.choice.one_choice.Goals as goal

pub returns : goal.returns
unfolding choice_html
returns c =
    let named = c.joined-named.ensures _ _ c.heading.ensures c.some_several.ensures in
    let why = rw c.as_slice.ensures.value at c.said_in-why.ensures in
    let reason = c.joined-reason.ensures _ _ named why in
    let head = c.joined-head.ensures _ _ reason c.some_every.ensures in
    let told = c.joined-told.ensures _ _ head (rw c.as_slice-2.ensures.value at c.some_told.ensures) in
    let steps = c.joined-steps.ensures _ _ told (rw c.as_slice-3.ensures.value at c.some_steps.ensures) in
    let all = c.joined-all.ensures _ _ steps (rw c.as_slice-4.ensures.value at c.rest.ensures) in
    c.around.ensures _ (c.joined.ensures _ _ all c.figure.ensures)
