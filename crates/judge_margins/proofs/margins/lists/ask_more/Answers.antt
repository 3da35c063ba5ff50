use Rattle.std.proofs.Common.{◌++◌, ◌∷◌, [], ℕ, Some, ◌∙◌, ap, arith}
use Rattle.judge_margins.proofs.margins_lemmas.AskLaws.{asks_more, slots_more}
use Rattle.judge_margins.proofs.margins.lists.ask_more.Goals as goal

pub returns-clause-slots : goal.returns-clause-slots
returns-clause-slots c =
    let b = c.bracket_at-bracket.result in
    let asks = c.args.asks.now.items in
    let slots = c.args.slots.now.items in
    slots_more c.args.whole c.args.brackets.now slots c.push-2.new.self.items asks
    c.push-3.new.self.items c.args.place b c.bracket_at-bracket.ensures
    (omega (arith, c.if-bracket.false)) c.requires.slots
    (c.in_ok-push-2.ensures.items
    ∙ ap (λ (n : ℕ). slots ++ Some n ∷ [])
    (c.len.ensures ∙ c.args.asks.now.ok.0))
    (c.in_ok-push-3.ensures.items
    ∙ ap (λ (n : ℕ). asks ++ record { place = c.args.place; by = n } ∷ []) c.tried.ensures)

pub returns-clause-asks : goal.returns-clause-asks
returns-clause-asks c =
    let asks = c.args.asks.now.items in
    asks_more c.args.whole c.args.brackets.now asks c.push-3.new.self.items c.args.place
    c.bracket_at-bracket.result c.bracket_at-bracket.ensures (omega (arith, c.if-bracket.false))
    c.requires.asks
    (c.in_ok-push-3.ensures.items
    ∙ ap (λ (n : ℕ). asks ++ record { place = c.args.place; by = n } ∷ []) c.tried.ensures)
