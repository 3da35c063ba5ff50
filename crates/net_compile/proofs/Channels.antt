-- A channel of a line goes between two of its terminals.
use Rattle.std.proofs.Common.{◌≡◌, ℕ, ◌<◌, get_or, sym, ap, ◌∙◌, subst}
use Rattle.std.proofs.lemmas.List.{get_or-map}
use Rattle.model_line.specs.Parameters.{terminal_count, channel_count}
use Rattle.model_line.specs.Channels.{from_of, to_of}
use Rattle.model_line.specs.{declared.line.Line.Line, declared.line.Channel.Channel}

module _ (line : Line) (c : ℕ) (h : Channel) (lt : c < channel_count line)
    (is : h ≡ get_or line.channels.items c h) where
  pub from_there : h.from < terminal_count line
  from_there =
      let same : from_of line.channels.items c ≡ h.from =
      get_or-map (λ x. x.from) line.channels.items c h 0 lt ∙ ap (λ x. x.from) (sym is) in
      subst (λ n. n < terminal_count line) same (line.pairs_once.from c lt)

  pub to_there : h.to < terminal_count line
  to_there =
      let same : to_of line.channels.items c ≡ h.to =
      get_or-map (λ x. x.to) line.channels.items c h 0 lt ∙ ap (λ x. x.to) (sym is) in
      subst (λ n. n < terminal_count line) same (line.pairs_once.to c lt)
