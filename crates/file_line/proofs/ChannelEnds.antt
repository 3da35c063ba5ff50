-- The ends of a channel, by its number.
use Rattle.std.proofs.Common.{◌≡◌, ◌<◌, ℕ, List, length, get_or, sym, ap, ◌∙◌}
use Rattle.std.proofs.lemmas.List.{get_or-map}
use Rattle.model_line.specs.Channels.{from_of, to_of}
use Rattle.model_line.specs.declared.line.Channel.{Channel}

module _
    (cs : List Channel) (c : ℕ) (h : Channel) (lt : c < length cs) (is : h ≡ get_or cs c h) where
  pub from_is : from_of cs c ≡ h.from
  from_is =
      let from : Channel → ℕ = λ x. x.from in get_or-map from cs c h 0 lt ∙ ap from (sym is)

  pub to_is : to_of cs c ≡ h.to
  to_is = let to : Channel → ℕ = λ x. x.to in get_or-map to cs c h 0 lt ∙ ap to (sym is)
