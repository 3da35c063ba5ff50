use Rattle.model_plain.proofs.named.named_parts.Goals as goal

pub returns : goal.returns
returns c =
    c.with_scheme.ensures _ (c.with_channels-heard.ensures _ c.seen_parts-seen.ensures)
