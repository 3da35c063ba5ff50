use Rattle.call_inspect.proofs.halt.put_unread.Goals as goal

pub returns : goal.returns
returns g c =
    rw (c.as_bytes-name.ensures.value, c.as_bytes-why.ensures.value, c.words.ensures)
    at c.put_pieces.ensures
