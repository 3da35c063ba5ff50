use Rattle.call_work.proofs.explain.answer.text_in.Goals as goal

pub timing_text-requires-clause-inside : goal.timing_text-requires-clause-inside
timing_text-requires-clause-inside c =
    (c.requires c.in-Explained.timing c.in-Explained.rows c.in-Explained.is).0

pub timing_text-requires-clause-steady : goal.timing_text-requires-clause-steady
timing_text-requires-clause-steady c =
    (c.requires c.in-Explained.timing c.in-Explained.rows c.in-Explained.is).1
