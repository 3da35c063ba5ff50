use Rattle.call_work.proofs.map.denial.map_denial_line.Goals as goal

pub returns-in-Twice : goal.returns-in-Twice
returns-in-Twice c = rw c.in-Twice.is (rw c.bytes.ensures.same at c.name_line.ensures)
