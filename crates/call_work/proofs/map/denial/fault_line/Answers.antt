use Rattle.call_work.proofs.map.denial.fault_line.Goals as goal

pub returns-in-Late : goal.returns-in-Late
returns-in-Late c = rw c.in-Late.is (rw c.bytes.ensures.same at c.name_line.ensures)

pub returns-in-NoDelay : goal.returns-in-NoDelay
returns-in-NoDelay c =
    rw c.in-NoDelay.is (rw c.bytes-in-NoDelay.ensures.same at c.name_line-in-NoDelay.ensures)

pub returns-in-TooMany : goal.returns-in-TooMany
returns-in-TooMany c = rw c.in-TooMany.is c.name_line-in-TooMany.ensures
