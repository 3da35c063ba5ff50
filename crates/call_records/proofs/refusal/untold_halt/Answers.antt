use Rattle.call_records.proofs.refusal.untold_halt.Goals as goal

pub returns-in-Key : goal.returns-in-Key
returns-in-Key c = rw c.in-Key.is (rw c.name_of_terminal.ensures at c.worded_halt.ensures)

pub returns-in-Trip : goal.returns-in-Trip
returns-in-Trip c =
    rw c.in-Trip.is (rw c.name_of_terminal-in-Trip.ensures at c.worded_halt-in-Trip.ensures)
