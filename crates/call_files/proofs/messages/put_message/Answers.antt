use Rattle.call_files.proofs.messages.put_message.Goals as goal

pub returns-in-Usage : goal.returns-in-Usage
returns-in-Usage g c = rw c.in-Usage.is c.put_pieces.ensures

pub returns-in-Store : goal.returns-in-Store
returns-in-Store g c =
    rw c.in-Store.is (rw c.word_of_file.ensures at c.put_pieces-in-Store.ensures)

pub returns-in-Sink : goal.returns-in-Sink
returns-in-Sink g c = rw c.in-Sink.is c.put_pieces-in-Sink.ensures

pub returns-in-Memory : goal.returns-in-Memory
returns-in-Memory g c = rw c.in-Memory.is c.put_pieces-in-Memory.ensures
