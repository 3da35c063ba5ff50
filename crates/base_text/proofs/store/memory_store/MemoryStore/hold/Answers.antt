use Rattle.std.proofs.Common.{ap}
use Rattle.std.specs.String.{string_bytes}
use Rattle.base_text.proofs.store_lemmas.FileLaws.{files_of-insert}
use Rattle.base_text.proofs.store.memory_store.MemoryStore.hold.Goals as goal

pub returns-clause-ok : goal.returns-clause-ok
returns-clause-ok c =
    let s = c.self.inside in
    let held = rw (c.in_ok-key.ensures.ok, c.in_ok-value.ensures.items)
    at (files_of-insert (string_bytes c.in_ok-key.key) s.files c.insert.new.self
    c.in_ok-value.value c.in_ok-insert.ensures.updates) in
    rw (← c.self.view_is) (ap (λ files. record {
      files = files;
      failing = s.failing.items;
      bound = s.bound;
      given = s.given;
      pulls = s.pulls;
      faults = s.faults;
    }) held)
