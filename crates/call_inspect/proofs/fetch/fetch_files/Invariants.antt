use Rattle.std.proofs.Common.{◌≡◌, map, take}
use Rattle.base_text.specs.store.Store.{SameCounts}
use Rattle.call_inspect.specs.Files.{AreFetched}
use Rattle.call_inspect.proofs.fetch.fetch_files.Given as goal

abbrev pub invariant-loop-place : goal.invariant-loop-place
invariant-loop-place g l = record {
  held : g.S.Store.held l.store ≡ g.S.Store.held l.initial.store;
  same : SameCounts (g.S.Store.faults l.initial.store) (g.S.Store.faults l.store);
  fetched : AreFetched (g.S.Store.held l.initial.store)
      (map (λ name. name.now) (take l.place l.names)) l.files.items;
}
