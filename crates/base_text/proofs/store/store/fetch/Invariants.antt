use Rattle.std.proofs.Common.{◌≡◌, ◌+◌, ◌≤◌, ◌<◌, ◌++◌, IfSome, length, drop}
use Rattle.base_text.specs.{store.Counts.Grew, store.Store.SameCounts}
use Rattle.base_text.proofs.store.store.fetch.Given as goal

abbrev pub invariant-loop-turn : goal.invariant-loop-turn
invariant-loop-turn g l = record {
  progress : l._turn ≤ length l.all.items;
  within : length l.all.items ≤ l.limit;
  room : 0 < length l.piece.items;
  held : g.S.Store.held l.store ≡ g.S.Store.held l.fn.store;
  same : SameCounts (g.S.Store.faults l.fn.store) (g.S.Store.faults l.store);
  gives : g.S.Store.given l.fn.store ≤ g.S.Store.given l.store;
  given : Grew (g.S.Store.given l.fn.store) (length l.all.items) (g.S.Store.given l.store);
  pulled : g.S.Store.pulls l.fn.store ≤ g.S.Store.pulls l.store;
  pulls : g.S.Store.pulls l.store ≤ g.S.Store.pulls l.fn.store + l._turn;
  front : IfSome (g.S.Store.held l.fn.store l.name) (λ bytes.
      bytes ≡ l.all.items ++ drop (length l.all.items) bytes);
}
