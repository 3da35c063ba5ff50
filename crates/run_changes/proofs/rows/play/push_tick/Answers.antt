use Rattle.std.proofs.Common.{◌≡◌, ◌+◌, Some, sym, ◌∙◌, arith, length-set}
use Rattle.std.proofs.lemmas.List.{append-nil}
use Rattle.std.proofs.lemmas.Option.{slice_get_read, slice_get_within}
use Rattle.std.specs.Prelude.{slice_get}
use Rattle.model_history.specs.EachLaws.{list_done, list_more}
use Rattle.model_line.specs.Parameters.{terminal_count}
use Rattle.run_step.specs.LoopLaws.{part_more}
use Rattle.run_changes.specs.changes.PlayedTracks.{played}
use Rattle.run_changes.specs.rows.PlayRows.{terminal_rows}
use Rattle.run_changes.specs.rows.StandingLaws.{PairStands}
use Rattle.run_changes.proofs.rows.play.push_tick.Goals as goal

pub loop-k-init : goal.loop-k-init
loop-k-init c = record {
  rows = sym (append-nil c.args.text.now.items);
  count = c.requires.stand.count;
  stand = record {
    done = λ i p lt. absurd (omega arith);
    left = λ i p le at. c.requires.stand.each i p at;
  };
}

pub push_terminal-requires-clause-stands : goal.push_terminal-requires-clause-stands
push_terminal-requires-clause-stands c =
    let pairs = c.loop-k.pairs.items in
    let k = c.loop-k.k in
    let old = c.index_mut.result.now in
    let at : slice_get pairs k ≡ Some old =
    slice_get_read pairs (terminal_count c.args.line.now) k old (sym c.loop-k.invariant.count)
    (omega arith) c.index_mut.ensures.value in
    c.loop-k.invariant.stand.left k old (omega arith) at

pub loop-k-preserved : goal.loop-k-preserved
loop-k-preserved c =
    let keys = c.args.tracks.now.keys.items in
    let trips = c.args.tracks.now.trips.items in
    let t = c.args.t in
    let k = c.loop-k.k in
    let pairs = c.loop-k.pairs.items in
    let old = c.index_mut.result.now in
    let new = c.push_terminal.new.pair in
    let at : slice_get pairs k ≡ Some old =
    slice_get_read pairs (terminal_count c.args.line.now) k old (sym c.loop-k.invariant.count)
    (omega arith) c.index_mut.ensures.value in
    record {
      rows = list_more c.args.text.now.items c.loop-k.text.items c.push_terminal.new.text.items
          (terminal_rows c.args.names.now.timing c.args.names.now.script c.args.line.now
          (played keys trips) t)
          k c.loop-k.invariant.rows c.in_ok-push_terminal.ensures.rows;
      count = length-set pairs k new ∙ c.loop-k.invariant.count;
      stand = part_more (PairStands (t + 1) keys trips) (PairStands t keys trips) k old new pairs at
          (λ _. c.in_ok-push_terminal.ensures.stands) c.loop-k.invariant.stand;
    }

pub returns-clause-stand : goal.returns-clause-stand
returns-clause-stand c = record {
  count = c.loop-k.invariant.count;
  each = λ i p at.
      let within = slice_get_within c.loop-k.pairs.items i p at in
      c.loop-k.invariant.stand.done i p
      (omega (arith, within, c.loop-k.invariant.count, c.loop-k-test.false)) at;
}

pub returns-clause-rows : goal.returns-clause-rows
returns-clause-rows c =
    let line = c.args.line.now in
    let keys = c.args.tracks.now.keys.items in
    let trips = c.args.tracks.now.trips.items in
    list_done c.args.text.now.items c.loop-k.text.items
    (terminal_rows c.args.names.now.timing c.args.names.now.script line (played keys trips) c.args.t)
    c.loop-k.k (terminal_count line) (omega (arith, c.loop-k-test.false, c.len-k-end.ensures))
    (omega (arith, c.loop-k.auto.k-end, c.len-k-end.ensures)) c.loop-k.invariant.rows

pub push_terminal-requires-clause-terminal : goal.push_terminal-requires-clause-terminal
push_terminal-requires-clause-terminal c =
    omega (arith, c.loop-k-test.true, c.len-k-end.ensures)

pub index_mut-requires : goal.index_mut-requires
index_mut-requires c =
    omega (arith, c.loop-k-test.true, c.len-k-end.ensures, c.loop-k.invariant.count)

pub push_terminal-requires-clause-tick : goal.push_terminal-requires-clause-tick
push_terminal-requires-clause-tick c = c.requires.tick

pub push_terminal-requires-clause-keys : goal.push_terminal-requires-clause-keys
push_terminal-requires-clause-keys c = c.requires.keys

pub push_terminal-requires-clause-trips : goal.push_terminal-requires-clause-trips
push_terminal-requires-clause-trips c = c.requires.trips
