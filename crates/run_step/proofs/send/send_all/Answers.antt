use Rattle.std.proofs.Common.{◌≡◌, ℕ, ◌<◌, ◌≤◌, ◌+◌, Some, length, refl, sym, ◌∙◌, ap, arith, subst}
use Rattle.std.proofs.Common.{length-set}
use Rattle.std.proofs.lemmas.Option.{slice_get_read, slice_get_within}
use Rattle.std.specs.Prelude.{slice_get, get_or}
use Rattle.net_gates.specs.NetOf.{id_at}
use Rattle.run_step.specs.Ticks.{HasKeys, HasSent}
use Rattle.run_step.specs.LoopLaws.{part_more}
use Rattle.run_step.specs.SendLaws.{keys_for, sent_for, number_read}
use Rattle.run_step.proofs.send.send_all.Goals as goal

pub loop-k-init : goal.loop-k-init
loop-k-init g c = record {
  count = c.requires.sent.count;
  long = record {
    done = λ i x lt. absurd (omega arith);
    left = λ i x le at. c.requires.sent.each i x at;
  };
  sent = λ lane keys inside stays sent. record {
    done = λ i x lt. absurd (omega arith);
    left = λ i x le at. sent i x at;
  };
}

pub offset_bounds-column-gates : goal.offset_bounds-column-gates
offset_bounds-column-gates g c =
    let k = c.loop-k.k in
    let there = c.requires.gates k c.loop-k-test.true in
    subst (λ (n : ℕ). n ≤ length c.args.column.now)
    (number_read c.args.gates.now k _ c.loop-k-test.true)
    (omega (arith, there))

pub bounds-column-gates : goal.bounds-column-gates
bounds-column-gates g c =
    let k = c.loop-k.k in
    subst (λ (n : ℕ). n < length c.args.column.now)
    (number_read c.args.gates.now k _ c.loop-k-test.true)
    (c.requires.gates k c.loop-k-test.true)

pub push-requires-clause-room : goal.push-requires-clause-room
push-requires-clause-room g c =
    let k = c.loop-k.k in
    let s = c.index_mut.result.now in
    let at : slice_get c.loop-k.tracks.items k ≡ Some s =
    slice_get_read c.loop-k.tracks.items (length c.args.gates.now) k s
    (sym c.loop-k.invariant.count) c.loop-k-test.true c.index_mut.ensures.value in
    let h : HasKeys c.args.horizon c.args.t k s =
    c.loop-k.invariant.long.left k s (omega arith) at in
    omega (arith, h.0, h.1, c.requires.room)

pub loop-k-preserved : goal.loop-k-preserved
loop-k-preserved g c =
    let t = c.args.t in
    let n = c.args.count in
    let k = c.loop-k.k in
    let s = c.index_mut.result.now in
    let new = c.push.new.self in
    let x = c.index-column-gates.result in
    let tracks = c.loop-k.tracks.items in
    let rails = g.V.Signal.signal.rails in
    let column = c.args.column.now in
    let gates = c.args.gates.now in
    let number = number_read gates k _ c.loop-k-test.true in
    let at : slice_get tracks k ≡ Some s =
    slice_get_read tracks (length gates) k s (sym c.loop-k.invariant.count) c.loop-k-test.true
    c.index_mut.ensures.value in
    let there : id_at gates k < length column = c.requires.gates k c.loop-k-test.true in
    let key : slice_get column (id_at gates k) ≡ Some x =
    slice_get_read column (length column) (id_at gates k) x refl there
    (c.index-column-gates.is ∙ ap (λ (i : ℕ). get_or column i x) (sym number)) in
    record {
      count = length-set tracks k new ∙ c.loop-k.invariant.count;
      long =
          part_more (HasKeys c.args.horizon (t + n)) (HasKeys c.args.horizon t) k s new tracks at
          (keys_for c.args.horizon t n k s new c.push.ensures.length c.push.ensures.horizon)
          c.loop-k.invariant.long;
      sent = λ lane keys inside stays have.
          part_more (HasSent rails lane keys (t + n)) (HasSent rails lane keys t) k s new tracks at
          (sent_for c.elements_stay_in_a_stretch.ensures rails lane keys t n k s new x
          (c.push.ensures.keys lane inside)
          (stays k x c.loop-k-test.true key))
          (c.loop-k.invariant.sent lane keys inside stays have);
    }

pub returns-clause-count : goal.returns-clause-count
returns-clause-count g c = record {
  count = c.loop-k.invariant.count;
  each = λ i x at.
      let within : i < length c.loop-k.tracks.items =
      slice_get_within c.loop-k.tracks.items i x at in
      let n : length c.loop-k.tracks.items ≡ length c.args.gates.now = c.loop-k.invariant.count in
      let over : length c.args.gates.now ≤ c.loop-k.k = c.loop-k-test.false in
      c.loop-k.invariant.long.done i x (omega (arith, within, n, over)) at;
}

pub returns-clause-keys : goal.returns-clause-keys
returns-clause-keys g c = λ lane keys inside stays have i x at.
    let within : i < length c.loop-k.tracks.items =
    slice_get_within c.loop-k.tracks.items i x at in
    let n : length c.loop-k.tracks.items ≡ length c.args.gates.now = c.loop-k.invariant.count in
    let over : length c.args.gates.now ≤ c.loop-k.k = c.loop-k-test.false in
    (c.loop-k.invariant.sent lane keys inside stays have).done i x
    (omega (arith, within, n, over)) at
