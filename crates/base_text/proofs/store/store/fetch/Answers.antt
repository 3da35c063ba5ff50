use Rattle.std.proofs.Common.{◌≡◌, ◌≤◌, ◌<◌, ◌+◌, ◌++◌, length, take, drop, ◌∙◌, ap, refl, arith}
use Rattle.std.proofs.Math.Nat.{le_refl, le_trans, le-add_right}
use Rattle.std.proofs.lemmas.List.{take_at}
use Rattle.base_text.proofs.store_lemmas.Counted.{grew_none, grew_more, grew_past_limit, none_fell, pulls_more}
use Rattle.base_text.proofs.store_lemmas.Counted.{pulls_within}
use Rattle.base_text.proofs.store_lemmas.Counted.{whole_apart, failed_apart, memory_apart}
use Rattle.base_text.proofs.store_lemmas.Fetched.{long_with_piece, front_with_piece}
use Rattle.base_text.proofs.store_lemmas.Fetched.{whole_at_end, held_past_limit, none_fetched}
use Rattle.base_text.proofs.store_lemmas.Fetched.{past_limit, within_limit, turn_more}
use Rattle.base_text.proofs.store.store.fetch.Goals as goal

pub returns-in_default : goal.returns-in_default
returns-in_default g c = record {
  short = tt;
  whole = tt;
  held = refl;
  fault = tt;
  taken = memory_apart;
  gives = le_refl _;
  later = λ _. le_refl _;
  same = tt;
  counts = λ _. refl;
  pulled = le_refl _;
  pulls = le-add_right _ _;
}

pub loop-turn-init : goal.loop-turn-init
loop-turn-init g c = rw c.new-all.ensures.items (record {
  progress = le_refl _;
  within = omega arith;
  room = rw c.in-Ok.ensures (omega arith);
  held = refl;
  same = λ _. refl;
  gives = le_refl _;
  given = grew_none _;
  pulled = le_refl _;
  pulls = le-add_right _ _;
  front = none_fetched _;
})

pub pull-requires : goal.pull-requires
pull-requires g c =
    rw (c.len.ensures ∙ c.loop-turn.all.ok.0) (le_trans c.loop-turn.invariant.within c.requires)

pub overflow_sub-limit : goal.overflow_sub-limit
overflow_sub-limit g c =
    rw (c.len-in-loop-turn.ensures ∙ c.loop-turn.all.ok.0) c.loop-turn.invariant.within

pub loop-turn-preserved : goal.loop-turn-preserved
loop-turn-preserved g c =
    let before = c.loop-turn.invariant in
    let pulled = c.in-Ok-pull.ensures in
    let old = c.loop-turn.all.items in
    let new = c.extend_from_slice.new.self.items in
    let into = c.pull.new.into in
    let count = c.in-Ok-pull.count in
    let bound : count ≤ length into = pulled.bound in
    let room : length into ≡ c.loop-turn.piece.len = c.pull.auto.into ∙ c.as_mut_slice.ensures.len in
    let piece = take_at into (drop (length into) c.loop-turn.piece.items) c.loop-turn.piece.len room in
    let appended : new ≡ old ++ take count into =
    c.in-Ok-extend_from_slice.ensures.items
    ∙ ap (λ x. old ++ take count x) (c.deref.ensures.value ∙ piece) in
    let long : length new ≡ length old + count =
    long_with_piece old into new count bound appended in
    let start : c.len.result ≡ length old = c.len.ensures ∙ c.loop-turn.all.ok.0 in
    let bytes = rw (before.held, start) at pulled.bytes in
    let size = c.len-in-loop-turn.ensures ∙ c.loop-turn.all.ok.0 in
    record {
      progress = turn_more _ _ _ _ before.progress c.if-count-eq0.false long;
      within = within_limit _ _ _ _ _ size before.within c.if-count-limit.false long;
      room = rw (piece, room ∙ c.loop-turn.piece.ok.0) before.room;
      held = pulled.held ∙ before.held;
      same = λ name. pulled.same name ∙ before.same name;
      gives = le_trans before.gives pulled.gives;
      given = grew_more _ _ _ _ _ _ before.given pulled.given long;
      pulled = le_trans before.pulled pulled.pulled;
      pulls = pulls_more _ _ _ _ before.pulls pulled.pulls;
      front =
          front_with_piece (g.S.Store.held c.args.store.now c.args.name.now) old into new count
          before.front bytes bound appended;
    }

pub returns-in_default-pull : goal.returns-in_default-pull
returns-in_default-pull g c =
    let before = c.loop-turn.invariant in
    let pulled = c.in_default-pull.ensures in
    record {
      short = tt;
      whole = tt;
      held = pulled.held ∙ before.held;
      fault = tt;
      taken = failed_apart;
      gives = le_trans before.gives pulled.gives;
      later = none_fell _ _ _ before.same pulled.later;
      same = tt;
      counts = rw (← before.same c.args.name.now) pulled.failed;
      pulled = le_trans before.pulled pulled.pulled;
      pulls = pulls_within _ _ _ _ _ before.pulls c.loop-turn-test.true pulled.pulls;
    }

pub returns-then-count-eq0 : goal.returns-then-count-eq0
returns-then-count-eq0 g c =
    let before = c.loop-turn.invariant in
    let pulled = c.in-Ok-pull.ensures in
    let start : c.len.result ≡ length c.loop-turn.all.items =
    c.len.ensures ∙ c.loop-turn.all.ok.0 in
    let bytes = rw (before.held, start) at pulled.bytes in
    let room =
    c.pull.auto.into ∙ c.as_mut_slice.ensures.len ∙ c.loop-turn.piece.ok.0 in
    record {
      short = before.within;
      whole = whole_at_end _ _ _ _ before.front bytes c.if-count-eq0.true (rw room before.room);
      held = pulled.held ∙ before.held;
      fault = tt;
      taken = whole_apart _;
      gives = le_trans before.gives pulled.gives;
      later = none_fell _ _ _ before.same pulled.later;
      same = λ name. pulled.same name ∙ before.same name;
      counts = tt;
      pulled = le_trans before.pulled pulled.pulled;
      pulls = pulls_within _ _ _ _ _ before.pulls c.loop-turn-test.true pulled.pulls;
    }

pub returns-then-count-limit : goal.returns-then-count-limit
returns-then-count-limit g c =
    let before = c.loop-turn.invariant in
    let pulled = c.in-Ok-pull.ensures in
    let start : c.len.result ≡ length c.loop-turn.all.items =
    c.len.ensures ∙ c.loop-turn.all.ok.0 in
    let bytes = rw (before.held, start) at pulled.bytes in
    let past : c.args.limit < length c.loop-turn.all.items + c.in-Ok-pull.count =
    past_limit _ _ _ _ (c.len-in-loop-turn.ensures ∙ c.loop-turn.all.ok.0) c.if-count-limit.true in
    record {
      short = tt;
      whole = tt;
      held = pulled.held ∙ before.held;
      fault = held_past_limit _ _ _ _ _ before.front bytes pulled.bound past;
      taken = λ too_long. grew_past_limit _ _ _ _ _ _ before.given pulled.given past;
      gives = le_trans before.gives pulled.gives;
      later = none_fell _ _ _ before.same pulled.later;
      same = tt;
      counts = λ name. pulled.same name ∙ before.same name;
      pulled = le_trans before.pulled pulled.pulled;
      pulls = pulls_within _ _ _ _ _ before.pulls c.loop-turn-test.true pulled.pulls;
    }

pub returns-in_default-extend_from_slice : goal.returns-in_default-extend_from_slice
returns-in_default-extend_from_slice g c =
    let before = c.loop-turn.invariant in
    let pulled = c.in-Ok-pull.ensures in
    record {
      short = tt;
      whole = tt;
      held = pulled.held ∙ before.held;
      fault = tt;
      taken = memory_apart;
      gives = le_trans before.gives pulled.gives;
      later = none_fell _ _ _ before.same pulled.later;
      same = tt;
      counts = λ name. pulled.same name ∙ before.same name;
      pulled = le_trans before.pulled pulled.pulled;
      pulls = pulls_within _ _ _ _ _ before.pulls c.loop-turn-test.true pulled.pulls;
    }
