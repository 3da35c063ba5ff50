use Rattle.std.proofs.Common.{◌≡◌, ℕ, refl, ap, arith}
use Rattle.std.proofs.lemmas.Option.{slice_get_within}
use Rattle.model_history.specs.ListLaws.{at_index, one_value}
use Rattle.judge_races.specs.declared.races.Race.{Race}
use Rattle.judge_races.proofs.RaceLaws.{race_worse, race_stays, race_added, found_at, found_none}
use Rattle.judge_races.proofs.races.put_race.Goals as goal

pub returns-then-race-index : goal.returns-then-race-index
returns-then-race-index c = λ all counts horizon is counted within are.
    let races = c.args.races.now.items in
    let i : ℕ = c.in-Some.i in
    let old = found_at races _ c.args.race.ends.items _ i
    c.deref.ensures.value c.deref-2.ensures.value c.in-Some.ensures in
    let read : Race = c.index.result.now in
    let there = at_index races i read (slice_get_within races i old.race old.there) c.index.ensures in
    let lack : read.lack ≡ old.race.lack =
    ap (λ (x : Race). x.lack) (one_value races i i read old.race refl there old.there) in
    race_worse all counts horizon c.args.race.place c.args.race.tick c.args.race is refl refl counted
    races _ i old refl (omega (arith, lack, c.if-race-index.true)) are

pub returns-else-race-index : goal.returns-else-race-index
returns-else-race-index c = λ all counts horizon is counted within are.
    let races = c.args.races.now.items in
    let i : ℕ = c.in-Some.i in
    let old = found_at races _ c.args.race.ends.items _ i
    c.deref.ensures.value c.deref-2.ensures.value c.in-Some.ensures in
    let read : Race = c.index.result.now in
    let there = at_index races i read (slice_get_within races i old.race old.there) c.index.ensures in
    let lack : read.lack ≡ old.race.lack =
    ap (λ (x : Race). x.lack) (one_value races i i read old.race refl there old.there) in
    race_stays all counts horizon c.args.race.place c.args.race.tick c.args.race is refl refl counted
    races i old (omega (arith, lack, c.if-race-index.false)) are

pub returns-in_ok-push-in-None : goal.returns-in_ok-push-in-None
returns-in_ok-push-in-None c = λ all counts horizon is counted within are.
    let none = found_none c.args.races.now.items _ c.args.race.ends.items _
    c.deref.ensures.value c.deref-2.ensures.value c.in-None.ensures in
    race_added all counts horizon c.args.race.place c.args.race.tick c.args.race is refl refl counted
    c.args.races.now.items c.push.new.self.items none c.in_ok-push-in-None.ensures.items are
