use Rattle.std.proofs.Common.{◌≤◌, ℕ, subst}
use Rattle.std.proofs.lemmas.List.{length-map}
use Rattle.file_records.specs.{map.Maps.map_values, map.Recorders.recorder_values}
use Rattle.call_records.proofs.Maps.{map_facts}
use Rattle.call_records.proofs.read.read_map.Goals as goal

pub returns-in-Ok-clause-few : goal.returns-in-Ok-clause-few
returns-in-Ok-clause-few c =
    let f = map_facts c.args.line.now c.args.asked.bytes.now (map_values c.in-Ok.map) c.in-Ok.ensures in
    subst (λ (n : ℕ). n ≤ 8) (length-map c.in-Ok.map.recorders.items recorder_values) f.few

pub returns-in-Ok-clause-plain : goal.returns-in-Ok-clause-plain
returns-in-Ok-clause-plain c =
    (map_facts c.args.line.now c.args.asked.bytes.now (map_values c.in-Ok.map) c.in-Ok.ensures).plain

pub returns-in-Ok-clause-deadline : goal.returns-in-Ok-clause-deadline
returns-in-Ok-clause-deadline c =
    (map_facts c.args.line.now c.args.asked.bytes.now (map_values c.in-Ok.map) c.in-Ok.ensures).deadline
