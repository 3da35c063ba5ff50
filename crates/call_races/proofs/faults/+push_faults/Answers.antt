use Rattle.call_races.proofs.OfFaults.{faults_more, faults_none}
use Rattle.call_races.proofs.faults.+push_faults.Goals as goal

pub returns-in-empty : goal.returns-in-empty
returns-in-empty t c =
    faults_none c.args.compiled.now.line.now c.args.groups.now c.args.scripts.now c.args.text.now.items
    c.in-empty.len_below

pub returns-in_ok-others-in-len1-up : goal.returns-in_ok-others-in-len1-up
returns-in_ok-others-in-len1-up t c =
    faults_more c.args.compiled.now.line.now c.args.groups.now c.group-item.result c.args.scripts.now
    c.own_count-own.result c.args.text.now.items c.push_fault.new.text.items c.push_faults.new.text.items
    c.in_ok-first-in-len1-up.first c.in_ok-others-in-len1-up.others c.either.result
    c.in-len1-up.len_at_least c.group-item.is c.own_count-own.ensures c.in_ok-first-in-len1-up.ensures
    c.in_ok-others-in-len1-up.ensures c.either.ensures
