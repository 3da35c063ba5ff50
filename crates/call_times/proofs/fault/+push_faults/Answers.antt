use Rattle.call_times.proofs.Telling.{faults_more, faults_none}
use Rattle.call_times.proofs.fault.+push_faults.Goals as goal

pub returns-in-empty : goal.returns-in-empty
returns-in-empty t c =
    faults_none c.args.exact.now.line.now c.args.faults.now c.args.text.now.items c.nothing.result c.in-empty.len_below
    c.nothing.ensures

pub returns-in_ok-others-in-len1-up : goal.returns-in_ok-others-in-len1-up
returns-in_ok-others-in-len1-up t c =
    faults_more c.args.exact.now.line.now c.args.faults.now c.fault-item.result c.args.text.now.items
    c.push_fault.new.text.items c.push_faults.new.text.items c.in_ok-first-in-len1-up.first
    c.in_ok-others-in-len1-up.others c.both.result c.in-len1-up.len_at_least c.fault-item.is
    c.in_ok-first-in-len1-up.ensures c.in_ok-others-in-len1-up.ensures c.both.ensures
