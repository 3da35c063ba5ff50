-- The commands: what each answers, and what it asks of the engine.
use Rattle.call_pilot.specs.commands.Bench.{bench_answer, bench_asks}
use Rattle.call_pilot.specs.{commands.Asked.Asks, commands.Asked.asks_nothing}
use Rattle.call_answer.specs.Answers.{Answers}
use Rattle.call_pilot.specs.commands.Certify.{certify_answer}
use Rattle.call_pilot.specs.{commands.Certify.certify_asks, commands.Check.check_answer, commands.Check.check_asks}
use Rattle.call_pilot.specs.{commands.Line.line_answer, commands.Margin.margin_answer, commands.Match.match_answer}
use Rattle.call_pilot.specs.{commands.Migrate.migrate_answer, commands.Net.net_answer, commands.Play.play_answer}
use Rattle.call_pilot.specs.commands.Play.{play_asks}
use Rattle.call_pilot.specs.{commands.Recheck.recheck_answer, commands.Report.report_answer, commands.Split.split_answer}
use Rattle.call_pilot.specs.top.Work as work
use Rattle.call_pilot.specs.top.Work.{Work}

abbrev pub answer : Work → Answers
answer (work.net line) = net_answer line
answer (work.line line) = line_answer line
answer (work.migrate line) = migrate_answer line
answer (work.certify line scripts) = certify_answer line scripts
answer (work.report line scripts) = report_answer line scripts
answer (work.play line scripts timings) = play_answer line scripts timings
answer (work.check line scripts cert) = check_answer line scripts cert
answer (work.matching line scripts records) = match_answer line scripts records
answer (work.recheck line scripts trees) = recheck_answer line scripts trees
answer (work.margin line scripts param) = margin_answer line scripts param
answer (work.split line scripts n) = split_answer line scripts n
answer (work.bench n) = bench_answer n

abbrev pub asks : Work → Asks
asks (work.certify line scripts) = certify_asks line scripts
asks (work.play line scripts timings) = play_asks line scripts timings
asks (work.check line scripts cert) = check_asks line
asks (work.bench n) = bench_asks n
asks w = asks_nothing
