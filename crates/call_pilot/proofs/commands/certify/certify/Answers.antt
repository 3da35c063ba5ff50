use Rattle.std.proofs.Common.{◌++◌, ◌∙◌, subst, sym}
use Rattle.std.proofs.lemmas.Result.{err_from_is_err_and}
use Rattle.cert_claims.specs.text.Grammar.{end_text, head_text}
use Rattle.cert_claims.specs.text.Text.{certificate_text, fed, parts_text}
use Rattle.cert_claims.specs.check.Counts.{all_verdicts}
use Rattle.call_answer.specs.Sinks.{GrewByAll, sink_view}
use Rattle.call_pilot.specs.commands.Verdicts.{verdicts_status}
use Rattle.call_answer.specs.SinkLaws.{grew_both}
use Rattle.call_pilot.proofs.commands_lemmas.Parts.{certificate_of, certificate_stops}
use Rattle.call_pilot.proofs.{commands_lemmas.Counts.none_fell_same, commands_lemmas.Verdicts.status_found}
use Rattle.call_pilot.proofs.commands_lemmas.Writing.{stops_more, stops_then}
use Rattle.call_pilot.proofs.commands.certify.certify.Goals as goal

-- the head stops
pub returns-in_err-put_text-clause-writes : goal.returns-in_err-put_text-clause-writes
returns-in_err-put_text-clause-writes g c =
    let p = err_from_is_err_and c.from_residual.result c.from_residual.ensures.1 in
    let line = c.args.study.now.line in
    let scripts = c.args.study.now.scripts.items in
    let all = c.a_certificate_is_made_of_parts.ensures.scripts line scripts c.requires.fit in
    rw (p.1, p.2) (certificate_stops line scripts all.0
    (sink_view g.O.Sink.written g.O.Sink.faults c.args.out.now)
    (sink_view g.O.Sink.written g.O.Sink.faults c.put_text.new.out)
    ((fed head_text ++ parts_text line scripts all.0) ++ fed end_text)
    c.in_err-put_text.field-0.0 all.1
    (c.a_certificate_is_made_of_parts.ensures.text line scripts all.0 all.1)
    (stops_more (fed end_text)
    (stops_more (parts_text line scripts all.0) c.in_err-put_text.ensures)))

-- a part stops
pub returns-in_err-found-clause-writes : goal.returns-in_err-found-clause-writes
returns-in_err-found-clause-writes g c =
    let p = err_from_is_err_and c.from_residual-in_err-found.result
    c.from_residual-in_err-found.ensures.1 in
    let line = c.args.study.now.line in
    let scripts = c.args.study.now.scripts.items in
    let done = rw c.as_slice-scripts.ensures.value at c.in_err-found.ensures.writes in
    rw (p.1, p.2) (certificate_stops line scripts done.claims
    (sink_view g.O.Sink.written g.O.Sink.faults c.args.out.now)
    (sink_view g.O.Sink.written g.O.Sink.faults c.write_parts.new.out)
    ((fed head_text ++ parts_text line scripts done.claims) ++ fed end_text)
    c.in_err-found.field-0.0 done.certified
    (c.a_certificate_is_made_of_parts.ensures.text line scripts done.claims done.certified)
    (stops_more (fed end_text) (stops_then c.in_ok-put_text.ensures done.writes)))

-- the end stops
pub returns-in_err-put_text-2-clause-writes : goal.returns-in_err-put_text-2-clause-writes
returns-in_err-put_text-2-clause-writes g c =
    let p = err_from_is_err_and c.from_residual-in_err-put_text-2.result
    c.from_residual-in_err-put_text-2.ensures.1 in
    let line = c.args.study.now.line in
    let scripts = c.args.study.now.scripts.items in
    let done = rw c.as_slice-scripts.ensures.value at c.in_ok-found.ensures.writes in
    rw (p.1, p.2) (certificate_stops line scripts done.claims
    (sink_view g.O.Sink.written g.O.Sink.faults c.args.out.now)
    (sink_view g.O.Sink.written g.O.Sink.faults c.put_text-2.new.out)
    ((fed head_text ++ parts_text line scripts done.claims) ++ fed end_text)
    c.in_err-put_text-2.field-0.0 done.certified
    (c.a_certificate_is_made_of_parts.ensures.text line scripts done.claims done.certified)
    (stops_then (grew_both c.in_ok-put_text.ensures done.writes) c.in_err-put_text-2.ensures))

pub returns-clause-writes : goal.returns-clause-writes
returns-clause-writes g c =
    let line = c.args.study.now.line in
    let scripts = c.args.study.now.scripts.items in
    let done = rw c.as_slice-scripts.ensures.value at c.in_ok-found.ensures.writes in
    record {
      status = verdicts_status (all_verdicts done.claims);
      text = certificate_text line scripts done.claims;
      is = certificate_of line scripts done.claims done.certified;
      writes = subst (GrewByAll (sink_view g.O.Sink.written g.O.Sink.faults c.args.out.now)
          (sink_view g.O.Sink.written g.O.Sink.faults c.put_text-2.new.out))
          (sym (c.a_certificate_is_made_of_parts.ensures.text line scripts done.claims
          done.certified))
          (grew_both (grew_both c.in_ok-put_text.ensures done.writes)
          c.in_ok-put_text-2.ensures);
      gives = c.status.ensures
          ∙ status_found (all_verdicts done.claims) c.in_ok-found.found done.found;
    }

pub returns-clause-asked : goal.returns-clause-asked
returns-clause-asked g c = rw c.as_slice-scripts.ensures.value at c.in_ok-found.ensures.asked

pub returns-in_err-put_text-clause-kept : goal.returns-in_err-put_text-clause-kept
returns-in_err-put_text-clause-kept g c = none_fell_same (g.G.Engine.calls c.args.engine.now)
