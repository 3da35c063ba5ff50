use Rattle.std.proofs.lemmas.Result.{err_from_is_err_and}
use Rattle.cert_own.specs.Piece.{claims_of}
use Rattle.call_pilot.proofs.commands.certify.write_part.Goals as goal

pub returns-in_err-put_text-clause-writes : goal.returns-in_err-put_text-clause-writes
returns-in_err-put_text-clause-writes g c =
    let p = err_from_is_err_and c.from_residual-in_err-put_text.result
    c.from_residual-in_err-put_text.ensures.1 in
    let said = c.in_ok-said.said in
    rw (p.1, p.2) (record {
      claims = claims_of said.keys.items said.verdicts.items;
      certified = c.answers_are_certified.ensures c.args.compiled.now.line.now c.args.script.now
          said.keys.items said.verdicts.items c.in_ok-said.ensures.certified.keys
          c.in_ok-said.ensures.certified.verdicts;
      writes = rw (c.as_slice.ensures.value, c.in_ok-piece.ensures) at c.in_err-put_text.ensures;
      found = tt;
    })

pub returns-clause-writes : goal.returns-clause-writes
returns-clause-writes g c =
    let said = c.in_ok-said.said in
    record {
      claims = claims_of said.keys.items said.verdicts.items;
      certified = c.answers_are_certified.ensures c.args.compiled.now.line.now c.args.script.now
          said.keys.items said.verdicts.items c.in_ok-said.ensures.certified.keys
          c.in_ok-said.ensures.certified.verdicts;
      writes = rw (c.as_slice.ensures.value, c.in_ok-piece.ensures) at c.in_ok-put_text.ensures;
      found = rw c.as_slice-2.ensures.value at c.found_of.ensures;
    }
