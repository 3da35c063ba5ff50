use Rattle.std.proofs.Common.{refl}
use Rattle.file_line.specs.Lines.{line_values}
use Rattle.call_pilot.proofs.commands_lemmas.Counts.{grew_all, grew_kept, rose_later}
use Rattle.call_pilot.proofs.commands.run_bench.bench.Goals as goal

pub certified_text-requires : goal.certified_text-requires
certified_text-requires g c = record {
  fit = rw c.as_slice.ensures.value
      (c.in_ok-scripts.ensures.fit c.in_ok-line.line c.in_ok-line.ensures);
}

pub check-requires-clause-fits : goal.check-requires-clause-fits
check-requires-clause-fits g c =
    rw c.as_slice-2.ensures.value
    (c.in_ok-scripts.ensures.fit c.in_ok-line.line c.in_ok-line.ensures)

pub returns-in-Ok-clause-asked : goal.returns-in-Ok-clause-asked
returns-in-Ok-clause-asked g c =
    let line = line_values c.in_ok-line.line in
    let asked = rw c.as_slice.ensures.value at c.in_ok-cert.ensures.asked in (
      c.in_ok-line.line,
      c.in_ok-line.ensures,
      grew_kept _ _ _ c.args.number
          (grew_all _ _ _ c.args.number c.in_ok-scripts.ensures.are.count asked)
          (c.in-Ok.ensures.kept.certifies line),
      rose_later _ _ _ (c.in_ok-cert.ensures.kept.checks line) c.in-Ok.ensures.asked,
    )

pub returns-in-Ok-clause-said : goal.returns-in-Ok-clause-said
returns-in-Ok-clause-said g c =
    let line = c.in_ok-line.line in
    let scripts = c.in_ok-scripts.scripts.items in
    let fit = c.in_ok-scripts.ensures.fit line c.in_ok-line.ensures in
    let own = rw c.as_slice.ensures.value at c.in_ok-cert.ensures.text in
    let accepted =
    rw (c.as_slice-2.ensures.value, c.as_slice-3.ensures.value, own.text_is)
    at c.in-Ok.ensures.exact in
    rw c.good.ensures (
      refl,
      record {
        line = line;
        is_line = c.in_ok-line.ensures;
        scripts = scripts;
        are_scripts = c.in_ok-scripts.ensures.are;
        claims = own.claims;
        certified = own.certified;
        counts = c.in-Ok.counts;
        counted = c.what_is_certified_is_accepted.ensures.counts line scripts own.claims
            c.in-Ok.counts fit own.certified accepted;
        text_is = c.in_ok-text-in-Ok.ensures;
      },
    )

-- the own certificate has no fault
pub unreachable-requires : goal.unreachable-requires
unreachable-requires g c =
    let line = c.in_ok-line.line in
    let scripts = c.in_ok-scripts.scripts.items in
    let fit = c.in_ok-scripts.ensures.fit line c.in_ok-line.ensures in
    let own = rw c.as_slice.ensures.value at c.in_ok-cert.ensures.text in
    let fault =
    rw (c.as_slice-2.ensures.value, c.as_slice-3.ensures.value, own.text_is, c.in-Err-Fault.field-0-is)
    at c.in-Err-Fault.ensures.exact in
    c.what_is_certified_is_accepted.ensures.no_fault line scripts own.claims _ fit own.certified fault
