use Rattle.std.proofs.Common.{◌≡◌, ◌⊎◌, ◌∷◌, ◌++◌, ◌+◌, ◌<◌, ◌∙◌, ℕ, List, [], Ok, ap, arith, drop, length, length-append, map, subst, sym}
use Rattle.std.proofs.lemmas.List.{map-append}
use Rattle.std.proofs.lemmas.Result.{err_from_is_err_and}
use Rattle.call_records.specs.Parts.{RecordParts, parts_from, parts_in}
use Rattle.call_records.specs.Read.{IsMemory, Stops, files_values, record_values}
use Rattle.call_records.specs.SectionFaults.{refused_section}
use Rattle.call_records.specs.declared.fetch.RecorderFiles as code
use Rattle.call_records.proofs.AllParts.{parts_end, parts_next, parts_stop}
use Rattle.call_records.proofs.parts.all_parts.Goals as goal

pub returns-in_err-parts-clause-reads : goal.returns-in_err-parts-clause-reads
returns-in_err-parts-clause-reads c =
    let p = err_from_is_err_and c.from_residual.result c.from_residual.ensures.1 in
    let fs = c.args.files.now in
    let i = c.loop-own.own-index in
    let d = c.own-item.result in
    let inside : i < length fs = omega arith in
    rw (p.1, p.2) (parts_stop fs i d (map record_values c.loop-own.all.items) inside
    (parts_from (map files_values fs) []) c.in_err-parts.field-0.0 c.loop-own.invariant.so_far
    (subst (λ (x : code.RecorderFiles).
    Stops refused_section (parts_in (files_values x)) c.in_err-parts.field-0.0
    ⊎ IsMemory c.in_err-parts.field-0.0) c.own-item.is c.in_err-parts.ensures))

pub loop-own-preserved : goal.loop-own-preserved
loop-own-preserved c =
    let fs = c.args.files.now in
    let i = c.loop-own.own-index in
    let d = c.own-item.result in
    let all = c.loop-own.all.items in
    let own = c.in_ok-parts.parts in
    let inside : i < length fs = omega arith in
    let more = ap length c.in_ok-push.ensures.items in
    let one_longer = length-append all (own ∷ []) in
    let reads = subst (λ (x : code.RecorderFiles). parts_in (files_values x) ≡ Ok (record_values own))
    c.own-item.is c.in_ok-parts.ensures in
    record {
      so_far = c.loop-own.invariant.so_far
          ∙ parts_next fs i d (map record_values all) inside (record_values own) reads
          ∙ ap (parts_from (map files_values (drop (i + 1) fs)))
          (sym (ap (map record_values) c.in_ok-push.ensures.items ∙ map-append record_values all (own ∷ [])));
      many = omega (arith, more, one_longer, c.loop-own.invariant.many);
    }

pub returns-clause-reads : goal.returns-clause-reads
returns-clause-reads c =
    c.loop-own.invariant.so_far
    ∙ parts_end c.args.files.now c.loop-own.own-index (map record_values c.loop-own.all.items) (omega arith)
