use Rattle.std.proofs.Common.{◌∙◌, sym}
use Rattle.std.proofs.lemmas.Map.Iter.{rest_more}
use Rattle.std.specs.Map.Iter.{deref_pair}
use Rattle.file_document.proofs.keys.unknown_key.Goals as goal

pub returns-then-not-is_known : goal.returns-then-not-is_known
returns-then-not-is_known c =
    let first = rest_more deref_pair c.loop-key.key-iterator c.next.new.self c.next.result
    (c.in-Some.key, c.in-Some._value) c.in-Some.is c.next.ensures.steps in
    let found = rw c.as_str.ensures.value at (sym c.is_known.ensures ∙ c.if-not-is_known.true) in
    let here = rw (first, found) at c.loop-key.invariant in
    rw c.as_str-then-not-is_known.ensures.value here

pub loop-key-preserved : goal.loop-key-preserved
loop-key-preserved c =
    let first = rest_more deref_pair c.loop-key.key-iterator c.next.new.self c.next.result
    (c.in-Some.key, c.in-Some._value) c.in-Some.is c.next.ensures.steps in
    let found = rw c.as_str.ensures.value at (sym c.is_known.ensures ∙ c.if-not-is_known.false) in
    let here = rw (first, found) at c.loop-key.invariant in
    here
