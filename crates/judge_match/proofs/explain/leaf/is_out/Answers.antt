use Rattle.std.proofs.Common.{◌<◌, ◌∙◌, ap, arith, sym, Some, length}
use Rattle.std.proofs.lemmas.Option.{slice_get-get_or}
use Rattle.judge_match.proofs.explain_lemmas.ExcludedLaws.{out_of}
use Rattle.judge_match.proofs.explain.leaf.is_out.Goals as goal

pub returns-then-is_one_out : goal.returns-then-is_one_out
returns-then-is_one_out c = λ within u are on.
    let all = c.args.all.now in
    let tracks = c.args.tracks.now in
    let inside : c.loop-k.k < length tracks = c.loop-k-test.true in
    let there : c.loop-k.k < length all =
    omega (arith, inside, c.requires.all, c.requires.tracks.count) in
    out_of c.args.line.now within u all tracks c.loop-k.k c.index-all-k.result
    c.index-tracks-k.result are
    (slice_get-get_or all c.loop-k.k c.index-all-k.result there ∙ ap Some (sym c.index-all-k.is))
    (slice_get-get_or tracks c.loop-k.k c.index-tracks-k.result inside
    ∙ ap Some (sym c.index-tracks-k.is))
    (c.is_one_out.ensures c.if-is_one_out.true)
