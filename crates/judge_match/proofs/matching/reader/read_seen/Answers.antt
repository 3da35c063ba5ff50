use Rattle.std.proofs.Common.{List, map, sym, subst, length}
use Rattle.std.specs.List.{All}
use Rattle.judge_match.specs.{matching.Heads.IsNamed, matching.Heads.values_of, declared.matching.heads.Head.Head}
use Rattle.judge_match.proofs.matching_lemmas.NamedLaws.{seen_named}
use Rattle.judge_match.proofs.matching.reader.read_seen.Goals as goal

pub returns-clause-named : goal.returns-clause-named
returns-clause-named c =
    seen_named c.args.line.now c.args.scripts.now c.in_ok-seen_under.field-0.items
    (map values_of c.deref.result.now) c.in_ok-seen_under.ensures.said
    (subst (λ (hs : List Head). All (IsNamed (length c.args.scripts.now)) (map values_of hs))
    (sym c.deref.ensures.value) c.in_ok-heads.ensures.named)
