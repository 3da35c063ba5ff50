use Rattle.std.proofs.Common.{◌∙◌, refl, sym, arith}
use Rattle.judge_match.proofs.matching_lemmas.LevelLaws.{decides_from, decides_not_before, decides_never}
use Rattle.judge_match.proofs.matching.waves.set_by.Goals as goal

pub returns-then-is_of-clause-set : goal.returns-then-is_of-clause-set
returns-then-is_of-clause-set c =
    let now = c.set_back.ensures.set in
    let begins = c.set_back.ensures.begins in
    let own = sym c.is_of.ensures ∙ c.if-is_of.true in
    record {
      earlier = omega arith;
      set = λ t low high. now.within t (omega arith) high ∙ c.known.ensures;
      decided = λ t low high.
          decides_from c.args.terminal c.args.trip c.args.change t own (omega arith);
      below = λ t lt. now.below t (omega arith);
      undecided = λ t lt.
          decides_not_before c.args.terminal c.args.trip c.args.change t own (omega arith);
      above = λ t late. now.above t late;
    }

pub returns-else-is_of-clause-set : goal.returns-else-is_of-clause-set
returns-else-is_of-clause-set c =
    let other = sym c.is_of.ensures ∙ c.if-is_of.false in
    record {
      earlier = omega arith;
      set = λ t low high. absurd (omega arith);
      decided = λ t low high. absurd (omega arith);
      below = λ t lt. refl;
      undecided = λ t lt. decides_never c.args.terminal c.args.trip c.args.change t other;
      above = λ t late. refl;
    }
