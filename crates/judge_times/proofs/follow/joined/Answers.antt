use Rattle.judge_times.proofs.Joins.{each_more, follow_more, joined_says}
use Rattle.judge_times.proofs.follow.joined.Goals as goal

pub returns-then-same-clause-says : goal.returns-then-same-clause-says
returns-then-same-clause-says c = λ of whole k all one two.
    (all, joined_says of whole k c.args.last c.args.next c.requires.meet (c.same.ensures c.if-same.true) one two)

pub returns-clause-follow : goal.returns-clause-follow
returns-clause-follow c = λ from follow.
    follow_more from c.args.found.now.items c.push.new.self.items c.args.last c.args.next.from
    c.in_ok-push.ensures.items follow c.requires.meet

pub returns-clause-says : goal.returns-clause-says
returns-clause-says c = λ of whole k all one two. (
  each_more of whole k c.args.found.now.items c.push.new.self.items c.args.last c.in_ok-push.ensures.items
      all one,
  two,
)
