use Rattle.call_page.proofs.files.digests.Goals as goal

pub returns : goal.returns
returns c = record {
  one = record { of = c.in_ok-of.of; sha256 = c.in_ok-sha256.sha256 };
  are = (rw c.new-digests.ensures.items at c.in_ok-push.ensures.items);
  hash = c.in_ok-sha256.ensures;
}
