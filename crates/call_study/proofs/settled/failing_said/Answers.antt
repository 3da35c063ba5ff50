use Rattle.std.proofs.Common.{◌≡◌, Some, inl, inr, refl, slice_get}
use Rattle.call_study.proofs.settled.failing_said.Goals as goal

pub returns-in-Some : goal.returns-in-Some
returns-in-Some c = λ script one.
    let at : slice_get c.args.study.now.scripts.items 0 ≡ Some script = rw one refl in
    let found = rw (c.as_slice-2.ensures.value, c.in-Some.is) at (c.in_ok-found.ensures script at) in
    record {
      rows = c.in_ok-rows.rows.items;
      are = rw one at c.in_ok-rows.ensures;
      status_is = rw c.as_slice.ensures.value at c.in_ok-table.ensures.status_is;
      failing = inr found;
    }

pub returns : goal.returns
returns c = λ script one.
    let at : slice_get c.args.study.now.scripts.items 0 ≡ Some script = rw one refl in
    let found = rw (c.as_slice-2.ensures.value, c.in-None.is) at (c.in_ok-found.ensures script at) in
    record {
      rows = c.in_ok-rows.rows.items;
      are = rw one at c.in_ok-rows.ensures;
      status_is = rw c.as_slice.ensures.value at c.in_ok-table.ensures.status_is;
      failing = inl (found, c.new.ensures.items);
    }
