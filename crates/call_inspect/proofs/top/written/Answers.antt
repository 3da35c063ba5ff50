use Rattle.std.proofs.lemmas.Result.{err_from_is_err_and}
use Rattle.call_inspect.proofs.top.written.Goals as goal

pub returns-in_err-put_all : goal.returns-in_err-put_all
returns-in_err-put_all g c =
    let p = err_from_is_err_and c.from_residual-in_err-put_all.result
    c.from_residual-in_err-put_all.ensures.1 in
    let put = c.in_err-put_all.ensures in
    rw (p.1, p.2) (
      c.in_ok-said.ensures.0,
      record {
        text = c.in_ok-said.said.text.items;
        is = (c.in_ok-said.said.status, c.in_ok-said.ensures.1);
        grew = (put.failed, rw c.as_slice.ensures.value at put.part);
      },
    )
