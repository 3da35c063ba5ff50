use Rattle.std.proofs.lemmas.Result.{err_from_is_err_and}
use Rattle.call_study.proofs.top.answer.Goals as goal

pub returns-in_err-put_all : goal.returns-in_err-put_all
returns-in_err-put_all g c =
    let p = err_from_is_err_and c.from_residual-in_err-put_all.result
    c.from_residual-in_err-put_all.ensures.1 in
    let said = c.in_ok-said.said in
    let put = c.in_err-put_all.ensures in
    rw (p.1, p.2) (record {
      text = said.text.items;
      is = (said.status, c.in_ok-said.ensures);
      grew = (put.failed, rw c.as_slice.ensures.value at put.part);
    })
