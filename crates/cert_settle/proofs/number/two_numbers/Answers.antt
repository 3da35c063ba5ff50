use Rattle.std.proofs.Common.{◌∙◌, decimal, sym}
use Rattle.cert_settle.proofs.NumberLaws.{first_is, rest_is, last_is, tail_whole}
use Rattle.cert_settle.proofs.number.two_numbers.Goals as goal

pub returns-in_err-first : goal.returns-in_err-first
returns-in_err-first c =
    rw c.from_residual.ensures (λ n m small little is.
    c.in_err-first.ensures n small
    (first_is c.args.text.now n m is c.find_byte-end.result c.find_byte-end.ensures.place small))

pub returns-in_err-last : goal.returns-in_err-last
returns-in_err-last c =
    rw c.from_residual-in_err-last.ensures (λ n m small little is.
    c.in_err-last.ensures (decimal m)
    (tail_whole c.find_byte-end.result c.args.text.now
    ∙ rest_is c.args.text.now n m is c.find_byte-end.result c.find_byte-end.ensures.place small))

pub returns-in_err-second : goal.returns-in_err-second
returns-in_err-second c =
    rw c.from_residual-in_err-second.ensures (λ n m small little is.
    c.in_err-second.ensures m little
    (last_is c.args.text.now n m is c.find_byte-end.result c.find_byte-end.ensures.place small
    c.in_ok-last.last.now
    (sym (tail_whole c.find_byte-end.result c.args.text.now) ∙ c.in_ok-last.ensures)))
