use Rattle.std.proofs.Common.{◌<◌, ◌^◌, ℕ, arith}
use Rattle.std.proofs.lemmas.List.Elements.{All-from_get_or}
use Rattle.cert_claims.proofs.text.numbers.each_fits.Goals as goal

pub returns : goal.returns
returns c =
    All-from_get_or (λ (n : ℕ). n < 2 ^ 32) c.args.numbers.now 0
    (λ i lt. omega (arith, c.type_inv.numbers i))
