use Rattle.base_text.proofs.store_lemmas.Digits.{digits_from-digits_value}
use Rattle.base_text.proofs.store.numbers.digits_value.Goals as goal

pub loop-byte-init : goal.loop-byte-init
loop-byte-init c = digits_from-digits_value c.args.bytes.now
