-- The bytes before a place in its line, one byte further.
use Rattle.std.proofs.Common.{◌≡◌, ◌+◌, ◌==◌, ℕ, List, get_or, add-one, if◌then◌else◌}
use Rattle.call_refused.specs.places.Places.{before_in_line}

pub one_byte_more : (bytes : List ℕ) (i : ℕ)
    → before_in_line bytes (i + 1)
    ≡ (if get_or bytes i 0 == 10 then 0 else before_in_line bytes i + 1)
unfolding before_in_line
one_byte_more bytes i = rw add-one
