-- Microseconds as exact decimals of milliseconds.
use Rattle.std.specs.Prelude.{◌+◌, ◌*◌, ◌/◌, ◌%◌, ◌==◌, ◌++◌, ℕ, List, [], ◌∷◌}
use Rattle.std.specs.Prelude.{decimal, if◌then◌else◌}

-- one digit
abbrev pub digit_of : ℕ → ℕ
digit_of n = 48 + n % 10

-- thousandths behind a point, without zeros at the end; nothing of none
abbrev pub thousandths : ℕ → List ℕ
thousandths n =
    if n == 0 then []
    else if n % 100 == 0 then 46 ∷ digit_of (n / 100) ∷ []
    else if n % 10 == 0 then 46 ∷ digit_of (n / 100) ∷ digit_of (n / 10) ∷ []
    else 46 ∷ digit_of (n / 100) ∷ digit_of (n / 10) ∷ digit_of n ∷ []

abbrev pub ms_text : ℕ → List ℕ
ms_text us = decimal (us / 1000) ++ thousandths (us % 1000)

-- so many ticks in milliseconds
abbrev pub ticks_text : ℕ → ℕ → List ℕ
ticks_text tick_us t = ms_text (t * tick_us)
