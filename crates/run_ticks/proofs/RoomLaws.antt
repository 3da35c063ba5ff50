-- Numbers of ticks and gates: what fits, and where there is room for it.
use Rattle.std.proofs.Common.{◌≡◌, ℕ, ◌+◌, ◌*◌, ◌<◌, ◌≤◌, Fits, w32, w64, ◌∙◌, ap, arith}
use Rattle.std.proofs.Math.Nat.{mul-le-mul}
use Rattle.std.proofs.lemmas.Nat.{mul-add-lt}
use Rattle.run_step.specs.ValueLaws.{tick_fits}

-- the values of all ticks are no more than a word can count
pub product_fits : (horizon width : ℕ) → horizon ≤ 4000 → width ≤ 512 → Fits w64 (horizon * width)
product_fits horizon width short narrow =
    let most : horizon * width ≤ 4000 * 512 = mul-le-mul short narrow in
    record { fits = omega (arith, most) }

-- so few terminals are counted
pub terminals_fit : (count keys terminals : ℕ) → count ≡ keys → keys ≡ terminals → terminals ≤ 3
    → Fits w32 count
terminals_fit count keys terminals here all few = record { fits = omega (arith, here, all, few) }

pub none_so_far : (n long : ℕ) → long ≡ 0 → long ≡ 0 * n
none_so_far n long none = omega (arith, none)

-- what was made for so many has room for them
pub has_room : (n width room : ℕ) → room ≡ width → width ≡ n → n ≤ room
has_room n width room made same = omega (arith, made, same)

-- room for all is kept where it does not get less
pub room_kept : (n room new : ℕ) → n ≤ room → room ≤ new → n ≤ new
room_kept n room new all more = omega (arith, all, more)

-- a tick's values more
pub tick_more : (t n long wide : ℕ) → long ≡ t * n → wide ≡ n → long + wide ≡ (t + 1) * n
tick_more t n long wide so_far here = omega (arith, so_far, here)

-- a tick's values fit where there is room for all
pub tick_has_room : (t horizon n long wide column room : ℕ) → t < horizon → long ≡ t * n
    → wide ≡ column → column ≡ n → horizon * n ≤ room → long + wide ≤ room
tick_has_room t horizon n long wide column room early so_far here all_here all =
    omega (arith, so_far, here, all_here, all, tick_fits t horizon n early)

-- all values at the last tick
pub all_told : (t horizon n long : ℕ) → horizon ≤ t → t ≤ horizon → long ≡ t * n
    → long ≡ horizon * n
all_told t horizon n long over under so_far =
    let last : t ≡ horizon = omega (arith, over, under) in so_far ∙ ap (λ (m : ℕ). m * n) last

pub fits_once : (t horizon : ℕ) → t < horizon → t + 1 ≤ horizon
fits_once t horizon early = omega (arith, early)

pub next_later : (t : ℕ) → t ≤ t + 1
next_later t = omega arith

-- the place of a gate and a tick is in a list of all
pub place_there : (width horizon gate t long : ℕ) → gate < width → t < horizon
    → long ≡ horizon * width → t * width + gate < long
place_there width horizon gate t long inside before count =
    let lt : t * width + gate < width * horizon = mul-add-lt t width gate horizon before inside in
    omega (arith, lt, count)

-- ---- a walk from gate to gate

pub from_none : (n : ℕ) → 0 ≤ n
from_none n = omega arith

pub no_less : (n : ℕ) → n ≤ n
no_less n = omega arith

-- the walk is over
pub all_done : (long i end n : ℕ) → long ≡ i → i ≤ end → end ≤ i → end ≡ n → long ≡ n
all_done long i end n far under over all = omega (arith, far, under, over, all)

pub is_done : (i k end n : ℕ) → i < n → end ≡ n → end ≤ k → i < k
is_done i k end n inside all over = omega (arith, inside, all, over)

-- one more fits where there is room for all
pub place_left : (long i end n room : ℕ) → long ≡ i → i < end → end ≡ n → n ≤ room → long < room
place_left long i end n room far before all most = omega (arith, far, before, all, most)
