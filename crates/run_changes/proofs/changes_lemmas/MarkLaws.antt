-- Gates that have a mark.
use Rattle.std.proofs.Common.{◌≡◌, ◌≢◌, ℕ, ◌+◌, ◌-◌, ◌*◌, ◌/◌, ◌%◌, ◌^◌, ◌<◌, ◌≤◌, ◌⊎◌, List, get_or, length}
use Rattle.std.proofs.Common.{Some, refl, sym, ◌∙◌, ap, subst, arith, inl, inr, ⊎_elim, w64}
use Rattle.std.proofs.Common.{length-set, bit_and, bit_or, min, max, [], ◌∷◌, zero, suc}
use Rattle.std.proofs.lemmas.Bool.{cases_eq, cases_lt}
use Rattle.std.proofs.lemmas.List.{get_or-set_same, get_or-set_other, get_or_read}
use Rattle.std.proofs.lemmas.Nat.{mul-add-lt, mul-le}
use Rattle.std.proofs.lemmas.Option.{slice_get_within}
use Rattle.std.proofs.lemmas.Nat.Bits.{bit_at_and, bit_at_or, bit_at-lt, bit_at-zero, ones_shl}
use Rattle.std.proofs.lemmas.Nat.Bits.{bit_at_mask_inside, bit_at_mask_below, bit_at-trailing_zeros}
use Rattle.std.proofs.lemmas.Nat.Bits.{bit_at_set_same, bit_at_set_other, bit_at_clear_other}
use Rattle.std.specs.Prelude.{slice_get, slice_set}
use Rattle.std.specs.Int.{bit_at, bit_not, trailing_zeros}
use Rattle.run_changes.specs.changes.Marks.{AreMarked, HasRoom, IsMarked, IsPlanned, MarksStay}
use Rattle.run_changes.specs.declared.changes.marks.Marks.{Marks}
use Rattle.model_history.specs.ListLaws.{at_set}

-- ---- one word written

-- the gate of a bit that is set
mark_here : (words : List ℕ) (i word : ℕ) → i < 64 * length words → bit_at word (i % 64) ≡ 1
    → IsMarked i (slice_set words (i / 64) word)
mark_here words i word lt on =
    let inside : i / 64 < length words = omega (arith, lt) in
    ap (λ (x : ℕ). bit_at x (i % 64)) (get_or-set_same words (i / 64) word 0 inside) ∙ on

-- another gate, whose bit stays if it is one of the word
mark_other : (words : List ℕ) (i k word : ℕ) → i < 64 * length words
    → (k / 64 ≡ i / 64 → bit_at (get_or words (i / 64) 0) (k % 64) ≡ 1 → bit_at word (k % 64) ≡ 1)
    → IsMarked k words → IsMarked k (slice_set words (i / 64) word)
mark_other words i k word lt stays marked =
    let inside : i / 64 < length words = omega (arith, lt) in
    let set : List ℕ = slice_set words (i / 64) word in
    ⊎_elim
    (λ here.
    ap (λ (p : ℕ). bit_at (get_or set p 0) (k % 64)) here
    ∙ ap (λ (x : ℕ). bit_at x (k % 64)) (get_or-set_same words (i / 64) word 0 inside)
    ∙ stays here (ap (λ (p : ℕ). bit_at (get_or words p 0) (k % 64)) (sym here) ∙ marked))
    (λ other.
    ap (λ (x : ℕ). bit_at x (k % 64)) (get_or-set_other words (i / 64) (k / 64) word 0 other)
    ∙ marked)
    (cases_eq (k / 64) (i / 64))

pub marked_now : (words : List ℕ) (i word : ℕ) → i < 64 * length words
    → IsMarked i (slice_set words (i / 64) (bit_or word (1 * 2 ^ (i % 64) % 2 ^ 64)))
marked_now words i word lt =
    let within : i % 64 < 64 = omega arith in
    mark_here words i (bit_or word (1 * 2 ^ (i % 64) % 2 ^ 64)) lt
    (bit_at_set_same w64 word (i % 64) within)

pub marked_still : (words : List ℕ) (i old : ℕ) → i < 64 * length words
    → old ≡ get_or words (i / 64) old
    → MarksStay words (slice_set words (i / 64) (bit_or old (1 * 2 ^ (i % 64) % 2 ^ 64)))
marked_still words i old lt read k marked =
    let within : i % 64 < 64 = omega arith in
    let place : i / 64 < length words = omega (arith, lt) in
    let is : get_or words (i / 64) 0 ≡ old = sym (get_or_read words (i / 64) old place read 0) in
    let word : ℕ = bit_or old (1 * 2 ^ (i % 64) % 2 ^ 64) in
    mark_other words i k word lt
    (λ here on. ⊎_elim
    (λ same. ap (λ (b : ℕ). bit_at word b) same ∙ bit_at_set_same w64 old (i % 64) within)
    (λ other. bit_at_set_other w64 old (i % 64) within (k % 64) other
    ∙ ap (λ (x : ℕ). bit_at x (k % 64)) (sym is) ∙ on)
    (cases_eq (k % 64) (i % 64)))
    marked

pub marked_others : (words : List ℕ) (i k old : ℕ) → i < 64 * length words
    → old ≡ get_or words (i / 64) old → k ≢ i → IsMarked k words
    → IsMarked k (slice_set words (i / 64)
    (bit_and old (bit_not w64 (1 * 2 ^ (i % 64) % 2 ^ 64))))
marked_others words i k old lt read ne marked =
    let within : i % 64 < 64 = omega arith in
    let inside : k % 64 < 64 = omega arith in
    let place : i / 64 < length words = omega (arith, lt) in
    let is : get_or words (i / 64) 0 ≡ old = sym (get_or_read words (i / 64) old place read 0) in
    mark_other words i k (bit_and old (bit_not w64 (1 * 2 ^ (i % 64) % 2 ^ 64))) lt
    (λ here on.
    bit_at_clear_other w64 old (i % 64) within (k % 64) inside
    (λ same. ne (omega (arith, here, same)))
    ∙ ap (λ (x : ℕ). bit_at x (k % 64)) (sym is) ∙ on)
    marked

-- ---- the lowest bit from one on

min_one : (a m : ℕ) → m ≡ 1 → a < 2 → min a m ≡ a
min_one a m one small = omega (arith, one, small)

min_none : (a m : ℕ) → m ≡ 0 → min a m ≡ 0
min_none a m none = omega (arith, none)

-- the bits from one on
abbrev rest_from : ℕ → ℕ → ℕ
rest_from word from = bit_and word ((2 ^ 64 - 1) * 2 ^ from % 2 ^ 64)

rest_is : (word from k : ℕ) → from < 64
    → bit_at (rest_from word from) k ≡ min (bit_at word k) (bit_at (2 ^ 64 - 2 ^ from) k)
rest_is word from k lt =
    let le : from ≤ 64 = omega (arith, lt) in
    ap (λ (m : ℕ). bit_at (bit_and word m) k) (ones_shl 64 from le)
    ∙ bit_at_and word (2 ^ 64 - 2 ^ from) k

rest_has : (word from k : ℕ) → from < 64 → from ≤ k → k < 64
    → bit_at (rest_from word from) k ≡ bit_at word k
rest_has word from k lt low high =
    rest_is word from k lt
    ∙ min_one (bit_at word k) (bit_at (2 ^ 64 - 2 ^ from) k) (bit_at_mask_inside from 64 k low high)
    (bit_at-lt word k)

rest_below : (word from k : ℕ) → from < 64 → k < from → bit_at (rest_from word from) k ≡ 0
rest_below word from k lt low =
    rest_is word from k lt
    ∙ min_none (bit_at word k) (bit_at (2 ^ 64 - 2 ^ from) k) (bit_at_mask_below from 64 k low)

pub none_from : (word from k : ℕ) → from < 64 → from ≤ k → k < 64 → rest_from word from ≡ 0
    → bit_at word k ≡ 0
none_from word from k lt low high none =
    sym (rest_has word from k lt low high) ∙ ap (λ (x : ℕ). bit_at x k) none ∙ bit_at-zero k

pub lowest_later : (word from : ℕ) → from < 64 → 0 < rest_from word from
    → rest_from word from < 2 ^ 64 → from ≤ trailing_zeros w64 (rest_from word from)
lowest_later word from lt some fits =
    let place : ℕ = trailing_zeros w64 (rest_from word from) in
    let lowest = bit_at-trailing_zeros w64 (rest_from word from) some fits in
    ⊎_elim
    (λ low. let one : bit_at (rest_from word from) place ≡ 1 = lowest.1 in
    let none : bit_at (rest_from word from) place ≡ 0 = rest_below word from place lt low in
    absurd (omega (arith, one, none)))
    (λ ge. ge)
    (cases_lt place from)

pub lowest_limited : (word from : ℕ) → 0 < rest_from word from → rest_from word from < 2 ^ 64
    → trailing_zeros w64 (rest_from word from) ≤ 64
lowest_limited word from some fits =
    let lowest = bit_at-trailing_zeros w64 (rest_from word from) some fits in
    let lt : trailing_zeros w64 (rest_from word from) < 64 = lowest.0 in omega (arith, lt)

pub lowest_passed : (word from k : ℕ) → from < 64 → 0 < rest_from word from
    → rest_from word from < 2 ^ 64 → from ≤ k → k < trailing_zeros w64 (rest_from word from)
    → bit_at word k ≡ 0
lowest_passed word from k lt some fits low below =
    let lowest = bit_at-trailing_zeros w64 (rest_from word from) some fits in
    let limit : trailing_zeros w64 (rest_from word from) < 64 = lowest.0 in
    let high : k < 64 = omega (arith, below, limit) in
    sym (rest_has word from k lt low high) ∙ lowest.2 k below

-- a gate of a word that has no bit from one to another
pub word_passed : (words : List ℕ) (gate bit i : ℕ) → gate ≤ i → i < gate / 64 * 64 + bit → bit ≤ 64
    → ((k : ℕ) → gate % 64 ≤ k → k < bit → bit_at (get_or words (gate / 64) 0) k ≡ 0)
    → IsMarked i words → ⊥
word_passed words gate bit i low high limit none marked =
    let word : i / 64 ≡ gate / 64 = omega (arith, low, high, limit) in
    let from : gate % 64 ≤ i % 64 = omega (arith, low, high, limit) in
    let to : i % 64 < bit = omega (arith, low, high, limit) in
    let zero : bit_at (get_or words (gate / 64) 0) (i % 64) ≡ 0 = none (i % 64) from to in
    let one : bit_at (get_or words (gate / 64) 0) (i % 64) ≡ 1 =
    ap (λ (p : ℕ). bit_at (get_or words p 0) (i % 64)) (sym word) ∙ marked in
    absurd (omega (arith, zero, one))

-- words without a bit
pub none_marked : (words : List ℕ) → ((k word : ℕ) → slice_get words k ≡ Some word → word ≡ 0)
    → (k : ℕ) → get_or words k 0 ≡ 0
none_marked [] none k = refl
none_marked (x ∷ xs) none zero = none 0 x refl
none_marked (x ∷ xs) none (suc k) = none_marked xs (λ j word at. none (suc j) word at) k

pub not_marked : (words : List ℕ) (i : ℕ)
    → ((k word : ℕ) → slice_get words k ≡ Some word → word ≡ 0) → IsMarked i words → ⊥
not_marked words i none marked =
    let zero : bit_at (get_or words (i / 64) 0) (i % 64) ≡ 0 =
    ap (λ (x : ℕ). bit_at x (i % 64)) (none_marked words none (i / 64)) ∙ bit_at-zero (i % 64) in
    absurd (omega (arith, zero, marked))

-- ---- an agenda

-- there is a bit for the gate in the row
pub plan_room : (width row gate length : ℕ) → row < 512 → gate < 64 * width
    → 512 * width ≤ length → 64 * (row * width) + gate < 64 * length
plan_room width row gate length early inside room =
    let place : gate / 64 < width = omega (arith, inside) in
    let lt = mul-add-lt row width (gate / 64) 512 early place in
    omega (arith, lt, room)

pub plan_fits : (width row : ℕ) → row < 512 → width ≤ 9 → row * width < 4609
plan_fits width row early few =
    let le : row * width ≤ 512 * 9 = mul-le row width 512 9 (omega arith) few in
    omega (arith, le)

-- the gate's bit of a row, by its word
pub agenda_word : (width row i : ℕ) → (64 * (row * width) + i) / 64 ≡ row * width + i / 64
agenda_word width row i = omega arith

pub agenda_bit : (width row i : ℕ) → (64 * (row * width) + i) % 64 ≡ i % 64
agenda_bit width row i = omega arith

-- a word of another row stands before the row or behind it
pub other_row : (width row other k : ℕ) → other ≢ row → k < width
    → (other * width + k < row * width) ⊎ (row * width + width ≤ other * width + k)
other_row width row other k ne inside =
    ⊎_elim
    (λ low. let lt = mul-add-lt other width k row low inside in inl (omega (arith, lt)))
    (λ ge. let more : row + 1 ≤ other = omega (arith, ge, ne) in
    let le = mul-le (row + 1) width other width more (omega arith) in inr (omega (arith, le)))
    (cases_lt other row)

-- what has a mark in words that are the same at the gate's word has it still
pub marked_same : (old new : List ℕ) (i : ℕ) → get_or new (i / 64) 0 ≡ get_or old (i / 64) 0
    → IsMarked i old → IsMarked i new
marked_same old new i same on = ap (λ (x : ℕ). bit_at x (i % 64)) same ∙ on

max_one : (a b : ℕ) → a < 2 → b ≡ 1 → max a b ≡ 1
max_one a b small one = omega (arith, small, one)

max_first : (a b : ℕ) → a ≡ 1 → b < 2 → max a b ≡ 1
max_first a b one small = omega (arith, small, one)

-- a word joined with another has the bits of both
pub joined_first : (words : List ℕ) (k old more : ℕ) → k < length words → old ≡ get_or words k old
    → MarksStay words (slice_set words k (bit_or old more))
joined_first words k old more place read i marked =
    let is : get_or words k 0 ≡ old = sym (get_or_read words k old place read 0) in
    let set : List ℕ = slice_set words k (bit_or old more) in
    ⊎_elim
    (λ here.
    ap (λ (q : ℕ). bit_at (get_or set q 0) (i % 64)) here
    ∙ ap (λ (x : ℕ). bit_at x (i % 64)) (get_or-set_same words k (bit_or old more) 0 place)
    ∙ bit_at_or old more (i % 64)
    ∙ max_first (bit_at old (i % 64)) (bit_at more (i % 64))
    (ap (λ (x : ℕ). bit_at x (i % 64)) (sym is)
    ∙ ap (λ (q : ℕ). bit_at (get_or words q 0) (i % 64)) (sym here) ∙ marked)
    (bit_at-lt more (i % 64)))
    (λ other.
    ap (λ (x : ℕ). bit_at x (i % 64)) (get_or-set_other words k (i / 64) (bit_or old more) 0 other)
    ∙ marked)
    (cases_eq (i / 64) k)

pub joined_more : (words : List ℕ) (k old more i : ℕ) → k < length words → i / 64 ≡ k
    → bit_at more (i % 64) ≡ 1 → IsMarked i (slice_set words k (bit_or old more))
joined_more words k old more i place here on =
    let set : List ℕ = slice_set words k (bit_or old more) in
    ap (λ (q : ℕ). bit_at (get_or set q 0) (i % 64)) here
    ∙ ap (λ (x : ℕ). bit_at x (i % 64)) (get_or-set_same words k (bit_or old more) 0 place)
    ∙ bit_at_or old more (i % 64)
    ∙ max_one (bit_at old (i % 64)) (bit_at more (i % 64)) (bit_at-lt old (i % 64)) on

-- a gate's bit of the word at its tick
pub planned_bit : (agenda : List ℕ) (width t i k place word : ℕ) → place ≡ t * width + k
    → place < length agenda → word ≡ get_or agenda place word → i / 64 ≡ k
    → IsMarked (64 * (t * width) + i) agenda → bit_at word (i % 64) ≡ 1
planned_bit agenda width t i k place word is inside read here on =
    let same : place ≡ (64 * (t * width) + i) / 64 =
    is ∙ ap (λ (n : ℕ). t * width + n) (sym here) ∙ sym (agenda_word width t i) in
    ap (λ (x : ℕ). bit_at x (i % 64)) (get_or_read agenda place word inside read 0)
    ∙ ap (λ (q : ℕ). bit_at (get_or agenda q 0) (i % 64)) same
    ∙ ap (λ (b : ℕ). bit_at (get_or agenda ((64 * (t * width) + i) / 64) 0) b)
    (sym (agenda_bit width t i))
    ∙ on

-- ---- due ticks with marks

-- what is on the agenda stays on it
pub agenda_on : (old new : Marks) (i due : ℕ)
    → length new.words.items ≡ length old.words.items → new.horizon ≡ old.horizon
    → new.next ≡ old.next
    → MarksStay old.agenda.items new.agenda.items → MarksStay old.ticks.items new.ticks.items
    → IsPlanned old i due → IsPlanned new i due
agenda_on old new i due same horizon next agenda ticks planned =
    ⊎_elim
    (λ over. inl (omega (arith, over, horizon)))
    (λ p.
    let ahead : old.next ≤ p.tick = p.ahead in
    let near : p.tick < old.next + 512 = p.near in
    inr (record {
      tick = p.tick;
      ahead = omega (arith, ahead, next);
      near = omega (arith, near, next);
      early = p.early;
      on = (
        subst (λ (n : ℕ). IsMarked (64 * (p.tick % 512 * n) + i) new.agenda.items) (sym same)
            (agenda (64 * (p.tick % 512 * length old.words.items) + i) p.on.0),
        ticks p.tick p.on.1,
      );
    }))
    planned

-- a gate without a mark is not due before the next tick
pub watched : (dues : List ℕ) (marks : Marks) (i due : ℕ) → slice_get dues i ≡ Some due
    → AreMarked dues marks → IsMarked i marks.words.items ⊎ (marks.next ≤ due)
watched dues marks i due at marked =
    let reached : marks.next ≤ marks.horizon = marked.room.reached in
    ⊎_elim inl
    (λ rest. inr (⊎_elim
    (λ over. omega (arith, over, reached))
    (λ p. let ahead : marks.next ≤ p.tick = p.ahead in let early : p.tick ≤ due = p.early in
    omega (arith, ahead, early))
    rest))
    (marked.planned i due at)

pub room_on : (old new : Marks) → length new.words.items ≡ length old.words.items
    → length new.agenda.items ≡ length old.agenda.items
    → length new.ticks.items ≡ length old.ticks.items → new.horizon ≡ old.horizon
    → new.next ≤ old.horizon → HasRoom old → HasRoom new
room_on old new words agenda ticks horizon next room =
    let whole : 512 * length old.words.items ≤ length old.agenda.items = room.agenda in
    let bits : old.horizon ≤ 64 * length old.ticks.items = room.ticks in
    let few : length old.words.items ≤ 9 = room.few in
    let short : old.horizon ≤ 4000 = room.short in
    record {
      agenda = omega (arith, whole, agenda, words);
      ticks = omega (arith, bits, ticks, horizon);
      few = omega (arith, few, words);
      short = omega (arith, short, horizon);
      reached = omega (arith, next, horizon);
    }

-- a gate that is due at another tick from now on
pub settled : (dues : List ℕ) (old new : Marks) (gate due : ℕ)
    → length new.words.items ≡ length old.words.items
    → length new.agenda.items ≡ length old.agenda.items
    → length new.ticks.items ≡ length old.ticks.items → new.horizon ≡ old.horizon
    → new.next ≡ old.next
    → ((i : ℕ) → i ≢ gate → IsMarked i old.words.items → IsMarked i new.words.items)
    → MarksStay old.agenda.items new.agenda.items → MarksStay old.ticks.items new.ticks.items
    → IsPlanned new gate due → AreMarked dues old → AreMarked (slice_set dues gate due) new
settled dues old new gate due same even bits horizon next others agenda ticks now marked =
    let long : length (slice_set dues gate due) ≡ length dues = length-set dues gate due in
    let reached : old.next ≤ old.horizon = marked.room.reached in
    record {
      room = room_on old new same even bits horizon (omega (arith, next, reached)) marked.room;
      wide = let wide = marked.wide in omega (arith, wide, same, long);
      planned = λ i d at.
          ⊎_elim
          (λ p. inr (subst (λ (x : ℕ). IsPlanned new i x) p.1
          (subst (λ (k : ℕ). IsPlanned new k due) (sym p.0) now)))
          (λ p. ⊎_elim (λ m. inl (others i p.0 m))
          (λ rest. inr (agenda_on old new i d same horizon next agenda ticks rest))
          (marked.planned i d p.1))
          (at_set dues gate due i d at);
    }

-- a gate that is due at once
pub woken : (dues after : List ℕ) (old new : Marks) (gate : ℕ) → after ≡ slice_set dues gate 0
    → length new.words.items ≡ length old.words.items → new.agenda.items ≡ old.agenda.items
    → new.ticks.items ≡ old.ticks.items → new.horizon ≡ old.horizon
    → IsMarked gate new.words.items → MarksStay old.words.items new.words.items
    → new.next ≡ old.next → AreMarked dues old → AreMarked after new
woken dues after old new gate is same even bits horizon here stay next marked =
    let long : length (slice_set dues gate 0) ≡ length dues = length-set dues gate 0 in
    let reached : old.next ≤ old.horizon = marked.room.reached in
    let agenda : MarksStay old.agenda.items new.agenda.items =
    λ i m. subst (λ (l : List ℕ). IsMarked i l) (sym even) m in
    let ticks : MarksStay old.ticks.items new.ticks.items =
    λ i m. subst (λ (l : List ℕ). IsMarked i l) (sym bits) m in
    subst (λ (l : List ℕ). AreMarked l new) (sym is) (record {
      room = room_on old new same (ap length even) (ap length bits) horizon
          (omega (arith, next, reached)) marked.room;
      wide = let wide = marked.wide in omega (arith, wide, same, long);
      planned = λ i d at.
          ⊎_elim
          (λ p. inl (subst (λ (k : ℕ). IsMarked k new.words.items) (sym p.0) here))
          (λ p. ⊎_elim (λ m. inl (stay i m))
          (λ rest. inr (agenda_on old new i d same horizon next agenda ticks rest))
          (marked.planned i d p.1))
          (at_set dues gate 0 i d at);
    })

-- two ticks of the ring have rows of their own
pub rows_differ : (t tick : ℕ) → t ≤ tick → tick < t + 512 → tick ≢ t → tick % 512 ≢ t % 512
rows_differ t tick ahead near other same = omega (arith, ahead, near, other, same)

-- those that are due at the tick have a mark, and the rows of the others are as they were
pub all_woken : (dues : List ℕ) (old new : Marks) (t : ℕ) → t < old.horizon → t ≡ old.next
    → length new.words.items ≡ length old.words.items
    → length new.agenda.items ≡ length old.agenda.items
    → new.ticks.items ≡ old.ticks.items → new.horizon ≡ old.horizon → new.next ≡ t + 1
    → MarksStay old.words.items new.words.items
    → ((i : ℕ) → i < 64 * length old.words.items
    → IsMarked (64 * (t % 512 * length old.words.items) + i) old.agenda.items
    → IsMarked i new.words.items)
    → ((row i : ℕ) → row ≢ t % 512 → i < 64 * length old.words.items
    → IsMarked (64 * (row * length old.words.items) + i) old.agenda.items
    → IsMarked (64 * (row * length old.words.items) + i) new.agenda.items)
    → AreMarked dues old → AreMarked dues new
all_woken dues old new t early reached same even bits horizon next stay came others marked =
    let ticks : MarksStay old.ticks.items new.ticks.items =
    λ i m. subst (λ (l : List ℕ). IsMarked i l) (sym bits) m in
    let wide : length dues ≤ 64 * length old.words.items = marked.wide in
    record {
      room = room_on old new same even (ap length bits) horizon (omega (arith, next, early))
          marked.room;
      wide = omega (arith, wide, same);
      planned = λ i d at.
          let within : i < length dues = slice_get_within dues i d at in
          let inside : i < 64 * length old.words.items = omega (arith, within, wide) in
          ⊎_elim (λ m. inl (stay i m))
          (λ rest. ⊎_elim
          (λ over. inr (inl (omega (arith, over, horizon))))
          (λ p.
          let ahead : old.next ≤ p.tick = p.ahead in
          let near : p.tick < old.next + 512 = p.near in
          ⊎_elim
          (λ now. inl (came i inside
          (subst (λ (x : ℕ). IsMarked (64 * (x % 512 * length old.words.items) + i)
          old.agenda.items) now p.on.0)))
          (λ other. inr (inr (record {
            tick = p.tick;
            ahead = omega (arith, ahead, reached, other, next);
            near = omega (arith, near, reached, next);
            early = p.early;
            on = (
              subst (λ (n : ℕ). IsMarked (64 * (p.tick % 512 * n) + i) new.agenda.items) (sym same)
                  (others (p.tick % 512) i
                  (rows_differ t p.tick (omega (arith, ahead, reached))
                  (omega (arith, near, reached)) other)
                  inside p.on.0),
              ticks p.tick p.on.1,
            );
          })))
          (cases_eq p.tick t))
          rest)
          (marked.planned i d at);
    }

-- where no gate has a mark, none is planned before the first tick of the agenda
pub next_later : (dues : List ℕ) (marks : Marks) (next i due : ℕ) → next ≤ marks.horizon
    → ((k : ℕ) → IsMarked k marks.words.items → ⊥)
    → ((k : ℕ) → marks.next ≤ k → k < next → IsMarked k marks.ticks.items → ⊥)
    → AreMarked dues marks → slice_get dues i ≡ Some due → next ≤ due
next_later dues marks next i due limit none passed marked at =
    ⊎_elim (λ m. absurd (none i m))
    (λ rest. ⊎_elim
    (λ over. omega (arith, over, limit))
    (λ p. let early : p.tick ≤ due = p.early in
    ⊎_elim
    (λ low. absurd (passed p.tick p.ahead low p.on.1))
    (λ ge. omega (arith, ge, early))
    (cases_lt p.tick next))
    rest)
    (marked.planned i due at)

-- the next tick is a later one, before which none of the agenda is passed over
pub next_raised : (dues : List ℕ) (old new : Marks) → new.words.items ≡ old.words.items
    → new.agenda.items ≡ old.agenda.items → new.ticks.items ≡ old.ticks.items
    → new.horizon ≡ old.horizon → old.next ≤ new.next → new.next ≤ old.horizon
    → ((k : ℕ) → old.next ≤ k → k < new.next → IsMarked k old.ticks.items → ⊥)
    → AreMarked dues old → AreMarked dues new
next_raised dues old new words even bits horizon later limit passed marked =
    let same : length new.words.items ≡ length old.words.items = ap length words in
    let wide : length dues ≤ 64 * length old.words.items = marked.wide in
    record {
      room = room_on old new same (ap length even) (ap length bits) horizon limit marked.room;
      wide = omega (arith, wide, same);
      planned = λ i d at.
          ⊎_elim
          (λ m. inl (subst (λ (l : List ℕ). IsMarked i l) (sym words) m))
          (λ rest. inr (⊎_elim
          (λ over. inl (omega (arith, over, horizon)))
          (λ p.
          let near : p.tick < old.next + 512 = p.near in
          ⊎_elim
          (λ low. absurd (passed p.tick p.ahead low p.on.1))
          (λ ge. inr (record {
            tick = p.tick;
            ahead = ge;
            near = omega (arith, near, later);
            early = p.early;
            on = (
              subst (λ (n : ℕ). IsMarked (64 * (p.tick % 512 * n) + i) new.agenda.items) (sym same)
                  (subst (λ (l : List ℕ). IsMarked (64 * (p.tick % 512 * length old.words.items) + i)
                  l) (sym even) p.on.0),
              subst (λ (l : List ℕ). IsMarked p.tick l) (sym bits) p.on.1,
            );
          }))
          (cases_lt p.tick new.next))
          rest))
          (marked.planned i d at);
    }
