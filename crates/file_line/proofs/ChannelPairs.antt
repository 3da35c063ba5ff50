-- Channels, each between its own two terminals.
use Rattle.std.proofs.Common.{◌≡◌, ◌≢◌, ◌+◌, ◌*◌, ◌<◌, ◌≤◌, ℕ, zero, suc, Bool, true, false, List}
use Rattle.std.proofs.Common.{[], ◌∷◌, ◌++◌, map, length, get_or, Some, cond, refl, sym, ap, ◌∙◌}
use Rattle.std.proofs.Common.{arith, inl, inr}
use Rattle.std.proofs.Math.ListN.{get_or-append}
use Rattle.std.proofs.Math.Dec.{eqb}
use Rattle.std.proofs.lemmas.Bool.{ne_eqb}
use Rattle.std.proofs.lemmas.Bool.Decides.{eqb_tells}
use Rattle.std.proofs.lemmas.Grind.{get_or_default_zero}
use Rattle.std.proofs.lemmas.List.{map-append, length-map}
use Rattle.std.proofs.lemmas.Map.Keys.{IsDistinct-from_apart}
use Rattle.std.proofs.lemmas.Map.Steps.{length-le_from_distinct_below}
use Rattle.std.specs.List.{list_any, position_from, IsDistinct}
use Rattle.model_line.specs.Channels.{is_pair, from_of, to_of, IsChannel, AreChannelsBelow}
use Rattle.model_line.specs.declared.line.Channel.{Channel}
use Rattle.model_line.specs.FirstPositionLaws.{position_from-append_none}
use borrow.Author.Count.{below_more}

-- the first place stays the first when the list grows
position_from-longer :
    {K : Type 0} (p : K → Bool) (n c : ℕ) (xs ys : List K)
    → position_from p n xs ≡ Some c → position_from p n (xs ++ ys) ≡ Some c
position_from-longer p n c [] ys e = absurd (cc)
position_from-longer p n c (x ∷ xs) ys e =
    elim (p x)
    as (λ b. cond b (Some n) (position_from p (n + 1) xs) ≡ Some c
    → cond b (Some n) (position_from p (n + 1) (xs ++ ys)) ≡ Some c)
    [ true ↦ λ f. f | false ↦ λ f. position_from-longer p (n + 1) c xs ys f ] e

-- a channel's ends stay when the list grows
from_of-longer : (cs ys : List Channel) (c : ℕ) → c < length cs → from_of (cs ++ ys) c
    ≡ from_of cs c
from_of-longer cs ys c h =
    let f : Channel → ℕ = λ x. x.from in
    let e : map f (cs ++ ys) ≡ map f cs ++ map f ys = map-append f cs ys in
    let k : c < length (map f cs) = rw length-map h in
    rw e (get_or-append (map f cs) (map f ys) 0 c k)

to_of-longer : (cs ys : List Channel) (c : ℕ) → c < length cs → to_of (cs ++ ys) c ≡ to_of cs c
to_of-longer cs ys c h =
    let f : Channel → ℕ = λ x. x.to in
    let e : map f (cs ++ ys) ≡ map f cs ++ map f ys = map-append f cs ys in
    let k : c < length (map f cs) = rw length-map h in
    rw e (get_or-append (map f cs) (map f ys) 0 c k)

from_of-last : (cs : List Channel) (x : Channel) → from_of (cs ++ x ∷ []) (length cs) ≡ x.from
from_of-last [] x = refl
from_of-last (c ∷ cs) x = from_of-last cs x

to_of-last : (cs : List Channel) (x : Channel) → to_of (cs ++ x ∷ []) (length cs) ≡ x.to
to_of-last [] x = refl
to_of-last (c ∷ cs) x = to_of-last cs x

eqb-same : (n : ℕ) → eqb n n ≡ true
eqb-same n = elim (eqb_tells n n) [ inl w ↦ w.0 | inr w ↦ absurd (w.1 refl) ]

is_pair-same : (x : Channel) → is_pair x.from x.to x ≡ true
is_pair-same x = rw (eqb-same x.from, eqb-same x.to)

-- one more channel between two other terminals
pub channels_more :
    (n : ℕ) (cs : List Channel) (x : Channel) → AreChannelsBelow n cs (length cs)
    → x.from < n → x.to < n → x.from ≢ x.to → list_any (is_pair x.from x.to) cs ≡ false
    → AreChannelsBelow n (cs ++ x ∷ []) (length cs + 1)
channels_more n cs x all from to apart new =
    let here : IsChannel n (cs ++ x ∷ []) (length cs) =
    record {
      from = rw (from_of-last cs x) from;
      to = rw (to_of-last cs x) to;
      apart = rw (from_of-last cs x, to_of-last cs x) apart;
      once =
          rw (
            from_of-last cs x,
            to_of-last cs x,
            position_from-append_none (is_pair x.from x.to) 0 cs (x ∷ []) new,
            is_pair-same x,
          )
          (let e : 0 + length cs ≡ length cs = omega arith in ap Some e);
    } in
    let before : (c : ℕ) → c < length cs → IsChannel n (cs ++ x ∷ []) c =
    λ c h.
    let old : IsChannel n cs c = all c h in
    record {
      from = rw (from_of-longer cs (x ∷ []) c h) old.from;
      to = rw (to_of-longer cs (x ∷ []) c h) old.to;
      apart = rw (from_of-longer cs (x ∷ []) c h, to_of-longer cs (x ∷ []) c h) old.apart;
      once =
          rw (from_of-longer cs (x ∷ []) c h, to_of-longer cs (x ∷ []) c h)
          (position_from-longer (is_pair (from_of cs c) (to_of cs c)) 0 c cs (x ∷ []) old.once);
    } in
    below_more (λ c. IsChannel n (cs ++ x ∷ []) c) (length cs) before here

-- a number for each pair of three terminals
abbrev pub pair_code : Channel → ℕ
pair_code x = 3 * x.from + x.to

none : Channel
none = record { from = 0; to = 0 }

pub pair_code-at :
    (cs : List Channel) (c : ℕ) → get_or (map pair_code cs) c 0 ≡ 3 * from_of cs c + to_of cs c
pair_code-at [] c = refl
pair_code-at (x ∷ cs) zero = refl
pair_code-at (x ∷ cs) (suc c) = pair_code-at cs c

-- two channels have other numbers
not_same :
    (n : ℕ) (cs : List Channel) (i j : ℕ) → n ≤ 3 → IsChannel n cs i → IsChannel n cs j → i < j
    → 3 * from_of cs i + to_of cs i ≢ 3 * from_of cs j + to_of cs j
not_same n cs i j few one two lt e =
    let a : from_of cs i < n = one.from in
    let b : to_of cs i < n = one.to in
    let c : from_of cs j < n = two.from in
    let d : to_of cs j < n = two.to in
    let from : from_of cs i ≡ from_of cs j = omega arith in
    let to : to_of cs i ≡ to_of cs j = omega arith in
    let same : Some i ≡ Some j = sym one.once ∙ rw (from, to) two.once in
    let equal : i ≡ j = cc in
    absurd (omega arith)

any_below :
    (n : ℕ) (xs : List ℕ) → ((i : ℕ) → i < length xs → get_or xs i 0 < n)
    → (q : ℕ) → list_any (eqb q) xs ≡ true → q < n
any_below n [] all q h = absurd (cc)
any_below n (x ∷ xs) all q h =
    elim (eqb_tells q x) [
      | inl w ↦ let lt : x < n = all 0 (omega arith) in omega (arith, w.1)
      | inr w ↦
          let more : list_any (eqb q) xs ≡ true = rw w.0 at h in
          any_below n xs (λ i lt. all (suc i) (omega arith)) q more
    ]

-- the numbers of the channels differ
pub codes_distinct :
    (n : ℕ) (cs : List Channel) → n ≤ 3 → AreChannelsBelow n cs (length cs)
    → IsDistinct eqb (map pair_code cs)
codes_distinct n cs few all =
    let codes : List ℕ = map pair_code cs in
    let long : length codes ≡ length cs = length-map cs pair_code in
    let apart : (i j : ℕ) (d : ℕ) → i < j → j < length codes
    → eqb (get_or codes i d) (get_or codes j d) ≡ false = λ i j d lt h.
    let one : IsChannel n cs i = all i (omega arith) in
    let two : IsChannel n cs j = all j (omega arith) in
    let a : get_or codes i d ≡ 3 * from_of cs i + to_of cs i =
    get_or_default_zero codes i d (omega arith) ∙ pair_code-at cs i in
    let b : get_or codes j d ≡ 3 * from_of cs j + to_of cs j =
    get_or_default_zero codes j d h ∙ pair_code-at cs j in
    rw (a, b) (ne_eqb _ _ (λ e. not_same n cs i j few one two lt e)) in
    IsDistinct-from_apart eqb codes apart

-- so few channels lie between three terminals
pub channels_few :
    (n : ℕ) (cs : List Channel) → n ≤ 3 → AreChannelsBelow n cs (length cs) → length cs ≤ 9
channels_few n cs few all =
    let codes : List ℕ = map pair_code cs in
    let long : length codes ≡ length cs = length-map cs pair_code in
    let distinct : IsDistinct eqb codes = codes_distinct n cs few all in
    let below : (i : ℕ) → i < length codes → get_or codes i 0 < 9 = λ i h.
    let one : IsChannel n cs i = all i (omega arith) in
    let e = pair_code-at cs i in
    let f : from_of cs i < n = one.from in
    let t : to_of cs i < n = one.to in
    rw e (omega arith) in
    rw long at (length-le_from_distinct_below codes 9 distinct (any_below 9 codes below))
