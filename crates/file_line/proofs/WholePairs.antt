-- Channels that join each pair of terminals are as many as the pairs.
use Rattle.std.proofs.Common.{◌≡◌, ◌≢◌, ◌+◌, ◌*◌, ◌<◌, ◌≤◌, ◌==◌, ℕ, zero, suc, true, false, List}
use Rattle.std.proofs.Common.{[], ◌∷◌, map, length, get_or, Ok, cond, refl, sym, ap, ◌∙◌, arith}
use Rattle.std.proofs.Common.{inl, inr}
use Rattle.std.proofs.Math.Dec.{eqb}
use Rattle.std.proofs.lemmas.Bool.Decides.{eqb_tells}
use Rattle.std.proofs.lemmas.List.{length-map}
use Rattle.std.proofs.lemmas.Map.Made.{length-le_from_is_member}
use Rattle.std.specs.Cmp.{IsEquivalence}
use Rattle.std.specs.Set.{is_member}
use Rattle.std.specs.List.{list_any, IsDistinct}
use Rattle.model_line.specs.Channels.{is_pair, from_of, to_of, IsChannel, AreChannels}
use Rattle.model_line.specs.Channels.{AreChannelsBelow, AreFoundBelow, channels_are}
use Rattle.model_line.specs.FirstPositionLaws.{is_some-position}
use Rattle.model_line.specs.{declared.line.Terminal.Terminal, declared.line.Channel.Channel}
use Rattle.file_line.specs.LineFiles.{two_pairs, three_pairs, pair_joined, all_joined, whole}
use Rattle.base_memory.specs.CheckLaws.{passed, test_passed}
use Rattle.file_line.proofs.ChannelPairs.{pair_code, pair_code-at, codes_distinct}

eqb_laws : IsEquivalence eqb
eqb_laws =
    record {
      refl = λ x. elim (eqb_tells x x) [ inl w ↦ w.0 | inr w ↦ absurd (w.1 refl) ];
      symm = λ x y.
          elim (eqb_tells x y) [
            | inl w ↦
                elim (eqb_tells y x) [ inl v ↦ w.0 ∙ sym v.0 | inr v ↦ absurd (v.1 (sym w.1)) ]
            | inr w ↦
                elim (eqb_tells y x) [ inl v ↦ absurd (w.1 (sym v.1)) | inr v ↦ w.0 ∙ sym v.0 ]
          ];
      congr = λ x y z h.
          elim (eqb_tells x y) [
            | inl w ↦ ap (λ k. eqb k z) w.1
            | inr w ↦ absurd (let e = w.0 in cc)
          ];
    }

-- the numbers of the pairs
abbrev pub targets : ℕ → List ℕ
targets n = cond (n == 2) (1 ∷ 3 ∷ []) (1 ∷ 2 ∷ 3 ∷ 5 ∷ 6 ∷ 7 ∷ [])

pair_found :
    (ts : List Terminal) (cs : List Channel) (j k : ℕ) (u : Unit {0})
    → pair_joined ts cs j k ≡ Ok u → list_any (is_pair j k) cs ≡ true
pair_found ts cs j k u e = (test_passed (list_any (is_pair j k) cs) tt _ u e).0

-- a channel from j to k has their number
code_found :
    (cs : List Channel) (j k : ℕ) → list_any (is_pair j k) cs ≡ true
    → is_member eqb (map pair_code cs) (3 * j + k) ≡ true
code_found [] j k h = absurd (cc)
code_found (x ∷ cs) j k h =
    elim (eqb_tells (3 * j + k) (3 * x.from + x.to)) [
      | inl w ↦ rw w.0
      | inr w ↦
          let other : is_pair j k x ≡ false =
          elim (eqb_tells x.from j) [
            | inl a ↦
                elim (eqb_tells x.to k) [
                  | inl b ↦ absurd (w.1 (omega (arith, a.1, b.1)))
                  | inr b ↦ rw (a.0, b.0)
                ]
            | inr a ↦ rw a.0
          ] in
          rw w.0 (code_found cs j k (rw other at h))
    ]

pub record AllFound (n : ℕ) (cs : List Channel) : Type 0 where
  pub found : (j k : ℕ) → j < n → k < n → j ≢ k → list_any (is_pair j k) cs ≡ true

two_found : (ts : List Terminal) (cs : List Channel) (u : Unit {0})
    → all_joined ts cs two_pairs ≡ Ok u → AllFound 2 cs
two_found ts cs u e =
    let record { value = a; was = a_is; rest = e1 } = passed (pair_joined ts cs 0 1) _ u e in
    let record { value = b; was = b_is; rest = e2 } = passed (pair_joined ts cs 1 0) _ u e1 in
    record { found = by_cases (pair_found ts cs 0 1 a a_is) (pair_found ts cs 1 0 b b_is) }
  where
    by_cases :
        list_any (is_pair 0 1) cs ≡ true → list_any (is_pair 1 0) cs ≡ true
        → (j k : ℕ) → j < 2 → k < 2 → j ≢ k → list_any (is_pair j k) cs ≡ true
    by_cases a b zero zero jt kt ne = absurd (ne refl)
    by_cases a b zero (suc zero) jt kt ne = a
    by_cases a b zero (suc (suc k)) jt kt ne = absurd (omega arith)
    by_cases a b (suc zero) zero jt kt ne = b
    by_cases a b (suc zero) (suc zero) jt kt ne = absurd (ne refl)
    by_cases a b (suc zero) (suc (suc k)) jt kt ne = absurd (omega arith)
    by_cases a b (suc (suc j)) k jt kt ne = absurd (omega arith)

three_found : (ts : List Terminal) (cs : List Channel) (u : Unit {0})
    → all_joined ts cs three_pairs ≡ Ok u → AllFound 3 cs
three_found ts cs u e =
    let record { value = a; was = a_is; rest = e1 } = passed (pair_joined ts cs 0 1) _ u e in
    let record { value = b; was = b_is; rest = e2 } = passed (pair_joined ts cs 0 2) _ u e1 in
    let record { value = c; was = c_is; rest = e3 } = passed (pair_joined ts cs 1 0) _ u e2 in
    let record { value = d; was = d_is; rest = e4 } = passed (pair_joined ts cs 1 2) _ u e3 in
    let record { value = f; was = f_is; rest = e5 } = passed (pair_joined ts cs 2 0) _ u e4 in
    let record { value = g; was = g_is; rest = e6 } = passed (pair_joined ts cs 2 1) _ u e5 in
    record {
      found =
          by_cases (pair_found ts cs 0 1 a a_is) (pair_found ts cs 0 2 b b_is)
          (pair_found ts cs 1 0 c c_is) (pair_found ts cs 1 2 d d_is)
          (pair_found ts cs 2 0 f f_is) (pair_found ts cs 2 1 g g_is);
    }
  where
    by_cases :
        list_any (is_pair 0 1) cs ≡ true → list_any (is_pair 0 2) cs ≡ true
        → list_any (is_pair 1 0) cs ≡ true → list_any (is_pair 1 2) cs ≡ true
        → list_any (is_pair 2 0) cs ≡ true → list_any (is_pair 2 1) cs ≡ true
        → (j k : ℕ) → j < 3 → k < 3 → j ≢ k → list_any (is_pair j k) cs ≡ true
    by_cases a b c d f g zero zero jt kt ne = absurd (ne refl)
    by_cases a b c d f g zero (suc zero) jt kt ne = a
    by_cases a b c d f g zero (suc (suc zero)) jt kt ne = b
    by_cases a b c d f g zero (suc (suc (suc k))) jt kt ne = absurd (omega arith)
    by_cases a b c d f g (suc zero) zero jt kt ne = c
    by_cases a b c d f g (suc zero) (suc zero) jt kt ne = absurd (ne refl)
    by_cases a b c d f g (suc zero) (suc (suc zero)) jt kt ne = d
    by_cases a b c d f g (suc zero) (suc (suc (suc k))) jt kt ne = absurd (omega arith)
    by_cases a b c d f g (suc (suc zero)) zero jt kt ne = f
    by_cases a b c d f g (suc (suc zero)) (suc zero) jt kt ne = g
    by_cases a b c d f g (suc (suc zero)) (suc (suc zero)) jt kt ne = absurd (ne refl)
    by_cases a b c d f g (suc (suc zero)) (suc (suc (suc k))) jt kt ne = absurd (omega arith)
    by_cases a b c d f g (suc (suc (suc j))) k jt kt ne = absurd (omega arith)

-- the number of a pair of two terminals is among the targets
two_targets : (j k : ℕ) → j < 2 → k < 2 → j ≢ k → is_member eqb (targets 2) (3 * j + k) ≡ true
two_targets zero zero jt kt ne = absurd (ne refl)
two_targets zero (suc zero) jt kt ne = refl
two_targets zero (suc (suc k)) jt kt ne = absurd (omega arith)
two_targets (suc zero) zero jt kt ne = refl
two_targets (suc zero) (suc zero) jt kt ne = absurd (ne refl)
two_targets (suc zero) (suc (suc k)) jt kt ne = absurd (omega arith)
two_targets (suc (suc j)) k jt kt ne = absurd (omega arith)

three_targets : (j k : ℕ) → j < 3 → k < 3 → j ≢ k → is_member eqb (targets 3) (3 * j + k) ≡ true
three_targets zero zero jt kt ne = absurd (ne refl)
three_targets zero (suc zero) jt kt ne = refl
three_targets zero (suc (suc zero)) jt kt ne = refl
three_targets zero (suc (suc (suc k))) jt kt ne = absurd (omega arith)
three_targets (suc zero) zero jt kt ne = refl
three_targets (suc zero) (suc zero) jt kt ne = absurd (ne refl)
three_targets (suc zero) (suc (suc zero)) jt kt ne = refl
three_targets (suc zero) (suc (suc (suc k))) jt kt ne = absurd (omega arith)
three_targets (suc (suc zero)) zero jt kt ne = refl
three_targets (suc (suc zero)) (suc zero) jt kt ne = refl
three_targets (suc (suc zero)) (suc (suc zero)) jt kt ne = absurd (ne refl)
three_targets (suc (suc zero)) (suc (suc (suc k))) jt kt ne = absurd (omega arith)
three_targets (suc (suc (suc j))) k jt kt ne = absurd (omega arith)

-- each number of the list is a target
members_within :
    (n : ℕ) (qs xs : List ℕ)
    → ((i : ℕ) → i < length xs → is_member eqb qs (get_or xs i 0) ≡ true)
    → (q : ℕ) → is_member eqb xs q ≡ true → is_member eqb qs q ≡ true
members_within n qs [] all q h = absurd (cc)
members_within n qs (x ∷ xs) all q h =
    elim (eqb_tells q x) [
      | inl w ↦ rw w.1 (all 0 (omega arith))
      | inr w ↦ members_within n qs xs (λ i lt. all (suc i) (omega arith)) q (rw w.0 at h)
    ]

-- as many channels as targets
pub channels_count :
    (n : ℕ) (cs : List Channel) → n ≤ 3 → AreChannelsBelow n cs (length cs) → AllFound n cs
    → IsDistinct eqb (targets n)
    → ((j k : ℕ) → j < n → k < n → j ≢ k → is_member eqb (targets n) (3 * j + k) ≡ true)
    → ((i : ℕ) → i < length (targets n)
    → is_member eqb (map pair_code cs) (get_or (targets n) i 0) ≡ true)
    → length cs ≡ length (targets n)
channels_count n cs few all found distinct ours theirs =
    let codes : List ℕ = map pair_code cs in
    let long : length codes ≡ length cs = length-map cs pair_code in
    let mine : (i : ℕ) → i < length codes → is_member eqb (targets n) (get_or codes i 0) ≡ true =
    λ i h.
    let lt : i < length cs = omega arith in
    let one : IsChannel n cs i = all i lt in
    rw (pair_code-at cs i) (ours (from_of cs i) (to_of cs i) one.from one.to one.apart) in
    let most : length codes ≤ length (targets n) =
    length-le_from_is_member eqb_laws codes (targets n) (codes_distinct n cs few all)
    (members_within n (targets n) codes mine) in
    let least : length (targets n) ≤ length codes =
    length-le_from_is_member eqb_laws (targets n) codes distinct
    (members_within n codes (targets n) theirs) in
    omega arith

found_below :
    (n : ℕ) (cs : List Channel) → AllFound n cs → AreFoundBelow n cs n
found_below n cs found j k jt kt ne =
    is_some-position (is_pair j k) 0 cs ∙ found.found j k jt kt ne

-- between two terminals
two_are :
    (ts : List Terminal) (cs : List Channel) (u : Unit {0}) → AreChannelsBelow 2 cs (length cs)
    → all_joined ts cs two_pairs ≡ Ok u → AreChannels 2 cs
unfolding IsDistinct
two_are ts cs u all e =
    let found = two_found ts cs u e in
    let codes : List ℕ = map pair_code cs in
    let at : (i : ℕ) → i < 2 → is_member eqb codes (get_or (targets 2) i 0) ≡ true =
    cases (code_found cs 0 1
    (found.found 0 1 (omega arith) (omega arith) (λ x. absurd (omega arith))))
    (code_found cs 1 0 (found.found 1 0 (omega arith) (omega arith) (λ x. absurd (omega arith)))) in
    channels_are 2 cs
    (channels_count 2 cs (omega arith) all found ((refl, tt), (tt, tt)) two_targets at) all
    (found_below 2 cs found)
  where
    cases :
        is_member eqb (map pair_code cs) 1 ≡ true → is_member eqb (map pair_code cs) 3 ≡ true
        → (i : ℕ) → i < 2 → is_member eqb (map pair_code cs) (get_or (targets 2) i 0) ≡ true
    cases a b zero h = a
    cases a b (suc zero) h = b
    cases a b (suc (suc i)) h = absurd (omega arith)

three_are :
    (ts : List Terminal) (cs : List Channel) (u : Unit {0}) → AreChannelsBelow 3 cs (length cs)
    → all_joined ts cs three_pairs ≡ Ok u → AreChannels 3 cs
unfolding IsDistinct
three_are ts cs u all e =
    let found = three_found ts cs u e in
    let at : (i : ℕ) → i < 6 → is_member eqb (map pair_code cs) (get_or (targets 3) i 0) ≡ true =
    cases
    (code_found cs 0 1 (found.found 0 1 (omega arith) (omega arith) (λ x. absurd (omega arith))))
    (code_found cs 0 2 (found.found 0 2 (omega arith) (omega arith) (λ x. absurd (omega arith))))
    (code_found cs 1 0 (found.found 1 0 (omega arith) (omega arith) (λ x. absurd (omega arith))))
    (code_found cs 1 2 (found.found 1 2 (omega arith) (omega arith) (λ x. absurd (omega arith))))
    (code_found cs 2 0 (found.found 2 0 (omega arith) (omega arith) (λ x. absurd (omega arith))))
    (code_found cs 2 1 (found.found 2 1 (omega arith) (omega arith) (λ x. absurd (omega arith))))
    in
    channels_are 3 cs
    (channels_count 3 cs (omega arith) all found (
      (refl, (refl, (refl, (refl, (refl, tt))))),
      (
        (refl, (refl, (refl, (refl, tt)))),
        ((refl, (refl, (refl, tt))), ((refl, (refl, tt)), ((refl, tt), (tt, tt)))),
      ),
    )
    three_targets at)
    all (found_below 3 cs found)
  where
    cases :
        is_member eqb (map pair_code cs) 1 ≡ true → is_member eqb (map pair_code cs) 2 ≡ true
        → is_member eqb (map pair_code cs) 3 ≡ true → is_member eqb (map pair_code cs) 5 ≡ true
        → is_member eqb (map pair_code cs) 6 ≡ true → is_member eqb (map pair_code cs) 7 ≡ true
        → (i : ℕ) → i < 6 → is_member eqb (map pair_code cs) (get_or (targets 3) i 0) ≡ true
    cases a b c d e f zero h = a
    cases a b c d e f (suc zero) h = b
    cases a b c d e f (suc (suc zero)) h = c
    cases a b c d e f (suc (suc (suc zero))) h = d
    cases a b c d e f (suc (suc (suc (suc zero)))) h = e
    cases a b c d e f (suc (suc (suc (suc (suc zero))))) h = f
    cases a b c d e f (suc (suc (suc (suc (suc (suc i)))))) h = absurd (omega arith)

-- between all terminals
pub whole_are :
    (ts : List Terminal) (cs : List Channel) (u : Unit {0}) (n : ℕ) → length ts ≡ n → 2 ≤ n → n ≤ 3
    → AreChannelsBelow n cs (length cs) → whole ts cs ≡ Ok u → AreChannels n cs
unfolding whole
whole_are ts cs u zero is some few all e = absurd (omega arith)
whole_are ts cs u (suc zero) is some few all e = absurd (omega arith)
whole_are ts cs u (suc (suc zero)) is some few all e =
    two_are ts cs u all (rw is at e)
whole_are ts cs u (suc (suc (suc zero))) is some few all e =
    three_are ts cs u all (rw is at e)
whole_are ts cs u (suc (suc (suc (suc n)))) is some few all e = absurd (omega arith)
