-- The values of a track and their changes.
use Rattle.run_signal.specs.Signals.{SignalOf}
use Rattle.std.proofs.Common.{◌≡◌, ◌⊎◌, ℕ, zero, suc, ◌+◌, ◌-◌, ◌<◌, ◌≤◌, List, [], ◌∷◌, ◌++◌}
use Rattle.std.proofs.Common.{length, Some, refl, sym, ◌∙◌, ap, arith, inl, inr, ⊎_elim, subst}
use Rattle.std.proofs.Common.{length-append, replicate, append_assoc, leb, leb-true, get_or}
use Rattle.std.proofs.lemmas.List.{append-nil, replicate_more, length-replicate}
use Rattle.std.proofs.lemmas.List.{replicate-append-replicate, get_or_append_left, map-append}
use Rattle.std.proofs.lemmas.List.{get_or-append_right, get_or-replicate}
use Rattle.std.proofs.lemmas.List.Sorted.{IsPartitionedBy-leb}
use Rattle.std.proofs.lemmas.Bool.{cases_lt, leb-false}
use Rattle.std.proofs.lemmas.Option.{slice_get-map, get_or_from_slice_get, slice_get-get_or}
use Rattle.std.proofs.lemmas.Option.{slice_get_within}
use Rattle.std.specs.List.Sorted.{IsPartitionedBy, IsPartitionPoint}
use Rattle.std.specs.Prelude.{slice_get, option_map, map, true, false}
use Rattle.model_history.specs.Rails.{Rails, Ends, rails_at, both}
use Rattle.model_history.specs.ListLaws.{at_push, before_append, last_push}
use Rattle.run_signal.specs.Lanes.{in_lane}
use Rattle.run_signal.specs.Tracks.{IsOneOf, AreAscending, ChangeAt, IsTrack, IsLast, IsNextAfter}
use Rattle.run_signal.specs.Tracks.{StaysUntil, IsSteadySince, IsHeldTrack, all_values}

-- a number that is no less than those before it
ascending_more : (numbers : List ℕ) (n : ℕ) → AreAscending numbers
    → ((i c : ℕ) → slice_get numbers i ≡ Some c → c ≤ n) → AreAscending (numbers ++ n ∷ [])
ascending_more numbers n up below i j a b order at_i at_j =
    ⊎_elim
    (λ h. ⊎_elim (λ k. up i j a b order h k)
    (λ p. let e : b ≡ n = p.1 in let le : a ≤ n = below i a h in omega arith)
    (at_push numbers n b j at_j))
    (λ p. ⊎_elim
    (λ k. let far : i ≡ length numbers = p.0 in
    let inside : j < length numbers = slice_get_within numbers j b k in absurd (omega arith))
    (λ q. let e : a ≡ n = p.1 in let f : b ≡ n = q.1 in omega arith)
    (at_push numbers n b j at_j))
    (at_push numbers n a i at_i)

-- ---- the values before the last change, and the last one

map_replicate : {A B : Type 0} (f : A → B) (n : ℕ) (x : A)
    → map f (replicate n x) ≡ replicate n (f x)
map_replicate f zero x = refl
map_replicate f (suc n) x =
    let e : suc n ≡ n + 1 = omega arith in
    ap (λ (k : ℕ). map f (replicate k x)) e
    ∙ ap (map f) (sym (replicate_more n x))
    ∙ map-append f (replicate n x) (x ∷ [])
    ∙ ap (λ (l : List _). l ++ f x ∷ []) (map_replicate f n x)
    ∙ replicate_more n (f x)
    ∙ ap (λ (k : ℕ). replicate k (f x)) (sym e)

module _ {V : Type 0} (values : List V) (last : V) (len : ℕ) where
  pub all_long : length values ≤ len - 1 → length (all_values values last len) ≡ len
  all_long before =
      let long : length (all_values values last len)
      ≡ length values + length (replicate (len - length values) last) =
      length-append values (replicate (len - length values) last) in
      let left : length (replicate (len - length values) last) ≡ len - length values =
      length-replicate (len - length values) last in
      omega (arith, long, left, before)

  pub read_before : (t : ℕ) (x : V) → slice_get values t ≡ Some x
      → slice_get (all_values values last len) t ≡ Some x
  read_before t x at =
      let inside : t < length values = slice_get_within values t x at in
      let long : length (all_values values last len)
      ≡ length values + length (replicate (len - length values) last) =
      length-append values (replicate (len - length values) last) in
      slice_get-get_or (all_values values last len) t x (omega (arith, inside, long))
      ∙ ap Some (get_or_append_left values (replicate (len - length values) last) x t inside
      ∙ get_or_from_slice_get values t x x at)

  pub read_after : (t : ℕ) → length values ≤ t → t < len
      → slice_get (all_values values last len) t ≡ Some last
  read_after t past inside =
      let long : length (all_values values last len)
      ≡ length values + length (replicate (len - length values) last) =
      length-append values (replicate (len - length values) last) in
      let left : length (replicate (len - length values) last) ≡ len - length values =
      length-replicate (len - length values) last in
      slice_get-get_or (all_values values last len) t last (omega (arith, long, left, past, inside))
      ∙ ap Some (get_or-append_right values (replicate (len - length values) last)
      (length values) t last refl past
      ∙ get_or-replicate (len - length values) (t - length values) last last
      (omega (arith, past, inside)))

  -- many more of the last value
  pub all_more : (count : ℕ) → length values ≤ len
      → all_values values last (len + count) ≡ all_values values last len ++ replicate count last
  all_more count few =
      let e : len + count - length values ≡ (len - length values) + count = omega (arith, few) in
      ap (λ (n : ℕ). values ++ replicate n last) e
      ∙ ap (λ (l : List V). values ++ l)
      (sym (replicate-append-replicate (len - length values) count last))
      ∙ sym (append_assoc values (replicate (len - length values) last) (replicate count last))

-- the rails of a value in a list
pub rails_read : {V : Type 0} (rails : V → ℕ → Rails) (values : List V) (n : ℕ) (x : V) (lane : ℕ)
    → slice_get values n ≡ Some x → rails_at (in_lane rails lane values) n ≡ rails x lane
rails_read {V = V} rails values n x lane at =
    get_or_from_slice_get _ n (rails x lane) (both false)
    (slice_get-map (λ (v : V). rails v lane) values n
    ∙ ap (option_map (λ (v : V). rails v lane)) at)

module _ {V S : Type 0} (signal : SignalOf V S) where
  -- until the tick after, and one tick more with the same value
  pub stays_once : (values : List V) (t lane : ℕ) → t < length values
      → StaysUntil (rails_at (in_lane signal.rails lane values)) t (length values) (t + 1)
  stays_once values t lane inside = record {
    later = omega arith;
    limited = omega (arith, inside);
    same = λ r low high.
        let here : r ≡ t = omega (arith, low, high) in
        ap (λ (k : ℕ). rails_at (in_lane signal.rails lane values) k) here;
  }

  pub stays_more : (values : List V) (x y : V) (t end lane : ℕ) → slice_get values t ≡ Some x
      → slice_get values end ≡ Some y → signal.rails y lane ≡ signal.rails x lane
      → StaysUntil (rails_at (in_lane signal.rails lane values)) t (length values) end
      → StaysUntil (rails_at (in_lane signal.rails lane values)) t (length values) (end + 1)
  stays_more values x y t end lane first last same stays = record {
    later = let later : t < end = stays.later in omega (arith, later);
    limited = let inside : end < length values = slice_get_within values end y last in
        omega (arith, inside);
    same = λ r low high.
        ⊎_elim (λ early. stays.same r low early)
        (λ late. let here : r ≡ end = omega (arith, late, high) in
        ap (λ (k : ℕ). rails_at (in_lane signal.rails lane values) k) here
        ∙ rails_read signal.rails values end y lane last ∙ same ∙
        sym (rails_read signal.rails values t x lane first))
        (cases_lt r end);
  }

  -- its rails at a tick of a longer list
  rails_pushed : (values : List V) (value : V) (lane r : ℕ) → r < length values
      → rails_at (in_lane signal.rails lane (values ++ value ∷ [])) r
      ≡ rails_at (in_lane signal.rails lane values) r
  rails_pushed values value lane r lt =
      let x : V = get_or values r value in
      let at : slice_get values r ≡ Some x = slice_get-get_or values r value lt in
      rails_read signal.rails (values ++ value ∷ []) r x lane (before_append values (value ∷ []) r x
      at)
      ∙ sym (rails_read signal.rails values r x lane at)

  rails_of_last : (values : List V) (value : V) (lane r : ℕ) → r ≡ length values
      → rails_at (in_lane signal.rails lane (values ++ value ∷ [])) r ≡ signal.rails value lane
  rails_of_last values value lane r is =
      rails_read signal.rails (values ++ value ∷ []) r value lane
      (subst (λ (k : ℕ). slice_get (values ++ value ∷ []) k ≡ Some value) (sym is)
      (last_push values value))

  one_more_of : (changes : List ℕ) (c r : ℕ) → IsOneOf changes r → IsOneOf (changes ++ c ∷ []) r
  one_more_of changes c r (i, at) = (i, before_append changes (c ∷ []) i r at)

  -- a tick within the values before
  told_before : (values : List V) (value : V) (changes : List ℕ) (r : ℕ)
      → suc r < length values → ChangeAt signal changes values
      → IsOneOf changes (suc r)
      ⊎ ((lane : ℕ) → lane < signal.lanes
      → rails_at (in_lane signal.rails lane (values ++ value ∷ [])) (suc r)
      ≡ rails_at (in_lane signal.rails lane (values ++ value ∷ [])) r)
  told_before values value changes r lt told =
      ⊎_elim (λ one. inl one)
      (λ same. inr (λ lane inside.
      rails_pushed values value lane (suc r) lt ∙ same lane inside
      ∙ sym (rails_pushed values value lane r (omega arith))))
      (told r lt)

  told_same : (values : List V) (value : V) (changes : List ℕ)
      → ChangeAt signal changes values → IsLast signal values value
      → ChangeAt signal changes (values ++ value ∷ [])
  told_same values value changes told last r lt =
      let n : length values ≡ suc last.n = last.count in
      let long : length (values ++ value ∷ []) ≡ length values + 1 =
      length-append values (value ∷ []) in
      ⊎_elim
      (λ low. told_before values value changes r low told)
      (λ high. let e : r ≡ last.n = omega (arith, n, long, lt, high) in
      inr (λ lane inside.
      rails_of_last values value lane (suc r) (omega (arith, n, e))
      ∙ sym (last.same lane inside)
      ∙ ap (rails_at (in_lane signal.rails lane values)) (sym e)
      ∙ sym (rails_pushed values value lane r (omega (arith, n, e)))))
      (cases_lt (suc r) (length values))

  told_change : (values : List V) (value : V) (changes : List ℕ) (t : ℕ) → t ≡ length values
      → ChangeAt signal changes values
      → ChangeAt signal (changes ++ t ∷ []) (values ++ value ∷ [])
  told_change values value changes t is told r lt =
      let long : length (values ++ value ∷ []) ≡ length values + 1 =
      length-append values (value ∷ []) in
      ⊎_elim
      (λ low. ⊎_elim (λ one. inl (one_more_of changes t (suc r) one)) (λ same. inr same)
      (told_before values value changes r low told))
      (λ high. let e : t ≡ suc r = omega (arith, is, long, lt, high) in
      inl (
        length changes,
        subst (λ (k : ℕ). slice_get (changes ++ t ∷ []) (length changes) ≡ Some k) e
            (last_push changes t),
      ))
      (cases_lt (suc r) (length values))

  pub track_same : (values : List V) (value : V) (room more : ℕ) (changes : List ℕ)
      (croom horizon : ℕ) → IsTrack signal values room changes croom horizon
      → IsLast signal values value → length values < horizon → room ≤ more
      → IsTrack signal (values ++ value ∷ []) more changes croom horizon
  track_same values value room more changes croom horizon track last fits wider =
      let long : length (values ++ value ∷ []) ≡ length values + 1 =
      length-append values (value ∷ []) in
      let few : length changes ≤ length values = track.few in
      let r : horizon ≤ room = track.has_room in
      record {
        has_room = omega (arith, r, wider);
        has_changes_room = track.has_changes_room;
        short = track.short;
        fits = omega (arith, long, fits);
        few = omega (arith, long, few);
        inside = λ i c at. let lt : c < length values = track.inside i c at in omega (
          arith,
          long,
          lt,
        );
        ascending = track.ascending;
        told = told_same values value changes track.told last;
      }

  pub track_change : (values : List V) (value : V) (room more : ℕ) (changes : List ℕ)
      (croom cmore horizon t : ℕ) → t ≡ length values
      → IsTrack signal values room changes croom horizon
      → length values < horizon → room ≤ more → croom ≤ cmore
      → IsTrack signal (values ++ value ∷ []) more (changes ++ t ∷ []) cmore horizon
  track_change values value room more changes croom cmore horizon t is track fits wider cwider =
      let long : length (values ++ value ∷ []) ≡ length values + 1 =
      length-append values (value ∷ []) in
      let clong : length (changes ++ t ∷ []) ≡ length changes + 1 =
      length-append changes (t ∷ []) in
      let few : length changes ≤ length values = track.few in
      let r : horizon ≤ room = track.has_room in
      let cr : horizon ≤ croom = track.has_changes_room in
      record {
        has_room = omega (arith, r, wider);
        has_changes_room = omega (arith, cr, cwider);
        short = track.short;
        fits = omega (arith, long, fits);
        few = omega (arith, long, clong, few);
        inside = λ i c at.
            ⊎_elim
            (λ h. let lt : c < length values = track.inside i c h in omega (arith, long, lt))
            (λ p. let e : c ≡ t = p.1 in omega (arith, long, e, is))
            (at_push changes t c i at);
        ascending = ascending_more changes t track.ascending
            (λ i c at. let lt : c < length values = track.inside i c at in omega (arith, lt, is));
        told = told_change values value changes t is track.told;
      }

  track_roomy : (values : List V) (room : ℕ) (changes : List ℕ) (croom cmore horizon : ℕ)
      → croom ≤ cmore → IsTrack signal values room changes croom horizon
      → IsTrack signal values room changes cmore horizon
  track_roomy values room changes croom cmore horizon wider track =
      let cr : horizon ≤ croom = track.has_changes_room in
      record {
        has_room = track.has_room;
        has_changes_room = omega (arith, cr, wider);
        short = track.short;
        fits = track.fits;
        few = track.few;
        inside = track.inside;
        ascending = track.ascending;
        told = track.told;
      }

  pub track_none : (room croom horizon : ℕ) → horizon ≤ room → horizon ≤ croom → horizon ≤ 4000
      → IsTrack signal [] room [] croom horizon
  track_none room croom horizon r cr short = record {
    has_room = r;
    has_changes_room = cr;
    short = short;
    fits = omega arith;
    few = omega arith;
    inside = λ i c at. absurd (cc);
    ascending = λ i j a b order at_i at_j. absurd (cc);
    told = λ r lt. absurd (omega arith);
  }

  last_pushed : (values : List V) (value : V) → IsLast signal (values ++ value ∷ []) value
  last_pushed values value = record {
    n = length values;
    count = length-append values (value ∷ []) ∙ (let e : length values + 1 ≡ suc (length values) =
        omega arith in e);
    same = λ lane inside. rails_of_last values value lane (length values) refl;
  }

  -- the last value again, so many times
  filled : (values : List V) (value : V) (room : ℕ) (changes : List ℕ) (croom horizon n : ℕ)
      → IsTrack signal values room changes croom horizon → IsLast signal values value
      → length values + n ≤ horizon
      → IsTrack signal (values ++ replicate n value) room changes croom horizon
      × IsLast signal (values ++ replicate n value) value
  filled values value room changes croom horizon zero track last fits = (
    subst (λ (l : List V). IsTrack signal l room changes croom horizon)
        (sym (append-nil values)) track,
    subst (λ (l : List V). IsLast signal l value) (sym (append-nil values)) last,
  )
  filled values value room changes croom horizon (suc n) track last fits =
      let before = filled values value room changes croom horizon n track last (omega arith) in
      let so_far : List V = values ++ replicate n value in
      let one : n + 1 ≡ suc n = omega arith in
      let same : so_far ++ value ∷ [] ≡ values ++ replicate (suc n) value =
      append_assoc values (replicate n value) (value ∷ [])
      ∙ ap (λ (l : List V). values ++ l)
      (replicate_more n value ∙ ap (λ (k : ℕ). replicate k value) one) in
      let long : length so_far ≡ length values + n =
      length-append values (replicate n value)
      ∙ ap (λ (k : ℕ). length values + k) (length-replicate n value) in
      let itself : room ≤ room = omega arith in (
        subst (λ (l : List V). IsTrack signal l room changes croom horizon) same
            (track_same so_far value room room changes croom horizon before.0 before.1
            (omega (arith, long, fits)) itself),
        subst (λ (l : List V). IsLast signal l value) same (last_pushed so_far value),
      )

  module _ (values : List V) (changes : List ℕ) (t end : ℕ)
      (told : ChangeAt signal changes values)
      (next : IsNextAfter changes t (length values) end) (lane : ℕ) (inside : lane < signal.lanes)
    where
      same_on : (k : ℕ) → t + k < end
          → rails_at (in_lane signal.rails lane values) (t + k)
          ≡ rails_at (in_lane signal.rails lane values) t
      same_on zero lt = let e : t + 0 ≡ t = omega arith in
          ap (rails_at (in_lane signal.rails lane values)) e
      same_on (suc k) lt =
          let e : t + suc k ≡ suc (t + k) = omega arith in
          let most : end ≤ length values = next.limited in
          ap (rails_at (in_lane signal.rails lane values)) e
          ∙ ⊎_elim
          (λ (i, at). let far : end ≤ suc (t + k) = next.least i (suc (t + k)) at (omega arith) in
          absurd (omega arith))
          (λ same. same lane inside)
          (told (t + k) (omega arith))
          ∙ same_on k (omega arith)

      pub stays : StaysUntil (rails_at (in_lane signal.rails lane values)) t (length values) end
      stays = record {
        later = next.later;
        limited = next.limited;
        same = λ r low high.
            let e : r ≡ t + (r - t) = omega arith in
            ap (rails_at (in_lane signal.rails lane values)) e ∙ same_on (r - t) (omega arith);
      }

  -- the same since the greatest delay, where no change is later
  pub steady_since : (values : List V) (changes : List ℕ) (e : Ends)
      → ChangeAt signal changes values → e.least ≤ e.greatest → 1 ≤ e.greatest
      → e.greatest ≤ length values
      → ((i c : ℕ) → slice_get changes i ≡ Some c → c ≤ length values - e.greatest)
      → (lane : ℕ) → lane < signal.lanes
      → IsSteadySince (rails_at (in_lane signal.rails lane values)) e (length values)
  steady_since values changes e told ordered some past before lane inside =
      let end = length values in
      let next : IsNextAfter changes (end - e.greatest) end end = record {
        later = omega arith;
        limited = omega arith;
        least = λ i c at after. let low : c ≤ end - e.greatest = before i c at in absurd (omega
            arith);
      } in
      let on : StaysUntil (rails_at (in_lane signal.rails lane values)) (end - e.greatest) end end =
      stays values changes (end - e.greatest) end told next lane inside in
      record {
        ordered = ordered;
        past = past;
        same = λ r low high.
            on.same r (omega arith) high ∙ sym (on.same (end - 1) (omega arith) (omega arith));
      }

  -- so many more of one value, where its change is noted
  pub track_filled : (values new : List V) (value : V) (room more : ℕ) (changes noted : List ℕ)
      (croom cmore horizon n : ℕ) → IsTrack signal values room changes croom horizon
      → length values + suc n ≤ horizon → new ≡ values ++ replicate (suc n) value → room ≤ more
      → croom ≤ cmore
      → ((noted ≡ changes) × IsLast signal values value)
      ⊎ (noted ≡ changes ++ length values ∷ [])
      → IsTrack signal new more noted cmore horizon
  track_filled values new value room more changes noted croom cmore horizon n track fits is wider
      cwider which =
      let below : length values < horizon = omega (arith, fits) in
      let first : IsTrack signal (values ++ value ∷ []) more noted cmore horizon =
      ⊎_elim
      (λ same.
      subst (λ (l : List ℕ). IsTrack signal (values ++ value ∷ []) more l cmore horizon)
      (sym same.0)
      (track_roomy (values ++ value ∷ []) more changes croom cmore horizon cwider
      (track_same values value room more changes croom horizon track same.1 below wider)))
      (λ changed.
      subst (λ (l : List ℕ). IsTrack signal (values ++ value ∷ []) more l cmore horizon)
      (sym changed)
      (track_change values value room more changes croom cmore horizon (length values) refl track
      below wider cwider))
      which in
      let long : length (values ++ value ∷ []) ≡ length values + 1 =
      length-append values (value ∷ []) in
      let one : 1 + n ≡ suc n = omega arith in
      let same : (values ++ value ∷ []) ++ replicate n value
      ≡ values ++ replicate (suc n) value =
      append_assoc values (value ∷ []) (replicate n value) in
      subst (λ (l : List V). IsTrack signal l more noted cmore horizon) (same ∙ sym is)
      (filled (values ++ value ∷ []) value more noted cmore horizon n first
      (last_pushed values value) (omega (arith, long, fits))).0

  -- ---- a track as it is held

  -- until where the last change was it is as the values before
  same_before : (values : List V) (last : V) (len lane r : ℕ) → r < length values
      → rails_at (in_lane signal.rails lane (all_values values last len)) r
      ≡ rails_at (in_lane signal.rails lane values) r
  same_before values last len lane r lt =
      let x : V = get_or values r last in
      let at : slice_get values r ≡ Some x = slice_get-get_or values r last lt in
      rails_read signal.rails (all_values values last len) r x lane (read_before values last len r x
      at)
      ∙ sym (rails_read signal.rails values r x lane at)

  pub stays_before : (values : List V) (last : V) (len t end lane : ℕ)
      → length values ≤ len - 1
      → StaysUntil (rails_at (in_lane signal.rails lane values)) t (length values) end
      → StaysUntil (rails_at (in_lane signal.rails lane (all_values values last len))) t
      (length (all_values values last len)) end
  stays_before values last len t end lane before stays =
      let long : length (all_values values last len) ≡ len = all_long values last len before in
      let later : t < end = stays.later in
      let limited : end ≤ length values = stays.limited in
      record {
        later = later;
        limited = omega (arith, long, limited, before);
        same = λ r low high.
            same_before values last len lane r (omega arith)
            ∙ stays.same r low high
            ∙ sym (same_before values last len lane t (omega arith));
      }

  -- from the last change on it stays
  pub stays_last : (values : List V) (last : V) (len t lane : ℕ) → length values ≤ len - 1
      → length values ≤ t → t < len
      → StaysUntil (rails_at (in_lane signal.rails lane (all_values values last len))) t
      (length (all_values values last len)) len
  stays_last values last len t lane before past inside =
      let long : length (all_values values last len) ≡ len = all_long values last len before in
      record {
        later = inside;
        limited = omega (arith, long);
        same = λ r low high.
            rails_read signal.rails (all_values values last len) r last lane
            (read_after values last len r (omega arith) high)
            ∙ sym (rails_read signal.rails (all_values values last len) t last lane
            (read_after values last len t past inside));
      }

  pub held_none : (last : V) (room croom horizon : ℕ) → horizon ≤ room → horizon ≤ croom
      → horizon ≤ 4000 → IsHeldTrack signal [] last 0 room [] croom horizon
  held_none last room croom horizon r cr short = record {
    before = omega arith;
    track = track_none room croom horizon r cr short;
  }

  -- it goes on with the last value
  pub held_on : (values : List V) (last : V) (len room : ℕ) (changes : List ℕ)
      (croom horizon count : ℕ) → 1 ≤ len → 1 ≤ count → len + count ≤ horizon
      → IsHeldTrack signal values last len room changes croom horizon
      → IsHeldTrack signal values last (len + count) room changes croom horizon
  held_on values last len room changes croom horizon count begun some fits held =
      let keys : List V = all_values values last len in
      let before : length values ≤ len - 1 = held.before in
      let long : length keys ≡ len = all_long values last len before in
      let next : count ≡ suc (count - 1) = omega arith in
      let is_last : IsLast signal keys last = record {
        n = len - 1;
        count = omega (arith, long);
        same = λ lane inside.
            rails_read signal.rails keys (len - 1) last lane
            (read_after values last len (len - 1) before (omega arith));
      } in
      record {
        before = omega (arith, before);
        track =
            track_filled keys (all_values values last (len + count)) last room room changes changes
            croom croom horizon (count - 1) held.track (omega (arith, long, fits))
            (all_more values last len count (omega (arith, before))
            ∙ ap (λ (n : ℕ). keys ++ replicate n last) next)
            (omega arith) (omega arith) (inl (refl, is_last));
      }

  pub sent_on : (values : List V) (last value : V) (len count lane : ℕ)
      → length values ≤ len - 1 → signal.rails last lane ≡ signal.rails value lane
      → in_lane signal.rails lane (all_values values last (len + count))
      ≡ in_lane signal.rails lane (all_values values last len) ++ replicate count (signal.rails
      value lane)
  sent_on values last value len count lane before same =
      ap (in_lane signal.rails lane) (all_more values last len count (omega (arith, before)))
      ∙ map-append (λ v. signal.rails v lane) (all_values values last len) (replicate count last)
      ∙ ap (λ (l : List Rails). in_lane signal.rails lane (all_values values last len) ++ l)
      (map_replicate (λ v. signal.rails v lane) count last
      ∙ ap (replicate count) same)

  -- it turns to another value; the ticks before are written
  all_turned : (keys : List V) (value : V) (len count : ℕ) → length keys ≡ len
      → all_values keys value (len + count) ≡ keys ++ replicate count value
  all_turned keys value len count long =
      let left : len + count - length keys ≡ count = omega (arith, long) in
      ap (λ (n : ℕ). keys ++ replicate n value) left

  pub held_turned : (values keys : List V) (last value : V) (len room more : ℕ)
      (changes noted : List ℕ) (croom cmore horizon count : ℕ) → 1 ≤ count
      → len + count ≤ horizon → keys ≡ all_values values last len → room ≤ more
      → noted ≡ changes ++ len ∷ [] → croom ≤ cmore
      → IsHeldTrack signal values last len room changes croom horizon
      → IsHeldTrack signal keys value (len + count) more noted cmore horizon
  held_turned values keys last value len room more changes noted croom cmore horizon count some
      fits is wider changed cwider held =
      let long : length keys ≡ len = ap length is ∙ all_long values last len held.before in
      let old : IsTrack signal keys room changes croom horizon =
      subst (λ (l : List V). IsTrack signal l room changes croom horizon) (sym is) held.track in
      let next : count ≡ suc (count - 1) = omega arith in
      record {
        before = omega (arith, long);
        track =
            track_filled keys (all_values keys value (len + count)) value room more changes noted
            croom cmore horizon (count - 1) old (omega (arith, long, fits))
            (all_turned keys value len count long
            ∙ ap (λ (n : ℕ). keys ++ replicate n value) next)
            wider cwider
            (inr (changed ∙ ap (λ (n : ℕ). changes ++ n ∷ []) (sym long)));
      }

  pub sent_turned : (values keys : List V) (last value : V) (len count lane : ℕ)
      → length values ≤ len - 1 → keys ≡ all_values values last len
      → in_lane signal.rails lane (all_values keys value (len + count))
      ≡ in_lane signal.rails lane (all_values values last len) ++ replicate count (signal.rails
      value lane)
  sent_turned values keys last value len count lane before is =
      let long : length keys ≡ len = ap length is ∙ all_long values last len before in
      ap (in_lane signal.rails lane) (all_turned keys value len count long)
      ∙ map-append (λ v. signal.rails v lane) keys (replicate count value)
      ∙ ap (λ (l : List Rails). in_lane signal.rails lane keys ++ l)
      (map_replicate (λ v. signal.rails v lane) count value)
      ∙ ap (λ (l : List V). in_lane signal.rails lane l ++ replicate count (signal.rails value
      lane)) is

-- ---- the first change after a tick

pub parted : (changes : List ℕ) (t : ℕ) → AreAscending changes
    → IsPartitionedBy (λ (c : ℕ). leb c t) changes
parted changes t up =
    IsPartitionedBy-leb (λ (c : ℕ). c) changes t
    (λ i j d order inside. up i j (get_or changes i d) (get_or changes j d) order
    (slice_get-get_or changes i d (omega arith)) (slice_get-get_or changes j d inside))

-- all that are not after tick t stand before place i
abbrev PartsAt : List ℕ → ℕ → ℕ → Type 0
PartsAt changes t i =
    IsPartitionPoint (λ (c : ℕ). leb c t ≡ true) (λ (c : ℕ). leb c t ≡ false) changes i

module _ (changes : List ℕ) (t bound i : ℕ) (up : AreAscending changes)
    (inside : (j c : ℕ) → slice_get changes j ≡ Some c → c < bound) (early : t < bound)
    (point : PartsAt changes t i) where
  -- a change after t stands at place i or after it
  from_place : (j c : ℕ) → slice_get changes j ≡ Some c → t < c → i ≤ j
  from_place j c at later =
      ⊎_elim
      (λ before.
      let there : j < length changes = slice_get_within changes j c at in
      let is : get_or changes j 0 ≡ c = get_or_from_slice_get changes j c 0 at in
      let le : get_or changes j 0 ≤ t = leb-true _ _ (point.0 j 0 (omega arith) before) in
      absurd (omega arith))
      (λ le. le)
      (cases_lt j i)

  pub next_found : i < length changes → IsNextAfter changes t bound (get_or changes i 0)
  next_found there =
      let at : slice_get changes i ≡ Some (get_or changes i 0) =
      slice_get-get_or changes i 0 there in
      let below : get_or changes i 0 < bound = inside i (get_or changes i 0) at in
      record {
        later = leb-false _ _ (point.1 i 0 (omega arith) there);
        limited = omega arith;
        least = λ j c here later.
            up i j (get_or changes i 0) c (from_place j c here later) at here;
      }

  pub none_found : length changes ≤ i → IsNextAfter changes t bound bound
  none_found past = record {
    later = early;
    limited = omega arith;
    least = λ j c here later.
        let there : j < length changes = slice_get_within changes j c here in
        let from : i ≤ j = from_place j c here later in
        absurd (omega arith);
  }
