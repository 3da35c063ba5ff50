-- Printed times are read back.
use Rattle.std.proofs.Common.{◌≡◌, ◌+◌, ◌-◌, ◌*◌, ◌/◌, ◌<◌, ◌≤◌, ◌∙◌, ℕ, Bool, true, false, List}
use Rattle.std.proofs.Common.{[], ◌∷◌}
use Rattle.std.proofs.Common.{Ok, Option, Some, None, arith, ap, refl, take, length, map}
use Rattle.std.proofs.Common.{mul-le-mul_right}
use Rattle.std.proofs.Math.Nat.{mul-div_left}
use Rattle.std.proofs.lemmas.Bool.{le-leb}
use Rattle.std.proofs.lemmas.Nat.{div-mul-add}
use Rattle.std.proofs.lemmas.List.{append-nil}
use Rattle.toml.specs.Data.{Data, Members, get_member}
use Rattle.model_line.specs.Settings.{time_key, zone1_settings, zone2_settings, reverse_settings}
use Rattle.model_line.specs.Settings.{undervoltage_settings, guard_settings, weak_settings}
use Rattle.model_line.specs.Settings.{scheme_settings, receiver_settings, table_key}
use Rattle.model_line.specs.declared.line.Scheme.TheVariants.{Dcb, Dcub, Dtt}
use Rattle.model_line.specs.{declared.line.Scheme.Scheme}
use Rattle.file_line.specs.Places.{Places, in_table}
use Rattle.model_line.specs.{declared.bounds.Bounds.Bounds, declared.line.Setting.Setting}
use Rattle.model_line.specs.{declared.line.Line.Line, declared.line.Owner.Owner}
use Rattle.file_document.specs.Keys.{all_known, first_unknown}
use Rattle.file_line.specs.Times.{time_in, time_there, time_at, times_at, times_in, group_key, required_times}
use Rattle.file_line.specs.Times.{optional_times}
use Rattle.file_line.specs.Canonical.{table_of, time_data, setting_interval, setting_pair}
use Rattle.file_line.specs.Canonical.{times_data}
use Rattle.file_line.proofs.ParamPlaces.{intervals, take_next, times_at_place, ArePlaced}
use Rattle.file_line.proofs.{TimeLaws.IsTime, Binds.ok_of}

-- a printed time gives its interval
pub time_back :
    (path : List ℕ) (unit fewest : ℕ) (b : Bounds) → 0 < unit → IsTime fewest b
    → time_in path unit fewest (time_data unit b) ≡ Ok b
time_back path unit fewest b some t =
    let low : b.least * unit ≤ b.greatest * unit = mul-le-mul_right unit t.ordered in
    let high : b.greatest * unit ≤ 4000 * unit = mul-le-mul_right unit t.within in
    let least : b.least * unit / unit ≡ b.least = mul-div_left b.least some in
    let greatest : (b.greatest * unit + (unit - 1)) / unit ≡ b.greatest =
    div-mul-add b.greatest unit (unit - 1) (omega arith) in
    rw (
      least,
      le-leb (b.least * unit) (b.greatest * unit) low,
      le-leb (b.greatest * unit) (4000 * unit) high,
      le-leb fewest b.least t.enough,
      greatest,
    )

-- as many intervals of the line
pub as_many :
    (line : Line) (i j : ℕ) → i ≡ j
    → ok_of (take i (intervals line)) ≡ Ok (take j (intervals line))
as_many line i j same = ap (λ n. ok_of (take n (intervals line))) same

module _ (unit : ℕ) (line : Line) (o : Owner) (some : 0 < unit) where
  -- what is printed for these settings; nothing where there are none
  abbrev pub value : List Setting → Option Data
  value [] = None
  value (x ∷ xs) = Some (times_data unit line o (x ∷ xs))

  -- the members are the times of these settings
  abbrev pub AreHeld : Members → List Setting → Type 0
  AreHeld ms [] = Unit {0}
  AreHeld ms (x ∷ xs) =
      (get_member (time_key x) ms ≡ Some (time_data unit (setting_interval line o x)))
      × AreHeld ms xs

  times_back :
      (places : Places) (ms : Members) (xs : List Setting) (j : ℕ) → AreHeld ms xs
      → ArePlaced line o j xs → j + length xs ≤ length line.params.items
      → times_at places xs unit ms (take j (intervals line))
      ≡ Ok (take (j + length xs) (intervals line))
  unfolding times_at time_there
  times_back places ms [] j held placed fits = as_many line j (j + 0) (omega arith)
  times_back places ms (x ∷ xs) j held placed fits =
      let here = times_at_place line j (omega arith) in
      let time = time_back (places.key (time_key x)) unit 0 (setting_interval line o x) some
      (rw placed.0 here) in
      let next = take_next line j (omega arith) in
      rw (held.0, time, placed.0, next)
      (times_back places ms xs (j + 1) held.1 placed.1 (omega arith)
      ∙ as_many line (j + 1 + length xs) (j + length (x ∷ xs)) (omega arith))

  -- the table that is printed for a group has its settings and no others
  pub record IsWhole (xs : List Setting) : Type 0 where
    pub known :
        first_unknown (map time_key xs) (table_of (map (setting_pair unit line o) xs)) ≡ None
    pub held : AreHeld (table_of (map (setting_pair unit line o) xs)) xs

  pub zone1_whole : IsWhole zone1_settings
  zone1_whole = record { known = refl; held = (refl, (refl, tt)) }

  pub zone2_whole : IsWhole zone2_settings
  zone2_whole = record { known = refl; held = (refl, (refl, tt)) }

  pub reverse_whole : IsWhole reverse_settings
  reverse_whole = record { known = refl; held = (refl, (refl, tt)) }

  pub undervoltage_whole : IsWhole undervoltage_settings
  undervoltage_whole = record { known = refl; held = (refl, (refl, tt)) }

  pub guard_whole : IsWhole (guard_settings true)
  guard_whole = record { known = refl; held = (refl, (refl, tt)) }

  pub weak_whole : IsWhole (weak_settings true)
  weak_whole = record { known = refl; held = (refl, (refl, (refl, tt))) }

  pub scheme_whole : (s : Scheme) → IsWhole (scheme_settings s)
  scheme_whole Dcb = record { known = refl; held = (refl, (refl, tt)) }
  scheme_whole Dtt = record { known = refl; held = (refl, tt) }
  scheme_whole _ = record { known = refl; held = tt }

  pub receiver_whole : (s : Scheme) → IsWhole (receiver_settings s)
  receiver_whole Dcub = record { known = refl; held = (refl, (refl, (refl, tt))) }
  receiver_whole _ = record { known = refl; held = tt }

  -- a group is read back
  group_back :
      (path : List ℕ) (j : ℕ) (xs : List Setting) → IsWhole xs → ArePlaced line o j xs
      → j + length xs ≤ length line.params.items
      → times_in path xs unit (times_data unit line o xs) (take j (intervals line))
      ≡ Ok (take (j + length xs) (intervals line))
  unfolding times_in times_data all_known
  group_back path j xs whole placed fits =
      rw whole.known
      (times_back (in_table path) (table_of (map (setting_pair unit line o) xs)) xs j whole.held placed fits)

  module _ (places : Places) (ms : Members) (j : ℕ) where
    pub required_back :
        (xs : List Setting) → IsWhole xs → ArePlaced line o j xs
        → j + length xs ≤ length line.params.items → get_member (group_key xs) ms ≡ value xs
        → required_times places xs unit ms (take j (intervals line))
        ≡ Ok (take (j + length xs) (intervals line))
    unfolding required_times
    required_back [] whole placed fits held = as_many line j (j + 0) (omega arith)
    required_back (x ∷ xs) whole placed fits held =
        rw held (group_back (places.key (table_key x)) j (x ∷ xs) whole placed fits)

    pub optional_back :
        (absent : List Bounds) (xs : List Setting) → IsWhole xs → ArePlaced line o j xs
        → j + length xs ≤ length line.params.items
        → get_member (group_key xs) ms ≡ Some (times_data unit line o xs)
        → optional_times absent places xs unit ms (take j (intervals line))
        ≡ Ok (take (j + length xs) (intervals line))
    unfolding optional_times
    optional_back absent xs whole placed fits held =
        rw held (group_back (places.key (group_key xs)) j xs whole placed fits)

    -- where it is absent, nothing is read
    absent_back :
        (xs : List Setting) → get_member (group_key xs) ms ≡ None
        → optional_times [] places xs unit ms (take j (intervals line))
        ≡ Ok (take (j + 0) (intervals line))
    unfolding optional_times
    absent_back xs held =
        rw (held, append-nil (take j (intervals line))) (as_many line j (j + 0) (omega arith))

    -- a group that stands where a flag is set is read back
    pub flagged_back :
        (settings : Bool → List Setting) → IsWhole (settings true) → settings false ≡ []
        → value (settings true) ≡ Some (times_data unit line o (settings true))
        → (flag : Bool) → ArePlaced line o j (settings flag)
        → j + length (settings flag) ≤ length line.params.items
        → get_member (group_key (settings true)) ms ≡ value (settings flag)
        → optional_times [] places (settings true) unit ms (take j (intervals line))
        ≡ Ok (take (j + length (settings flag)) (intervals line))
    flagged_back settings whole none some_are true placed fits held =
        optional_back [] (settings true) whole placed fits (held ∙ some_are)
    flagged_back settings whole none some_are false placed fits held =
        rw none (absent_back (settings true) (rw none at held))
