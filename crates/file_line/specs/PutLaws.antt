-- A table when a value is put under a key: its map beside its members, how deep it nests, and that it
-- has no date that could not be written.
use Rattle.std.proofs.Common.{◌≡◌, ◌+◌, ◌<◌, ℕ, List, [], ◌∷◌, length, drop, get_or, map, String}
use Rattle.std.proofs.Common.{Global, Ordering, Less, Equal, Greater, string_bytes, refl, ◌∙◌, Bor}
use Rattle.std.proofs.Common.{◌≤◌, true, arith}
use Rattle.std.proofs.lemmas.Bool.{and_parts}
use Rattle.std.proofs.lemmas.List.{drop_more}
use Rattle.std.specs.String.{string_cmp}
use Rattle.std.specs.Ordering.{match_ordering, nat_cmp}
use Rattle.std.specs.Cmp.Lexicographic.{slice_cmp}
use Rattle.std.specs.BTreeMap.{insert_entry}
use Rattle.toml.specs.Data.{Data, no_members, member, depth, members_depth, has_valid_dates}
use Rattle.toml.specs.Data.{members_have_valid_dates}
use Rattle.toml.specs.{Data.Members, View.view, View.members_view, declared.value.Value.Value}
use Rattle.toml.proofs.Views.{Entry}
use Rattle.model_line.specs.{declared.line.Line.Line, declared.line.Owner.Owner}
use Rattle.model_line.specs.{declared.line.Setting.Setting, Settings.time_key}
use Rattle.file_line.specs.Canonical.{put_member, put_all, time_data, setting_interval}
use Rattle.file_line.specs.Canonical.{setting_pair, put_times, put_groups}

match_members :
    (o : Ordering) (a b c : List Entry)
    → members_view (match_ordering o a b c)
    ≡ match_ordering o (members_view a) (members_view b) (members_view c)
match_members Less a b c = refl
match_members Equal a b c = refl
match_members Greater a b c = refl

-- an insert puts the value at the key's place
pub members_view-insert_entry :
    (es : List Entry) (k : String Global) (v : Value)
    → members_view (insert_entry string_cmp es k v)
    ≡ put_member (string_bytes k) (view v) (members_view es)
members_view-insert_entry [] k v = refl
members_view-insert_entry (e ∷ es) k v =
    match_members (string_cmp k e.0) _ _ _ ∙ rw (members_view-insert_entry es k v)

-- the next setting, and then those after it
pub settings_more :
    (unit : ℕ) (line : Line) (o : Owner) (xs : List Setting) (i : ℕ) (ms : Members) (d : Setting)
    → i < length xs
    → put_all (map (setting_pair unit line o) (drop i xs)) ms
    ≡ put_all (map (setting_pair unit line o) (drop (i + 1) xs))
    (put_member (time_key (get_or xs i d))
    (time_data unit (setting_interval line o (get_or xs i d))) ms)
settings_more unit line o xs i ms d h = rw (drop_more xs i d h)

-- the next group, and then those after it
pub groups_more :
    (unit : ℕ) (line : Line) (o : Owner) (xs : List (Bor (List Setting))) (i : ℕ) (ms : Members)
    (d : Bor (List Setting)) → i < length xs
    → put_groups unit line o (map (λ group. group.now) (drop i xs)) ms
    ≡ put_groups unit line o (map (λ group. group.now) (drop (i + 1) xs))
    (put_times unit line o (get_or xs i d).now ms)
groups_more unit line o xs i ms d h = rw (drop_more xs i d h)

-- ---- what stays so

pub put_depth : (n : ℕ) (k : List ℕ) (d : Data) (ms : Members) → depth d ≤ n → members_depth ms ≤ n
    → members_depth (put_member k d ms) ≤ n
put_depth n k d no_members a b = omega arith
put_depth n k d (member l e ms) a b =
    let more : members_depth (put_member k d ms) ≤ n = put_depth n k d ms a (omega arith) in
    elim (slice_cmp nat_cmp k l)
    as (λ o. members_depth
    (match_ordering o (member k d (member l e ms)) (member l d ms)
    (member l e (put_member k d ms))) ≤ n)
    [ Less ↦ omega arith | Equal ↦ omega arith | Greater ↦ omega arith ]

pub put_dated : (k : List ℕ) (d : Data) (ms : Members) → has_valid_dates d ≡ true
    → members_have_valid_dates ms ≡ true → members_have_valid_dates (put_member k d ms) ≡ true
put_dated k d no_members a b = rw a
put_dated k d (member l e ms) a b =
    let (here, rest) = and_parts (has_valid_dates e) (members_have_valid_dates ms) b in
    let more : members_have_valid_dates (put_member k d ms) ≡ true = put_dated k d ms a rest in
    elim (slice_cmp nat_cmp k l)
    as (λ o. members_have_valid_dates
    (match_ordering o (member k d (member l e ms)) (member l d ms)
    (member l e (put_member k d ms))) ≡ true)
    [ Less ↦ rw (a, here, rest) | Equal ↦ rw (a, rest) | Greater ↦ rw (here, more) ]
