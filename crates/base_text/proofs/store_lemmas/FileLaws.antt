-- The bytes under names, read and replaced.
use Rattle.std.proofs.Common.{◌≡◌, ℕ, Bool, true, false, List, [], ◌∷◌, refl, sym, ◌∙◌, ap, Option}
use Rattle.std.proofs.Common.{Some, String, Vec, Global, map}
use Rattle.std.proofs.Math.Bool.{cond}
use Rattle.std.proofs.lemmas.Cmp.{eq_by_cmp_equiv}
use Rattle.std.proofs.lemmas.Map.Text.{btree_map_updates_text, is_eq-slice_cmp}
use Rattle.std.specs.BTreeMap.{BTreeMap, UpdatesBy, get_by_text}
use Rattle.std.specs.Cmp.Lexicographic.{slice_cmp, nat_list_cmp_total}
use Rattle.std.specs.FinMap.{find, get, insert, get-from_entries, get-insert, same_map}
use Rattle.std.specs.FinMap.{nat_cmp-IsAntisymmetric, slice_cmp-IsAntisymmetric}
use Rattle.std.specs.Map.{lookup}
use Rattle.std.specs.Option.{option_map}
use Rattle.std.specs.Ordering.{nat_cmp, is_eq}
use Rattle.std.specs.Str.{bytes_eq}
use Rattle.std.specs.String.{string_bytes, string_cmp}
use Rattle.base_text.specs.store.Files.{files_of}

-- a choice between two values, mapped
option_map-cond : {A B : Type 0} (f : A → B) (b : Bool) (x y : Option A)
    → option_map f (cond b x y) ≡ cond b (option_map f x) (option_map f y)
option_map-cond f true x y = refl
option_map-cond f false x y = refl

-- the test that finds a name
abbrev is_named : List ℕ → String Global → Bool
is_named name key = is_eq (slice_cmp nat_cmp name (string_bytes key))

-- to find a name among the bytes is to look up its vector
find-files : (entries : List (String Global × Vec ℕ Global)) (name : List ℕ)
    → find (slice_cmp nat_cmp) name (map (λ entry. (string_bytes entry.0, entry.1.items)) entries)
    ≡ option_map (λ v. v.items) (lookup (is_named name) entries)
find-files [] name = refl
find-files (entry ∷ entries) name =
    ap (cond (is_named name entry.0) (Some entry.1.items)) (find-files entries name)
    ∙ sym (option_map-cond (λ v. v.items) (is_named name entry.0) (Some entry.1) _)

-- what is held under a name
pub get-files_of : (m : BTreeMap (String Global) (Vec ℕ Global)) (name : List ℕ)
    → get (files_of m.entries) name ≡ option_map (λ v. v.items) (get_by_text m name)
get-files_of m name = get-from_entries nat_list_cmp_total _ name ∙ find-files m.entries name

-- one name gets new bytes
pub files_of-insert : (name : List ℕ)
    (m n : BTreeMap (String Global) (Vec ℕ Global)) (v : Vec ℕ Global)
    → UpdatesBy string_cmp (λ k. slice_cmp nat_cmp name (string_bytes k)) m n (Some v)
    → files_of n.entries ≡ insert (files_of m.entries) name v.items
files_of-insert name m n v updates =
    same_map nat_list_cmp_total (slice_cmp-IsAntisymmetric nat_cmp-IsAntisymmetric) _ _ (λ q.
    get-files_of n q
    ∙ ap (option_map (λ v. v.items)) (btree_map_updates_text name m n (Some v) updates q)
    ∙ option_map-cond (λ v. v.items) (bytes_eq name q) (Some v) (get_by_text m q)
    ∙ ap (cond (bytes_eq name q) (Some v.items)) (sym (get-files_of m q))
    ∙ ap (λ b. cond b (Some v.items) (get (files_of m.entries) q))
    (sym (is_eq-slice_cmp name q) ∙ (eq_by_cmp_equiv nat_list_cmp_total).symm name q)
    ∙ sym (get-insert nat_list_cmp_total (files_of m.entries) name v.items q))

-- what a pull reads
pub ruleset held_bytes = (get-files_of)
