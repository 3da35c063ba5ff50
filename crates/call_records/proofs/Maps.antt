-- What every map keeps.
use Rattle.std.proofs.Common.{◌≡◌, ◌<◌, ◌≤◌, ◌+◌, ◌-◌, ◌++◌, ◌&&◌, ℕ, pos, negsuc, true, List, []}
use Rattle.std.proofs.Common.{◌∷◌, Ok, length, length-append, arith, subst, ap, refl}
use Rattle.std.specs.Prelude.{codes, nat_le, nat_lt}
use Rattle.std.proofs.lemmas.Bool.{and_parts, leb-true}
use Rattle.toml.specs.Data.{Data, string, integer, float, boolean, datetime, array, table, Members, Items}
use Rattle.toml.specs.Data.{no_items, item}
use Rattle.base_memory.specs.Gives.{◌>>=◌}
use Rattle.base_memory.specs.CheckLaws.{passed, same_ok, test_passed}
use Rattle.model_line.specs.declared.line.Line.{Line}
use Rattle.model_line.specs.declared.script.Kind.{Kind}
use Rattle.model_line.specs.declared.script.Kind.TheVariants.{Internal, External}
use Rattle.model_line.specs.{Fits.deadline_fits, PlainNames.is_plain_name}
use Rattle.file_document.specs.Keys.{document_of}
use Rattle.file_document.specs.Keys.{all_known, array_at, count_of, counted, number_at, number_in, opened}
use Rattle.file_document.specs.Keys.{text_at, value_at}
use Rattle.file_document.specs.Words.{plain_name}
use Rattle.file_records.specs.map.Maps.{MapValues, deadline_at, kind_at, map_in, map_of}
use Rattle.file_records.specs.map.Maps.{recorders_of, script_at, start_at, top_keys}
use Rattle.file_document.specs.Paths.{numbered, under}
use Rattle.file_records.specs.map.Recorders.{RecorderValues, recorder_at, recorders_in}
use Rattle.file_document.specs.declared.fault.DocumentFault.TheVariants as fault

-- a recorder for each item
many_of : (line : Line) (start : ℕ) (path : List ℕ) (i : ℕ) (ds : Items) (done rs : List RecorderValues)
    → recorders_in line start path i ds done ≡ Ok rs → length rs ≡ length done + count_of ds
unfolding recorders_in
many_of line start path i no_items done rs e =
    let same : done ≡ rs = same_ok done rs e in
    subst (λ (l : List RecorderValues). length l ≡ length done + 0) same (omega arith)
many_of line start path i (item d ds) done rs e =
    let p = passed (recorder_at line start (numbered path i) d)
    (λ new. recorders_in line start path (i + 1) ds (done ++ new ∷ [])) rs e in
    let rest = many_of line start path (i + 1) ds (done ++ p.value ∷ []) rs p.rest in
    let one = length-append done (p.value ∷ []) in
    omega (arith, rest, one)

few_of : (line : Line) (start : ℕ) (top : Members) (rs : List RecorderValues)
    → recorders_of line start top ≡ Ok rs → length rs ≤ 8
unfolding recorders_of
few_of line start top rs e =
    let path = under [] (codes "recorder") in
    let all = passed (array_at [] (codes "recorder") top)
    (λ ds. counted path 1 8 ds >>= λ few. recorders_in line start path 0 few []) rs e in
    let few = passed (counted path 1 8 all.value) (λ ds. recorders_in line start path 0 ds []) rs all.rest in
    let test = test_passed (nat_le 1 (count_of all.value) && nat_le (count_of all.value) 8) all.value
    (fault.Range path) few.value few.was in
    let within = leb-true (count_of all.value) 8
    (and_parts (nat_le 1 (count_of all.value)) (nat_le (count_of all.value) 8) test.0).1 in
    let many = many_of line start path 0 few.value [] rs few.rest in
    let same = ap count_of test.1 in
    omega (arith, within, many, same)

plain_of : (top : Members) (name : List ℕ) → script_at top ≡ Ok name → is_plain_name name ≡ true
unfolding script_at
plain_of top name e =
    let p = passed (text_at [] (codes "script") top) (plain_name (under [] (codes "script"))) name e in
    let test = test_passed (is_plain_name p.value) p.value (fault.BadName (under [] (codes "script"))) name
    p.rest in
    subst (λ (n : List ℕ). is_plain_name n ≡ true) test.1 test.0

below_top : (path : List ℕ) (horizon : ℕ) (d : Data) (n : ℕ) → 1 ≤ horizon
    → number_in path 0 (horizon - 1) d ≡ Ok n → nat_lt n horizon ≡ true
below_top path horizon (integer (pos k)) n some e =
    let test = test_passed (nat_le 0 k && nat_le k (horizon - 1)) k (fault.Range path) n e in
    let within = leb-true k (horizon - 1)
    (and_parts (nat_le 0 k) (nat_le k (horizon - 1)) test.0).1 in
    let same : k ≡ n = test.1 in
    let less : n < horizon = omega (arith, within, same) in
    grind arith
below_top path horizon (integer (negsuc k)) n some e = absurd (cc)
below_top path horizon (string x) n some e = absurd (cc)
below_top path horizon (float x) n some e = absurd (cc)
below_top path horizon (boolean x) n some e = absurd (cc)
below_top path horizon (datetime x) n some e = absurd (cc)
below_top path horizon (array x) n some e = absurd (cc)
below_top path horizon (table x) n some e = absurd (cc)

deadline_of : (line : Line) (kind : Kind) (top : Members) (n : ℕ) → deadline_at line kind top ≡ Ok n
    → deadline_fits line.horizon kind n ≡ true
unfolding number_at
deadline_of line Internal top n e =
    let path = under [] (codes "deadline") in
    let p = passed (value_at [] (codes "deadline") top) (number_in path 0 (line.horizon - 1)) n e in
    below_top path line.horizon p.value n line.horizon_in_range.0 p.rest
deadline_of line External top n e =
    let same : 0 ≡ n = same_ok 0 n e in
    subst (λ (k : ℕ). deadline_fits line.horizon External k ≡ true) same refl

-- what is needed of a map
pub record Facts (line : Line) (m : MapValues) : Type 0 where
  pub few : length m.recorders ≤ 8
  pub plain : is_plain_name m.script ≡ true
  pub deadline : deadline_fits line.horizon m.kind m.deadline ≡ true

facts_in : (line : Line) (top : Members) (m : MapValues) → map_in line top ≡ Ok m → Facts line m
unfolding map_in
facts_in line top m e =
    let version = passed (number_at [] (codes "version") 1 1 top) _ m e in
    let kind = passed (kind_at top) _ m version.rest in
    let known = passed (all_known [] (top_keys kind.value) top) _ m kind.rest in
    let script = passed (script_at top) _ m known.rest in
    let deadline = passed (deadline_at line kind.value top) _ m script.rest in
    let start = passed (start_at top) _ m deadline.rest in
    let recorders = passed (recorders_of line start.value top) _ m start.rest in
    let own : MapValues = record {
      script = script.value;
      kind = kind.value;
      deadline = deadline.value;
      recorders = recorders.value;
    } in
    let same : own ≡ m = same_ok own m recorders.rest in
    subst (Facts line) same (record {
      few = few_of line start.value top recorders.value recorders.was;
      plain = plain_of top script.value script.was;
      deadline = deadline_of line kind.value top deadline.value deadline.was;
    })

pub map_facts : (line : Line) (bytes : List ℕ) (m : MapValues) → map_of line bytes ≡ Ok m → Facts line m
unfolding map_of
map_facts line bytes m e =
    let p = passed (opened (document_of bytes)) (map_in line) m e in facts_in line p.value m p.rest
