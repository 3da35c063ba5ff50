-- Fields that stand in a record as they are, and how long a record of them is.
use Rattle.std.proofs.Common.{◌≡◌, ◌≢◌, ◌&&◌, ◌||◌, ◌≤◌, ◌<◌, ◌+◌, ◌%◌, ℕ, zero, suc, Bool, true, false}
use Rattle.std.proofs.Common.{◌-◌, not, List, [], ◌∷◌, ◌++◌, ◌∙◌, length, map, get_or, refl, sym, ap, subst}
use Rattle.std.proofs.Common.{arith, ne_eqb, length-append, cond, decimal, Option, Some, None}
use Rattle.std.proofs.lemmas.Bool.{leb-true}
use Rattle.std.proofs.lemmas.Fmt.{decimal_by_steps, length-decimal-le}
use Rattle.std.proofs.lemmas.List.Folds.{list_all-append}
use Rattle.std.proofs.lemmas.List.{get_or-map}
use Rattle.std.specs.Prelude.{IsTrue, nat_le, slice_get, unwrap_or}
use Rattle.std.specs.List.{AllByRecursion, list_all, list_any, position_from}
use Rattle.csv.specs.Writing.{default_writer, field_text, fields_text, is_blank, needs_byte, row_text}
use Rattle.base_text.specs.lines.LineLaws.{both_true}
use Rattle.model_line.specs.PlainNames.{is_plain_byte, is_plain_name}
use Rattle.model_line.specs.Terminals.{are_plain_names}
use Rattle.model_line.specs.ParamNames.{setting_text, name_at, channel_name, owner_name, param_name}
use Rattle.model_line.specs.Settings.{OwnedSetting, line_settings, is_owned_setting, same_owner, same_setting}
use Rattle.model_line.specs.NumberLaws.{delay_number, length-line_settings}
use Rattle.model_line.specs.Parameters.{channel_count, delay_param}
use Rattle.model_line.specs.declared.line.Setting.{Setting}
use Rattle.model_line.specs.declared.line.Setting.TheVariants as setting
use Rattle.model_line.specs.declared.line.Owner.{Owner}
use Rattle.model_line.specs.declared.line.Owner.TheVariants as owner
use Rattle.model_line.specs.{declared.line.Line.Line, declared.line.Terminal.Terminal}
use Rattle.model_line.specs.{declared.line.Channel.Channel, NamesByNumber.parameter_name}

-- the byte stands in a field without quotes
abbrev pub is_bare : ℕ → Bool
is_bare b = not (needs_byte default_writer b)

-- no byte of the field calls for quotes, and there are at most so many
pub record IsFieldUpTo (most : ℕ) (field : List ℕ) : Type 0 where
  pub bare : list_all is_bare field ≡ true
  pub short : length field ≤ most

-- ---- records

none_needs : (field : List ℕ) → list_all is_bare field ≡ true
    → list_any (needs_byte default_writer) field ≡ false
none_needs [] bare = refl
none_needs (b ∷ field) bare =
    let both = both_true (is_bare b) (list_all is_bare field) bare in
    let more = none_needs field both.1 in
    (elim (needs_byte default_writer b) as (λ t. not t ≡ true → (t || list_any (needs_byte default_writer) field) ≡ false) [
      | true ↦ λ e. absurd (let f = e in cc)
      | false ↦ λ e. more
    ]) both.0

field_is : (field : List ℕ) → list_all is_bare field ≡ true → field_text default_writer field ≡ field
field_is field bare = rw (none_needs field bare) refl

-- the bytes of fields, each with a comma or the end of the record behind it
abbrev pub width : List (List ℕ) → ℕ
width [] = 0
width (field ∷ fields) = length field + 1 + width fields

abbrev IsBare : List ℕ → Type 0
IsBare field = list_all is_bare field ≡ true

fields_wide : (fields : List (List ℕ)) → AllByRecursion IsBare fields
    → length (fields_text default_writer fields) ≡ width fields
unfolding fields_text
fields_wide [] bare = refl
fields_wide (field ∷ fields) bare =
    let more = fields_wide fields bare.1 in
    let own : length (field_text default_writer field) ≡ length field = ap length (field_is field bare.0) in
    omega (arith, more, own, length-append (field_text default_writer field) (fields_text default_writer fields))

-- a record of two fields or more
pub row_wide : (a b : List ℕ) (fields : List (List ℕ)) → AllByRecursion IsBare (a ∷ b ∷ fields)
    → length (row_text default_writer (a ∷ b ∷ fields)) ≡ width (a ∷ b ∷ fields)
unfolding is_blank
row_wide a b fields bare =
    let more = fields_wide (b ∷ fields) bare.1 in
    let own : length (field_text default_writer a) ≡ length a = ap length (field_is a bare.0) in
    let body : List ℕ = field_text default_writer a ++ fields_text default_writer (b ∷ fields) in
    let last : List ℕ = 10 ∷ [] in
    omega (
      arith,
      more,
      own,
      length-append (field_text default_writer a) (fields_text default_writer (b ∷ fields)),
      length-append body last,
    )

-- ---- bytes and numbers

bare_other : (b : ℕ) → b ≢ 44 → b ≢ 34 → b ≢ 13 → b ≢ 10 → is_bare b ≡ true
bare_other b comma quote back feed =
    rw (ne_eqb b 44 comma, ne_eqb b 34 quote, ne_eqb b 13 back, ne_eqb b 10 feed) refl

plain_is_bare : (b : ℕ) → is_plain_byte b ≡ true → is_bare b ≡ true
plain_is_bare b plain =
    bare_other b (λ same. (let e : is_plain_byte 44 ≡ true = rw same at plain in cc))
    (λ same. (let e : is_plain_byte 34 ≡ true = rw same at plain in cc))
    (λ same. (let e : is_plain_byte 13 ≡ true = rw same at plain in cc))
    (λ same. (let e : is_plain_byte 10 ≡ true = rw same at plain in cc))

digit_bare : (d : ℕ) → list_all is_bare ((48 + d) ∷ []) ≡ true
digit_bare d =
    ap (λ (b : Bool). b && true)
    (bare_other (48 + d) (λ e. omega (arith, e)) (λ e. omega (arith, e)) (λ e. omega (arith, e))
    (λ e. omega (arith, e)))

bare_append : (a b : List ℕ) → list_all is_bare a ≡ true → list_all is_bare b ≡ true
    → list_all is_bare (a ++ b) ≡ true
bare_append a b x y =
    list_all-append is_bare a b ∙ ap (λ t. t && list_all is_bare b) x ∙ y

-- a number of at most four digits
pub number_stands : (n : ℕ) → n < 10000 → IsFieldUpTo 4 (decimal n)
number_stands n small = record {
  bare = decimal_by_steps (λ m digits. list_all is_bare digits ≡ true) (λ m below. digit_bare m)
      (λ m digits ten bare. bare_append digits ((48 + m % 10) ∷ []) bare (digit_bare (m % 10))) n
      (omega (arith, small));
  short = length-decimal-le 4 n (omega arith) (omega (arith, small)) (omega (arith, small));
}

-- two texts with a byte between them
pub joined_stands : (m n byte : ℕ) (a b : List ℕ) → is_bare byte ≡ true → IsFieldUpTo m a
    → IsFieldUpTo n b → IsFieldUpTo (m + 1 + n) (a ++ (byte ∷ b))
joined_stands m n byte a b plain x y = record {
  bare = bare_append a (byte ∷ b) x.bare (ap (λ t. t && list_all is_bare b) plain ∙ y.bare);
  short = omega (arith, x.short, y.short, length-append a (byte ∷ b));
}

-- ---- names

plain_bare : (name : List ℕ) → list_all is_plain_byte name ≡ true → list_all is_bare name ≡ true
plain_bare [] all = refl
plain_bare (b ∷ name) all =
    let both = both_true (is_plain_byte b) (list_all is_plain_byte name) all in
    ap (λ t. t && list_all is_bare name) (plain_is_bare b both.0) ∙ plain_bare name both.1

pub name_stands : (name : List ℕ) → is_plain_name name ≡ true → IsFieldUpTo 16 name
name_stands name plain =
    let long = both_true (nat_le 1 (length name))
    (nat_le (length name) 16 && list_all is_plain_byte name) plain in
    let bytes = both_true (nat_le (length name) 16) (list_all is_plain_byte name) long.1 in
    record { bare = plain_bare name bytes.1; short = leb-true (length name) 16 bytes.0 }

pub name_at_stands : (ts : List Terminal) (k : ℕ) → IsTrue (are_plain_names ts) → IsFieldUpTo 16 (name_at ts k)
name_at_stands [] k all = record { bare = refl; short = omega arith }
name_at_stands (t ∷ ts) zero all =
    name_stands t.name (both_true (is_plain_name t.name) (list_all (λ x. is_plain_name x.name) ts) all).0
name_at_stands (t ∷ ts) (suc k) all =
    name_at_stands ts k (both_true (is_plain_name t.name) (list_all (λ x. is_plain_name x.name) ts) all).1

pub channel_stands : (ts : List Terminal) (c : Option Channel) → IsTrue (are_plain_names ts)
    → IsFieldUpTo 33 (channel_name ts c)
channel_stands ts None all = record { bare = refl; short = omega arith }
channel_stands ts (Some c) all =
    joined_stands 16 16 62 (name_at ts c.from) (name_at ts c.to) refl (name_at_stands ts c.from all)
    (name_at_stands ts c.to all)

setting_stands : (s : Setting) → IsFieldUpTo 17 (setting_text s)
setting_stands setting.Z1Pickup = record { bare = refl; short = omega arith }
setting_stands _ = record { bare = refl; short = omega arith }

owner_stands : (ts : List Terminal) (cs : List Channel) (o : Owner) → IsTrue (are_plain_names ts)
    → IsFieldUpTo 33 (owner_name ts cs o)
owner_stands ts cs (owner.Terminal k) all =
    let name = name_at_stands ts k all in
    record { bare = name.bare; short = omega (arith, name.short) }
owner_stands ts cs (owner.Channel c) all = channel_stands ts (slice_get cs c) all

dotted_stands : (ts : List Terminal) (cs : List Channel) (owned : OwnedSetting) → IsTrue (are_plain_names ts)
    → IsFieldUpTo 51 (param_name ts cs owned)
unfolding param_name
dotted_stands ts cs owned all =
    joined_stands 33 17 46 (owner_name ts cs owned.owner) (setting_text owned.setting) refl
    (owner_stands ts cs owned.owner all) (setting_stands owned.setting)

each_stands : (ts : List Terminal) (cs : List Channel) (all : List OwnedSetting) (i : ℕ)
    → IsTrue (are_plain_names ts) → IsFieldUpTo 51 (get_or (map (param_name ts cs) all) i [])
each_stands ts cs [] i plain = record { bare = refl; short = omega arith }
each_stands ts cs (owned ∷ all) zero plain = dotted_stands ts cs owned plain
each_stands ts cs (owned ∷ all) (suc i) plain = each_stands ts cs all i plain

-- ---- names of delays

-- what stands at the first place at which a test passes, passes it
found_passes : {K : Type 0} (p : K → Bool) (n i : ℕ) (xs : List K) (d : K)
    → position_from p n xs ≡ Some i → (n ≤ i) × (p (get_or xs (i - n) d) ≡ true)
found_passes p n i [] d e = absurd (cc)
found_passes p n i (x ∷ xs) d e =
    (elim (p x) as (λ b. p x ≡ b → cond b (Some n) (position_from p (n + 1) xs) ≡ Some i
    → (n ≤ i) × (p (get_or (x ∷ xs) (i - n) d) ≡ true)) [
      | true ↦ λ own f.
          let same : n ≡ i = cc in
          let none : zero ≡ i - n = omega arith in
          (omega arith, subst (λ k. p (get_or (x ∷ xs) k d) ≡ true) none own)
      | false ↦ λ own f.
          let more = found_passes p (n + 1) i xs d f in
          let later : suc (i - (n + 1)) ≡ i - n = omega (arith, more.0) in
          (omega (arith, more.0), subst (λ k. p (get_or (x ∷ xs) k d) ≡ true) later more.1)
    ]) refl e

delay_word : (s : Setting) → same_setting setting.Delay s ≡ true → length (setting_text s) ≤ 5
delay_word setting.Delay same = omega arith
delay_word setting.Z1Pickup same = absurd (let e = same in cc)
delay_word setting.Z1Dropout same = absurd (let e = same in cc)
delay_word setting.Z2Pickup same = absurd (let e = same in cc)
delay_word setting.Z2Dropout same = absurd (let e = same in cc)
delay_word setting.RvPickup same = absurd (let e = same in cc)
delay_word setting.RvDropout same = absurd (let e = same in cc)
delay_word setting.UvPickup same = absurd (let e = same in cc)
delay_word setting.UvDropout same = absurd (let e = same in cc)
delay_word setting.ReversalPickup same = absurd (let e = same in cc)
delay_word setting.ReversalDropout same = absurd (let e = same in cc)
delay_word setting.EchoBlock same = absurd (let e = same in cc)
delay_word setting.EchoPickup same = absurd (let e = same in cc)
delay_word setting.EchoPulse same = absurd (let e = same in cc)
delay_word setting.BlockCarry same = absurd (let e = same in cc)
delay_word setting.BlockCoord same = absurd (let e = same in cc)
delay_word setting.TransferSecurity same = absurd (let e = same in cc)
delay_word setting.UnblockPickup same = absurd (let e = same in cc)
delay_word setting.UnblockWindow same = absurd (let e = same in cc)
delay_word setting.UnblockRestore same = absurd (let e = same in cc)

delay_dotted : (ts : List Terminal) (cs : List Channel) (owned : OwnedSetting) → IsTrue (are_plain_names ts)
    → same_setting setting.Delay owned.setting ≡ true → IsFieldUpTo 39 (param_name ts cs owned)
unfolding param_name
delay_dotted ts cs owned all same =
    joined_stands 33 5 46 (owner_name ts cs owned.owner) (setting_text owned.setting) refl
    (owner_stands ts cs owned.owner all)
    (record {
      bare = (setting_stands owned.setting).bare;
      short = delay_word owned.setting same;
    })

-- the name of a channel's delay
pub delay_stands : (line : Line) (c : ℕ) → c < channel_count line
    → IsFieldUpTo 39 (parameter_name line (delay_param line c))
delay_stands line c lt =
    let ts = line.terminals.items in
    let cs = line.channels.items in
    let all = line_settings line.scheme ts cs in
    let n = delay_number line c lt in
    let d : OwnedSetting = record { owner = owner.Channel c; setting = setting.Delay } in
    let own = get_or all n.0 d in
    let passes = found_passes (is_owned_setting (owner.Channel c) setting.Delay) 0 n.0 all d n.1 in
    let at : n.0 - 0 ≡ n.0 = omega arith in
    let there : is_owned_setting (owner.Channel c) setting.Delay own ≡ true =
    subst (λ k. is_owned_setting (owner.Channel c) setting.Delay (get_or all k d) ≡ true) at passes.1 in
    let same = (both_true (same_owner (owner.Channel c) own.owner)
    (same_setting setting.Delay own.setting) there).1 in
    let many : length all ≡ length line.params.items = length-line_settings line in
    let number : n.0 ≡ delay_param line c = sym (ap (λ o. unwrap_or o 0) n.1) in
    let name : parameter_name line n.0 ≡ param_name ts cs own =
    ap (λ (names : List (List ℕ)). get_or names n.0 []) line.param_names
    ∙ get_or-map (param_name ts cs) all n.0 d [] (omega (arith, many, n.2)) in
    subst (λ k. IsFieldUpTo 39 (parameter_name line k)) number
    (subst (IsFieldUpTo 39) (sym name) (delay_dotted ts cs own line.plain_names same))

-- the name of any parameter
pub param_stands : (line : Line) (param : ℕ) → IsFieldUpTo 51 (parameter_name line param)
param_stands line param =
    subst (λ (names : List (List ℕ)). IsFieldUpTo 51 (get_or names param [])) (sym line.param_names)
    (each_stands line.terminals.items line.channels.items
    (line_settings line.scheme line.terminals.items line.channels.items) param line.plain_names)
