-- Names stand in a line, and are short.
use Rattle.std.proofs.Common.{◌≡◌, ◌≤◌, ◌+◌, ◌&&◌, ℕ, true, List, [], ◌∷◌, ◌++◌, length, map}
use Rattle.std.proofs.Common.{get_or, zero, suc, refl, sym, subst, arith, length-append}
use Rattle.std.proofs.Common.{Some, None}
use Rattle.std.proofs.lemmas.Bool.{leb-true}
use Rattle.std.proofs.lemmas.List.Elements.{All-nil, All-cons}
use Rattle.std.specs.Prelude.{IsTrue, nat_le, slice_get, Option}
use Rattle.std.specs.List.{All, list_all}
use Rattle.model_line.specs.PlainNames.{is_plain_byte, is_plain_name}
use Rattle.model_line.specs.Terminals.{are_plain_names}
use Rattle.model_line.specs.ParamNames.{setting_text, name_at, channel_name, owner_name, param_name}
use Rattle.model_line.specs.Settings.{OwnedSetting, line_settings}
use Rattle.model_line.specs.declared.line.Setting.{Setting}
use Rattle.model_line.specs.{declared.line.Line.Line, declared.line.Terminal.Terminal}
use Rattle.model_line.specs.{declared.line.Channel.Channel, declared.line.Owner.Owner}
use Rattle.model_line.specs.declared.line.Owner.TheVariants as owner
use Rattle.model_line.specs.declared.line.Setting.TheVariants as setting
use Rattle.model_line.specs.NamesByNumber.{parameter_name}
use Rattle.base_text.specs.lines.Lines.{is_no_feed, is_one_line}
use Rattle.base_text.specs.{lines.LineLaws.both_true, lines.NamedLaws.whole_append, lines.NamedLaws.whole_more}
use Rattle.cert_claims.specs.{text.Grammar.terminal_names, text.NameLaws.name_whole}

-- no byte is a line feed, and there are at most so many
pub record IsLineUpTo (most : ℕ) (text : List ℕ) : Type 0 where
  pub whole : is_one_line text ≡ true
  pub short : length text ≤ most

-- ---- plain names

pub name_stands : (name : List ℕ) → is_plain_name name ≡ true → IsLineUpTo 16 name
name_stands name plain =
    let long = both_true (nat_le 1 (length name))
    (nat_le (length name) 16 && list_all is_plain_byte name) plain in
    let bytes = both_true (nat_le (length name) 16) (list_all is_plain_byte name) long.1 in
    record { whole = name_whole name plain; short = leb-true (length name) 16 bytes.0 }

first_plain : (t : Terminal) (ts : List Terminal) → IsTrue (are_plain_names (t ∷ ts))
    → (is_plain_name t.name ≡ true) × IsTrue (are_plain_names ts)
first_plain t ts all = both_true (is_plain_name t.name) (list_all (λ x. is_plain_name x.name) ts) all

names_stand : (ts : List Terminal) → IsTrue (are_plain_names ts) → All (IsLineUpTo 16) (map (λ t. t.name) ts)
names_stand [] all = All-nil (IsLineUpTo 16)
names_stand (t ∷ ts) all =
    All-cons (IsLineUpTo 16) t.name (map (λ x. x.name) ts)
    (name_stands t.name (first_plain t ts all).0) (names_stand ts (first_plain t ts all).1)

pub terminals_stand : (line : Line) → All (IsLineUpTo 16) (terminal_names line)
terminals_stand line = names_stand line.terminals.items line.plain_names

-- ---- names of parameters

setting_stands : (s : Setting) → IsLineUpTo 17 (setting_text s)
setting_stands setting.Z1Pickup = record { whole = refl; short = omega arith }
setting_stands _ = record { whole = refl; short = omega arith }

name_at_stands : (ts : List Terminal) (k : ℕ) → IsTrue (are_plain_names ts) → IsLineUpTo 16 (name_at ts k)
name_at_stands [] k all = record { whole = refl; short = omega arith }
name_at_stands (t ∷ ts) zero all = name_stands t.name (first_plain t ts all).0
name_at_stands (t ∷ ts) (suc k) all = name_at_stands ts k (first_plain t ts all).1

-- two texts with a byte between them
joined_stands : (m n byte : ℕ) (a b : List ℕ) → is_no_feed byte ≡ true → IsLineUpTo m a
    → IsLineUpTo n b → IsLineUpTo (m + 1 + n) (a ++ (byte ∷ b))
joined_stands m n byte a b plain x y = record {
  whole = whole_append a (byte ∷ b) x.whole (whole_more byte b plain y.whole);
  short = omega (arith, x.short, y.short, length-append a (byte ∷ b));
}

channel_stands : (ts : List Terminal) (c : Option Channel) → IsTrue (are_plain_names ts)
    → IsLineUpTo 33 (channel_name ts c)
channel_stands ts None all = record { whole = refl; short = omega arith }
channel_stands ts (Some c) all =
    joined_stands 16 16 62 (name_at ts c.from) (name_at ts c.to) refl (name_at_stands ts c.from all)
    (name_at_stands ts c.to all)

owner_stands : (ts : List Terminal) (cs : List Channel) (o : Owner) → IsTrue (are_plain_names ts)
    → IsLineUpTo 33 (owner_name ts cs o)
owner_stands ts cs (owner.Terminal k) all =
    let name = name_at_stands ts k all in
    record { whole = name.whole; short = omega (arith, name.short) }
owner_stands ts cs (owner.Channel c) all = channel_stands ts (slice_get cs c) all

dotted_stands : (ts : List Terminal) (cs : List Channel) (owned : OwnedSetting) → IsTrue (are_plain_names ts)
    → IsLineUpTo 51 (param_name ts cs owned)
unfolding param_name
dotted_stands ts cs owned all =
    joined_stands 33 17 46 (owner_name ts cs owned.owner) (setting_text owned.setting) refl
    (owner_stands ts cs owned.owner all) (setting_stands owned.setting)

each_stands : (ts : List Terminal) (cs : List Channel) (all : List OwnedSetting) (i : ℕ)
    → IsTrue (are_plain_names ts) → IsLineUpTo 51 (get_or (map (param_name ts cs) all) i [])
each_stands ts cs [] i plain = record { whole = refl; short = omega arith }
each_stands ts cs (owned ∷ all) zero plain = dotted_stands ts cs owned plain
each_stands ts cs (owned ∷ all) (suc i) plain = each_stands ts cs all i plain

pub param_stands : (line : Line) (param : ℕ) → IsLineUpTo 51 (parameter_name line param)
param_stands line param =
    subst (λ (names : List (List ℕ)). IsLineUpTo 51 (get_or names param [])) (sym line.param_names)
    (each_stands line.terminals.items line.channels.items
    (line_settings line.scheme line.terminals.items line.channels.items) param line.plain_names)
