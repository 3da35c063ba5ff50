-- Records and the settings that they ask for.
use Rattle.std.proofs.Common.{◌≡◌, ◌≤◌, ◌<◌, ◌+◌, ◌-◌, ◌∷◌, ◌++◌, ◌&&◌, ℕ, zero, suc, Bool, true, false, List, [], Some, refl, sym, subst, ◌∙◌, arith}
use Rattle.std.specs.Prelude.{◌==◌, IsTrue, slice_get}
use Rattle.std.specs.List.{All, list_all}
use Rattle.std.proofs.lemmas.Bool.{eq-eqb, eqb-true}
use Rattle.std.proofs.lemmas.List.Elements.{All-cons, All-head, All-nil, All-tail}
use Rattle.std.proofs.lemmas.Option.{same_Some}
use Rattle.model_history.specs.Rails.{Ends}
use Rattle.model_line.specs.{declared.line.Line.Line, Parameters.declared_ends}
use Rattle.model_line.specs.Parameters.{is_delay, param_count}
use Rattle.judge_choose.specs.{declared.setting.Setting.Setting, Found.AreSettings}
use Rattle.judge_choose.specs.Positions.{CanMove, IsSetting}
use Rattle.call_choose.specs.{declared.named.Named.Named, Named.IsInterval}
use Rattle.call_choose.specs.Rows.{AreRows, IsRow, Row, are_alike, first_ends, has_ends}

and_parts : (a b : Bool) → a && b ≡ true → (a ≡ true) × (b ≡ true)
and_parts true b both = (refl, both)
and_parts false b both = absurd (cc)

-- one record more
pub are_rows_more : (line : Line) (rows : List Row) (names : List Named) (settings : List Setting)
    (row : Row) (named : Named) (setting : Setting) → AreRows line rows names settings
    → IsRow line row named setting
    → AreRows line (rows ++ row ∷ []) (names ++ named ∷ []) (settings ++ setting ∷ [])
are_rows_more line [] [] [] row named setting are is = (is, tt)
are_rows_more line [] [] (s ∷ settings) row named setting are is = absurd are
are_rows_more line [] (n ∷ names) settings row named setting are is = absurd are
are_rows_more line (r ∷ rows) [] settings row named setting are is = absurd are
are_rows_more line (r ∷ rows) (n ∷ names) [] row named setting are is = absurd are
are_rows_more line (r ∷ rows) (n ∷ names) (s ∷ settings) row named setting are is =
    (are.0, are_rows_more line rows names settings row named setting are.1 is)

-- each is a setting
pub rows_settings : (line : Line) (rows : List Row) (names : List Named) (settings : List Setting)
    → AreRows line rows names settings → AreSettings line settings
rows_settings line [] [] [] are i setting at = absurd (cc)
rows_settings line [] [] (s ∷ settings) are i setting at = absurd are
rows_settings line [] (n ∷ names) settings are i setting at = absurd are
rows_settings line (r ∷ rows) [] settings are i setting at = absurd are
rows_settings line (r ∷ rows) (n ∷ names) [] are i setting at = absurd are
rows_settings line (r ∷ rows) (n ∷ names) (s ∷ settings) are zero setting at =
    subst (IsSetting line) (same_Some s setting at) are.0.can_move
rows_settings line (r ∷ rows) (n ∷ names) (s ∷ settings) are (suc i) setting at =
    rows_settings line rows names settings are.1 i setting at

-- each is told under an interval
pub rows_intervals : (line : Line) (rows : List Row) (names : List Named) (settings : List Setting)
    → AreRows line rows names settings → All IsInterval names
rows_intervals line [] [] [] are = All-nil IsInterval
rows_intervals line [] [] (s ∷ settings) are = absurd are
rows_intervals line [] (n ∷ names) settings are = absurd are
rows_intervals line (r ∷ rows) [] settings are = absurd are
rows_intervals line (r ∷ rows) (n ∷ names) [] are = absurd are
rows_intervals line (r ∷ rows) (n ∷ names) (s ∷ settings) are =
    All-cons IsInterval n names are.0.interval (rows_intervals line rows names settings are.1)

-- a parameter of that interval, no delay, can move with the setting
can_move : (line : Line) (ends : Ends) (setting : Setting) (param : ℕ) → param < param_count line
    → ¬ (IsTrue (is_delay line param)) → has_ends line ends param ≡ true
    → setting.declared ≡ ends.least → setting.last + (ends.greatest - ends.least) ≤ 4000
    → CanMove line setting param
can_move line ends setting param exists number alike declared room =
    let both = and_parts ((declared_ends line param).least == ends.least)
    ((declared_ends line param).greatest == ends.greatest) alike in
    let least : (declared_ends line param).least ≡ ends.least =
    eqb-true (declared_ends line param).least ends.least both.0 in
    let greatest : (declared_ends line param).greatest ≡ ends.greatest =
    eqb-true (declared_ends line param).greatest ends.greatest both.1 in record {
      exists = exists;
      number = number;
      declared = least ∙ sym declared;
      room = rw (least, greatest) room;
    }

-- parameters of one interval, none a delay, can move together
pub all_move : (line : Line) (ends : Ends) (setting : Setting) (params : List ℕ)
    → All (λ param. param < param_count line) params
    → All (λ param. ¬ (IsTrue (is_delay line param))) params
    → IsTrue (list_all (has_ends line ends) params) → setting.declared ≡ ends.least
    → setting.last + (ends.greatest - ends.least) ≤ 4000
    → (i param : ℕ) → slice_get params i ≡ Some param → CanMove line setting param
all_move line ends setting [] exist numbers alike declared room i param at = absurd (cc)
all_move line ends setting (p ∷ params) exist numbers alike declared room zero param at =
    subst (CanMove line setting) (same_Some p param at)
    (can_move line ends setting p (All-head (λ i. i < param_count line) p params exist)
    (All-head (λ i. ¬ (IsTrue (is_delay line i))) p params numbers)
    (and_parts (has_ends line ends p) (list_all (has_ends line ends) params) alike).0 declared room)
all_move line ends setting (p ∷ params) exist numbers alike declared room (suc i) param at =
    all_move line ends setting params (All-tail (λ i. i < param_count line) p params exist)
    (All-tail (λ i. ¬ (IsTrue (is_delay line i))) p params numbers)
    (and_parts (has_ends line ends p) (list_all (has_ends line ends) params) alike).1 declared room i
    param at

-- a setting that moves these parameters
pub moving : (line : Line) (ends : Ends) (setting : Setting)
    → All (λ param. param < param_count line) setting.params.items
    → All (λ param. ¬ (IsTrue (is_delay line param))) setting.params.items
    → IsTrue (list_all (has_ends line ends) setting.params.items) → setting.declared ≡ ends.least
    → setting.last ≡ 4000 - (ends.greatest - ends.least) → ends.least ≤ ends.greatest
    → ends.greatest ≤ 4000 → IsSetting line setting
moving line ends setting exist numbers alike declared last ordered limit =
    let room : setting.last + (ends.greatest - ends.least) ≤ 4000 = omega (arith, last, ordered, limit) in
    record {
      each = all_move line ends setting setting.params.items exist numbers alike declared room;
      declared = omega (arith, declared, last, ordered, limit);
      limit = omega (arith, last, ordered, limit);
    }

-- the record of these parameters
pub is_row : (line : Line) (row : Row) (named : Named) (setting : Setting)
    → named.name.items ≡ row.name → named.least ≡ (first_ends line row.params).least
    → named.greatest ≡ (first_ends line row.params).greatest → setting.params.items ≡ row.params
    → setting.declared ≡ named.least → setting.last ≡ 4000 - (named.greatest - named.least)
    → named.least ≤ named.greatest → named.greatest ≤ 4000
    → All (λ param. param < param_count line) row.params
    → All (λ param. ¬ (IsTrue (is_delay line param))) row.params
    → IsTrue (are_alike line row.params) → IsRow line row named setting
is_row line row named setting name least greatest params declared last ordered limit exist numbers alike =
    let ends : Ends = first_ends line row.params in
    let P : List ℕ → Type 0 = λ ps. IsTrue (list_all (has_ends line ends) ps) in record {
      name = name;
      least = least;
      greatest = greatest;
      params = params;
      declared = declared;
      last = last;
      interval = record { ordered = ordered; limit = limit };
      can_move = moving line ends setting
          (subst (All (λ param. param < param_count line)) (sym params) exist)
          (subst (All (λ param. ¬ (IsTrue (is_delay line param)))) (sym params) numbers)
          (subst P (sym params) alike) (declared ∙ least) (omega (arith, last, least, greatest))
          (omega (arith, ordered, least, greatest)) (omega (arith, limit, greatest));
    }

-- it is appended
pub row_pushed : (line : Line) (rows : List Row) (row : Row) (named : Named) (setting : Setting)
    (old_names new_names : List Named) (old_settings new_settings : List Setting)
    → AreRows line rows old_names old_settings → IsRow line row named setting
    → new_names ≡ old_names ++ named ∷ [] → new_settings ≡ old_settings ++ setting ∷ []
    → AreRows line (rows ++ row ∷ []) new_names new_settings
row_pushed line rows row named setting old_names new_names old_settings new_settings are is names settings =
    rw (names, settings) (are_rows_more line rows old_names old_settings row named setting are is)

-- a parameter by itself is of its own interval
pub alone_alike : (line : Line) (param : ℕ) → IsTrue (are_alike line (param ∷ []))
alone_alike line param =
    let ends = declared_ends line param in
    rw (eq-eqb ends.least ends.least refl, eq-eqb ends.greatest ends.greatest refl) refl
