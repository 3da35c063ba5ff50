-- What an echo starts from rests on no interval: the key tree has it. So the same levels follow from
-- what is assumed, over lines that differ in their intervals alone, and over boxes that are the same.
use Rattle.std.proofs.Common.{◌≡◌, ◌+◌, ℕ, Bool, true, false, refl, sym, ◌∙◌, ap, subst, List, []}
use Rattle.std.proofs.Common.{◌∷◌, ◌&&◌, ⊎_elim}
use Rattle.std.proofs.lemmas.Bool.{cases_Bool}
use Rattle.std.specs.Prelude.{cond, map, get_or, Option, None, Some, unwrap_or}
use Rattle.model_history.specs.Rails.{Ends}
use Rattle.model_line.specs.declared.line.Setting.TheVariants.{EchoPickup, EchoPulse}
use Rattle.model_line.specs.declared.line.Line.{Line}
use Rattle.model_line.specs.declared.line.Owner.TheVariants as owner
use Rattle.model_line.specs.declared.script.Script.{Script}
use Rattle.model_line.specs.SetBounds.{SameButParams}
use Rattle.model_line.specs.{SameCountLaws.made_alike}
use Rattle.model_line.specs.Settings.{line_settings, setting_number}
use Rattle.model_logic.specs.{Elements.is_weak, IntervalLaws.TreesRestOnNoInterval}
use Rattle.model_logic.specs.Elements.{setting_of}
use Rattle.model_logic.specs.{Boxes.IsSameBox, BoxLaws.same_world, Names.Names, Names.HasTime}
use Rattle.model_logic.specs.Choice.{Box, ends_by, pair_world_of}
use Rattle.model_logic.specs.Logic.{key_tree}
use Rattle.model_logic.specs.Permissive.{permission, terminal_setting, quiet}
use Rattle.model_logic.specs.Permissive.{echo_wanted, echo}
use Rattle.model_logic.specs.declared.time.Time.{Time}
use Rattle.model_logic.specs.declared.time.Time.TheVariants.{Zero, Param}
use Rattle.model_logic.specs.Tree.{Tree, Const, Not, And, Or, Timer}
use Rattle.model_logic.specs.SameTree.{same_tree}
use Rattle.model_logic.specs.SameTreeLaws.{tree-same}
use Rattle.model_settle.specs.Assumed.{Assumption, Throughout, Interrupted, wanted, pulse_over}
use Rattle.model_settle.specs.EchoLaws.{echoes_or_strong}
use Rattle.model_settle.specs.Assumed.{least_pulse, is_among, level_by, first_of, assumed_level}

-- where it stands in a key tree
wanted_in : Tree → Tree
wanted_in (Or a (And x rest)) = x
wanted_in _ = Const false

-- of a terminal that is not weak nothing is looked for
abbrev wanted_by : Bool → Tree → Tree
wanted_by true key = wanted_in key
wanted_by false key = Const false

part_is : (weak : Bool) (a timer rest : Tree)
    → wanted_in (Or a (cond weak (And (cond weak timer (Const false)) rest) (Const false)))
    ≡ cond weak timer (Const false)
unfolding wanted_in
part_is true a timer rest = refl
part_is false a timer rest = refl

module _ (line : Line) (k : ℕ) where
  in_key : (ahead perm : Tree)
      → echo_wanted line k perm ≡ wanted_in (Or ahead (echo line k perm))
  unfolding echo echo_wanted
  in_key ahead perm =
      sym (part_is (is_weak line k) ahead
      (Timer (And perm (quiet line k)) (terminal_setting line k EchoPickup) Zero)
      (Not (Timer (echo_wanted line k perm) (terminal_setting line k EchoPulse) Zero)))

  without_weak : (perm : Tree) → is_weak line k ≡ false → echo_wanted line k perm ≡ Const false
  unfolding echo_wanted
  without_weak perm e =
      ap (λ (b : Bool). cond b (Timer (And perm (quiet line k)) (terminal_setting line k EchoPickup)
      Zero) (Const false)) e

  by_flag : (weak : Bool) → is_weak line k ≡ weak
      → wanted line k ≡ wanted_by weak (key_tree line k)
  by_flag true weak =
      ⊎_elim
      (λ key. in_key key.0 (permission line k) ∙ ap wanted_in (sym key.1))
      (λ strong. absurd (let e : true ≡ false = sym weak ∙ strong in cc))
      (echoes_or_strong line k)
  by_flag false strong = without_weak (permission line k) strong

  wanted_is : wanted line k ≡ wanted_by (is_weak line k) (key_tree line k)
  wanted_is = by_flag (is_weak line k) refl

module _ (trees : TreesRestOnNoInterval) (line other : Line) (same : SameButParams line other) where
  weak_same : (k : ℕ) → is_weak other k ≡ is_weak line k
  weak_same k =
      made_alike line other same (λ s ts cs. get_or (map (λ t. t.weak) ts) k false)

  pub wanted_same : (k : ℕ) → wanted other k ≡ wanted line k
  wanted_same k =
      wanted_is other k ∙ ap (λ (b : Bool). wanted_by b (key_tree other k)) (weak_same k)
      ∙ ap (wanted_by (is_weak line k)) (trees.keys line other k same) ∙ sym (wanted_is line k)

  setting_same : (k : ℕ) → terminal_setting other k EchoPulse ≡ terminal_setting line k EchoPulse
  unfolding terminal_setting setting_of
  setting_same k =
      made_alike line other same (λ s ts cs.
      Param (unwrap_or (setting_number (line_settings s ts cs) (owner.Terminal k) EchoPulse) 0))

  pulse_same : (k : ℕ) → pulse_over other k ≡ pulse_over line k
  pulse_same k =
      ap (λ (y : Tree). Timer y (terminal_setting other k EchoPulse) Zero) (wanted_same k)
      ∙ ap (λ (p : Time). Timer (wanted line k) p Zero) (setting_same k)

  by_same : (box : Box) (a : Assumption) (x : Tree) (t : ℕ)
      → level_by other box a x t ≡ level_by line box a x t
  by_same box (Throughout span) x t =
      ap (λ (y : Tree). cond (same_tree x y && is_among span.from span.to t) (Some true) None)
      (wanted_same span.terminal)
  by_same box (Interrupted span) x t =
      ap (λ (y : Tree). cond (same_tree x y
      && is_among span.to (span.from + least_pulse other box span.terminal) t) (Some false) None)
      (pulse_same span.terminal)
      ∙ ap (λ (p : Time). cond (same_tree x (pulse_over line span.terminal)
      && is_among span.to (span.from + (ends_by box.ends p).least) t) (Some false) None)
      (setting_same span.terminal)

  -- so the same levels follow from what is assumed
  pub level_same : (box : Box) (assumed : List Assumption) (x : Tree) (t : ℕ)
      → assumed_level other box assumed x t ≡ assumed_level line box assumed x t
  level_same box [] x t = refl
  level_same box (a ∷ before) x t =
      ap (λ (o : Option Bool). first_of o (assumed_level other box before x t)) (by_same box a x t)
      ∙ ap (first_of (level_by line box a x t)) (level_same box before x t)

-- boxes that are the same give the same level of each tree that the line has
module _ (line : Line) (script : Script) (a b : Box) (same : IsSameBox line a b) where
  ends_same : (p : Time) → HasTime line p → ends_by a.ends p ≡ ends_by b.ends p
  unfolding pair_world_of
  ends_same p has = (same_world line script a b same).time p has

  pulse_has : (k : ℕ) → Names line (pulse_over line k)
      → HasTime line (terminal_setting line k EchoPulse)
  unfolding Names
  pulse_has k named = named.1.0

  by_same_box : (one : Assumption) (x : Tree) (t : ℕ) → Names line x
      → level_by line a one x t ≡ level_by line b one x t
  by_same_box (Throughout span) x t named = refl
  by_same_box (Interrupted span) x t named =
      let p : Time = terminal_setting line span.terminal EchoPulse in
      let level : Bool → Ends → Option Bool = λ is e.
      cond (is && is_among span.to (span.from + e.least) t) (Some false) None in
      ⊎_elim
      (λ is.
      ap (level (same_tree x (pulse_over line span.terminal)))
      (ends_same p (pulse_has span.terminal (subst (Names line)
      (tree-same x (pulse_over line span.terminal) is) named))))
      (λ not.
      ap (λ (is : Bool). level is (ends_by a.ends p)) not
      ∙ sym (ap (λ (is : Bool). level is (ends_by b.ends p)) not))
      (cases_Bool (same_tree x (pulse_over line span.terminal)))

  pub level_same_box : (assumed : List Assumption) (x : Tree) (t : ℕ) → Names line x
      → assumed_level line a assumed x t ≡ assumed_level line b assumed x t
  level_same_box [] x t named = refl
  level_same_box (one ∷ before) x t named =
      ap (λ (o : Option Bool). first_of o (assumed_level line a before x t))
      (by_same_box one x t named)
      ∙ ap (first_of (level_by line b one x t)) (level_same_box before x t named)
