-- What masks put.
use Rattle.std.proofs.Common.{◌≡◌, Bool, true, false, refl, ◌∙◌, ap}
use Rattle.std.specs.Prelude.{◌&&◌, ◌||◌, Option, None, Some}
use Rattle.model_history.specs.Rails.{Rails, both}
use Rattle.model_settle.specs.Under.{assumed_or}
use Rattle.run_ticks.specs.cases.Masks.{put_rails, PutsLevel}

abbrev pair : Bool → Bool → Rails
pair a b = record { must = a; may = b }

same_pair : (a b c d : Bool) → a ≡ c → b ≡ d → pair a b ≡ pair c d
same_pair a b c d e f = ap (λ (x : Bool). pair x b) e ∙ ap (pair c) f

stays : (a : Bool) → ((a && true) || false) ≡ a
stays true = refl
stays false = refl

turns_off : (a : Bool) → ((a && false) || false) ≡ false
turns_off true = refl
turns_off false = refl

turns_on : (a : Bool) → (a || true) ≡ true
turns_on true = refl
turns_on false = refl

-- a mask leaves its level, or else what was there
pub put_is : (level : Option Bool) (own off on : Rails) → PutsLevel level off on
    → put_rails own off on ≡ assumed_or level own
put_is None own off on (e, f) =
    ap (λ (x : Rails). put_rails own x on) e ∙ ap (put_rails own (both false)) f
    ∙ same_pair _ _ own.must own.may (stays own.must) (stays own.may)
put_is (Some true) own off on e =
    ap (put_rails own off) e ∙ same_pair _ _ true true (turns_on _) (turns_on _)
put_is (Some false) own off on (e, f) =
    ap (λ (x : Rails). put_rails own x on) e ∙ ap (put_rails own (both true)) f
    ∙ same_pair _ _ false false (turns_off own.must) (turns_off own.may)
