-- What is asked of brackets, one more at a time.
use Rattle.std.proofs.Common.{◌≡◌, ◌<◌, ◌+◌, ℕ, Bool, List, [], ◌∷◌, ◌++◌, Option, None, Some, length}
use Rattle.std.proofs.Common.{subst, sym, refl, ⊎_elim}
use Rattle.std.specs.Prelude.{slice_get}
use Rattle.model_history.specs.ListLaws.{at_push, last_push, before_append}
use Rattle.judge_margins.specs.{declared.margins.ask.Ask.Ask, declared.margins.bracket.Bracket.Bracket}
use Rattle.judge_margins.specs.margins.Brackets.{AreAsksOf, AreSlots, IsAskOf, IsSlot, ask_for}
use Rattle.judge_margins.proofs.margins_lemmas.EachLaws.{one_more}

module _ (whole : Bool) (brackets : List Bracket) where
  slot_still : (asks : List Ask) (x : Ask) (place : ℕ) (b : Bracket) (slot : Option ℕ)
      → IsSlot whole asks place b slot → IsSlot whole (asks ++ x ∷ []) place b slot
  slot_still asks x place b None is = is
  slot_still asks x place b (Some j) is =
      (is.0, before_append asks (x ∷ []) j (ask_for whole place b) is.1)

  pub slots_more : (slots more : List (Option ℕ)) (asks new : List Ask) (place : ℕ) (b : Bracket)
      → slice_get brackets place ≡ Some b → b.near < b.far
      → AreSlots whole brackets slots asks place → more ≡ slots ++ Some (length asks) ∷ []
      → new ≡ asks ++ ask_for whole place b ∷ []
      → AreSlots whole brackets more new (place + 1)
  slots_more slots more asks new place b at wide before is asked =
      let x : Ask = ask_for whole place b in
      subst (λ (l : List Ask). AreSlots whole brackets more l (place + 1)) (sym asked)
      (one_more (λ p c slot. IsSlot whole (asks ++ x ∷ []) p c slot) brackets slots more
      (Some (length asks)) place
      (record {
        count = before.count;
        each = λ p c slot here there. slot_still asks x p c slot (before.each p c slot here there);
      }) is
      (λ c here.
      let same : b ≡ c = cc in
      subst (λ (d : Bracket). IsSlot whole (asks ++ x ∷ []) place d (Some (length asks))) same
      (wide, last_push asks x)))

  pub asks_more : (asks new : List Ask) (place : ℕ) (b : Bracket)
      → slice_get brackets place ≡ Some b → b.near < b.far → AreAsksOf whole brackets asks
      → new ≡ asks ++ ask_for whole place b ∷ [] → AreAsksOf whole brackets new
  asks_more asks new place b at wide before asked j ask there =
      ⊎_elim (λ early. before j ask early)
      (λ last. subst (λ (y : Ask). IsAskOf whole brackets y) (sym last.1)
      (record { bracket = b; at = at; wide = wide; is = refl }))
      (at_push asks (ask_for whole place b) ask j
      (subst (λ (l : List Ask). slice_get l j ≡ Some ask) asked there))
