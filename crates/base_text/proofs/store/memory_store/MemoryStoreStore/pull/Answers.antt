use Rattle.std.proofs.Common.{◌≡◌, eqb, ◌∙◌, ap, sym, refl, arith, inl, inr, option_map, Some, None}
use Rattle.std.proofs.Math.Nat.{le_refl}
use Rattle.std.proofs.lemmas.Bool.{false≢true}
use Rattle.std.proofs.lemmas.Bool.Decides.{Decides-eqb}
use Rattle.std.proofs.lemmas.List.Elements.{contains_decides, Decides-contains}
use Rattle.std.specs.FinMap.{get}
use Rattle.base_text.specs.store.Files.{files_of}
use Rattle.base_text.proofs.store_lemmas.Counted.{raised-le}
use Rattle.base_text.proofs.store_lemmas.FileLaws.{get-files_of}
use Rattle.base_text.proofs.store.memory_store.MemoryStoreStore.pull.Goals as goal

pub returns-then-contains : goal.returns-then-contains
returns-then-contains c =
    let pulled = c.saturating_add-self-inside.ensures in
    let failed = c.saturating_add-self-inside-then-contains.ensures in
    let told = Decides-contains _ _ _ (contains_decides eqb Decides-eqb _ _ _ c.contains.ensures.cases) in
    let fails = rw (c.deref.ensures.value, pulled) at (told.0 c.if-contains.true) in
    rw (← c.self.view_is) (record {
      bound = tt;
      bytes = tt;
      held = refl;
      later = λ _. raised-le _ 1 _ failed (omega arith);
      same = tt;
      failed = rw failed (le_refl _);
      gives = le_refl _;
      given = tt;
      pulled = raised-le _ 1 _ pulled (omega arith);
      pulls = pulled;
      exact = (λ _. inl fails, λ _. refl);
      fault = rw (pulled, failed) refl;
      untouched = refl;
      count = tt;
      copied = tt;
      gave = tt;
    })

pub returns-in_default : goal.returns-in_default
returns-in_default c =
    let s = c.self.inside in
    let pulled = c.saturating_add-self-inside.ensures in
    let failed = c.saturating_add-self-inside-in_default.ensures in
    let none : get (files_of s.files.entries) c.args.name.now ≡ None =
    get-files_of s.files c.args.name.now ∙ ap (option_map (λ v. v.items)) (sym c.in_default.ensures.value) in
    rw (← c.self.view_is) (record {
      bound = tt;
      bytes = tt;
      held = refl;
      later = λ _. raised-le _ 1 _ failed (omega arith);
      same = tt;
      failed = rw failed (le_refl _);
      gives = le_refl _;
      given = tt;
      pulled = raised-le _ 1 _ pulled (omega arith);
      pulls = pulled;
      exact = (λ _. inr (rw none refl), λ _. refl);
      fault = rw (pulled, failed) refl;
      untouched = refl;
      count = tt;
      copied = tt;
      gave = tt;
    })

pub returns : goal.returns
returns c =
    let s = c.self.inside in
    let pulled = c.saturating_add-self-inside.ensures in
    let gave = c.saturating_add-self-inside-2.ensures in
    let copy = c.copy_from-count.ensures in
    let bytes = c.deref-2.ensures.value in
    let found : get (files_of s.files.entries) c.args.name.now ≡ Some c.in-Some.bytes.now.items =
    get-files_of s.files c.args.name.now ∙ ap (option_map (λ v. v.items)) (sym c.in-Some.ensures.value) in
    let told = Decides-contains _ _ _ (contains_decides eqb Decides-eqb _ _ _ c.contains.ensures.cases) in
    rw (← c.self.view_is) (record {
      bound = copy.within;
      bytes = rw (found, ← bytes) copy.piece;
      held = refl;
      later = λ _. le_refl _;
      same = λ _. refl;
      failed = tt;
      gives = raised-le _ _ _ gave (omega arith);
      given = rw gave (le_refl _);
      pulled = raised-le _ 1 _ pulled (omega arith);
      pulls = pulled;
      exact = (
        λ same. absurd (false≢true same),
        λ fails. elim fails [
          | inl said ↦ sym c.if-contains.false ∙ told.1 (rw (c.deref.ensures.value, pulled) said)
          | inr none ↦ absurd (false≢true (sym (rw found at none)))
        ],
      );
      fault = tt;
      untouched = tt;
      count = rw (found, ← bytes) copy.count;
      copied = rw (found, ← bytes) copy.copied;
      gave = rw (pulled, gave) refl;
    })
