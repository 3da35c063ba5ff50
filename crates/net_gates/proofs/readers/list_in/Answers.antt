use Rattle.std.proofs.Common.{◌≡◌, ℕ, length, length-set, refl, sym, subst, Some, ⊎_elim}
use Rattle.std.proofs.lemmas.Option.{slice_get_read}
use Rattle.std.specs.Prelude.{slice_get}
use Rattle.net_gates.specs.Readers.{AreBelow, StandsIn}
use Rattle.model_history.specs.ListLaws.{at_set}
use Rattle.net_gates.proofs.Listing.{below_push, stands_push, stands_here}
use Rattle.net_gates.proofs.readers.list_in.Goals as goal

pub returns-clause-lists : goal.returns-clause-lists
returns-clause-lists c =
    let x = c.args.x.0 in
    let lists = c.args.readers.now.of_gates.items in
    let n = length lists in
    let old = c.index_mut.result.now in
    let new = c.push.new.self in
    let at : slice_get lists x ≡ Some old =
    slice_get_read lists n x old refl c.requires.argument c.index_mut.ensures.value in
    record {
      count = length-set lists x new;
      inside = λ a list there.
          ⊎_elim
          (λ p. subst (λ l. AreBelow n l.items) p.1
          (below_push n c.args.i old.items new.items c.in_ok-push.ensures.items c.requires.inside
          (c.requires.lists.inside x old at)))
          (λ p. c.requires.lists.inside a list p.1)
          (at_set lists x new a list there);
      heard_inside = c.requires.lists.heard_inside;
    }

pub returns-clause-grow : goal.returns-clause-grow
returns-clause-grow c =
    let x = c.args.x.0 in
    let lists = c.args.readers.now.of_gates.items in
    let n = length lists in
    let old = c.index_mut.result.now in
    let new = c.push.new.self in
    let at : slice_get lists x ≡ Some old =
    slice_get_read lists n x old refl c.requires.argument c.index_mut.ensures.value in
    record {
      gates_are = length-set lists x new;
      channels_are = refl;
      read = λ j a list there before.
          ⊎_elim
          (λ p. subst (λ l. StandsIn j l.items) p.1
          (stands_push c.args.i j old.items new.items c.in_ok-push.ensures.items
          (before old (subst (λ (k : ℕ). slice_get lists k ≡ Some old) (sym p.0) at))))
          (λ p. before list p.1)
          (at_set lists x new a list there);
      heard = λ j k list there before. before list there;
    }

pub returns-clause-listed : goal.returns-clause-listed
returns-clause-listed c = λ list there.
    let x = c.args.x.0 in
    let lists = c.args.readers.now.of_gates.items in
    let old = c.index_mut.result.now in
    let new = c.push.new.self in
    ⊎_elim
    (λ p. subst (λ l. StandsIn c.args.i l.items) p.1
    (stands_here c.args.i old.items new.items c.in_ok-push.ensures.items))
    (λ p. absurd (p.0 refl))
    (at_set lists x new x list there)
