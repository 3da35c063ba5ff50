use Rattle.std.proofs.Common.{ℕ, List, Option, None, refl, arith}
use Rattle.std.proofs.Math.Nat.{le_refl}
use Rattle.base_text.proofs.store_lemmas.Counted.{raised-le}
use Rattle.base_text.proofs.store.file_store.FileStoreStore.pull.Goals as goal

-- the store tells nothing
abbrev untold : List ℕ → Option (List ℕ)
untold name = None

pub returns-in-Ok : goal.returns-in-Ok
returns-in-Ok g c =
    let pulled = c.saturating_add-self-inside.ensures in
    let given = c.saturating_add-self-inside-in-Ok.ensures in
    rw (← c.self.view_is) (record {
      bound = c.in-Ok.ensures;
      bytes = tt;
      held = refl {a = untold};
      later = λ _. le_refl _;
      same = λ _. refl {a = c.self.inside.faults};
      failed = tt;
      gives = raised-le _ _ _ given (omega arith);
      given = rw given (le_refl _);
      pulled = raised-le _ 1 _ pulled (omega arith);
      pulls = pulled;
    })

pub returns-in-Err : goal.returns-in-Err
returns-in-Err g c =
    let pulled = c.saturating_add-self-inside.ensures in
    let failed = c.saturating_add-self-inside-in-Err.ensures in
    rw (← c.self.view_is) (record {
      bound = tt;
      bytes = tt;
      held = refl {a = untold};
      later = λ _. raised-le _ 1 _ failed (omega arith);
      same = tt;
      failed = rw failed (le_refl _);
      gives = le_refl _;
      given = tt;
      pulled = raised-le _ 1 _ pulled (omega arith);
      pulls = pulled;
    })
