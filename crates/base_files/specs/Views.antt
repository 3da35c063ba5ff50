-- What contracts see of a store or a sink over files: the reason of its latest fault, and its counts.
use Rattle.std.specs.Prelude.{ℕ}
use Rattle.base_files.specs.declared.reason.Reason.{Reason}

-- how many pulls failed, how many bytes were given, and how many pulls were made
pub record StoreView : Type 0 where
  pub why : Reason
  pub faults : ℕ
  pub given : ℕ
  pub pulls : ℕ

-- how many pushes took nothing, and how many pushes were made
pub record SinkView : Type 0 where
  pub why : Reason
  pub faults : ℕ
  pub pushes : ℕ
