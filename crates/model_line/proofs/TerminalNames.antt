-- Names of terminals that differ.
use Rattle.std.proofs.Common.{◌≡◌, ◌≢◌, ℕ, ◌<◌, List, [], length, get_or, sym, ◌∙◌}
use Rattle.std.proofs.lemmas.List.{get_or-map}
use Rattle.model_line.specs.{declared.line.Terminal.Terminal, Terminals.names_of}

module _
    (ts : List Terminal) (j k : ℕ) (a b : Terminal) (jt : j < length ts) (kt : k < length ts) where
  pub differ_here :
      (get_or ts j a).name ≢ (get_or ts k b).name →
      get_or (names_of ts) j [] ≢ get_or (names_of ts) k []
  differ_here ne e =
      ne (sym (get_or-map (λ t. t.name) ts j a [] jt) ∙ e ∙ get_or-map (λ t. t.name) ts k b [] kt)

  pub same_here :
      (get_or ts j a).name ≡ (get_or ts k b).name →
      get_or (names_of ts) j [] ≡ get_or (names_of ts) k []
  same_here e =
      get_or-map (λ t. t.name) ts j a [] jt ∙ e ∙ sym (get_or-map (λ t. t.name) ts k b [] kt)
