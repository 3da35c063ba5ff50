use Rattle.model_fine.proofs.FineCovers.{fine_covered, fine_tree_covered, fine_claims_covered}
use Rattle.model_fine.proofs.fine_laws.fine_histories_are_covered.Goals as goal

pub returns : goal.returns
returns c = record {
  histories = λ n line script box choice w h some d within is_w is_h.
      fine_covered c.history_laws.ensures n some line script box choice d within
      c.line_laws.ensures.trees h is_h w is_w;
  trees = λ n line script box choice w h some d within is_w is_h.
      fine_tree_covered c.history_laws.ensures n some line script box choice d within
      c.line_laws.ensures.trees h is_h w is_w;
  claims = λ n line script box choice claims h some d within own is_h.
      fine_claims_covered c.history_laws.ensures n some line script box choice d within
      c.line_laws.ensures.trees h is_h claims own;
}
