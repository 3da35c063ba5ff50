use Rattle.model_logic.proofs.BoxLaws.{claims_cover}
use Rattle.model_logic.proofs.laws.covered_claims_cover.Goals as goal

pub returns : goal.returns
returns c line script box choice claims h d within covered is_h =
    claims_cover c.history_laws.ensures line script box d choice within h is_h claims covered
