use Rattle.model_settle.proofs.SchemeSides.{reads_key_tree, reads_trip_tree}
use Rattle.model_settle.proofs.polarity_laws.schemes_are_one_railed.Goals as goal

pub returns : goal.returns
returns c = record {
  keys = λ line rail h k kn in_cone. reads_key_tree line c.line_laws.ensures rail k kn h;
  trips = λ line rail k h kn. reads_trip_tree line c.line_laws.ensures rail k kn h;
}
