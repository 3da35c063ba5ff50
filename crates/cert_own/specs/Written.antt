-- Verdicts as they are written, and what keys and verdicts claim, passed on from the certifier.
pub use Rattle.cert_own.specs.Piece.{claims_of, written_as}
