-- What is read of bytes, with or without what closes them.
use Rattle.std.proofs.Common.{◌≡◌, ◌++◌, ℕ, Bool, true, List, [], Option, None, Some, Ok, ◌∙◌, ap, refl, sym}
use Rattle.std.proofs.lemmas.List.{append-nil}
use Rattle.std.specs.List.{list_all}
use Rattle.toml.specs.Data.{Members}
use Rattle.file_document.specs.Keys.{document_of, opened}
use Rattle.call_refused.specs.declared.places.steps.Step.{Step}
use Rattle.call_refused.specs.places.Entries.{BeginsDocument, has_entry, is_closing}

opened_some : (read : Option Members) (top : Members) → opened read ≡ Ok top → read ≡ Some top
opened_some None top e = absurd (let f = e in cc)
opened_some (Some ms) top e = (let f = e in cc)

-- a document of the bytes and of what closes them
pub closed_begins : (bytes closing text : List ℕ) (steps : List Step) (top : Members) (has : Bool)
    → list_all is_closing closing ≡ true → text ≡ bytes ++ closing
    → opened (document_of text) ≡ Ok top → has_entry top steps ≡ has → BeginsDocument bytes steps has
closed_begins bytes closing text steps top has closes is read entry = record {
  closing = closing;
  closes = closes;
  top = top;
  document = ap document_of (sym is) ∙ opened_some (document_of text) top read;
  entry = entry;
}

-- a document of the bytes alone
pub whole_begins : (bytes : List ℕ) (steps : List Step) (top : Members) (has : Bool)
    → opened (document_of bytes) ≡ Ok top → has_entry top steps ≡ has → BeginsDocument bytes steps has
whole_begins bytes steps top has read entry =
    closed_begins bytes [] bytes steps top has refl (sym (append-nil bytes)) read entry
