use Rattle.std.proofs.lemmas.Slice.Zip.{AllZip-long}
use Rattle.model_history.specs.ZipLaws.{zip_push}
use Rattle.cert_own.specs.Searched.{AreSearched}
use Rattle.cert_own.proofs.split_laws.what_is_searched_grows_by_parts.Goals as goal

pub returns-clause-results : goal.returns-clause-results
returns-clause-results c = λ line n scripts parts script results are is.
    zip_push (AreSearched line n) scripts parts script results are is

pub returns-clause-many : goal.returns-clause-many
returns-clause-many c = λ line n scripts parts are.
    AllZip-long (AreSearched line n) scripts parts are
