pub mod ListLaws
pub mod Lists
pub mod Obligations
pub mod KeyLists
pub mod VerdictLists
pub mod Accepted
pub mod Certificates
pub mod Supported
pub mod Splits
pub mod SameLines
pub mod OneSearch
pub mod OneOutcome
mod MadeLines
mod EachVerdict
mod EachSearch
mod EachOutcome
pub mod Truth
pub mod CertificateLines
pub mod Statuses
pub mod MatchLines
pub mod MatchStatuses
pub mod SizeLaws
