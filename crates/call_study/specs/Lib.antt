pub mod Answers
pub mod Clauses
pub mod Ends
pub mod Pictures
pub mod Reasons
pub mod Settled
pub mod Linted
