pub mod Grammar
pub mod Numbers
pub mod Text
pub mod ClaimLaws
pub mod NumberLaws
pub mod NameLaws
