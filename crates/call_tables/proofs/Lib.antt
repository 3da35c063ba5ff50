pub mod RowLaws
pub mod WrittenLaws
pub mod NamedLaws
pub mod TextLaws
pub mod SlackLaws
