pub mod GateLaws
pub mod ReasonLaws
